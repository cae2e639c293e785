-- `line::run` meets its contract: a length that is written fits a signed number. Assumes nothing.
use Rattle.std.proofs.Common.{Option}
use mathlib.Core.Path.{subst}
use Prim.Native.Nat.{ℕ, ◌<◌, ◌^◌}
use native.Mathlib.Omega.{arith}
use lib.IntN.{pos}
use lib.ListN.{length}
use mir.Syntax.{w64}
use mir.Facts.{to_z_pos}
use Rattle.line_rules.specs.Program.{run_from}
use Rattle.line.specs.View.{hub_in}
use Rattle.line.specs.Contract.{Wrote, written_as}
use Rattle.line.proofs.Loops.{written_fits}
use borrow.Author.Rules.{rules}
use Rattle.line.proofs.run.Goals.{In-Some}
use Rattle.line.proofs.run.Goals as goal

wrote : (c : In-Some) →
    Wrote (run_from (hub_in c.args.hub.now) c.args.input.now) c.args.hub.now c.run_last-written.result.hub c.args.out.now
    c.run_last-written.new.out (pos c.in-Some.length)
wrote c =
    subst
    (λ (o : Option ℕ). Wrote (run_from (hub_in c.args.hub.now) c.args.input.now) c.args.hub.now c.run_last-written.result.hub c.args.out.now
    c.run_last-written.new.out (written_as o))
    c.in-Some.is c.run_last-written.ensures.wrote

small : (c : In-Some) → c.in-Some.length < 2 ^ 63
small c =
    let room : length c.args.out.now < 2 ^ 63 = search rules in
    omega (arith, written_fits (wrote c))

pub overflow_cast-result : goal.overflow_cast-result
overflow_cast-result c = let h = small (goal.at.overflow_cast-result c).In-Some in search rules

pub returns-in-Some : goal.returns-in-Some
returns-in-Some c = let here = (goal.at.returns-in-Some c).In-Some in rw (to_z_pos w64 (small here)) (wrote here)
