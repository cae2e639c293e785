-- `line::plot_hub_run` meets its contract: the program runs on no hub. Assumes nothing.
use Rattle.std.proofs.Common.{Option, None}
use mathlib.Core.Path.{◌≡◌, ap, ◌∙◌}
use mathlib.Core.List.{List}
use Prim.Native.Nat.{ℕ}
use lib.ListN.{length}
use mir.Syntax.{w64}
use mir.Val.{to_z, of_z}
use Rattle.rules.specs.State.{State}
use Rattle.line_rules.specs.Program.{run_from, program_text, length_or21, buffer_with}
use Rattle.line.proofs.LineLaws.{hub-none}
use borrow.Author.Rules.{rules}
use Rattle.line.proofs.plot_hub_run.Goals as goal

-- what a program prints that begins with no hub
from_none : (h : Option State) (input : List ℕ) → h ≡ None → (run_from h input).text ≡ program_text input
unfolding program_text
from_none h input e = ap (λ (z : Option State). (run_from z input).text) e

pub returns-clause-answers : goal.returns-clause-answers
returns-clause-answers c = let r = c.no_hub-hub.result in
    let held : to_z w64 (of_z w64 c.run.result) ≡ c.run.result = search rules in
    held ∙ c.run.ensures.answers
    ∙ ap (λ (text : List ℕ). length_or21 text (length c.args.out.now)) (from_none _ c.args.input.now (hub-none r c.no_hub-hub.ensures.1))

pub returns-clause-leaves : goal.returns-clause-leaves
returns-clause-leaves c = let r = c.no_hub-hub.result in
    c.run.ensures.leaves
    ∙ ap (λ (text : List ℕ). buffer_with text c.args.out.now) (from_none _ c.args.input.now (hub-none r c.no_hub-hub.ensures.1))
