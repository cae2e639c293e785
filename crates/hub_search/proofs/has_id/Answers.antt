-- `hub_search::has_id` meets its contract. The loop: what is left gives what the whole gives. Assumes nothing.
use Prim.Native.Nat.{◌-◌}
use native.Mathlib.Omega.{arith}
use borrow.Author.Tests.{ne_eqb}
use mathlib.Core.Path.{◌≡◌, ◌∙◌}
use Rattle.hub_search.proofs.Commands.{at_on, on-at}
use Rattle.hub_search.proofs.has_id.Goals as goal

pub loop-j-init : goal.loop-j-init
loop-j-init c = let e : c.args.count - 0 ≡ c.args.count = omega arith in
    rw e (on-at c.args.ids.now c.args.id 0 c.args.count)

pub loop-j-preserved : goal.loop-j-preserved
loop-j-preserved c = at_on _ _ _ c.loop-j-test.true (ne_eqb _ _ c.if-ids-j.false) ∙ c.loop-j.invariant
