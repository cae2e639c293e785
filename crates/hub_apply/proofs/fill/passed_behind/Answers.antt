-- `hub_apply::fill::passed_behind` meets its contract: with each round one slot more of the walk is passed. Assumes nothing.
use borrow.Author.Rules.{rules}
use native.Mathlib.Omega.{arith}
use mathlib.Core.Path.{◌≡◌}
use lib.ListN.{length, length-set}
use Rattle.rules_routine.specs.Limits.{max_sequence}
use Rattle.hub_sequence.proofs.WalkLaws.{walks_next, walks_less}
use Rattle.hub_apply.proofs.FillLaws.{room_left, passes_running, passes_committed, passes_all}
use Rattle.hub_apply.proofs.fill.passed_behind.Goals.{then-not-committed-i, else-not-committed-i}
use Rattle.hub_apply.proofs.fill.passed_behind.Goals as goal

pub overflow_add-passed : goal.overflow_add-passed
overflow_add-passed c = let v = c.loop-i.invariant in
    let r = room_left _ _ _ _ c.requires _ _ v.1 c.loop-i-test.true v.2 c.if-not-committed-i.true in
    omega arith

pub loop-i-smaller : goal.loop-i-smaller
loop-i-smaller c = walks_less c.loop-i.invariant.1 c.loop-i-test.true

pub loop-i-preserved : goal.loop-i-preserved
loop-i-preserved c = let v = c.loop-i.invariant in
    let h = c.loop-i-test.true in (
      elim c.if-not-committed-i.branch
          [ then-not-committed-i w ↦ rw w.passed-is (simp length-set v.0) | else-not-committed-i w ↦ rw w.passed-is v.0 ],
      (walks_next v.1 h).1,
      elim c.if-not-committed-i.branch [
        | then-not-committed-i w ↦ rw w.passed-is (passes_running _ _ _ _ _ v.1 h _ v.2 w.if-not-committed-i.true v.0)
        | else-not-committed-i w ↦ rw w.passed-is (passes_committed _ _ _ _ _ v.1 h _ v.2 w.if-not-committed-i.false)
      ],
    )

pub returns : goal.returns
returns c = let n : length c.args.row ≡ max_sequence = search rules in
    passes_all _ _ _ _ c.requires _ _ n c.loop-i.invariant.1 c.loop-i-test.false c.loop-i.invariant.2
