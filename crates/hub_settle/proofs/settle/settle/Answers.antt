-- `hub_settle::settle::settle` meets its contract. The loop's invariant: what is settled so far settles to what the whole settles
-- to. Assumes nothing.
use Prim.Native.Nat.{◌≤◌}
use native.Mathlib.Omega.{arith}
use lib.ListN.{get_or}
use Rattle.rules_routine.specs.Limits.{max_commands}
use Rattle.hub_sequence.specs.Links.{Stands}
use Rattle.hub_state.specs.declared.HubState.{HubState}
use Rattle.hub_settle.proofs.StateLaws.{tables_in}
use Rattle.hub_settle.proofs.SettleLaws.{answered_fit, done_fit, stands-first, settling-none, settling-more, settling-runs}
use Rattle.hub_settle.proofs.SettleLaws.{settling_empty}
use Rattle.hub_settle.proofs.settle.settle.Goals.{At-loop-i, In-loop-i, else-loop-i-test, then-loop-i-test+then-not-committed-i}
use Rattle.hub_settle.proofs.settle.settle.Goals as goal

-- the state as the loop has it
abbrev now : At-loop-i → HubState
now c = tables_in c.args.state.rows c.loop-i.links c.args.state.rows.restarts c.loop-i.settled c.args.state.rows.up c.loop-i.mark

stands : (c : In-loop-i) → Stands c.loop-i.links c.loop-i.i
stands c =
    stands-first (tables_in c.args.state.rows c.loop-i.links c.args.state.rows.restarts c.loop-i.settled c.args.state.rows.up c.loop-i.mark)
    c.loop-i.i
    c.loop-i.invariant.valid c.loop-i.invariant.first_is c.loop-i-test.true

-- how many of the first one's commands are answered
few : (c : In-loop-i) → get_or c.args.state.rows.answered c.loop-i.i 0 ≤ max_commands
few c =
    answered_fit (tables_in c.args.state.rows c.loop-i.links c.args.state.rows.restarts c.loop-i.settled c.args.state.rows.up c.loop-i.mark)
    c.loop-i.i
    c.loop-i.invariant.valid (stands c)

pub loop-i-init : goal.loop-i-init
loop-i-init c = settling-none c.args.state.rows c.args.state.ok

pub after_done-done-requires : goal.after_done-done-requires
after_done-done-requires c = let h = few (goal.at.after_done-done-requires c).In-loop-i in
    let i = c.loop-i-test.true in (
      omega arith,
      omega arith,
      done_fit (now (goal.at.after_done-done-requires c).At-loop-i) c.loop-i.i c.loop-i.invariant.valid
          (stands (goal.at.after_done-done-requires c).In-loop-i),
    )

pub moved_marks-moved-requires : goal.moved_marks-moved-requires
moved_marks-moved-requires c =
    (c.loop-i.invariant.valid.slots_ok c.loop-i.i (stands (goal.at.moved_marks-moved-requires c).In-loop-i)).has-id

pub leave-left-requires : goal.leave-left-requires
leave-left-requires c = record { valid = c.loop-i.invariant.valid.links_ok; stands = stands (goal.at.leave-left-requires c).In-loop-i }

pub loop-i-preserved : goal.loop-i-preserved
loop-i-preserved c =
    settling-more c.args.state.rows
    (now (goal.at.loop-i-preserved c).At-loop-i) c.loop-i.i c.loop-i.invariant c.after_done-done.result c.after_restarts-after.result
    c.moved_marks-moved.result
    c.leave-left.result c.loop-i-test.true (c.if-not-committed-i.false) c.after_done-done.ensures c.after_restarts-after.ensures
    c.moved_marks-moved.ensures
    c.leave-left.ensures

pub returns : goal.returns
returns c = elim c.loop-i-test.branch [
  | else-loop-i-test w ↦ settling_empty c.args.state.rows
      (now (goal.at.returns c).At-loop-i) c.loop-i.i c.loop-i.invariant w.loop-i-test.false
  | then-loop-i-test+then-not-committed-i w ↦ settling-runs c.args.state.rows (now (goal.at.returns c).At-loop-i) c.loop-i.i c.loop-i.invariant
      w.loop-i-test.true w.if-not-committed-i.true
]
