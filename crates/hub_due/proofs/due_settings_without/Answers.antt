-- `hub_due::due_settings_without` meets its contract. The loop's invariant: the slots that are left leave each device as all slots do.
-- Assumes nothing.
use native.Mathlib.Omega.{arith}
use mathlib.Core.Path.{◌∙◌, fun_ext}
use Prim.Native.Nat.{◌+◌, ◌*◌, ◌≤◌}
use lib.ListN.{get_or}
use Rattle.rules_routine.specs.Limits.{max_commands, max_sequence}
use Rattle.hub_sequence.specs.Links.{Stands}
use Rattle.hub_sequence.proofs.ReadLaws.{walks-behind}
use Rattle.hub_sequence.proofs.WalkLaws.{walks_next, walks_less}
use Rattle.hub_due.proofs.Slots.{within_self, walk-within, walk_here, answered_end, answered-devices, due_yet}
use Rattle.hub_due.proofs.Slots.{due-more}
use Rattle.hub_due.proofs.Slots.{due_left_out, due_end, due_but}
use Rattle.hub_due.proofs.due_settings_without.Goals.{then-i-left_out, else-i-left_out}
use Rattle.hub_due.proofs.due_settings_without.Goals.{In-loop-i}
use Rattle.hub_due.proofs.due_settings_without.Goals as goal

-- the slot that the walk has come to is taken
stands : (c : In-loop-i) →
    Stands c.args.state.rows.links
    c.loop-i.i
stands c = let v = c.loop-i.invariant in walk_here v.0 v.1 c.loop-i-test.true

-- where its answered commands end
ends : (c : In-loop-i) →
    c.loop-i.i * max_commands + get_or
    c.args.state.rows.answered
    c.loop-i.i 0
    ≤ max_sequence * max_commands
ends c = answered_end c.args.state.rows _ c.args.state.ok (stands c)

pub loop-i-init : goal.loop-i-init
loop-i-init c = (walks-behind _ c.args.state.ok.links_ok, within_self _, due_yet _ _ _ _ _ _ _ _ _)

pub after_done-done-requires : goal.after_done-done-requires
after_done-done-requires c = (
  omega arith,
  ends (goal.at.after_done-done-requires c).In-loop-i,
  answered-devices c.args.state.rows _ c.args.state.ok
      (stands (goal.at.after_done-done-requires c).In-loop-i),
)

pub loop-i-smaller : goal.loop-i-smaller
loop-i-smaller c = walks_less c.loop-i.invariant.0 c.loop-i-test.true

pub loop-i-preserved : goal.loop-i-preserved
loop-i-preserved c = let h = c.loop-i-test.true in
    let v = c.loop-i.invariant in
    let e = c.after_restarts-after.ensures in (
      (walks_next v.0 h).1,
      walk-within v.0 v.1 h,
      elim c.if-i-left_out.branch [
        | then-i-left_out w ↦ due-more v.0 v.2 h w.if-i-left_out.true w.table-is w.after_done-done.ensures e
        | else-i-left_out w ↦ due_left_out v.0 v.2 h w.if-i-left_out.false w.table-is e
      ],
    )

pub returns : goal.returns
returns c = let v = c.loop-i.invariant in
    fun_ext (λ d. due_end v.0 v.2 c.loop-i-test.false d ∙ due_but _ c.args.state.ok d _ _ c.unwrap_or-left_out.ensures)
