-- `hub_due::due_on` meets its contract. The loop's invariant: the slots that are left, from the last of them on, leave the device as all
-- slots do. Assumes nothing.
use Rattle.std.proofs.Common.{None}
use borrow.Author.Rules.{rules}
use native.Mathlib.Omega.{arith}
use mathlib.Core.Path.{◌≡◌, ◌∙◌}
use Prim.Native.Nat.{◌+◌, ◌*◌, ◌-◌, ◌≤◌}
use lib.IntN.{pos}
use lib.ListN.{length, get_or}
use mir.Val.{to_z, of_z}
use mir.Syntax.{w16}
use Rattle.rules_routine.specs.Limits.{max_devices, max_commands, max_sequence}
use Rattle.rules_routine.proofs.RoutineLaws.{length_mapped}
use Rattle.rules.specs.Due.{after_members}
use Rattle.hub_sequence.specs.Links.{back_of, Stands}
use Rattle.hub_sequence.proofs.ReadLaws.{walks-ahead}
use Rattle.hub_sequence.proofs.WalkLaws.{walks_next, walks_less}
use Rattle.hub_state.specs.View.{restarts_at, members_of}
use Rattle.hub_state.proofs.Rows.{restarts-past}
use Rattle.hub_due.proofs.Restarts.{restart-there, restart_absent}
use Rattle.hub_due.proofs.Slots.{within_self, walk-within, walk_here, back-stands, answered_end, back_slots, back_yet}
use Rattle.hub_due.proofs.Slots.{back-restart, back_found, back-past, back_done, due-lent}
use Rattle.hub_due.proofs.due_on.Goals.{then-d-lt-MAX_DEVICES+else-restart-ne-NO_RESTART, else-d-lt-MAX_DEVICES}
use Rattle.hub_due.proofs.due_on.Goals.{In-loop-i, Joined-d-lt-MAX_DEVICES, Start}
use Rattle.hub_due.proofs.due_on.Goals as goal

-- the row of restarts
long : (c : Start) → length c.args.state.rows.restarts ≡ max_sequence * max_devices
long c = search (rules, length_mapped)

-- the slot that the walk has come to is taken
stands : (c : In-loop-i) →
    Stands c.args.state.rows.links c.loop-i.i
stands c = let v = c.loop-i.invariant in
    back-stands c.args.state.rows c.args.state.ok _ (walk_here v.0 v.1 c.loop-i-test.true)

-- where its answered commands end
ends : (c : In-loop-i) →
    c.loop-i.i * max_commands + get_or c.args.state.rows.answered
    c.loop-i.i 0 ≤ max_sequence * max_commands
ends c = answered_end c.args.state.rows _ c.args.state.ok (stands c)

-- all slots together
whole : (c : Start) →
    back_slots c.args.device.now c.args.stage.now c.args.setting.now c.args.state.rows.restarts c.args.state.rows.answered
    c.args.wanted
    (back_of c.args.state.rows.links) (to_z w16 (of_z w16 c.args.settled))
    ≡ after_members c.args.wanted (members_of c.args.state.rows) c.args.settled
whole c = due-lent c.args.state.rows c.args.state.ok _ _ _ _ c.requires.0 c.requires.1 c.requires.2 _ _ (search rules)

-- the slot has no restart of the device
absent : (c : Joined-d-lt-MAX_DEVICES) → length c.args.state.rows.restarts ≡ max_sequence * max_devices →
    restarts_at c.args.state.rows.restarts
    c.loop-i.i c.args.wanted ≡ None
absent c fits = let r = get_or c.args.state.rows.restarts (c.loop-i.i * max_devices + c.args.wanted) (pos 0) in
    elim c.if-d-lt-MAX_DEVICES.branch [
      | then-d-lt-MAX_DEVICES+else-restart-ne-NO_RESTART w ↦
          let b : to_z w16 (of_z w16 r) ≡ r = search rules in
          restart_absent _ _ _ fits c.loop-i-test.true w.if-d-lt-MAX_DEVICES.true b w.if-restart-ne-NO_RESTART.false
      | else-d-lt-MAX_DEVICES w ↦ restarts-past _ _ _ w.if-d-lt-MAX_DEVICES.false
    ]

pub loop-i-init : goal.loop-i-init
loop-i-init c = (walks-ahead _ c.args.state.ok.links_ok, within_self _, back_yet _ _ _ _ _ _ _ _ _)

pub returns-then-restart-ne-NO_RESTART : goal.returns-then-restart-ne-NO_RESTART
returns-then-restart-ne-NO_RESTART c = let v = c.loop-i.invariant in
    let r = get_or c.args.state.rows.restarts (c.loop-i.i * max_devices + c.args.wanted) (pos 0) in
    let b : to_z w16 (of_z w16 r) ≡ r = search rules in
    b ∙ back-restart v.0 v.2 c.loop-i-test.true r
    (restart-there _ _ _
    (long (goal.at.returns-then-restart-ne-NO_RESTART c).Start) c.loop-i-test.true c.if-d-lt-MAX_DEVICES.true
    c.if-restart-ne-NO_RESTART.true) ∙ whole (goal.at.returns-then-restart-ne-NO_RESTART c).Start

pub behind_last_done-k-requires : goal.behind_last_done-k-requires
behind_last_done-k-requires c = (omega arith, ends (goal.at.behind_last_done-k-requires c).In-loop-i)

pub bounds-setting-k : goal.bounds-setting-k
bounds-setting-k c = let h = ends (goal.at.bounds-setting-k c).In-loop-i in omega (arith, c.behind_last_done-k.ensures.within)

pub returns-then-from-k : goal.returns-then-from-k
returns-then-from-k c = let v = c.loop-i.invariant in
    let r = get_or c.args.setting.now (c.behind_last_done-k.result - 1) (pos 0) in
    let b : to_z w16 (of_z w16 r) ≡ r = search rules in
    b ∙ back_found v.0 v.2 c.loop-i-test.true
    (absent (goal.at.returns-then-from-k c).Joined-d-lt-MAX_DEVICES (long (goal.at.returns-then-from-k c).Start))
    c.behind_last_done-k.ensures c.if-from-k.true ∙ whole (goal.at.returns-then-from-k c).Start

pub loop-i-smaller : goal.loop-i-smaller
loop-i-smaller c = walks_less c.loop-i.invariant.0 c.loop-i-test.true

pub loop-i-preserved : goal.loop-i-preserved
loop-i-preserved c = let h = c.loop-i-test.true in
    let v = c.loop-i.invariant in (
      (walks_next v.0 h).1,
      walk-within v.0 v.1 h,
      back-past v.0 v.2 h
          (absent (goal.at.loop-i-preserved c).Joined-d-lt-MAX_DEVICES (long (goal.at.loop-i-preserved c).Start))
          c.behind_last_done-k.ensures
          c.if-from-k.false,
    )

pub returns : goal.returns
returns c = let v = c.loop-i.invariant in
    back_done v.0 v.2 c.loop-i-test.false ∙ whole (goal.at.returns c).Start
