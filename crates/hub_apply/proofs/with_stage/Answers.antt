-- `hub_apply::with_stage` meets its contract. Assumes nothing.
use borrow.Author.Rules.{rules}
use Prim.Native.Nat.{◌*◌, ◌<◌}
use native.Mathlib.Omega.{arith}
use mathlib.Core.Path.{◌≡◌}
use lib.ListN.{length}
use mir.Syntax.{w16}
use mir.Val.{to_z, of_z}
use Rattle.rules_routine.specs.Limits.{max_devices, max_commands, max_sequence}
use Rattle.rules_routine.proofs.RoutineLaws.{length_mapped}
use Rattle.hub_apply.proofs.StageLaws.{next_open, no_more, AnsweredNow, stage_applied, begins_marks, same_marks}
use Rattle.std.specs.Prelude.{if◌then◌else◌}
use Rattle.rules.specs.Tables.{put}
use Rattle.hub_state.specs.View.{marks_of}
use Rattle.hub_apply.proofs.with_stage.Goals.{then-change-ne-IN_FLIGHT, else-change-ne-IN_FLIGHT, then-change, else-change, Joined-change}
use Rattle.hub_apply.proofs.with_stage.Goals.{Joined-change-ne-IN_FLIGHT, Start}
use Rattle.hub_apply.proofs.with_stage.Goals as goal

-- the lengths of the rows
long : (c : Start) → (length c.args.state.rows.answered ≡ max_sequence) × (length c.args.state.rows.stage ≡ max_sequence * max_commands)
    × (length c.args.state.rows.due_then ≡ max_sequence)
long c = (search (rules, length_mapped), search (rules, length_mapped), search (rules, length_mapped))

-- the last row's stands too deep for the search
long-mark : (c : Start) → length c.args.state.rows.mark ≡ max_devices
long-mark c =
    search (rules, length_mapped)

-- how many are answered, where the two branches meet
come : (c : Joined-change-ne-IN_FLIGHT) → length c.args.state.rows.answered ≡ max_sequence →
    length c.args.state.rows.stage ≡ max_sequence * max_commands →
    AnsweredNow _ _ c.args.state.ok c.requires c.if-change-ne-IN_FLIGHT.answered
come c n m = elim c.if-change-ne-IN_FLIGHT.branch [
  | then-change-ne-IN_FLIGHT w ↦
      rw w.answered-is (next_open _ _ c.args.state.ok c.requires w.if-change-ne-IN_FLIGHT.true n m _ w.first_unanswered-next.ensures)
  | else-change-ne-IN_FLIGHT w ↦ rw w.answered-is (no_more _ _ c.args.state.ok c.requires w.if-change-ne-IN_FLIGHT.false)
]

-- the marks, where the two branches meet
marked : (c : Joined-change) → length c.args.state.rows.mark ≡ max_devices → let g = c.args.change in
    marks_of c.if-change.mark ≡ (if g.begins then put (marks_of c.args.state.rows.mark) g.device g.id else marks_of c.args.state.rows.mark)
marked c m = let h = c.args.state.rows in
    let g = c.args.change in
    let i : g.device < length h.mark = omega (arith, m, c.requires.device_fits) in
    elim c.if-change.branch [
      | then-change w ↦ rw w.mark-is (begins_marks h.mark g.device g.id g.begins w.if-change.true i)
      | else-change w ↦ rw w.mark-is (same_marks h.mark g.device g.id g.begins w.if-change.false)
    ]

pub invariant_of-result : goal.invariant_of-result
invariant_of-result c = let h = c.args.state.rows in
    let g = c.args.change in
    let l = long (goal.at.invariant_of-result c).Start in
    let e : to_z w16 (of_z w16 g.due_then) ≡ g.due_then = search rules in
    record {
      ok =
          rw e (stage_applied h g c.args.state.ok c.requires _ _
          (come (goal.at.invariant_of-result c).Joined-change-ne-IN_FLIGHT l.0 l.1) l.1 l.2
          (marked (goal.at.invariant_of-result c).Joined-change (long-mark (goal.at.invariant_of-result c).Start))).0;
    }

pub returns : goal.returns
returns c = let h = c.args.state.rows in
    let g = c.args.change in
    let l = long (goal.at.returns c).Start in
    let e : to_z w16 (of_z w16 g.due_then) ≡ g.due_then = search rules in
    rw e
    (stage_applied h g c.args.state.ok c.requires _ _ (come (goal.at.returns c).Joined-change-ne-IN_FLIGHT l.0 l.1) l.1 l.2
    (marked (goal.at.returns c).Joined-change (long-mark (goal.at.returns c).Start)))
