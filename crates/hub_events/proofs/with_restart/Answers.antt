-- `hub_events::with_restart` meets its contract. Assumes nothing.
use mathlib.Core.Path.{sym, ap, subst, ◌∙◌}
use lib.IntN.{ℤ}
use lib.ListN.{get_or}
use mir.Facts.{to_z-of_z}
use Rattle.rules.specs.Attach.{one_restart, attach}
use Rattle.hub_state.specs.View.{state_of}
use Rattle.hub_state.specs.declared.valid.ValidState.{ValidState}
use Rattle.hub_events.proofs.EventLaws.{Stops, one-leaves, one_skips, none_stops, restart-leaves, restart-gives}
use Rattle.hub_events.proofs.with_restart.Goals.{Joined-slot, in-Some+then-must_left, in-Some+else-must_left, in_default}
use Rattle.hub_events.proofs.with_restart.Goals as goal

-- the hub after the abort or the skips, if there are any
stops : (c : Joined-slot) → let a = c.args in Stops a.state.rows a.slot a.device c.match-slot.next.rows
stops c =
    let a = c.args in
    let P : ValidState → Type 0 = λ s. Stops a.state.rows a.slot a.device s.rows in
    elim c.match-slot.branch [
      | in-Some+then-must_left w ↦ subst P (sym w.next-is) (one-leaves a.state.rows a.slot a.device _ w.in-Some.is
          w.must_left.result w.must_left.ensures c.args.state.ok c.requires.2 w.if-must_left.true w.leave-next.result.rows
          w.leave-next.ensures)
      | in-Some+else-must_left w ↦ subst P (sym w.next-is) (one_skips a.state.rows a.slot a.device _ w.in-Some.is
          w.must_left.result w.must_left.ensures c.args.state.ok w.if-must_left.false w.with_skips-next.result.rows
          w.with_skips-next.ensures)
      | in_default w ↦ subst P (sym w.next-is) (none_stops a.state.rows a.slot a.device c.args.state.ok w.in_default.is)
    ]

pub returns : goal.returns
returns c = let a = c.args in
    let g = c.match-slot.next.rows in (
      c.with_up.ensures.0,
      restart-gives a.state.rows g c.attach-with_it.result.rows c.with_up.result.rows a.slot a.device a.setting
          (stops (goal.at.returns c).Joined-slot)
          (c.attach-with_it.ensures.1
          ∙ ap (λ (v : ℤ). attach (get_or g.mark a.device 0) (one_restart a.device v) (state_of g)) (to_z-of_z c.ranges.setting))
          c.with_up.ensures.1,
      restart-leaves a.state.rows g c.attach-with_it.result.rows c.with_up.result.rows (stops (goal.at.returns c).Joined-slot).2
          (stops (goal.at.returns c).Joined-slot).0 c.attach-with_it.ensures.2
          c.attach-with_it.ensures.0 c.with_up.ensures.2 c.with_up.ensures.3,
    )
