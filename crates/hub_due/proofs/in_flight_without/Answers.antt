-- `hub_due::in_flight_without` meets its contract. The loop's invariant: with the slots that are left, the row has the devices that all
-- slots give. Assumes nothing.
use mathlib.Core.Path.{◌∙◌, fun_ext}
use Prim.Native.Nat.{◌+◌, ◌*◌, ◌<◌}
use lib.ListN.{get_or}
use Rattle.rules_routine.specs.Limits.{max_devices, max_commands, max_sequence}
use Rattle.hub_sequence.specs.Links.{Stands}
use Rattle.hub_sequence.proofs.ReadLaws.{walks-behind}
use Rattle.hub_sequence.proofs.WalkLaws.{walks_next, walks_less}
use Rattle.hub_state.proofs.Members.{place-within, device-within}
use Rattle.hub_due.proofs.Slots.{within_self, walk-within, walk_here, flights_along, flights_yet, flights_end}
use Rattle.hub_due.proofs.Slots.{flights_left_out, flights_past, flights_to_do, flights_put}
use Rattle.hub_due.proofs.in_flight_without.Goals.{then-i-but+then-answered-i+then-stage-k-eq-IN_FLIGHT}
use Rattle.hub_due.proofs.in_flight_without.Goals.{then-i-but+then-answered-i+else-stage-k-eq-IN_FLIGHT, else-i-but}
use Rattle.hub_due.proofs.in_flight_without.Goals.{else-i-but-via-then-i-but+else-answered-i, else-i-but-via-else-i-but}
use Rattle.hub_due.proofs.in_flight_without.Goals.{In-loop-i}
use Rattle.hub_due.proofs.in_flight_without.Goals as goal

-- the slot that the walk has come to is taken
stands : (c : In-loop-i) →
    Stands c.args.state.rows.links c.loop-i.i
stands c = let v = c.loop-i.invariant in walk_here v.0 v.1 c.loop-i-test.true

-- the place of its first command that is not answered, and that command's device
place : (c : In-loop-i) → get_or c.args.state.rows.answered c.loop-i.i 0 < get_or c.args.state.rows.counts c.loop-i.i 0 →
    c.loop-i.i * max_commands
    + get_or c.args.state.rows.answered
    c.loop-i.i 0
    < max_sequence * max_commands
place c t = place-within c.args.state.rows _ c.args.state.ok (stands c) _ t

device : (c : In-loop-i) → get_or c.args.state.rows.answered c.loop-i.i 0 < get_or c.args.state.rows.counts c.loop-i.i 0 →
    get_or c.args.state.rows.device
    (c.loop-i.i * max_commands
    + get_or c.args.state.rows.answered
    c.loop-i.i 0) 0
    < max_devices
device c t = device-within c.args.state.rows _ c.args.state.ok (stands c) _ t

pub loop-i-init : goal.loop-i-init
loop-i-init c = (walks-behind _ c.args.state.ok.links_ok, within_self _, flights_yet _ _ _ _ _ _ _)

pub bounds-stage-k : goal.bounds-stage-k
bounds-stage-k c = place (goal.at.bounds-stage-k c).In-loop-i c.if-answered-i.true

pub bounds-busy-d : goal.bounds-busy-d
bounds-busy-d c = device (goal.at.bounds-busy-d c).In-loop-i c.if-answered-i.true

pub loop-i-smaller : goal.loop-i-smaller
loop-i-smaller c = walks_less c.loop-i.invariant.0 c.loop-i-test.true

pub loop-i-preserved : goal.loop-i-preserved
loop-i-preserved c = let h = c.loop-i-test.true in
    let v = c.loop-i.invariant in
    let a = (walks_next v.0 h).1 in
    let b = walk-within v.0 v.1 h in
    let l = (goal.at.loop-i-preserved c).In-loop-i in
    elim c.if-i-but.branch [
      | then-i-but+then-answered-i+then-stage-k-eq-IN_FLIGHT w ↦ (
        a,
        b,
        flights_put v.0 v.2 h w.busy-is w.if-i-but.true w.if-answered-i.true w.if-stage-k-eq-IN_FLIGHT.true
            (device l w.if-answered-i.true),
      )
      | then-i-but+then-answered-i+else-stage-k-eq-IN_FLIGHT w ↦
          (a, b, flights_to_do v.0 v.2 h w.busy-is w.if-stage-k-eq-IN_FLIGHT.false)
      | else-i-but u ↦ elim u.else-i-but.branch [
        | else-i-but-via-then-i-but+else-answered-i w ↦ (a, b, flights_past v.0 v.2 h u.busy-is w.if-answered-i.false)
        | else-i-but-via-else-i-but w ↦ (a, b, flights_left_out v.0 v.2 h u.busy-is w.if-i-but.false)
      ]
    ]

pub returns : goal.returns
returns c = let v = c.loop-i.invariant in
    fun_ext (λ d. flights_end v.0 v.2 c.loop-i-test.false d ∙ flights_along _ c.args.state.ok d _)
