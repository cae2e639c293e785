-- `line::lines::devices_of` meets its contract. The loop's invariant: of the first devices it is known which are up. Assumes nothing.
use mathlib.Core.Path.{ap, ◌∙◌}
use mathlib.Core.List.{List}
use Prim.Native.Nat.{◌<◌, ◌≤◌}
use native.Mathlib.Omega.{arith}
use lib.IntN.{ℤ, pos}
use lib.ListN.{length, get_or, length-set}
use Rattle.rules_routine.specs.Limits.{max_devices}
use Rattle.rules.proofs.AllDue.{list_entry}
use Rattle.hub.specs.View.{view}
use Rattle.line.proofs.Loops.{devices_are, devices-told, up_more}
use Rattle.line.proofs.lines.devices_of.Goals.{After-device_count-count}
use Rattle.line.proofs.lines.devices_of.Goals as goal

-- the tables have a place for each device
few : (c : After-device_count-count) → c.device_count-count.result ≤ max_devices
few c =
    omega (arith, c.requires.in_order.devices_fit, devices_are c.args.hub, c.device_count-count.ensures)

pub bounds-up-from : goal.bounds-up-from
bounds-up-from c = omega (arith, few (goal.at.bounds-up-from c).After-device_count-count, c.loop-device-test.true, c.from.ensures)

pub loop-device-preserved : goal.loop-device-preserved
loop-device-preserved c = let n = c.loop-device.device in
    let h : n < length c.loop-device.up = omega (arith, few (goal.at.loop-device-preserved c).After-device_count-count, c.loop-device-test.true, c.loop-device.invariant.0) in (
      length-set c.loop-device.up c.from.result c.is_up.result ∙ c.loop-device.invariant.0,
      rw c.from.ensures (up_more (view c.args.hub) c.loop-device.up n c.is_up.result h c.is_up.ensures c.loop-device.invariant.1),
    )

pub returns : goal.returns
returns c = let h = c.args.hub in (
  few (goal.at.returns c).After-device_count-count,
  devices-told h _ c.device_count-count.ensures
      (λ d k. c.loop-device.invariant.1 d (omega (arith, c.loop-device-test.false, c.device_count-count.ensures)))
      (λ d k.
      ap (λ (t : List ℤ). get_or t d (pos 0)) c.due_settings.ensures.leaves
      ∙ list_entry (view h) _ (omega (arith, c.requires.in_order.devices_fit, devices_are h)) d k),
)
