-- `hub_events::decide_restart` meets its contract. Assumes nothing.
use native.Mathlib.Omega.{arith}
use borrow.Author.Tests.{not-true, not-false}
use mathlib.Core.Path.{sym, ap, ◌∙◌}
use mathlib.Core.List.{[]}
use lib.IntN.{ℤ}
use mir.Facts.{to_z-of_z}
use Rattle.rules_routine.specs.Range.{in_range}
use Rattle.rules.specs.Settle.{settling}
use Rattle.rules.specs.Events.{restart_result}
use Rattle.rules_routine.specs.declared.refusals.Refusal.TheVariants.{EventDevice, RestartOfUp, RestartSetting}
use Rattle.hub_state.specs.View.{state_of}
use Rattle.hub_abort.proofs.PutBackLaws.{refused_as}
use Rattle.hub_events.proofs.EventLaws.{restart_14, restart_16, restart_17, restart_passes, restart-decides, restart_entry}
use Rattle.hub_events.proofs.decide_restart.Goals as goal

pub returns-then-state-device : goal.returns-then-state-device
unfolding state_of
returns-then-state-device c = let a = c.args in
    refused_as a.state.rows [] EventDevice c.refused.result _ c.refused.ensures
    (restart_14 (state_of a.state.rows) a.device a.setting c.if-state-device.true)

pub returns-then-is_up : goal.returns-then-is_up
unfolding state_of
returns-then-is_up c = let a = c.args in
    refused_as a.state.rows [] RestartOfUp c.refused-then-is_up.result _ c.refused-then-is_up.ensures
    (restart_16 (state_of a.state.rows) a.device a.setting c.if-state-device.false (sym c.is_up.ensures ∙ c.if-is_up.true))

pub returns-then-not-in_range : goal.returns-then-not-in_range
unfolding state_of
returns-then-not-in_range c = let a = c.args in
    let z = to_z-of_z c.ranges.setting in
    refused_as a.state.rows [] RestartSetting c.refused-then-not-in_range.result _ c.refused-then-not-in_range.ensures
    (restart_17 (state_of a.state.rows) a.device a.setting c.if-state-device.false (sym c.is_up.ensures ∙ c.if-is_up.false)
    (ap in_range (sym z) ∙ sym c.in_range.ensures ∙ not-true c.in_range.result c.if-not-in_range.true-raw))

pub returns : goal.returns
unfolding state_of
returns c = let a = c.args in
    let z = to_z-of_z c.ranges.setting in
    let i = sym c.in_range.ensures ∙ not-false c.in_range.result c.if-not-in_range.false-raw in
    restart-decides a.state.rows a.device c.halfway-half.result c.halfway-half.ensures _ _
    (omega (arith, c.args.state.ok.devices_fit, c.if-state-device.false))
    (restart_entry _ i)
    (ap (λ (v : ℤ). settling (restart_result (state_of a.state.rows) a.device v)) z
    ∙ restart_passes (state_of a.state.rows) a.device a.setting c.if-state-device.false (sym c.is_up.ensures ∙ c.if-is_up.false)
    (ap in_range (sym z) ∙ i))
