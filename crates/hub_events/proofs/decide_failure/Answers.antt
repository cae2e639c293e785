-- `hub_events::decide_failure` meets its contract. Assumes nothing.
use native.Mathlib.Omega.{arith}
use borrow.Author.Tests.{not-true, not-false}
use mathlib.Core.Path.{sym, ◌∙◌}
use mathlib.Core.List.{[]}
use Rattle.rules_routine.specs.declared.refusals.Refusal.TheVariants.{EventDevice, FailureOfDown}
use Rattle.hub_state.specs.View.{state_of}
use Rattle.hub_abort.proofs.PutBackLaws.{refused_as}
use Rattle.hub_events.proofs.EventLaws.{failure_14, failure_15, failure_passes, failure-decides}
use Rattle.hub_events.proofs.decide_failure.Goals as goal

pub returns-then-state-device : goal.returns-then-state-device
unfolding state_of
returns-then-state-device c = let a = c.args in
    refused_as a.state.rows [] EventDevice c.refused.result _ c.refused.ensures
    (failure_14 (state_of a.state.rows) a.device c.if-state-device.true)

pub returns-then-not-is_up : goal.returns-then-not-is_up
unfolding state_of
returns-then-not-is_up c = let a = c.args in
    refused_as a.state.rows [] FailureOfDown c.refused-then-not-is_up.result _ c.refused-then-not-is_up.ensures
    (failure_15 (state_of a.state.rows) a.device c.if-state-device.false
    (sym c.is_up.ensures ∙ not-true c.is_up.result c.if-not-is_up.true-raw))

pub returns : goal.returns
unfolding state_of
returns c = let a = c.args in
    failure-decides a.state.rows a.device c.halfway-half.result c.halfway-half.ensures _
    (omega (arith, c.args.state.ok.devices_fit, c.if-state-device.false))
    (failure_passes (state_of a.state.rows) a.device c.if-state-device.false
    (sym c.is_up.ensures ∙ not-false c.is_up.result c.if-not-is_up.false-raw))
