-- `hub_search::any_must` meets its contract. The loop: what is left gives what the whole gives. Assumes nothing.
use Prim.Native.Nat.{◌-◌}
use native.Mathlib.Omega.{arith}
use mathlib.Core.Path.{sym, ◌∙◌}
use Rattle.hub_search.proofs.Commands.{at_hit, at_on, must-at, must-here, must_other, must-answered}
use Rattle.hub_search.proofs.Commands.{must-not}
use Rattle.hub_search.proofs.any_must.Goals.{else-device-k-via-else-device-k, else-device-k-via-then-device-k+else-stage-k-le-IN_FLIGHT, else-device-k-via-then-device-k+then-stage-k-le-IN_FLIGHT+else-counting_tag-eq-MUST}
use Rattle.hub_search.proofs.any_must.Goals as goal

pub loop-k-init : goal.loop-k-init
loop-k-init c = let a = c.args in
    must-at a.device.now a.tag.now a.stage.now a.end a.wanted a.from (a.end - a.from) (omega (arith, c.requires.0))

pub returns-then-counting_tag-eq-MUST : goal.returns-then-counting_tag-eq-MUST
returns-then-counting_tag-eq-MUST c = sym
    (at_hit _ _ _ c.loop-k-test.true
    (must-here _ _ _ _ _ _ c.if-device-k.true c.if-stage-k-le-IN_FLIGHT.true c.counting_tag.ensures c.if-counting_tag-eq-MUST.true))
    ∙ c.loop-k.invariant

pub loop-k-preserved : goal.loop-k-preserved
loop-k-preserved c = at_on _ _ _ c.loop-k-test.true
    (elim c.else-device-k.branch [ else-device-k-via-then-device-k+then-stage-k-le-IN_FLIGHT+else-counting_tag-eq-MUST w ↦ must-not _ _ _ _ _ _ w.counting_tag.ensures w.if-counting_tag-eq-MUST.false | else-device-k-via-then-device-k+else-stage-k-le-IN_FLIGHT w ↦ must-answered _ _ _ _ _ _ w.if-stage-k-le-IN_FLIGHT.false | else-device-k-via-else-device-k w ↦ must_other _ _ _ _ _ _ w.if-device-k.false ])
    ∙ c.loop-k.invariant
