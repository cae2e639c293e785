-- `hub_search::is_staged` meets its contract. The loop: what is left gives what the whole gives. Assumes nothing.
use Prim.Native.Nat.{◌-◌}
use mathlib.Core.Path.{sym, ◌∙◌}
use Rattle.hub_search.proofs.Commands.{at_hit, at_on, staged-at, staged-here, staged_other, staged_below}
use Rattle.hub_search.proofs.Commands.{staged_above}
use Rattle.hub_search.proofs.is_staged.Goals.{else-device-k-via-else-device-k}
use Rattle.hub_search.proofs.is_staged.Goals.{else-device-k-via-then-device-k+else-low-stage}
use Rattle.hub_search.proofs.is_staged.Goals.{else-device-k-via-then-device-k+then-low-stage+else-stage-k}
use Rattle.hub_search.proofs.is_staged.Goals as goal

pub loop-k-init : goal.loop-k-init
loop-k-init c = let a = c.args in staged-at a.device.now a.stage.now a.wanted a.low a.high a.from (a.end - a.from)

pub returns-then-stage-k : goal.returns-then-stage-k
returns-then-stage-k c = sym
    (at_hit _ _ _ c.loop-k-test.true (staged-here _ _ _ _ _ _ c.if-device-k.true c.if-low-stage.true c.if-stage-k.true))
    ∙ c.loop-k.invariant

pub loop-k-preserved : goal.loop-k-preserved
loop-k-preserved c = at_on _ _ _ c.loop-k-test.true
    (elim c.else-device-k.branch [
      | else-device-k-via-then-device-k+then-low-stage+else-stage-k w ↦ staged_above _ _ _ _ _ _ w.if-stage-k.false
      | else-device-k-via-then-device-k+else-low-stage w ↦ staged_below _ _ _ _ _ _ w.if-low-stage.false
      | else-device-k-via-else-device-k w ↦ staged_other _ _ _ _ _ _ w.if-device-k.false
    ])
    ∙ c.loop-k.invariant
