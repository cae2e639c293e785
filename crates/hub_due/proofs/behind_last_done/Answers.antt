-- `hub_due::behind_last_done` meets its contract. The loop's invariant: the commands from the k-th on leave the device as it was. Assumes
-- nothing.
use native.Mathlib.Omega.{arith}
use mathlib.Core.Path.{◌≡◌}
use Prim.Native.Nat.{◌+◌, ◌-◌}
use Rattle.hub_due.proofs.Places.{none_yet, other_more, not-done-more, last_found, last_none}
use Rattle.hub_due.proofs.behind_last_done.Goals.{else-device-k-via-then-device-k+else-stage-k-eq-DONE, else-device-k-via-else-device-k}
use Rattle.hub_due.proofs.behind_last_done.Goals as goal

pub loop-k-init : goal.loop-k-init
loop-k-init c = none_yet

pub returns-then-stage-k-eq-DONE : goal.returns-then-stage-k-eq-DONE
returns-then-stage-k-eq-DONE c = let e : c.loop-k.k - 1 + 1 ≡ c.loop-k.k = omega (arith, c.loop-k-test.true) in
    rw e (last_found c.loop-k.invariant c.loop-k-test.true c.loop-k.auto.k c.if-device-k.true c.if-stage-k-eq-DONE.true)

pub loop-k-preserved : goal.loop-k-preserved
loop-k-preserved c = elim c.else-device-k.branch [
  | else-device-k-via-then-device-k+else-stage-k-eq-DONE w ↦
      not-done-more c.loop-k.invariant c.loop-k-test.true w.if-stage-k-eq-DONE.false
  | else-device-k-via-else-device-k w ↦ other_more c.loop-k.invariant c.loop-k-test.true w.if-device-k.false
]

pub returns : goal.returns
returns c = last_none c.loop-k.invariant c.requires.0 c.loop-k-test.false
