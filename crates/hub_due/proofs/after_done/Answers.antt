-- `hub_due::after_done` meets its contract. The loop's invariant: the commands from the k-th on leave each device as all of them do.
-- Assumes nothing.
use borrow.Author.Rules.{rules}
use mathlib.Core.Path.{◌≡◌, ap, ◌∙◌}
use Prim.Native.Nat.{◌<◌}
use lib.IntN.{pos}
use lib.ListN.{get_or, set}
use mir.Val.{to_z, of_z}
use mir.Syntax.{w16}
use Rattle.rules_routine.specs.Limits.{max_devices}
use Rattle.hub_due.proofs.Places.{done_all, done_store, done_keep}
use Rattle.hub_due.proofs.after_done.Goals.{then-stage-k-eq-DONE, else-stage-k-eq-DONE}
use Rattle.hub_due.proofs.after_done.Goals.{In-loop-k}
use Rattle.hub_due.proofs.after_done.Goals as goal

-- the device of the next command
below : (c : In-loop-k) → get_or c.args.device.now c.loop-k.k 0 < max_devices
below c = c.requires.2 c.loop-k.k c.loop-k.auto.k c.loop-k-test.true

pub loop-k-preserved : goal.loop-k-preserved
loop-k-preserved c = let v = c.loop-k.invariant in
    let at = get_or c.args.device.now c.loop-k.k 0 in
    let to = get_or c.args.setting.now c.loop-k.k (pos 0) in
    elim c.if-stage-k-eq-DONE.branch [
      | then-stage-k-eq-DONE w ↦ let b : to_z w16 (of_z w16 to) ≡ to = search rules in
          done_store v c.loop-k-test.true (w.after-is ∙ ap (set c.loop-k.after at) b) w.if-stage-k-eq-DONE.true (below (goal.at.loop-k-preserved c).In-loop-k)
      | else-stage-k-eq-DONE w ↦
          done_keep v c.loop-k-test.true w.after-is w.if-stage-k-eq-DONE.false
    ]

pub returns : goal.returns
returns c = done_all c.loop-k.invariant c.loop-k-test.false
