-- `hub_due::after_restarts` meets its contract. The loop's invariant: the devices below d are at their restarts' settings. Assumes nothing.
use borrow.Author.Rules.{rules}
use mathlib.Core.Path.{◌≡◌, ap, ◌∙◌}
use Prim.Native.Nat.{◌+◌, ◌*◌}
use lib.IntN.{pos}
use lib.ListN.{get_or, set}
use mir.Val.{to_z, of_z}
use mir.Syntax.{w16}
use Rattle.rules_routine.specs.Limits.{max_devices}
use Rattle.hub_due.proofs.Restarts.{restart-there, restart_absent, restart_store, restart_keep}
use Rattle.hub_due.proofs.Restarts.{restarts_all}
use Rattle.hub_due.proofs.after_restarts.Goals.{then-last-ne-NO_RESTART, else-last-ne-NO_RESTART}
use Rattle.hub_due.proofs.after_restarts.Goals as goal

pub loop-d-preserved : goal.loop-d-preserved
loop-d-preserved c = let row = c.args.restarts.now in
    let d = c.loop-d.d in
    let v = c.loop-d.invariant in
    let r = get_or row (c.args.at * max_devices + d) (pos 0) in
    let b : to_z w16 (of_z w16 r) ≡ r = search rules in
    elim c.if-last-ne-NO_RESTART.branch [
      | then-last-ne-NO_RESTART w ↦
          restart_store v r (w.after-is ∙ ap (set c.loop-d.after d) b) c.loop-d-test.true (restart-there row _ d c.requires.1 c.requires.0 c.loop-d-test.true w.if-last-ne-NO_RESTART.true)
      | else-last-ne-NO_RESTART w ↦
          restart_keep v w.after-is (restart_absent row _ d c.requires.1 c.requires.0 c.loop-d-test.true b w.if-last-ne-NO_RESTART.false)
    ]

pub returns : goal.returns
returns c = restarts_all c.loop-d.invariant c.loop-d-test.false
