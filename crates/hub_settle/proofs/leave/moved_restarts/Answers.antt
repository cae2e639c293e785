-- `hub_settle::leave::moved_restarts` meets its contract. Assumes nothing.
use borrow.Author.Rules.{rules}
use Prim.Native.Nat.{◌+◌, ◌*◌}
use mathlib.Core.Path.{◌≡◌, sym, ap, subst, ◌∙◌}
use mir.Val.{to_z, of_z}
use mir.Syntax.{w16}
use lib.IntN.{pos}
use lib.ListN.{length, get_or, set, length-set}
use Rattle.rules_routine.specs.Limits.{max_devices, max_sequence}
use Rattle.hub_due.proofs.Tables.{restart-bits, no_restart-bits}
use Rattle.hub_settle.proofs.RestartLaws.{MovedUpTo, moved_some, moved_skip, moved_all}
use Rattle.hub_settle.proofs.leave.moved_restarts.Goals.{then-restart-ne-NO_RESTART, else-restart-ne-NO_RESTART}
use Rattle.hub_settle.proofs.leave.moved_restarts.Goals as goal

pub loop-d-preserved : goal.loop-d-preserved
loop-d-preserved c = let a = c.args in
    let v = c.loop-d.invariant in
    let d = c.loop-d.d in
    let r = c.loop-d.moved in
    let p = a.to * max_devices + d in
    let x = get_or a.row (a.from * max_devices + d) (pos 0) in
    let b : to_z w16 (of_z w16 x) ≡ x = search rules in
    let n : length a.row ≡ max_sequence * max_devices = search rules in
    let i = c.requires.0 in
    let j = c.requires.1 in
    let h = c.loop-d-test.true in
    elim c.if-restart-ne-NO_RESTART.branch [
      | then-restart-ne-NO_RESTART w ↦ let e : c.if-restart-ne-NO_RESTART.moved ≡ set r p x = w.moved-is ∙ ap (set r p) b in (
        ap length e ∙ length-set r p x ∙ v.0,
        subst (MovedUpTo a.row a.from a.to (d + 1)) (sym e)
            (moved_some a.row a.from a.to d r (pos 0) i j h n v.0 v.1 (restart-bits x w.if-restart-ne-NO_RESTART.true)),
      )
      | else-restart-ne-NO_RESTART w ↦ (
        ap length w.moved-is ∙ v.0,
        subst (MovedUpTo a.row a.from a.to (d + 1)) (sym w.moved-is)
            (moved_skip a.row a.from a.to d r (pos 0) i j h n v.0 v.1 (no_restart-bits x b w.if-restart-ne-NO_RESTART.false)),
      )
    ]

pub returns : goal.returns
returns c = let l = c.loop-d in moved_all _ _ _ l.d l.moved c.loop-d-test.false l.invariant.1
