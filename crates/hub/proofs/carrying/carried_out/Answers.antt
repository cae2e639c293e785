-- `hub::carrying::carried_out` meets its contract. Assumes nothing.
use mathlib.Core.Path.{refl, sym, ◌∙◌}
use Rattle.rules_routine.specs.Routine.{commands_of}
use Rattle.hub.proofs.CallLaws.{decides-itself, settled-gives, idle-gives, same_gives}
use Rattle.hub.proofs.carrying.carried_out.Goals.{else-not-changes_nothing-via-then-not-changes_nothing+else-settles, else-not-changes_nothing-via-else-not-changes_nothing}
use Rattle.hub.proofs.carrying.carried_out.Goals as goal

pub returns-then-settles : goal.returns-then-settles
returns-then-settles c = let a = c.args in
    let s = c.settle-next.ensures in
    settled-gives a.hub (commands_of a.routine) a.decision c.put_backs-put_backs.result c.changed-next.result c.requires.0
    (decides-itself c.requires.1.decides) c.put_backs-put_backs.ensures.1 c.changed-next.ensures _ _ (refl, refl, refl, refl)
    (sym c.changes_nothing.ensures ∙ c.if-not-changes_nothing.true) s.0 s.1 s.2

pub returns-else-not-changes_nothing : goal.returns-else-not-changes_nothing
returns-else-not-changes_nothing c = let a = c.args in
    let k = decides-itself c.requires.1.decides in
    let are = c.put_backs-put_backs.ensures.1 in
    elim c.else-not-changes_nothing.branch [
      | else-not-changes_nothing-via-then-not-changes_nothing+else-settles w ↦ idle-gives a.hub (commands_of a.routine) a.decision
          c.put_backs-put_backs.result c.changed-next.result c.requires.0 k are c.changed-next.ensures _ (refl, refl, refl, refl)
          (sym c.changes_nothing.ensures ∙ w.if-not-changes_nothing.true) (sym w.settles.ensures ∙ w.if-settles.false)
      | else-not-changes_nothing-via-else-not-changes_nothing w ↦ same_gives a.hub (commands_of a.routine) a.decision
          c.put_backs-put_backs.result c.changed-next.result c.requires.0 k are c.changed-next.ensures _ (refl, refl, refl, refl)
          (sym c.changes_nothing.ensures ∙ w.if-not-changes_nothing.false)
    ]
