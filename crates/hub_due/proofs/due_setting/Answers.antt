-- `hub_due::due_setting` meets its contract. Assumes nothing.
use borrow.Author.Rules.{rules}
use native.Mathlib.Omega.{arith}
use mathlib.Core.Path.{◌≡◌, ap, ◌∙◌}
use lib.IntN.{ℤ}
use lib.ListN.{length}
use mir.Val.{to_z, of_z}
use mir.Syntax.{w16}
use Rattle.rules_routine.specs.Limits.{max_devices}
use Rattle.rules_routine.proofs.RoutineLaws.{length_mapped}
use Rattle.rules.specs.Due.{after_members}
use Rattle.hub_state.specs.View.{settings_of, members_of}
use Rattle.hub_due.proofs.Slots.{due-is, due-past}
use Rattle.hub_due.proofs.due_setting.Goals.{Start}
use Rattle.hub_due.proofs.due_setting.Goals as goal

-- the row of settings
long : (c : Start) → length c.args.state.rows.settled_at ≡ max_devices
long c = search (rules, length_mapped)

pub returns-then-at-ge-MAX_DEVICES : goal.returns-then-at-ge-MAX_DEVICES
returns-then-at-ge-MAX_DEVICES c = let v = c.due_on.result in
    let e : to_z w16 (of_z w16 v) ≡ v = search rules in
    e ∙ c.due_on.ensures
    ∙ due-past _ c.args.state.ok _ (omega (arith, long (goal.at.returns-then-at-ge-MAX_DEVICES c).Start, c.if-at-ge-MAX_DEVICES.true))

pub returns : goal.returns
returns c = let v = c.due_on-2.result in
    let e : to_z w16 (of_z w16 v) ≡ v = search rules in
    let u = settings_of c.args.state.rows.settled_at c.args.wanted in
    let f : to_z w16 (of_z w16 u) ≡ u = search rules in
    e ∙ c.due_on-2.ensures ∙ ap (λ (z : ℤ). after_members c.args.wanted (members_of c.args.state.rows) z) f ∙ due-is _ c.args.state.ok _
