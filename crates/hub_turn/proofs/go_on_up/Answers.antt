-- `hub_turn::go_on_up` meets its contract. Assumes nothing.
use borrow.Author.Rules.{rules}
use mathlib.Core.Path.{◌≡◌, sym, ◌∙◌, subst}
use mir.Val.{to_z, of_z}
use mir.Syntax.{w16}
use lib.IntN.{pos}
use lib.ListN.{get_or}
use Rattle.rules_routine.specs.Routine.{condition_tag}
use Rattle.rules.specs.Due.{due}
use Rattle.hub_state.specs.View.{state_of}
use Rattle.hub_state.specs.Unanswered.{command_at}
use Rattle.hub_state.specs.Contract.{Decides}
use Rattle.hub_turn.proofs.TurnLaws.{device-read, tag_read, setting-read, send-decides, held-decides, not-held-decides}
use Rattle.hub_turn.proofs.TurnLaws.{up-condition}
use Rattle.hub_turn.proofs.TurnLaws.{up-sends}
use Rattle.hub_turn.proofs.go_on_up.Goals.{After-due_setting-due, Else-rows-k-ne-CONDITION}
use Rattle.hub_turn.proofs.go_on_up.Goals as goal

-- the due setting and the number, as they are read
due-read : (c : After-due_setting-due) →
    let a = c.args in
    to_z w16 (of_z w16 c.due_setting-due.result) ≡ due (state_of a.state.rows) (get_or a.rows.device.now a.k 0)
due-read c =
    let d = c.due_setting-due in
    let u : to_z w16 (of_z w16 d.result) ≡ d.result = search rules in
    u ∙ d.ensures

number_read : (c : After-due_setting-due) →
    let a = c.args in
    to_z w16 (of_z w16 (get_or a.state.rows.setting a.k (pos 0))) ≡ (command_at a.state.rows a.k).setting
number_read c =
    let a = c.args in
    let v = get_or a.state.rows.setting a.k (pos 0) in
    let e : to_z w16 (of_z w16 v) ≡ v = search rules in
    e ∙ setting-read a.state.rows a.k

-- it is a condition
asked : (c : Else-rows-k-ne-CONDITION) → let a = c.args in (command_at a.state.rows a.k).tag ≡ condition_tag
asked c = sym (tag_read c.args.state.rows c.args.k _ c.requires.3.tag_is) ∙ c.if-rows-k-ne-CONDITION.false

pub returns-then-rows-k-ne-CONDITION : goal.returns-then-rows-k-ne-CONDITION
returns-then-rows-k-ne-CONDITION c = let h = c.args.state.rows in
    let k = c.args.k in
    let e = tag_read h k _ c.requires.3.tag_is in
    subst (Decides _ _ _) (up-sends _ _ _ (λ q. c.if-rows-k-ne-CONDITION.true (e ∙ q)))
    (send-decides h c.args.at k c.requires.0 c.requires.1 _ _ _ (device-read h k _ c.requires.3.device_is) c.requires.4 c.requires.2 _ _ _ e
    (number_read (goal.at.returns-then-rows-k-ne-CONDITION c).After-due_setting-due)
    (due-read (goal.at.returns-then-rows-k-ne-CONDITION c).After-due_setting-due) _ _
    c.plain.ensures c.staged-change.ensures)

pub returns-then-due-setting : goal.returns-then-due-setting
returns-then-due-setting c = let h = c.args.state.rows in
    let k = c.args.k in
    subst (Decides _ _ _) (up-condition _ _ _ (asked (goal.at.returns-then-due-setting c).Else-rows-k-ne-CONDITION))
    (not-held-decides h c.args.at k c.requires.0 c.requires.1 _ _ _ (device-read h k _ c.requires.3.device_is) c.requires.4 c.requires.2 _ _
    (due-read (goal.at.returns-then-due-setting c).After-due_setting-due)
    (number_read (goal.at.returns-then-due-setting c).After-due_setting-due)
    c.if-due-setting.true _ _ _ c.plain-then-due-setting.ensures c.staged-change-then-due-setting.ensures)

pub returns : goal.returns
returns c = let h = c.args.state.rows in
    let k = c.args.k in
    subst (Decides _ _ _) (up-condition _ _ _ (asked (goal.at.returns c).Else-rows-k-ne-CONDITION))
    (held-decides h c.args.at k c.requires.0 c.requires.1 _ _ _ (device-read h k _ c.requires.3.device_is) c.requires.4 c.requires.2 _ _
    (due-read (goal.at.returns c).After-due_setting-due) (number_read (goal.at.returns c).After-due_setting-due)
    c.if-due-setting.false _ _ _ c.plain-2.ensures c.staged-change-2.ensures)
