-- `hub_turn::go_on` meets its contract. Assumes nothing.
use mathlib.Core.Path.{◌≡◌, sym, ap, ◌∙◌, subst}
use mathlib.Core.Bool.{Bool, true, false, not, not-not}
use Rattle.rules.specs.Progress.{begun, next_is_skipped}
use Rattle.rules.specs.Settle.{settling}
use Rattle.rules.specs.Turn.{skip_turn, proceed_up, proceed}
use Rattle.rules.proofs.Lists.{t≠f}
use Rattle.hub_state.specs.View.{steps_at, state_of, there, member_at}
use Rattle.hub_state.specs.Unanswered.{command_at}
use Rattle.hub_state.specs.Contract.{Decides}
use Rattle.hub_turn.proofs.TurnLaws.{device-read, skipped-is, counts_as, must-decides, skip_decides, proceed-skipped}
use Rattle.hub_turn.proofs.TurnLaws.{proceed-up}
use Rattle.hub_turn.proofs.TurnLaws.{proceed-must, proceed_skip}
use Rattle.hub_turn.proofs.go_on.Goals.{After-is_skipped-skips, Joined-not-skips, else-not-skips, then-not-skips+else-not-is_up}
use Rattle.hub_turn.proofs.go_on.Goals.{then-not-skips+then-not-is_up+else-counting_tag-eq-MUST}
use Rattle.hub_turn.proofs.go_on.Goals as goal

-- ---- what the code has found out
begun-is : (c : After-is_skipped-skips) →
    let a = c.args in
    c.has_begun-begun.result ≡ begun (command_at a.state.rows a.k).device (member_at a.state.rows a.at)
begun-is c = let h = c.args.state.rows in
    c.has_begun-begun.ensures ∙ ap (λ d. begun d (member_at h c.args.at)) (device-read h c.args.k _ c.requires.3.device_is)

is-skipped-is : (c : After-is_skipped-skips) →
    let a = c.args in
    c.is_skipped-skips.result ≡ next_is_skipped false (steps_at a.state.rows a.at)
is-skipped-is c = skipped-is _ _ _ c.requires.1 _ _ c.requires.3.tag_is c.requires.3.stage_is c.is_skipped-skips.ensures

un_not : (b : Bool) → not b ≡ true → b ≡ false
un_not b e = sym (not-not b) ∙ ap not e

no_not : (b : Bool) → not b ≡ false → b ≡ true
no_not b e = sym (not-not b) ∙ ap not e

-- ---- the ways to go on
-- it is skipped: by the condition before it, or its device is down and it does not count as a must
skipped : (c : Joined-not-skips) → c.is_skipped-skips.result ≡ next_is_skipped false (steps_at c.args.state.rows c.args.at) →
    c.if-not-skips.skips ≡ true →
    let a = c.args in
    settling (skip_turn (state_of a.state.rows) (there a.state.rows a.at) (command_at a.state.rows a.k))
    ≡ proceed (state_of a.state.rows) (there a.state.rows a.at) (command_at a.state.rows a.k)
skipped c e t =
    let h = c.args.state.rows in
    (elim c.if-not-skips.branch [
      | then-not-skips+then-not-is_up+else-counting_tag-eq-MUST w ↦ proceed_skip h _ _ _ e (un_not _ w.if-not-skips.true-raw) _
          (device-read h c.args.k _ c.requires.3.device_is) _ w.is_up.ensures
          (un_not _ w.if-not-is_up.true-raw) _
          (counts_as _ _ _ c.requires.1 _ c.requires.3.tag_is _ w.counting_tag.ensures) w.if-counting_tag-eq-MUST.false
      | then-not-skips+else-not-is_up w ↦ absurd (t≠f (sym t ∙ w.skips-is ∙ un_not _ w.if-not-skips.true-raw))
      | else-not-skips w ↦ proceed-skipped h _ _ _ e (sym w.skips-is ∙ t)
    ])

-- its device is up
goes-up : (c : Joined-not-skips) → c.is_skipped-skips.result ≡ next_is_skipped false (steps_at c.args.state.rows c.args.at) →
    c.if-not-skips.skips ≡ false →
    let a = c.args in
    proceed_up (state_of a.state.rows) (there a.state.rows a.at) (command_at a.state.rows a.k)
    ≡ proceed (state_of a.state.rows) (there a.state.rows a.at) (command_at a.state.rows a.k)
goes-up c e f =
    let h = c.args.state.rows in
    (elim c.if-not-skips.branch [
      | then-not-skips+then-not-is_up+else-counting_tag-eq-MUST w ↦ absurd (t≠f (sym w.skips-is ∙ f))
      | then-not-skips+else-not-is_up w ↦ proceed-up h _ _ _ e (un_not _ w.if-not-skips.true-raw) _
          (device-read h c.args.k _ c.requires.3.device_is) _ w.is_up.ensures
          (no_not _ w.if-not-is_up.false-raw)
      | else-not-skips w ↦ absurd (t≠f (sym (no_not _ w.if-not-skips.false-raw) ∙ sym w.skips-is ∙ f))
    ])

pub returns-then-counting_tag-eq-MUST : goal.returns-then-counting_tag-eq-MUST
returns-then-counting_tag-eq-MUST c = let h = c.args.state.rows in
    let k = c.args.k in
    subst (Decides _ _ _)
    (proceed-must h _ _ _ (is-skipped-is (goal.at.returns-then-counting_tag-eq-MUST c).After-is_skipped-skips)
    (un_not _ c.if-not-skips.true-raw) _ (device-read h k _ c.requires.3.device_is) _ c.is_up.ensures
    (un_not _ c.if-not-is_up.true-raw) _
    (counts_as _ _ _ c.requires.1 _ c.requires.3.tag_is _ c.counting_tag.ensures) c.if-counting_tag-eq-MUST.true)
    (must-decides h _ k c.requires.0 c.requires.1 _ c.requires.2 _ c.plain.ensures)

pub returns-then-skips : goal.returns-then-skips
returns-then-skips c = let h = c.args.state.rows in
    let k = c.args.k in
    subst (Decides _ _ _)
    (skipped (goal.at.returns-then-skips c).Joined-not-skips
    (is-skipped-is (goal.at.returns-then-skips c).After-is_skipped-skips) c.if-skips.true)
    (skip_decides h c.args.at k c.requires.0 c.requires.1 _ _ _ (device-read h k _ c.requires.3.device_is)
    (begun-is (goal.at.returns-then-skips c).After-is_skipped-skips) c.requires.2 _ _ _ c.plain-then-skips.ensures
    c.staged-change.ensures)

pub go_on_up-requires : goal.go_on_up-requires
go_on_up-requires c =
    (c.requires.0, c.requires.1, c.requires.2, c.requires.3, begun-is (goal.at.go_on_up-requires c).After-is_skipped-skips)

pub returns : goal.returns
returns c = subst (Decides _ _ _)
    (goes-up (goal.at.returns c).Joined-not-skips (is-skipped-is (goal.at.returns c).After-is_skipped-skips) c.if-skips.false)
    c.go_on_up.ensures
