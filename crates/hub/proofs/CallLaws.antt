-- Laws for the proofs of the public calls: a decision that is carried out gives what the call's contract says. Assumes nothing.
use mathlib.Core.Path.{◌≡◌, refl, sym, ap, ◌∙◌, subst}
use mathlib.Core.Bool.{Bool, true, false}
use mathlib.Core.List.{List, [], ◌∷◌, ◌++◌}
use Prim.Native.Nat.{ℕ}
use Rattle.std.specs.Prelude.{if◌then◌else◌}
use Rattle.rules_routine.specs.Routine.{commands_of, routine_of, no_routine}
use Rattle.rules_routine.specs.declared.Command.{Command}
use Rattle.rules_routine.specs.declared.Routine.{Routine}
use Rattle.rules_routine.proofs.RoutineLaws.{by_test}
use Rattle.rules.specs.State.{Member, State}
use Rattle.rules.specs.Answers.{Call, Result}
use Rattle.rules.specs.Calls.{result_of}
use Rattle.rules.specs.Rounds.{KeepsLimit}
use Rattle.rules.specs.Sequence.{with_sequence}
use Rattle.rules.specs.Settle.{join_settled, settle_from, settle, settling}
use Rattle.rules.proofs.Lists.{t≠f}
use Rattle.hub_sequence.specs.Links.{StandsOrNone}
use Rattle.hub_answers.specs.View.{event_abort_of, answer_of, put_backs_of, put_backs_in, changes_nothing}
use Rattle.hub_answers.specs.declared.PutBacks.{PutBacks}
use Rattle.hub_state.specs.View.{first_committed}
use Rattle.hub_state.specs.Valid.{StateOk}
use Rattle.hub_state.specs.Unmoved.{Unmoved, InPlace, OnlyLeave}
use Rattle.hub_apply.specs.Contract.{Places}
use Rattle.hub_apply.proofs.PlaceLaws.{places_unmoved, places_run}
use Rattle.hub_state.specs.Contract.{applied_to, ChangeOk, put_backs_of_decision, told_by}
use Rattle.hub_state.specs.Contract.{settled_unless_nothing, result_by, Decides}
use Rattle.hub_state.specs.declared.HubState.{HubState}
use Rattle.hub_state.specs.declared.Change.{Change}
use Rattle.hub_state.specs.declared.Change.TheVariants.{Nothing, Stage, Commit, Join, Abort, Fail, Restart}
use Rattle.hub_state.specs.declared.Decision.{Decision}
use Rattle.hub_state.proofs.DecisionLaws.{settle-idle}
use Rattle.hub_state.proofs.UnmovedLaws.{itself_in_place, in_place-leaves, settle_then, none-joined}
use Rattle.hub.specs.View.{view, answers_in}
use Rattle.hub.specs.Valid.{InOrder, Valid}
use Rattle.hub.specs.Contract.{Gives}
use Rattle.hub.specs.Carrying.{MovesNobody, OnlySettle, Carries}
use Rattle.hub.specs.Decided.{DecidedOn, Decided}
use Rattle.hub.specs.declared.Hub.{Hub}
use Rattle.hub.specs.declared.Outcome.{Outcome}

-- ---- at rest

-- what has settled is at rest
rests_from : (s : State) (l : List Member) → first_committed (settle_from s l).sequence ≡ false
rests_from s [] = refl
rests_from s (m ∷ l) =
    by_test
    (λ (b : Bool). m.committed ≡ b →
    first_committed (if b then settle_from (join_settled s m) l else with_sequence s (m ∷ l)).sequence ≡ false)
    m.committed
    (λ _ _. rests_from (join_settled s m) l)
    (λ _ f. f)
    refl

pub settled_rests : (s : State) → first_committed (settle s).sequence ≡ false
unfolding settle
settled_rests s = rests_from s s.sequence

pub rests_as : (h : Hub) {s : State} → InOrder h → view h ≡ s → first_committed s.sequence ≡ false → Valid h
rests_as h v e f = record { in_order = v; at_rest = ap (λ (t : State). first_committed t.sequence) e ∙ f }

-- ---- what was decided can be applied

pub decided_ok : {h : Hub} {cs : List Command} {c : Change} → Decided h cs c → ChangeOk h.state.rows cs c
decided_ok {h} {cs} k = subst (ChangeOk h.state.rows cs) k.change_is k.made.decides.change_ok

-- ---- a decision with another word for its result

pub decides-itself : {h : HubState} {cs : List Command} {d : Decision} {result : Result} → Decides h cs d result →
    Decides h cs d (result_by h cs d)
decides-itself k = record {
  change_ok = k.change_ok;
  gives = refl;
  put_backs_told = k.put_backs_told;
  well_told = k.well_told;
  nothing_told = k.nothing_told;
  something_told = k.something_told;
}

-- ---- carried out

-- after a change it settles
settles-change : (c : Change) (x : Result) → (c ≡ Nothing → ⊥) → settled_unless_nothing c x ≡ settling x
settles-change Nothing x n = absurd (n refl)
settles-change (Stage s) x n = refl
settles-change (Commit s) x n = refl
settles-change (Join after) x n = refl
settles-change (Abort s) x n = refl
settles-change (Fail d s) x n = refl
settles-change (Restart d v s) x n = refl

-- A hub with the answers of a decision.
abbrev pub Wraps : Hub → Decision → PutBacks → Outcome → Type 0
Wraps r d backs o = (o.hub ≡ r) × (o.first ≡ d.first) × (o.answer ≡ d.answer) × (o.put_backs ≡ backs)

module _ (h : Hub) (cs : List Command) (d : Decision) (backs : PutBacks) (n : Hub) (v : Valid h)
    (k : Decides h.state.rows cs d (result_by h.state.rows cs d))
    (are : put_backs_of backs ≡ put_backs_of_decision h.state.rows d)
    (c : Carries h cs d.change n) where
  told : (r : Hub) (o : Outcome) → Wraps r d backs o → answers_in o ≡ told_by h.state.rows d
  told r o w = λ i.
      let b = (ap put_backs_of w.3 ∙ are) i in
      event_abort_of (w.1 i) b ++ (answer_of (w.2 i) b ∷ [])

  -- what is given, where this is the hub in the end
  wraps_gives : (r : Hub) (o : Outcome) → Wraps r d backs o → Valid r →
      record { state = view r; answers = told_by h.state.rows d } ≡ result_by h.state.rows cs d → Unmoved h.state.rows r.state.rows →
      (changes_nothing d.answer ≡ true → r ≡ h) → Gives h o (result_by h.state.rows cs d)
  wraps_gives r o w z e u s = record {
    valid = subst Valid (sym w.0) z;
    gives = (λ i. record { state = view (w.0 i); answers = told r o w i }) ∙ e;
    put_backs_fit = o.put_backs.within;
    put_backs_told = ap put_backs_of w.3 ∙ are ∙ k.put_backs_told ∙ sym (ap put_backs_in (told r o w));
    unmoved = subst (λ (x : Hub). Unmoved h.state.rows x.state.rows) (sym w.0) u;
    same_hub = λ t. w.0 ∙ s (sym (ap changes_nothing w.2) ∙ t);
  }

  -- the result where something changes
  settled_result : changes_nothing d.answer ≡ false →
      result_by h.state.rows cs d ≡ record { state = settle (view n); answers = told_by h.state.rows d }
  settled_result f =
      settles-change d.change (record { state = applied_to h.state.rows cs d.change; answers = told_by h.state.rows d })
      (k.something_told f)
      ∙ ap (λ (s : State). record { state = settle s; answers = told_by h.state.rows d }) (sym c.gives)

  -- the first is committed
  pub settled-gives : (r : Hub) (o : Outcome) → Wraps r d backs o → changes_nothing d.answer ≡ false → Valid r →
      view r ≡ settle (view n) → OnlySettle n.state.rows r.state.rows → Gives h o (result_by h.state.rows cs d)
  settled-gives r o w f z g q =
      wraps_gives r o w z
      (ap (λ (s : State). record { state = s; answers = told_by h.state.rows d }) g ∙ sym (settled_result f))
      (settle_then h.state.rows n.state.rows r.state.rows c.moves_nobody.unmoved c.moves_nobody.joined_run q.only_leave
      q.left_committed)
      (λ t. t≠f (sym t ∙ f))

  -- it is not
  pub idle-gives : (o : Outcome) → Wraps n d backs o → changes_nothing d.answer ≡ false → first_committed (view n).sequence ≡ false →
      Gives h o (result_by h.state.rows cs d)
  idle-gives o w f e =
      wraps_gives n o w (record { in_order = c.in_order; at_rest = e })
      (ap (λ (s : State). record { state = s; answers = told_by h.state.rows d }) (sym (settle-idle (view n) e)) ∙ sym (settled_result f))
      c.moves_nobody.unmoved
      (λ t. t≠f (sym t ∙ f))

  -- a refusal or a wait
  pub same_gives : (o : Outcome) → Wraps n d backs o → changes_nothing d.answer ≡ true → Gives h o (result_by h.state.rows cs d)
  same_gives o w t =
      let nothing = k.nothing_told t in
      let same = c.same_hub nothing in
      wraps_gives n o w (subst Valid (sym same) v)
      (ap (λ (s : State). record { state = s; answers = told_by h.state.rows d }) (ap view same)
      ∙ sym (ap (λ (x : Change). settled_unless_nothing x
      (record { state = applied_to h.state.rows cs x; answers = told_by h.state.rows d }))
      nothing))
      c.moves_nobody.unmoved
      (λ _. same)

-- ---- who is moved

-- nobody is moved where some may leave and nobody joins, and where nobody does either
pub leave_moves : (h r : HubState) → OnlyLeave h r → MovesNobody h r
leave_moves h r p = record { unmoved = p.unmoved; joined_run = none-joined h r p }

pub stay_moves : (h r : HubState) → StateOk h → InPlace h r → MovesNobody h r
stay_moves h r v p = leave_moves h r (in_place-leaves h r v p)

pub place_moves : (h : HubState) {cs : List Command} {after : ℕ} (r : HubState) → StateOk h → StandsOrNone h.links after →
    Places h cs after r → MovesNobody h r
place_moves h r v k p = record { unmoved = places_unmoved h _ _ r v k p; joined_run = places_run h _ _ r v k p }

pub itself_moves : (h : HubState) → StateOk h → MovesNobody h h
itself_moves h v = stay_moves h h v (itself_in_place h)

-- a change of nothing is carried out
pub carries_nothing : {h : Hub} {cs : List Command} {c : Change} → c ≡ Nothing → Valid h → Carries h cs c h
carries_nothing {h} {cs} e v = record {
  in_order = v.in_order;
  gives = sym (ap (applied_to h.state.rows cs) e);
  moves_nobody = itself_moves h.state.rows v.in_order;
  same_hub = λ _. refl;
}

-- ---- calls that submit nothing

no_commands : (r : Routine) → r ≡ no_routine → [] ≡ commands_of r
unfolding commands_of routine_of
no_commands r e = sym (ap commands_of e)

pub decided_none : {h : Hub} {d : Decision} (c : Call) (r : Routine) → KeepsLimit c → r ≡ no_routine →
    Decides h.state.rows [] d (result_of (view h) c) → DecidedOn h (commands_of r) d
decided_none {h} {d} c r n e k = record {
  call = c;
  no_limit = n;
  decides = subst (λ (cs : List Command). Decides h.state.rows cs d (result_of (view h) c)) (no_commands r e) k;
}

pub gives_none : {h : Hub} {o : Outcome} {d : Decision} {result : Result} (r : Routine) → r ≡ no_routine →
    Decides h.state.rows [] d result →
    Gives h o (result_by h.state.rows (commands_of r) d) → Gives h o result
gives_none {h} {o} {d} r e k g =
    subst (Gives h o) (ap (λ (cs : List Command). result_by h.state.rows cs d) (sym (no_commands r e)) ∙ k.gives) g
