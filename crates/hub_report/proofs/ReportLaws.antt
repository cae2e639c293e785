-- Laws that the proofs of this crate cite. Assumes nothing.
use Rattle.rules_routine.specs.declared.refusals.Refusal.TheVariants.{NotRunning, NothingInFlight, ReportCodeOutOfRange}
use Rattle.rules_routine.specs.declared.refusals.Refusal.{Refusal}
use Rattle.hub_answers.specs.declared.PutBack.{PutBack}
use Rattle.std.proofs.Common.{Option, None, Some}
use mathlib.Core.Path.{◌≡◌, refl, sym, ap, ◌∙◌, subst}
use mathlib.Core.Logic.{◌≢◌}
use mathlib.Core.Bool.{Bool, true, false, ◌&&◌}
use mathlib.Core.List.{List, [], ◌∷◌, ◌++◌}
use Prim.Native.Nat.{ℕ, ◌<◌, ◌≤◌}
use native.Mathlib.Omega.{arith}
use borrow.Author.Tests.{lt-ltb, le-ltb, eq-eqb, ne_eqb}
use lib.Dec.{eqb}
use lib.IntN.{ℤ, pos}
use lib.ListN.{length, get_or}
use Rattle.std.specs.Prelude.{if◌then◌else◌}
use Rattle.rules_routine.specs.Routine.{must_tag}
use Rattle.rules_routine.proofs.RoutineLaws.{by_test, any_default}
use Rattle.rules.specs.State.{Status, to-do, in_flight, was_done, was_skipped, was_held, was_not_held, Step, Member, State}
use Rattle.rules.specs.Tables.{same_setting}
use Rattle.rules.specs.Answers.{Back, Result, turned_down, done, skipped}
use Rattle.rules.specs.Progress.{is_must, is_on, is_to_do, is_in_flight, is_done, Flight, flight, answer_flight, with_steps}
use Rattle.rules.specs.Due.{after_steps, after_restart, after_member, after_members, due}
use Rattle.rules.specs.Sequence.{Found, runs, change}
use Rattle.rules.specs.Abort.{abort}
use Rattle.rules.specs.Settle.{settling}
use Rattle.rules.specs.Report.{code_done, code_failed, done_report, back_if_changed, skipped_state, skip_report}
use Rattle.rules.specs.Report.{reported, report_flight, report_found, report_of}
use Rattle.rules.proofs.Lists.{by_if, t≠f, same-setting, members_after_++}
use Rattle.hub_sequence.specs.Links.{Stands}
use Rattle.hub_answers.specs.View.{one_of}
use Rattle.hub_answers.specs.declared.Answer.TheVariants.{Refused, Done, Skipped, Aborted}
use Rattle.hub_state.specs.View.{settings_of, done_code, skipped_code, status_of, step_at, steps_at, member_at, state_of, there}
use Rattle.hub_state.specs.Valid.{StateOk}
use Rattle.hub_state.specs.Unanswered.{answered_at, due_then_at, command_at, NextInFlight, UnansweredIs}
use Rattle.hub_state.specs.Contract.{set_status, staged, StageOk, plainly, Decides}
use Rattle.hub_state.specs.declared.HubState.{HubState}
use Rattle.hub_state.specs.declared.Unanswered.{Unanswered}
use Rattle.hub_state.specs.declared.Unanswered.TheVariants.{Nothing, ToDo, InFlight}
use Rattle.hub_state.specs.declared.Staged.{Staged}
use Rattle.hub_state.specs.declared.Change.{Change}
use Rattle.hub_state.specs.declared.Change.TheVariants.{Nothing as NoChange, Abort}
use Rattle.hub_state.specs.declared.Decision.{Decision}
use Rattle.hub_state.proofs.Rows.{status-done, status-skipped}
use Rattle.hub_state.proofs.Members.{there-it, there_whole, member_steps}
use Rattle.hub_state.proofs.DecisionLaws.{refused-decides, stage_decides, skip_decides, abort-decides}
use Rattle.hub_search.specs.Contract.{Finds}
use Rattle.hub_report.specs.Contract.{answered_by, flight_at}
use Rattle.hub_search.proofs.Found.{found_as}
use Rattle.hub_due.proofs.Tables.{same_self}

-- ---- the device of a command that is skipped

module _ (d : ℕ) (now before : ℤ) where
  abbrev back_to : ℤ → List Back
  back_to u = record { device = d; setting = u } ∷ []

  pub back-same : now ≡ before → [] ≡ back_if_changed d now before
  unfolding back_if_changed
  back-same e =
      let t : same_setting now before ≡ true = ap (same_setting now) (sym e) ∙ same_self now in
      rw t

  pub back_changed : (u : ℤ) → u ≡ now → now ≢ before → back_to u ≡ back_if_changed d now before
  unfolding back_if_changed
  back_changed u k n =
      by_test (λ (t : Bool). back_to u ≡ (if t then [] else back_to now))
      (same_setting now before)
      (λ t. absurd (n (same-setting now before t)))
      (λ t. ap back_to k)

-- ---- a skipped command was not done: no due setting changes by that

not_done : (st : Status) → is_in_flight st ≡ true → false ≡ is_done st
not_done to-do e = refl
not_done (in_flight u) e = refl
not_done was_done e = t≠f (sym e)
not_done was_skipped e = refl
not_done was_held e = refl
not_done was_not_held e = refl

skipped-after : (d : ℕ) (l : List Step) (v : ℤ) → after_steps d (answer_flight was_skipped l) v ≡ after_steps d l v
skipped-after d [] v = refl
skipped-after d (x ∷ l) v =
    by_if (λ (k : List Step). after_steps d k v ≡ after_steps d (x ∷ l) v) (is_in_flight x.status)
    (λ t. ap (λ (b : Bool). after_steps d l (if is_on d x && b then x.command.setting else v)) (not_done x.status t))
    (λ t. skipped-after d l (if is_on d x && is_done x.status then x.command.setting else v))

due-skipped : (s : State) (f : Found) (d : ℕ) → s.sequence ≡ f.ahead ++ (f.it ∷ f.behind) → due (skipped_state s f) d ≡ due s d
unfolding due skipped_state after_member
due-skipped s f d e =
    let m = with_steps f.it (answer_flight was_skipped f.it.steps) in
    let v = s.settled_at d in
    members_after_++ d f.ahead (m ∷ f.behind) v
    ∙ ap (λ (u : ℤ). after_members d f.behind (after_restart (f.it.restarts d) u))
    (skipped-after d f.it.steps (after_members d f.ahead v))
    ∙ sym (members_after_++ d f.ahead (f.it ∷ f.behind) v)
    ∙ ap (λ (l : List Member). after_members d l v) (sym e)

-- ---- the command in flight

-- what the code reads at its place
module _ (h : HubState) (k : ℕ) where
  pub device-read : get_or h.device k 0 ≡ (command_at h k).device
  unfolding step_at
  device-read = refl

  pub tag_read : get_or h.tag k 0 ≡ (command_at h k).tag
  unfolding step_at
  tag_read = refl

-- its device in a table of due settings
pub due-read : (table : List ℤ) (d : ℕ) (z : ℤ) (t : ℕ → ℤ) → settings_of table ≡ t → d < length table → get_or table d z ≡ t d
due-read table d z t e i = any_default table d z (pos 0) i ∙ (λ j. e j d)

module _ (h : HubState) (x k : ℕ) (s : Stands h.links x) (o : NextInFlight h x k) where
  module _ (i : ℕ) (r : i ≡ (member_at h x).id) where
    id-there : i ≡ (there h x).it.id
    id-there = r ∙ ap (λ (m : Member). m.id) (sym (there-it h x))

    module _ (code : ℕ) (st : Status) (e : status_of code (pos 0) ≡ st) where
      abbrev answered : Staged
      answered = record { at = x; stage = code; due_then = pos 0; begins = false; device = 0; id = i }

      answered-state : staged h answered
          ≡ change (state_of h) (there h x) (with_steps (there h x).it (answer_flight st (there h x).it.steps))
      unfolding staged there member_at
      answered-state =
          let l : set_status (answered_at h x) (status_of code (pos 0)) (steps_at h x) ≡ answer_flight st (steps_at h x)
          = ap (λ (z : Status). set_status (answered_at h x) z (steps_at h x)) e ∙ sym (o.answers st) in
          λ j. change (state_of h) (there h x) (with_steps (member_at h x) (l j))

      answered_ok : is_to_do st ≡ false → StageOk h answered
      answered_ok t = record { stands = s; not_all = o.not_all; device_fits = omega arith; sent_or_answered = ap is_to_do e ∙ t }

    -- "Code 0, done: the setting stands."
    pub done-decides : (c : Change) (y : Decision) → c ≡ answered_by x done_code i → y ≡ plainly (Done i) c →
        Decides h [] y (settling (done_report (state_of h) (there h x)))
    unfolding done_report
    done-decides c y a z =
        let t = status-done done_code (pos 0) refl in
        let w = answered-state done_code was_done t in
        subst (λ (d : Decision). Decides h [] d (settling (done_report (state_of h) (there h x)))) (sym (z ∙ ap (plainly (Done i)) a))
        (stage_decides h [] _ (Done i) refl (answered done_code was_done t) (answered_ok done_code was_done t refl)
        (λ j. settling (record { state = w j; answers = done (id-there j) ∷ [] })))

    -- "a best-effort is skipped"
    abbrev skip_decision : Option PutBack → Change → Decision
    skip_decision b c = record { first = None; answer = Skipped i; back = b; change = c }

    pub skips : (b : Option PutBack) (c : Change) (d : ℕ) (now before : ℤ) → StateOk h → c ≡ answered_by x skipped_code i →
        one_of b ≡ back_if_changed d now before →
        d ≡ (command_at h k).device → now ≡ due (state_of h) d → before ≡ due_then_at h x →
        Decides h [] (skip_decision b c) (settling (skip_report (state_of h) (there h x) (flight_at h x k)))
    unfolding skip_report skipped_state
    skips b c d now before v a p q u m =
        let f = there h x in
        let t = status-skipped skipped_code (pos 0) (omega arith) in
        let w : staged h (answered skipped_code was_skipped t) ≡ skipped_state (state_of h) f = answered-state skipped_code was_skipped t in
        let n : now ≡ due (skipped_state (state_of h) f) d = u ∙ sym (due-skipped (state_of h) f d (there_whole h x v s)) in
        let l : one_of b ≡ back_if_changed (command_at h k).device (due (skipped_state (state_of h) f) (command_at h k).device)
        (due_then_at h x)
        = p ∙ (λ j. back_if_changed d (n j) (m j))
        ∙ ap (λ (g : ℕ). back_if_changed g (due (skipped_state (state_of h) f) g) (due_then_at h x)) q in
        subst (λ (g : Change). Decides h [] (skip_decision b g) (settling (skip_report (state_of h) f (flight_at h x k))))
        (sym a)
        (skip_decides h [] _ i b (answered skipped_code was_skipped t) (answered_ok skipped_code was_skipped t refl)
        (λ j. settling (record { state = w j; answers = skipped (id-there j) (l j) ∷ [] })))

    -- "a must aborts R"
    pub must-decides : (y : Decision) → y ≡ plainly (Aborted i) (Abort x) → Decides h [] y (settling (abort (state_of h) (there h x)))
    must-decides y z =
        subst (λ (d : Decision). Decides h [] d (settling (abort (state_of h) (there h x)))) (sym z)
        (abort-decides h [] _ i x s id-there refl)

-- ---- what failed: a must, or a best-effort

module _ (t : ℕ) (a b : Result) where
  pub failed_must : t ≡ must_tag → a ≡ (if eqb t must_tag then a else b)
  failed_must e = rw (eq-eqb t must_tag e)

  pub failed_other : t ≢ must_tag → b ≡ (if eqb t must_tag then a else b)
  failed_other n = rw (ne_eqb t must_tag n)

-- ---- the tests of a report in turn

-- no command is in flight
pub idle : (h : HubState) (x : ℕ) (o : Unanswered) → UnansweredIs h x o → ((j : ℕ) → o ≡ InFlight j → ⊥) →
    flight (steps_at h x) ≡ None
idle h x Nothing k t = k.no_flight
idle h x (ToDo j) k t = k.no_flight
idle h x (InFlight j) k t = absurd (t j refl)

module _ (h : HubState) (i code : ℕ) (p : Option ℕ) (f : Finds h (runs i) p) (y : Decision) where
  refuses : (r : Refusal) → y ≡ plainly (Refused r) NoChange → turned_down r (state_of h) ≡ report_of (state_of h) i code →
      Decides h [] y (report_of (state_of h) i code)
  refuses r z e = subst (λ (d : Decision). Decides h [] d (report_of (state_of h) i code)) (sym z) (refused-decides h [] _ r e)

  -- 10: no running routine has this id
  pub report_nowhere : p ≡ None → y ≡ plainly (Refused NotRunning) NoChange → Decides h [] y (report_of (state_of h) i code)
  unfolding report_of
  report_nowhere e z = refuses NotRunning z (sym (ap (report_found (state_of h) code) (found_as h (runs i) p f None e)))

  module _ (x : ℕ) (e : p ≡ Some x) where
    -- the command in flight decides
    report_at : (o : Option Flight) → flight (steps_at h x) ≡ o →
        report_flight (state_of h) (there h x) code o ≡ report_of (state_of h) i code
    unfolding report_of
    report_at o q =
        let l = ap (λ (m : Member). m.steps) (there-it h x) ∙ member_steps h x in
        sym (ap (report_found (state_of h) code) (found_as h (runs i) p f (Some x) e)
        ∙ ap (report_flight (state_of h) (there h x) code) (ap flight l ∙ q))

    -- 12: none is in flight
    pub report-idle : flight (steps_at h x) ≡ None → y ≡ plainly (Refused NothingInFlight) NoChange →
        Decides h [] y (report_of (state_of h) i code)
    report-idle q z = refuses NothingInFlight z (report_at None q)

    module _ (k : ℕ) (o : NextInFlight h x k) where
      -- 13: a code that there is not
      pub report_code : code_failed < code → y ≡ plainly (Refused ReportCodeOutOfRange) NoChange →
          Decides h [] y (report_of (state_of h) i code)
      report_code l z = refuses ReportCodeOutOfRange z (rw (lt-ltb code_failed code l) at (report_at _ o.flight_is))

      report_on : code ≤ code_failed → reported (state_of h) (there h x) (flight_at h x k) code ≡ report_of (state_of h) i code
      report_on l = rw (le-ltb code_failed code l) at (report_at _ o.flight_is)

      -- code 0; code 1
      pub report-done : code ≤ code_failed → code ≡ code_done → Decides h [] y (settling (done_report (state_of h) (there h x))) →
          Decides h [] y (report_of (state_of h) i code)
      report-done l d = subst (Decides h [] y) (reported_done ∙ report_on l)
        where
          reported_done : settling (done_report (state_of h) (there h x)) ≡ reported (state_of h) (there h x) (flight_at h x k) code
          reported_done = rw (eq-eqb code code_done d)

      pub report_failed : code ≤ code_failed → code ≢ code_done →
          Decides h [] y (if is_must (command_at h k) then settling (abort (state_of h) (there h x))
          else settling (skip_report (state_of h) (there h x) (flight_at h x k))) →
          Decides h [] y (report_of (state_of h) i code)
      report_failed l n = subst (Decides h [] y) (reported_failed ∙ report_on l)
        where
          reported_failed : (if is_must (command_at h k) then settling (abort (state_of h) (there h x))
              else settling (skip_report (state_of h) (there h x) (flight_at h x k)))
              ≡ reported (state_of h) (there h x) (flight_at h x k) code
          reported_failed = rw (ne_eqb code code_done n)
