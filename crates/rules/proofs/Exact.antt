-- Each number under its cause alone, for the opening and every call of the hub: the theorems of specs/Causes.antt. Assumes nothing.
use Rattle.rules_routine.specs.declared.refusals.Refusal.TheVariants.{DevicesOutOfRange, PassLimitOutOfRange, FirstIdZero, CommandCount, DeviceNotBelow, SettingOutOfRange, TagOutOfRange, ConditionAlone, SequenceFull, IdsUsedUp, NotRunning, TurnInFlight, NothingInFlight, ReportCodeOutOfRange, EventDevice, FailureOfDown, RestartOfUp, RestartSetting}
use Rattle.std.proofs.Common.{Option, None, Some, Ok, Err}
use mathlib.Core.Path.{◌≡◌, refl, sym, ap, subst, ◌∙◌}
use mathlib.Core.Bool.{Bool, true, false, not}
use mathlib.Core.Logic.{◌⊎◌, inl, inr}
use mathlib.Core.List.{List, [], ◌∷◌, ◌++◌}
use Prim.Native.Nat.{ℕ, zero, suc, ◌<◌, ◌≤◌}
use native.Mathlib.Omega.{arith}
use lib.Dec.{leb, ltb, eqb}
use lib.IntN.{ℤ}
use lib.ListN.{length}
use Rattle.rules_routine.specs.Range.{in_range}
use Rattle.rules_routine.specs.Refusals.{refuse◌when◌, ◌and_then◌, Verdict}
use Rattle.rules_routine.specs.Limits.{max_commands, max_devices, highest_pass_limit, max_sequence, highest_id}
use Rattle.rules_routine.specs.Routine.{is_condition}
use Rattle.rules_routine.specs.Causes.{NoneOf, FirstIn, itself, OutOfRange, RoutineCause, command_causes, routine_causes}
use Rattle.rules_routine.specs.declared.Command.{Command}
use Rattle.rules_routine.specs.declared.refusals.Refusal.{Refusal}
use Rattle.rules_routine.proofs.Exact.{Decides, less, at_most, same, flag, either, both, agree, out_of_range, Outcome, passed, broken, one}
use Rattle.rules_routine.proofs.Exact.{join, exactly}
use Rattle.rules_routine.proofs.Exact.{Covers, widened, routine-outcome}
use Rattle.rules_routine.proofs.Exact as Made
use Rattle.rules.specs.Tables.{put}
use Rattle.rules.specs.State.{Status, to-do, in_flight, was_done, was_skipped, was_held}
use Rattle.rules.specs.State.{was_not_held}
use Rattle.rules.specs.State.{Step, Member}
use Rattle.rules.specs.State.{State}
use Rattle.rules.specs.Answers.{Call, submit, turn, report, failure, restart, cancel, limit, Answer, refused, placed, wait, send}
use Rattle.rules.specs.Answers.{done}
use Rattle.rules.specs.Answers.{skipped, committed}
use Rattle.rules.specs.Answers.{held, not_held, aborted, down, up, limited, Result, turned_down, unless_refused}
use Rattle.rules.specs.Progress.{is_must, next, next_counts_as_must, next_is_skipped, Flight, flight_or, flight}
use Rattle.rules.specs.Sequence.{Found, onto, find, is_running, runs, with_up}
use Rattle.rules.specs.Settle.{settling}
use Rattle.rules.specs.Abort.{abort}
use Rattle.rules.specs.Open.{opened, not_opened, open_check, new_hub, open_if, open_of}
use Rattle.rules.specs.Submit.{submit_check, submit_of}
use Rattle.rules.specs.Turn.{first_holding, commit_turn, send_turn, skip_turn, is_held, held_turn, not_held_turn, proceed_up, proceed, wait_or}
use Rattle.rules.specs.Turn.{turn_next, turn_flight, turn_found, turn_of}
use Rattle.rules.specs.Report.{code_done, code_failed, done_report, skip_report, reported, report_flight, report_found, report_of}
use Rattle.rules.specs.Events.{is_halfway, must_left, stop_if_any, stop_halfway, failure_result, restart_result, failure_of, restart_of}
use Rattle.rules.specs.Cancel.{cancel_found, cancel_of}
use Rattle.rules.specs.Limit.{new_limit_check, limit_of}
use Rattle.rules.specs.Calls.{result_of}
use Rattle.rules.specs.Causes.{RunsUnder, NoneRunsUnder, InFlight, OneInFlight, NoneInFlight, IsRefusal, opening_causes, call_causes}
use Rattle.rules.specs.Causes.{OpeningCause, devices_are_out, limit_is_out, id_is_0}
use Rattle.rules.specs.Causes.{CallCause, routine_is_out, is_full, ids_are_used_up, turn_of_none, cancel_of_none, report_on_none}
use Rattle.rules.specs.Causes.{one_flies}
use Rattle.rules.specs.Causes.{none_flies, code_is_out, failure_is_out, restart_is_out, is_down, is_up, restart_setting_is_out}
use Rattle.rules.specs.Causes.{no_hub_to_limit, new_limit_is_out}
use Rattle.rules.specs.Causes.{ExactOpening, ExactCall, ExactSubmission, ExactTurn, ExactReport, ExactCancel, ExactFailure}
use Rattle.rules.specs.Causes.{ExactRestart, ExactLimit}
use Rattle.rules.proofs.Lists.{by_if, t≠f}
use Rattle.rules.proofs.LimitLaws.{in_force}

-- ---- the first of a list

first-not-none : {A : Type 0} (P : A → Type 0) (x : A) (before after : List A) → P x → NoneOf P (before ++ (x ∷ after)) → ⊥
first-not-none P x [] after h n = n.0 h
first-not-none P x (y ∷ before) after h n = first-not-none P x before after h n.1

-- where one of the list is such, not none is
pub some_not-none : {A : Type 0} (P : A → Type 0) (l : List A) (x : A) → FirstIn P l x → NoneOf P l → ⊥
some_not-none P l x f n = first-not-none P x f.before f.after f.holds (subst (NoneOf P) f.order n)

same_split : {A : Type 0} (P : A → Type 0) (x y : A) (a b c d : List A) →
    a ++ (x ∷ b) ≡ c ++ (y ∷ d) → P x → P y → NoneOf P a → NoneOf P c → x ≡ y
same_split P x y [] b [] d e p q n m = cc
same_split P x y [] b (z ∷ c) d e p q n m = let f : x ≡ z = cc in absurd (m.0 (subst P f p))
same_split P x y (z ∷ a) b [] d e p q n m = let f : y ≡ z = cc in absurd (n.0 (subst P f q))
same_split P x y (z ∷ a) b (w ∷ c) d e p q n m = let f : a ++ (x ∷ b) ≡ c ++ (y ∷ d) = cc in same_split P x y a b c d f p q n.1 m.1

-- there is one first
pub one-first : {A : Type 0} (P : A → Type 0) (l : List A) (x y : A) → FirstIn P l x → FirstIn P l y → x ≡ y
one-first P l x y f g =
    same_split P x y f.before f.after g.before g.after (sym f.order ∙ g.order)
    f.holds g.holds f.earlier g.earlier

-- the first behind one that is no such
first-behind : {A : Type 0} (P : A → Type 0) (y : A) (l : List A) (x : A) → ¬ (P y) → FirstIn P l x → FirstIn P (y ∷ l) x
first-behind {A = A} P y l x n f = record {
  before = y ∷ f.before;
  after = f.after;
  order = ap (λ (k : List A). y ∷ k) f.order;
  holds = f.holds;
  earlier = (n, f.earlier);
}

first_at_once : {A : Type 0} (P : A → Type 0) (l : List A) (x : A) → P x → FirstIn P (x ∷ l) x
first_at_once P l x h = record { before = []; after = l; order = refl; holds = h; earlier = tt }

-- ---- finding a routine, and its command in flight

data Located (P : Member → Type 0) (l : List Member) : Option Found → Type 0 where
  missing : NoneOf P l → Located P l None
  located : (f : Found) → FirstIn P l f.it → Located P l (Some f)

locate : (p : Member → Bool) (P : Member → Type 0) → ((m : Member) → Decides (p m) (P m)) → (l : List Member) → Located P l (find p l)
locate p P d [] = missing tt
locate p P d (m ∷ l) =
    by_if (Located P (m ∷ l)) (p m) (λ t. located _ (first_at_once P l m ((d m).met t))) (λ t. further ((d m).unmet t) (locate p P d l))
  where
    further : ¬ (P m) → {o : Option Found} → Located P l o → Located P (m ∷ l) (onto m o)
    further n (missing k) = missing (n, k)
    further n (located f k) = located _ (first-behind P m l f.it n k)

-- a flag turned round
turned : (t : Bool) → Decides (not t) (t ≡ false)
turned true = record { met = λ e. sym e; unmet = λ e h. t≠f h }
turned false = record { met = λ e. refl; unmet = λ e h. t≠f e }

-- the test of the rules and the words of the table
runs-said : (i : ℕ) (m : Member) → Decides (runs i m) (RunsUnder i m)
unfolding runs is_running
runs-said i m = both _ _ (same m.id i) (turned m.committed)

data Flown (l : List Step) : Option Flight → Type 0 where
  on_ground : NoneOf InFlight l → Flown l None
  on_way : (x : Flight) (y : Step) → FirstIn InFlight l y → Flown l (Some x)

not-flying : (x : Step) (st : Status) → x.status ≡ st → ((u : ℤ) → st ≡ in_flight u → ⊥) → ¬ (InFlight x)
not-flying x st e n h = n h.0 (sym e ∙ h.1)

see_flight : (l : List Step) → Flown l (flight l)
see_flight [] = on_ground tt
see_flight (x ∷ l) = go (see_flight l) x.status refl
  where
    behind : {o : Option Flight} → ¬ (InFlight x) → Flown l o → Flown (x ∷ l) o
    behind n (on_ground k) = on_ground (n, k)
    behind n (on_way y z k) = on_way y z (first-behind InFlight x l z n k)

    go : {o : Option Flight} → Flown l o → (st : Status) → x.status ≡ st → Flown (x ∷ l) (flight_or x st o)
    go f to-do e = behind (not-flying x _ e (λ u h. let z : ◌≡◌ {A = ℕ} 0 1 = cc in absurd (omega arith))) f
    go f (in_flight u) e = on_way _ x (first_at_once InFlight l x (u, e))
    go f was_done e = behind (not-flying x _ e (λ u h. let z : ◌≡◌ {A = ℕ} 0 1 = cc in absurd (omega arith))) f
    go f was_skipped e = behind (not-flying x _ e (λ u h. let z : ◌≡◌ {A = ℕ} 0 1 = cc in absurd (omega arith))) f
    go f was_held e = behind (not-flying x _ e (λ u h. let z : ◌≡◌ {A = ℕ} 0 1 = cc in absurd (omega arith))) f
    go f was_not_held e = behind (not-flying x _ e (λ u h. let z : ◌≡◌ {A = ℕ} 0 1 = cc in absurd (omega arith))) f

-- ---- answers that are no refusal

abbrev is_refused : Answer → Bool
is_refused (refused r) = true
is_refused (placed i j) = false
is_refused (wait i j) = false
is_refused (send i c) = false
is_refused (done i) = false
is_refused (skipped i l) = false
is_refused (held i) = false
is_refused (not_held i) = false
is_refused (committed i) = false
is_refused (aborted i l) = false
is_refused (down d i) = false
is_refused (up d i) = false
is_refused (limited k) = false

no_refusal : (a : Answer) → is_refused a ≡ false → ¬ (IsRefusal a)
no_refusal a e h = t≠f (sym (ap is_refused h.1) ∙ e)

no_refusal_last : (l : List Answer) (a : Answer) → NoneOf IsRefusal l → is_refused a ≡ false → NoneOf IsRefusal (l ++ (a ∷ []))
no_refusal_last [] a n e = (no_refusal a e, tt)
no_refusal_last (x ∷ l) a n e = (n.0, no_refusal_last l a n.1 e)

abort_fine : (s : State) (f : Found) → NoneOf IsRefusal (abort s f).answers
unfolding abort
abort_fine s f = (no_refusal _ refl, tt)

-- ---- from the verdict of the tests to the theorem

-- the result that a verdict on a call leaves
abbrev Judged : Verdict → State → Result → Type 0
Judged (Ok tt) s result = NoneOf IsRefusal result.answers
Judged (Err r) s result = result ≡ turned_down r s

-- the verdict on a call, as its tests make it, and the result under it
record Verdicted (s : State) (c : Call) (result : Result) : Type 0 where
  verdict : Verdict
  made : Outcome (CallCause s c) itself (call_causes c) verdict
  judged : Judged verdict s result

judged_unless : (v : Verdict) (s : State) (result : Result) → NoneOf IsRefusal result.answers → Judged v s (unless_refused v s result)
judged_unless (Ok tt) s result n = n
judged_unless (Err r) s result n = refl

refusal_told : (r x : Refusal) (l : List Answer) → l ≡ refused x ∷ [] → l ≡ refused r ∷ [] → x ≡ r
refusal_told r x l e f = let g : refused x ∷ [] ≡ refused r ∷ [] = sym e ∙ f in cc

exact-call : (s : State) (c : Call) (v : Verdict) →
    Outcome (CallCause s c) itself (call_causes c) v → Judged v s (result_of s c) → ExactCall s c
exact-call s c (Ok tt) o j = record {
  exact = exactly (CallCause s c) itself (call_causes c) (Ok tt) o
      (λ r e. absurd (None r e)) (λ r e. let z : ◌≡◌ {A = ℕ} 0 1 = cc in absurd (omega arith)) (λ _. refl) (λ _. j);
  left_as_it_was = λ r e. absurd (None r e);
}
  where
    None : (r : Refusal) → (result_of s c).answers ≡ refused r ∷ [] → ⊥
    None r e = (subst (NoneOf IsRefusal) e j).0 (r, refl)
exact-call s c (Err x) o j = record {
  exact = exactly (CallCause s c) itself (call_causes c) (Err x) o
      (λ r e. ap Err (refusal_told r x _ (ap (λ (k : Result). k.answers) j) e))
      (λ r e. let f : x ≡ r = cc in ap (λ (k : Result). k.answers) j ∙ ap (λ (y : Refusal). refused y ∷ []) f)
      (λ n. absurd ((subst (NoneOf IsRefusal) (ap (λ (k : Result). k.answers) j) n).0 (x, refl)))
      (λ e. let z : ◌≡◌ {A = ℕ} 0 1 = cc in absurd (omega arith));
  left_as_it_was = λ r e. ap (λ (k : Result). k.state) j;
}

-- ---- the opening

module _ (n k first : ℕ) where
  devices-said : OpeningCause n k first DevicesOutOfRange → (n ≡ 0) ⊎ (max_devices < n)
  devices-said (devices_are_out h) = h

  limit-said : OpeningCause n k first PassLimitOutOfRange → highest_pass_limit < k
  limit-said (limit_is_out h) = h

  id-said : OpeningCause n k first FirstIdZero → first ≡ 0
  id-said (id_is_0 h) = h

  opening-outcome : Outcome (OpeningCause n k first) itself opening_causes (open_check n k first)
  unfolding open_check
  opening-outcome =
      let H = OpeningCause n k first in
      join H itself (one H itself DevicesOutOfRange _ (agree (either _ _ (same n 0) (less max_devices n)) devices_are_out devices-said))
      (λ _. join H itself (one H itself PassLimitOutOfRange _ (agree (less highest_pass_limit k) limit_is_out limit-said))
      (λ _. one H itself FirstIdZero _ (agree (same first 0) id_is_0 id-said)))

-- what the opening gives says the same as its verdict
pub refused-opening : (v : Verdict) (s : State) (r : Refusal) → open_if v s ≡ not_opened r → v ≡ Err r
refused-opening (Ok tt) s r e = let z : ◌≡◌ {A = ℕ} 0 1 = cc in absurd (omega arith)
refused-opening (Err x) s r e = let f : x ≡ r = cc in ap Err f

pub accepted-opening : (v : Verdict) (s t : State) → open_if v s ≡ opened t → v ≡ Ok tt
accepted-opening (Ok tt) s t e = refl
accepted-opening (Err x) s t e = let z : ◌≡◌ {A = ℕ} 0 1 = cc in absurd (omega arith)

-- the hub that an opening gives is the new one
pub opened_new : (n k first : ℕ) (s : State) → open_of n k first ≡ opened s → open_of n k first ≡ opened (new_hub n k first)
unfolding open_of
opened_new n k first s e =
    let new = new_hub n k first in
    ap (λ (v : Verdict). open_if v new) (accepted-opening (open_check n k first) new s e)

pub exact-opening : ExactOpening
unfolding open_of
exact-opening n k first =
    let v = open_check n k first in
    let s = new_hub n k first in
    exactly (OpeningCause n k first) itself opening_causes v (opening-outcome n k first)
    (refused-opening v s) (λ r e. ap (λ (x : Verdict). open_if x s) e) (accepted-opening v s s) (λ e. ap (λ (x : Verdict). open_if x s) e)

-- ---- submission

module _ (s : State) (cs : List Command) where
  full-said : CallCause s (submit cs) SequenceFull → max_sequence ≤ length s.sequence
  full-said (is_full h) = h
  full-said (routine_is_out h) = absurd (no-routine h)
    where
      no-routine : RoutineCause s.devices cs SequenceFull → ⊥
      no-routine = elim [ ]

  ids_said : CallCause s (submit cs) IdsUsedUp → highest_id < s.next_id
  ids_said (ids_are_used_up h) = h
  ids_said (routine_is_out h) = absurd (no-routine h)
    where
      no-routine : RoutineCause s.devices cs IdsUsedUp → ⊥
      no-routine = elim [ ]

  count-said : CallCause s (submit cs) CommandCount → RoutineCause s.devices cs CommandCount
  count-said (routine_is_out h) = h

  device-said : (i : ℕ) → CallCause s (submit cs) (DeviceNotBelow i) → RoutineCause s.devices cs (DeviceNotBelow i)
  device-said i (routine_is_out h) = h

  setting-said : (i : ℕ) → CallCause s (submit cs) (SettingOutOfRange i) → RoutineCause s.devices cs (SettingOutOfRange i)
  setting-said i (routine_is_out h) = h

  tag_said : (i : ℕ) → CallCause s (submit cs) (TagOutOfRange i) → RoutineCause s.devices cs (TagOutOfRange i)
  tag_said i (routine_is_out h) = h

  alone_said : (i : ℕ) → CallCause s (submit cs) (ConditionAlone i) → RoutineCause s.devices cs (ConditionAlone i)
  alone_said i (routine_is_out h) = h

  commands-said : (i n : ℕ) → Covers (RoutineCause s.devices cs) (CallCause s (submit cs)) (command_causes i n)
  unfolding command_causes
  commands-said i zero = tt
  commands-said i (suc n) = (device-said i, (setting-said i, (tag_said i, (alone_said i, commands-said (suc i) n))))

  routine-said : Covers (RoutineCause s.devices cs) (CallCause s (submit cs)) routine_causes
  unfolding routine_causes
  routine-said = (count-said, commands-said 0 max_commands)

  submit-outcome : Outcome (CallCause s (submit cs)) itself (call_causes (submit cs)) (submit_check s cs)
  unfolding submit_check
  submit-outcome =
      let H = CallCause s (submit cs) in
      let R = RoutineCause s.devices cs in
      join H itself (widened R H itself (λ c h. routine_is_out h) routine-said (routine-outcome s.devices cs))
      (λ _. join H itself (one H itself SequenceFull _ (agree (at_most max_sequence (length s.sequence)) is_full full-said))
      (λ _. one H itself IdsUsedUp _ (agree (less highest_id s.next_id) ids_are_used_up ids_said)))

submit_judged : (s : State) (cs : List Command) → Judged (submit_check s cs) s (submit_of s cs)
unfolding submit_of
submit_judged s cs = judged_unless (submit_check s cs) s _ (no_refusal _ refl, tt)

-- ---- turn, report and cancel

module _ (s : State) (i : ℕ) where
  -- the result of a turn that is made
  up_fine : (f : Found) (c : Command) → NoneOf IsRefusal (proceed_up s f c).answers
  unfolding send_turn held_turn not_held_turn
  up_fine f c =
      by_if (λ (r : Result). NoneOf IsRefusal r.answers) (is_condition c)
      (λ _. by_if (λ (r : Result). NoneOf IsRefusal r.answers) (is_held s c) (λ _. (no_refusal _ refl, tt)) (λ _. (no_refusal _ refl, tt)))
      (λ _. (no_refusal _ refl, tt))

  proceed_fine : (f : Found) (c : Command) → NoneOf IsRefusal (proceed s f c).answers
  unfolding skip_turn
  proceed_fine f c =
      by_if (λ (r : Result). NoneOf IsRefusal r.answers) (next_is_skipped false f.it.steps) (λ _. (no_refusal _ refl, tt))
      (λ _. by_if (λ (r : Result). NoneOf IsRefusal r.answers) (s.up c.device) (λ _. up_fine f c)
      (λ _. by_if (λ (r : Result). NoneOf IsRefusal r.answers) (next_counts_as_must f.it.steps) (λ _. abort_fine s f)
      (λ _. (no_refusal _ refl, tt))))

  wait_fine : (f : Found) (c : Command) (o : Option ℕ) → NoneOf IsRefusal (wait_or s f c o).answers
  wait_fine f c None = proceed_fine f c
  wait_fine f c (Some j) = (no_refusal _ refl, tt)

  next_fine : (f : Found) (o : Option Command) → NoneOf IsRefusal (turn_next s f o).answers
  unfolding commit_turn
  next_fine f None = (no_refusal _ refl, tt)
  next_fine f (Some c) = wait_fine f c (first_holding c.device (is_condition c) f.ahead)

  turn-none-said : CallCause s (turn i) NotRunning → NoneRunsUnder s i
  turn-none-said (turn_of_none h) = h

  turn_flies_said : CallCause s (turn i) TurnInFlight → OneInFlight s i
  turn_flies_said (one_flies h) = h

  turn_flown : (f : Found) → FirstIn (RunsUnder i) s.sequence f.it → {o : Option Flight} → Flown f.it.steps o →
      Verdicted s (turn i) (turn_flight s f o)
  turn_flown f p (on_way x y q) = record {
    verdict = Err TurnInFlight;
    made = passed (λ h. some_not-none (RunsUnder i) s.sequence f.it p (turn-none-said h)) (broken (one_flies (f.it, p, y, q)));
    judged = refl;
  }
  turn_flown f p (on_ground n) = record {
    verdict = (Ok tt);
    made = passed (λ h. some_not-none (RunsUnder i) s.sequence f.it p (turn-none-said h))
        (passed (λ h. idle (turn_flies_said h)) Made.none);
    judged = next_fine f (next f.it.steps);
  }
    where
      idle : OneInFlight s i → ⊥
      idle h =
          let e : h.0 ≡ f.it = one-first (RunsUnder i) s.sequence h.0 f.it h.1 p in
          some_not-none InFlight h.0.steps h.2 h.3 (subst (λ (m : Member). NoneOf InFlight m.steps) (sym e) n)

  turn_located : {o : Option Found} → Located (RunsUnder i) s.sequence o → Verdicted s (turn i) (turn_found s o)
  turn_located (missing n) = record { verdict = Err NotRunning; made = broken (turn_of_none n); judged = refl }
  turn_located (located f p) = turn_flown f p (see_flight f.it.steps)

  -- a cancel
  cancel-none-said : CallCause s (cancel i) NotRunning → NoneRunsUnder s i
  cancel-none-said (cancel_of_none h) = h

  cancel_located : {o : Option Found} → Located (RunsUnder i) s.sequence o → Verdicted s (cancel i) (cancel_found s o)
  cancel_located (missing n) = record { verdict = Err NotRunning; made = broken (cancel_of_none n); judged = refl }
  cancel_located (located f p) = record {
    verdict = (Ok tt);
    made = passed (λ h. some_not-none (RunsUnder i) s.sequence f.it p (cancel-none-said h)) Made.none;
    judged = abort_fine s f;
  }

  -- a report
  module _ (code : ℕ) where
    report-none-said : CallCause s (report i code) NotRunning → NoneRunsUnder s i
    report-none-said (report_on_none h) = h

    none_flies_said : CallCause s (report i code) NothingInFlight → NoneInFlight s i
    none_flies_said (none_flies h) = h

    code_said : CallCause s (report i code) ReportCodeOutOfRange → code_failed < code
    code_said (code_is_out h) = h

    reported_fine : (f : Found) (x : Flight) → NoneOf IsRefusal (reported s f x code).answers
    unfolding done_report skip_report
    reported_fine f x =
        by_if (λ (r : Result). NoneOf IsRefusal r.answers) (eqb code code_done) (λ _. (no_refusal _ refl, tt))
        (λ _. by_if (λ (r : Result). NoneOf IsRefusal r.answers) (is_must x.command) (λ _. abort_fine s f)
        (λ _. (no_refusal _ refl, tt)))

    report_flown : (f : Found) → FirstIn (RunsUnder i) s.sequence f.it → {o : Option Flight} → Flown f.it.steps o →
        Verdicted s (report i code) (report_flight s f code o)
    report_flown f p (on_ground n) = record {
      verdict = Err NothingInFlight;
      made = passed (λ h. some_not-none (RunsUnder i) s.sequence f.it p (report-none-said h)) (broken (none_flies (f.it, p, n)));
      judged = refl;
    }
    report_flown f p (on_way x y q) = record {
      verdict = refuse ReportCodeOutOfRange when ltb code_failed code;
      made = passed (λ h. some_not-none (RunsUnder i) s.sequence f.it p (report-none-said h))
          (passed (λ h. flying (none_flies_said h))
          (one (CallCause s (report i code)) itself ReportCodeOutOfRange _ (agree (less code_failed code) code_is_out code_said)));
      judged = judged_unless (refuse ReportCodeOutOfRange when ltb code_failed code) s _ (reported_fine f x);
    }
      where
        flying : NoneInFlight s i → ⊥
        flying h =
            let e : h.0 ≡ f.it = one-first (RunsUnder i) s.sequence h.0 f.it h.1 p in
            some_not-none InFlight f.it.steps y q (subst (λ (m : Member). NoneOf InFlight m.steps) e h.2)

    report_located : {o : Option Found} → Located (RunsUnder i) s.sequence o → Verdicted s (report i code) (report_found s code o)
    report_located (missing n) = record { verdict = Err NotRunning; made = broken (report_on_none n); judged = refl }
    report_located (located f p) = report_flown f p (see_flight f.it.steps)

-- the routine that a call names
name : (s : State) (i : ℕ) → Located (RunsUnder i) s.sequence (find (runs i) s.sequence)
name s i = locate (runs i) (RunsUnder i) (runs-said i) s.sequence

turn_verdicted : (s : State) (i : ℕ) → Verdicted s (turn i) (turn_of s i)
unfolding turn_of
turn_verdicted s i = turn_located s i (name s i)

report_verdicted : (s : State) (i code : ℕ) → Verdicted s (report i code) (report_of s i code)
unfolding report_of
report_verdicted s i code = report_located s i code (name s i)

cancel_verdicted : (s : State) (i : ℕ) → Verdicted s (cancel i) (cancel_of s i)
unfolding cancel_of
cancel_verdicted s i = cancel_located s i (name s i)

-- ---- failure and restart

-- the abort that comes first is no refusal
halfway_fine : (d : ℕ) (s : State) → NoneOf IsRefusal (stop_halfway d s).answers
unfolding stop_halfway
halfway_fine d s = go (find (is_halfway d) s.sequence)
  where
    go : (o : Option Found) → NoneOf IsRefusal (stop_if_any d s o).answers
    go None = tt
    go (Some f) = by_if (λ (r : Result). NoneOf IsRefusal r.answers) (must_left d f.it) (λ _. abort_fine s f) (λ _. tt)

-- the verdicts on them, as the rules have them
abbrev failure_verdict : State → ℕ → Verdict
failure_verdict s d = refuse EventDevice when leb s.devices d and_then refuse FailureOfDown when not (s.up d)

abbrev restart_verdict : State → ℕ → ℤ → Verdict
restart_verdict s d v =
    refuse EventDevice when leb s.devices d
    and_then refuse RestartOfUp when s.up d
    and_then refuse RestartSetting when not (in_range v)

module _ (s : State) (d : ℕ) where
  failure-device-said : CallCause s (failure d) EventDevice → s.devices ≤ d
  failure-device-said (failure_is_out h) = h

  down-said : CallCause s (failure d) FailureOfDown → s.up d ≡ false
  down-said (is_down h) = h

  failure_fine : NoneOf IsRefusal (failure_result s d).answers
  unfolding failure_result
  failure_fine =
      let failed = with_up s (put s.up d false) in
      let r = stop_halfway d failed in
      no_refusal_last r.answers (down d (r.state.mark d)) (halfway_fine d failed) refl

  failure-outcome : Outcome (CallCause s (failure d)) itself (call_causes (failure d)) (failure_verdict s d)
  failure-outcome =
      let H = CallCause s (failure d) in
      join H itself (one H itself EventDevice _ (agree (at_most s.devices d) failure_is_out failure-device-said))
      (λ _. one H itself FailureOfDown _ (agree (turned (s.up d)) is_down down-said))

  module _ (v : ℤ) where
    restart-device-said : CallCause s (restart d v) EventDevice → s.devices ≤ d
    restart-device-said (restart_is_out h) = h

    up-said : CallCause s (restart d v) RestartOfUp → s.up d ≡ true
    up-said (is_up h) = h

    restart-setting-said : CallCause s (restart d v) RestartSetting → OutOfRange v
    restart-setting-said (restart_setting_is_out h) = h

    restart_fine : NoneOf IsRefusal (restart_result s d v).answers
    unfolding restart_result
    restart_fine =
        let r = stop_halfway d s in
        no_refusal_last r.answers (up d (r.state.mark d)) (halfway_fine d s) refl

    restart-outcome : Outcome (CallCause s (restart d v)) itself (call_causes (restart d v)) (restart_verdict s d v)
    restart-outcome =
        let H = CallCause s (restart d v) in
        join H itself (one H itself EventDevice _ (agree (at_most s.devices d) restart_is_out restart-device-said))
        (λ _. join H itself (one H itself RestartOfUp _ (agree (flag (s.up d)) is_up up-said))
        (λ _. one H itself RestartSetting _ (agree (out_of_range v) restart_setting_is_out restart-setting-said)))

failure_judged : (s : State) (d : ℕ) → Judged (failure_verdict s d) s (failure_of s d)
unfolding failure_of
failure_judged s d = judged_unless (failure_verdict s d) s (settling (failure_result s d)) (failure_fine s d)

restart_judged : (s : State) (d : ℕ) (v : ℤ) → Judged (restart_verdict s d v) s (restart_of s d v)
unfolding restart_of
restart_judged s d v = judged_unless (restart_verdict s d v) s (settling (restart_result s d v)) (restart_fine s d v)

-- ---- a new pass limit

no_hub-said : (s : State) (k : ℕ) → CallCause s (limit k) DevicesOutOfRange → (s.devices ≡ 0) ⊎ (max_devices < s.devices)
no_hub-said s k (no_hub_to_limit h) = h

new_limit-said : (s : State) (k : ℕ) → CallCause s (limit k) PassLimitOutOfRange → highest_pass_limit < k
new_limit-said s k (new_limit_is_out h) = h

limit-outcome : (s : State) (k : ℕ) → Outcome (CallCause s (limit k)) itself (call_causes (limit k)) (new_limit_check s.devices k)
limit-outcome s k =
    let H = CallCause s (limit k) in
    let n = s.devices in
    join H itself
    (one H itself DevicesOutOfRange _ (agree (either _ _ (same n 0) (less max_devices n)) no_hub_to_limit (no_hub-said s k)))
    (λ _. one H itself PassLimitOutOfRange _ (agree (less highest_pass_limit k) new_limit_is_out (new_limit-said s k)))

limit_judged : (s : State) (k : ℕ) → Judged (new_limit_check s.devices k) s (limit_of s k)
unfolding limit_of
limit_judged s k = judged_unless (new_limit_check s.devices k) s (in_force s k) (no_refusal _ refl, tt)

-- ---- the theorems

-- every call has its verdict
judge : (s : State) (c : Call) → Verdicted s c (result_of s c)
judge s (submit cs) = record { verdict = submit_check s cs; made = submit-outcome s cs; judged = submit_judged s cs }
judge s (turn i) = turn_verdicted s i
judge s (report i code) = report_verdicted s i code
judge s (failure d) = record { verdict = failure_verdict s d; made = failure-outcome s d; judged = failure_judged s d }
judge s (restart d v) = record { verdict = restart_verdict s d v; made = restart-outcome s d v; judged = restart_judged s d v }
judge s (cancel i) = cancel_verdicted s i
judge s (limit k) = record { verdict = new_limit_check s.devices k; made = limit-outcome s k; judged = limit_judged s k }

pub exact-calls : (s : State) (c : Call) → ExactCall s c
exact-calls s c = let j = judge s c in exact-call s c j.verdict j.made j.judged

pub exact_submission : ExactSubmission
exact_submission s cs = exact-calls s (submit cs)

pub exact-turn : ExactTurn
exact-turn s i = exact-calls s (turn i)

pub exact-report : ExactReport
exact-report s i code = exact-calls s (report i code)

pub exact-cancel : ExactCancel
exact-cancel s i = exact-calls s (cancel i)

pub exact-failure : ExactFailure
exact-failure s d = exact-calls s (failure d)

pub exact-restart : ExactRestart
exact-restart s d v = exact-calls s (restart d v)

pub exact-limit : ExactLimit
exact-limit s k = exact-calls s (limit k)

-- ---- one refusal, or none

-- The answers of a call are one refusal, or hold none.
abbrev pub RefusedOrNot : List Answer → Type 0
RefusedOrNot l = ((r : Refusal) × (l ≡ refused r ∷ [])) ⊎ NoneOf IsRefusal l

pub refused_or_not : (s : State) (c : Call) → RefusedOrNot (result_of s c).answers
refused_or_not s c = go (judge s c)
  where
    either_way : (v : Verdict) → Judged v s (result_of s c) → RefusedOrNot (result_of s c).answers
    either_way (Ok tt) j = inr j
    either_way (Err r) j = inl (r, ap (λ (k : Result). k.answers) j)

    go : Verdicted s c (result_of s c) → RefusedOrNot (result_of s c).answers
    go v = either_way v.verdict v.judged
