-- What is told is what the hub holds; rounds exist after every list of calls, and so a schedule can always go on; the computed schedules of
-- `Schedules.antt` are schedules. Assumes nothing.
use Rattle.std.proofs.Common.{Option, None, Some, Ok}
use mathlib.Core.Path.{◌≡◌, refl, sym, ap, ◌∙◌, subst}
use mathlib.Core.Logic.{◌≢◌}
use mathlib.Core.Bool.{Bool, true, false, not, ◌&&◌, ◌||◌, and_assoc}
use mathlib.Core.List.{List, [], ◌∷◌, ◌++◌, map, append_assoc}
use Prim.Native.Nat.{ℕ, zero, suc, ◌+◌, ◌≤◌}
use native.Mathlib.Omega.{arith}
use borrow.Author.Tests.{eqb-true, eqb-false, eq-eqb, ne_eqb, le-ltb, not-true}
use lib.Dec.{eqb}
use Rattle.std.specs.Prelude.{if◌then◌else◌}
use Rattle.rules_routine.specs.Routine.{is_condition}
use Rattle.rules_routine.specs.declared.Command.{Command}
use Rattle.rules_routine.proofs.RoutineLaws.{by_test}
use Rattle.rules.specs.Tables.{any_of, put}
use Rattle.rules.specs.State.{Status, to-do, in_flight, was_done, was_skipped, was_held, was_not_held, Step, Member, State}
use Rattle.rules.specs.Answers.{Call, submit, turn, report, limit, placed, limited, Result}
use Rattle.rules.specs.Progress.{is_must, next_counts_as_must, next_is_skipped, is_in_flight, next, Flight, flight_or, flight}
use Rattle.rules.specs.Sequence.{Found, find, is_running, runs}
use Rattle.rules.specs.Abort.{abort}
use Rattle.rules.specs.Open.{opened, limit_check, new_hub, open_of}
use Rattle.rules.specs.Limit.{new_limit_check, with_pass_limit}
use Rattle.rules.specs.Turn.{first_holding, commit_turn, send_turn, skip_turn, is_held, held_turn, not_held_turn, turn_next, wait_or}
use Rattle.rules.specs.Turn.{turn_found, turn_of}
use Rattle.rules.specs.Report.{code_done, code_failed, done_report, skip_report, report_found, report_of}
use Rattle.rules.specs.Calls.{result_of, state_after}
use Rattle.rules.specs.History.{Told, Account, accounts_of}
use Rattle.rules.specs.World.{is_accepted}
use Rattle.rules.specs.Rounds.{calls_told, told_then, flying_of, idle_of, limit_told, accepted_in, times, EachOnce, Round, a_submission}
use Rattle.rules.specs.Rounds.{Schedule, begins, between, a_new_limit, a_round, enough_rounds, ToldIsHeld}
use Rattle.rules.specs.Rounds.{AnyOrder, RoundsExist}
use Rattle.rules.proofs.Lists.{by_if, t≠f, and_left, and_right, put_other, each_left, IsNot, NotIn, IdsOk}
use Rattle.rules_promises.proofs.Groups.{Group, members, ids, found_at, ids_++, other_ids}
use Rattle.rules_promises.proofs.Invariant.{HubOk}
use Rattle.rules_promises.proofs.View.{by_turn, by_report, by_cancel, places, commits, sends, passes, dones, misses, aborts}
use Rattle.rules_promises.proofs.View.{fails, restarts, Seen, is-refused, waits, limits, moves, see}
use Rattle.rules.proofs.Schedules.{has_flight, is_flying, is_idle, ids_with, turns_at, reports_at, all_done, busy, Sitting}
use Rattle.rules.proofs.Schedules.{opens_at}
use Rattle.rules.proofs.Schedules.{placing, placed_state, rounds_of, changed, told_after}
use Rattle.rules.proofs.Schedules.{lowered, lowered_to, after_lowering, lowered_placed}
use Rattle.rules.proofs.Schedules.{overtaken, overtaken_placed, calc_rounds}
use Rattle.rules_promises.proofs.Running.{pass-noted, has, Tells, none_has}
use Rattle.rules_promises.proofs.Ready.{Ready, saying, ready_seen, ready_opened, ready_calls, opened-limit}
use Rattle.rules_promises.proofs.Waiting.{told_by_calls, state-calls, limit_is}
use Rattle.rules.proofs.LimitLaws.{limit_passes}
use Rattle.rules_promises.proofs.Theorem.{devices-kept, settle-none}
use Rattle.rules_promises.proofs.Measured.{Asks}

-- ---- the routines that a round is about

-- each stands there once
ids_once : (q : Member → Bool) (n : ℕ) (l : List Group) → IdsOk n (ids l) → (i : ℕ) →
    times i (ids_with q (members l)) ≡ (if any_of (has q i) l then 1 else 0)
ids_once q n [] d i = refl
ids_once q n (g ∷ l) d i = go (eqb g.member.id i) refl (q g.member) (ids_once q n l d.3 i)
  where
    one : Bool → ℕ
    one t = if t then 1 else 0

    go : (t : Bool) → eqb g.member.id i ≡ t → (b : Bool) → times i (ids_with q (members l)) ≡ one (any_of (has q i) l) →
        times i (if b then g.member.id ∷ ids_with q (members l) else ids_with q (members l)) ≡ one ((t && b) || any_of (has q i) l)
    go true e true h =
        rw e (ap suc (h ∙ ap one (none_has q i l (subst (λ j. NotIn j (ids l)) (eqb-true g.member.id i e) d.2))))
    go true e false h = h
    go false e true h = rw e h
    go false e false h = h

-- who runs and has nothing in flight, told by the answers
idle_any : (n : ℕ) (l : List Group) → IdsOk n (ids l) → (i : ℕ) →
    (any_of (has is_running i) l && not (any_of (has is_flying i) l)) ≡ any_of (has is_idle i) l
unfolding is_flying is_idle
idle_any n [] d i = refl
idle_any n (g ∷ l) d i = go (eqb g.member.id i) refl (idle_any n l d.3 i)
  where
    own : (r f : Bool) → ((r || false) && not ((r && f) || false)) ≡ ((r && not f) || false)
    own true true = refl
    own true false = refl
    own false f = refl

    go : (t : Bool) → eqb g.member.id i ≡ t → (any_of (has is_running i) l && not (any_of (has is_flying i) l)) ≡ any_of (has is_idle i) l →
        (((t && is_running g.member) || any_of (has is_running i) l) && not ((t && is_flying g.member) || any_of (has is_flying i) l))
        ≡ ((t && is_idle g.member) || any_of (has is_idle i) l)
    go true e h =
        let None : (q : Member → Bool) → any_of (has q i) l ≡ false =
        λ q. none_has q i l (subst (λ j. NotIn j (ids l)) (eqb-true g.member.id i e) d.2) in
        rw (None is_running, None is_flying, None is_idle) (own (is_running g.member) (has_flight (flight g.member.steps)))
    go false e h = h

idle-told : (s : State) (h : List Told) (l : List Group) → Ready s h l → Tells is_idle (idle_of h) l
idle-told s h l y i =
    ap (λ b. b && not (flying_of h i)) (y.running-told i) ∙ ap (λ b. any_of (has is_running i) l && not b) (y.flying-told i)
    ∙ idle_any s.next_id l y.hub.ids_ok i

-- ---- told and held

-- a command in flight is one of the commands
flight_any : (l : List Step) → has_flight (flight l) ≡ any_of (λ x. is_in_flight x.status) l
flight_any [] = refl
flight_any (x ∷ l) = go x.status (flight_any l)
  where
    go : (st : Status) → has_flight (flight l) ≡ any_of (λ y. is_in_flight y.status) l →
        has_flight (flight_or x st (flight l)) ≡ (is_in_flight st || any_of (λ y. is_in_flight y.status) l)
    go to-do h = h
    go (in_flight u) h = refl
    go was_done h = h
    go was_skipped h = h
    go was_held h = h
    go was_not_held h = h

-- a table that tells of the groups tells of the sequence
any_members : (q p : Member → Bool) (i : ℕ) → ((m : Member) → (eqb m.id i && q m) ≡ p m) → (l : List Group) →
    any_of (has q i) l ≡ any_of p (members l)
any_members q p i e [] = refl
any_members q p i e (g ∷ l) =
    ap (λ b. b || any_of (has q i) l) (e g.member) ∙ ap (λ b. p g.member || b) (any_members q p i e l)

pub told-is-held : ToldIsHeld
unfolding is_flying runs
told-is-held n k first s e calls i =
    let r = ready_calls s [] [] (ready_opened n k first s e) calls in
    let y = r.1 in
    let same : members r.0 ≡ (state_after s calls).sequence = sym y.hub.sequence_is in (
      y.running-told i ∙ any_members is_running (runs i) i (λ m. refl) r.0 ∙ ap (any_of (runs i)) same,
      y.flying-told i
          ∙ any_members is_flying (λ m. runs i m && any_of (λ x. is_in_flight x.status) m.steps) i
          (λ m. sym (and_assoc (eqb m.id i) (is_running m) (has_flight (flight m.steps)))
          ∙ ap (λ b. (eqb m.id i && is_running m) && b) (flight_any m.steps)) r.0
          ∙ ap (any_of (λ m. runs i m && any_of (λ x. is_in_flight x.status) m.steps)) same,
      limit_is k s (told_then [] (calls_told s calls)) (opened-limit n k first s e) (told_by_calls s [] tt calls)
          ∙ ap (λ (x : State). x.pass_limit) (state-calls s [] calls),
    )

-- ---- calls that are accepted

-- one that passes is there
located : (q : Member → Bool) (i : ℕ) (l : List Group) → any_of (has q i) l ≡ true →
    (a : List Group) × (g : Group) × (b : List Group) × (l ≡ a ++ (g ∷ b)) × (g.member.id ≡ i) × (q g.member ≡ true)
located q i [] e = t≠f (sym e)
located q i (g ∷ l) e = go (eqb g.member.id i) refl (q g.member) refl e (located q i l)
  where
    go : (t : Bool) → eqb g.member.id i ≡ t → (b : Bool) → q g.member ≡ b → ((t && b) || any_of (has q i) l) ≡ true →
        (any_of (has q i) l ≡ true →
        (a : List Group) × (x : Group) × (b : List Group) × (l ≡ a ++ (x ∷ b)) × (x.member.id ≡ i) × (q x.member ≡ true)) →
        (a : List Group) × (x : Group) × (b : List Group) × (g ∷ l ≡ a ++ (x ∷ b)) × (x.member.id ≡ i) × (q x.member ≡ true)
    go true e true f z h = ([], g, l, refl, eqb-true g.member.id i e, f)
    go true e false f z h = let r = h z in (g ∷ r.0, r.1, r.2, ap (λ k. g ∷ k) r.3, r.4, r.5)
    go false e b f z h = let r = h z in (g ∷ r.0, r.1, r.2, ap (λ k. g ∷ k) r.3, r.4, r.5)

find-it : (a : List Group) (g : Group) (b : List Group) → NotIn g.member.id (ids a) → is_running g.member ≡ true →
    find (runs g.member.id) (members (a ++ (g ∷ b))) ≡ Some (found_at a g b)
unfolding runs
find-it [] g b n r = rw (eq-eqb g.member.id g.member.id refl, r) refl
find-it (x ∷ a) g b n r = rw (ne_eqb x.member.id g.member.id n.0, find-it a g b n.1 r) refl

-- whoever has the flight
no_flight-is : (o : Option Flight) → has_flight o ≡ false → o ≡ None
no_flight-is None e = refl
no_flight-is (Some x) e = t≠f e

flight_is : (o : Option Flight) → has_flight o ≡ true → (x : Flight) × (o ≡ Some x)
flight_is None e = t≠f (sym e)
flight_is (Some x) e = (x, refl)

-- a turn of a running routine with nothing in flight
turn-taken : (s : State) (f : Found) → flight f.it.steps ≡ None → is_accepted (turn_found s (Some f)).answers ≡ true
unfolding commit_turn send_turn skip_turn held_turn not_held_turn abort
turn-taken s f e = rw e (command (next f.it.steps))
  where
    Taken : Result → Type 0
    Taken r = is_accepted r.answers ≡ true

    search : (c : Command) (o : Option ℕ) → is_accepted (wait_or s f c o).answers ≡ true
    search c (Some j) = refl
    search c None =
        by_if Taken (next_is_skipped false f.it.steps) (λ _. refl)
        (λ _. by_if Taken (s.up c.device)
        (λ _. by_if Taken (is_condition c) (λ _. by_if Taken (is_held s c) (λ _. refl) (λ _. refl)) (λ _. refl))
        (λ _. by_if Taken (next_counts_as_must f.it.steps) (λ _. refl) (λ _. refl)))

    command : (o : Option Command) → is_accepted (turn_next s f o).answers ≡ true
    command None = refl
    command (Some c) = search c (first_holding c.device (is_condition c) f.ahead)

-- a report on a command in flight
report-taken : (s : State) (f : Found) (code : ℕ) (x : Flight) → flight f.it.steps ≡ Some x → code ≤ code_failed →
    is_accepted (report_found s code (Some f)).answers ≡ true
unfolding done_report skip_report abort
report-taken s f code x e c =
    rw (e, le-ltb code_failed code c)
    (by_if (λ (r : Result). is_accepted r.answers ≡ true) (eqb code code_done) (λ _. refl)
    (λ _. by_if (λ (r : Result). is_accepted r.answers ≡ true) (is_must x.command) (λ _. refl) (λ _. refl)))

-- the routine with id i is found
found : (q : Member → Bool) (i : ℕ) (s : State) (h : List Told) (l : List Group) → Ready s h l → any_of (has q i) l ≡ true →
    ((m : Member) → q m ≡ true → is_running m ≡ true) →
    (f : Found) × (find (runs i) s.sequence ≡ Some f) × (q f.it ≡ true)
found q i s h l y e f =
    let r = located q i l e in
    let a = r.0 in
    let g = r.1 in
    let b = r.2 in
    let o = other_ids s.next_id a g b (subst (HubOk s) r.3 y.hub).ids_ok in
    let n = each_left (IsNot g.member.id) (ids a) (ids b) (subst (NotIn g.member.id) (ids_++ a b) o) in (
      found_at a g b,
      ap (find (runs i)) (y.hub.sequence_is ∙ ap members r.3)
          ∙ ap (λ j. find (runs j) (members (a ++ (g ∷ b)))) (sym r.4) ∙ find-it a g b n (f g.member r.5),
      r.5,
    )

turn-accepted : (i : ℕ) (s : State) (h : List Told) (l : List Group) → Ready s h l → idle_of h i ≡ true →
    is_accepted (result_of s (turn i)).answers ≡ true
unfolding turn_of is_idle
turn-accepted i s h l y e =
    let r = found is_idle i s h l y (sym (idle-told s h l y i) ∙ e)
    (λ m z. and_left (is_running m) (not (has_flight (flight m.steps))) z) in
    let m = r.0.it in
    let z = not-true (has_flight (flight m.steps)) (and_right (is_running m) (not (has_flight (flight m.steps))) r.2) in
    ap (λ o. is_accepted (turn_found s o).answers) r.1 ∙ turn-taken s r.0 (no_flight-is (flight m.steps) z)

report-accepted : (i code : ℕ) (s : State) (h : List Told) (l : List Group) → Ready s h l → flying_of h i ≡ true → code ≤ code_failed →
    is_accepted (result_of s (report i code)).answers ≡ true
unfolding report_of is_flying
report-accepted i code s h l y e c =
    let r = found is_flying i s h l y (sym (y.flying-told i) ∙ e) (λ m z. and_left (is_running m) (has_flight (flight m.steps)) z) in
    let m = r.0.it in
    let z = flight_is (flight m.steps) (and_right (is_running m) (has_flight (flight m.steps)) r.2) in
    ap (λ o. is_accepted (report_found s code o).answers) r.1 ∙ report-taken s r.0 code z.0 z.1 c

-- ---- what a turn or a report tells of others: nothing

module _ (s : State) (h : List Told) (l : List Group) (i j : ℕ) (other : i ≢ j) where
  -- tables changed at g
  elsewhere {ℓ} : {A : Type ℓ} (f : ℕ → A) (g : Group) (v : A) → g.member.id ≡ j → put f g.member.id v i ≡ f i
  elsewhere f g v e = put_other f g.member.id v i (λ z. other (z ∙ e))

  others-told : {c : Call} {r : Result} → Asks j c → Seen s l c r → accounts_of (saying c r.answers ∷ h) i ≡ accounts_of h i
  unfolding commit_turn send_turn done_report skip_report abort
  others-told o (is-refused r) = refl
  others-told o (waits w a g b d condition x e n f) = refl
  others-told o (limits w e) = absurd o
  others-told o (moves (places cs a b q e u p n)) = absurd o
  others-told o (moves (commits w a g b e n r f q)) = elsewhere (accounts_of h) g _ (n ∙ o)
  others-told o (moves (sends w a g b c e n r f q x u plain on)) = elsewhere (accounts_of h) g _ (n ∙ o)
  others-told o (moves (passes w a g b c e n r f q x st u)) =
      ap (λ k. k i) (pass-noted w st g.member.id (accounts_of h)) ∙ elsewhere (accounts_of h) g _ (n ∙ o)
  others-told o (moves (dones w code a g b x e n r f q)) = elsewhere (accounts_of h) g _ (n ∙ o)
  others-told o (moves (misses w a g b x e n r f)) = elsewhere (accounts_of h) g _ (n ∙ o)
  others-told o (moves (aborts _ a g b e r (by_turn w n f))) = elsewhere (accounts_of h) g _ (n ∙ o)
  others-told o (moves (aborts _ a g b e r (by_report w code x n f q))) = elsewhere (accounts_of h) g _ (n ∙ o)
  others-told o (moves (aborts _ a g b e r (by_cancel w n))) = absurd o
  others-told o (moves (fails d r lead m n u g)) = absurd o
  others-told o (moves (restarts d v r lead m n u g)) = absurd o

-- ---- each of some routines is asked once, in the order given

abbrev one_if : Bool → ℕ
one_if t = if t then 1 else 0

times_own : (j : ℕ) (js : List ℕ) → times j (j ∷ js) ≡ suc (times j js)
times_own j js = ap (λ b. if b then suc (times j js) else times j js) (eq-eqb j j refl)

-- the first passes, and is not asked again
first_passes : (test : ℕ → Bool) (j : ℕ) (js : List ℕ) → ((i : ℕ) → times i (j ∷ js) ≤ one_if (test i)) → (test j ≡ true) × (times j js ≡ 0)
first_passes test j js once = go (test j) (subst (λ n. n ≤ one_if (test j)) (times_own j js) (once j))
  where
    go : (b : Bool) → suc (times j js) ≤ one_if b → (b ≡ true) × (times j js ≡ 0)
    go true n = (refl, omega arith)
    go false n = absurd (omega arith)

-- the others still pass
rest_passes : (test after : ℕ → Bool) (j : ℕ) (js : List ℕ) → ((i : ℕ) → times i (j ∷ js) ≤ one_if (test i)) →
    ((i : ℕ) → i ≢ j → after i ≡ test i) → (i : ℕ) → times i js ≤ one_if (after i)
rest_passes test after j js once same i =
    by_test (λ _. times i js ≤ one_if (after i)) (eqb j i)
    (λ e. let z = subst (λ x. times x js ≡ 0) (eqb-true j i e) (first_passes test j js once).1 in omega arith)
    (λ e.
    let n : times i (j ∷ js) ≡ times i js = rw e refl in
    subst (λ b. times i js ≤ one_if b) (sym (same i (λ z. eqb-false j i e (sym z)))) (subst (λ m. m ≤ one_if (test i)) n (once i)))

module _ (make : ℕ → Call) (condition : (j : ℕ) → Asks j (make j)) (test : List Told → ℕ → Bool)
    (ok : (s : State) (h : List Told) (l : List Group) → Ready s h l → (j : ℕ) → test h j ≡ true →
    is_accepted (result_of s (make j)).answers ≡ true)
    (still : (h : List Told) (t : Told) (i : ℕ) → accounts_of (t ∷ h) i ≡ accounts_of h i → test (t ∷ h) i ≡ test h i) where
  asked_once : (s : State) (h : List Told) (l : List Group) → Ready s h l → (js : List ℕ) →
      ((i : ℕ) → times i js ≤ one_if (test h i)) →
      (accepted_in (calls_told s (map make js)) ≡ map make js)
      × (m : List Group) × Ready (state_after s (map make js)) (told_then h (calls_told s (map make js))) m
  asked_once s h l y [] once = (refl, l, y)
  asked_once s h l y (j ∷ js) once =
      let v = see s l y.hub.sequence_is (make j) in
      let n = ready_seen s h l y v in
      let u = (result_of s (make j)).state in
      let t = saying (make j) (result_of s (make j)).answers in
      let rest = accepted_in (calls_told u (map make js)) in
      let passes = (first_passes (test h) j js once).0 in
      let r = asked_once u (t ∷ h) n.0 n.1 js
      (rest_passes (test h) (test (t ∷ h)) j js once
      (λ i z. still h t i (others-told s h l i j z (condition j) v))) in
      (ap (λ b. if b then make j ∷ rest else rest) (ok s h l y j passes) ∙ ap (λ x. make j ∷ x) r.0, r.1, r.2)

-- ---- a round

once_in : (q : Member → Bool) (t : ℕ → Bool) (s : State) (h : List Told) (l : List Group) → Ready s h l → Tells q t l →
    EachOnce t (ids_with q s.sequence)
once_in q t s h l y e i =
    ap (λ m. times i (ids_with q m)) y.hub.sequence_is ∙ ids_once q s.next_id l y.hub.ids_ok i ∙ ap one_if (sym (e i))

-- each of these gets its turn, and what then holds
turns-made : (s : State) (h : List Told) (l : List Group) → Ready s h l → (js : List ℕ) → EachOnce (idle_of h) js →
    (accepted_in (calls_told s (map turn js)) ≡ map turn js)
    × (m : List Group) × Ready (state_after s (map turn js)) (told_then h (calls_told s (map turn js))) m
turns-made s h l y js once =
    asked_once turn (λ j. refl) idle_of (λ s h l y j. turn-accepted j s h l y)
    (λ h t i. ap (λ (x : Account). x.running && not x.flying)) s h l y js
    (λ i. let e = once i in omega arith)

-- then each of those gets its report
module _ (codes : ℕ → ℕ) (fit : (i : ℕ) → codes i ≤ code_failed) (s : State) (h : List Told) (l : List Group) (y : Ready s h l)
    (ts : List ℕ) (each_turn : EachOnce (idle_of h) ts) (rs : List ℕ)
    (each-report : EachOnce (flying_of (told_then h (calls_told s (map turn ts)))) rs) where
  pub halves_made :
      let u = state_after s (map turn ts) in
      let reports = map (λ i. report i (codes i)) rs in
      (accepted_in (calls_told u reports) ≡ reports)
      × (m : List Group) × Ready (state_after u reports) (told_then (told_then h (calls_told s (map turn ts))) (calls_told u reports)) m
  halves_made =
      let t = turns-made s h l y ts each_turn in
      asked_once (λ i. report i (codes i)) (λ j. refl) flying_of (λ s h l y j e. report-accepted j (codes j) s h l y e (fit j))
      (λ h t i. ap (λ (x : Account). x.flying)) (state_after s (map turn ts)) (told_then h (calls_told s (map turn ts))) t.1 t.2 rs
      (λ i. let e = each-report i in omega arith)

  pub is_round : Round h (calls_told s (map turn ts)) (calls_told (state_after s (map turn ts)) (map (λ i. report i (codes i)) rs))
  is_round = record {
    turned = ts;
    turns_are = (turns-made s h l y ts each_turn).0;
    one_turn_each = each_turn;
    reported = rs;
    codes = codes;
    reports_are = halves_made.0;
    one_report_each = each-report;
  }

pub any_order : AnyOrder
any_order n k first s e calls codes fit ts each_turn rs each-report =
    let r = ready_calls s [] [] (ready_opened n k first s e) calls in
    is_round codes fit (state_after s calls) (told_then [] (calls_told s calls)) r.0 r.1 ts each_turn rs each-report

-- in the sequence's order
module _ (s : State) (h : List Told) (l : List Group) (y : Ready s h l) where
  pub idle-once : EachOnce (idle_of h) (ids_with is_idle s.sequence)
  idle-once = once_in is_idle (idle_of h) s h l y (idle-told s h l y)

  pub flying-once : EachOnce (flying_of h) (ids_with is_flying s.sequence)
  flying-once = once_in is_flying (flying_of h) s h l y y.flying-told

flying-after : (s : State) (h : List Told) (l : List Group) → Ready s h l →
    EachOnce (flying_of (told_then h (calls_told s (turns_at s)))) (ids_with is_flying (state_after s (turns_at s)).sequence)
flying-after s h l y =
    let r = ready_calls s h l y (turns_at s) in
    flying-once (state_after s (turns_at s)) (told_then h (calls_told s (turns_at s))) r.0 r.1

-- Rounds exist after every list of calls.
pub rounds_exist : RoundsExist
rounds_exist n k first s e calls codes fit =
    let r = ready_calls s [] [] (ready_opened n k first s e) calls in
    let u = state_after s calls in
    let h = told_then [] (calls_told s calls) in (
      turns_at u,
      reports_at codes (state_after u (turns_at u)),
      is_round codes fit u h r.0 r.1 (ids_with is_idle u.sequence) (idle-once u h r.0 r.1)
          (ids_with is_flying (state_after u (turns_at u)).sequence) (flying-after u h r.0 r.1),
    )

-- ---- schedules

-- what calls tell, and then others
pub told_on : (s : State) (h : List Told) (a b : List Call) →
    told_then h (calls_told s (a ++ b)) ≡ told_then (told_then h (calls_told s a)) (calls_told (state_after s a) b)
told_on s h [] b = refl
told_on s h (c ∷ a) b = told_on (result_of s c).state (saying c (result_of s c).answers ∷ h) a b

pub state_on : (s : State) (a b : List Call) → state_after s (a ++ b) ≡ state_after (state_after s a) b
state_on s [] b = refl
state_on s (c ∷ a) b = state_on (result_of s c).state a b

-- the calls of `busy` are n rounds more, with submissions between them
is_schedule : (k : ℕ) (start : List Told) (s : State) (h : List Told) (l : List Group) → Ready s h l → (m : ℕ) → Schedule k start h m →
    (n : ℕ) (cs : List Command) (total : ℕ) → n + m ≡ total → Schedule k start (told_then h (calls_told s (busy n cs s))) total
is_schedule k start s h l y m w zero cs total e = let f : m ≡ total = omega arith in subst (Schedule k start h) f w
is_schedule k start s h l y m w (suc n) cs total e =
    let r = ready_seen s h l y (see s l y.hub.sequence_is (submit cs)) in
    let t = (result_of s (submit cs)).state in
    let g = saying (submit cs) (result_of s (submit cs)).answers ∷ h in
    let u = state_after t (turns_at t) in
    let v = state_after u (reports_at all_done u) in
    let fit : (i : ℕ) → all_done i ≤ code_failed = λ i. omega arith in
    let ts = ids_with is_idle t.sequence in
    let rs = ids_with is_flying u.sequence in
    let each_turn = idle-once t g r.0 r.1 in
    let each-report = flying-after t g r.0 r.1 in
    let made = halves_made all_done fit t g r.0 r.1 ts each_turn rs each-report in
    let round = is_round all_done fit t g r.0 r.1 ts each_turn rs each-report in
    let more = a_round (between w _ (a_submission cs _)) (calls_told t (turns_at t)) (calls_told u (reports_at all_done u)) round in
    let after = told_then (told_then g (calls_told t (turns_at t))) (calls_told u (reports_at all_done u)) in
    let told : told_then g (calls_told t (turns_at t ++ (reports_at all_done u ++ busy n cs v))) ≡ told_then after (calls_told v (busy n cs v)) =
    told_on t g (turns_at t) (reports_at all_done u ++ busy n cs v)
    ∙ told_on u (told_then g (calls_told t (turns_at t))) (reports_at all_done u) (busy n cs v) in
    subst (λ x. Schedule k start x total) (sym told)
    (is_schedule k start v after made.1 made.2 (suc m) more n cs total (omega arith))

-- all that the promise asks of a sitting, for these calls after the submission, n rounds of which count
pub record Promised (x : Sitting) (later : List Call) (n : ℕ) : Type 0 where
  pub accepted : open_of 1 x.pass_limit 1 ≡ opened (opens_at x)
  pub was_placed : (result_of (state_after (opens_at x) x.before) (submit x.commands)).answers ≡ placed x.id x.follows ∷ []
  pub schedule : Schedule x.pass_limit (told_after x []) (told_after x later) n

-- what is told, from the submission on
pub told_since : (x : Sitting) (later : List Call) → told_after x later ≡ told_then (told_after x []) (calls_told (placed_state x) later)
told_since x later =
    ap (λ l. told_then [] (calls_told (opens_at x) l)) (sym (append_assoc x.before (submit x.commands ∷ []) later))
    ∙ told_on (opens_at x) [] (placing x) later

-- calls keep the number of devices, so that a new pass limit is refused for its own sake alone
devices-after : (s : State) (later : List Call) → (state_after s later).devices ≡ s.devices
devices-after s [] = refl
devices-after s (c ∷ later) = devices-after (result_of s c).state later ∙ devices-kept s c

pub sitting_check : (x : Sitting) (later : List Call) (k : ℕ) → limit_check k ≡ Ok tt →
    new_limit_check (state_after (placed_state x) later).devices k ≡ Ok tt
unfolding new_hub
sitting_check x later k a =
    ap (λ n. new_limit_check n k) (devices-after (placed_state x) later ∙ devices-after (opens_at x) (placing x)) ∙ a

module _ (x : Sitting) (e : open_of 1 x.pass_limit 1 ≡ opened (opens_at x)) where
  pub ready_since : (later : List Call) →
      (l : List Group) × Ready (state_after (placed_state x) later) (told_then (told_after x []) (calls_told (placed_state x) later)) l
  ready_since later =
      let r = ready_calls (opens_at x) [] [] (ready_opened 1 x.pass_limit 1 (opens_at x) e) (placing x) in
      ready_calls (placed_state x) (told_after x []) r.0 r.1 later

  -- K alone changes
  pub sitting_limit : (later : List Call) (k : ℕ) → limit_check k ≡ Ok tt →
      (result_of (state_after (placed_state x) later) (limit k)).state ≡ with_pass_limit (state_after (placed_state x) later) k
  sitting_limit later k a =
      let s = state_after (placed_state x) later in
      let r = ready_since later in
      ap (λ (t : Result). t.state) (limit_passes s k (sitting_check x later k a))
      ∙ settle-none (with_pass_limit s k) r.0 r.1.hub.sequence_is r.1.first

  -- n rounds
  pub rounds_told : (n : ℕ) →
      Schedule x.pass_limit (told_after x []) (told_then (told_after x []) (calls_told (placed_state x) (rounds_of x n))) n
  rounds_told n =
      let r = ready_since [] in
      is_schedule x.pass_limit (told_after x []) (placed_state x) (told_after x []) r.0 r.1 0 begins n x.newcomers n (omega arith)

  -- so many rounds, a new pass limit that is accepted, and n rounds more
  pub changed_told : (earlier : List Call) (m : ℕ) →
      Schedule x.pass_limit (told_after x []) (told_then (told_after x []) (calls_told (placed_state x) earlier)) m →
      (k : ℕ) → (result_of (state_after (placed_state x) earlier) (limit k)).answers ≡ limited k ∷ [] →
      eqb k (limit_told x.pass_limit (told_then (told_after x []) (calls_told (placed_state x) earlier))) ≡ false → (n : ℕ) →
      Schedule x.pass_limit (told_after x []) (told_then (told_after x []) (calls_told (placed_state x) (changed x earlier k n))) n
  changed_told earlier m w k a other n =
      let s = placed_state x in
      let h = told_then (told_after x []) (calls_told s earlier) in
      let t = (result_of (state_after s earlier) (limit k)).state in
      let c = saying (limit k) (result_of (state_after s earlier) (limit k)).answers in
      let r = ready_since earlier in
      let y = ready_seen (state_after s earlier) h r.0 r.1 (see (state_after s earlier) r.0 r.1.hub.sequence_is (limit k)) in
      let begun : Schedule x.pass_limit (told_after x []) (c ∷ h) 0 =
      subst (λ z. Schedule x.pass_limit (told_after x []) (saying (limit k) z ∷ h) 0) (sym a)
      (subst (λ (t : Bool). Schedule x.pass_limit (told_after x []) (saying (limit k) (limited k ∷ []) ∷ h) (if t then m else 0)) other
      (a_new_limit w k)) in
      subst (λ z. Schedule x.pass_limit (told_after x []) z n)
      (sym (told_on s (told_after x []) earlier (limit k ∷ busy n x.newcomers t)))
      (is_schedule x.pass_limit (told_after x []) t (c ∷ h) y.0 y.1 0 begun n x.newcomers n (omega arith))

  pub promised : (result_of (state_after (opens_at x) x.before) (submit x.commands)).answers ≡ placed x.id x.follows ∷ [] →
      (later : List Call) (n : ℕ) →
      Schedule x.pass_limit (told_after x []) (told_then (told_after x []) (calls_told (placed_state x) later)) n →
      Promised x later n
  promised p later n w = record {
    accepted = e;
    was_placed = p;
    schedule = subst (λ z. Schedule x.pass_limit (told_after x []) z n) (sym (told_since x later)) w;
  }

-- ---- who still runs

state_since : (x : Sitting) (later : List Call) → state_after (opens_at x) (x.before ++ (submit x.commands ∷ later))
    ≡ state_after (placed_state x) later
state_since x later =
    ap (state_after (opens_at x)) (sym (append_assoc x.before (submit x.commands ∷ []) later)) ∙ state_on (opens_at x) (placing x) later

-- what is told of its routine, if the state after these calls is this
pub told-runs : (x : Sitting) → open_of 1 x.pass_limit 1 ≡ opened (opens_at x) → (later : List Call) (s : State) →
    state_after (placed_state x) later ≡ s → any_of (runs x.id) s.sequence ≡ true →
    (accounts_of (told_after x later) x.id).running ≡ true
told-runs x e later s q r =
    (told-is-held 1 x.pass_limit 1 (opens_at x) e (x.before ++ (submit x.commands ∷ later)) x.id).0
    ∙ ap (λ (z : State). any_of (runs x.id) z.sequence) (state_since x later ∙ q) ∙ r

-- And the schedules in which wrong rules show are such.
pub wrong_rules_show :
    let n = enough_rounds overtaken.pass_limit in
    Promised overtaken (rounds_of overtaken n) n × Promised lowered after_lowering (enough_rounds lowered_to)
unfolding calc_rounds
wrong_rules_show =
    let n = enough_rounds overtaken.pass_limit in (
      promised overtaken refl overtaken_placed (rounds_of overtaken n) n (rounds_told overtaken refl n),
      promised lowered refl lowered_placed after_lowering (enough_rounds lowered_to)
          (changed_told lowered refl (rounds_of lowered 2) 2 (rounds_told lowered refl 2) lowered_to refl refl (enough_rounds lowered_to)),
    )
