-- No fewer rounds are enough: for every K a routine may need all that the waiting promise gives it, at any capacities; and they have to be
-- counted from the last change of K. The states of the schedule are in `LateRounds.antt`; that the answers tell who still runs is
-- `told-is-held`. Assumes nothing.
use mathlib.Core.Path.{◌≡◌, refl, sym, ap, ◌∙◌, subst}
use mathlib.Core.Bool.{Bool, true, false}
use mathlib.Core.List.{List, [], ◌∷◌, ◌++◌, map}
use Prim.Native.Nat.{ℕ, zero, suc, ◌+◌, ◌*◌, ◌≤◌, ◌<◌}
use native.Mathlib.Omega.{arith}
use lib.Dec.{eqb}
use Rattle.std.specs.Prelude.{if◌then◌else◌}
use Rattle.rules.specs.Tables.{Each}
use Rattle.rules_routine.specs.Limits.{highest_pass_limit}
use Rattle.rules.specs.State.{Member, State}
use Rattle.rules.specs.Answers.{Call, submit, turn, report, limit, placed, limited, Result}
use Rattle.rules.specs.Report.{code_failed}
use Rattle.rules.specs.Limit.{with_pass_limit}
use Rattle.rules.specs.Calls.{result_of, state_after}
use Rattle.rules.specs.History.{Told, accounts_of}
use Rattle.rules.specs.Rounds.{calls_told, told_then, idle_of, times, EachOnce, Schedule, begins, between, a_submission, a_new_limit}
use Rattle.rules.specs.Rounds.{a_round, enough_rounds, limit_told, limit_after_all, KeepsLimit}
use Rattle.rules.proofs.Schedules.{is_idle, is_flying, ids_with, reports_at, all_done, opens_at, placed_state, told_after, calc_rounds}
use Rattle.rules.proofs.Lists.{each_++}
use Rattle.rules.proofs.LimitLaws.{limit_passes}
use Rattle.rules_promises.proofs.Groups.{Group}
use Rattle.rules_promises.proofs.View.{see}
use Rattle.rules_promises.proofs.Ready.{Ready, saying, ready_calls, ready_seen, limit-kept}
use Rattle.rules_promises.proofs.RoundsExist.{told_on, state_on, idle-once, flying-once, halves_made, is_round, ready_since}
use Rattle.rules_promises.proofs.RoundsExist.{Promised, sitting_check, sitting_limit}
use Rattle.rules_promises.proofs.RoundsExist.{promised, told-runs, told_since}
use Rattle.rules_promises.proofs.LateRounds.{all_but_one, asking, rounds_each, refill, filled, raised_row, last_rounds, limit_ok}
use Rattle.rules_promises.proofs.LateRounds.{in_row_opens}
use Rattle.rules_promises.proofs.LateRounds.{filled_runs, late_ids}
use Rattle.rules_promises.proofs.LateRounds.{late_turns, late_calls, late-state, in_row, in_row_runs}

-- ---- turns with the first of the sequence last are each once

swap : (s t : Bool) (n : ℕ) →
    (if s then suc (if t then suc n else n) else (if t then suc n else n))
    ≡ (if t then suc (if s then suc n else n) else (if s then suc n else n))
swap true true n = refl
swap true false n = refl
swap false true n = refl
swap false false n = refl

times-last : (i j : ℕ) (l : List ℕ) → times i (l ++ (j ∷ [])) ≡ times i (j ∷ l)
times-last i j [] = refl
times-last i j (h ∷ l) =
    ap (λ n. if eqb h i then suc n else n) (times-last i j l) ∙ swap (eqb h i) (eqb j i) (times i l)

times_all : (i : ℕ) (l : List ℕ) → times i (l ++ []) ≡ times i l
times_all i [] = refl
times_all i (h ∷ l) = ap (λ n. if eqb h i then suc n else n) (times_all i l)

late_by : (i : ℕ) (t : Bool) (j : ℕ) (l : List ℕ) → times i (l ++ (if t then j ∷ [] else [])) ≡ times i (if t then j ∷ l else l)
late_by i true j l = times-last i j l
late_by i false j l = times_all i l

late_times : (i : ℕ) (l : List Member) → times i (late_ids l) ≡ times i (ids_with is_idle l)
late_times i [] = refl
late_times i (m ∷ l) = late_by i (is_idle m) m.id (ids_with is_idle l)

-- ---- such rounds are a schedule

late_schedule : (k : ℕ) (start : List Told) (s : State) (h : List Told) (l : List Group) → Ready s h l → (m : ℕ) → Schedule k start h m →
    (n total : ℕ) → n + m ≡ total → Schedule k start (told_then h (calls_told s (late_calls n s))) total
late_schedule k start s h l y m w zero total e = let f : m ≡ total = omega arith in subst (Schedule k start h) f w
late_schedule k start s h l y m w (suc n) total e =
    let u = state_after s (late_turns s) in
    let v = state_after u (reports_at all_done u) in
    let fit : (i : ℕ) → all_done i ≤ code_failed = λ i. omega arith in
    let ts = late_ids s.sequence in
    let rs = ids_with is_flying u.sequence in
    let each_turn : EachOnce (idle_of h) ts = λ i. late_times i s.sequence ∙ idle-once s h l y i in
    let r = ready_calls s h l y (late_turns s) in
    let each-report = flying-once u (told_then h (calls_told s (late_turns s))) r.0 r.1 in
    let made = halves_made all_done fit s h l y ts each_turn rs each-report in
    let round = is_round all_done fit s h l y ts each_turn rs each-report in
    let more = a_round w (calls_told s (late_turns s)) (calls_told u (reports_at all_done u)) round in
    let after = told_then (told_then h (calls_told s (late_turns s))) (calls_told u (reports_at all_done u)) in
    let told : told_then h (calls_told s (late_turns s ++ (reports_at all_done u ++ late_calls n v))) ≡ told_then after
    (calls_told v (late_calls n v)) =
    told_on s h (late_turns s) (reports_at all_done u ++ late_calls n v)
    ∙ told_on u (told_then h (calls_told s (late_turns s))) (reports_at all_done u) (late_calls n v) in
    subst (λ x. Schedule k start x total) (sym told)
    (late_schedule k start v after made.1 made.2 (suc m) more n total (omega arith))

-- newcomers between them
refill_schedule : (k : ℕ) (start : List Told) (s : State) (h : List Told) (l : List Group) → Ready s h l → (m : ℕ) → Schedule k start h m →
    (c n total : ℕ) → rounds_each * c + n + m ≡ total → Schedule k start (told_then h (calls_told s (refill c n s))) total
refill_schedule k start s h l y m w zero n total e = late_schedule k start s h l y m w n total (omega arith)
refill_schedule k start s h l y m w (suc c) n total e =
    let r = ready_seen s h l y (see s l y.hub.sequence_is (submit asking)) in
    let t = (result_of s (submit asking)).state in
    let g = saying (submit asking) (result_of s (submit asking)).answers ∷ h in
    let one = late_calls rounds_each t in
    let v = state_after t one in
    let more = late_schedule k start t g r.0 r.1 m (between w _ (a_submission asking _)) rounds_each (rounds_each + m) refl in
    let z = ready_calls t g r.0 r.1 one in
    subst (λ x. Schedule k start x total) (sym (told_on t g one (refill c n v)))
    (refill_schedule k start v (told_then g (calls_told t one)) z.0 z.1 (rounds_each + m) more c n total (omega arith))

-- no new pass limit among them
turns_keep : (l : List ℕ) → Each KeepsLimit (map turn l)
turns_keep [] = tt
turns_keep (i ∷ l) = (tt, turns_keep l)

reports_keep : (codes : ℕ → ℕ) (l : List ℕ) → Each KeepsLimit (map (λ i. report i (codes i)) l)
reports_keep codes [] = tt
reports_keep codes (i ∷ l) = (tt, reports_keep codes l)

late_keeps : (n : ℕ) (s : State) → Each KeepsLimit (late_calls n s)
late_keeps zero s = tt
late_keeps (suc n) s =
    let u = state_after s (late_turns s) in
    let v = state_after u (reports_at all_done u) in
    each_++ KeepsLimit (late_turns s) (reports_at all_done u ++ late_calls n v) (turns_keep (late_ids s.sequence))
    (each_++ KeepsLimit (reports_at all_done u) (late_calls n v) (reports_keep all_done (ids_with is_flying u.sequence)) (late_keeps n v))

refill_keeps : (c n : ℕ) (s : State) → Each KeepsLimit (refill c n s)
refill_keeps zero n s = late_keeps n s
refill_keeps (suc c) n s =
    let t = (result_of s (submit asking)).state in
    let one = late_calls rounds_each t in
    (tt, each_++ KeepsLimit one (refill c n (state_after t one)) (late_keeps rounds_each t) (refill_keeps c n (state_after t one)))

-- ---- K = 0

in_row_placed : (result_of (state_after (opens_at in_row) in_row.before) (submit in_row.commands)).answers
    ≡ placed in_row.id in_row.follows ∷ []
unfolding calc_rounds
in_row_placed = refl

abbrev pub late_in_row : List Call
late_in_row = late_calls (all_but_one 0) (placed_state in_row)

-- One round fewer is not enough where K is that of the opening, 0.
pub needs_all_at_0 :
    Promised in_row late_in_row (all_but_one 0) × (suc (all_but_one 0) ≡ enough_rounds in_row.pass_limit)
    × ((accounts_of (told_after in_row late_in_row) in_row.id).running ≡ true)
needs_all_at_0 =
    let r = ready_since in_row in_row_opens [] in (
      promised in_row in_row_opens in_row_placed late_in_row (all_but_one 0)
          (late_schedule 0 (told_after in_row []) (placed_state in_row) (told_after in_row []) r.0 r.1 0 begins (all_but_one 0) (all_but_one 0)
          (omega arith)),
      omega arith,
      told-runs in_row in_row_opens late_in_row _ (late-state (all_but_one 0) (placed_state in_row)) in_row_runs,
    )

-- ---- any K

abbrev pub raised_then : ℕ → List Call
raised_then k = limit k ∷ filled k last_rounds (raised_row k)

same_count : (t : Bool) → ◌≡◌ {A = ℕ} (if t then 0 else 0) 0
same_count true = refl
same_count false = refl

module _ (k : ℕ) (y : k ≤ highest_pass_limit) where
  limit-answers : (result_of (placed_state in_row) (limit k)).answers ≡ limited k ∷ []
  limit-answers = ap (λ (r : Result). r.answers) (limit_passes (placed_state in_row) k (sitting_check in_row [] k (limit_ok k y)))

  raised_schedule :
      Schedule 0 (told_after in_row []) (told_then (told_after in_row []) (calls_told (placed_state in_row) (raised_then k))) (all_but_one k)
  raised_schedule =
      let start = told_after in_row [] in
      let r = ready_since in_row in_row_opens (limit k ∷ []) in
      let u = raised_row k in
      let one = late_calls rounds_each u in
      let v = state_after u one in
      let h = saying (limit k) (result_of (placed_state in_row) (limit k)).answers ∷ start in
      let begun : Schedule 0 start h 0 =
      subst (λ z. Schedule 0 start (saying (limit k) z ∷ start) 0) (sym limit-answers)
      (subst (λ c. Schedule 0 start (saying (limit k) (limited k ∷ []) ∷ start) c) (same_count (eqb k (limit_told 0 start)))
      (a_new_limit begins k)) in
      let first = late_schedule 0 start u h r.0 r.1 0 begun rounds_each rounds_each (omega arith) in
      let z = ready_calls u h r.0 r.1 one in
      subst (λ t. Schedule 0 start t (all_but_one k)) (sym (told_on u h one (refill k last_rounds v)))
      (refill_schedule 0 start v (told_then h (calls_told u one)) z.0 z.1 rounds_each first k last_rounds (all_but_one k) (omega arith))

  raised_limit : limit_told 0 (told_then (told_after in_row []) (calls_told (placed_state in_row) (raised_then k))) ≡ k
  raised_limit =
      let start = told_after in_row [] in
      let u = raised_row k in
      let one = late_calls rounds_each u in
      let v = state_after u one in
      limit-kept 0 k u (saying (limit k) (result_of (placed_state in_row) (limit k)).answers ∷ start)
      (ap (λ l. limit_after_all l (limit_told 0 start)) limit-answers) (filled k last_rounds u)
      (each_++ KeepsLimit one (refill k last_rounds v) (late_keeps rounds_each u) (refill_keeps k last_rounds v))

-- One round fewer is not enough, for every K: a schedule in which K is in force and the routine then still runs. K is asked for directly
-- behind the submission, before the first round; so all rounds count.
pub needs_all : (k : ℕ) → k ≤ highest_pass_limit →
    Promised in_row (raised_then k) (all_but_one k) × (limit_told in_row.pass_limit (told_after in_row (raised_then k)) ≡ k)
    × (suc (all_but_one k) ≡ enough_rounds k) × ((accounts_of (told_after in_row (raised_then k)) in_row.id).running ≡ true)
needs_all k y = (
  promised in_row in_row_opens in_row_placed (raised_then k) (all_but_one k) (raised_schedule k y),
  ap (limit_told 0) (told_since in_row (raised_then k)) ∙ raised_limit k y,
  omega arith,
  told-runs in_row in_row_opens (raised_then k) (state_after (raised_row k) (filled k last_rounds (raised_row k))) refl (filled_runs k y),
)

-- ---- counted otherwise

abbrev pub most : ℕ
most = highest_pass_limit

abbrev pub then_lowered : List Call
then_lowered = raised_then most ++ (limit in_row.pass_limit ∷ [])

-- With the K of its submission the promise would be false: K is raised from 0, and the routine still runs after more rounds than are enough
-- with 0. With the K of now, counted from the submission, it would be false, too: K is then 0 again.
pub counted_from_the_change :
    let n = all_but_one most in
    Promised in_row (raised_then most) n × (enough_rounds in_row.pass_limit < n)
    × ((accounts_of (told_after in_row (raised_then most)) in_row.id).running ≡ true)
    × Promised in_row then_lowered 0 × ((accounts_of (told_after in_row then_lowered) in_row.id).running ≡ true)
counted_from_the_change =
    let x = in_row in
    let n = all_but_one most in
    let fits : most ≤ highest_pass_limit = omega arith in
    let start = told_after x [] in
    let p = placed_state x in
    let later = raised_then most in
    let s = state_after p later in
    let h = told_then start (calls_told p later) in
    let r = needs_all most fits in
    let fine = limit_ok 0 (omega arith) in
    let ok = limit_passes s 0 (sitting_check x later 0 fine) in
    let other : eqb 0 (limit_told 0 h) ≡ false = ap (eqb 0) (raised_limit most fits) in
    let w : Schedule 0 start (saying (limit 0) (limited 0 ∷ []) ∷ h) 0 =
    subst (λ (t : Bool). Schedule 0 start (saying (limit 0) (limited 0 ∷ []) ∷ h) (if t then n else 0)) other
    (a_new_limit (raised_schedule most fits) 0) in
    let told : Schedule 0 start (told_then start (calls_told p then_lowered)) 0 =
    subst (λ z. Schedule 0 start z 0) (sym (told_on p start later (limit 0 ∷ [])))
    (subst (λ z. Schedule 0 start (saying (limit 0) z ∷ h) 0) (sym (ap (λ (r : Result). r.answers) ok)) w) in (
      r.0,
      omega arith,
      r.3,
      promised x in_row_opens in_row_placed then_lowered 0 told,
      told-runs x in_row_opens then_lowered (with_pass_limit s 0) (state_on p later (limit 0 ∷ []) ∙ sitting_limit x in_row_opens later 0 fine)
          (filled_runs most fits),
    )
