-- The rows of commands and of restarts: how a slot's part of them is read, and what a store in a row changes of it. Assumes nothing.
use Rattle.std.proofs.Common.{None, Some}
use mathlib.Core.Path.{◌≡◌, refl, sym, ap, ◌∙◌}
use mathlib.Core.Bool.{Bool, true, false}
use mathlib.Core.List.{List, ◌∷◌}
use Prim.Native.Nat.{ℕ, zero, suc, ◌+◌, ◌*◌, ◌-◌, ◌≤◌, ◌<◌}
use native.Mathlib.Omega.{arith}
use borrow.Author.Tests.{eq-eqb, ne_eqb, eqb-true, eqb-false, ltb-true, lt-ltb, le-ltb}
use lib.Dec.{eqb, ltb}
use lib.IntN.{ℤ, pos}
use lib.ListN.{length, take, drop, get_or, set}
use lib.Seq.{get_or-set_same, get_or-set_other}
use Rattle.std.specs.Prelude.{if◌then◌else◌}
use Rattle.rules_routine.specs.Limits.{max_devices, max_sequence}
use Rattle.rules_routine.proofs.RoutineLaws.{by_test, any_default}
use Rattle.rules.specs.State.{Status, to-do, in_flight, was_done, was_skipped, was_held, was_not_held, Step}
use Rattle.rules.specs.Progress.{is_to_do, is_in_flight, is_done, is_answered, counts_as_not_held, skips_next, flight, with_status}
use Rattle.rules.proofs.Lists.{by_if, t≠f}
use Rattle.hub_sequence.proofs.Tables.{by_eq}
use Rattle.hub_state.specs.View.{no_restart, is_restart, restart_of, to_do_code, in_flight_code, done_code, held_code, not_held_code, status_of}
use Rattle.hub_state.specs.View.{Rows, step_at, steps_from, restarts_at}
use Rattle.hub_state.specs.Valid.{is_behind, AnsweredUpTo}
use Rattle.hub_state.specs.Contract.{set_status}
use Rattle.hub_state.proofs.Steps.{answered-is, behind-is, flight-not, behind-flight, last_skips}

-- ---- one command

module _ (rows : Rows) (u : ℤ) (k : ℕ) where
  pub step-device : (step_at rows u k).command.device ≡ get_or rows.devices k 0
  unfolding step_at
  step-device = refl

-- the same entries
pub step_same : (rows other : Rows) (u : ℤ) (k : ℕ) → get_or other.devices k 0 ≡ get_or rows.devices k 0 →
    get_or other.tags k 0 ≡ get_or rows.tags k 0 →
    get_or other.settings k (pos 0) ≡ get_or rows.settings k (pos 0) → get_or other.stages k 0 ≡ get_or rows.stages k 0 →
    step_at other u k ≡ step_at rows u k
unfolding step_at
step_same rows other u k a b c d = λ i. record { command = record { device = a i; tag = b i; setting = c i }; status = status_of (d i) u }

-- ---- where a command stands, by its code

-- all that is no other
abbrev pub CodeSkipped : ℕ → Type 0
CodeSkipped code = (done_code < code) × (code ≡ held_code → ⊥) × (code ≡ not_held_code → ⊥)

module _ (code : ℕ) (u : ℤ) where
  pub status_to_do : code ≡ to_do_code → status_of code u ≡ to-do
  unfolding status_of
  status_to_do e = rw (eq-eqb code to_do_code e)

  pub status-sent : code ≡ in_flight_code → status_of code u ≡ in_flight u
  unfolding status_of
  status-sent e = rw (ne_eqb code to_do_code (λ z. omega arith), eq-eqb code in_flight_code e)

  pub status-done : code ≡ done_code → status_of code u ≡ was_done
  unfolding status_of
  status-done e = rw (ne_eqb code to_do_code (λ z. omega arith), ne_eqb code in_flight_code (λ z. omega arith), eq-eqb code done_code e)

  pub status-held : code ≡ held_code → status_of code u ≡ was_held
  unfolding status_of
  status-held e = rw e

  pub status-not-held : code ≡ not_held_code → status_of code u ≡ was_not_held
  unfolding status_of
  status-not-held e = rw e

  pub status-skipped : CodeSkipped code → status_of code u ≡ was_skipped
  unfolding status_of
  status-skipped h =
      let n : done_code < code = h.0 in
      rw (
        ne_eqb code to_do_code (λ z. omega arith),
        ne_eqb code in_flight_code (λ z. omega arith),
        ne_eqb code done_code (λ z. omega arith),
        ne_eqb code held_code h.1,
        ne_eqb code not_held_code h.2,
      )

  -- what a test of the code tells, by cases on it
  module _ (P : Status → Type 0) where
    by_code : (code ≡ to_do_code → P to-do) → (code ≡ in_flight_code → P (in_flight u)) → (code ≡ done_code → P was_done) →
        (code ≡ held_code → P was_held) → (code ≡ not_held_code → P was_not_held) → (CodeSkipped code → P was_skipped) → P (status_of code u)
    unfolding status_of
    by_code a b c d e f =
        by_if P (eqb code to_do_code) (λ t. a (eqb-true code to_do_code t))
        (λ t. let i = eqb-false code to_do_code t in
        by_if P (eqb code in_flight_code) (λ t. b (eqb-true code in_flight_code t))
        (λ t. let j = eqb-false code in_flight_code t in
        by_if P (eqb code done_code) (λ t. c (eqb-true code done_code t))
        (λ t. let k = eqb-false code done_code t in
        by_if P (eqb code held_code) (λ t. d (eqb-true code held_code t))
        (λ t. let m = eqb-false code held_code t in
        by_if P (eqb code not_held_code) (λ t. e (eqb-true code not_held_code t))
        (λ t. f (not_below i j k, m, eqb-false code not_held_code t))))))
      where
        not_below : (code ≡ to_do_code → ⊥) → (code ≡ in_flight_code → ⊥) → (code ≡ done_code → ⊥) → done_code < code
        not_below i j k = omega arith

  pub status-begun : (code ≡ to_do_code → ⊥) → is_to_do (status_of code u) ≡ false
  status-begun n =
      by_code (λ st. is_to_do st ≡ false) (λ e. absurd (n e)) (λ e. refl) (λ e. refl) (λ e. refl) (λ e. refl) (λ e. refl)

  pub status-not-sent : (code ≡ in_flight_code → ⊥) → is_in_flight (status_of code u) ≡ false
  status-not-sent n =
      by_code (λ st. is_in_flight st ≡ false) (λ e. refl) (λ e. absurd (n e)) (λ e. refl) (λ e. refl) (λ e. refl) (λ e. refl)

  -- the codes from `done_code` on are answered
  pub status-answered : done_code ≤ code → is_answered (status_of code u) ≡ true
  status-answered h =
      by_code (λ st. is_answered st ≡ true) (λ e. absurd (omega arith)) (λ e. absurd (omega arith)) (λ e. refl) (λ e. refl) (λ e. refl)
      (λ e. refl)

  pub status_open : code < done_code → is_answered (status_of code u) ≡ false
  status_open h =
      by_code (λ st. is_answered st ≡ false) (λ e. refl) (λ e. refl) (λ e. absurd (omega arith)) (λ e. absurd (omega arith))
      (λ e. absurd (omega arith)) (λ e. absurd (omega (arith, e.0)))

  -- one code each is in flight, and done
  pub flight_code : is_in_flight (status_of code u) ≡ eqb code in_flight_code
  flight_code =
      by_eq code in_flight_code
      (λ e. rw (status-sent e, eq-eqb code in_flight_code e))
      (λ n. rw (status-not-sent n, ne_eqb code in_flight_code n))

  pub done-code : is_done (status_of code u) ≡ eqb code done_code
  done-code =
      by_eq code done_code
      (λ e. rw (status-done e, eq-eqb code done_code e))
      (λ n. rw (ne_eqb code done_code n)
      (by_code (λ st. is_done st ≡ false) (λ e. refl) (λ e. refl) (λ e. absurd (n e)) (λ e. refl) (λ e. refl) (λ e. refl)))

  -- and back to the code
  pub answered_code : is_answered (status_of code u) ≡ true → done_code ≤ code
  answered_code t =
      by_code (λ st. is_answered st ≡ true → done_code ≤ code)
      (λ e f. t≠f (sym f)) (λ e f. t≠f (sym f)) (λ e f. omega arith) (λ e f. omega arith) (λ e f. omega arith)
      (λ e f. omega (arith, e.0)) t

  pub open_code : is_answered (status_of code u) ≡ false → code < done_code
  open_code t =
      by_code (λ st. is_answered st ≡ false → code < done_code)
      (λ e f. omega arith) (λ e f. omega arith) (λ e f. t≠f f) (λ e f. t≠f f) (λ e f. t≠f f) (λ e f. t≠f f) t

  -- from `done_code` on all but that and `held_code` count as not held
  pub status_counts : done_code < code → (code ≡ held_code → ⊥) → counts_as_not_held (status_of code u) ≡ true
  status_counts h n =
      by_code (λ st. counts_as_not_held st ≡ true) (λ e. absurd (omega arith)) (λ e. absurd (omega arith)) (λ e. absurd (omega arith))
      (λ e. absurd (n e)) (λ e. refl) (λ e. refl)

  pub status_counts_not : code ≤ done_code → counts_as_not_held (status_of code u) ≡ false
  status_counts_not h =
      by_code (λ st. counts_as_not_held st ≡ false) (λ e. refl) (λ e. refl) (λ e. refl) (λ e. refl) (λ e. absurd (omega arith))
      (λ e. absurd (omega (arith, e.0)))

-- the due setting matters to one in flight alone
status-due : (code : ℕ) (u v : ℤ) → is_in_flight (status_of code u) ≡ false → status_of code v ≡ status_of code u
status-due code u v e =
    by_code code u (λ st. is_in_flight st ≡ false → status_of code v ≡ st)
    (λ i _. status_to_do code v i) (λ i f. t≠f f) (λ i _. status-done code v i) (λ i _. status-held code v i)
    (λ i _. status-not-held code v i) (λ i _. status-skipped code v i) e

-- it never matters to those behind
pub behind-due : (code : ℕ) (u v : ℤ) → is_behind (status_of code u) ≡ true → is_behind (status_of code v) ≡ true
behind-due code u v t = ap is_behind (status-due code u v (behind-is (status_of code u) t).0) ∙ t

pub step-due : (rows : Rows) (u v : ℤ) (k : ℕ) → is_in_flight (step_at rows u k).status ≡ false → step_at rows v k ≡ step_at rows u k
unfolding step_at
step-due rows u v k e =
    ap (λ (st : Status). record { command = (step_at rows u k).command; status = st }) (status-due (get_or rows.stages k 0) u v e)

-- ---- how commands are read

module _ (rows : Rows) (u : ℤ) where
  pub length-steps_from : (k n : ℕ) → length (steps_from rows u k n) ≡ n
  length-steps_from k zero = refl
  length-steps_from k (suc n) = ap suc (length-steps_from (suc k) n)

  -- the place and the number may be given otherwise
  steps_as : (k m n i : ℕ) → k ≡ m → n ≡ i → steps_from rows u k n ≡ steps_from rows u m i
  steps_as k m n i e f = λ p. steps_from rows u (e p) (f p)

  -- those from the j-th on, and those before it
  pub drop-steps_from : (k j n : ℕ) → j ≤ n → drop j (steps_from rows u k n) ≡ steps_from rows u (k + j) (n - j)
  drop-steps_from k zero n h = steps_as k (k + 0) n (n - 0) (omega arith) (omega arith)
  drop-steps_from k (suc j) zero h = absurd (omega arith)
  drop-steps_from k (suc j) (suc n) h =
      drop-steps_from (suc k) j n (omega arith) ∙ steps_as (suc k + j) (k + suc j) (n - j) (suc n - suc j) (omega arith) (omega arith)

  pub take-steps_from : (k j n : ℕ) → j ≤ n → take j (steps_from rows u k n) ≡ steps_from rows u k j
  take-steps_from k zero n h = refl
  take-steps_from k (suc j) zero h = absurd (omega arith)
  take-steps_from k (suc j) (suc n) h = ap (λ (l : List Step). step_at rows u k ∷ l) (take-steps_from (suc k) j n (omega arith))

  -- the j-th, and those behind it
  pub steps_open : (k j n : ℕ) → j < n → drop j (steps_from rows u k n) ≡ step_at rows u (k + j) ∷ steps_from rows u (suc (k + j)) (n - suc j)
  steps_open k j n h = drop-steps_from k j n (omega arith) ∙ steps_as (k + j) (k + j) (n - j) (suc (n - suc j)) refl (omega arith)

  pub steps-read : (k j n : ℕ) (z : Step) → j < n → get_or (steps_from rows u k n) j z ≡ step_at rows u (k + j)
  steps-read k j zero z h = absurd (omega arith)
  steps-read k zero (suc n) z h = let e : k ≡ k + 0 = omega arith in ap (step_at rows u) e
  steps-read k (suc j) (suc n) z h =
      let e : suc k + j ≡ k + suc j = omega arith in steps-read (suc k) j n z (omega arith) ∙ ap (step_at rows u) e

  -- the last of them
  pub steps-last : (k n : ℕ) (before : Bool) → last_skips before (steps_from rows u k (suc n)) ≡ skips_next (step_at rows u (k + n))
  steps-last k zero before = let e : k ≡ k + 0 = omega arith in ap (λ (m : ℕ). skips_next (step_at rows u m)) e
  steps-last k (suc n) before =
      let e : suc k + n ≡ k + suc n = omega arith in
      steps-last (suc k) n (skips_next (step_at rows u k)) ∙ ap (λ (m : ℕ). skips_next (step_at rows u m)) e

-- ---- rows that are read alike

-- the same command at each place
pub steps_other : (rows other : Rows) (u v : ℤ) (k n : ℕ) → ((j : ℕ) → k ≤ j → j < k + n → step_at other v j ≡ step_at rows u j) →
    steps_from other v k n ≡ steps_from rows u k n
steps_other rows other u v k zero h = refl
steps_other rows other u v k (suc n) h =
    let e = h k (omega arith) (omega arith) in
    let r = steps_other rows other u v (suc k) n (λ j a b. h j (omega arith) (omega arith)) in
    λ i. e i ∷ r i

-- the due setting of one in flight does not matter where none is
pub steps-due : (rows : Rows) (u v : ℤ) (k n : ℕ) → flight (steps_from rows u k n) ≡ None → steps_from rows v k n ≡ steps_from rows u k n
steps-due rows u v k zero e = refl
steps-due rows u v k (suc n) e =
    let t = flight-not (step_at rows u k) (step_at rows u k).status (flight (steps_from rows u (suc k) n)) e in
    let x = step-due rows u v k t.0 in
    let r = steps-due rows u v (suc k) n t.1 in
    λ i. x i ∷ r i

-- ---- another stage at one place

abbrev pub with_stages : Rows → List ℕ → Rows
with_stages rows stages = record { devices = rows.devices; tags = rows.tags; settings = rows.settings; stages = stages }

step-outside : (rows : Rows) (u : ℤ) (k i code : ℕ) → (k ≡ i → ⊥) →
    step_at (with_stages rows (set rows.stages i code)) u k ≡ step_at rows u k
step-outside rows u k i code n =
    step_same rows (with_stages rows (set rows.stages i code)) u k refl refl refl (get_or-set_other rows.stages i k code 0 n)

step-staged : (rows : Rows) (u v : ℤ) (k code : ℕ) → k < length rows.stages →
    step_at (with_stages rows (set rows.stages k code)) v k ≡ with_status (status_of code v) (step_at rows u k)
unfolding step_at
step-staged rows u v k code h =
    ap (λ (c : ℕ). record { command = (step_at rows u k).command; status = status_of c v }) (get_or-set_same rows.stages k code 0 h)

-- outside
pub steps-outside : (rows : Rows) (u : ℤ) (k n i code : ℕ) → (k ≤ i → i < k + n → ⊥) →
    steps_from (with_stages rows (set rows.stages i code)) u k n ≡ steps_from rows u k n
steps-outside rows u k n i code h =
    steps_other rows (with_stages rows (set rows.stages i code)) u u k n
    (λ j a b. step-outside rows u j i code (λ e. h (omega arith) (omega arith)))

-- at the first that is not answered; the due setting may become another
staged-at : (rows : Rows) (u v : ℤ) (k n j i code : ℕ) → i ≡ k + j → AnsweredUpTo j (steps_from rows u k n) → j < n →
    i < length rows.stages →
    steps_from (with_stages rows (set rows.stages i code)) v k n ≡ set_status j (status_of code v) (steps_from rows u k n)
staged-at rows u v k zero j i code p a h q = absurd (omega arith)
staged-at rows u v k (suc n) zero i code p a h q =
    let e : k ≡ i = omega arith in
    let x : step_at (with_stages rows (set rows.stages i code)) v k ≡ with_status (status_of code v) (step_at rows u k)
    = ap (λ (m : ℕ). step_at (with_stages rows (set rows.stages m code)) v k) (sym e) ∙ step-staged rows u v k code (omega arith) in
    let r = steps-outside rows v (suc k) n i code (λ b c. omega arith)
    ∙ steps-due rows u v (suc k) n (behind-flight (steps_from rows u (suc k) n) a.1) in
    λ m. x m ∷ r m
staged-at rows u v k (suc n) (suc j) i code p a h q =
    let x = step-outside rows v k i code (λ e. omega arith) ∙ step-due rows u v k (answered-is (step_at rows u k).status a.0).1 in
    let r = staged-at rows u v (suc k) n j i code (omega arith) a.1 (omega arith) q in
    λ m. x m ∷ r m

pub steps-staged : (rows : Rows) (u v : ℤ) (k n j code : ℕ) → AnsweredUpTo j (steps_from rows u k n) → j < n →
    k + j < length rows.stages →
    steps_from (with_stages rows (set rows.stages (k + j) code)) v k n ≡ set_status j (status_of code v) (steps_from rows u k n)
steps-staged rows u v k n j code a h q = staged-at rows u v k n j (k + j) code refl a h q

-- ---- places

-- a device of a slot has one place in the row of restarts, and no other slot's device has it
pub same_place : (x y d e : ℕ) → d < max_devices → e < max_devices → x * max_devices + d ≡ y * max_devices + e → (x ≡ y) × (d ≡ e)
same_place x y d e h i q = let z : x ≡ y = omega arith in let w : d ≡ e = omega arith in (z, w)

-- ---- restarts

pub restart_some : (v : ℤ) → is_restart v ≡ true → restart_of v ≡ Some v
restart_some v e = ap (λ (t : Bool). if t then Some v else None) e

pub restart-none : (v : ℤ) → is_restart v ≡ false → restart_of v ≡ None
restart-none v e = ap (λ (t : Bool). if t then Some v else None) e

-- a device past the most there can be has none
pub restarts-past : (row : List ℤ) (x d : ℕ) → max_devices ≤ d → restarts_at row x d ≡ None
unfolding restarts_at
restarts-past row x d h = rw (le-ltb d max_devices h)

pub restarts-read : (row : List ℤ) (x d : ℕ) (z : ℤ) → length row ≡ max_sequence * max_devices → x < max_sequence → d < max_devices →
    restarts_at row x d ≡ restart_of (get_or row (x * max_devices + d) z)
unfolding restarts_at
restarts-read row x d z l h i = rw (lt-ltb d max_devices i) (ap restart_of (any_default row (x * max_devices + d) no_restart z (omega arith)))

module _ (row : List ℤ) (y e : ℕ) (v : ℤ) (i : e < max_devices) where
  -- another slot's, or another device's
  pub restarts_other : (x d : ℕ) → ((x ≡ y) × (d ≡ e) → ⊥) → restarts_at (set row (y * max_devices + e) v) x d ≡ restarts_at row x d
  unfolding restarts_at
  restarts_other x d n =
      by_test
      (λ (t : Bool). (if t then restart_of (get_or (set row (y * max_devices + e) v) (x * max_devices + d) no_restart) else None)
      ≡ (if t then restart_of (get_or row (x * max_devices + d) no_restart) else None))
      (ltb d max_devices)
      (λ t. ap restart_of
      (get_or-set_other row (y * max_devices + e) (x * max_devices + d) v no_restart
      (λ q. n (same_place x y d e (ltb-true d max_devices t) i q))))
      (λ t. refl)

  pub restarts-set : length row ≡ max_sequence * max_devices → y < max_sequence → restarts_at (set row (y * max_devices + e) v) y e ≡ restart_of v
  unfolding restarts_at
  restarts-set l h = rw (lt-ltb e max_devices i) (ap restart_of (get_or-set_same row (y * max_devices + e) v no_restart (omega arith)))
