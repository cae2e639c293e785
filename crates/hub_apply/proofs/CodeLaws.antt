-- How far a routine has come once the first command that is not answered is, or once those left on a device are skipped.
-- Assumes nothing.
use Prim.Native.Nat.{ℕ, zero, suc, ◌+◌, ◌≤◌, ◌<◌}
use native.Mathlib.Omega.{arith}
use borrow.Author.Tests.{lt-ltb, le-ltb}
use mathlib.Core.Path.{◌≡◌, refl, sym, ap, subst, ◌∙◌}
use mathlib.Core.Bool.{Bool, true, ◌&&◌, and-false}
use mathlib.Core.List.{List, [], ◌∷◌}
use lib.Dec.{eqb, ltb}
use lib.IntN.{ℤ}
use lib.ListN.{length, get_or, set}
use lib.Seq.{get_or-set_same, get_or-set_other}
use Rattle.std.specs.Prelude.{if◌then◌else◌}
use Rattle.rules_routine.proofs.RoutineLaws.{by_test}
use Rattle.rules.specs.State.{was_skipped, Step}
use Rattle.rules.specs.Tables.{Each}
use Rattle.rules.specs.Progress.{is_left_on, with_status}
use Rattle.rules.specs.Events.{skip_left}
use Rattle.hub_sequence.proofs.Tables.{by_eq, by_less}
use Rattle.hub_state.specs.View.{done_code, skipped_code, status_of, Rows, step_at, steps_from}
use Rattle.hub_state.specs.Valid.{StepOk}
use Rattle.hub_state.proofs.Rows.{with_stages, status-answered, status_open}
use Rattle.hub_state.proofs.Codes.{CodeBehind, CodesUpTo}
use Rattle.hub_apply.specs.Stages.{FirstUnanswered, SkipsLeft}

-- what a stage becomes
abbrev pub skipped_if : List ℕ → List ℕ → ℕ → ℕ → ℕ
skipped_if stage device d k =
    if eqb (get_or device k 0) d && ltb (get_or stage k 0) done_code then skipped_code else get_or stage k 0

-- ---- how far it has come

module _ (stage : List ℕ) (from mid end : ℕ) (old : CodesUpTo stage from mid end) (r : ℕ) where
  -- the first that was not answered is now
  pub codes-answered : (code : ℕ) → mid < length stage → done_code ≤ code → FirstUnanswered (set stage mid code) (mid + 1) end r →
      CodesUpTo (set stage mid code) from r end
  codes-answered code l h f = record {
    within = (omega (arith, old.within.0, f.within.0), f.within.1);
    answered_before = λ j i m. by_less j mid
        (λ p. subst (λ (c : ℕ). done_code ≤ c) (sym (get_or-set_other stage mid j code 0 (λ q. omega arith))) (old.answered_before j i p))
        (λ p. by_eq j mid
        (λ q. subst (λ (w : ℕ). done_code ≤ get_or (set stage mid code) w 0) (sym q)
        (subst (λ (c : ℕ). done_code ≤ c) (sym (get_or-set_same stage mid code 0 l)) h))
        (λ n. f.answered_before j (omega arith) m));
    unanswered_there = f.unanswered_there;
    behind = λ j i m. let p : mid < j = omega (arith, f.within.0) in
        subst CodeBehind (sym (get_or-set_other stage mid j code 0 (λ q. omega arith))) (old.behind j p m);
  }

  -- those left on a device are skipped
  module _ (device : List ℕ) (d : ℕ) (now : List ℕ) (s : SkipsLeft stage device d from end now) where
    still_answered : (j : ℕ) → from ≤ j → j < end → done_code ≤ get_or stage j 0 → done_code ≤ get_or now j 0
    still_answered j i m h =
        subst (λ (c : ℕ). done_code ≤ c) (sym (s.inside j i m))
        (by_test (λ (t : Bool). done_code ≤ (if t then skipped_code else get_or stage j 0))
        (eqb (get_or device j 0) d && ltb (get_or stage j 0) done_code)
        (λ _. omega arith) (λ _. h))

    still_behind : (j : ℕ) → from ≤ j → j < end → CodeBehind (get_or stage j 0) → CodeBehind (get_or now j 0)
    unfolding status_of
    still_behind j i m h =
        subst CodeBehind (sym (s.inside j i m))
        (by_test (λ (t : Bool). CodeBehind (if t then skipped_code else get_or stage j 0))
        (eqb (get_or device j 0) d && ltb (get_or stage j 0) done_code)
        (λ _. refl) (λ _. h))

    pub codes-skipped : FirstUnanswered now mid end r → CodesUpTo now from r end
    codes-skipped f = record {
      within = (omega (arith, old.within.0, f.within.0), f.within.1);
      answered_before = λ j i m. by_less j mid
          (λ p. still_answered j i (omega (arith, f.within.1)) (old.answered_before j i p))
          (λ p. f.answered_before j p m);
      unanswered_there = f.unanswered_there;
      behind = λ j i m. let p : mid < j = omega (arith, f.within.0) in
          still_behind j (omega (arith, old.within.0)) m (old.behind j p m);
    }

-- ---- the commands once those left on a device are skipped

module _ (rows : Rows) (u : ℤ) (d : ℕ) (now : List ℕ) where
  step-skipped : (k : ℕ) → get_or now k 0 ≡ skipped_if rows.stages rows.devices d k →
      step_at (with_stages rows now) u k
      ≡ (if is_left_on d (step_at rows u k) then with_status was_skipped (step_at rows u k) else step_at rows u k)
  unfolding step_at status_of
  step-skipped k e =
      let code = get_or rows.stages k 0 in
      let on = eqb (get_or rows.devices k 0) d in
      ap (λ (c : ℕ). with_status (status_of c u) (step_at rows u k)) e
      ∙ by_less code done_code
      (λ h. rw (lt-ltb code done_code h, status_open code u h)
      (by_test
      (λ (t : Bool). with_status (status_of (if t && true then skipped_code else code) u) (step_at rows u k)
      ≡ (if t && true then with_status was_skipped (step_at rows u k) else step_at rows u k))
      on (λ _. refl) (λ _. refl)))
      (λ h. rw (le-ltb code done_code h, status-answered code u h, and-false on))

  pub steps-skipped : (k n : ℕ) → ((j : ℕ) → k ≤ j → j < k + n → get_or now j 0 ≡ skipped_if rows.stages rows.devices d j) →
      steps_from (with_stages rows now) u k n ≡ skip_left d (steps_from rows u k n)
  steps-skipped k zero h = refl
  steps-skipped k (suc n) h =
      let e = step-skipped k (h k (omega arith) (omega arith)) in
      let r = steps-skipped (suc k) n (λ j i m. h j (omega arith) (omega arith)) in
      λ i. e i ∷ r i

-- the devices stay
pub each_skip_left : (d : ℕ) (l : List Step) → Each StepOk l → Each StepOk (skip_left d l)
each_skip_left d [] h = tt
each_skip_left d (x ∷ l) h = (
  by_test (λ (t : Bool). StepOk (if t then with_status was_skipped x else x)) (is_left_on d x) (λ _. h.0) (λ _. h.0),
  each_skip_left d l h.1,
)
