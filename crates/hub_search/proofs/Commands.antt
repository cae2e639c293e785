-- The commands of a slot in their rows: what the tests along them say of the slot's routine. Assumes nothing.
use Prim.Native.Nat.{ℕ, zero, suc, ◌+◌, ◌-◌, ◌*◌, ◌≤◌, ◌<◌}
use native.Mathlib.Omega.{arith}
use borrow.Author.Tests.{eq-eqb, ne_eqb, lt-ltb, le-ltb, le-leb, lt-leb}
use mathlib.Core.Path.{◌≡◌, refl, sym, ap, ◌∙◌}
use mathlib.Core.Bool.{Bool, true, false, not, ◌&&◌, ◌||◌, and-true, and-false, or-true, or-false, not-not, and-or_distrib_left}
use mathlib.Core.List.{List, [], ◌∷◌}
use lib.Dec.{eqb, ltb, leb}
use lib.IntN.{ℤ, pos}
use lib.ListN.{length, take, get_or}
use Rattle.std.specs.Prelude.{if◌then◌else◌}
use Rattle.rules_routine.specs.Limits.{max_commands}
use Rattle.rules_routine.specs.Routine.{must_tag, condition_tag}
use Rattle.rules_routine.proofs.RoutineLaws.{by_test}
use Rattle.rules.specs.Tables.{any_of}
use Rattle.rules.specs.State.{Step}
use Rattle.rules.specs.Sequence.{is_running}
use Rattle.rules.specs.Progress.{is_on, is_to_do, is_done, is_answered, is_left_on, begun, finished, commands_in, counts_as_must}
use Rattle.rules.specs.Turn.{holds, has_set, holds_up}
use Rattle.rules.specs.Events.{must_among, must_left}
use Rattle.hub_sequence.proofs.Tables.{by_eq, by_less}
use Rattle.hub_state.specs.View.{to_do_code, in_flight_code, done_code, skipped_code, status_of, Rows, step_at, steps_from, rows_of, steps_at}
use Rattle.hub_state.specs.View.{member_at}
use Rattle.hub_state.specs.declared.HubState.{HubState}
use Rattle.hub_state.proofs.Steps.{begins}
use Rattle.hub_state.proofs.Rows.{status_to_do, status-begun, status-answered, status_open, done-code}
use Rattle.hub_search.specs.Contract.{any_on, any_staged, highest_stage, counting_tag, any_must}

-- Does one of n places, from k on, pass a test?
abbrev pub any_at : (ℕ → Bool) → ℕ → ℕ → Bool
any_at q k zero = false
any_at q k (suc n) = q k || any_at q (suc k) n

-- ---- a walk from place to place

module _ (q : ℕ → Bool) (k e : ℕ) where
  pub at_hit : k < e → q k ≡ true → any_at q k (e - k) ≡ true
  at_hit h t = let n : e - k ≡ suc (e - suc k) = omega arith in rw (n, t)

  pub at_on : k < e → q k ≡ false → any_at q (k + 1) (e - (k + 1)) ≡ any_at q k (e - k)
  at_on h t =
      let n : e - k ≡ suc (e - suc k) = omega arith in
      let m : k + 1 ≡ suc k = omega arith in
      rw (n, m, t)

  pub at_end : e ≤ k → any_at q k (e - k) ≡ false
  at_end h = let n : e - k ≡ 0 = omega arith in rw n

-- places that do not pass can be left out
pub at_past : (q : ℕ → Bool) (k n m e : ℕ) → m ≡ k + n → m ≤ e → ((j : ℕ) → k ≤ j → j < m → q j ≡ false) →
    any_at q m (e - m) ≡ any_at q k (e - k)
at_past q k zero m e p h f = let i : m ≡ k = omega arith in rw i
at_past q k (suc n) m e p h f =
    let i : e - k ≡ suc (e - suc k) = omega arith in
    at_past q (suc k) n m e (omega arith) h (λ j a b. f j (omega arith) b) ∙ rw (i, f k (omega arith) (omega arith))

at_or : (q r : ℕ → Bool) (k n : ℕ) → (any_at q k n || any_at r k n) ≡ any_at (λ j. q j || r j) k n
at_or q r k zero = refl
at_or q r k (suc n) = four (q k) (any_at q (suc k) n) (r k) (any_at r (suc k) n) ∙ ap (λ (t : Bool). (q k || r k) || t) (at_or q r (suc k) n)
  where
    four : (a b c d : Bool) → ((a || b) || (c || d)) ≡ ((a || c) || (b || d))
    four true b c d = refl
    four false true c d = sym (or-true c)
    four false false c d = refl

at_same : (q r : ℕ → Bool) (k n : ℕ) → ((j : ℕ) → q j ≡ r j) → any_at q k n ≡ any_at r k n
at_same q r k zero h = refl
at_same q r k (suc n) h = rw (h k, at_same q r (suc k) n h)

-- ---- tests of an entry

-- the stage from which on a command holds nobody up: none but those left hold up a command; those done hold up a condition, too
abbrev pub bound_of : Bool → ℕ
bound_of condition = if condition then skipped_code else done_code

-- the test of `has_set`
abbrev sets : ℕ → Step → Bool
sets d x = is_on d x && is_done x.status

abbrev pub on_at : List ℕ → ℕ → ℕ → Bool
on_at device d j = eqb (get_or device j 0) d

-- on the device and at a stage below another
unfoldable pub below_at : List ℕ → List ℕ → ℕ → ℕ → ℕ → Bool
below_at device stage bound d j = on_at device d j && ltb (get_or stage j 0) bound

-- on the device and at a stage from one to another
unfoldable pub staged_at : List ℕ → List ℕ → ℕ → ℕ → ℕ → ℕ → Bool
staged_at device stage d low high j = on_at device d j && leb low (get_or stage j 0) && leb (get_or stage j 0) high

-- on the device, not answered and, of a routine that ends there, counted as a must
unfoldable pub must_at : List ℕ → List ℕ → List ℕ → ℕ → ℕ → ℕ → Bool
must_at device tag stage end d j =
    on_at device d j && leb (get_or stage j 0) in_flight_code && eqb (counting_tag tag j (end - j)) must_tag

pub on-at : (device : List ℕ) (d k n : ℕ) → any_at (on_at device d) k n ≡ any_on device d k n
on-at device d k zero = refl
on-at device d k (suc n) = rw (on-at device d (suc k) n)

pub staged-at : (device stage : List ℕ) (d low high k n : ℕ) →
    any_at (staged_at device stage d low high) k n ≡ any_staged device stage d low high k n
unfolding staged_at
staged-at device stage d low high k zero = refl
staged-at device stage d low high k (suc n) = rw (staged-at device stage d low high (suc k) n)

pub must-at : (device tag stage : List ℕ) (end d k n : ℕ) → end ≡ k + n →
    any_at (must_at device tag stage end d) k n ≡ any_must device tag stage d k n
unfolding must_at
must-at device tag stage end d k zero e = refl
must-at device tag stage end d k (suc n) e =
    let m : end - k ≡ suc n = omega arith in rw (m, must-at device tag stage end d (suc k) n (omega arith))

module _ (device stage : List ℕ) (d j : ℕ) where
  module _ (bound : ℕ) where
    pub below_here : get_or device j 0 ≡ d → get_or stage j 0 < bound → below_at device stage bound d j ≡ true
    unfolding below_at
    below_here e h = rw (eq-eqb (get_or device j 0) d e, lt-ltb (get_or stage j 0) bound h)

    pub below_other : (get_or device j 0 ≡ d → ⊥) → below_at device stage bound d j ≡ false
    unfolding below_at
    below_other n = rw (ne_eqb (get_or device j 0) d n)

    pub below_bound : bound ≤ get_or stage j 0 → below_at device stage bound d j ≡ false
    unfolding below_at
    below_bound h = rw (le-ltb (get_or stage j 0) bound h) (and-false (on_at device d j))

  module _ (low high : ℕ) where
    pub staged-here : get_or device j 0 ≡ d → low ≤ get_or stage j 0 → get_or stage j 0 ≤ high → staged_at device stage d low high j ≡ true
    unfolding staged_at
    staged-here e h i = rw (eq-eqb (get_or device j 0) d e, le-leb low (get_or stage j 0) h, le-leb (get_or stage j 0) high i)

    pub staged_other : (get_or device j 0 ≡ d → ⊥) → staged_at device stage d low high j ≡ false
    unfolding staged_at
    staged_other n = rw (ne_eqb (get_or device j 0) d n)

    pub staged_below : get_or stage j 0 < low → staged_at device stage d low high j ≡ false
    unfolding staged_at
    staged_below h = rw (lt-leb low (get_or stage j 0) h, and-false (on_at device d j))

    pub staged_above : high < get_or stage j 0 → staged_at device stage d low high j ≡ false
    unfolding staged_at
    staged_above h = rw (lt-leb (get_or stage j 0) high h) (and-false (on_at device d j && leb low (get_or stage j 0)))

  module _ (tag : List ℕ) (end : ℕ) where
    pub must-here : get_or device j 0 ≡ d → get_or stage j 0 ≤ in_flight_code → {t : ℕ} → t ≡ counting_tag tag j (end - j) → t ≡ must_tag →
        must_at device tag stage end d j ≡ true
    unfolding must_at
    must-here e h c i =
        rw (eq-eqb (get_or device j 0) d e, le-leb (get_or stage j 0) in_flight_code h, eq-eqb (counting_tag tag j (end - j)) must_tag (sym c ∙ i))

    pub must_other : (get_or device j 0 ≡ d → ⊥) → must_at device tag stage end d j ≡ false
    unfolding must_at
    must_other n = rw (ne_eqb (get_or device j 0) d n)

    pub must-answered : in_flight_code < get_or stage j 0 → must_at device tag stage end d j ≡ false
    unfolding must_at
    must-answered h = rw (lt-leb (get_or stage j 0) in_flight_code h, and-false (on_at device d j))

    pub must-not : {t : ℕ} → t ≡ counting_tag tag j (end - j) → (t ≡ must_tag → ⊥) → must_at device tag stage end d j ≡ false
    unfolding must_at
    must-not c n =
        rw (ne_eqb (counting_tag tag j (end - j)) must_tag (λ e. n (c ∙ e)))
        (and-false (on_at device d j && leb (get_or stage j 0) in_flight_code))

-- ---- the tag that counts

module _ (tag : List ℕ) (k end : ℕ) where
  -- a condition that is not the last
  pub counting_next : get_or tag k 0 ≡ condition_tag → k + 1 < end → get_or tag (k + 1) 0 ≡ counting_tag tag k (end - k)
  counting_next e i =
      let m : k + 1 ≡ suc k = omega arith in
      rw (eq-eqb (get_or tag k 0) condition_tag e, lt-ltb 1 (end - k) (omega arith), m)

  pub counting_last : end ≤ k + 1 → get_or tag k 0 ≡ counting_tag tag k (end - k)
  counting_last i = rw (le-ltb 1 (end - k) (omega arith), and-false (eqb (get_or tag k 0) condition_tag))

  pub counting_own : (get_or tag k 0 ≡ condition_tag → ⊥) → get_or tag k 0 ≡ counting_tag tag k (end - k)
  counting_own n = rw (ne_eqb (get_or tag k 0) condition_tag n)

-- the first of a row, as a list
pub among_at : (l : List ℕ) (i n : ℕ) → n ≤ length l → any_on l i 0 n ≡ any_of (λ j. eqb j i) (take n l)
among_at l i n h = go l 0 n h (λ j. let e : 0 + j ≡ j = omega arith in rw e)
  where
    go : (m : List ℕ) (k n : ℕ) → n ≤ length m → ((j : ℕ) → get_or l (k + j) 0 ≡ get_or m j 0) → any_on l i k n ≡ any_of (λ j. eqb j i) (take n m)
    go m k zero h e = refl
    go [] k (suc n) h e = absurd (omega arith)
    go (y ∷ m) k (suc n) h e =
        let a : k + 0 ≡ k = omega arith in
        let b : get_or l k 0 ≡ y = rw a at (e 0) in
        rw (b, go m (suc k) n (omega arith) (λ j. let c : suc k + j ≡ k + suc j = omega arith in rw c (e (suc j))))

-- ---- the codes of the stages

module _ (code : ℕ) (u : ℤ) where
  code_answered : not (is_answered (status_of code u)) ≡ ltb code done_code
  code_answered =
      by_less code done_code
      (λ h. rw (status_open code u h, lt-ltb code done_code h))
      (λ h. rw (status-answered code u h, le-ltb code done_code h))

  -- not answered, or done
  code_set : (ltb code done_code || eqb code done_code) ≡ ltb code skipped_code
  code_set =
      by_less code done_code
      (λ h. rw (lt-ltb code done_code h, lt-ltb code skipped_code (omega arith)))
      (λ h. by_eq code done_code
      (λ e. rw (le-ltb code done_code h, eq-eqb code done_code e, lt-ltb code skipped_code (omega arith)))
      (λ n. rw (le-ltb code done_code h, ne_eqb code done_code n, le-ltb code skipped_code (omega arith))))

  -- not answered: up to in flight; not to do: from in flight on
  code_left : not (is_answered (status_of code u)) ≡ leb code in_flight_code
  code_left =
      code_answered
      ∙ by_less code done_code
      (λ h. rw (lt-ltb code done_code h, le-leb code in_flight_code (omega arith)))
      (λ h. rw (le-ltb code done_code h, lt-leb code in_flight_code (omega arith)))

  code_begun : not (is_to_do (status_of code u)) ≡ leb in_flight_code code
  code_begun =
      by_eq code to_do_code
      (λ e. rw (status_to_do code u e, lt-leb in_flight_code code (omega arith)))
      (λ n. rw (status-begun code u n, le-leb in_flight_code code (omega arith)))

-- ---- the commands as steps

steps-at : (q : Step → Bool) (rows : Rows) (u : ℤ) (k n : ℕ) → any_of q (steps_from rows u k n) ≡ any_at (λ j. q (step_at rows u j)) k n
steps-at q rows u k zero = refl
steps-at q rows u k (suc n) = rw (steps-at q rows u (suc k) n)

module _ (rows : Rows) (u : ℤ) (d k n : ℕ) where
  -- not answered; or done
  steps_below : (condition : Bool) → (any_of (is_left_on d) (steps_from rows u k n) || (condition && any_of (sets d) (steps_from rows u k n)))
      ≡ any_at (below_at rows.devices rows.stages (bound_of condition) d) k n
  unfolding step_at below_at
  steps_below false =
      or-false (any_of (is_left_on d) (steps_from rows u k n))
      ∙ steps-at (is_left_on d) rows u k n
      ∙ at_same _ _ k n (λ j. ap (λ (t : Bool). on_at rows.devices d j && t) (code_answered (get_or rows.stages j 0) u))
  steps_below true =
      rw (steps-at (is_left_on d) rows u k n, steps-at (sets d) rows u k n) (at_or _ _ k n)
      ∙ at_same _ _ k n
      (λ j.
      let code = get_or rows.stages j 0 in
      sym (and-or_distrib_left (on_at rows.devices d j) (not (is_answered (status_of code u))) (is_done (status_of code u)))
      ∙ rw (code_answered code u, done-code code u, code_set code u))

  steps_left : any_of (is_left_on d) (steps_from rows u k n) ≡ any_staged rows.devices rows.stages d to_do_code in_flight_code k n
  unfolding step_at staged_at
  steps_left =
      steps-at (is_left_on d) rows u k n
      ∙ at_same _ _ k n
      (λ j.
      let code = get_or rows.stages j 0 in
      rw (code_left code u, le-leb to_do_code code (omega arith), and-true (on_at rows.devices d j)))
      ∙ staged-at rows.devices rows.stages d to_do_code in_flight_code k n

  steps-begun : ((j : ℕ) → get_or rows.stages j 0 ≤ highest_stage) →
      any_of (begins d) (steps_from rows u k n) ≡ any_staged rows.devices rows.stages d in_flight_code highest_stage k n
  unfolding step_at staged_at
  steps-begun b =
      steps-at (begins d) rows u k n
      ∙ at_same _ _ k n
      (λ j.
      let code = get_or rows.stages j 0 in
      rw (code_begun code u, le-leb code highest_stage (b j)) (sym (and-true (on_at rows.devices d j && leb in_flight_code code))))
      ∙ staged-at rows.devices rows.stages d in_flight_code highest_stage k n

-- what the tag that counts says of a command, with those behind it
pub counts_must : (rows : Rows) (u : ℤ) (k n : ℕ) →
    counts_as_must (step_at rows u k).command (commands_in (steps_from rows u (suc k) n)) ≡ eqb (counting_tag rows.tags k (suc n)) must_tag
unfolding step_at
counts_must rows u k zero = rw (and-false (eqb (get_or rows.tags k 0) condition_tag))
counts_must rows u k (suc n) =
    let tag = rows.tags in
    rw (lt-ltb 1 (suc (suc n)) (omega arith), and-true (eqb (get_or tag k 0) condition_tag))
    (by_test (λ (t : Bool). (if t then eqb (get_or tag (suc k) 0) must_tag else eqb (get_or tag k 0) must_tag)
    ≡ eqb (if t then get_or tag (suc k) 0 else get_or tag k 0) must_tag)
    (eqb (get_or tag k 0) condition_tag) (λ _. refl) (λ _. refl))

steps-must : (rows : Rows) (u : ℤ) (d k n : ℕ) →
    must_among d (steps_from rows u k n) ≡ any_must rows.devices rows.tags rows.stages d k n
unfolding step_at
steps-must rows u d k zero = refl
steps-must rows u d k (suc n) = rw (counts_must rows u k n, code_left (get_or rows.stages k 0) u, steps-must rows u d (suc k) n)

-- ---- the routine in a slot

-- it runs, and the one or the other
running_either : (runs a b condition : Bool) → ((runs && not (not a)) || (condition && (runs && b))) ≡ (runs && (a || (condition && b)))
running_either true a b condition = ap (λ (t : Bool). t || (condition && b)) (not-not a)
running_either false a b condition = and-false condition

module _ (h : HubState) (x d : ℕ) where
  -- a command of it on the device is not answered; or done, which holds up a condition
  pub holds-up-slot : (condition : Bool) → holds_up d condition (member_at h x)
      ≡ (not (get_or h.committed x false) && any_at (below_at h.device h.stage (bound_of condition) d) (x * max_commands)
      (get_or h.counts x 0))
  unfolding holds_up holds has_set is_running finished member_at steps_at
  holds-up-slot condition =
      let u = get_or h.due_then x (pos 0) in
      let l = steps_from (rows_of h) u (x * max_commands) (get_or h.counts x 0) in
      running_either (not (get_or h.committed x false)) (any_of (is_left_on d) l) (any_of (sets d) l) condition
      ∙ ap (λ (t : Bool). not (get_or h.committed x false) && t)
      (steps_below (rows_of h) u d (x * max_commands) (get_or h.counts x 0) condition)

  pub begun-slot : ((j : ℕ) → get_or h.stage j 0 ≤ highest_stage) →
      begun d (member_at h x)
      ≡ any_staged h.device h.stage d in_flight_code highest_stage (x * max_commands) (get_or h.counts x 0)
  unfolding begun member_at steps_at
  begun-slot b = steps-begun (rows_of h) _ d (x * max_commands) (get_or h.counts x 0) b

  pub left_slot : not (finished d (member_at h x))
      ≡ any_staged h.device h.stage d to_do_code in_flight_code (x * max_commands) (get_or h.counts x 0)
  unfolding finished member_at steps_at
  left_slot = not-not _ ∙ steps_left (rows_of h) _ d (x * max_commands) (get_or h.counts x 0)

  pub must-slot : must_left d (member_at h x) ≡ any_must h.device h.tag h.stage d (x * max_commands) (get_or h.counts x 0)
  unfolding must_left member_at steps_at
  must-slot = steps-must (rows_of h) _ d (x * max_commands) (get_or h.counts x 0)
