-- Counting slots in lists, the two changes of a list, and its parts around a slot. Assumes nothing.
use Prim.Native.Nat.{ℕ, ◌+◌, ◌≤◌, ◌<◌}
use native.Mathlib.Omega.{arith}
use borrow.Author.Tests.{eq-eqb, ne_eqb, lt-ltb, le-ltb, ltb-true, ltb-false}
use mathlib.Core.Path.{◌≡◌, refl, sym, ap}
use mathlib.Core.List.{List, [], ◌∷◌, ◌++◌, reverse_aux}
use mathlib.Core.Bool.{Bool}
use lib.Dec.{ltb}
use lib.ListN.{length}
use Rattle.std.specs.Prelude.{if◌then◌else◌}
use Rattle.rules_routine.proofs.RoutineLaws.{by_test}
use Rattle.rules_routine.specs.Limits.{max_sequence}
use Rattle.hub_sequence.specs.Lists.{same, count, placed, ahead_of_place, behind_place, without, up_to, rest, last_or}
use Rattle.hub_sequence.specs.Links.{none, within}
use Rattle.hub_sequence.proofs.Tables.{by_eq}

pub same_self : (x : ℕ) → same x x ≡ 1
unfolding same
same_self x = rw (eq-eqb x x refl)

pub same_eq : (x y : ℕ) → x ≡ y → same x y ≡ 1
unfolding same
same_eq x y e = rw (eq-eqb x y e)

pub same_other : (x y : ℕ) → (x ≡ y → ⊥) → same x y ≡ 0
unfolding same
same_other x y n = rw (ne_eqb x y n)

-- counted at least once or not at all: the numbers are the same or not
pub same-apart : (x y : ℕ) → same x y ≡ 0 → x ≡ y → ⊥
same-apart x y h e = omega (arith, same_eq x y e)

-- ---- slots

pub past-within : (x : ℕ) → max_sequence ≤ x → within x ≡ 0
unfolding within
past-within x h = rw (le-ltb x max_sequence h)

pub within-slot : (x : ℕ) → 1 ≤ within x → x < max_sequence
unfolding within
within-slot x h =
    by_test (λ (t : Bool). 1 ≤ (if t then 1 else 0) → x < max_sequence) (ltb x max_sequence) (λ e _. ltb-true x max_sequence e)
    (λ _ i. absurd (omega arith)) h

pub within_most : (x : ℕ) → within x ≤ 1
unfolding within
within_most x = by_test (λ (t : Bool). (if t then 1 else 0) ≤ 1) (ltb x max_sequence) (λ _. omega arith) (λ _. omega arith)

-- 1 if x is below y, else 0: `within` counts the slots so
unfoldable pub below : ℕ → ℕ → ℕ
below x y = if ltb x y then 1 else 0

pub within_below : (x : ℕ) → within x ≡ below x max_sequence
unfolding within below
within_below x = refl

pub below_zero : (x : ℕ) → below x 0 ≡ 0
unfolding below
below_zero x = rw (le-ltb x 0 (omega arith))

pub below_next : (x y : ℕ) → same x y + below x y ≡ below x (y + 1)
unfolding below
below_next x y =
    by_eq x y
    (λ e. rw (le-ltb x y (omega arith), lt-ltb x (y + 1) (omega arith)) (omega (arith, same_eq x y e)))
    (λ n.
    by_test (λ (t : Bool). same x y + (if t then 1 else 0) ≡ (if ltb x (y + 1) then 1 else 0)) (ltb x y)
    (λ e. let h = ltb-true x y e in rw (lt-ltb x (y + 1) (omega arith)) (omega (arith, same_other x y n)))
    (λ e. let h = ltb-false x y e in rw (le-ltb x (y + 1) (omega arith)) (omega (arith, same_other x y n))))

-- ---- the list with a slot placed in it

module _ (after s : ℕ) where
  pub count-placed : (w x : ℕ) (l : List ℕ) → 1 ≤ count after (x ∷ l) → count w (placed after s x l) ≡ same w s + count w l
  count-placed w x [] h = by_eq x after (λ e. rw (eq-eqb x after e)) (λ n. absurd (omega (arith, same_other after x (λ e. n (sym e)))))
  count-placed w x (y ∷ l) h =
      by_eq x after
      (λ e. rw (eq-eqb x after e))
      (λ n. rw (ne_eqb x after n) (let i = count-placed w y l (omega (arith, same_other after x (λ e. n (sym e)))) in omega arith))

  pub length-placed : (x : ℕ) (l : List ℕ) → 1 ≤ count after (x ∷ l) → length (placed after s x l) ≡ length l + 1
  length-placed x [] h = by_eq x after (λ e. rw (eq-eqb x after e)) (λ n. absurd (omega (arith, same_other after x (λ e. n (sym e)))))
  length-placed x (y ∷ l) h =
      by_eq x after
      (λ e. rw (eq-eqb x after e) (omega arith))
      (λ n. rw (ne_eqb x after n) (let i = length-placed y l (omega (arith, same_other after x (λ e. n (sym e)))) in omega arith))

  pub placed_split : (x : ℕ) (l : List ℕ) → 1 ≤ count after (x ∷ l) → placed after s x l ≡ ahead_of_place after x l
      ++ s ∷ behind_place after x l
  placed_split x [] h = by_eq x after (λ e. rw (eq-eqb x after e)) (λ n. absurd (omega (arith, same_other after x (λ e. n (sym e)))))
  placed_split x (y ∷ l) h =
      by_eq x after
      (λ e. rw (eq-eqb x after e))
      (λ n. rw (ne_eqb x after n) (ap (λ (m : List ℕ). y ∷ m) (placed_split y l (omega (arith, same_other after x (λ e. n (sym e)))))))

pub through_past : (after x : ℕ) (l : List ℕ) → ahead_of_place after x l ++ behind_place after x l ≡ l
through_past after x [] = refl
through_past after x (y ∷ l) =
    by_eq x after (λ e. rw (eq-eqb x after e)) (λ n. rw (ne_eqb x after n) (ap (λ (m : List ℕ). y ∷ m) (through_past after y l)))

-- ---- the list without a slot

module _ (s : ℕ) where
  pub count-without : (w : ℕ) (l : List ℕ) → 1 ≤ count s l → same w s + count w (without s l) ≡ count w l
  count-without w [] h = absurd (omega arith)
  count-without w (y ∷ l) h =
      by_eq y s
      (λ e. rw (eq-eqb y s e, e))
      (λ n. rw (ne_eqb y s n) (let i = count-without w l (omega (arith, same_other s y (λ e. n (sym e)))) in omega arith))

  pub length_without : (l : List ℕ) → 1 ≤ count s l → length (without s l) + 1 ≡ length l
  length_without [] h = absurd (omega arith)
  length_without (y ∷ l) h =
      by_eq y s
      (λ e. rw (eq-eqb y s e) (omega arith))
      (λ n. rw (ne_eqb y s n) (let i = length_without l (omega (arith, same_other s y (λ e. n (sym e)))) in omega arith))

-- ---- the list from the end

pub count-reverse-onto : (w : ℕ) (l m : List ℕ) → count w (reverse_aux l m) ≡ count w l + count w m
count-reverse-onto w [] m = omega arith
count-reverse-onto w (y ∷ l) m = let i = count-reverse-onto w l (y ∷ m) in omega arith

-- ---- two lists, and the parts of a list around a slot

pub count-append : (w : ℕ) (l m : List ℕ) → count w (l ++ m) ≡ count w l + count w m
count-append w [] m = omega arith
count-append w (y ∷ l) m = let i = count-append w l m in omega arith

module _ (x : ℕ) where
  pub slots_around : (l : List ℕ) → 1 ≤ count x l → l ≡ up_to x l ++ (x ∷ rest x l)
  slots_around [] h = absurd (omega arith)
  slots_around (y ∷ l) h =
      by_eq y x
      (λ e. rw (eq-eqb y x e) (ap (λ (z : ℕ). z ∷ l) e))
      (λ n. rw (ne_eqb y x n) (ap (λ (m : List ℕ). y ∷ m) (slots_around l (omega (arith, same_other x y (λ e. n (sym e)))))))

  pub without_around : (l : List ℕ) → 1 ≤ count x l → without x l ≡ up_to x l ++ rest x l
  without_around [] h = absurd (omega arith)
  without_around (y ∷ l) h =
      by_eq y x
      (λ e. rw (eq-eqb y x e))
      (λ n. rw (ne_eqb y x n) (ap (λ (m : List ℕ). y ∷ m) (without_around l (omega (arith, same_other x y (λ e. n (sym e)))))))

  pub without-first : (l : List ℕ) → without x (x ∷ l) ≡ l
  without-first l = rw (eq-eqb x x refl)

  pub off_up_to : (l : List ℕ) → count x (up_to x l) ≡ 0
  off_up_to [] = refl
  off_up_to (y ∷ l) =
      by_eq y x
      (λ e. rw (eq-eqb y x e))
      (λ n. rw (ne_eqb y x n) (let i = off_up_to l in omega (arith, same_other x y (λ e. n (sym e)))))

  -- a slot that is there once is not behind itself
  pub off_rest : (l : List ℕ) → count x l ≤ 1 → count x (rest x l) ≡ 0
  off_rest [] h = refl
  off_rest (y ∷ l) h =
      by_eq y x
      (λ e. rw (eq-eqb y x e) (omega (arith, same_eq x y (sym e))))
      (λ n. rw (ne_eqb y x n) (off_rest l (omega arith)))

-- ---- the last of a list

-- the newcomer stands behind the last of what is ahead of it
last_through : (after x : ℕ) (l : List ℕ) → 1 ≤ count after (x ∷ l) → last_or x (ahead_of_place after x l) ≡ after
last_through after x [] h = by_eq x after (λ e. e) (λ n. absurd (omega (arith, same_other after x (λ e. n (sym e)))))
last_through after x (y ∷ l) h =
    by_eq x after
    (λ e. rw (eq-eqb x after e) e)
    (λ n. rw (ne_eqb x after n) (last_through after y l (omega (arith, same_other after x (λ e. n (sym e))))))

pub through_last : (after : ℕ) (l : List ℕ) → 1 ≤ count after (none ∷ l) → last_or none (ahead_of_place after none l) ≡ after
through_last after l h = last_through after none l h
