-- Tests, and a row with its end as a table. Assumes nothing.
use Prim.Native.Nat.{ℕ, ◌≤◌, ◌<◌}
use native.Mathlib.Omega.{arith}
use borrow.Author.Tests.{eq-eqb, ne_eqb, eqb-true, eqb-false, ltb-true, ltb-false}
use mathlib.Core.Path.{◌≡◌, refl}
use mathlib.Core.Bool.{Bool}
use mathlib.Core.List.{List}
use lib.Dec.{eqb, ltb}
use lib.ListN.{length, get_or, set, length-set}
use lib.Seq.{get_or-set_same, get_or-set_other}
use Rattle.rules_routine.proofs.RoutineLaws.{by_test}
use Rattle.rules_routine.specs.Limits.{max_sequence}
use Rattle.rules.specs.Tables.{put}
use Rattle.hub_sequence.specs.Links.{none, link_of, row_with, end_with, Spot}

pub fun_ext : (f g : ℕ → ℕ) → ((x : ℕ) → f x ≡ g x) → f ≡ g
fun_ext f g e i = λ x. e x i

pub at : {f g : ℕ → ℕ} → f ≡ g → (x : ℕ) → f x ≡ g x
at e x = λ i. e i x

-- two numbers are the same or not
pub by_eq : {C : Type 0} (x y : ℕ) → (x ≡ y → C) → ((x ≡ y → ⊥) → C) → C
by_eq {C} x y yes' no' = by_test (λ (t : Bool). C) (eqb x y) (λ e. yes' (eqb-true x y e)) (λ e. no' (eqb-false x y e))

-- one is below the other or not
pub by_less : {C : Type 0} (x y : ℕ) → (x < y → C) → (y ≤ x → C) → C
by_less {C} x y yes' no' = by_test (λ (t : Bool). C) (ltb x y) (λ e. yes' (ltb-true x y e)) (λ e. no' (ltb-false x y e))

-- ---- the link of none is the end, another link stands in the row

module _ (row : List ℕ) (end : ℕ) where
  pub link_end : (x : ℕ) → x ≡ none → link_of row end x ≡ end
  unfolding link_of
  link_end x e = rw (eq-eqb x none e)

  pub link_row : (x : ℕ) → (x ≡ none → ⊥) → link_of row end x ≡ get_or row x 0
  unfolding link_of
  link_row x n = rw (ne_eqb x none n)

module _ (row : List ℕ) (at to : ℕ) where
  pub row_none : at ≡ none → row_with row at to ≡ row
  unfolding row_with
  row_none e = rw (eq-eqb at none e)

  pub row_slot : (at ≡ none → ⊥) → row_with row at to ≡ set row at to
  unfolding row_with
  row_slot n = rw (ne_eqb at none n)

  pub length_row : length (row_with row at to) ≡ length row
  length_row = by_eq at none (λ e. rw (row_none e)) (λ n. rw (row_slot n) (simp length-set))

module _ (end at to : ℕ) where
  pub end_none : at ≡ none → end_with end at to ≡ to
  unfolding end_with
  end_none e = rw (eq-eqb at none e)

  pub end_slot : (at ≡ none → ⊥) → end_with end at to ≡ end
  unfolding end_with
  end_slot n = rw (ne_eqb at none n)

-- ---- a store to the end, and one to the row, is `put`

module _ (row : List ℕ) (end : ℕ) where
  put_end : (at to : ℕ) → at ≡ none → link_of row to ≡ put (link_of row end) at to
  unfolding link_of
  put_end at to i =
      fun_ext _ _ (λ x. rw i (by_eq x none (λ e. rw (eq-eqb x none e)) (λ n. rw (ne_eqb x none n))))

  put_row : (at to : ℕ) → (at ≡ none → ⊥) → at < length row → link_of (set row at to) end ≡ put (link_of row end) at to
  unfolding link_of
  put_row at to n h =
      fun_ext _ _
      (λ x. by_eq x at
      (λ e. rw (e, ne_eqb at none n, eq-eqb at at refl) (get_or-set_same row at to 0 h))
      (λ m. rw (ne_eqb x at m, get_or-set_other row at x to 0 m)))

  -- a link is set: the row and the end together change as a table does
  pub put_link : (at to : ℕ) → Spot at → length row ≡ max_sequence →
      link_of (row_with row at to) (end_with end at to) ≡ put (link_of row end) at to
  put_link at to s l =
      by_eq at none
      (λ e. rw (row_none row at to e, end_none end at to e) (put_end at to e))
      (λ n. let h = s n in rw (row_slot row at to n, end_slot end at to n) (put_row at to n (omega arith)))

  -- of a slot: the end stays
  pub put-slot : (at to : ℕ) → at < max_sequence → length row ≡ max_sequence → link_of (row_with row at to) end ≡ put (link_of row end) at to
  put-slot at to h l = let n : at ≡ none → ⊥ = λ e. omega arith in rw (row_slot row at to n) (put_row at to n (omega arith))

-- a row and its end that are given by equations
pub link_now : {row row' : List ℕ} {end end' : ℕ} → row ≡ row' → end ≡ end' → link_of row end ≡ link_of row' end'
link_now e f i = link_of (e i) (f i)
