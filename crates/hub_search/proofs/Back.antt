-- A search from the last slot on: the last slot of the sequence that passes a test, and what stands ahead of it and behind it. Assumes
-- nothing.
use Prim.Native.Nat.{ℕ, ◌≤◌}
use native.Mathlib.Omega.{arith}
use borrow.Author.Tests.{eq-eqb, ne_eqb}
use mathlib.Core.Path.{◌≡◌, refl, sym, ap, ◌∙◌, subst}
use mathlib.Core.Bool.{Bool, true, false, ◌||◌}
use mathlib.Core.List.{List, [], ◌∷◌, map, reverse_aux, reverse}
use Rattle.std.specs.Prelude.{if◌then◌else◌}
use Rattle.rules_routine.proofs.RoutineLaws.{by_test}
use Rattle.rules.specs.Tables.{any_of}
use Rattle.rules.specs.State.{Member}
use Rattle.rules.specs.Submit.{up_to_last, past_last}
use Rattle.rules.proofs.Lists.{t≠f, or_left, or_right}
use Rattle.hub_sequence.specs.Lists.{count, ahead_of_place, behind_place}
use Rattle.hub_sequence.specs.Links.{none}
use Rattle.hub_sequence.proofs.Lists.{same_self}
use Rattle.hub_search.proofs.Slots.{first_slot}

-- The last slot of a list that passes a test; z if there is no such slot.
unfoldable last_slot : (ℕ → Bool) → ℕ → List ℕ → ℕ
last_slot t z [] = z
last_slot t z (x ∷ l) = last_slot t (if t x then x else z) l

first-back-onto : (t : ℕ → Bool) (l m : List ℕ) → first_slot t (reverse_aux l m) ≡ last_slot t (first_slot t m) l
unfolding first_slot last_slot
first-back-onto t [] m = refl
first-back-onto t (x ∷ l) m = first-back-onto t l (x ∷ m)

first_back : (t : ℕ → Bool) (l : List ℕ) → first_slot t (reverse l) ≡ last_slot t none l
unfolding first_slot
first_back t l = first-back-onto t l []

module _ (t : ℕ → Bool) where
  last_none : (l : List ℕ) (z : ℕ) → any_of t l ≡ false → last_slot t z l ≡ z
  unfolding last_slot
  last_none [] z e = refl
  last_none (x ∷ l) z e = rw (or_left (t x) (any_of t l) e) (last_none l z (or_right (t x) (any_of t l) e))

  -- where one passes it does not matter what stands for none
  last_any : (l : List ℕ) (y z : ℕ) → any_of t l ≡ true → last_slot t y l ≡ last_slot t z l
  unfolding last_slot
  last_any [] y z e = t≠f (sym e)
  last_any (x ∷ l) y z e =
      by_test (λ (u : Bool). u || any_of t l ≡ true → last_slot t (if u then x else y) l ≡ last_slot t (if u then x else z) l) (t x)
      (λ _ _. refl)
      (λ _ a. last_any l y z a) e

  last_in : (l : List ℕ) (z : ℕ) → 1 ≤ count (last_slot t z l) (z ∷ l)
  unfolding last_slot
  last_in [] z = omega (arith, same_self z)
  last_in (x ∷ l) z =
      by_test (λ (u : Bool). 1 ≤ count (last_slot t (if u then x else z) l) (z ∷ x ∷ l)) (t x)
      (λ _. let i = last_in l x in omega arith)
      (λ _. let i = last_in l z in omega arith)

-- ---- the sequence up to the last and past it

module _ (p : Member → Bool) (f : ℕ → Member) where
  abbrev passes : ℕ → Bool
  passes x = p (f x)

  any_map : (l : List ℕ) → any_of p (map f l) ≡ any_of passes l
  any_map [] = refl
  any_map (x ∷ l) = rw (any_map l)

  abbrev Around : ℕ → ℕ → List ℕ → Type 0
  Around after x l = (map f (ahead_of_place after x l) ≡ up_to_last p (map f l)) × (map f (behind_place after x l) ≡ past_last p (map f l))

  -- the list stands behind x
  around_last : (l : List ℕ) (x : ℕ) → ((w : ℕ) → count w (x ∷ l) ≤ 1) → Around (last_slot passes x l) x l
  unfolding last_slot
  around_last [] x h = (refl, refl)
  around_last (y ∷ l) x h =
      by_test (λ (u : Bool). any_of passes (y ∷ l) ≡ u → Around (last_slot passes x (y ∷ l)) x (y ∷ l)) (any_of passes (y ∷ l))
      (λ _ a.
      let e : last_slot passes x (y ∷ l) ≡ last_slot passes y l =
      by_test (λ (u : Bool). u || any_of passes l ≡ true → last_slot passes (if u then y else x) l ≡ last_slot passes y l) (passes y)
      (λ _ _. refl)
      (λ _ b. last_any passes l x y b) a in
      let i = around_last l y (λ w. let k = h w in omega arith) in
      let n : x ≡ last_slot passes y l → ⊥ = λ q.
      let k : 1 ≤ count x (y ∷ l) = subst (λ (z : ℕ). 1 ≤ count z (y ∷ l)) (sym q) (last_in passes l y) in
      omega (arith, h x, same_self x) in
      let m : any_of p (map f (y ∷ l)) ≡ true = any_map (y ∷ l) ∙ a in
      subst (λ (z : ℕ). Around z x (y ∷ l)) (sym e) (rw (m, ne_eqb x (last_slot passes y l) n) (ap (λ (r : List Member). f y ∷ r) i.0, i.1)))
      (λ _ a.
      let e : last_slot passes x (y ∷ l) ≡ x = last_none passes (y ∷ l) x a in
      let m : any_of p (map f (y ∷ l)) ≡ false = any_map (y ∷ l) ∙ a in
      subst (λ (z : ℕ). Around z x (y ∷ l)) (sym e) (rw (m, eq-eqb x x refl) (refl, refl))) refl

  -- what is found from the end stands directly before a newcomer
  pub back_around : (l : List ℕ) (after : ℕ) → ((w : ℕ) → count w (none ∷ l) ≤ 1) → first_slot passes (reverse l) ≡ after →
      Around after none l
  back_around l after h e = subst (λ (z : ℕ). Around z none l) (sym (first_back passes l) ∙ e) (around_last l none h)

  pub back-place : (l : List ℕ) (after : ℕ) → first_slot passes (reverse l) ≡ after → 1 ≤ count after (none ∷ l)
  back-place l after e = subst (λ (z : ℕ). 1 ≤ count z (none ∷ l)) (sym (first_back passes l) ∙ e) (last_in passes l none)
