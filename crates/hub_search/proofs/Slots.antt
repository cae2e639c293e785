-- A search from slot to slot is a search in the list of the members that stand there. Assumes nothing.
use Rattle.std.proofs.Common.{None, Some}
use Prim.Native.Nat.{ℕ, ◌≤◌, ◌<◌}
use native.Mathlib.Omega.{arith}
use borrow.Author.Tests.{eq-eqb, ne_eqb}
use mathlib.Core.Path.{◌≡◌, refl, sym, ap, ◌∙◌}
use mathlib.Core.Bool.{Bool, true, false, ◌||◌}
use mathlib.Core.List.{List, [], ◌∷◌, map}
use lib.Dec.{eqb}
use lib.ListN.{length, get_or}
use Rattle.std.specs.Prelude.{if◌then◌else◌}
use Rattle.rules_routine.proofs.RoutineLaws.{by_test}
use Rattle.rules_routine.specs.Limits.{max_sequence}
use Rattle.rules.specs.State.{Member}
use Rattle.rules.specs.Sequence.{find, onto}
use Rattle.rules.specs.Turn.{holds_up, first_holding}
use Rattle.rules.proofs.Lists.{t≠f}
use Rattle.hub_sequence.specs.Lists.{count, up_to, rest}
use Rattle.hub_sequence.specs.Links.{none, along, Walks}
use Rattle.hub_sequence.proofs.Tables.{by_eq}
use Rattle.hub_sequence.proofs.Lists.{same_self, same_eq, same_other}
use Rattle.hub_sequence.proofs.WalkLaws.{walks_end, walks_next, walks_less}

-- The first slot of a list that passes a test; none if there is no such slot.
unfoldable pub first_slot : (ℕ → Bool) → List ℕ → ℕ
first_slot t [] = none
first_slot t (x ∷ l) = if t x then x else first_slot t l

-- ---- a walk along a row

-- The walk has come to slot x, and what is left of it has the first that passes the test.
pub record Seeks (t : ℕ → Bool) (row : List ℕ) (first x : ℕ) : Type 0 where
  pub walks : Walks row x
  pub inside : (w : ℕ) → count w (along row x) ≤ count w (along row first)
  pub left : first_slot t (along row x) ≡ first_slot t (along row first)

pub seeks_start : (t : ℕ → Bool) (row : List ℕ) (x : ℕ) → Walks row x → Seeks t row x x
seeks_start t row x w = record { walks = w; inside = λ y. omega arith; left = refl }

module _ {t : ℕ → Bool} {row : List ℕ} {first x : ℕ} (s : Seeks t row first x) where
  pub seeks_end : max_sequence ≤ x → first_slot t (along row first) ≡ none
  unfolding first_slot
  seeks_end h = sym s.left ∙ ap (first_slot t) (walks_end s.walks h)

  module _ (h : x < max_sequence) where
    pub seeks_there : 1 ≤ count x (along row first)
    seeks_there =
        let e : count x (along row x) ≡ count x (x ∷ along row (get_or row x 0)) = ap (count x) (walks_next s.walks h).0 in
        omega (arith, s.inside x, same_self x)

    pub seeks_found : t x ≡ true → first_slot t (along row first) ≡ x
    unfolding first_slot
    seeks_found e = sym s.left ∙ rw ((walks_next s.walks h).0, e)

    pub seeks_on : t x ≡ false → Seeks t row first (get_or row x 0)
    unfolding first_slot
    seeks_on e =
        let n = walks_next s.walks h in
        let l : first_slot t (along row x) ≡ first_slot t (along row (get_or row x 0)) = rw (n.0, e) in
        record {
          walks = n.1;
          inside = λ w.
              let c : count w (along row x) ≡ count w (x ∷ along row (get_or row x 0)) = ap (count w) n.0 in
              omega (arith, s.inside w);
          left = sym l ∙ s.left;
        }

    pub seeks_less : length (along row (get_or row x 0)) < length (along row x)
    seeks_less = walks_less s.walks h

-- ---- the first of a list

-- a search stops at a slot that passes
pub first_passes : (t : ℕ → Bool) (l : List ℕ) (x : ℕ) → first_slot t l ≡ x → (x ≡ none → ⊥) → t x ≡ true
unfolding first_slot
first_passes t [] x e n = absurd (n (sym e))
first_passes t (y ∷ l) x e n =
    by_test (λ (u : Bool). t y ≡ u → (if u then y else first_slot t l) ≡ x → t x ≡ true) (t y)
    (λ _ a b. ap t (sym b) ∙ a)
    (λ _ a b. first_passes t l x b n) refl e

-- tests that agree on the list
pub first-same : (t u : ℕ → Bool) (l : List ℕ) → ((x : ℕ) → 1 ≤ count x l → t x ≡ u x) → first_slot t l ≡ first_slot u l
unfolding first_slot
first-same t u [] h = refl
first-same t u (y ∷ l) h =
    rw (h y (omega (arith, same_self y)), first-same t u l (λ x i. h x (omega arith)))

-- where a slot of the list passes, a slot is found
pub first_some : (t : ℕ → Bool) (l : List ℕ) (x : ℕ) → 1 ≤ count x l → t x ≡ true → 1 ≤ count (first_slot t l) l
unfolding first_slot
first_some t [] x h e = absurd (omega arith)
first_some t (y ∷ l) x h e =
    by_test (λ (u : Bool). t y ≡ u → 1 ≤ count (if u then y else first_slot t l) (y ∷ l)) (t y)
    (λ _ _. omega (arith, same_self y))
    (λ _ a.
    let i = first_some t l x (omega (arith, same_other x y (λ q. t≠f (sym e ∙ ap t q ∙ a)))) e in
    omega arith) refl

-- ---- as a search in the list of members

module _ (p : Member → Bool) (f : ℕ → Member) where
  pub find-slot : (l : List ℕ) (x : ℕ) → first_slot (λ y. p (f y)) l ≡ x → (x ≡ none → ⊥) →
      find p (map f l) ≡ Some (record { ahead = map f (up_to x l); it = f x; behind = map f (rest x l) })
  unfolding first_slot
  find-slot [] x e n = absurd (n (sym e))
  find-slot (y ∷ l) x e n =
      by_eq y x
      (λ q. let a : p (f y) ≡ true = ap (λ (z : ℕ). p (f z)) q ∙ first_passes (λ z. p (f z)) (y ∷ l) x e n in
      rw (eq-eqb y x q, a) (ap (λ (z : ℕ). Some (record { ahead = []; it = f z; behind = map f l })) q))
      (λ m.
      by_test (λ (u : Bool). p (f y) ≡ u → (if u then y else first_slot (λ z. p (f z)) l) ≡ x →
      (if u then Some (record { ahead = []; it = f y; behind = map f l }) else onto (f y) (find p (map f l)))
      ≡ Some (record { ahead = map f (up_to x (y ∷ l)); it = f x; behind = map f (rest x (y ∷ l)) })) (p (f y))
      (λ _ a b. absurd (m b))
      (λ _ a b. rw (ne_eqb y x m, find-slot l x b n)) refl e)

  pub find_nowhere : (l : List ℕ) → first_slot (λ y. p (f y)) l ≡ none → count none l ≡ 0 → find p (map f l) ≡ None
  unfolding first_slot
  find_nowhere [] e h = refl
  find_nowhere (y ∷ l) e h =
      by_test (λ (u : Bool). (if u then y else first_slot (λ z. p (f z)) l) ≡ none →
      (if u then Some (record { ahead = []; it = f y; behind = map f l }) else onto (f y) (find p (map f l))) ≡ None) (p (f y))
      (λ _ b. absurd (omega (arith, same_eq none y (sym b))))
      (λ _ b. rw (find_nowhere l b (omega arith))) e

-- ---- the wait search: up to a slot

-- The search stops at this slot too.
unfoldable pub stop_at : ℕ → (ℕ → Bool) → ℕ → Bool
stop_at at t x = eqb x at || t x

module _ (d : ℕ) (condition : Bool) (f : ℕ → Member) (at : ℕ) where
  abbrev stops : ℕ → Bool
  stops x = stop_at at (λ y. holds_up d condition (f y)) x

  pub holding_none : (l : List ℕ) → first_slot stops l ≡ at → first_holding d condition (map f (up_to at l)) ≡ None
  unfolding first_slot stop_at
  holding_none [] e = refl
  holding_none (y ∷ l) e =
      by_eq y at
      (λ q. rw (eq-eqb y at q))
      (λ m.
      let g : (if holds_up d condition (f y) then y else first_slot stops l) ≡ at = rw (ne_eqb y at m) at e in
      rw (ne_eqb y at m)
      (by_test (λ (u : Bool). (if u then y else first_slot stops l) ≡ at →
      (if u then Some (f y).id else first_holding d condition (map f (up_to at l))) ≡ None) (holds_up d condition (f y))
      (λ _ b. absurd (m b))
      (λ _ b. holding_none l b) g))

  pub holding_some : (l : List ℕ) (x : ℕ) → first_slot stops l ≡ x → (x ≡ at → ⊥) → (x ≡ none → ⊥) →
      first_holding d condition (map f (up_to at l)) ≡ Some (f x).id
  unfolding first_slot stop_at
  holding_some [] x e k n = absurd (n (sym e))
  holding_some (y ∷ l) x e k n =
      by_eq y at
      (λ q. absurd (k (sym (rw (eq-eqb y at q) at e) ∙ q)))
      (λ m.
      let g : (if holds_up d condition (f y) then y else first_slot stops l) ≡ x = rw (ne_eqb y at m) at e in
      rw (ne_eqb y at m)
      (by_test (λ (u : Bool). (if u then y else first_slot stops l) ≡ x →
      (if u then Some (f y).id else first_holding d condition (map f (up_to at l))) ≡ Some (f x).id) (holds_up d condition (f y))
      (λ _ b. ap (λ (z : ℕ). Some (f z).id) b)
      (λ _ b. holding_some l x b k n) g))
