-- A walk from slot to slot, along either row. Assumes nothing.
use Prim.Native.Nat.{ℕ, ◌+◌, ◌≤◌, ◌<◌}
use native.Mathlib.Omega.{arith}
use mathlib.Core.Path.{◌≡◌, refl, sym, ap, subst, ◌∙◌}
use mathlib.Core.List.{List, [], ◌∷◌, ◌++◌}
use lib.ListN.{length, get_or}
use Rattle.rules_routine.specs.Limits.{max_sequence}
use Rattle.hub_sequence.specs.Lists.{count, ahead_of_place, behind_place}
use Rattle.hub_sequence.specs.Links.{none, along, within, Chain, more, stop, slots_of, LinksOk, Walks, Stands, StandsOrNone}
use Rattle.hub_sequence.specs.Contract.{Joins}
use Rattle.hub_sequence.specs.declared.Links.{Links}
use Rattle.hub_sequence.specs.declared.Joined.{Joined}
use Rattle.hub_sequence.proofs.Tables.{by_less}
use Rattle.hub_sequence.proofs.Lists.{same_self, past-within, count-append, placed_split}
use Rattle.hub_sequence.proofs.ReadLaws.{walks_of, walks-behind}

module _ {row : List ℕ} {x : ℕ} (t : Walks row x) where
  pub walks_end : max_sequence ≤ x → along row x ≡ []
  walks_end h = ends t.chain t.slots
    where
      ends : {l : List ℕ} → Chain (λ y. get_or row y 0) x l → ((w : ℕ) → count w l ≤ within w) → l ≡ []
      ends (stop e) s = refl
      ends (more c) s = absurd (omega (arith, s x, same_self x, past-within x h))

  -- at a slot the walk goes on with what the row has there
  pub walks_next : x < max_sequence → (along row x ≡ x ∷ along row (get_or row x 0)) × Walks row (get_or row x 0)
  walks_next h = goes (along row x) t.chain t.slots t.short
    where
      goes : (l : List ℕ) → Chain (λ y. get_or row y 0) x l → ((w : ℕ) → count w l ≤ within w) → length l ≤ max_sequence →
          (l ≡ x ∷ along row (get_or row x 0)) × Walks row (get_or row x 0)
      goes _ (stop e) s i = absurd (omega arith)
      goes _ (more {l = m} c) s i =
          let q = walks_of row c (λ w. omega (arith, s w)) (omega arith) in
          (ap (λ (n : List ℕ). x ∷ n) (sym q.0), q.1)

  -- and is shorter then, so that a loop along the row ends
  pub walks_less : x < max_sequence → length (along row (get_or row x 0)) < length (along row x)
  walks_less h = rw (walks_next h).0 (omega arith)

-- ---- a walk up to a slot

-- while the slot is still to come, the walk is at a slot
pub walks_on : {row : List ℕ} {x : ℕ} → Walks row x → (at : ℕ) → 1 ≤ count at (along row x) → x < max_sequence
walks_on {row} {x} t at h =
    by_less x max_sequence (λ i. i)
    (λ i. let e : along row x ≡ [] = walks_end t i in let z : count at (along row x) ≡ 0 = rw e in absurd (omega arith))

-- ---- the first slot

module _ (k : Links) (v : LinksOk k) where
  pub first_slot : k.first < max_sequence → slots_of k ≡ k.first ∷ along k.behind (get_or k.behind k.first 0)
  first_slot h = (walks_next (walks-behind k v) h).0

  pub first-stands : k.first < max_sequence → Stands k k.first
  first-stands h = rw (first_slot h) (omega (arith, same_self k.first))

  pub no_first : max_sequence ≤ k.first → slots_of k ≡ []
  no_first h = walks_end (walks-behind k v) h

-- ---- what stands behind a slot

-- a list that starts with a slot, as a walk gives it
same_parts : (x y : ℕ) (l m : List ℕ) → x ∷ l ≡ y ∷ m → (x ≡ y) × (l ≡ m)
same_parts x y l m e = let i : x ≡ y = cc in let j : l ≡ m = cc in (i, j)

-- a walk that comes to s is at a slot
comes_to : {row : List ℕ} {x : ℕ} → Walks row x → (l m : List ℕ) (s : ℕ) → along row x ≡ l ++ (s ∷ m) → x < max_sequence
comes_to {row} {x} t l m s e =
    let c : count s (along row x) ≡ count s l + count s (s ∷ m) = ap (count s) e ∙ count-append s l (s ∷ m) in
    walks_on t s (omega (arith, same_self s))

-- a walk that comes to s goes on with what stands behind s
pub walks-past : {row : List ℕ} (l m : List ℕ) (x s : ℕ) → Walks row x → along row x ≡ l ++ (s ∷ m) → (along row (get_or row s 0) ≡ m)
    × Walks row (get_or row s 0)
walks-past {row} [] m x s t e =
    let w = walks_next t (comes_to t [] m s e) in
    let p = same_parts x s (along row (get_or row x 0)) m (sym w.0 ∙ e) in
    subst (λ (y : ℕ). (along row (get_or row y 0) ≡ m) × Walks row (get_or row y 0)) p.0 (p.1, w.1)
walks-past {row} (y ∷ l) m x s t e =
    let w = walks_next t (comes_to t (y ∷ l) m s e) in
    walks-past l m (get_or row x 0) s w.1 (same_parts x y (along row (get_or row x 0)) (l ++ (s ∷ m)) (sym w.0 ∙ e)).1

pub behind-joined : (k : Links) (after : ℕ) (r : Joined) → StandsOrNone k after → Joins k after r →
    (along r.links.behind (get_or r.links.behind r.slot 0) ≡ behind_place after none (slots_of k))
    × Walks r.links.behind (get_or r.links.behind r.slot 0)
behind-joined k after r p j =
    walks-past (ahead_of_place after none (slots_of k)) (behind_place after none (slots_of k)) r.links.first r.slot
    (walks-behind r.links j.valid) (j.slots ∙ placed_split after r.slot none (slots_of k) p)
