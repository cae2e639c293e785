-- Groups that differ in their events and in how often they were passed: placing, leaving and attaching make lists of such. Assumes nothing.
use Rattle.std.proofs.Common.{Option}
use mathlib.Core.Path.{◌≡◌, refl, sym, subst}
use mathlib.Core.List.{List, [], ◌∷◌, ◌++◌}
use Prim.Native.Nat.{ℕ}
use lib.Dec.{eqb}
use lib.IntN.{ℤ}
use Rattle.rules.specs.Submit.{pass}
use Rattle.rules.specs.Order.{Event}
use Rattle.rules.specs.Attach.{attach_to}
use Rattle.rules.specs.Tables.{Each}
use Rattle.rules.proofs.Lists.{by_if}
use Rattle.rules_promises.proofs.Groups.{Group, ids, last_restart, with, pass_all, add_events, add_to_last, leaving, add_event}
use Rattle.rules_promises.proofs.Groups.{attach_event}
use Rattle.rules_promises.proofs.Groups.{added_is}

-- ---- two lists, one by one

pub data Pairwise (R : Group → Group → Type 0) : List Group → List Group → Type 0 where
  no_pair : Pairwise R [] []
  pair : {g h : Group} {l k : List Group} → R g h → Pairwise R l k → Pairwise R (g ∷ l) (h ∷ k)

pub pairs_each : (R : Group → Group → Type 0) (P : Group → Type 0) → ((g h : Group) → R g h → P g → P h) → {l k : List Group} →
    Pairwise R l k → Each P l → Each P k
pairs_each R P f no_pair h = tt
pairs_each R P f (pair r q) h = (f _ _ r h.0, pairs_each R P f q h.1)

module _ (R : Group → Group → Type 0) (same : (g : Group) → R g g) where
  pairs_refl : (l : List Group) → Pairwise R l l
  pairs_refl [] = no_pair
  pairs_refl (g ∷ l) = pair (same g) (pairs_refl l)

  -- the newcomer x is placed ahead of b
  pub pairs_placed : ((g : Group) → R g (with g (pass g.member))) → (a : List Group) (x : Group) (b : List Group) →
      Pairwise R (a ++ (x ∷ b)) (a ++ (x ∷ pass_all b))
  pairs_placed f [] x b = pair (same x) (passed b)
    where
      passed : (b : List Group) → Pairwise R b (pass_all b)
      passed [] = no_pair
      passed (g ∷ b) = pair (f g) (passed b)
  pairs_placed f (g ∷ a) x b = pair (same g) (pairs_placed f a x b)

  -- events f, whose last restarts are e, move to the last of a
  pub pairs_last : (f : List Event) (e : ℕ → Option ℤ) → ((g : Group) → R g (add_events f e g)) → (a b : List Group) →
      Pairwise R (a ++ b) (add_to_last f e a ++ b)
  pairs_last f e h [] b = pairs_refl b
  pairs_last f e h (g ∷ []) b = pair (h g) (pairs_refl b)
  pairs_last f e h (g ∷ (x ∷ a)) b = pair (same g) (pairs_last f e h (x ∷ a) b)

  pub pairs_attached : (j : ℕ) (x : Event) → ((g : Group) → R g (add_event x g)) → (l : List Group) → Pairwise R l (attach_event j x l)
  pairs_attached j x f [] = no_pair
  pairs_attached j x f (g ∷ l) =
      by_if (λ k. Pairwise R (g ∷ l) k) (eqb g.member.id j) (λ _. pair (f g) (pairs_refl l))
      (λ _. pair (same g) (pairs_attached j x f l))

-- ---- the same routine, in all but its events and how often it was passed

pub record Same (g h : Group) : Type 0 where
  pub same_id : h.member.id ≡ g.member.id
  pub same-steps : h.member.steps ≡ g.member.steps
  pub same-committed : h.member.committed ≡ g.member.committed

pub same_refl : (g : Group) → Same g g
same_refl g = record { same_id = refl; same-steps = refl; same-committed = refl }

pub same-pass : (g : Group) → Same g (with g (pass g.member))
unfolding pass
same-pass g = record { same_id = refl; same-steps = refl; same-committed = refl }

pub same_moved : (f : List Event) (e : ℕ → Option ℤ) (g : Group) → Same g (add_events f e g)
unfolding attach_to
same_moved f e g = record { same_id = refl; same-steps = refl; same-committed = refl }

pub same_added : (x : Event) (g : Group) → Same g (add_event x g)
same_added x g = subst (Same g) (sym (added_is x g)) (same_moved (x ∷ []) (λ d. last_restart d (x ∷ [])) g)

pub same-placed : (a : List Group) (x : Group) (b : List Group) → Pairwise Same (a ++ (x ∷ b)) (a ++ (x ∷ pass_all b))
same-placed = pairs_placed Same same_refl same-pass

pub same_leaving : (a : List Group) (g : Group) (b : List Group) → Pairwise Same (a ++ b) (leaving a g b)
same_leaving a g b = pairs_last Same same_refl g.events g.member.restarts (same_moved g.events g.member.restarts) a b

pub same_attached : (j : ℕ) (x : Event) (l : List Group) → Pairwise Same l (attach_event j x l)
same_attached j x = pairs_attached Same same_refl j x (same_added x)

pub same_each : (P : Group → Type 0) → ((g h : Group) → Same g h → P g → P h) → {l k : List Group} → Pairwise Same l k → Each P l → Each P k
same_each = pairs_each Same

pub same_ids : {l k : List Group} → Pairwise Same l k → ids k ≡ ids l
same_ids no_pair = refl
same_ids (pair r q) = rw (r.same_id, same_ids q) refl
