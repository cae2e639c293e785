-- What a search has found, by the place that it gave. Assumes nothing.
use Rattle.std.proofs.Common.{Option, None, Some}
use mathlib.Core.Path.{◌≡◌, sym, ap, ◌∙◌, subst}
use mathlib.Core.Bool.{Bool, true}
use mathlib.Core.List.{List, [], ◌∷◌}
use Prim.Native.Nat.{ℕ}
use borrow.Author.Tests.{eqb-true}
use lib.Dec.{eqb}
use Rattle.rules.specs.State.{Member}
use Rattle.rules.specs.Sequence.{Found, onto, find, is_running, runs}
use Rattle.rules.proofs.Lists.{by_if, and_left}
use Rattle.hub_sequence.specs.Links.{Stands}
use Rattle.hub_state.specs.View.{member_at, state_of, found_at}
use Rattle.hub_state.specs.Valid.{PlaceOk}
use Rattle.hub_state.specs.declared.HubState.{HubState}
use Rattle.hub_state.proofs.Members.{there-it}
use Rattle.hub_search.specs.Contract.{Finds}

-- what is found passes the test
abbrev Passes : (Member → Bool) → Option Found → Type 0
Passes p None = Unit {0}
Passes p (Some f) = p f.it ≡ true

onto_passes : (p : Member → Bool) (m : Member) (o : Option Found) → Passes p o → Passes p (onto m o)
onto_passes p m None t = t
onto_passes p m (Some f) t = t

find_passes : (p : Member → Bool) (l : List Member) → Passes p (find p l)
find_passes p [] = tt
find_passes p (m ∷ l) = by_if (Passes p) (p m) (λ t. t) (λ t. onto_passes p m (find p l) (find_passes p l))

module _ (h : HubState) (test : Member → Bool) (p : Option ℕ) (f : Finds h test p) where
  pub found_as : (r : Option ℕ) → p ≡ r → find test (state_of h).sequence ≡ found_at h r
  found_as r e = sym f.found ∙ ap (found_at h) e

  pub stands_at : (x : ℕ) → p ≡ Some x → Stands h.links x
  stands_at x e = subst (PlaceOk h) e f.place_ok

  passes_at : (x : ℕ) → p ≡ Some x → test (member_at h x) ≡ true
  passes_at x e =
      ap test (sym (there-it h x)) ∙ subst (Passes test) (found_as (Some x) e) (find_passes test (state_of h).sequence)

-- the one that runs under an id has it
runs-id : (i : ℕ) (m : Member) → runs i m ≡ true → i ≡ m.id
unfolding runs
runs-id i m e = sym (eqb-true m.id i (and_left (eqb m.id i) (is_running m) e))

pub found-id : (h : HubState) (i : ℕ) (p : Option ℕ) → Finds h (runs i) p → (x : ℕ) → p ≡ Some x → i ≡ (member_at h x).id
found-id h i p f x e = runs-id i (member_at h x) (passes_at h (runs i) p f x e)
