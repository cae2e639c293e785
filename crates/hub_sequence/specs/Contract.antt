-- What the functions promise. Document 02, item 8: "A single placement or leaving changes no links but its own and its neighbours', and
-- moves no other routine." Assumes nothing.
use Rattle.std.specs.Prelude.{ℕ, ◌+◌, ◌<◌, ◌≡◌, List, [], ◌∷◌, get_or}
use Rattle.rules_routine.specs.Limits.{max_sequence}
use Rattle.hub_sequence.specs.Lists.{count, placed, without}
use Rattle.hub_sequence.specs.Links.{none, behind_of, ahead_of, slots_of, free_of, LinksOk, Stands, StandsOrNone}
use Rattle.hub_sequence.specs.declared.Links.{Links}
use Rattle.hub_sequence.specs.declared.Joined.{Joined}

-- Each slot links to the next one, and the last to none.
pub record FreeRow (row : List ℕ) : Type 0 where
  pub along : (x : ℕ) → x + 1 < max_sequence → get_or row x 0 ≡ x + 1
  pub ends : (x : ℕ) → x + 1 ≡ max_sequence → get_or row x 0 ≡ none

-- The links are in order, and no slot is taken.
pub record Empty (r : Links) : Type 0 where
  pub valid : LinksOk r
  pub slots : slots_of r ≡ []

-- A slot is free, and `after` is a taken slot or none.
pub record CanJoin (k : Links) (after : ℕ) : Type 0 where
  pub valid : LinksOk k
  pub room : k.taken < max_sequence
  pub place : StandsOrNone k after

-- The slot was free, and stands directly behind `after` and ahead of the one that stood there. Of all links only the new slot's and its
-- neighbours' are others; `none` counts as a neighbour, so that the frame speaks of `first` and `last` too.
pub record Joins (k : Links) (after : ℕ) (r : Joined) : Type 0 where
  pub valid : LinksOk r.links
  pub slots : slots_of r.links ≡ placed after r.slot none (slots_of k)
  pub slot : r.slot < max_sequence
  pub slot_is : r.slot ≡ k.free
  pub fresh : count r.slot (slots_of k) ≡ 0
  pub taken : r.links.taken ≡ k.taken + 1
  pub behind_after : behind_of r.links after ≡ r.slot
  pub ahead_next : ahead_of r.links (behind_of k after) ≡ r.slot
  pub behind : (x : ℕ) → (x ≡ r.slot → ⊥) → (x ≡ after → ⊥) → behind_of r.links x ≡ behind_of k x
  pub ahead : (x : ℕ) → (x ≡ r.slot → ⊥) → (x ≡ behind_of k after → ⊥) → ahead_of r.links x ≡ ahead_of k x

-- `at` is a taken slot.
pub record CanLeave (k : Links) (at : ℕ) : Type 0 where
  pub valid : LinksOk k
  pub stands : Stands k at

-- The others stand as they stood, and the slot is the first free one. Of all links only its own and its neighbours' are others; `none`
-- counts as a neighbour here too.
pub record Leaves (k : Links) (at : ℕ) (r : Links) : Type 0 where
  pub valid : LinksOk r
  pub slots : slots_of r ≡ without at (slots_of k)
  pub free : free_of r ≡ at ∷ free_of k
  pub taken : r.taken + 1 ≡ k.taken
  pub behind : (x : ℕ) → (x ≡ at → ⊥) → (x ≡ ahead_of k at → ⊥) → behind_of r x ≡ behind_of k x
  pub ahead : (x : ℕ) → (x ≡ behind_of k at → ⊥) → ahead_of r x ≡ ahead_of k x
