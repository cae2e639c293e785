-- A hub's state before and after: nobody is moved. Document 02, item 8: "A single placement or leaving changes no links but its own and its
-- neighbours', and moves no other routine." A call places at most one routine, or one leaves by an abort, and then some may settle: so what
-- is said here is said of all of them together. Assumes nothing.
use Rattle.std.specs.Prelude.{◌≡◌, true, false, ℕ}
use Rattle.rules.specs.State.{Member}
use Rattle.rules.specs.Progress.{commands_in}
use Rattle.hub_sequence.specs.Links.{Stands}
use Rattle.hub_sequence.specs.Stays.{LinksStay}
use Rattle.hub_state.specs.View.{member_at}
use Rattle.hub_state.specs.declared.HubState.{HubState}

-- The same routine: its id and its commands. How far it has come, what has passed it and which events it has may differ.
pub record SameRoutine (m n : Member) : Type 0 where
  pub same_id : n.id ≡ m.id
  pub same_commands : commands_in n.steps ≡ commands_in m.steps

-- `same_slot`: a routine that is in the sequence before and after, by its id, is in the same slot. `same_routine`: a slot that is taken
-- before and after holds the same routine. `links`: a link is as it was, unless its slot or the one at its other end has joined or left.
pub record Unmoved (h r : HubState) : Type 0 where
  pub same_slot : (x y : ℕ) → Stands h.links x → Stands r.links y → (member_at r y).id ≡ (member_at h x).id → x ≡ y
  pub same_routine : (x : ℕ) → Stands h.links x → Stands r.links x → SameRoutine (member_at h x) (member_at r x)
  pub links : LinksStay h.links r.links

-- ---- the same for the parts of a call

-- Nobody joins or leaves: all links are as they were, and each routine is in the slot where it was.
pub record InPlace (h r : HubState) : Type 0 where
  pub links : r.links ≡ h.links
  pub routines : (x : ℕ) → Stands h.links x → SameRoutine (member_at h x) (member_at r x)

-- Some may leave, and nobody joins.
pub record OnlyLeave (h r : HubState) : Type 0 where
  pub unmoved : Unmoved h r
  pub taken_before : (x : ℕ) → Stands r.links x → Stands h.links x

-- Who has left was committed: who settles.
abbrev pub LeftCommitted : HubState → HubState → Type 0
LeftCommitted h r = (x : ℕ) → Stands h.links x → (Stands r.links x → ⊥) → (member_at h x).committed ≡ true

-- Who has joined runs, so that it does not settle in the same call.
abbrev pub JoinedRun : HubState → HubState → Type 0
JoinedRun h r = (x : ℕ) → Stands r.links x → (Stands h.links x → ⊥) → (member_at r x).committed ≡ false
