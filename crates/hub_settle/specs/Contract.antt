-- What a leaving and what settling promise. Document 02, item 8: "A single placement or leaving changes no links but its own and its
-- neighbours', and moves no other routine." Assumes nothing.
use Rattle.std.specs.Prelude.{◌≡◌, List, ℕ, eqb, ℤ, if◌then◌else◌}
use Rattle.rules.specs.Attach.{later, attach_to}
use Rattle.rules.specs.Abort.{leave}
use Rattle.rules.specs.Settle.{settle}
use Rattle.hub_sequence.specs.Links.{ahead_of, Stands}
use Rattle.hub_sequence.specs.Contract.{Leaves}
use Rattle.hub_state.specs.View.{restarts_at, member_at, state_of, there}
use Rattle.hub_state.specs.Valid.{StateOk}
use Rattle.hub_state.specs.Unmoved.{OnlyLeave, LeftCommitted}
use Rattle.hub_state.specs.declared.HubState.{HubState}

-- A routine has left the sequence. `links`: of all links only its own and its neighbours' are others. `others`: every other routine is in
-- the slot where it was, unchanged; only the one before gets its events.
pub record LeavesHub (h : HubState) (at : ℕ) (r : HubState) : Type 0 where
  pub valid : StateOk r
  pub gives : state_of r ≡ leave (state_of h) (there h at)
  pub links : Leaves h.links at r.links
  pub others : (x : ℕ) → Stands h.links x → (x ≡ at → ⊥) →
      member_at r x ≡ (if eqb x (ahead_of h.links at) then attach_to (member_at h at).restarts (member_at h x) else member_at h x)

-- The committed routines at the front have settled. Who is taken still is in the slot where it was, unchanged; nobody joins, and of all
-- links only those of who left, and of their neighbours, are others.
pub record SettlesHub (h r : HubState) : Type 0 where
  pub valid : StateOk r
  pub gives : state_of r ≡ settle (state_of h)
  pub only_leave : OnlyLeave h r
  pub others : (x : ℕ) → Stands r.links x → member_at r x ≡ member_at h x
  pub left_committed : LeftCommitted h r

-- The restarts of one slot stand behind those of another.
abbrev pub MovesRestarts : List ℤ → ℕ → ℕ → List ℤ → Type 0
MovesRestarts row from to r =
    (x d : ℕ) → restarts_at r x d ≡ (if eqb x to then later (restarts_at row to d) (restarts_at row from d) else restarts_at row x d)
