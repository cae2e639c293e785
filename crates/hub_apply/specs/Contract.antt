-- What a placement promises. Document 02, item 8: "A single placement or leaving changes no links but its own and its neighbours', and
-- moves no other routine." Assumes nothing.
use Rattle.std.specs.Prelude.{◌≡◌, List, ℕ}
use Rattle.rules_routine.specs.declared.Command.{Command}
use Rattle.rules.specs.State.{Member}
use Rattle.rules.specs.Submit.{newcomer}
use Rattle.hub_sequence.specs.Links.{Stands}
use Rattle.hub_sequence.specs.Contract.{Joins}
use Rattle.hub_state.specs.View.{member_at, state_of}
use Rattle.hub_state.specs.Valid.{StateOk}
use Rattle.hub_state.specs.Contract.{joined_behind}
use Rattle.hub_state.specs.declared.HubState.{HubState}

-- A member with another pass count.
abbrev pub with_passed : ℕ → Member → Member
with_passed n m = record { id = m.id; steps = m.steps; passed = n; committed = m.committed; restarts = m.restarts }

-- The newcomer stands in the slot that was the first free one. `links`: of all links only its own and its neighbours' are others.
-- `it`: what it holds. `others`: every other routine is in the slot where it was, unchanged but for its pass count.
pub record Places (h : HubState) (cs : List Command) (after : ℕ) (r : HubState) : Type 0 where
  pub valid : StateOk r
  pub gives : state_of r ≡ joined_behind h cs after
  pub links : Joins h.links after (record { links = r.links; slot = h.links.free })
  pub it : member_at r h.links.free ≡ newcomer h.next_id cs
  pub others : (x : ℕ) → Stands h.links x → member_at r x ≡ with_passed (member_at r x).passed (member_at h x)
