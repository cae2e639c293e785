-- What `Unmoved` turns down, by computation: the one routine of the sequence is moved to another slot, and to the rules it is the same hub.
-- Assumes nothing.
use Rattle.std.specs.Prelude.{◌≡◌, refl, [], ◌∷◌, ℕ}
use Rattle.std.proofs.Common.{arith}
use Rattle.hub_sequence.specs.Lists.{same}
use Rattle.hub_sequence.specs.Links.{none, along, walk, Stands}
use Rattle.hub_state.specs.View.{steps_at, restarts_at, member_at, members_of, state_of}
use Rattle.hub_state.specs.Unmoved.{Unmoved}
use Rattle.hub_state.specs.declared.HubState.{HubState}

-- A hub that holds a routine with id 7, of no commands, in the slot x.
abbrev taken_in : ℕ → HubState
taken_in x = record {
  devices = 1;
  pass_limit = 0;
  next_id = 8;
  links = record { ahead = none ∷ none ∷ []; behind = none ∷ none ∷ []; first = x; last = x; free = none; taken = 1 };
  ids = 7 ∷ 7 ∷ [];
  passed = [];
  committed = [];
  counts = [];
  answered = [];
  due_then = [];
  device = [];
  tag = [];
  setting = [];
  stage = [];
  restarts = [];
  settled_at = [];
  up = [];
  mark = [];
}

same_to_the_rules : state_of (taken_in 0) ≡ state_of (taken_in 1)
unfolding state_of members_of member_at steps_at restarts_at along walk
same_to_the_rules = refl

taken_0 : Stands (taken_in 0).links 0
unfolding along walk same
taken_0 = omega arith

taken_1 : Stands (taken_in 1).links 1
unfolding along walk same
taken_1 = omega arith

is_moved : Unmoved (taken_in 0) (taken_in 1) → ⊥
unfolding member_at
is_moved u = let e : ◌≡◌ {A = ℕ} 0 1 = u.same_slot 0 1 taken_0 taken_1 refl in omega arith
