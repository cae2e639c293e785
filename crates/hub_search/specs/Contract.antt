-- What the searches promise. Assumes nothing.
use Rattle.std.specs.Prelude.{◌≡◌, Bool, false, ◌&&◌, ◌||◌, List, map, ℕ, zero, suc, eqb, leb, ltb, get_or, if◌then◌else◌, Option}
use Rattle.rules_routine.specs.Routine.{must_tag, condition_tag}
use Rattle.rules_routine.specs.declared.Command.{Command}
use Rattle.rules.specs.State.{Member}
use Rattle.rules.specs.Sequence.{find}
use Rattle.rules.specs.Submit.{blocks, up_to_last, past_last}
use Rattle.hub_sequence.specs.Lists.{ahead_of_place, behind_place}
use Rattle.hub_sequence.specs.Links.{none, slots_of, StandsOrNone}
use Rattle.hub_state.specs.View.{in_flight_code, marks_of, member_at, state_of, found_at}
use Rattle.hub_state.specs.Valid.{PlaceOk}
use Rattle.hub_state.specs.declared.HubState.{HubState}

abbrev pub has_id : ℕ → Member → Bool
has_id i m = eqb m.id i

-- The first routine of the sequence that passes the test.
pub record Finds (h : HubState) (p : Member → Bool) (r : Option ℕ) : Type 0 where
  pub place_ok : PlaceOk h r
  pub found : found_at h r ≡ find p (state_of h).sequence

-- Is one of n entries of a row, from a place on, this number?
abbrev pub any_on : List ℕ → ℕ → ℕ → ℕ → Bool
any_on row d k zero = false
any_on row d k (suc n) = eqb (get_or row k 0) d || any_on row d (suc k) n

-- Is one of n commands, from a place on, on this device and at a stage from `low` to `high`?
abbrev pub any_staged : List ℕ → List ℕ → ℕ → ℕ → ℕ → ℕ → ℕ → Bool
any_staged device stage d low high k zero = false
any_staged device stage d low high k (suc n) =
    (eqb (get_or device k 0) d && leb low (get_or stage k 0) && leb (get_or stage k 0) high) || any_staged device stage d low high (suc k) n

-- No stage is higher.
abbrev pub highest_stage : ℕ
highest_stage = 255

-- The tag that counts for the first of n commands, from a place on: a condition has that of the command after it.
abbrev pub counting_tag : List ℕ → ℕ → ℕ → ℕ
counting_tag tag k n = if eqb (get_or tag k 0) condition_tag && ltb 1 n then get_or tag (suc k) 0 else get_or tag k 0

-- Is one of n commands, from a place on, on this device, not answered, and does it count as a must?
abbrev pub any_must : List ℕ → List ℕ → List ℕ → ℕ → ℕ → ℕ → Bool
any_must device tag stage d k zero = false
any_must device tag stage d k (suc n) =
    (eqb (get_or device k 0) d && leb (get_or stage k 0) in_flight_code && eqb (counting_tag tag k (suc n)) must_tag)
    || any_must device tag stage d (suc k) n

-- The marks of the devices of these commands, in turn.
unfoldable pub marks_for : List ℕ → List Command → List ℕ
marks_for row cs = map (λ c. marks_of row c.device) cs

-- The slot of the last routine that a newcomer with these commands must follow; none for the settled part.
pub record Latest (h : HubState) (cs : List Command) (after : ℕ) : Type 0 where
  pub place : StandsOrNone h.links after
  pub ahead : map (member_at h) (ahead_of_place after none (slots_of h.links)) ≡ up_to_last (blocks (state_of h) cs) (state_of h).sequence
  pub behind : map (member_at h) (behind_place after none (slots_of h.links)) ≡ past_last (blocks (state_of h) cs) (state_of h).sequence
