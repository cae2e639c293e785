-- What events promise. Assumes nothing.
use Rattle.std.specs.Prelude.{◌≡◌, List, [], ◌∷◌, ℕ, if◌then◌else◌, Option, None, Some}
use Rattle.rules.specs.Answers.{Back, Answer as Told, aborted}
use Rattle.rules.specs.Sequence.{Found, find}
use Rattle.rules.specs.Events.{is_halfway, must_left}
use Rattle.hub_answers.specs.View.{event_abort_of}
use Rattle.hub_state.specs.View.{found_at, state_of}
use Rattle.hub_state.specs.Contract.{stopped_by, StandsIfAny}
use Rattle.hub_state.specs.declared.HubState.{HubState}
use Rattle.hub_events.specs.declared.Affected.{Affected}

-- The abort that is told first, of a routine with a must left on the device.
abbrev pub abort_told : ℕ → Option Found → List Back → List Told
abort_told d None l = []
abort_told d (Some f) l = if must_left d f.it then aborted f.it.id l ∷ [] else []

-- The routine that is halfway with the device, if there is one; if it aborts, that is told, and the device's mark is that after it.
pub record IsHalfway (h : HubState) (device : ℕ) (r : Affected) : Type 0 where
  pub place_ok : StandsIfAny h r.slot
  pub slot_is : found_at h r.slot ≡ find (is_halfway device) (state_of h).sequence
  pub first_is : (l : List Back) → event_abort_of r.first l ≡ abort_told device (found_at h r.slot) l
  pub mark_is : r.mark ≡ (stopped_by device (state_of h) (found_at h r.slot)).mark device
