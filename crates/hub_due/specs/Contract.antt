-- What the readings of due settings promise. Assumes nothing.
use Rattle.std.specs.Prelude.{◌≡◌, List, [], map, ℕ, suc, ◌-◌, ◌≤◌, ◌<◌, eqb, ℤ, pos, get_or, if◌then◌else◌, Option, None, Some}
use Rattle.rules_routine.specs.Limits.{max_devices}
use Rattle.rules.specs.State.{Member}
use Rattle.rules.specs.Progress.{with_steps}
use Rattle.rules.specs.Due.{after_steps, after_members}
use Rattle.hub_sequence.specs.Lists.{without}
use Rattle.hub_sequence.specs.Links.{slots_of}
use Rattle.hub_state.specs.View.{settings_of, steps_from, member_at}
use Rattle.hub_state.specs.declared.HubState.{HubState}

-- A table after the done commands from one place of the rows up to another. Their tags do not count, nor the due setting of one in flight.
abbrev pub AfterDone : List ℤ → List ℕ → List ℕ → List ℤ → ℕ → ℕ → List ℤ → Type 0
AfterDone table device stage setting from end r =
    (tags : List ℕ) (u : ℤ) (d : ℕ) →
    settings_of r d
    ≡ after_steps d (steps_from (record { devices = device; tags = tags; settings = setting; stages = stage }) u from (end - from))
    (settings_of table d)

-- The devices from one place of a row up to another are devices that there can be.
abbrev pub DevicesFit : List ℕ → ℕ → ℕ → Type 0
DevicesFit device from end = (k : ℕ) → from ≤ k → k < end → get_or device k 0 < max_devices

-- One past the last done command on the device; the first place if there is none. What the device is due after the commands is that one's
-- setting, or what it was.
pub record BehindLastDone (device stage : List ℕ) (from end d r : ℕ) : Type 0 where
  pub within : (from ≤ r) × (r ≤ end)
  pub none_left :
      r ≡ from → (tags : List ℕ) (settings : List ℤ) (u v : ℤ) →
      after_steps d (steps_from (record { devices = device; tags = tags; settings = settings; stages = stage }) u from (end - from)) v ≡ v
  pub last_is :
      (k : ℕ) → r ≡ suc k → from ≤ k → (tags : List ℕ) (settings : List ℤ) (u v : ℤ) →
      after_steps d (steps_from (record { devices = device; tags = tags; settings = settings; stages = stage }) u from (end - from)) v
      ≡ get_or settings k (pos 0)

-- The routines of the sequence but the one in a slot.
unfoldable pub members_without : HubState → ℕ → List Member
members_without h x = map (member_at h) (without x (slots_of h.links))

-- A routine of which no command was done: the events attached to it are left.
abbrev pub none_done : Member → Member
none_done m = with_steps m []

-- The due settings with the commands of the routine in a slot left out, and its events not; with no slot given, those of all routines.
unfoldable pub due_without : HubState → Option ℕ → ℕ → ℤ
due_without h None d = after_members d (map (member_at h) (slots_of h.links)) (settings_of h.settled_at d)
due_without h (Some x) d =
    after_members d (map (λ y. if eqb y x then none_done (member_at h y) else member_at h y) (slots_of h.links))
    (settings_of h.settled_at d)
