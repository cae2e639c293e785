-- The hub's rows read as the state of the rules. Assumes nothing.
use Rattle.std.specs.Prelude.{Bool, true, false, not, List, [], ◌∷◌, map, ℕ, zero, suc, ◌+◌, ◌*◌, eqb, ltb, ℤ, pos, get_or, if◌then◌else◌}
use Rattle.std.specs.Prelude.{Option, None, Some}
use Rattle.rules_routine.specs.Limits.{max_devices, max_commands}
use Rattle.rules.specs.State.{Status, to-do, in_flight, was_done, was_skipped, was_held, was_not_held, Step, Member, State}
use Rattle.rules.specs.Tables.{same_setting}
use Rattle.rules.specs.Sequence.{Found}
use Rattle.hub_sequence.specs.Lists.{up_to, rest}
use Rattle.hub_sequence.specs.Links.{slots_of}
use Rattle.hub_state.specs.declared.HubState.{HubState}

-- ---- rows over devices as tables: what they hold past the end is what a hub just opened has

-- settings; at the opening 0
abbrev pub settings_of : List ℤ → ℕ → ℤ
settings_of l d = get_or l d (pos 0)

-- marks; at the opening 0
abbrev pub marks_of : List ℕ → ℕ → ℕ
marks_of l d = get_or l d 0

-- Which devices are up; at the opening all.
abbrev pub up_of : List Bool → ℕ → Bool
up_of l d = get_or l d true

-- flags of devices with a command in flight; at the opening none has one
abbrev pub flags_of : List Bool → ℕ → Bool
flags_of l d = get_or l d false

-- what stands at a device that has no restart; no setting is that high
abbrev pub no_restart : ℤ
no_restart = pos 32767

abbrev pub is_restart : ℤ → Bool
is_restart v = not (same_setting v no_restart)

abbrev pub restart_of : ℤ → Option ℤ
restart_of v = if is_restart v then Some v else None

-- ---- a routine in its slot

-- Where a command stands, by its code; one in flight has its routine's due setting of then.
abbrev pub to_do_code : ℕ
to_do_code = 0

abbrev pub in_flight_code : ℕ
in_flight_code = 1

abbrev pub done_code : ℕ
done_code = 2

abbrev pub skipped_code : ℕ
skipped_code = 3

abbrev pub held_code : ℕ
held_code = 4

abbrev pub not_held_code : ℕ
not_held_code = 5

unfoldable pub status_of : ℕ → ℤ → Status
status_of code due =
    if eqb code to_do_code then to-do
    else if eqb code in_flight_code then in_flight due
    else if eqb code done_code then was_done
    else if eqb code held_code then was_held
    else if eqb code not_held_code then was_not_held
    else was_skipped

-- The rows of commands.
pub record Rows : Type 0 where
  pub devices : List ℕ
  pub tags : List ℕ
  pub settings : List ℤ
  pub stages : List ℕ

unfoldable pub step_at : Rows → ℤ → ℕ → Step
step_at rows due k = record {
  command = record { device = get_or rows.devices k 0; tag = get_or rows.tags k 0; setting = get_or rows.settings k (pos 0) };
  status = status_of (get_or rows.stages k 0) due;
}

-- n commands, from a place on.
abbrev pub steps_from : Rows → ℤ → ℕ → ℕ → List Step
steps_from rows due k zero = []
steps_from rows due k (suc n) = step_at rows due k ∷ steps_from rows due (suc k) n

abbrev pub rows_of : HubState → Rows
rows_of h = record { devices = h.device; tags = h.tag; settings = h.setting; stages = h.stage }

-- The commands of a slot, each with where it stands.
unfoldable pub steps_at : HubState → ℕ → List Step
steps_at h x = steps_from (rows_of h) (get_or h.due_then x (pos 0)) (x * max_commands) (get_or h.counts x 0)

-- The restarts of a slot, by device; a newcomer has none.
unfoldable pub restarts_at : List ℤ → ℕ → ℕ → Option ℤ
restarts_at row x d = if ltb d max_devices then restart_of (get_or row (x * max_devices + d) no_restart) else None

unfoldable pub member_at : HubState → ℕ → Member
member_at h x = record {
  id = get_or h.ids x 0;
  steps = steps_at h x;
  passed = get_or h.passed x 0;
  committed = get_or h.committed x false;
  restarts = restarts_at h.restarts x;
}

-- The sequence, read along the links.
unfoldable pub members_of : HubState → List Member
members_of h = map (member_at h) (slots_of h.links)

-- ---- the state

unfoldable pub state_of : HubState → State
state_of h = record {
  devices = h.devices;
  pass_limit = h.pass_limit;
  next_id = h.next_id;
  sequence = members_of h;
  settled_at = settings_of h.settled_at;
  up = up_of h.up;
  mark = marks_of h.mark;
}

-- The routine in a slot, with those ahead of it and those behind it.
unfoldable pub there : HubState → ℕ → Found
there h x = record {
  ahead = map (member_at h) (up_to x (slots_of h.links));
  it = member_at h x;
  behind = map (member_at h) (rest x (slots_of h.links));
}

-- ---- the cases of the enums

abbrev pub found_at : HubState → Option ℕ → Option Found
found_at h (Some x) = Some (there h x)
found_at h None = None

-- The first of them is committed.
abbrev pub first_committed : List Member → Bool
first_committed [] = false
first_committed (m ∷ l) = m.committed
