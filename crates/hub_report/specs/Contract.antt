-- The change of a report, and the command that it is about. Assumes nothing.
use Rattle.std.specs.Prelude.{false, ℕ, pos}
use Rattle.rules.specs.Progress.{Flight}
use Rattle.hub_state.specs.Unanswered.{command_at, due_then_at}
use Rattle.hub_state.specs.declared.HubState.{HubState}
use Rattle.hub_state.specs.declared.Change.{Change}
use Rattle.hub_state.specs.declared.Change.TheVariants.{Stage}

-- The command in flight is answered; no device is begun by that.
abbrev pub answered_by : ℕ → ℕ → ℕ → Change
answered_by at stage id = Stage (record { at = at; stage = stage; due_then = pos 0; begins = false; device = 0; id = id })

-- The command in flight of the routine in slot x, at place k of the rows.
abbrev pub flight_at : HubState → ℕ → ℕ → Flight
flight_at h x k = record { command = command_at h k; due_then = due_then_at h x }
