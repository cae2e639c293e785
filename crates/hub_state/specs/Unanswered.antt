-- The first command of a routine that is not answered, as the code finds it: what the rules then have. Assumes nothing.
use Rattle.std.specs.Prelude.{◌≡◌, Bool, false, List, ℕ, zero, suc, ◌+◌, ◌*◌, ◌-◌, ◌<◌, ℤ, pos, get_or, None, Some}
use Rattle.rules_routine.specs.Limits.{max_commands, max_devices}
use Rattle.rules_routine.specs.declared.Command.{Command}
use Rattle.rules.specs.State.{Status}
use Rattle.rules.specs.Progress.{next, commands_in, counts_as_must, next_counts_as_must, skips_next, next_is_skipped, flight, advance, answer_flight}
use Rattle.hub_state.specs.View.{rows_of, step_at, steps_from, steps_at}
use Rattle.hub_state.specs.Contract.{set_status}
use Rattle.hub_state.specs.declared.HubState.{HubState}
use Rattle.hub_state.specs.declared.Unanswered.{Unanswered}
use Rattle.hub_state.specs.declared.Unanswered.TheVariants.{Nothing, ToDo, InFlight}

-- How many of its commands, from the first on, are answered.
abbrev pub answered_at : HubState → ℕ → ℕ
answered_at h x = get_or h.answered x 0

-- The due setting of the device of the command in flight, when that was sent.
abbrev pub due_then_at : HubState → ℕ → ℤ
due_then_at h x = get_or h.due_then x (pos 0)

-- The command at a place of the rows.
abbrev pub command_at : HubState → ℕ → Command
command_at h k = (step_at (rows_of h) (pos 0) k).command

-- Does the last of a slot's first n commands skip the command after it?
abbrev pub skips_after : HubState → ℕ → ℕ → Bool
skips_after h x zero = false
skips_after h x (suc n) = skips_next (step_at (rows_of h) (due_then_at h x) (x * max_commands + n))

-- Its commands behind the first n.
abbrev pub commands_past : HubState → ℕ → ℕ → List Command
commands_past h x n = commands_in (steps_from (rows_of h) (due_then_at h x) (x * max_commands + n) (get_or h.counts x 0 - n))

-- All are answered.
pub record AllAnswered (h : HubState) (x : ℕ) : Type 0 where
  pub no_flight : flight (steps_at h x) ≡ None
  pub no_next : next (steps_at h x) ≡ None

-- The next command stands at k, and nothing is in flight.
pub record NextToDo (h : HubState) (x k : ℕ) : Type 0 where
  pub place : k ≡ x * max_commands + answered_at h x
  pub not_all : answered_at h x < get_or h.counts x 0
  pub device_fits : (command_at h k).device < max_devices
  pub no_flight : flight (steps_at h x) ≡ None
  pub next_is : next (steps_at h x) ≡ Some (command_at h k)
  pub advances : (st : Status) → advance st (steps_at h x) ≡ set_status (answered_at h x) st (steps_at h x)
  pub next_skipped : next_is_skipped false (steps_at h x) ≡ skips_after h x (answered_at h x)
  pub next_must : next_counts_as_must (steps_at h x) ≡ counts_as_must (command_at h k) (commands_past h x (suc (answered_at h x)))

-- The command in flight stands at k.
pub record NextInFlight (h : HubState) (x k : ℕ) : Type 0 where
  pub place : k ≡ x * max_commands + answered_at h x
  pub not_all : answered_at h x < get_or h.counts x 0
  pub device_fits : (command_at h k).device < max_devices
  pub flight_is : flight (steps_at h x) ≡ Some (record { command = command_at h k; due_then = due_then_at h x })
  pub answers : (st : Status) → answer_flight st (steps_at h x) ≡ set_status (answered_at h x) st (steps_at h x)

abbrev pub UnansweredIs : HubState → ℕ → Unanswered → Type 0
UnansweredIs h x Nothing = AllAnswered h x
UnansweredIs h x (ToDo k) = NextToDo h x k
UnansweredIs h x (InFlight k) = NextInFlight h x k
