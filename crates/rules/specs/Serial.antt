-- Document 01, "The hub's order": "It runs from all devices up at 0: a routine sets its done commands in turn, a failure makes its device
-- down, a restart up at the setting it reports." Neither the hub nor its due settings are mentioned. Assumes nothing.
use Rattle.std.specs.Prelude.{Bool, true, false, List, [], ◌∷◌, ℕ, ℤ, pos}
use Rattle.rules_routine.specs.declared.Command.{Command}
use Rattle.rules.specs.Tables.{put}
use Rattle.rules.specs.Order.{failure_event, restart_event, Entry, routine, event}

pub record DeviceState : Type 0 where
  pub up : Bool
  pub setting : ℤ

abbrev pub all_up : ℕ → DeviceState
all_up d = record { up = true; setting = pos 0 }

abbrev pub run_command : Command → (ℕ → DeviceState) → ℕ → DeviceState
run_command c t = put t c.device (record { up = (t c.device).up; setting = c.setting })

abbrev pub run_commands : List Command → (ℕ → DeviceState) → ℕ → DeviceState
run_commands [] t = t
run_commands (c ∷ l) t = run_commands l (run_command c t)

abbrev pub run_entry : Entry → (ℕ → DeviceState) → ℕ → DeviceState
run_entry (routine i cs b) t = run_commands cs t
run_entry (event (failure_event d)) t = put t d (record { up = false; setting = (t d).setting })
run_entry (event (restart_event d v)) t = put t d (record { up = true; setting = v })

abbrev pub serial_run : List Entry → (ℕ → DeviceState) → ℕ → DeviceState
serial_run [] t = t
serial_run (x ∷ l) t = serial_run l (run_entry x t)
