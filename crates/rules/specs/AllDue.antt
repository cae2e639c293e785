-- Document 02, item 14: all due settings in one reading, into a lent list. It is a reading: the state stays as it is. Assumes nothing.
use Rattle.rules_routine.specs.declared.refusals.Refusal.TheVariants.{NoRoom}
use Rattle.std.specs.Prelude.{List, [], ◌∷◌, ◌++◌, ℕ, zero, suc, ltb, ℤ, length, drop, if◌then◌else◌}
use Rattle.rules_routine.specs.Refusals.{refuse◌when◌, Verdict}
use Rattle.rules.specs.State.{State}
use Rattle.rules.specs.Due.{due}

-- Of a table over devices the settings of n devices from d on, as a list.
abbrev pub settings_from : (ℕ → ℤ) → ℕ → ℕ → List ℤ
settings_from table d zero = []
settings_from table d (suc n) = table d ∷ settings_from table (suc d) n

-- "for each device, up or down, exactly its due setting": whether a device is up does not count.
unfoldable pub all_due : State → List ℤ
all_due s = settings_from (due s) 0 s.devices

-- "A list shorter than N gets 21"
unfoldable pub list_check : State → ℕ → Verdict
list_check s room = refuse NoRoom when ltb room s.devices

-- The lent list afterwards: the due settings over its first entries, "entries past the last device are untouched"; one that is too short
-- "is unchanged".
unfoldable pub list_after : State → List ℤ → List ℤ
list_after s list = if ltb (length list) s.devices then list else all_due s ++ drop s.devices list
