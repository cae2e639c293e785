-- Document 01, "Things and ranges": a routine is 1 to 8 commands, each with a device, a tag and a setting; and what turns one down, with
-- the conditions of document 02, item 4.
-- Assumes nothing.
use Rattle.rules_routine.specs.declared.refusals.Refusal.TheVariants.{CommandCount, DeviceNotBelow, SettingOutOfRange, TagOutOfRange}
use Rattle.rules_routine.specs.declared.refusals.Refusal.TheVariants.{ConditionAlone}
use Rattle.std.specs.Prelude.{Bool, not, ◌&&◌, ◌||◌, List, [], ◌∷◌, ◌++◌, ℕ, suc, ◌+◌, ◌-◌, ◌^◌, leb, ltb, eqb, pos, length, take, set}
use Rattle.std.specs.Prelude.{replicate, if◌then◌else◌, Ok}
use Rattle.rules_routine.specs.Limits.{max_commands}
use Rattle.rules_routine.specs.Range.{in_range}
use Rattle.rules_routine.specs.Refusals.{refuse◌when◌, ◌and_then◌, Verdict}
use Rattle.rules_routine.specs.declared.Command.{Command}
use Rattle.rules_routine.specs.declared.Routine.{Routine}

-- "tag (0 must, 1 best-effort)"; document 02, item 4: "Tag 2 is a condition".
abbrev pub must_tag : ℕ
must_tag = 0

abbrev pub condition_tag : ℕ
condition_tag = 2

abbrev pub highest_tag : ℕ
highest_tag = condition_tag

-- Condition (document 02, item 4).
abbrev pub is_condition : Command → Bool
is_condition c = eqb c.tag condition_tag

-- What an array holds past its end.
abbrev pub zero_command : Command
zero_command = record { device = 0; tag = 0; setting = pos 0 }

-- The commands of a routine, in turn: as many as its count says. Those past the eighth, which a `Routine` has no place for, are taken as
-- zero commands; no rule looks at them, since such a routine is turned down for its count.
unfoldable pub commands_of : Routine → List Command
commands_of r = take r.count (r.commands ++ replicate r.count zero_command)

-- These commands as a `Routine` holds them: zero commands behind them.
unfoldable pub routine_of : List Command → Routine
routine_of cs = record { commands = cs ++ replicate (max_commands - length cs) zero_command; count = length cs }

abbrev pub no_routine : Routine
no_routine = routine_of []

-- A routine with one command more. Past the eighth it is counted and not held; a count that no number holds one more of stays.
unfoldable pub with_command : Routine → Command → Routine
with_command r c = record {
  commands = set r.commands r.count c;
  count = if ltb r.count (2 ^ 64 - 1) then r.count + 1 else r.count;
}

-- A command, the one at index i of its routine, against a number of devices: 5, 6, 7.
unfoldable pub command_check : ℕ → ℕ → Command → Verdict
command_check devices i c =
    refuse (DeviceNotBelow i) when leb devices c.device
    and_then refuse (SettingOutOfRange i) when not (in_range c.setting)
    and_then refuse (TagOutOfRange i) when ltb highest_tag c.tag

-- A condition that is "last in its routine or is followed by another condition"; `rest`: the commands behind it.
unfoldable pub stands_alone : Command → List Command → Bool
stands_alone c [] = is_condition c
stands_alone c (d ∷ rest) = is_condition c && is_condition d

-- Commands in turn, the first of them at index i: 5, 6, 7, then 22 "for each command after its 7".
unfoldable pub commands_check : ℕ → ℕ → List Command → Verdict
commands_check devices i [] = Ok tt
commands_check devices i (c ∷ cs) =
    command_check devices i c
    and_then refuse (ConditionAlone i) when stands_alone c cs
    and_then commands_check devices (suc i) cs

-- A routine against a number of devices, N in the hub and 32 in a book: 4; then the commands in turn, each 5, 6, 7, 22.
unfoldable pub routine_check : ℕ → List Command → Verdict
routine_check devices cs =
    refuse CommandCount when (eqb (length cs) 0 || ltb max_commands (length cs))
    and_then commands_check devices 0 cs
