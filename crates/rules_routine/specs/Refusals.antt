-- The table of document 01, "When a call is turned down", with the numbers of document 02. A refusal is its cause: the enum `Refusal` of
-- the code has a case for each row. Assumes nothing.
use Rattle.std.specs.Prelude.{Bool, ℕ, eqb, Option, None, Some, Result, Ok, Err, if◌then◌else◌}
use Rattle.rules_routine.specs.Limits.{max_commands}
use Rattle.rules_routine.specs.declared.refusals.Refusal.{Refusal}
use Rattle.rules_routine.specs.declared.refusals.Refusal.TheVariants.{DevicesOutOfRange, PassLimitOutOfRange, FirstIdZero, CommandCount}
use Rattle.rules_routine.specs.declared.refusals.Refusal.TheVariants.{DeviceNotBelow, SettingOutOfRange, TagOutOfRange, SequenceFull}
use Rattle.rules_routine.specs.declared.refusals.Refusal.TheVariants.{IdsUsedUp}
use Rattle.rules_routine.specs.declared.refusals.Refusal.TheVariants.{NotRunning, TurnInFlight, NothingInFlight, ReportCodeOutOfRange}
use Rattle.rules_routine.specs.declared.refusals.Refusal.TheVariants.{EventDevice}
use Rattle.rules_routine.specs.declared.refusals.Refusal.TheVariants.{FailureOfDown, RestartOfUp, RestartSetting, BookCutShort}
use Rattle.rules_routine.specs.declared.refusals.Refusal.TheVariants.{BookMisplaced}
use Rattle.rules_routine.specs.declared.refusals.Refusal.TheVariants.{BookLength, NoRoom, ConditionAlone}

-- The table: the number of each cause,
abbrev pub number_of : Refusal → ℕ
number_of DevicesOutOfRange = 1  -- N not 1 to 32
number_of PassLimitOutOfRange = 2  -- K above 8
number_of FirstIdZero = 3  -- first id 0
number_of CommandCount = 4  -- routine of 0 or over 8 commands
number_of (DeviceNotBelow i) = 5  -- device not below N (32 in a book)
number_of (SettingOutOfRange i) = 6  -- setting out of range
number_of (TagOutOfRange i) = 7  -- tag above 2 (document 02, item 4)
number_of SequenceFull = 8  -- 16 routines in the sequence
number_of IdsUsedUp = 9  -- id 4,294,967,295 already given
number_of NotRunning = 10  -- no running routine has this id
number_of TurnInFlight = 11  -- turn with a command in flight
number_of NothingInFlight = 12  -- report with none in flight
number_of ReportCodeOutOfRange = 13  -- report code above 1
number_of EventDevice = 14  -- failure or restart, device not below N
number_of FailureOfDown = 15  -- failure of a down device
number_of RestartOfUp = 16  -- restart of an up device
number_of RestartSetting = 17  -- restart setting out of range
number_of BookCutShort = 18  -- book ends inside count or pairs, or count above 64
number_of BookMisplaced = 19  -- pair not where the layout puts it, past the end, or bytes left over
number_of (BookLength i) = 20  -- length not 4 to 32 in fours
number_of NoRoom = 21  -- over 64 routines to write, or buffer too short; a list of settings shorter than N (document 02, item 14)
number_of (ConditionAlone i) = 22  -- a condition that is last or followed by a condition (document 02, item 4)

-- and the index that comes with it, if one does: a command's, or a routine's.
abbrev pub index_of : Refusal → Option ℕ
index_of DevicesOutOfRange = None
index_of PassLimitOutOfRange = None
index_of FirstIdZero = None
index_of CommandCount = None
index_of (DeviceNotBelow i) = Some i
index_of (SettingOutOfRange i) = Some i
index_of (TagOutOfRange i) = Some i
index_of SequenceFull = None
index_of IdsUsedUp = None
index_of NotRunning = None
index_of TurnInFlight = None
index_of NothingInFlight = None
index_of ReportCodeOutOfRange = None
index_of EventDevice = None
index_of FailureOfDown = None
index_of RestartOfUp = None
index_of RestartSetting = None
index_of BookCutShort = None
index_of BookMisplaced = None
index_of (BookLength i) = Some i
index_of NoRoom = None
index_of (ConditionAlone i) = Some i

-- Is n the number of this cause?
abbrev pub is_of : ℕ → Refusal → Bool
is_of n cause = eqb n (number_of cause)

-- The table read from the left: the cause that has a number, and the one that has a number and an index. (Examples tell refusals so.) Each
-- row is tested against the table; a number that no row has, or none of that kind, gives 22 at an index that no routine has, so that no
-- example holds with it.
abbrev pub numbered : ℕ → Refusal
numbered n =
    if is_of n DevicesOutOfRange then DevicesOutOfRange
    else if is_of n PassLimitOutOfRange then PassLimitOutOfRange
    else if is_of n FirstIdZero then FirstIdZero
    else if is_of n CommandCount then CommandCount
    else if is_of n SequenceFull then SequenceFull
    else if is_of n IdsUsedUp then IdsUsedUp
    else if is_of n NotRunning then NotRunning
    else if is_of n TurnInFlight then TurnInFlight
    else if is_of n NothingInFlight then NothingInFlight
    else if is_of n ReportCodeOutOfRange then ReportCodeOutOfRange
    else if is_of n EventDevice then EventDevice
    else if is_of n FailureOfDown then FailureOfDown
    else if is_of n RestartOfUp then RestartOfUp
    else if is_of n RestartSetting then RestartSetting
    else if is_of n BookCutShort then BookCutShort
    else if is_of n BookMisplaced then BookMisplaced
    else if is_of n NoRoom then NoRoom
    else ConditionAlone max_commands

abbrev pub indexed : ℕ → ℕ → Refusal
indexed n i =
    if is_of n (DeviceNotBelow i) then DeviceNotBelow i
    else if is_of n (SettingOutOfRange i) then SettingOutOfRange i
    else if is_of n (TagOutOfRange i) then TagOutOfRange i
    else if is_of n (BookLength i) then BookLength i
    else if is_of n (ConditionAlone i) then ConditionAlone i
    else ConditionAlone max_commands

-- What a check says of a call.
abbrev pub Verdict : Type 0
Verdict = Result Unit Refusal

-- A call is turned down for a cause if the test says so.
infix 25 refuse◌when◌
abbrev pub refuse◌when◌ : Refusal → Bool → Verdict
refuse◌when◌ cause test = if test then Err cause else Ok tt

-- The first of two verdicts that refuses.
infixr 20 ◌and_then◌
abbrev pub ◌and_then◌ : Verdict → Verdict → Verdict
Ok tt and_then v = v
Err r and_then v = Err r
