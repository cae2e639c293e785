-- How what a line says is read: for each case of the enums, which line of document 01 it is, and with which values. Assumes nothing.
use Rattle.std.specs.Prelude.{List, [], ◌∷◌, ℕ, eqb, if◌then◌else◌, Option, None, Some}
use Prim.Native.Char.{code}
use Prim.Native.String.{String, [] as end, ◌∷◌ as ◌then◌}
use Rattle.rules_routine.specs.Routine.{no_routine, with_command}
use Rattle.rules_routine.specs.declared.Command.{Command}
use Rattle.rules_routine.specs.declared.Routine.{Routine}
use Rattle.rules.specs.Report.{code_done, code_failed}
use Rattle.line_rules.specs.Reading.{LineCall, submits, turns, reports, fails, restarts, cancels, Line as Said, opening, calling}
use Rattle.line_rules.specs.Reading.{unread, highest32, one_number}
use Rattle.line_read.specs.declared.Call.{Call}
use Rattle.line_read.specs.declared.Call.TheVariants.{Submit, Turn, Report, Cancel, Fail, Restart}
use Rattle.line_read.specs.declared.Line.TheVariants.{Open, Calling, Unread}
use Rattle.line_read.specs.declared.Line.{Line}

-- A routine put together command by command, behind those that it holds. It counts past the eighth and holds eight: a longer one is turned
-- down for its count.
unfoldable pub together : Routine → List Command → Routine
together r [] = r
together r (c ∷ cs) = together (with_command r c) cs

abbrev pub call_as : LineCall → Call
call_as (submits cs) = Submit (together no_routine cs)
call_as (turns i) = Turn i
call_as (reports i code) = Report i code
call_as (fails d) = Fail d
call_as (restarts d v) = Restart d v
call_as (cancels i) = Cancel i

abbrev pub read_as : Said → Line
read_as (opening n k first) = Open n k first
read_as (calling c) = Calling (call_as c)
read_as unread = Unread

-- ---- lines with an id

-- The byte of a letter.
abbrev pub letter_of : String → ℕ
letter_of end = 0
letter_of (c then s) = code c

-- A letter that an id follows: `N`, `D`, `B`, `C`. Any other is unread.
abbrev pub id_call : ℕ → ℕ → Said
id_call letter i =
    if eqb letter (letter_of "N") then calling (turns i)
    else if eqb letter (letter_of "D") then calling (reports i code_done)
    else if eqb letter (letter_of "B") then calling (reports i code_failed)
    else if eqb letter (letter_of "C") then calling (cancels i)
    else unread

abbrev pub id_call_with : ℕ → Option ℕ → Said
id_call_with letter None = unread
id_call_with letter (Some i) = id_call letter i

abbrev pub id_line : ℕ → List (List ℕ) → Said
id_line letter ws = one_number highest32 (id_call_with letter) ws
