-- A hub read as the hub of the last accepted `O`, and a line's call as one of the rules. Assumes nothing.
use Rattle.std.specs.Prelude.{List, [], ℕ, eqb, if◌then◌else◌, Option, None, Some}
use Rattle.rules_routine.specs.Routine.{commands_of}
use Rattle.rules_routine.specs.declared.Command.{Command}
use Rattle.rules.specs.State.{State}
use Rattle.rules.specs.Answers.{Call as Told, submit, turn, report, failure, restart, cancel}
use Rattle.line_read.specs.declared.Line.{Line}
use Rattle.line_read.specs.declared.Line.TheVariants.{Open, Calling, Unread}
use Rattle.line_read.specs.declared.Call.{Call}
use Rattle.line_read.specs.declared.Call.TheVariants.{Submit, Turn, Report, Cancel, Fail, Restart}
use Rattle.hub.specs.View.{view}
use Rattle.hub.specs.declared.Hub.{Hub}

-- A hub of no devices stands for none: an accepted `O` has one device at least.
unfoldable pub hub_in : Hub → Option State
hub_in h = if eqb (view h).devices 0 then None else Some (view h)

-- What of a line is heard by a hub of so many devices: a call before an accepted `O` is not read.
abbrev pub heard_of : Line → ℕ → Line
heard_of (Open n k first) devices = Open n k first
heard_of (Calling c) devices = if eqb devices 0 then Unread else Calling c
heard_of Unread devices = Unread

-- For each case of the enum which call it is.
abbrev pub call_in : Call → Told
call_in (Submit r) = submit (commands_of r)
call_in (Turn i) = turn i
call_in (Report i code) = report i code
call_in (Cancel i) = cancel i
call_in (Fail d) = failure d
call_in (Restart d v) = restart d v

-- The commands of the routine that joins by it.
abbrev pub commands_in : Call → List Command
commands_in (Submit r) = commands_of r
commands_in (Turn i) = []
commands_in (Report i code) = []
commands_in (Cancel i) = []
commands_in (Fail d) = []
commands_in (Restart d v) = []
