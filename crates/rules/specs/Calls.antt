-- All calls: from a state and a call to the answers and the next state. Assumes nothing.
use Rattle.std.specs.Prelude.{◌≡◌, List, [], ◌∷◌}
use Rattle.rules_routine.specs.declared.refusals.Refusal.{Refusal}
use Rattle.rules.specs.State.{State}
use Rattle.rules.specs.Answers.{Call, submit, turn, report, failure, restart, cancel, limit, Result, turned_down}
use Rattle.rules.specs.Submit.{submit_of}
use Rattle.rules.specs.Turn.{turn_of}
use Rattle.rules.specs.Report.{report_of}
use Rattle.rules.specs.Events.{failure_of, restart_of}
use Rattle.rules.specs.Cancel.{cancel_of}
use Rattle.rules.specs.Limit.{limit_of}

abbrev pub result_of : State → Call → Result
result_of s (submit cs) = submit_of s cs
result_of s (turn i) = turn_of s i
result_of s (report i code) = report_of s i code
result_of s (failure d) = failure_of s d
result_of s (restart d v) = restart_of s d v
result_of s (cancel i) = cancel_of s i
result_of s (limit k) = limit_of s k

-- The state after a list of calls, each on the state that the one before left.
abbrev pub state_after : State → List Call → State
state_after s [] = s
state_after s (c ∷ l) = state_after (result_of s c).state l

abbrev pub IsTurnedDown : State → Call → Type 0
IsTurnedDown s c = (r : Refusal) × (result_of s c ≡ turned_down r s)

-- A hub on which every call is turned down. That `closed_hub` is one is `closed_stays` of `proofs/Closed.antt`.
abbrev pub StaysClosed : State → Type 0
StaysClosed s = (c : Call) → IsTurnedDown s c
