-- Every call on the hub of no devices is turned down. Assumes nothing.
use Rattle.std.proofs.Common.{Err}
use Rattle.rules_routine.specs.Refusals.{numbered}
use Rattle.rules_routine.specs.declared.refusals.Refusal.TheVariants.{CommandCount, DeviceNotBelow, NotRunning, EventDevice}
use mathlib.Core.Path.{◌≡◌, refl, ◌∙◌}
use mathlib.Core.Bool.{Bool, true, false}
use mathlib.Core.List.{List, [], ◌∷◌}
use Prim.Native.Nat.{ℕ}
use native.Mathlib.Omega.{arith}
use borrow.Author.Tests.{ltb-true, ltb-false, le-leb}
use lib.Dec.{ltb}
use lib.ListN.{length}
use Rattle.rules_routine.specs.Limits.{max_commands}
use Rattle.rules_routine.specs.Routine.{command_check, commands_check, routine_check}
use Rattle.rules_routine.proofs.RoutineLaws.{check_empty, check_long, check_counted, command_device}
use Rattle.rules_routine.specs.declared.Command.{Command}
use Rattle.rules_routine.specs.declared.refusals.Refusal.{Refusal}
use Rattle.rules.specs.Answers.{submit, turn, report, failure, restart, cancel, limit, turned_down}
use Rattle.rules.specs.Open.{new_hub, closed_hub}
use Rattle.rules.specs.Submit.{submit_check, submit_of}
use Rattle.rules.specs.Turn.{turn_of}
use Rattle.rules.specs.Report.{report_of}
use Rattle.rules.specs.Events.{failure_of, restart_of}
use Rattle.rules.specs.Cancel.{cancel_of}
use Rattle.rules.specs.Limit.{limit_of}
use Rattle.rules.specs.Calls.{StaysClosed}

-- the first command decides if it is refused
commands-first : (n i : ℕ) (c : Command) (cs : List Command) {r : Refusal} → command_check n i c ≡ Err r →
    commands_check n i (c ∷ cs) ≡ Err r
unfolding commands_check
commands-first n i c cs e = rw e

-- a routine of any commands has none or too many, or names a device that is not there
no-routine : (cs : List Command) → (r : Refusal) × (routine_check 0 cs ≡ Err r)
no-routine [] = (CommandCount, check_empty 0 [] refl)
no-routine (c ∷ cs) = by (ltb max_commands (length (c ∷ cs))) refl
  where
    by : (b : Bool) → ltb max_commands (length (c ∷ cs)) ≡ b → (r : Refusal) × (routine_check 0 (c ∷ cs) ≡ Err r)
    by true e = (CommandCount, check_long 0 (c ∷ cs) (ltb-true max_commands (length (c ∷ cs)) e))
    by false e = (
      (DeviceNotBelow 0),
      check_counted 0 (c ∷ cs) (omega arith) (ltb-false max_commands (length (c ∷ cs)) e)
          ∙ commands-first 0 0 c cs (command_device 0 0 c (omega arith)),
    )

no_submission : (cs : List Command) → (r : Refusal) × (submit_of closed_hub cs ≡ turned_down r closed_hub)
unfolding submit_of submit_check new_hub
no_submission cs = let n = no-routine cs in (n.0, rw n.1)

-- a new pass limit, whatever it is, is refused with 1
pub no_new_limit : (k : ℕ) → limit_of closed_hub k ≡ turned_down (numbered 1) closed_hub
unfolding limit_of new_hub
no_new_limit k = refl

pub closed_stays : StaysClosed closed_hub
unfolding turn_of report_of failure_of restart_of cancel_of new_hub
closed_stays (submit cs) = no_submission cs
closed_stays (turn i) = (NotRunning, refl)
closed_stays (report i code) = (NotRunning, refl)
closed_stays (failure d) = (EventDevice, simp (le-leb 0 d (omega arith)))
closed_stays (restart d v) = (EventDevice, simp (le-leb 0 d (omega arith)))
closed_stays (cancel i) = (NotRunning, refl)
closed_stays (limit k) = (numbered 1, no_new_limit k)
