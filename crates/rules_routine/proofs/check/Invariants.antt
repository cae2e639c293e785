-- `rules_routine::check` meets its contract. The loop's invariant: the check of the commands from the i-th on is the check of all of them.
-- Assumes nothing.
use mathlib.Core.Path.{◌≡◌}
use lib.ListN.{take}
use lib.Seq.{slice}
use Rattle.rules_routine.specs.Routine.{commands_check}
use Rattle.rules_routine.proofs.check.Given as goal

abbrev pub invariant-loop-i : goal.invariant-loop-i
invariant-loop-i l =
    commands_check l.devices l.i (slice l.i l.count l.routine.commands) ≡ commands_check l.devices 0 (take l.count l.routine.commands)
