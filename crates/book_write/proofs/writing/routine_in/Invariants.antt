-- `book_write::writing::routine_in` meets its contract. The loop's invariant: the routine holds the first i of its commands. Assumes
-- nothing.
use mathlib.Core.Path.{◌≡◌}
use Rattle.rules_routine.specs.Routine.{routine_of}
use Rattle.book_layout.specs.Writing.{commands_lent}
use Rattle.book_write.proofs.writing.routine_in.Given as goal

abbrev pub invariant-loop-i : goal.invariant-loop-i
invariant-loop-i l = l.routine ≡ routine_of (commands_lent l.devices l.tags l.settings l.at l.i)
