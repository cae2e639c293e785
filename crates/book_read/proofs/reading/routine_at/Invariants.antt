-- `book_read::reading::routine_at` meets its contract. Assumes nothing.
use mathlib.Core.Path.{◌≡◌}
use Rattle.book_layout.specs.Layout.{commands_at}
use Rattle.rules_routine.specs.Routine.{routine_of}
use Rattle.book_read.proofs.reading.routine_at.Given as goal

abbrev pub invariant-loop-i : goal.invariant-loop-i
invariant-loop-i l = l.routine ≡ routine_of (commands_at l.book l.at l.i)
