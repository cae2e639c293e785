-- `book_copy::reading::read_all` meets its contract. The loop's invariant: after so many turns the rows are those of the first so many
-- routines, and the others are still to be handed out. Assumes nothing.
use Rattle.std.proofs.Common.{◌≡◌, List, take, drop}
use Rattle.rules_routine.specs.declared.Command.{Command}
use Rattle.book_layout.specs.Claims.{Hands}
use Rattle.book_copy.specs.Rows.{rows_of}
use Rattle.book_copy.proofs.reading.read_all.Given as goal

abbrev pub invariant-loop : goal.invariant-loop
invariant-loop l =
    (rs : List (List Command)) → Hands l.book 0 rs → Hands l.book l.position (drop l.counter rs) × (l.rows ≡ rows_of (take l.counter rs))
