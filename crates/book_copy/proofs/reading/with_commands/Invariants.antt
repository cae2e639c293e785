-- `book_copy::reading::with_commands` meets its contract. The loop's invariant: with the commands that are left, the rows are those with
-- all of them. Assumes nothing.
use Rattle.std.proofs.Common.{◌≡◌, drop}
use Rattle.book_copy.specs.Rows.{with_commands}
use Rattle.book_copy.proofs.reading.with_commands.Given as goal

abbrev pub invariant-loop-command : goal.invariant-loop-command
invariant-loop-command l =
    with_commands l.longer (drop l.command-index l.command-items)
    ≡ with_commands l.fn.rows l.initial.command-items
