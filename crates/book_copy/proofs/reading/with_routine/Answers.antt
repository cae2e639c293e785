-- `book_copy::reading::with_routine` meets its contract. Assumes nothing.
use mathlib.Core.Path.{sym, ap₂, ◌∙◌}
use Rattle.rules_routine.proofs.RoutineLaws.{length-commands_of}
use Rattle.book_copy.specs.Rows.{with_count, with_routine}
use Rattle.book_copy.proofs.reading.with_routine.Goals as goal

pub returns : goal.returns
unfolding with_routine
returns c = let r = c.args.routine in
    c.with_count.ensures ∙ ap₂ with_count c.with_commands.ensures (sym (length-commands_of r))
