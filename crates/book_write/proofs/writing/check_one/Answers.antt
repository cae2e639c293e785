-- `book_write::writing::check_one` meets its contract. Assumes nothing.
use mathlib.Core.Path.{sym, ap, ◌∙◌}
use native.Mathlib.Omega.{arith}
use Rattle.rules_routine.specs.Routine.{commands_of, routine_check}
use Rattle.rules_routine.specs.declared.Routine.{Routine}
use Rattle.rules_routine.proofs.RoutineLaws.{check_long, routine_of-commands}
use Rattle.book_layout.specs.Layout.{book_devices}
use Rattle.book_layout.specs.Writing.{commands_lent}
use Rattle.book_layout.proofs.Lending.{length-lent}
use Rattle.book_write.proofs.writing.check_one.Goals as goal

pub returns-then-count-gt-MAX_COMMANDS : goal.returns-then-count-gt-MAX_COMMANDS
returns-then-count-gt-MAX_COMMANDS c = let a = c.args in
    let n = length-lent a.devices.now a.tags.now a.settings.now a.at a.count in
    sym (check_long _ _ (omega arith))

pub returns : goal.returns
returns c = let a = c.args in
    let cs = commands_lent a.devices.now a.tags.now a.settings.now a.at a.count in
    let n = length-lent a.devices.now a.tags.now a.settings.now a.at a.count in
    c.check.ensures
    ∙ ap (λ (r : Routine). routine_check book_devices (commands_of r)) c.routine_in-routine.ensures
    ∙ ap (routine_check book_devices) (routine_of-commands cs (omega arith))
