-- `book_copy::reading::with_command` meets its contract. Assumes nothing.
use mathlib.Core.Path.{◌≡◌}
use native.Mathlib.Omega.{arith}
use borrow.Author.Tests.{lt-ltb, le-ltb}
use mir.Syntax.{w16}
use mir.Val.{to_z, of_z}
use lib.ListN.{length}
use lib.Seq.{set_out}
use Rattle.rules_routine.proofs.RoutineLaws.{length_mapped}
use Rattle.book_copy.specs.Rows.{most_commands, with_command}
use borrow.Author.Rules.{rules}
use Rattle.book_copy.proofs.reading.with_command.Goals as goal

pub returns-then-at-lt-MOST_COMMANDS : goal.returns-then-at-lt-MOST_COMMANDS
unfolding with_command
returns-then-at-lt-MOST_COMMANDS c = let r = c.args.rows in
    let s = c.args.command.setting in
    let e : to_z w16 (of_z w16 s) ≡ s = search rules in
    rw (lt-ltb r.commands most_commands c.if-at-lt-MOST_COMMANDS.true, e)

pub returns-else-at-lt-MOST_COMMANDS : goal.returns-else-at-lt-MOST_COMMANDS
unfolding with_command
returns-else-at-lt-MOST_COMMANDS c = let r = c.args.rows in
    let x : length r.devices ≡ most_commands = search (rules, length_mapped) in
    let y : length r.tags ≡ most_commands = search (rules, length_mapped) in
    let z : length r.settings ≡ most_commands = search (rules, length_mapped) in
    let a = c.args.command in
    rw (
      le-ltb r.commands most_commands c.if-at-lt-MOST_COMMANDS.false,
      set_out r.devices r.commands a.device (omega arith),
      set_out r.tags r.commands a.tag (omega arith),
      set_out r.settings r.commands a.setting (omega arith),
    )
