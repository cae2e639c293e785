-- `rules_routine::with_command` meets its contract. Assumes nothing.
use Prim.Native.Nat.{◌-◌, ◌^◌}
use mathlib.Core.Path.{◌≡◌}
use native.Mathlib.Omega.{arith}
use borrow.Author.Tests.{lt-ltb, le-ltb}
use lib.ListN.{length}
use lib.Seq.{set_out}
use Rattle.rules_routine.specs.Limits.{max_commands}
use Rattle.rules_routine.specs.Routine.{with_command}
use Rattle.rules_routine.proofs.RoutineLaws.{length_mapped}
use borrow.Author.Rules.{rules}
use Rattle.rules_routine.proofs.with_command.Goals as goal

pub returns-then-at-lt-MAX_COMMANDS : goal.returns-then-at-lt-MAX_COMMANDS
unfolding with_command
returns-then-at-lt-MAX_COMMANDS c = rw (lt-ltb c.args.routine.count (2 ^ 64 - 1) (omega arith))

pub returns-then-at-lt18446744073709551615 : goal.returns-then-at-lt18446744073709551615
unfolding with_command
returns-then-at-lt18446744073709551615 c = let r = c.args.routine in
    let x : length r.commands ≡ max_commands = search (rules, length_mapped) in
    rw (lt-ltb r.count (2 ^ 64 - 1) c.if-at-lt18446744073709551615.true, set_out r.commands r.count c.args.command (omega arith))

pub returns-else-at-lt18446744073709551615 : goal.returns-else-at-lt18446744073709551615
unfolding with_command
returns-else-at-lt18446744073709551615 c = let r = c.args.routine in
    let x : length r.commands ≡ max_commands = search (rules, length_mapped) in
    rw (le-ltb r.count (2 ^ 64 - 1) c.if-at-lt18446744073709551615.false, set_out r.commands r.count c.args.command (omega arith))
