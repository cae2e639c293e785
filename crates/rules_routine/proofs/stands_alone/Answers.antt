-- `rules_routine::stands_alone` meets its contract. Assumes nothing.
use mathlib.Core.Path.{◌≡◌, sym}
use native.Mathlib.Omega.{arith}
use borrow.Author.Rules.{rules}
use lib.ListN.{length}
use Rattle.rules_routine.specs.Limits.{max_commands}
use Rattle.rules_routine.proofs.RoutineLaws.{length_mapped, alone_command, alone_last, alone_followed}
use Rattle.rules_routine.proofs.stands_alone.Goals as goal

pub returns-then-command-ne-CONDITION : goal.returns-then-command-ne-CONDITION
returns-then-command-ne-CONDITION c = sym (alone_command _ _ c.if-command-ne-CONDITION.true)

pub returns-then-routine-next : goal.returns-then-routine-next
returns-then-routine-next c = let there = c.requires in
    sym (alone_last _ _ _ _ c.if-command-ne-CONDITION.false c.if-routine-next.true (omega arith))

pub returns : goal.returns
returns c = let few = c.requires in
    let n : length c.args.routine.commands ≡ max_commands = search (rules, length_mapped) in
    sym (alone_followed _ _ _ _ c.if-command-ne-CONDITION.false c.if-routine-next.false (omega arith))
