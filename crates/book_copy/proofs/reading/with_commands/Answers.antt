-- `book_copy::reading::with_commands` meets its contract. The loop's invariant: with the commands that are left, the rows are those with
-- all of them. Assumes nothing.
use Rattle.std.proofs.Common.{◌≡◌, ◌+◌, length, take, drop, sym, ap, ◌∙◌, rules, arith}
use Rattle.rules_routine.specs.Limits.{max_commands}
use Rattle.rules_routine.proofs.RoutineLaws.{length_mapped, commands_of-held}
use Rattle.book_copy.specs.Rows.{with_commands}
use Rattle.book_copy.specs.declared.Rows.{Rows}
use Rattle.book_copy.proofs.CopyLaws.{commands-step, commands_over}
use Rattle.book_copy.proofs.reading.with_commands.Goals as goal

pub loop-command-preserved : goal.loop-command-preserved
loop-command-preserved c = let cs = take c.args.routine.count c.args.routine.commands in
    ap (λ (r : Rows). with_commands r (drop (c.loop-command.command-index + 1) cs)) c.with_command-longer.ensures
    ∙ sym (commands-step _ cs _ c.loop-command-test.true)
    ∙ c.loop-command.invariant

pub returns : goal.returns
returns c = let a = c.args in
    let n : length a.routine.commands ≡ max_commands = search (rules, length_mapped) in
    let few = c.requires in
    sym (commands_over _ (take a.routine.count a.routine.commands) _ c.loop-command-test.false)
    ∙ c.loop-command.invariant
    ∙ ap (with_commands a.rows) (sym (commands_of-held a.routine (omega arith)))
