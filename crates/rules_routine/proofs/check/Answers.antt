-- `rules_routine::check` meets its contract. The loop's invariant: the check of the commands from the i-th on is the check of all of them.
-- Assumes nothing.
use borrow.Author.Rules.{rules}
use native.Mathlib.Omega.{arith}
use mathlib.Core.Path.{◌≡◌, refl, sym, ◌∙◌}
use lib.ListN.{length, take}
use Rattle.std.proofs.Common.{Err, ap}
use Rattle.std.proofs.lemmas.Result.{err_from_is_err_and}
use Rattle.rules_routine.specs.Limits.{max_commands}
use Rattle.rules_routine.specs.Routine.{commands_of, commands_check, routine_check}
use Rattle.rules_routine.proofs.RoutineLaws.{length-commands_of, length_mapped, check_empty, check_long, check_held, commands-more}
use Rattle.rules_routine.proofs.RoutineLaws.{commands-refused, commands_alone, commands_end}
use Rattle.rules_routine.proofs.check.Goals.{Else-count-gt-MAX_COMMANDS}
use Rattle.rules_routine.proofs.check.Goals as goal

-- the array's length
long : (c : Else-count-gt-MAX_COMMANDS) → length c.args.routine.commands ≡ max_commands
long c = search (rules, length_mapped)

-- after the two tests of the count
whole : (c : Else-count-gt-MAX_COMMANDS) →
    routine_check c.args.devices (commands_of c.args.routine)
    ≡ commands_check c.args.devices 0 (take c.args.routine.count c.args.routine.commands)
whole c = check_held _ _ (long c) (omega arith) c.if-count-gt-MAX_COMMANDS.false

pub returns-then-count-eq0 : goal.returns-then-count-eq0
returns-then-count-eq0 c = sym (check_empty _ _ (length-commands_of c.args.routine ∙ c.if-count-eq0.true))

pub returns-then-count-gt-MAX_COMMANDS : goal.returns-then-count-gt-MAX_COMMANDS
returns-then-count-gt-MAX_COMMANDS c = sym (check_long _ _ (rw (length-commands_of c.args.routine) c.if-count-gt-MAX_COMMANDS.true))

pub loop-i-init : goal.loop-i-init
loop-i-init c = refl

pub returns-in_err-check_command : goal.returns-in_err-check_command
returns-in_err-check_command c = let n = long (goal.at.returns-in_err-check_command c).Else-count-gt-MAX_COMMANDS in
    let p = err_from_is_err_and c.from_residual.result c.from_residual.ensures.1 in
    p.1 ∙ ap Err p.2 ∙ sym (commands-refused _ _ _ _ c.loop-i-test.true (omega arith) _ (sym c.check_command.ensures
    ∙ c.in_err-check_command.was))
    ∙ c.loop-i.invariant ∙ sym (whole (goal.at.returns-in_err-check_command c).Else-count-gt-MAX_COMMANDS)

pub returns-then-stands_alone : goal.returns-then-stands_alone
returns-then-stands_alone c = let n = long (goal.at.returns-then-stands_alone c).Else-count-gt-MAX_COMMANDS in
    sym (whole (goal.at.returns-then-stands_alone c).Else-count-gt-MAX_COMMANDS ∙ sym c.loop-i.invariant
    ∙ commands_alone _ _ _ _ c.loop-i-test.true (omega arith) (sym c.check_command.ensures ∙ c.in_ok-check_command.was)
    (sym c.stands_alone.ensures ∙ c.if-stands_alone.true))

pub loop-i-preserved : goal.loop-i-preserved
loop-i-preserved c = let n = long (goal.at.loop-i-preserved c).Else-count-gt-MAX_COMMANDS in
    sym (commands-more _ _ _ _ c.loop-i-test.true (omega arith) (sym c.check_command.ensures
    ∙ c.in_ok-check_command.was) (sym c.stands_alone.ensures ∙ c.if-stands_alone.false)) ∙ c.loop-i.invariant

pub returns : goal.returns
returns c = sym (whole (goal.at.returns c).Else-count-gt-MAX_COMMANDS ∙ sym c.loop-i.invariant
    ∙ commands_end _ _ _ _ (omega arith) c.loop-i-test.false)
