-- `rules_routine::check_command` meets its contract. Assumes nothing.
use mathlib.Core.Path.{◌≡◌, sym, ap, ◌∙◌}
use mir.Syntax.{w16}
use mir.Val.{to_z, of_z}
use borrow.Author.Rules.{rules}
use borrow.Author.Tests.{not-true, not-false}
use Rattle.rules_routine.specs.Range.{in_range}
use Rattle.rules_routine.proofs.RoutineLaws.{command_device, command_setting, command_tag, command_fine}
use Rattle.rules_routine.proofs.check_command.Goals.{After-in_range}
use Rattle.rules_routine.proofs.check_command.Goals as goal

-- what the range test says of the command's setting
told : (c : After-in_range) → in_range c.args.command.setting ≡ c.in_range.result
told c =
    let z = c.args.command.setting in
    let e : to_z w16 (of_z w16 z) ≡ z = search rules in
    ap in_range (sym e) ∙ sym c.in_range.ensures

pub returns-then-devices-command : goal.returns-then-devices-command
returns-then-devices-command c = sym (command_device _ _ _ c.if-devices-command.true)

pub returns-then-not-in_range : goal.returns-then-not-in_range
returns-then-not-in_range c = sym (command_setting _ _ _ c.if-devices-command.false (told (goal.at.returns-then-not-in_range c).After-in_range ∙ not-true _ c.if-not-in_range.true-raw))

pub returns-then-command-gt-HIGHEST_TAG : goal.returns-then-command-gt-HIGHEST_TAG
returns-then-command-gt-HIGHEST_TAG c = sym (command_tag _ _ _ c.if-devices-command.false (told (goal.at.returns-then-command-gt-HIGHEST_TAG c).After-in_range
    ∙ not-false _ c.if-not-in_range.false-raw) c.if-command-gt-HIGHEST_TAG.true)

pub returns : goal.returns
returns c = sym (command_fine _ _ _ c.if-devices-command.false (told (goal.at.returns c).After-in_range
    ∙ not-false _ c.if-not-in_range.false-raw) c.if-command-gt-HIGHEST_TAG.false)
