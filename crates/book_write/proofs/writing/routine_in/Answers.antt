-- `book_write::writing::routine_in` meets its contract. The loop's invariant: the routine holds the first i of its commands. Assumes
-- nothing.
use Prim.Native.Nat.{ℕ}
use mathlib.Core.Path.{◌≡◌, sym, ap, ◌∙◌}
use mathlib.Core.List.{[], ◌∷◌, ◌++◌}
use native.Mathlib.Omega.{arith}
use Rattle.rules_routine.specs.declared.Command.{Command}
use Rattle.rules_routine.specs.declared.Routine.{Routine}
use Rattle.rules_routine.specs.Routine.{routine_of, with_command}
use Rattle.rules_routine.proofs.RoutineLaws.{with_more}
use Rattle.book_layout.specs.Writing.{commands_lent}
use Rattle.book_write.proofs.Row.{lent-more}
use Rattle.book_layout.proofs.Lending.{length-lent}
use Rattle.book_write.proofs.writing.routine_in.Goals as goal

pub loop-i-preserved : goal.loop-i-preserved
loop-i-preserved c = let a = c.args in
    let cs = commands_lent a.devices.now a.tags.now a.settings.now a.at c.loop-i.i in
    let n = length-lent a.devices.now a.tags.now a.settings.now a.at c.loop-i.i in
    let few = c.requires.0 in
    c.with_command-routine.ensures
    ∙ ap (λ (r : Routine). with_command r c.command_in.result) c.loop-i.invariant
    ∙ with_more _ _ (omega arith)
    ∙ ap (λ (x : Command). routine_of (cs ++ (x ∷ []))) c.command_in.ensures
    ∙ ap routine_of (sym (lent-more a.devices.now a.tags.now a.settings.now a.at c.loop-i.i))

pub returns : goal.returns
returns c = let a = c.args in
    let n : c.loop-i.i ≡ a.count = omega arith in
    c.loop-i.invariant ∙ ap (λ (k : ℕ). routine_of (commands_lent a.devices.now a.tags.now a.settings.now a.at k)) n
