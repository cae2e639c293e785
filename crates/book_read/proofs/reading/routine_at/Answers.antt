-- `book_read::reading::routine_at` meets its contract. Assumes nothing.
use Prim.Native.Nat.{ℕ}
use mathlib.Core.List.{[], ◌∷◌, ◌++◌}
use native.Mathlib.Numerals.{add-one}
use Rattle.rules_routine.specs.declared.Command.{Command}
use Rattle.rules_routine.specs.declared.Routine.{Routine}
use Rattle.book_layout.proofs.LayoutLaws.{length-commands_at}
use Rattle.rules_routine.proofs.RoutineLaws.{routine_of-count, with_more}
use Rattle.book_read.proofs.ReadingLaws.{commands_at-more}
use mathlib.Core.Path.{◌≡◌, sym, ap, ◌∙◌}
use native.Mathlib.Omega.{arith}
use Rattle.book_layout.specs.Layout.{commands_at}
use Rattle.rules_routine.specs.Routine.{routine_of, with_command}
use Rattle.book_read.proofs.reading.routine_at.Goals as goal

pub with_command-routine-requires : goal.with_command-routine-requires
with_command-routine-requires c = let e : c.loop-i.routine.count ≡ c.loop-i.i =
    ap (λ (r : Routine). r.count) c.loop-i.invariant ∙ routine_of-count _ ∙ length-commands_at _ _ _ in
    omega arith

pub loop-i-preserved : goal.loop-i-preserved
loop-i-preserved c = let a = c.args in
    let n = length-commands_at a.book.now a.at c.loop-i.i in
    c.with_command-routine.ensures
    ∙ ap (λ (r : Routine). with_command r c.command_at.result) c.loop-i.invariant
    ∙ with_more _ _ (omega arith)
    ∙ ap (λ (x : Command). routine_of (commands_at a.book.now a.at c.loop-i.i ++ (x ∷ []))) c.command_at.ensures
    ∙ ap routine_of (sym (commands_at-more a.book.now a.at c.loop-i.i))
    ∙ ap (λ (k : ℕ). routine_of (commands_at a.book.now a.at k)) (sym (add-one c.loop-i.i))

pub returns : goal.returns
returns c = let a = c.args in
    let n : c.loop-i.i ≡ a.count = omega arith in
    c.loop-i.invariant ∙ ap (λ (k : ℕ). routine_of (commands_at a.book.now a.at k)) n
