-- `book_read::reading::check_placed` meets its contract. Assumes nothing.
use Prim.Native.Nat.{ℕ, ◌/◌}
use mathlib.Core.Bool.{true}
use mathlib.Core.Path.{◌≡◌, sym, ap, ◌∙◌}
use native.Mathlib.Omega.{arith}
use Rattle.rules_routine.specs.Routine.{commands_of, routine_of, routine_check}
use Rattle.rules_routine.specs.declared.Routine.{Routine}
use Rattle.rules_routine.proofs.RoutineLaws.{check_counted, routine_of-commands}
use Rattle.book_layout.specs.Layout.{command_size, book_devices, offset_at, length_at, commands_at}
use Rattle.book_layout.specs.Reading.{length_fits}
use Rattle.book_layout.proofs.LayoutLaws.{fits_in_fours, placed-length, placed_offset, placed_end, placed-commands, length-commands_at}
use Rattle.book_read.proofs.reading.check_placed.Goals.{After-four_at, After-length_fits}
use Rattle.book_read.proofs.reading.check_placed.Goals as goal

-- the length that the pair gives, and whether it fits
size : (c : After-length_fits) →
    let a = c.args in
    c.four_at-size.result ≡ length_at a.book.now a.i
unfolding length_at
size c = c.four_at-size.ensures.0

fits : (c : After-length_fits) →
    let a = c.args in
    length_fits (length_at a.book.now a.i) ≡ c.length_fits.result
fits c = ap length_fits (sym (size c)) ∙ sym c.length_fits.ensures

good : (c : After-length_fits) → c.length_fits.result ≡ true →
    let a = c.args in
    length_fits (length_at a.book.now a.i) ≡ true
good c e = fits c ∙ e

-- the offset that the pair gives
offset : (c : After-four_at) →
    let a = c.args in
    c.four_at.result ≡ offset_at a.book.now a.i
unfolding offset_at
offset c = c.four_at.ensures.0

pub returns-then-not-length_fits : goal.returns-then-not-length_fits
returns-then-not-length_fits c = sym (placed-length _ _ _ (fits (goal.at.returns-then-not-length_fits c).After-length_fits ∙ c.if-not-length_fits.true))

pub returns-then-four_at-at : goal.returns-then-four_at-at
returns-then-four_at-at c = sym (placed_offset _ _ _ (good (goal.at.returns-then-four_at-at c).After-length_fits c.if-not-length_fits.false) (λ e. c.if-four_at-at.true (offset (goal.at.returns-then-four_at-at c).After-four_at ∙ e)))

pub returns-then-book-at : goal.returns-then-book-at
returns-then-book-at c = let e = size (goal.at.returns-then-book-at c).After-length_fits in
    let o = sym (offset (goal.at.returns-then-book-at c).After-four_at) ∙ c.if-four_at-at.false in
    sym (placed_end _ _ _ (good (goal.at.returns-then-book-at c).After-length_fits c.if-not-length_fits.false) o (omega arith))

pub routine_at-routine-requires : goal.routine_at-routine-requires
routine_at-routine-requires c = let f = fits_in_fours _ (good (goal.at.routine_at-routine-requires c).After-length_fits c.if-not-length_fits.false) in
    let e = size (goal.at.routine_at-routine-requires c).After-length_fits in
    (omega arith, omega arith)

pub returns : goal.returns
returns c = let a = c.args in
    let e = size (goal.at.returns c).After-length_fits in
    let f = fits_in_fours _ (good (goal.at.returns c).After-length_fits c.if-not-length_fits.false) in
    let o = sym (offset (goal.at.returns c).After-four_at) ∙ c.if-four_at-at.false in
    let n = ap (λ (k : ℕ). k / command_size) e in
    let cs = commands_at a.book.now a.at (length_at a.book.now a.i / command_size) in
    let l = length-commands_at a.book.now a.at (length_at a.book.now a.i / command_size) in
    let r : c.routine_at-routine.result ≡ routine_of cs =
    c.routine_at-routine.ensures ∙ ap (λ (k : ℕ). routine_of (commands_at a.book.now a.at k)) n in
    c.check.ensures
    ∙ ap (λ (q : Routine). routine_check book_devices (commands_of q)) r
    ∙ ap (routine_check book_devices) (routine_of-commands cs (omega arith))
    ∙ check_counted book_devices cs (omega arith) (omega arith)
    ∙ sym (placed-commands _ _ _ (good (goal.at.returns c).After-length_fits c.if-not-length_fits.false) o (omega arith))
