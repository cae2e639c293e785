-- `book_read::reading::length_fits` meets its contract: it makes the tests of its definition, in their order. Assumes nothing.
use Rattle.std.proofs.Common.{◌≡◌, ◌*◌, ◌%◌, Bool, ◌&&◌, sym, ap, ◌∙◌}
use borrow.Author.Tests.{le-leb, lt-leb}
use lib.Dec.{leb, eqb}
use Rattle.rules_routine.specs.Limits.{max_commands}
use Rattle.book_layout.specs.Layout.{command_size}
use Rattle.book_layout.specs.Reading.{length_fits}
use Rattle.book_read.proofs.reading.length_fits.Goals.{then-length-ge-COMMAND_SIZE, else-length-ge-COMMAND_SIZE}
use Rattle.book_read.proofs.reading.length_fits.Goals.{Joined-length-ge-COMMAND_SIZE}
use Rattle.book_read.proofs.reading.length_fits.Goals as goal

-- the first two tests
within : (c : Joined-length-ge-COMMAND_SIZE) →
    let n = c.args.length in
    c.if-length-ge-COMMAND_SIZE.value ≡ leb command_size n && leb n (command_size * max_commands)
within c = let n = c.args.length in
    elim c.if-length-ge-COMMAND_SIZE.branch [
      | then-length-ge-COMMAND_SIZE w ↦ w.value-is ∙ sym (simp (le-leb command_size n w.if-length-ge-COMMAND_SIZE.true))
      | else-length-ge-COMMAND_SIZE w ↦ w.value-is ∙ simp (lt-leb command_size n w.if-length-ge-COMMAND_SIZE.false)
    ]

pub returns-then-length : goal.returns-then-length
unfolding length_fits
returns-then-length c =
    ap (λ (v : Bool). v && eqb (c.args.length % command_size) 0)
    (sym c.if-length.true ∙ within (goal.at.returns-then-length c).Joined-length-ge-COMMAND_SIZE)

pub returns-else-length : goal.returns-else-length
unfolding length_fits
returns-else-length c =
    c.if-length.false
    ∙ ap (λ (v : Bool). v && eqb (c.args.length % command_size) 0)
    (sym c.if-length.false ∙ within (goal.at.returns-else-length c).Joined-length-ge-COMMAND_SIZE)
