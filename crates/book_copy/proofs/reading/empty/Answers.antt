-- `book_copy::reading::empty` meets its contract. Assumes nothing.
use mathlib.Core.Path.{refl}
use Rattle.book_copy.specs.Rows.{rows_with}
use Rattle.book_copy.proofs.reading.empty.Goals as goal

pub returns : goal.returns
unfolding rows_with
returns c = refl
