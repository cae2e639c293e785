-- `book_read::check` meets its contract: each way out is one of the laws of the book's head. Assumes nothing.
use Prim.Native.Nat.{ℕ}
use mathlib.Core.Path.{◌≡◌, sym, ap, ◌∙◌}
use native.Mathlib.Omega.{arith}
use Rattle.book_layout.specs.Layout.{pairs_end, count-of}
use Rattle.book_layout.specs.Reading.{placed_checks}
use Rattle.book_layout.proofs.LayoutLaws.{head-count, head_many, head_pairs, head_fine, book-refused, book-placed}
use Rattle.book_read.proofs.check.Goals.{After-two_at-count}
use Rattle.book_read.proofs.check.Goals as goal

-- the count that the head gives
count : (c : After-two_at-count) → c.two_at-count.result ≡ count-of c.args.book.now
unfolding count-of
count c = c.two_at-count.ensures.0

pub returns-then-book-lt-COUNT_SIZE : goal.returns-then-book-lt-COUNT_SIZE
returns-then-book-lt-COUNT_SIZE c = sym (book-refused _ _ (head-count _ c.if-book-lt-COUNT_SIZE.true))

pub returns-then-count-gt-MAX_ROUTINES : goal.returns-then-count-gt-MAX_ROUTINES
returns-then-count-gt-MAX_ROUTINES c = let e = count (goal.at.returns-then-count-gt-MAX_ROUTINES c).After-two_at-count in sym (book-refused _ _ (head_many _ c.if-book-lt-COUNT_SIZE.false (omega arith)))

pub returns-then-book-count : goal.returns-then-book-count
returns-then-book-count c = let e = count (goal.at.returns-then-book-count c).After-two_at-count in
    sym (book-refused _ _ (head_pairs _ c.if-book-lt-COUNT_SIZE.false (omega arith) (omega arith)))

pub returns : goal.returns
returns c = let e = count (goal.at.returns c).After-two_at-count in
    c.check_all.ensures
    ∙ ap (λ (n : ℕ). placed_checks c.args.book.now 0 n (pairs_end n)) e
    ∙ sym (book-placed _ (head_fine _ c.if-book-lt-COUNT_SIZE.false (omega arith) (omega arith)))
