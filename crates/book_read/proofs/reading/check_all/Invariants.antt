-- `book_read::reading::check_all` meets its contract. The loop's invariant: the check of the routines from the i-th on, at their place, is
-- the check of all of them; and that place is in the book. Assumes nothing.
use Prim.Native.Nat.{◌-◌, ◌≤◌}
use mathlib.Core.Path.{◌≡◌}
use lib.ListN.{length}
use Rattle.book_layout.specs.Layout.{pairs_end}
use Rattle.book_layout.specs.Reading.{placed_checks}
use Rattle.book_read.proofs.reading.check_all.Given as goal

abbrev pub invariant-loop-i : goal.invariant-loop-i
invariant-loop-i l = (l.at ≤ length l.book) × (placed_checks l.book l.i (l.count - l.i) l.at ≡ placed_checks l.book 0 l.count (pairs_end l.count))
