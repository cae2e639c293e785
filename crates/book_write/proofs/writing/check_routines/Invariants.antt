-- `book_write::writing::check_routines` meets its contract. The loop's invariant: the check of the routines from the i-th on, which begin
-- at `at` in the row, is the check of all of them. Assumes nothing.
use Prim.Native.Nat.{◌≤◌}
use mathlib.Core.Path.{◌≡◌}
use lib.ListN.{length, drop}
use Rattle.book_layout.specs.Writing.{routines_from, routines_lent, routines_check}
use Rattle.book_write.proofs.writing.check_routines.Given as goal

abbrev pub invariant-loop-n : goal.invariant-loop-n
invariant-loop-n l = (l.at ≤ length l.devices)
    × (routines_check (routines_from l.devices l.tags l.settings l.at (drop l.n-index l.counts))
    ≡ routines_check (routines_lent l.counts l.devices l.tags l.settings))
