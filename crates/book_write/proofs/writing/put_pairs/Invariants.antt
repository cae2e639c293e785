-- `book_write::writing::put_pairs` meets its contract. The loop's invariant: the pairs of the routines from the i-th on, written into the
-- buffer as it is, give what all of them give. Assumes nothing.
use Prim.Native.Nat.{◌+◌, ◌*◌, ◌≤◌}
use mathlib.Core.Path.{◌≡◌}
use lib.ListN.{length, drop}
use lib.Seq.{sets}
use Rattle.book_layout.specs.Layout.{count_size, command_size, pair_place, pairs_end}
use Rattle.book_write.specs.Count.{pairs_counted}
use Rattle.book_write.proofs.writing.put_pairs.Given as goal

abbrev pub invariant-loop-i : goal.invariant-loop-i
invariant-loop-i l = (l.at ≤ pairs_end (length l.counts) + command_size * (255 * l.i)) × (length l.out ≡ length l.initial.out)
    × (sets l.out (pair_place l.i) (pairs_counted l.at (drop l.i l.counts)) ≡ sets l.initial.out count_size (pairs_counted (pairs_end (length l.counts)) l.counts))
