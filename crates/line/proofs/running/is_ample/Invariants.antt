-- `line::running::is_ample` meets its contract. The loop's invariant: the lines counted and those left are all. Assumes nothing.
use Rattle.std.proofs.Common.{◌≡◌, suc, ◌+◌, ◌≤◌, length}
use Rattle.std.specs.Slice.Iter.{chunks_rest, chunks_size}
use Rattle.line_rules.specs.Text.{line_end}
use Rattle.line_rules.specs.Pieces.{pieces}
use Rattle.line.specs.Contract.{chunk_length}
use Rattle.line.proofs.running.is_ample.Given as goal

abbrev pub invariant-loop-chunk : goal.invariant-loop-chunk
invariant-loop-chunk l =
    (goal.iterator-loop-chunk).can_next l.chunk-iterator
    × (goal.iterator-loop-chunk).is_finite l.chunk-iterator
    × (chunks_size l.chunk-iterator ≡ chunk_length)
    × (l.count + length (chunks_rest l.chunk-iterator) ≤ suc (length l.input))
    × (l.count + length (pieces line_end (chunks_rest l.chunk-iterator)) ≡ suc (length (pieces line_end l.input)))
