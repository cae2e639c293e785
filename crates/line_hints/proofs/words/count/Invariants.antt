-- `line_hints::words::count` meets its contract: the words from each place on. Assumes nothing.
use Prim.Native.Nat.{suc, ◌+◌, ◌-◌, ◌≤◌}
use mathlib.Core.Path.{◌≡◌}
use lib.ListN.{length}
use Rattle.line_read.specs.Places.{behind_letter, words_from}
use Rattle.line_hints.proofs.words.count.Given as goal

abbrev pub invariant-loop-at : goal.invariant-loop-at
invariant-loop-at l = (l.words + length (words_from l.line l.at) ≡ length (words_from l.line behind_letter)) × (l.words ≤ l.at)

abbrev pub decreases-loop-at : goal.decreases-loop-at
decreases-loop-at l = suc (length l.line) - l.at
