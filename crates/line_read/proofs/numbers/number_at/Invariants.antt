-- `line_read::numbers::number_at` meets its contract: what is left of the word, behind the digits read. Assumes nothing.
use Prim.Native.Nat.{◌≤◌, max}
use lib.ListN.{length}
use Rattle.line_read.proofs.WordLaws.{Left}
use Rattle.line_read.proofs.numbers.number_at.Given as goal

abbrev pub invariant-loop-at : goal.invariant-loop-at
invariant-loop-at l = Left l.line l.from l.at l.value × (l.value ≤ l.highest) × (l.at ≤ max (length l.line) l.from)
