-- `line_hints::words::all_numbers` meets its contract: the words from each place on. Assumes nothing.
use Prim.Native.Nat.{suc, ◌-◌}
use mathlib.Core.Path.{◌≡◌}
use lib.ListN.{length}
use Rattle.line_read.specs.Places.{behind_letter, words_from}
use Rattle.line_hints.specs.Why.{all_numbers}
use Rattle.line_hints.proofs.words.all_numbers.Given as goal

abbrev pub invariant-loop-at : goal.invariant-loop-at
invariant-loop-at l = all_numbers (words_from l.line l.at) ≡ all_numbers (words_from l.line behind_letter)

abbrev pub decreases-loop-at : goal.decreases-loop-at
decreases-loop-at l = suc (length l.line) - l.at
