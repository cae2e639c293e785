-- `line_read::pieces::piece_end` meets its contract: as far as the piece reaches from each place, it ends where it did. Assumes nothing.
use Prim.Native.Nat.{ℕ, ◌+◌, ◌-◌}
use mathlib.Core.Path.{◌≡◌}
use mathlib.Core.List.{List}
use lib.ListN.{drop}
use Rattle.line_rules.specs.Pieces.{reach}
use Rattle.line_read.proofs.pieces.piece_end.Given as goal

-- from a place the piece ends where it does from another
abbrev pub Same : List ℕ → ℕ → ℕ → ℕ → Type 0
Same bytes byte from at = at + reach byte (drop at bytes) ≡ from + reach byte (drop from bytes)

abbrev pub invariant-loop-at : goal.invariant-loop-at
invariant-loop-at l = Same l.bytes l.byte l.from l.at

abbrev pub decreases-loop-at : goal.decreases-loop-at
decreases-loop-at l = l.stop - l.at
