-- `line_read::pieces::near_end` meets its contract: as far as the piece reaches from each place, it ends where it did. Assumes nothing.
use Prim.Native.Nat.{◌+◌, ◌≤◌, max}
use mathlib.Core.Path.{◌≡◌}
use lib.ListN.{length, drop}
use Rattle.line_rules.specs.Pieces.{reach}
use Rattle.line_read.proofs.pieces.near_end.Given as goal

abbrev pub invariant-loop-at : goal.invariant-loop-at
invariant-loop-at l =
    (l.at + reach l.byte (drop l.at l.bytes) ≡ l.from + reach l.byte (drop l.from l.bytes)) × (l.at ≤ max (length l.bytes) l.from)
