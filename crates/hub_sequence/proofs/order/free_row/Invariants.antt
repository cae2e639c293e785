-- `hub_sequence::order::free_row` meets its contract. Assumes nothing.
use mathlib.Core.Path.{◌≡◌}
use Prim.Native.Nat.{ℕ, ◌+◌, ◌≤◌, ◌<◌}
use lib.ListN.{length, get_or}
use Rattle.rules_routine.specs.Limits.{max_sequence}
use Rattle.hub_sequence.specs.Links.{none}
use Rattle.hub_sequence.proofs.order.free_row.Given as goal

abbrev pub invariant-loop-i : goal.invariant-loop-i
invariant-loop-i l = (length l.row ≡ max_sequence) × ((x : ℕ) → x < l.i → get_or l.row x 0 ≡ x + 1)
    × ((x : ℕ) → l.i ≤ x → x < max_sequence → get_or l.row x 0 ≡ none)
