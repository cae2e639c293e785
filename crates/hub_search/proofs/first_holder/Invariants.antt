-- `hub_search::first_holder` meets its contract. The outer loop seeks along the links, up to `at`; the inner one: what is left gives what
-- the whole gives; for a command it begins past those that are answered. Assumes nothing.
use Rattle.std.proofs.Common.{None}
use Prim.Native.Nat.{◌-◌, ◌*◌, ◌≤◌}
use mathlib.Core.Path.{◌≡◌}
use lib.ListN.{length}
use Rattle.rules_routine.specs.Limits.{max_commands, max_sequence}
use Rattle.hub_sequence.specs.Links.{along}
use Rattle.hub_search.proofs.Slots.{Seeks, stop_at}
use Rattle.hub_search.proofs.Commands.{any_at, below_at}
use Rattle.hub_search.proofs.SearchLaws.{below_in, holds_in}
use Rattle.hub_search.proofs.first_holder.Given as goal

abbrev pub invariant-loop-k : goal.invariant-loop-k
invariant-loop-k l = (l.holder ≡ None)
    × (l.end ≤ max_sequence * max_commands)
    × (any_at (below_at l.device l.stage l.bound l.wanted) l.k (l.end - l.k) ≡ below_in l.counts l.device l.stage l.bound l.wanted l.i)

abbrev pub invariant-ahead : goal.invariant-ahead
invariant-ahead l = (l.holder ≡ None)
    × Seeks (stop_at l.at (holds_in l.committed l.counts l.device l.stage l.bound l.wanted)) l.behind l.initial.i l.i

abbrev pub decreases-ahead : goal.decreases-ahead
decreases-ahead l = length (along l.behind l.i)
