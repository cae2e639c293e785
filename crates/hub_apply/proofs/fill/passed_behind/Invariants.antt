-- `hub_apply::fill::passed_behind` meets its contract: with each round one slot more of the walk is passed. Assumes nothing.
use mathlib.Core.Path.{◌≡◌}
use lib.ListN.{length}
use Rattle.rules_routine.specs.Limits.{max_sequence}
use Rattle.hub_sequence.specs.Links.{along, Walks}
use Rattle.hub_apply.proofs.FillLaws.{PassedSoFar}
use Rattle.hub_apply.proofs.fill.passed_behind.Given as goal

abbrev pub invariant-loop-i : goal.invariant-loop-i
invariant-loop-i l = (length l.passed ≡ max_sequence) × (Walks l.behind l.i)
    × (PassedSoFar l.committed l.initial.passed (along l.behind l.initial.i) (along l.behind l.i) l.passed)

abbrev pub decreases-loop-i : goal.decreases-loop-i
decreases-loop-i l = length (along l.behind l.i)
