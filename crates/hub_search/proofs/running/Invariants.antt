-- `hub_search::running` meets its contract. The loop seeks along the links. Assumes nothing.
use lib.ListN.{length}
use Rattle.hub_sequence.specs.Links.{along}
use Rattle.hub_search.proofs.Slots.{Seeks}
use Rattle.hub_search.proofs.SearchLaws.{runs_in}
use Rattle.hub_search.proofs.running.Given as goal

abbrev pub invariant-loop-i : goal.invariant-loop-i
invariant-loop-i l = Seeks (runs_in l.ids l.committed l.id) l.behind l.initial.i l.i

abbrev pub decreases-loop-i : goal.decreases-loop-i
decreases-loop-i l = length (along l.behind l.i)
