-- `hub_search::halfway` meets its contract. The loop seeks along the links. Assumes nothing.
use lib.ListN.{length}
use Rattle.hub_sequence.specs.Links.{along}
use Rattle.hub_search.proofs.Slots.{Seeks}
use Rattle.hub_search.proofs.SearchLaws.{halfway_in}
use Rattle.hub_search.proofs.halfway.Given as goal

abbrev pub invariant-loop-i : goal.invariant-loop-i
invariant-loop-i l = Seeks (halfway_in l.committed l.counts l.device l.stage l.wanted) l.behind l.initial.i l.i

abbrev pub decreases-loop-i : goal.decreases-loop-i
decreases-loop-i l = length (along l.behind l.i)
