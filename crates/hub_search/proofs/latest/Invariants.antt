-- `hub_search::latest` meets its contract. The loop seeks along the links from the last on. Assumes nothing.
use lib.ListN.{length}
use Rattle.hub_sequence.specs.Links.{along}
use Rattle.hub_search.proofs.Slots.{Seeks}
use Rattle.hub_search.proofs.SearchLaws.{blocks_in}
use Rattle.hub_search.proofs.latest.Given as goal

abbrev pub invariant-loop-i : goal.invariant-loop-i
invariant-loop-i l = Seeks (blocks_in l.wanted l.count l.limit l.ids l.passed l.committed) l.ahead l.initial.i l.i

abbrev pub decreases-loop-i : goal.decreases-loop-i
decreases-loop-i l = length (along l.ahead l.i)
