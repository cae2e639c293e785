-- `hub_due::in_flight_without` meets its contract. The loop's invariant: with the slots that are left, the row has the devices that all
-- slots give. Assumes nothing.
use lib.ListN.{length}
use Rattle.hub_sequence.specs.Links.{along, Walks}
use Rattle.hub_due.proofs.Slots.{Within, FlightsTo}
use Rattle.hub_due.proofs.in_flight_without.Given as goal

abbrev pub invariant-loop-i : goal.invariant-loop-i
invariant-loop-i l = (Walks l.behind l.i) × (Within (along l.behind l.i) (along l.behind l.initial.i)) × (FlightsTo l.behind l.counts l.answered l.device l.stage l.but l.initial.i l.i l.busy)

abbrev pub decreases-loop-i : goal.decreases-loop-i
decreases-loop-i l = length (along l.behind l.i)
