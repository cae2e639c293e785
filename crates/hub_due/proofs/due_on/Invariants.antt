-- `hub_due::due_on` meets its contract. The loop's invariant: the slots that are left, from the last of them on, leave the device as all
-- slots do. Assumes nothing.
use lib.ListN.{length}
use Rattle.hub_sequence.specs.Links.{along, Walks}
use Rattle.hub_due.proofs.Slots.{Within, BackTo}
use Rattle.hub_due.proofs.due_on.Given as goal

abbrev pub invariant-loop-i : goal.invariant-loop-i
invariant-loop-i l = (Walks l.ahead l.i)
    × (Within (along l.ahead l.i) (along l.ahead l.initial.i))
    × (BackTo l.ahead l.device l.stage l.setting l.restarts l.answered l.wanted l.initial.i l.settled l.i)

abbrev pub decreases-loop-i : goal.decreases-loop-i
decreases-loop-i l = length (along l.ahead l.i)
