-- `hub_due::due_settings_without` meets its contract. The loop's invariant: the slots that are left leave each device as all slots do.
-- Assumes nothing.
use lib.ListN.{length}
use Rattle.hub_sequence.specs.Links.{along, Walks}
use Rattle.hub_due.proofs.Slots.{Within, DueTo}
use Rattle.hub_due.proofs.due_settings_without.Given as goal

abbrev pub invariant-loop-i : goal.invariant-loop-i
invariant-loop-i l = (Walks l.behind l.i) × (Within (along l.behind l.i) (along l.behind l.initial.i))
    × (DueTo l.behind l.device l.stage l.setting l.restarts l.answered l.left_out l.initial.i l.initial.table l.i l.table)

abbrev pub decreases-loop-i : goal.decreases-loop-i
decreases-loop-i l = length (along l.behind l.i)
