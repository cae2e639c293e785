-- `hub_due::after_done` meets its contract. The loop's invariant: the commands from the k-th on leave each device as all of them do.
-- Assumes nothing.
use Rattle.hub_due.proofs.Places.{DoneTo}
use Rattle.hub_due.proofs.after_done.Given as goal

abbrev pub invariant-loop-k : goal.invariant-loop-k
invariant-loop-k l = DoneTo l.device l.stage l.setting l.from l.end l.initial.after l.k l.after
