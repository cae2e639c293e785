-- `hub_due::behind_last_done` meets its contract. The loop's invariant: the commands from the k-th on leave the device as it was. Assumes
-- nothing.
use Rattle.hub_due.proofs.Places.{NoneFrom}
use Rattle.hub_due.proofs.behind_last_done.Given as goal

abbrev pub invariant-loop-k : goal.invariant-loop-k
invariant-loop-k l = NoneFrom l.device l.stage l.from l.end l.wanted l.k
