-- `run_hub_vectors::run_calls` is safe and ends: the hub is valid at every call. Assumes nothing.
use Rattle.hub.specs.Valid.{Valid}
use Rattle.run_hub_vectors.proofs.run_calls.Given as goal

abbrev pub invariant-loop-call : goal.invariant-loop-call
invariant-loop-call g l =
    (goal.iterator-loop-call g).can_next l.call-iterator
    × (goal.iterator-loop-call g).is_finite l.call-iterator
    × Valid l.now
