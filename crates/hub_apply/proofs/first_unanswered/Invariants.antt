-- `hub_apply::first_unanswered` meets its contract. The loop: those passed are answered. Assumes nothing.
use Rattle.std.proofs.Common.{ℕ, ◌≤◌, ◌<◌, get_or}
use Rattle.hub_state.specs.View.{done_code}
use Rattle.hub_apply.proofs.first_unanswered.Given as goal

abbrev pub invariant-loop-k : goal.invariant-loop-k
invariant-loop-k l = (j : ℕ) → l.from ≤ j → j < l.k → done_code ≤ get_or l.stage j 0
