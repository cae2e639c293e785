-- `run_plot_hub_hints::read_all` is safe and ends, and leaves a valid hub. Assumes nothing.
use Rattle.std.proofs.Common.{length, ◌≤◌}
use Rattle.hub.specs.Valid.{Valid}
use Rattle.run_plot_hub_hints.proofs.read_all.Given as goal

abbrev pub invariant-loop : goal.invariant-loop
invariant-loop g l = (Valid l.tally.hub) × (l.pending ≤ length l.input)
