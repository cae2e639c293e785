-- `run_plot_hub_hints::take_lines` is safe and ends, and leaves a valid hub. Assumes nothing.
use Rattle.std.proofs.Common.{length, ◌-◌}
use Rattle.hub.specs.Valid.{Valid}
use Rattle.run_plot_hub_hints.proofs.take_lines.Given as goal

abbrev pub invariant-loop-from : goal.invariant-loop-from
invariant-loop-from g l = Valid l.tally.hub

abbrev pub decreases-loop-from : goal.decreases-loop-from
decreases-loop-from g l = length l.input - l.from
