-- `run_plot_hub::read_all` is safe and ends; hub and pending bytes are at every turn what the steps over all bytes read so far leave.
-- Assumes nothing.
use Rattle.line_parts.specs.Contract.{Reached}
use Rattle.run_plot_hub.proofs.read_all.Given as goal

abbrev pub invariant-loop : goal.invariant-loop
invariant-loop g l = Reached l.hub l.pending l.input
