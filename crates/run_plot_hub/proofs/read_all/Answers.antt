-- `run_plot_hub::read_all` meets its contract: what is read leaves the pending bytes, and each part is one step more. Assumes nothing.
use Rattle.line.proofs.LineLaws.{hub-none}
use Rattle.line_parts.proofs.Theorem.{reached_none, reached_still, reached_more, adds_part}
use Rattle.run_plot_hub.proofs.read_all.Goals as goal

pub loop-init : goal.loop-init
loop-init g c = let h = c.no_hub-hub.ensures in reached_none h.0 (hub-none _ h.1)

pub print-requires : goal.print-requires
print-requires g c = adds_part (reached_still c.loop.invariant c.read_behind.ensures.still) c.take_part-step.ensures

pub loop-preserved : goal.loop-preserved
loop-preserved g c = reached_more (reached_still c.loop.invariant c.read_behind.ensures.still) c.take_part-step.ensures
