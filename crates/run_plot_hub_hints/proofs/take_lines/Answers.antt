-- `run_plot_hub_hints::take_lines` is safe and ends, and leaves a valid hub. Assumes nothing.
use Rattle.std.proofs.Common.{arith}
use Rattle.line.proofs.Loops.{end_within}
use Rattle.run_plot_hub_hints.proofs.take_lines.Goals as goal

pub slice_bounds-take_line-end : goal.slice_bounds-take_line-end
slice_bounds-take_line-end g c =
    omega (arith, c.line_end-end.ensures, end_within c.args.input.now c.loop-from.from c.loop-from-test.true)
