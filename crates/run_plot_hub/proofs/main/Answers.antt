-- `run_plot_hub::main` is safe and ends, and prints what the end of the input adds. Assumes nothing.
use Rattle.line_parts.proofs.Theorem.{adds_end}
use Rattle.run_plot_hub.proofs.main.Goals as goal

pub print-requires : goal.print-requires
print-requires c = adds_end c.in-Some.ensures c.take_end-length.ensures
