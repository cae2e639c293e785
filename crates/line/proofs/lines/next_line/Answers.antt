-- `line::lines::next_line` meets its contract. Assumes nothing.
use native.Mathlib.Omega.{arith}
use Rattle.line.proofs.Loops.{end_within}
use Rattle.line.proofs.lines.next_line.Goals as goal

pub slice_bounds-read_line-end : goal.slice_bounds-read_line-end
slice_bounds-read_line-end c = omega (arith, c.line_end-end.ensures, end_within c.args.input.now c.args.from c.requires)

pub slice_bounds-read_line-count : goal.slice_bounds-read_line-count
slice_bounds-read_line-count c = omega (arith, c.line_end-end.ensures)

pub returns : goal.returns
returns c =
    record {
      ends = c.line_end-end.ensures;
      says = c.read_line-said.ensures;
    }
