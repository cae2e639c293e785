-- `line_parts::take_end` meets its contract. Assumes nothing.
use lib.ListN.{length, take}
use Rattle.line.specs.Contract.{Ample}
use Rattle.line_parts.proofs.Steps.{ample, length-written, takes_end}
use native.Mathlib.Omega.{arith}
use lib.ListN.{length-take}
use Rattle.line_parts.proofs.take_end.Goals.{After-run_last-written}
use Rattle.line_parts.proofs.take_end.Goals as goal

-- the buffer has ample room
room : (c : After-run_last-written) → Ample (take c.args.pending c.args.input.now) (length c.args.out.now)
room c =
    ample c.args.input.now (take c.args.pending c.args.input.now) c.args.out.now
    (omega (arith, length-take c.args.pending c.args.input.now)) c.requires.2

pub slice_bounds-run_last-end : goal.slice_bounds-run_last-end
slice_bounds-run_last-end c = simp length-take (omega arith)

pub returns : goal.returns
returns c = let w = length-written c.run_last-written.ensures (room (goal.at.returns c).After-run_last-written) in
    rw (c.unwrap_or.ensures, w)
    (takes_end c.args.hub c.args.pending c.args.input.now c.run_last-written.ensures (room (goal.at.returns c).After-run_last-written))
