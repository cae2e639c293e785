-- `line::run_part` meets its contract. Assumes nothing.
use Prim.Native.Nat.{◌≤◌}
use lib.ListN.{length}
use Rattle.line_rules.specs.Pieces.{lines_of}
use Rattle.line_rules.specs.Program.{steps}
use Rattle.line.specs.View.{hub_in}
use Rattle.line.proofs.Loops.{measured_past, measured_fits, lines_measured, wrote_none, wrote_all}
use Rattle.line.proofs.run_part.Goals.{After-run_lines-ran, then-not-is_ample+else-room-length, else-not-is_ample}
use Rattle.line.proofs.run_part.Goals as goal

-- whether it was measured or not, the text fits
fits : (c : After-run_lines-ran) →
    length (steps (hub_in c.args.hub) (lines_of c.args.input.now)).text ≤ length c.args.out.now
fits c =
    elim c.if-not-is_ample.branch [
      | then-not-is_ample+else-room-length w ↦ measured_fits w.lines_length-length.ensures w.if-room-length.false
      | else-not-is_ample w ↦ (lines_measured c.run_lines-ran.ensures).enough (c.is_ample.ensures w.if-not-is_ample.false)
    ]

pub returns-then-room-length : goal.returns-then-room-length
returns-then-room-length c = let m = c.lines_length-length.ensures in
    record {
      wrote = wrote_none _ _ _ c.requires (measured_past m c.if-room-length.true);
      enough = m.enough;
    }

pub returns : goal.returns
returns c =
    let r = c.run_lines-ran.ensures in
    let f = r.fits (fits (goal.at.returns c).After-run_lines-ran) in
    record {
      wrote = wrote_all _ _ _ _ _ _ r.valid f.0 (fits (goal.at.returns c).After-run_lines-ran) f.1 r.unopened;
      enough = λ _. fits (goal.at.returns c).After-run_lines-ran;
    }
