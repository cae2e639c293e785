-- `line::run_last` meets its contract. Assumes nothing.
use mathlib.Core.Path.{refl}
use Prim.Native.Nat.{◌≤◌, ◌<◌, ◌^◌}
use native.Mathlib.Omega.{arith}
use lib.ListN.{length}
use Rattle.line_rules.specs.Program.{end_text, run_from}
use Rattle.line_print.specs.Put.{max_end, PutShort}
use Rattle.line_print.proofs.PutLaws.{as_text}
use Rattle.line.specs.View.{hub_in}
use Rattle.line.proofs.Loops.{measured_past, measured_fits, wrote_none, whole_fits, whole_wrote}
use borrow.Author.Rules.{rules}
use Rattle.line.proofs.run_last.Goals.{After-put_devices-end, then-not-is_ample+else-room-length, else-not-is_ample}
use Rattle.line.proofs.run_last.Goals as goal

-- the device lines are put behind the lines
ended : (c : After-put_devices-end) →
    PutShort max_end c.run_lines-ran.new.out c.put_devices-end.new.out c.run_lines-ran.result.at c.put_devices-end.result
    (end_text (hub_in c.run_lines-ran.result.hub))
ended c = as_text c.devices_of-devices.ensures.1 c.put_devices-end.ensures

-- whether it was measured or not, the text fits
fits : (c : After-put_devices-end) →
    length (run_from (hub_in c.args.hub) c.args.input.now).text ≤ length c.args.out.now
fits c =
    elim c.if-not-is_ample.branch [
      | then-not-is_ample+else-room-length w ↦ measured_fits w.whole_length-length.ensures w.if-room-length.false
      | else-not-is_ample w ↦ whole_fits _ _ _ _ _ _ c.run_lines-ran.ensures _ _ (ended c) (c.is_ample.ensures w.if-not-is_ample.false)
    ]

pub returns-then-room-length : goal.returns-then-room-length
returns-then-room-length c = let m = c.whole_length-length.ensures in
    record {
      wrote = wrote_none _ _ _ c.requires (measured_past m c.if-room-length.true);
      enough = m.enough;
    }

pub put_devices-end-requires : goal.put_devices-end-requires
put_devices-end-requires c =
    let small : length c.args.out.now < 2 ^ 63 = search rules in
    (c.devices_of-devices.ensures.0, omega (arith, c.run_lines-ran.ensures.near, small))

pub returns : goal.returns
returns c =
    record {
      wrote = whole_wrote _ _ _ _ _ _ c.run_lines-ran.ensures _ _ (ended (goal.at.returns c).After-put_devices-end) refl (fits (goal.at.returns c).After-put_devices-end);
      enough = λ _. fits (goal.at.returns c).After-put_devices-end;
    }
