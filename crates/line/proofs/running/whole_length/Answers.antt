-- `line::running::whole_length` meets its contract. Assumes nothing.
use Rattle.line_print.proofs.PutLaws.{as_text}
use Rattle.line.proofs.Loops.{whole_past, whole_measured}
use Rattle.line.proofs.running.whole_length.Goals as goal

pub returns-then-room-ran : goal.returns-then-room-ran
returns-then-room-ran c = whole_past _ _ _ _ _ _ c.run_lines-ran.ensures c.if-room-ran.true

pub returns : goal.returns
returns c = whole_measured _ _ _ _ _ _ c.run_lines-ran.ensures _ _ (as_text c.devices_of-devices.ensures.1 c.put_devices.ensures) c.if-room-ran.false
