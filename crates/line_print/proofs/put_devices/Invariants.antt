-- `line_print::put_devices` meets its contract. The loop's invariant: the lines of the first devices are put. Assumes nothing.
use mathlib.Core.Path.{◌≡◌}
use Prim.Native.Nat.{◌*◌}
use lib.ListN.{length}
use Rattle.line_print.specs.Put.{max_device_line, PutShort}
use Rattle.line_print.specs.Texts.{lines_from}
use Rattle.line_print.proofs.put_devices.Given as goal

abbrev pub invariant-loop-device : goal.invariant-loop-device
invariant-loop-device l = (length l.out ≡ length l.initial.out) × (length l.text ≡ max_device_line)
    × PutShort (max_device_line * l.device) l.initial.out l.out l.at l.to (lines_from l.devices 0 l.device)
