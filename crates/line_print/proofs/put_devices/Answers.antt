-- `line_print::put_devices` meets its contract. The loop's invariant: the lines of the first devices are put. Assumes nothing.
use mathlib.Core.Path.{◌≡◌, refl, sym, ◌∙◌}
use mathlib.Core.Bool.{false}
use Prim.Native.Nat.{◌≤◌}
use native.Mathlib.Omega.{arith}
use borrow.Author.Rules.{rules}
use mir.Syntax.{w16}
use mir.Val.{to_z, of_z}
use lib.IntN.{pos}
use lib.ListN.{length, get_or}
use Rattle.line_rules.specs.Printing.{as_line, device_text_of}
use Rattle.line_print.specs.Put.{max_device_line}
use Rattle.line_print.specs.Texts.{lines_from}
use Rattle.line_print.proofs.PutLaws.{put-none, short_then, within, as_text, same-room, copied, lines_next}
use Rattle.line_print.proofs.put_devices.Goals.{After-put_device-end}
use Rattle.line_print.proofs.put_devices.Goals as goal

-- the text has a place for a line
room : (c : After-put_device-end) → max_device_line ≤ length c.loop-device.text
room c = omega (arith, c.loop-device.invariant.1)

pub loop-device-init : goal.loop-device-init
unfolding lines_from
loop-device-init c = (
  refl,
  refl,
  record { put = put-none c.args.out.now c.args.at; short = omega arith },
)

pub loop-device-preserved : goal.loop-device-preserved
loop-device-preserved c = let table = c.args.devices in
    let d = c.loop-device.device in
    let held : to_z w16 (of_z w16 (get_or table.due d (pos 0))) ≡ get_or table.due d (pos 0) = search rules in (
      c.put_text-to.auto.out ∙ c.loop-device.invariant.0,
      same-room c.put_device-end.ensures ∙ c.loop-device.invariant.1,
      as_text (sym (lines_next table d))
          (within (omega arith)
          (short_then c.loop-device.invariant.2
          (as_text (λ i. as_line (device_text_of d (get_or table.up d false) (held i)))
          (copied c.put_device-end.ensures (room (goal.at.loop-device-preserved c).After-put_device-end) c.put_text-to.ensures)))),
    )
