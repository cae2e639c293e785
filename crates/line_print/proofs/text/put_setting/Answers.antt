-- `line_print::text::put_setting` meets its contract. Assumes nothing.
use mathlib.Core.Path.{◌≡◌, sym, ap, ◌∙◌}
use mathlib.Core.Bool.{true, false}
use mathlib.Core.List.{◌∷◌}
use Prim.Native.Nat.{ℕ, ◌≤◌}
use native.Mathlib.Omega.{arith}
use lib.IntN.{pos}
use lib.ListN.{length}
use lib.Signed.{lt_z}
use Rattle.line_rules.specs.Text.{minus, decimal}
use Rattle.line_rules.proofs.TextLaws.{decimal-short}
use Rattle.line_print.proofs.PutLaws.{put_then, as_text, kept, signed_below, signed_above}
use Rattle.line_print.proofs.text.put_setting.Goals as goal

-- a setting's size has at most five digits
few : (n : ℕ) → n ≤ 32768 → length (decimal n) ≤ 5
few n h = decimal-short 5 n (omega arith) (omega arith)

pub put_number-requires : goal.put_number-requires
put_number-requires c = omega (arith, c.put_byte-from.ensures.ends, few _ c.unsigned_abs-size.ensures.bound)

pub returns-then-setting-lt0 : goal.returns-then-setting-lt0
returns-then-setting-lt0 c =
    let v = c.args.setting in
    let size = rw (kept v c.ranges.setting) at c.unsigned_abs-size.ensures.value in
    let below : lt_z v (pos 0) ≡ true = rw (kept v c.ranges.setting) at c.if-setting-lt0.true in
    as_text (ap (λ (n : ℕ). minus ∷ decimal n) size ∙ sym (signed_below v below))
    (record { put = put_then c.put_byte-from.ensures c.put_number.ensures; short = omega (arith, few _ c.unsigned_abs-size.ensures.bound) })

pub put_number-requires-2 : goal.put_number-requires-2
put_number-requires-2 c = omega (arith, few _ c.unsigned_abs.ensures.bound)

pub returns : goal.returns
returns c =
    let v = c.args.setting in
    let size = rw (kept v c.ranges.setting) at c.unsigned_abs.ensures.value in
    let above : lt_z v (pos 0) ≡ false = rw (kept v c.ranges.setting) at c.if-setting-lt0.false in
    as_text (ap decimal size ∙ sym (signed_above v above))
    (record { put = c.put_number-2.ensures; short = omega (arith, few _ c.unsigned_abs.ensures.bound) })
