-- `book_layout::bits_of` meets its contract: 32 bits hold a setting and 65,536, and 16 bits each case. Assumes nothing.
use Prim.Native.Nat.{◌-◌, ◌<◌, ◌^◌}
use mathlib.Core.Bool.{true, false}
use mathlib.Core.Path.{◌≡◌, sym, ap, ◌∙◌}
use native.Mathlib.Omega.{arith}
use lib.IntN.{pos, nat_abs, ◌+ℤ◌}
use lib.Signed.{le_z, mag}
use mir.Syntax.{w16, w32}
use mir.Val.{to_z, of_z}
use mir.Facts.{to_z-of_z, to_z_pos, sfits_widen}
use Rattle.book_layout.proofs.LayoutLaws.{not_below_0, and_65536, bits_from_0, bits_below_0}
use Rattle.book_layout.proofs.bits_of.Goals.{Else-setting-ge0, Start, Then-setting-ge0}
use Rattle.book_layout.proofs.bits_of.Goals as goal

-- the setting, as the machine reads it, in 16 bits and in 32
narrow : (c : Start) → to_z w16 (of_z w16 c.args.setting) ≡ c.args.setting
narrow c = to_z-of_z c.ranges.setting

wide : (c : Start) → to_z w32 (of_z w32 c.args.setting) ≡ c.args.setting
wide c = to_z-of_z {w = w32} (sfits_widen {w = w16} tt c.ranges.setting)

-- what the test says of it
above : (c : Then-setting-ge0) → le_z (pos 0) c.args.setting ≡ true
above c = rw (narrow c.before) at c.if-setting-ge0.true

below : (c : Else-setting-ge0) → le_z (pos 0) c.args.setting ≡ false
below c = rw (narrow c.before) at c.if-setting-ge0.false

-- the sum
more : (c : Else-setting-ge0) → c.args.setting +ℤ pos 65536 ≡ pos (65535 - mag c.args.setting)
more c = let h : mag c.args.setting < 2 ^ 15 = c.ranges.setting.sfits in
    and_65536 c.args.setting (below c) (omega arith)

pub overflow_cast-result : goal.overflow_cast-result
overflow_cast-result c = rw (narrow (goal.at.overflow_cast-result c).Start, not_below_0 c.args.setting (above c)) (
  tt,
  record { fits = omega (arith, c.ranges.setting.sfits) },
)

pub overflow_cast-result-else-setting-ge0 : goal.overflow_cast-result-else-setting-ge0
overflow_cast-result-else-setting-ge0 c = rw (narrow (goal.at.overflow_cast-result-else-setting-ge0 c).Start) (sfits_widen {w = w16} tt c.ranges.setting)

pub overflow_add-result : goal.overflow_add-result
overflow_add-result c = rw (narrow (goal.at.overflow_add-result c).Start, wide (goal.at.overflow_add-result c).Start, more c) (record { sfits = omega arith })

-- what the machine reads of it
sum : (c : Else-setting-ge0) → to_z w32 (65535 - mag c.args.setting) ≡ pos (65535 - mag c.args.setting)
sum c = let h : 65535 - mag c.args.setting < 2 ^ 31 = omega arith in to_z_pos w32 h

pub overflow_cast-result-else-setting-ge0-2 : goal.overflow_cast-result-else-setting-ge0-2
overflow_cast-result-else-setting-ge0-2 c = rw (narrow (goal.at.overflow_cast-result-else-setting-ge0-2 c).Start, wide (goal.at.overflow_cast-result-else-setting-ge0-2 c).Start, more c, sum c) (tt, record { fits = omega arith })

pub returns-then-setting-ge0 : goal.returns-then-setting-ge0
returns-then-setting-ge0 c = ap nat_abs (narrow (goal.at.returns-then-setting-ge0 c).Start) ∙ sym (bits_from_0 c.args.setting (above c))

pub returns-else-setting-ge0 : goal.returns-else-setting-ge0
returns-else-setting-ge0 c = rw (narrow (goal.at.returns-else-setting-ge0 c).Start, wide (goal.at.returns-else-setting-ge0 c).Start, more c, sum c)
    (ap nat_abs (sym (more c)) ∙ sym (bits_below_0 c.args.setting (below c)))
