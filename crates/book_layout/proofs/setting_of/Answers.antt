-- `book_layout::setting_of` meets its contract: 32 bits hold the two bytes' number, and 16 bits hold it below 128, and less 65,536 from
-- there on. Assumes nothing.
use Prim.Native.Nat.{ℕ, ◌+◌, ◌*◌, ◌<◌, ◌^◌}
use mathlib.Core.Path.{◌≡◌, sym, ◌∙◌}
use native.Mathlib.Omega.{arith}
use lib.IntN.{pos, ◌+ℤ◌, ◌-ℤ◌, ◌*ℤ◌}
use mir.Syntax.{w16, w32}
use mir.Val.{SFits, to_z, of_z}
use mir.Facts.{to_z_pos, to_z-of_z, sfits_widen}
use Rattle.book_layout.proofs.LayoutLaws.{setting_low, setting_high, less_65536}
use Rattle.book_layout.proofs.setting_of.Goals.{Else-upper-lt128, Start, Then-upper-lt128}
use Rattle.book_layout.proofs.setting_of.Goals as goal

abbrev number_of : (lower upper : ℕ) → ℕ
number_of lower upper = lower + 256 * upper

-- the number, as the machine works it out
times : (c : Start) → pos 256 *ℤ to_z w32 c.args.upper ≡ pos (256 * c.args.upper)
times c = let u : c.args.upper < 2 ^ 31 = omega arith in rw (to_z_pos w32 u)

sum : (c : Start) → to_z w32 c.args.lower +ℤ to_z w32 (of_z w32 (pos 256 *ℤ to_z w32 c.args.upper)) ≡ pos (number_of c.args.lower c.args.upper)
sum c = let l : c.args.lower < 2 ^ 31 = omega arith in
    let u : 256 * c.args.upper < 2 ^ 31 = omega arith in
    rw (times c, to_z_pos w32 l, to_z_pos w32 u)

number : (c : Start) →
    to_z w32 (of_z w32 (to_z w32 c.args.lower +ℤ to_z w32 (of_z w32 (pos 256 *ℤ to_z w32 c.args.upper)))) ≡ pos (number_of c.args.lower c.args.upper)
number c = let n : number_of c.args.lower c.args.upper < 2 ^ 31 = omega arith in rw (sum c, to_z_pos w32 n)

pub overflow_mul-number : goal.overflow_mul-number
overflow_mul-number c = rw (times c) (record { sfits = omega arith })

pub overflow_add-number : goal.overflow_add-number
overflow_add-number c = rw (sum c) (record { sfits = omega arith })

-- each case fits 16 bits
low : (c : Then-upper-lt128) → SFits w16 (pos (number_of c.args.lower c.args.upper))
low c = record { sfits = omega arith }

high : (c : Else-upper-lt128) → SFits w16 (pos (number_of c.args.lower c.args.upper) -ℤ pos 65536)
high c = rw (less_65536 (number_of c.args.lower c.args.upper) (omega arith)) (record { sfits = omega arith })

pub overflow_cast-result : goal.overflow_cast-result
overflow_cast-result c = rw (number (goal.at.overflow_cast-result c).Start) (low c)

pub overflow_sub-result : goal.overflow_sub-result
overflow_sub-result c = rw (number (goal.at.overflow_sub-result c).Start) (sfits_widen {w = w16} tt (high c))

pub overflow_cast-result-else-upper-lt128 : goal.overflow_cast-result-else-upper-lt128
overflow_cast-result-else-upper-lt128 c = rw (number (goal.at.overflow_cast-result-else-upper-lt128 c).Start, to_z-of_z {w = w32} (sfits_widen {w = w16} tt (high c))) (high c)

pub returns-then-upper-lt128 : goal.returns-then-upper-lt128
returns-then-upper-lt128 c = rw (number (goal.at.returns-then-upper-lt128 c).Start) (to_z-of_z (low c) ∙ sym (setting_low c.args.lower c.args.upper (omega arith)))

pub returns-else-upper-lt128 : goal.returns-else-upper-lt128
returns-else-upper-lt128 c = rw (number (goal.at.returns-else-upper-lt128 c).Start, to_z-of_z {w = w32} (sfits_widen {w = w16} tt (high c)))
    (to_z-of_z (high c) ∙ sym (setting_high c.args.lower c.args.upper (omega arith)))
