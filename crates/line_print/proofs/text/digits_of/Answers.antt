-- `line_print::text::digits_of` meets its contract. The loop's invariant: ten times the power is ten to the count, and the number has
-- so many digits at least. Assumes nothing.
use mathlib.Core.Path.{◌≡◌, refl, ap, ◌∙◌}
use Prim.Native.Nat.{ℕ, ◌+◌, ◌*◌, ◌^◌, ◌≤◌, ◌<◌}
use native.Mathlib.Nat.{pow-suc}
use native.Mathlib.Numerals.{add-one}
use native.Mathlib.Omega.{arith}
use lib.ListN.{length}
use Rattle.line_rules.specs.Text.{decimal}
use Rattle.line_rules.proofs.TextLaws.{decimal-short}
use Rattle.line_print.proofs.Stores.{some_digit, digits_above}
use Rattle.line_print.proofs.text.digits_of.Goals.{In-loop-power, Start}
use Rattle.line_print.proofs.text.digits_of.Goals as goal

few : (c : Start) → length (decimal c.args.n) ≤ 20
few c = decimal-short 20 c.args.n (omega arith) (omega arith)

-- while the loop goes on there is a digit more
more : (c : In-loop-power) → c.loop-power.count < length (decimal c.args.n)
more c =
    let h : 10 ^ c.loop-power.count ≤ c.args.n = omega (arith, c.loop-power.invariant.2) in
    digits_above c.loop-power.count c.args.n h

pub loop-power-init : goal.loop-power-init
loop-power-init c = (omega arith, some_digit c.args.n, refl)

pub overflow_add-count : goal.overflow_add-count
overflow_add-count c = omega (arith, few (goal.at.overflow_add-count c).Start, c.loop-power.invariant.1)

pub loop-power-smaller : goal.loop-power-smaller
loop-power-smaller c = omega (arith, more (goal.at.loop-power-smaller c).In-loop-power)

pub loop-power-preserved : goal.loop-power-preserved
loop-power-preserved c = let n : ℕ = c.loop-power.count in
    let e : 10 ^ (n + 1) ≡ 10 ^ n * 10 = ap (λ (k : ℕ). 10 ^ k) (add-one n) ∙ pow-suc 10 n in
    (omega arith, omega (arith, more (goal.at.loop-power-preserved c).In-loop-power), omega (arith, e, c.loop-power.invariant.2))

pub returns : goal.returns
returns c = let h : c.args.n < 10 ^ c.loop-power.count = omega (arith, c.loop-power.invariant.2) in
    omega (arith, c.loop-power.invariant.1, decimal-short c.loop-power.count c.args.n c.loop-power.invariant.0 h)
