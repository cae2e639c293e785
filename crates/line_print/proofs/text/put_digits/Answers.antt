-- `line_print::text::put_digits` meets its contract. The loop's invariant: the digits of what is left of the number are
-- still to be put. Assumes nothing.
use mathlib.Core.Path.{◌≡◌, refl, sym, ap, ◌∙◌}
use mathlib.Core.List.{List}
use Prim.Native.Nat.{ℕ, suc, ◌+◌, ◌-◌, ◌/◌, ◌%◌}
use native.Mathlib.Omega.{arith}
use lib.ListN.{length, set, length-set}
use lib.Seq.{sets}
use Rattle.line_rules.specs.Text.{digit0, decimal}
use Rattle.line_print.proofs.Stores.{last_digits, last_all, last-next}
use Rattle.line_print.proofs.text.put_digits.Goals as goal

pub loop-k-init : goal.loop-k-init
loop-k-init c = let a = c.args in
    let e : length (decimal a.n) ≡ a.end - a.at = omega arith in
    (refl, ap (λ (t : List ℕ). sets a.out.now a.at t) (last_all (a.end - a.at) a.n e))

pub loop-k-preserved : goal.loop-k-preserved
loop-k-preserved c = let a = c.args in
    let j : ℕ = c.loop-k.k - 1 - a.at in
    let e : c.loop-k.k - 1 ≡ a.at + j = omega arith in
    let f : suc j ≡ c.loop-k.k - a.at = omega arith in (
      length-set c.loop-k.out (c.loop-k.k - 1) (digit0 + c.loop-k.left % 10) ∙ c.loop-k.invariant.0,
      ap (λ (p : ℕ). sets (set c.loop-k.out p (digit0 + c.loop-k.left % 10)) a.at (last_digits j (c.loop-k.left / 10))) e
          ∙ last-next c.loop-k.out a.at j c.loop-k.left
          ∙ ap (λ (p : ℕ). sets c.loop-k.out a.at (last_digits p c.loop-k.left)) f
          ∙ c.loop-k.invariant.1,
    )

pub returns : goal.returns
unfolding last_digits
returns c = let a = c.args in
    let e : c.loop-k.k - a.at ≡ 0 = omega arith in
    record {
      is = ap (λ (p : ℕ). sets c.loop-k.out a.at (last_digits p c.loop-k.left)) (sym e) ∙ c.loop-k.invariant.1;
      ends = c.requires.0;
    }
