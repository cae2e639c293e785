-- `line_print::text::put_word` meets its contract. The loop's invariant: the first i bytes are put. Assumes nothing.
use mathlib.Core.Path.{refl, ap, ◌∙◌}
use mathlib.Core.List.{List}
use Prim.Native.Nat.{ℕ, ◌+◌}
use native.Mathlib.Omega.{arith}
use lib.ListN.{get_or, length-set}
use lib.Seq.{sets, take_all}
use Rattle.line_print.proofs.Stores.{copied_next}
use Rattle.line_print.proofs.text.put_word.Goals as goal

pub loop-i-preserved : goal.loop-i-preserved
loop-i-preserved c = let a = c.args in (
  length-set c.loop-i.out (a.at + c.loop-i.i) (get_or a.word.now c.loop-i.i 0) ∙ c.loop-i.invariant.0,
  copied_next a.word.now a.out.now c.loop-i.out a.at c.loop-i.i c.loop-i-test.true c.loop-i.invariant.1,
)

pub returns : goal.returns
returns c = let a = c.args in
    let t = take_all c.loop-i.i a.word.now (omega arith) in
    record { is = c.loop-i.invariant.1 ∙ ap (λ (k : List ℕ). sets a.out.now a.at k) t; ends = refl }
