-- `book_write::writing::put_pairs` meets its contract. The loop's invariant: the pairs of the routines from the i-th on, written into the
-- buffer as it is, give what all of them give. Assumes nothing.
use Prim.Native.Nat.{ℕ, ◌<◌, ◌+◌, ◌*◌}
use mathlib.Core.Path.{◌≡◌, sym, ap, ap₂, ◌∙◌}
use mathlib.Core.List.{List}
use native.Mathlib.Omega.{arith}
use lib.ListN.{drop}
use lib.Seq.{sets}
use Rattle.book_layout.specs.Numbers.{four_bytes}
use Rattle.book_layout.specs.Layout.{pair_size, offset_size, command_size, pair_place}
use Rattle.book_write.specs.Count.{pairs_counted}
use Rattle.book_write.proofs.Row.{four_le, pairs_more, pairs-end}
use Rattle.book_write.proofs.writing.put_pairs.Goals as goal

pub loop-i-preserved : goal.loop-i-preserved
loop-i-preserved c = let a = c.args in
    let i = c.loop-i.i in
    let at = c.loop-i.at in
    let n = c.from-size.result in
    let size = command_size * n in
    let few : n < 256 = omega (arith, c.from-size.ensures, (c.type_inv.counts i).fits) in
    let w : c.put-in-loop-i.new.out
    ≡ sets (sets c.loop-i.out (pair_place i) (four_bytes at)) (pair_place i + offset_size) (four_bytes size) =
    c.put-in-loop-i.ensures
    ∙ ap₂ (λ (o b : List ℕ). sets o (pair_place i + offset_size) b)
    (c.put.ensures ∙ ap (λ (b : List ℕ). sets c.loop-i.out (pair_place i) b) (c.to_le_bytes.ensures ∙ four_le at (omega arith)))
    (c.to_le_bytes-in-loop-i.ensures ∙ four_le size (omega arith)) in
    let q : pair_place (i + 1) ≡ pair_place i + pair_size = omega arith in (
      omega arith,
      c.put-in-loop-i.auto.out ∙ c.put.auto.out ∙ c.loop-i.invariant.1,
      ap₂ (λ (o : List ℕ) (p : ℕ). sets o p (pairs_counted (at + size) (drop (i + 1) a.counts.now))) w q
          ∙ sym (pairs_more c.loop-i.out a.counts.now (pair_place i) at i n c.loop-i-test.true c.from-size.ensures)
          ∙ c.loop-i.invariant.2,
    )

pub returns : goal.returns
returns c = sym (pairs-end _ _ _ _ _ c.loop-i-test.false) ∙ c.loop-i.invariant.2
