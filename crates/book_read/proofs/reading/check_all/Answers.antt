-- `book_read::reading::check_all` meets its contract. The loop's invariant: the check of the routines from the i-th on, at their place, is
-- the check of all of them; and that place is in the book. Assumes nothing.
use Rattle.std.proofs.Common.{Err}
use Rattle.std.proofs.lemmas.Result.{err_from_is_err_and}
use Prim.Native.Nat.{ℕ, ◌+◌, ◌-◌, ◌≤◌}
use mathlib.Core.Path.{◌≡◌, sym, ap, ◌∙◌}
use native.Mathlib.Omega.{arith}
use lib.ListN.{length}
use Rattle.book_layout.specs.Layout.{pairs_end, length_at}
use Rattle.book_layout.specs.Reading.{placed_checks}
use Rattle.book_layout.proofs.LayoutLaws.{placed, checks_more, checks_refused, checks_left_over, checks_end}
use Rattle.book_read.proofs.reading.check_all.Goals.{After-four_at-at, After-loop-i, In_ok-check_placed}
use Rattle.book_read.proofs.reading.check_all.Goals as goal

-- an accepted routine ends in the book
moves : (c : In_ok-check_placed) →
    c.loop-i.at + length_at c.args.book.now c.loop-i.i ≤ length c.args.book.now
moves c = (placed _ _ _ (sym c.check_placed.ensures ∙ c.in_ok-check_placed.was)).inside

-- the length that its pair gives
size : (c : After-four_at-at) →
    c.four_at-at.result ≡ length_at c.args.book.now c.loop-i.i
unfolding length_at
size c = c.four_at-at.ensures.0

-- all routines are behind the loop
all : (c : After-loop-i) →
    let a = c.args in
    placed_checks a.book.now c.loop-i.i 0 c.loop-i.at
    ≡ placed_checks a.book.now 0 a.count (pairs_end a.count)
all c =
    let a = c.args in
    let n : 0 ≡ a.count - c.loop-i.i = omega arith in
    ap (λ (k : ℕ). placed_checks a.book.now c.loop-i.i k c.loop-i.at) n ∙ c.loop-i.invariant.1

pub returns-in_err-check_placed : goal.returns-in_err-check_placed
returns-in_err-check_placed c = let p = err_from_is_err_and c.from_residual.result c.from_residual.ensures.1 in
    p.1
    ∙ ap Err p.2
    ∙ sym (checks_refused _ _ _ _ c.loop-i-test.true _ (sym c.check_placed.ensures ∙ c.in_err-check_placed.was))
    ∙ c.loop-i.invariant.1

pub loop-i-preserved : goal.loop-i-preserved
loop-i-preserved c = let a = c.args in
    let h = moves (goal.at.loop-i-preserved c).In_ok-check_placed in
    let e = size (goal.at.loop-i-preserved c).After-four_at-at in (
      omega arith,
      ap (λ (k : ℕ). placed_checks a.book.now (c.loop-i.i + 1) (a.count - (c.loop-i.i + 1)) (c.loop-i.at + k)) e
          ∙ sym (checks_more _ _ _ _ c.loop-i-test.true (sym c.check_placed.ensures ∙ c.in_ok-check_placed.was))
          ∙ c.loop-i.invariant.1,
    )

pub returns-then-at-book : goal.returns-then-at-book
returns-then-at-book c = sym (checks_left_over _ _ _ c.if-at-book.true) ∙ all (goal.at.returns-then-at-book c).After-loop-i

pub returns : goal.returns
returns c = sym (checks_end _ _ _ c.if-at-book.false) ∙ all (goal.at.returns c).After-loop-i
