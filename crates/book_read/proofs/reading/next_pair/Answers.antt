-- `book_read::reading::next_pair` meets its contract: each way out is one of the laws of `pair_next`. Assumes nothing.
use Rattle.std.proofs.Common.{Some, Ok}
use Prim.Native.Nat.{ℕ, ◌+◌, ◌*◌, ◌-◌, ◌/◌, ◌<◌}
use mathlib.Core.Bool.{true}
use mathlib.Core.Path.{◌≡◌, sym, ap, ap₂, ◌∙◌}
use native.Mathlib.Omega.{arith}
use Rattle.rules_routine.specs.Routine.{routine_of}
use Rattle.rules_routine.specs.declared.Routine.{Routine}
use Rattle.book_layout.specs.Numbers.{four_at}
use Rattle.book_layout.specs.Layout.{count_size, pair_size, offset_size, command_size, pair_place, pairs_end, count-of, length_at, commands_at}
use Rattle.book_layout.specs.Reading.{length_fits}
use Rattle.book_layout.proofs.LayoutLaws.{fits_in_fours, book-fits, pair_handed, pair-past, pair-between}
use Rattle.book_read.proofs.reading.next_pair.Goals.{After-four_at-size, After-two_at}
use Rattle.book_read.proofs.reading.next_pair.Goals.{then-pairs_end-position-via-then-pairs_end-position}
use Rattle.book_read.proofs.reading.next_pair.Goals.{then-pairs_end-position-via-else-pairs_end-position+then-position-ne-COUNT_SIZE}
use Rattle.book_read.proofs.reading.next_pair.Goals as goal

-- the count that the head gives
count : (c : After-two_at) → c.two_at.result ≡ count-of c.args.book.now
unfolding count-of
count c = c.two_at.ensures.0

-- what the tests say
before : (c : After-two_at) → c.args.position < count_size + pair_size * c.two_at.result → c.args.position < pairs_end (count-of c.args.book.now)
before c h = let e = count c in omega arith

-- where no pair begins
pub returns-then-pairs_end-position : goal.returns-then-pairs_end-position
returns-then-pairs_end-position c = let p = (goal.at.returns-then-pairs_end-position c).After-two_at in
    let e = count p in
    elim c.then-pairs_end-position.branch [
      | then-pairs_end-position-via-then-pairs_end-position w ↦
          let h = w.if-pairs_end-position.true in sym (pair-past _ _ (omega arith))
      | then-pairs_end-position-via-else-pairs_end-position+then-position-ne-COUNT_SIZE w ↦
          sym (pair-between _ _ (before p w.if-pairs_end-position.false) w.if-position-ne-COUNT_SIZE.true)
    ]

-- the length that the pair gives fits, since the whole book is accepted
fits : (c : After-four_at-size) → c.args.position < pairs_end (count-of c.args.book.now) →
    let a = c.args in
    length_fits (four_at a.book.now (a.position + offset_size)) ≡ true
unfolding length_at
fits c h =
    let a = c.args in
    let w = c.if-position-ne-COUNT_SIZE.false in
    let i = (a.position - count_size) / pair_size in
    let p : pair_place i + offset_size ≡ a.position + offset_size = omega arith in
    ap (λ (q : ℕ). length_fits (four_at a.book.now q)) (sym p) ∙ book-fits a.book.now i c.requires (omega arith)

pub routine_at-routine-requires : goal.routine_at-routine-requires
routine_at-routine-requires c = let s = c.four_at-size.ensures.0 in
    let i = fits_in_fours _ (fits (goal.at.routine_at-routine-requires c).After-four_at-size (before (goal.at.routine_at-routine-requires c).After-two_at (omega arith))) in
    (omega arith, omega arith)

pub returns : goal.returns
returns c = let a = c.args in
    let f = c.four_at-from.ensures.0 in
    let s = c.four_at-size.ensures.0 in
    let r = c.routine_at-routine.ensures ∙ ap₂ (λ (n m : ℕ). routine_of (commands_at a.book.now n (m / command_size))) f s in
    ap (λ (q : Routine). record { item = Ok (Some q); position = a.position + pair_size }) r
    ∙ sym (pair_handed _ _ (before (goal.at.returns c).After-two_at (omega arith)) c.if-position-ne-COUNT_SIZE.false)
