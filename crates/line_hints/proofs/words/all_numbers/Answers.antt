-- `line_hints::words::all_numbers` meets its contract: the words from each place on. Assumes nothing.
use Prim.Native.Nat.{suc, ◌+◌, ◌≤◌}
use mathlib.Core.Path.{◌≡◌, sym, ap, ◌∙◌}
use native.Mathlib.Omega.{arith}
use lib.ListN.{length}
use Rattle.line_read.specs.Places.{word_end, words_from}
use Rattle.line_read.proofs.WordLaws.{words_none}
use Rattle.line_hints.specs.Why.{is_number, all_numbers}
use Rattle.line_hints.proofs.ReasonLaws.{word_stands, word_taken, numbers_not, numbers_on, numbers_none}
use borrow.Author.Rules.{rules}
use Rattle.line_hints.proofs.words.all_numbers.Goals.{After-word_end-end}
use Rattle.line_hints.proofs.words.all_numbers.Goals as goal

-- where the word ends
ended : (c : After-word_end-end) → (c.loop-at.at ≤ c.word_end-end.result) × (c.word_end-end.result ≤ length c.args.line.now)
ended c = word_stands _ _ _ c.word_end-end.ensures (omega arith)

pub slice_bounds-is_number-count : goal.slice_bounds-is_number-count
slice_bounds-is_number-count c = let r = ended (goal.at.slice_bounds-is_number-count c).After-word_end-end in search rules

pub slice_bounds-is_number-start : goal.slice_bounds-is_number-start
slice_bounds-is_number-start c = let r = ended (goal.at.slice_bounds-is_number-start c).After-word_end-end in search rules

pub slice_bounds-is_number-end : goal.slice_bounds-is_number-end
slice_bounds-is_number-end c = let r = ended (goal.at.slice_bounds-is_number-end c).After-word_end-end in search rules

pub returns-then-not-is_number : goal.returns-then-not-is_number
returns-then-not-is_number c =
    let is = ap is_number (sym (word_taken _ _ _ c.word_end-end.ensures)) ∙ sym c.is_number.ensures ∙ c.if-not-is_number.true in
    sym (numbers_not _ _ (omega arith) is) ∙ c.loop-at.invariant

pub loop-at-preserved : goal.loop-at-preserved
loop-at-preserved c =
    let line = c.args.line.now in
    let at = c.loop-at.at in
    let is = ap is_number (sym (word_taken _ _ _ c.word_end-end.ensures)) ∙ sym c.is_number.ensures ∙ c.if-not-is_number.false in
    let behind : c.word_end-end.result + 1 ≡ suc (word_end line at) = omega (arith, c.word_end-end.ensures) in
    ap (λ k. all_numbers (words_from line k)) behind ∙ sym (numbers_on line at (omega arith) is) ∙ c.loop-at.invariant

pub returns : goal.returns
returns c = sym (numbers_none _ (words_none _ c.loop-at.at (omega arith))) ∙ c.loop-at.invariant
