-- `line_hints::words::count` meets its contract: the words from each place on. Assumes nothing.
use Prim.Native.Nat.{suc, ◌+◌, ◌≤◌}
use mathlib.Core.Path.{◌≡◌, ap}
use native.Mathlib.Omega.{arith}
use lib.ListN.{length}
use Rattle.line_read.specs.Places.{word_end, words_from}
use Rattle.line_read.proofs.WordLaws.{words_none}
use Rattle.line_hints.proofs.ReasonLaws.{word_stands, one_word}
use borrow.Author.Rules.{rules}
use Rattle.line_hints.proofs.words.count.Goals.{After-word_end-at}
use Rattle.line_hints.proofs.words.count.Goals as goal

-- where the word ends
ended : (c : After-word_end-at) → (c.loop-at.at ≤ c.word_end-at.result) × (c.word_end-at.result ≤ length c.args.line.now)
ended c = word_stands _ _ _ c.word_end-at.ensures (omega arith)

pub overflow_add-at : goal.overflow_add-at
overflow_add-at c = let r = ended (goal.at.overflow_add-at c).After-word_end-at in search rules

pub loop-at-smaller : goal.loop-at-smaller
loop-at-smaller c = let r = ended (goal.at.loop-at-smaller c).After-word_end-at in search rules

pub loop-at-preserved : goal.loop-at-preserved
loop-at-preserved c = let r = ended (goal.at.loop-at-preserved c).After-word_end-at in
    let line = c.args.line.now in
    let at = c.loop-at.at in
    let more = one_word line at (omega (arith, c.loop-at-test.true)) in
    let behind : suc (word_end line at) ≡ c.word_end-at.result + 1 = omega (arith, c.word_end-at.ensures) in
    let rest : length (words_from line (suc (word_end line at))) ≡ length (words_from line (c.word_end-at.result + 1)) =
    ap (λ k. length (words_from line k)) behind in
    (omega (arith, c.loop-at.invariant.0, more, rest), omega (arith, c.loop-at.invariant.1, r.0))

pub returns : goal.returns
returns c = let none : length (words_from c.args.line.now c.loop-at.at) ≡ 0 =
    ap length (words_none _ c.loop-at.at (omega (arith, c.loop-at-test.false))) in
    omega (arith, c.loop-at.invariant.0, none)
