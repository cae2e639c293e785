-- `line_hints::by_words` meets its contract. Assumes nothing.
use mathlib.Core.Path.{◌≡◌, sym, ◌∙◌}
use native.Mathlib.Omega.{arith}
use lib.ListN.{get_or}
use Rattle.line_rules.specs.Pieces.{words_of}
use Rattle.line_read.specs.Places.{behind_letter, words_from}
use Rattle.line_hints.specs.Why.{by_letter, by_words}
use Rattle.line_hints.proofs.ReasonLaws.{no_bytes, a_space, longer_word, one_byte, letter_alone}
use Rattle.line_hints.proofs.by_words.Goals.{Joined-line-gt1, then-line-gt1+else-line-ne-SPACE, else-line-gt1}
use Rattle.line_hints.proofs.by_words.Goals as goal

-- the letter is a word alone
alone : (c : Joined-line-gt1) → let line = c.args.line.now in
    by_words (words_of line) ≡ by_letter (get_or line 0 0) (words_from line behind_letter)
alone c =
    let line = c.args.line.now in
    let h = c.if-line-eq0.false in
    elim c.if-line-gt1.branch [
      | then-line-gt1+else-line-ne-SPACE w ↦ letter_alone line (omega (arith, h)) c.if-letter-eq-SPACE.false w.if-line-gt1.true w.if-line-ne-SPACE.false
      | else-line-gt1 w ↦ one_byte line (omega (arith, h)) c.if-letter-eq-SPACE.false (omega (arith, w.if-line-gt1.false))
    ]

pub returns-then-line-eq0 : goal.returns-then-line-eq0
returns-then-line-eq0 c = sym (no_bytes _ c.if-line-eq0.true)

pub returns-then-letter-eq-SPACE : goal.returns-then-letter-eq-SPACE
returns-then-letter-eq-SPACE c = sym (a_space _ (omega (arith, c.if-line-eq0.false)) c.if-letter-eq-SPACE.true)

pub returns-then-line-ne-SPACE : goal.returns-then-line-ne-SPACE
returns-then-line-ne-SPACE c = sym (longer_word _ (omega (arith, c.if-line-gt1.true)) c.if-letter-eq-SPACE.false c.if-line-gt1.true c.if-line-ne-SPACE.true)

pub returns : goal.returns
returns c = c.by_letter.ensures ∙ sym (alone (goal.at.returns c).Joined-line-gt1)
