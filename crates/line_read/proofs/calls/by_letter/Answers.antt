-- `line_read::calls::by_letter` meets its contract. Assumes nothing.
use Rattle.std.proofs.Common.{◌≡◌, [], ◌∷◌, sym, ap, ◌∙◌, arith, get_or, eqb-true, false-eqb}
use Rattle.line_rules.specs.Pieces.{words_of}
use Rattle.line_rules.specs.Reading.{line_with, line_by}
use Rattle.line_read.specs.View.{read_as}
use Rattle.line_read.specs.Places.{behind_letter, words_from}
use Rattle.line_read.proofs.Forms.{no_words, letter_and_more, one_byte, letter_alone, letter_submit}
use Rattle.line_read.proofs.calls.by_letter.Goals.{else-line-gt1-via-then-line-gt1+else-line-ne-SPACE, else-line-gt1-via-else-line-gt1}
use Rattle.line_read.proofs.calls.by_letter.Goals as goal

pub returns-then-is_empty : goal.returns-then-is_empty
returns-then-is_empty c = sym (ap read_as (no_words _ (eqb-true _ 0 (sym c.is_empty.ensures ∙ c.if-is_empty.true))))

pub returns-then-line-ne-SPACE : goal.returns-then-line-ne-SPACE
returns-then-line-ne-SPACE c = sym (ap read_as (letter_and_more _ c.if-line-gt1.true c.if-line-ne-SPACE.true))

-- the letter is a word alone
pub returns-then-letter-eq-SUBMIT : goal.returns-then-letter-eq-SUBMIT
returns-then-letter-eq-SUBMIT c =
    let line = c.args.line.now in
    let some = false-eqb _ 0 c.if-is_empty.ensures in
    let alone : line_by (words_of line) ≡ line_with (get_or line 0 0 ∷ []) (words_from line behind_letter) =
    elim c.else-line-gt1.branch [
      | else-line-gt1-via-then-line-gt1+else-line-ne-SPACE w ↦ letter_alone line w.if-line-gt1.true w.if-line-ne-SPACE.false
      | else-line-gt1-via-else-line-gt1 w ↦ one_byte line (omega (arith, w.if-line-gt1.false, some))
    ] in
    c.submit_line.ensures ∙ sym (ap read_as (alone ∙ letter_submit _ _ c.if-letter-eq-SUBMIT.true))

pub returns : goal.returns
returns c =
    let line = c.args.line.now in
    let some = false-eqb _ 0 c.if-is_empty.ensures in
    let alone : line_by (words_of line) ≡ line_with (get_or line 0 0 ∷ []) (words_from line behind_letter) =
    elim c.else-line-gt1.branch [
      | else-line-gt1-via-then-line-gt1+else-line-ne-SPACE w ↦ letter_alone line w.if-line-gt1.true w.if-line-ne-SPACE.false
      | else-line-gt1-via-else-line-gt1 w ↦ one_byte line (omega (arith, w.if-line-gt1.false, some))
    ] in
    c.plain_line.ensures ∙ sym (ap read_as alone)
