-- `line_read::calls::plain_line` meets its contract. Assumes nothing.
use mathlib.Core.Path.{sym, ap, ◌∙◌}
use mathlib.Core.Logic.{◌≢◌}
use borrow.Author.Rules.{rules}
use Rattle.line_read.specs.View.{read_as}
use Rattle.line_read.proofs.Forms.{letter_open, letter_fail, letter_restart, letter_other}
use Rattle.line_read.proofs.calls.plain_line.Goals as goal

pub returns-in-79 : goal.returns-in-79
returns-in-79 c = c.unwrap_or.ensures ∙ c.open_line.ensures ∙ sym (ap read_as (letter_open _ _ c.in-79.is))

pub returns-in-70 : goal.returns-in-70
returns-in-70 c = c.unwrap_or-in-70.ensures ∙ c.fail_line.ensures ∙ sym (ap read_as (letter_fail _ _ c.in-70.is))

pub returns-in-82 : goal.returns-in-82
returns-in-82 c = c.unwrap_or-in-82.ensures ∙ c.restart_line.ensures ∙ sym (ap read_as (letter_restart _ _ c.in-82.is))

pub returns-in_default : goal.returns-in_default
returns-in_default c =
    let o : c.args.letter ≢ 79 = search rules in
    let f : c.args.letter ≢ 70 = search rules in
    let r : c.args.letter ≢ 82 = search rules in
    c.unwrap_or-in_default.ensures ∙ c.id_line.ensures ∙ sym (ap read_as (letter_other _ _ o c.requires f r))
