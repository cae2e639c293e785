-- `line_read::read_line` meets its contract. Assumes nothing.
use mathlib.Core.Path.{sym, ap, ◌∙◌}
use native.Mathlib.Omega.{arith}
use Rattle.line_rules.proofs.Parts.{long_unread}
use Rattle.line_read.specs.View.{read_as}
use Rattle.line_read.proofs.Forms.{line-short}
use Rattle.line_read.proofs.read_line.Goals as goal

pub returns-then-line-gt-MAX_LINE : goal.returns-then-line-gt-MAX_LINE
returns-then-line-gt-MAX_LINE c = sym (ap read_as (long_unread c.args.line.now (omega arith)))

pub returns : goal.returns
returns c = c.unwrap_or.ensures ∙ c.by_letter.ensures ∙ sym (ap read_as (line-short c.args.line.now (omega arith)))
