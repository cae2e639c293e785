-- `line_print::words::put_aborted` meets its contract. Assumes nothing.
use native.Mathlib.Omega.{arith}
use Rattle.line_rules.specs.Printing.{answer_text}
use Rattle.line_print.proofs.PutLaws.{short_then, within}
use Rattle.line_print.proofs.words.put_aborted.Goals as goal

pub returns : goal.returns
unfolding answer_text
returns c = within (omega arith)
    (short_then c.put_one-named.ensures c.put_backs.ensures)
