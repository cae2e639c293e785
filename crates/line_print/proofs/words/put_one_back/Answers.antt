-- `line_print::words::put_one_back` meets its contract. Assumes nothing.
use native.Mathlib.Omega.{arith}
use Rattle.line_rules.specs.Text.{digits, decimal}
use Rattle.line_rules.specs.Printing.{back_text}
use Rattle.line_print.proofs.PutLaws.{short_then, exactly, within}
use Rattle.line_print.proofs.words.put_one_back.Goals as goal

pub returns : goal.returns
unfolding back_text decimal digits
returns c = within (omega arith)
    (short_then (exactly c.put_word-counted.ensures) c.put_back.ensures)
