-- `line_print::words::put_at_most_one` meets its contract. Assumes nothing.
use Rattle.hub_answers.specs.declared.PutBack.{PutBack}
use Rattle.std.proofs.Common.{Option}
use mathlib.Core.Path.{sym, ap}
use native.Mathlib.Omega.{arith}
use Rattle.hub_answers.specs.View.{one_of}
use Rattle.line_rules.specs.Text.{digits, decimal}
use Rattle.line_rules.specs.Printing.{back_list, back_text}
use Rattle.line_print.proofs.PutLaws.{exactly, within, as_text}
use Rattle.line_print.proofs.words.put_at_most_one.Goals as goal

pub returns-in-None : goal.returns-in-None
unfolding back_list back_text decimal digits
returns-in-None c = as_text (ap (λ (b : Option PutBack). back_text (one_of b)) (sym c.in-None.is))
    (within (omega arith) (exactly c.put_word.ensures))
