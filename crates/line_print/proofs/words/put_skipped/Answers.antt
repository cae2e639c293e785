-- `line_print::words::put_skipped` meets its contract. Assumes nothing.
use Rattle.hub_answers.specs.declared.PutBack.{PutBack}
use Rattle.std.proofs.Common.{Option}
use mathlib.Core.Path.{sym, ap, ◌∙◌}
use mathlib.Core.List.{◌++◌, append-nil}
use native.Mathlib.Omega.{arith}
use Rattle.rules.specs.Answers.{skipped}
use Rattle.hub_answers.specs.View.{one_of}
use Rattle.line_rules.specs.Text.{bytes, decimal}
use Rattle.line_rules.specs.Printing.{back_if_any, answer_text}
use Rattle.line_print.proofs.PutLaws.{short_then, within, as_text}
use Rattle.line_print.proofs.words.put_skipped.Goals as goal

pub returns-in-None : goal.returns-in-None
unfolding answer_text back_if_any
returns-in-None c = let i = c.args.id in
    as_text
    (sym (append-nil (bytes "skipped " ++ decimal i))
    ∙ ap (λ (b : Option PutBack). answer_text (skipped i (one_of b))) (sym c.in-None.is))
    (within (omega arith) c.put_one-named.ensures)

pub returns-in-Some : goal.returns-in-Some
unfolding answer_text back_if_any
returns-in-Some c = let i = c.args.id in
    as_text (ap (λ (b : Option PutBack). answer_text (skipped i (one_of b))) (sym c.in-Some.is))
    (within (omega arith) (short_then c.put_one-named.ensures c.put_one_back.ensures))
