-- `line_print::words::put_refused` meets its contract. Assumes nothing.
use mathlib.Core.Path.{sym, ap₂, ◌∙◌}
use mathlib.Core.List.{List, ◌++◌, append-nil, append_assoc}
use Prim.Native.Nat.{ℕ}
use Rattle.std.proofs.Common.{Option}
use native.Mathlib.Omega.{arith}
use Rattle.line_rules.specs.Text.{bytes, decimal}
use Rattle.line_rules.specs.Printing.{refusal_text, index_text}
use Rattle.line_print.proofs.PutLaws.{within, as_text}
use Rattle.line_print.proofs.words.put_refused.Goals as goal

abbrev said : ℕ → Option ℕ → List ℕ
said n i = bytes "refused " ++ decimal n ++ index_text i

pub returns-in-None : goal.returns-in-None
unfolding refusal_text index_text
returns-in-None c =
    within (omega arith)
    (as_text
    (sym (append-nil (bytes "refused " ++ decimal c.number-number.result))
    ∙ ap₂ said c.number-number.ensures (sym c.in-None.is ∙ c.index.ensures))
    c.put_one.ensures)

pub returns-in-Some : goal.returns-in-Some
unfolding refusal_text index_text
returns-in-Some c =
    within (omega arith)
    (as_text
    (append_assoc (bytes "refused " ++ decimal c.number-number.result) (bytes " ") (decimal c.in-Some.index)
    ∙ ap₂ said c.number-number.ensures (sym c.in-Some.is ∙ c.index.ensures))
    c.put_two.ensures)
