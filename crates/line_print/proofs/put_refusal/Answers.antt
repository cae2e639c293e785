-- `line_print::put_refusal` meets its contract. Assumes nothing.
use native.Mathlib.Omega.{arith}
use Rattle.line_print.proofs.PutLaws.{short_then, exactly, within}
use Rattle.line_print.proofs.put_refusal.Goals as goal

pub returns : goal.returns
returns c = within (omega arith)
    (short_then c.put_refused-end.ensures
    (exactly c.put_end.ensures))
