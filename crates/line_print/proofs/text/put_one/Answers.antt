-- `line_print::text::put_one` meets its contract. Assumes nothing.
use native.Mathlib.Omega.{arith}
use Rattle.line_rules.proofs.TextLaws.{decimal-short}
use Rattle.line_print.proofs.PutLaws.{short_then, exactly}
use Rattle.line_print.proofs.text.put_one.Goals as goal

pub put_number-requires : goal.put_number-requires
put_number-requires c = omega (arith, c.put_word-from.ensures.ends, decimal-short 20 c.args.n (omega arith) (omega arith))

pub returns : goal.returns
returns c = short_then (exactly c.put_word-from.ensures)
    (record { put = c.put_number.ensures; short = decimal-short 20 c.args.n (omega arith) (omega arith) })
