-- `line_print::text::put_two` meets its contract. Assumes nothing.
use native.Mathlib.Omega.{arith}
use Rattle.line_rules.proofs.TextLaws.{decimal-short}
use Rattle.line_print.proofs.PutLaws.{short_then, exactly, reaches}
use Rattle.line_print.proofs.text.put_two.Goals as goal

pub put_number-requires : goal.put_number-requires
put_number-requires c = omega (arith, reaches c.put_one-named.ensures, c.put_word-from.ensures.ends, decimal-short 20 c.args.m (omega arith) (omega arith))

pub returns : goal.returns
returns c = short_then (short_then c.put_one-named.ensures (exactly c.put_word-from.ensures))
    (record { put = c.put_number.ensures; short = decimal-short 20 c.args.m (omega arith) (omega arith) })
