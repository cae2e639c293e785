-- `line_parts::whole::whole_length` meets its contract: no byte 10 lies behind the place. Assumes nothing.
use lib.ListN.{drop}
use Rattle.line_parts.proofs.PartLaws.{NoEnd}
use Rattle.line_parts.proofs.whole.whole_length.Given as goal

abbrev pub invariant-loop-at : goal.invariant-loop-at
invariant-loop-at l = NoEnd (drop l.at l.bytes)
