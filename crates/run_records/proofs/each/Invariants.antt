-- `run_records::each` is safe and ends: with each record less is left. Assumes nothing.
use Rattle.std.proofs.Common.{length}
use Rattle.run_records.proofs.each.Given as goal

abbrev pub decreases-loop-rest : goal.decreases-loop-rest
decreases-loop-rest g l = length l.rest
