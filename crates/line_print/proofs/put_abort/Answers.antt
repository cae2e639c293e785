-- `line_print::put_abort` meets its contract. Assumes nothing.
use Rattle.line_print.proofs.PutLaws.{short_then, exactly}
use Rattle.line_print.proofs.put_abort.Goals as goal

pub returns : goal.returns
returns c = short_then c.put_aborted-end.ensures (exactly c.put_end.ensures)
