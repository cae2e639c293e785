-- `line_print::put_answer` meets its contract. Assumes nothing.
use Rattle.line_print.proofs.PutLaws.{short_then, exactly}
use Rattle.line_print.proofs.put_answer.Goals as goal

pub returns : goal.returns
returns c = short_then c.put_words-end.ensures (exactly c.put_end.ensures)
