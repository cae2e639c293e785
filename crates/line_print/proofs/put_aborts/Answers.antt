-- `line_print::put_aborts` meets its contract. Assumes nothing.
use Rattle.line_print.proofs.PutLaws.{put_own, put_both}
use Rattle.line_print.proofs.put_aborts.Goals as goal

pub returns-in_default : goal.returns-in_default
returns-in_default c = put_own c.args.answer c.args.backs _ c.in_default.is c.in-Aborted.is c.put_abort.ensures

pub returns : goal.returns
returns c = put_both c.args.answer c.args.backs _ c.in-Some.is c.requires.2 c.put_abort-behind.ensures c.put_answer-2.ensures
