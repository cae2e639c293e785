-- `hub::report` meets its contract. Assumes nothing.
use Rattle.rules.specs.Answers.{report}
use Rattle.hub.proofs.CallLaws.{decided_none, gives_none}
use Rattle.hub.proofs.report.Goals as goal

pub carried_out-requires : goal.carried_out-requires
carried_out-requires c = (c.requires, decided_none (report _ _) _ tt c.empty-routine.ensures c.decide_report-decision.ensures)

pub returns : goal.returns
returns c = gives_none c.empty-routine.result c.empty-routine.ensures c.decide_report-decision.ensures c.carried_out.ensures
