-- `hub::fail` meets its contract. Assumes nothing.
use Rattle.rules.specs.Answers.{failure}
use Rattle.hub.proofs.CallLaws.{decided_none, gives_none}
use Rattle.hub.proofs.fail.Goals as goal

pub carried_out-requires : goal.carried_out-requires
carried_out-requires c = (c.requires, decided_none (failure _) _ tt c.empty-routine.ensures c.decide_failure-decision.ensures)

pub returns : goal.returns
returns c = gives_none c.empty-routine.result c.empty-routine.ensures c.decide_failure-decision.ensures c.carried_out.ensures
