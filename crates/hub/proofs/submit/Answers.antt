-- `hub::submit` meets its contract. Assumes nothing.
use Rattle.rules.specs.Answers.{submit}
use Rattle.hub.proofs.submit.Goals as goal

pub carried_out-requires : goal.carried_out-requires
carried_out-requires c = (c.requires, record { call = submit _; no_limit = tt; decides = c.decide_submit-decision.ensures })
