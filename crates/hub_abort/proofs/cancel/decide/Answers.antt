-- `hub_abort::cancel::decide` meets its contract. Assumes nothing.
use Rattle.hub_abort.proofs.PutBackLaws.{cancel_nowhere, cancel_aborts}
use Rattle.hub_abort.proofs.cancel.decide.Goals as goal

pub returns-in_default : goal.returns-in_default
returns-in_default c = let a = c.args in
    cancel_nowhere a.state.rows a.id c.running.result c.running.ensures _ c.refused.ensures c.in_default.is

pub returns : goal.returns
returns c = let a = c.args in
    cancel_aborts a.state.rows a.id c.running.result c.running.ensures _ _ c.plain.ensures c.in-Some.is
