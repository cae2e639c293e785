-- `hub_search::must_left` meets its contract. Assumes nothing.
use Rattle.hub_search.proofs.SearchLaws.{must-is}
use Rattle.hub_search.proofs.must_left.Goals as goal

pub returns : goal.returns
returns c = must-is _ c.args.state.ok _ c.requires _ c.any_must.ensures
