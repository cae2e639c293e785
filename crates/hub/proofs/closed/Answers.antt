-- `hub::closed` meets its contract. Assumes nothing.
use Rattle.hub.proofs.OpenLaws.{stays_closed}
use Rattle.hub.proofs.closed.Goals as goal

pub returns : goal.returns
returns c = let e = c.new_hub.ensures in
    (e.0, e.1, stays_closed c.new_hub.result e.1)
