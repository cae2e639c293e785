-- `hub::open` meets its contract. Assumes nothing.
use mathlib.Core.Path.{sym, ◌∙◌}
use Rattle.hub.proofs.OpenLaws.{open_fits, opens, opens_not}
use Rattle.hub.proofs.open.Goals as goal

pub returns-in-Err : goal.returns-in-Err
returns-in-Err c = opens_not _ _ _ _ _ c.check-verdict.ensures c.in-Err.is c.closed-hub.ensures.0 c.closed-hub.ensures.1

pub new_hub-hub-requires : goal.new_hub-hub-requires
new_hub-hub-requires c = open_fits _ _ _ (sym c.check-verdict.ensures ∙ c.in-Ok.is)

pub returns-in-Ok : goal.returns-in-Ok
returns-in-Ok c = opens _ _ _ _ c.check-verdict.ensures c.in-Ok.is c.new_hub-hub.ensures.0 c.new_hub-hub.ensures.1
