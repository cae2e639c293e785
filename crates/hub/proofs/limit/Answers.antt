-- `hub::limit` meets its contract. Assumes nothing.
use Rattle.std.proofs.Common.{subst}
use Rattle.hub_limit.specs.Contract.{Limits}
use Rattle.hub.proofs.LimitLaws.{limits_hub}
use Rattle.hub.proofs.limit.Goals as goal

pub returns-in-Ok : goal.returns-in-Ok
returns-in-Ok c = let b = c.none-put_backs.ensures in
    limits_hub _ _ _ c.requires b.1 _ (subst (Limits _ _) c.in-Ok.is c.set_limit.ensures)
