-- `hub::opening::new_hub` meets its contract. Assumes nothing.
use native.Mathlib.Omega.{arith}
use Rattle.hub.proofs.CallLaws.{rests_as}
use Rattle.hub.proofs.OpenLaws.{fresh-valid, fresh-view, new_rests}
use Rattle.hub.proofs.opening.new_hub.Goals as goal

pub returns : goal.returns
returns c = let e = c.empty-links.ensures in
    let f = c.ranges.first_id in
    let v = fresh-view _ _ _ _ e in
    (rests_as _ (fresh-valid _ _ _ _ c.requires.0 c.requires.1 (omega (arith, f)) e) v (new_rests _ _ _), v)
