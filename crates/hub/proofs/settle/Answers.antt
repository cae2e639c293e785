-- `hub::settle` meets its contract. Assumes nothing.
use Rattle.hub.proofs.CallLaws.{settled_rests, rests_as}
use Rattle.hub.proofs.settle.Goals as goal

pub returns : goal.returns
returns c = let w = c.settle-state.ensures in
    let e = rests_as _ w.valid w.gives (settled_rests _) in
    (e, w.gives, record { only_leave = w.only_leave; left_committed = w.left_committed })
