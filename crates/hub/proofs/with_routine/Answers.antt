-- `hub::with_routine` meets its contract. Assumes nothing.
use Rattle.hub.proofs.CallLaws.{place_moves, decided_ok}
use Rattle.hub.proofs.with_routine.Goals as goal

pub returns : goal.returns
returns c = let w = c.with_routine-state.ensures in
    let place = (decided_ok c.requires.1).place in
    (w.valid, w.gives, place_moves c.args.hub.state.rows c.with_routine-state.result.rows c.requires.0.in_order place w)
