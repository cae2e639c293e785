-- `hub::with_abort` meets its contract. Assumes nothing.
use Rattle.hub_settle.proofs.LeaveLaws.{leaves-unmoved}
use Rattle.hub.proofs.CallLaws.{leave_moves, decided_ok}
use Rattle.hub.proofs.with_abort.Goals as goal

pub returns : goal.returns
returns c = let w = c.leave-state.ensures in
    let only = leaves-unmoved _ _ _ c.requires.0.in_order (decided_ok c.requires.1.1) w in
    (w.valid, w.gives, leave_moves c.args.hub.state.rows c.leave-state.result.rows only)
