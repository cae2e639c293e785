-- `hub::with_stage` meets its contract. Assumes nothing.
use Rattle.hub.proofs.CallLaws.{stay_moves}
use Rattle.hub.proofs.with_stage.Goals as goal

pub returns : goal.returns
returns c = let w = c.with_stage-state.ensures in
    (w.0, w.1, stay_moves c.args.hub.state.rows c.with_stage-state.result.rows c.requires.0.in_order w.2)
