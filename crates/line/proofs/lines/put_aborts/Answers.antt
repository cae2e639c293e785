-- `line::lines::put_aborts` meets its contract. Assumes nothing.
use Rattle.line.proofs.Told.{backs_once, put_left}
use Rattle.line.proofs.lines.put_aborts.Goals as goal

pub put_aborts-requires : goal.put_aborts-requires
put_aborts-requires c = let d = c.args.decision in (
  c.requires.2,
  c.put_backs-backs.ensures.0,
  backs_once d.first d.answer d.change _ c.requires.1.1.decides.well_told c.requires.3,
)

pub returns : goal.returns
returns c = let a = c.args in
    put_left a.hub.state.rows a.decision c.put_backs-backs.result c.put_backs-backs.ensures.1 c.put_aborts.ensures
