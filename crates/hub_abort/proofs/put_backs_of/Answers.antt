-- `hub_abort::put_backs_of` meets its contract. Assumes nothing.
use Rattle.hub_abort.proofs.PutBackLaws.{backs_are_by}
use Rattle.hub_abort.proofs.put_backs_of.Goals as goal

pub returns : goal.returns
returns c = let a = c.args in
    backs_are_by a.state.rows a.at a.down c.tables_of-tables.result c.tables_of-tables.ensures _ c.put_backs.ensures
