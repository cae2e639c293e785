-- `hub_abort::own_flights` meets its contract. Assumes nothing.
use Rattle.hub_abort.proofs.PutBackLaws.{own_none, own_device, own_one}
use Rattle.hub_abort.proofs.own_flights.Goals as goal

pub returns-in_default : goal.returns-in_default
returns-in_default c =
    own_none c.args.state.rows c.args.at c.args.state.ok c.requires c.unanswered_at-open.result c.unanswered_at-open.ensures
    c.in_default.not-InFlight

pub bounds-own-d : goal.bounds-own-d
bounds-own-d c = own_device c.args.state.rows c.args.at c.args.state.ok c.requires _ _ c.in-InFlight.is c.unanswered_at-open.ensures

pub returns : goal.returns
returns c = own_one c.args.state.rows c.args.at c.args.state.ok c.requires _ _ c.in-InFlight.is c.unanswered_at-open.ensures
