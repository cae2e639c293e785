-- `hub_events::with_failure` meets its contract. Assumes nothing.
use Rattle.hub_events.proofs.EventLaws.{one-leaves, one_skips, none_stops, stands-down, failure_stops}
use Rattle.hub_events.proofs.with_failure.Goals as goal

pub returns-then-must_left : goal.returns-then-must_left
returns-then-must_left c = let u = c.with_up-next in
    let a = c.args in
    failure_stops a.state.rows u.result.rows a.device a.slot c.args.state.ok u.ensures.1 u.ensures.2 u.ensures.3
    c.leave-next.result.rows
    (one-leaves u.result.rows a.slot a.device _ c.in-Some.is c.must_left.result c.must_left.ensures u.ensures.0
    (stands-down a.state.rows u.result.rows a.slot u.ensures.2 c.requires.1) c.if-must_left.true c.leave-next.result.rows
    c.leave-next.ensures)

pub returns-else-must_left : goal.returns-else-must_left
returns-else-must_left c = let u = c.with_up-next in
    let a = c.args in
    failure_stops a.state.rows u.result.rows a.device a.slot c.args.state.ok u.ensures.1 u.ensures.2 u.ensures.3
    c.with_skips-next.result.rows
    (one_skips u.result.rows a.slot a.device _ c.in-Some.is c.must_left.result c.must_left.ensures u.ensures.0
    c.if-must_left.false c.with_skips-next.result.rows c.with_skips-next.ensures)

pub returns-in_default : goal.returns-in_default
returns-in_default c = let u = c.with_up-next in
    let a = c.args in
    failure_stops a.state.rows u.result.rows a.device a.slot c.args.state.ok u.ensures.1 u.ensures.2 u.ensures.3 u.result.rows
    (none_stops u.result.rows a.slot a.device u.ensures.0 c.in_default.is)
