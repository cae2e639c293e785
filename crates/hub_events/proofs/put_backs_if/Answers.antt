-- `hub_events::put_backs_if` meets its contract. Assumes nothing.
use Rattle.hub_events.proofs.EventLaws.{one_backs, skip_backs, none_backs}
use Rattle.hub_events.proofs.put_backs_if.Goals.{in-Some+else-must_left, in_default}
use Rattle.hub_events.proofs.put_backs_if.Goals as goal

pub returns-then-must_left : goal.returns-then-must_left
returns-then-must_left c = let a = c.args in
    one_backs a.state.rows a.slot a.device _ c.put_backs_of.result _ c.in-Some.is c.must_left.result c.must_left.ensures c.if-must_left.true
    c.put_backs_of.ensures

pub returns : goal.returns
returns c = let a = c.args in
    let n = c.none in
    (elim c.match-slot.branch [
      | in-Some+else-must_left w ↦ skip_backs a.state.rows a.slot a.device _ n.result _ w.in-Some.is w.must_left.result w.must_left.ensures
          w.if-must_left.false n.ensures.1
      | in_default w ↦ none_backs a.state.rows a.slot a.device _ n.result w.in_default.is n.ensures.1
    ])
