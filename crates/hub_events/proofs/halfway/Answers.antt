-- `hub_events::halfway` meets its contract. Assumes nothing.
use borrow.Author.Tests.{not-true, not-false}
use Rattle.hub_events.proofs.EventLaws.{halfway_none, halfway_skips, halfway_other, halfway_marked}
use Rattle.hub_events.proofs.halfway.Goals as goal

pub returns-in_default : goal.returns-in_default
returns-in_default c = let a = c.args in
    halfway_none a.state.rows a.device c.halfway-slot.result c.halfway-slot.ensures c.in_default.is

pub returns-then-not-must_left : goal.returns-then-not-must_left
returns-then-not-must_left c = let t = c.must_left.result in
    halfway_skips c.args.state.rows c.args.device c.halfway-slot.result c.halfway-slot.ensures c.args.state.ok c.in-Some.at
    c.in-Some.is
    t c.must_left.ensures (not-true t c.if-not-must_left.true-raw)

pub returns-then-mark-id : goal.returns-then-mark-id
returns-then-mark-id c = let t = c.must_left.result in
    halfway_other c.args.state.rows c.args.device c.halfway-slot.result c.halfway-slot.ensures c.args.state.ok c.in-Some.at
    c.in-Some.is
    t c.must_left.ensures (not-false t c.if-not-must_left.false-raw) c.if-mark-id.true

pub returns : goal.returns
returns c = let t = c.must_left.result in
    halfway_marked c.args.state.rows c.args.device c.halfway-slot.result c.halfway-slot.ensures c.args.state.ok c.in-Some.at
    c.in-Some.is
    t c.must_left.ensures (not-false t c.if-not-must_left.false-raw) c.id_ahead-before.result c.id_ahead-before.ensures c.if-mark-id.false
