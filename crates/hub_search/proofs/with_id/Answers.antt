-- `hub_search::with_id` meets its contract. The loop seeks along the links. Assumes nothing.
use Rattle.hub_sequence.proofs.ReadLaws.{walks-behind}
use Rattle.hub_search.proofs.Slots.{seeks_start, seeks_on, seeks_less}
use Rattle.hub_search.proofs.SearchLaws.{id_other, id_at, id_nowhere}
use Rattle.hub_search.proofs.with_id.Goals as goal

pub loop-i-init : goal.loop-i-init
loop-i-init c = seeks_start _ _ _ (walks-behind _ c.args.state.ok.links_ok)

pub returns-then-ids-i : goal.returns-then-ids-i
returns-then-ids-i c = id_at _ c.args.state.ok _ c.loop-i.invariant c.loop-i-test.true c.if-ids-i.true

pub loop-i-smaller : goal.loop-i-smaller
loop-i-smaller c = seeks_less c.loop-i.invariant c.loop-i-test.true

pub loop-i-preserved : goal.loop-i-preserved
loop-i-preserved c = seeks_on c.loop-i.invariant c.loop-i-test.true (id_other _ _ _ c.if-ids-i.false)

pub returns : goal.returns
returns c = id_nowhere _ c.args.state.ok _ c.loop-i.invariant c.loop-i-test.false
