-- `hub_search::running` meets its contract. The loop seeks along the links. Assumes nothing.
use Rattle.hub_sequence.proofs.ReadLaws.{walks-behind}
use Rattle.hub_search.proofs.Slots.{seeks_start, seeks_on, seeks_less}
use Rattle.hub_search.proofs.SearchLaws.{runs_other, runs-committed, running_at, running_nowhere}
use Rattle.hub_search.proofs.running.Goals.{else-ids-i-via-else-ids-i, else-ids-i-via-then-ids-i+else-not-committed-i}
use Rattle.hub_search.proofs.running.Goals as goal

pub loop-i-init : goal.loop-i-init
loop-i-init c = seeks_start _ _ _ (walks-behind _ c.args.state.ok.links_ok)

pub returns-then-not-committed-i : goal.returns-then-not-committed-i
returns-then-not-committed-i c = running_at _ c.args.state.ok _ c.loop-i.invariant c.loop-i-test.true
    c.if-ids-i.true
    c.if-not-committed-i.true-raw

pub loop-i-smaller : goal.loop-i-smaller
loop-i-smaller c = seeks_less c.loop-i.invariant c.loop-i-test.true

pub loop-i-preserved : goal.loop-i-preserved
loop-i-preserved c = seeks_on c.loop-i.invariant c.loop-i-test.true
    (elim c.else-ids-i.branch [
      | else-ids-i-via-then-ids-i+else-not-committed-i w ↦ runs-committed _ _ _ _ w.if-not-committed-i.false-raw
      | else-ids-i-via-else-ids-i w ↦ runs_other _ _ _ _ w.if-ids-i.false
    ])

pub returns : goal.returns
returns c = running_nowhere _ c.args.state.ok _ c.loop-i.invariant c.loop-i-test.false
