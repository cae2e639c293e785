-- `hub_search::counting_tag` meets its contract. Assumes nothing.
use Rattle.hub_search.proofs.Commands.{counting_next, counting_last, counting_own}
use Rattle.hub_search.proofs.counting_tag.Goals.{else-tag-k-eq-CONDITION-via-else-tag-k-eq-CONDITION}
use Rattle.hub_search.proofs.counting_tag.Goals.{else-tag-k-eq-CONDITION-via-then-tag-k-eq-CONDITION+else-k-end}
use Rattle.hub_search.proofs.counting_tag.Goals as goal

pub returns-then-k-end : goal.returns-then-k-end
returns-then-k-end c = counting_next c.args.tag.now _ _ c.if-tag-k-eq-CONDITION.true c.if-k-end.true

pub returns : goal.returns
returns c = let t = c.args.tag.now in
    (elim c.else-tag-k-eq-CONDITION.branch [
      | else-tag-k-eq-CONDITION-via-then-tag-k-eq-CONDITION+else-k-end w ↦ counting_last t _ _ w.if-k-end.false
      | else-tag-k-eq-CONDITION-via-else-tag-k-eq-CONDITION w ↦ counting_own t _ _ w.if-tag-k-eq-CONDITION.false
    ])
