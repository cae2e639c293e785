-- `hub_turn::is_skipped` meets its contract. Assumes nothing.
use Rattle.hub_turn.proofs.TurnLaws.{none_before, before-command, before-held, before-condition}
use Rattle.hub_turn.proofs.is_skipped.Goals as goal

pub returns-then-k-from : goal.returns-then-k-from
returns-then-k-from c = none_before _ _ _ _ c.if-k-from.true

pub returns-then-tag-before-ne-CONDITION : goal.returns-then-tag-before-ne-CONDITION
returns-then-tag-before-ne-CONDITION c = before-command _ _ _ _ c.if-tag-before-ne-CONDITION.true

pub returns-then-stage-before-eq-HELD : goal.returns-then-stage-before-eq-HELD
returns-then-stage-before-eq-HELD c = before-held _ _ _ _ c.if-stage-before-eq-HELD.true

pub returns : goal.returns
returns c = before-condition _ _ _ _ c.if-k-from.false c.if-tag-before-ne-CONDITION.false c.if-stage-before-eq-HELD.false
