-- `hub_sequence::link::end_with` meets its contract. Assumes nothing.
use mathlib.Core.Path.{sym}
use Rattle.hub_sequence.proofs.Tables.{end_none, end_slot}
use Rattle.hub_sequence.proofs.link.end_with.Goals as goal

pub returns-then-at-eq-NONE : goal.returns-then-at-eq-NONE
returns-then-at-eq-NONE c = sym (end_none _ _ _ c.if-at-eq-NONE.true)

pub returns : goal.returns
returns c = sym (end_slot _ _ _ c.if-at-eq-NONE.false)
