-- `hub_sequence::link::with_link` meets its contract. Assumes nothing.
use mathlib.Core.Path.{sym}
use Rattle.hub_sequence.proofs.Tables.{row_none, row_slot}
use Rattle.hub_sequence.proofs.link.with_link.Goals as goal

pub returns-then-at-ne-NONE : goal.returns-then-at-ne-NONE
returns-then-at-ne-NONE c = sym (row_slot _ _ _ c.if-at-ne-NONE.true)

pub returns-else-at-ne-NONE : goal.returns-else-at-ne-NONE
returns-else-at-ne-NONE c = sym (row_none _ _ _ c.if-at-ne-NONE.false)
