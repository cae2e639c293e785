-- `hub_sequence::link::link_of` meets its contract. Assumes nothing.
use mathlib.Core.Path.{sym}
use Rattle.hub_sequence.proofs.Tables.{link_end, link_row}
use Rattle.hub_sequence.proofs.link.link_of.Goals as goal

pub returns-then-at-eq-NONE : goal.returns-then-at-eq-NONE
returns-then-at-eq-NONE c = sym (link_end _ _ _ c.if-at-eq-NONE.true)

pub returns : goal.returns
returns c = sym (link_row _ _ _ c.if-at-eq-NONE.false)
