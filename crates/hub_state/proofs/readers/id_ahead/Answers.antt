-- `hub_state::id_ahead` meets its contract. Assumes nothing.
use Rattle.hub_state.proofs.Members.{id_in_row, id-not_in_row}
use Rattle.hub_state.proofs.readers.id_ahead.Goals as goal

pub returns-then-before-lt-MAX_SEQUENCE : goal.returns-then-before-lt-MAX_SEQUENCE
returns-then-before-lt-MAX_SEQUENCE c = id_in_row _ _ c.args.state.ok c.requires c.if-before-lt-MAX_SEQUENCE.true

pub returns : goal.returns
returns c = id-not_in_row _ _ c.args.state.ok c.requires c.if-before-lt-MAX_SEQUENCE.false
