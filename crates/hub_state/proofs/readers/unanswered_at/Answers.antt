-- `hub_state::unanswered_at` meets its contract. Assumes nothing.
use Rattle.hub_state.proofs.UnansweredLaws.{none_open, to_do_in_row, sent_in_row}
use Rattle.hub_state.proofs.readers.unanswered_at.Goals as goal

pub returns-then-counts-at : goal.returns-then-counts-at
returns-then-counts-at c = none_open _ _ c.args.state.ok c.requires.0 c.if-counts-at.true

pub returns-then-stage-k-eq-IN_FLIGHT : goal.returns-then-stage-k-eq-IN_FLIGHT
returns-then-stage-k-eq-IN_FLIGHT c =
    sent_in_row _ _ c.args.state.ok c.requires.0 _ c.requires.1 c.if-counts-at.false c.if-stage-k-eq-IN_FLIGHT.true

pub returns : goal.returns
returns c = to_do_in_row _ _ c.args.state.ok c.requires.0 _ c.requires.1 c.if-counts-at.false c.if-stage-k-eq-IN_FLIGHT.false
