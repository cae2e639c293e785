-- `hub_submit::id_in` meets its contract. Assumes nothing.
use Rattle.hub_submit.proofs.SubmitLaws.{slot_below, id-slot}
use Rattle.hub_submit.proofs.id_in.Goals as goal

pub bounds-ids-i : goal.bounds-ids-i
bounds-ids-i c = slot_below c.args.state.rows c.args.slot c.if-slot-eq-NONE.false c.requires c.args.state.ok

pub returns : goal.returns
returns c = id-slot c.args.state.rows c.args.slot c.if-slot-eq-NONE.false c.requires
