-- `hub_turn::next_turn` meets its contract. Assumes nothing.
use Rattle.hub_turn.proofs.TurnLaws.{device-read, condition-read, goes_on, waits}
use Rattle.hub_turn.proofs.next_turn.Goals as goal

pub returns-in-None : goal.returns-in-None
returns-in-None c = let h = c.args.state.rows in
    let k = c.args.k in
    goes_on h c.args.at k c.requires.0 c.requires.1 _ (device-read h k _ c.requires.3.device_is) _
    (condition-read h k _ c.requires.3.tag_is) _ c.first_holder.ensures _
    c.in-None.is c.go_on.ensures

pub returns-in-Some : goal.returns-in-Some
returns-in-Some c = let h = c.args.state.rows in
    let k = c.args.k in
    waits h c.args.at k c.requires.0 c.requires.1 _ (device-read h k _ c.requires.3.device_is) _
    (condition-read h k _ c.requires.3.tag_is) _ c.first_holder.ensures _ _ _
    c.requires.2
    c.in-Some.is c.plain.ensures
