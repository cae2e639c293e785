-- `hub_submit::place` meets its contract. Assumes nothing.
use borrow.Author.Rules.{rules}
use Prim.Native.Nat.{◌≤◌}
use native.Mathlib.Omega.{arith}
use Rattle.rules_routine.specs.Routine.{commands_of}
use Rattle.rules_routine.proofs.RoutineLaws.{length-commands_of}
use Rattle.hub_state.specs.Valid.{highest_passed}
use Rattle.hub_submit.proofs.SubmitLaws.{fine_routine, fine_id, submit_places}
use Rattle.hub_submit.proofs.place.Goals.{Start}
use Rattle.hub_submit.proofs.place.Goals as goal

-- the pass limit is one of 8 bits
narrow : (c : Start) → c.args.state.rows.pass_limit ≤ highest_passed
narrow c = search rules

pub latest-latest-requires : goal.latest-latest-requires
latest-latest-requires c = let f = fine_routine c.args.state.rows (commands_of c.args.routine) c.requires c.args.state.ok in
    let n = length-commands_of c.args.routine in
    (omega (arith, f.0, n), f.1)

pub overflow_cast-answer : goal.overflow_cast-answer
overflow_cast-answer c = let f = fine_id c.args.state.rows (commands_of c.args.routine) c.requires c.args.state.ok in
    search rules

pub returns : goal.returns
returns c = submit_places c.args.state.rows (commands_of c.args.routine) _ _ c.requires c.args.state.ok c.latest-latest.ensures
    (narrow (goal.at.returns c).Start) _
    c.id_in-after.ensures c.plain.ensures
