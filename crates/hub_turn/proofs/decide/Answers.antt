-- `hub_turn::decide` meets its contract. Assumes nothing.
use mathlib.Core.Path.{refl, subst}
use Rattle.hub_state.specs.Unanswered.{NextToDo, UnansweredIs}
use Rattle.hub_search.proofs.Found.{stands_at, found-id}
use Rattle.hub_turn.proofs.TurnLaws.{turn_nowhere, turn-sent, turn_commits, turn_on}
use Rattle.hub_turn.proofs.decide.Goals.{In-ToDo}
use Rattle.hub_turn.proofs.decide.Goals as goal

pub returns-in_default : goal.returns-in_default
returns-in_default c = turn_nowhere c.args.state.rows c.args.id _ c.running.ensures _ c.in_default.is c.refused.ensures

pub unanswered_at-open-requires : goal.unanswered_at-open-requires
unanswered_at-open-requires c = (stands_at _ _ _ c.running.ensures _ c.in-Some.is, refl)

-- the next command of the routine that was found
opened : (c : In-ToDo) →
    NextToDo c.args.state.rows c.in-Some.at c.in-ToDo.k
opened c = subst (UnansweredIs _ _) c.in-ToDo.is c.unanswered_at-open.ensures

pub next_turn-requires : goal.next_turn-requires
next_turn-requires c = let f = c.running.ensures in
    let e = c.in-Some.is in (
      stands_at _ _ _ f _ e,
      opened (goal.at.next_turn-requires c).In-ToDo,
      found-id _ _ _ f _ e,
      record { device_is = refl; tag_is = refl; stage_is = refl },
    )

pub returns-in-Nothing : goal.returns-in-Nothing
returns-in-Nothing c = turn_commits c.args.state.rows c.args.id _ c.running.ensures _ _ c.in-Some.is
    (subst (UnansweredIs _ _) c.in-Nothing.is c.unanswered_at-open.ensures) c.plain.ensures

pub returns-in-InFlight : goal.returns-in-InFlight
returns-in-InFlight c = turn-sent c.args.state.rows c.args.id _ c.running.ensures _ _ c.in-Some.is _
    (subst (UnansweredIs _ _) c.in-InFlight.is c.unanswered_at-open.ensures) c.refused-in-InFlight.ensures

pub returns-in-ToDo : goal.returns-in-ToDo
returns-in-ToDo c = turn_on c.args.state.rows c.args.id _ c.running.ensures _ _ c.in-Some.is _
    (opened (goal.at.returns-in-ToDo c).In-ToDo) c.next_turn.ensures
