-- `hub::restart` meets its contract. Assumes nothing.
use mathlib.Core.Path.{◌≡◌, subst}
use mathlib.Core.List.{[]}
use lib.IntN.{ℤ}
use mir.Val.{to_z, of_z}
use mir.Syntax.{w16}
use borrow.Author.Rules.{rules}
use Rattle.rules.specs.Answers.{restart}
use Rattle.rules.specs.Events.{restart_of}
use Rattle.hub_state.specs.Contract.{Decides}
use Rattle.hub.specs.View.{view}
use Rattle.hub.proofs.CallLaws.{decided_none, gives_none}
use Rattle.hub.proofs.restart.Goals.{After-decide_restart-decision}
use Rattle.hub.proofs.restart.Goals as goal

-- what is decided, of the setting as it was handed over
decided : (c : After-decide_restart-decision) →
    let a = c.args in Decides a.hub.state.rows [] c.decide_restart-decision.result (restart_of (view a.hub) a.device a.setting)
decided c =
    let a = c.args in
    let e : to_z w16 (of_z w16 a.setting) ≡ a.setting = search rules in
    subst (λ (z : ℤ). Decides a.hub.state.rows [] c.decide_restart-decision.result (restart_of (view a.hub) a.device z)) e
    c.decide_restart-decision.ensures

pub carried_out-requires : goal.carried_out-requires
carried_out-requires c = (
  c.requires,
  decided_none (restart _ _) _ tt c.empty-routine.ensures
      (decided (goal.at.carried_out-requires c).After-decide_restart-decision),
)

pub returns : goal.returns
returns c = gives_none c.empty-routine.result c.empty-routine.ensures
    (decided (goal.at.returns c).After-decide_restart-decision) c.carried_out.ensures
