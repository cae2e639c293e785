-- `hub_submit::decide` meets its contract. Assumes nothing.
use mathlib.Core.Path.{sym, ◌∙◌}
use Rattle.hub_submit.proofs.SubmitLaws.{submit-turned-down}
use Rattle.hub_submit.proofs.decide.Goals as goal

pub returns-in-Err : goal.returns-in-Err
returns-in-Err c = submit-turned-down c.args.state.rows _ _ _ (sym c.check.ensures ∙ c.in-Err.is) c.refused.ensures
