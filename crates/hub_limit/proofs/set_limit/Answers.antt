-- `hub_limit::set_limit` meets its contract. Assumes nothing.
use Rattle.std.proofs.Common.{Result, Err, subst, sym, ap, ◌∙◌}
use Rattle.std.proofs.lemmas.Result.{err_from_is_err_and}
use Rattle.rules_routine.specs.declared.refusals.Refusal.{Refusal}
use Rattle.hub_state.specs.declared.valid.ValidState.{ValidState}
use Rattle.hub_limit.specs.Contract.{Limits}
use Rattle.hub_limit.proofs.LimitLaws.{limits_fine, limits-not}
use Rattle.hub_limit.proofs.set_limit.Goals as goal

pub returns-in_err-check : goal.returns-in_err-check
returns-in_err-check c = let a = c.args in
    let p = err_from_is_err_and c.from_residual.result c.from_residual.ensures.1 in
    subst (λ (r : Result ValidState Refusal). Limits a.state.rows a.pass_limit r) (sym (p.1 ∙ ap Err p.2))
    (limits-not _ _ _ c.check.ensures _ c.args.state.ok c.in_err-check.was)

pub returns : goal.returns
returns c = let w = c.with_limit.ensures in
    limits_fine _ _ _ c.check.ensures _ w.1 w.2 c.in_ok-check.was
