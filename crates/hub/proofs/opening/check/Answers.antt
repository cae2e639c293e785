-- `hub::opening::check` meets its contract. Assumes nothing.
use native.Mathlib.Omega.{arith}
use mathlib.Core.Path.{sym, ◌∙◌}
use Rattle.std.proofs.Common.{Err, ap}
use Rattle.std.proofs.lemmas.Result.{err_from_is_err_and}
use Rattle.hub.proofs.OpenLaws.{open_out, open_first-id, open_fine}
use Rattle.hub.proofs.opening.check.Goals as goal

pub returns-in_err-check : goal.returns-in_err-check
returns-in_err-check c = let p = err_from_is_err_and c.from_residual.result c.from_residual.ensures.1 in
    p.1 ∙ ap Err p.2 ∙ sym (open_out _ _ _ _ (sym c.check.ensures ∙ c.in_err-check.was))

pub returns-then-first_id-eq0 : goal.returns-then-first_id-eq0
returns-then-first_id-eq0 c = sym (open_first-id _ _ _ (sym c.check.ensures ∙ c.in_ok-check.was) c.if-first_id-eq0.true)

pub returns : goal.returns
returns c = sym (open_fine _ _ _ (sym c.check.ensures ∙ c.in_ok-check.was) (omega (arith, c.if-first_id-eq0.false)))
