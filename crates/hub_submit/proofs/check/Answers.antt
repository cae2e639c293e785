-- `hub_submit::check` meets its contract. Assumes nothing.
use mathlib.Core.Path.{sym, ◌∙◌}
use Prim.Native.Nat.{◌≤◌, ◌<◌}
use native.Mathlib.Omega.{arith}
use lib.ListN.{length}
use Rattle.std.proofs.Common.{Err, ap}
use Rattle.std.proofs.lemmas.Result.{err_from_is_err_and}
use Rattle.rules_routine.specs.Limits.{max_sequence}
use Rattle.hub_state.specs.View.{state_of}
use Rattle.hub_submit.proofs.SubmitLaws.{check_routine, check_full, check_ids, check_fine, taken_is}
use Rattle.hub_submit.proofs.check.Goals.{Else-links-ge-MAX_SEQUENCE}
use Rattle.hub_submit.proofs.check.Goals as goal

pub returns-in_err-check : goal.returns-in_err-check
unfolding state_of
returns-in_err-check c = let p = err_from_is_err_and c.from_residual.result c.from_residual.ensures.1 in
    p.1 ∙ ap Err p.2 ∙ sym (check_routine (state_of c.args.state.rows) _ _ (sym c.check.ensures ∙ c.in_err-check.was))

pub returns-then-links-ge-MAX_SEQUENCE : goal.returns-then-links-ge-MAX_SEQUENCE
unfolding state_of
returns-then-links-ge-MAX_SEQUENCE c = let h = c.args.state.rows in
    let i : max_sequence ≤ length (state_of h).sequence = let n = taken_is h c.args.state.ok in omega (arith, n, c.if-links-ge-MAX_SEQUENCE.true) in
    sym (check_full (state_of h) _ (sym c.check.ensures ∙ c.in_ok-check.was) i)

-- the routine is fine, and there is room for it
room : (c : Else-links-ge-MAX_SEQUENCE) → length (state_of c.args.state.rows).sequence < max_sequence
room c =
    let n = taken_is c.args.state.rows c.args.state.ok in
    omega (arith, n, c.if-links-ge-MAX_SEQUENCE.false)

pub returns-then-state-gt-HIGHEST_ID : goal.returns-then-state-gt-HIGHEST_ID
unfolding state_of
returns-then-state-gt-HIGHEST_ID c = sym (check_ids (state_of c.args.state.rows) _ (sym c.check.ensures ∙ c.in_ok-check.was) (room (goal.at.returns-then-state-gt-HIGHEST_ID c).Else-links-ge-MAX_SEQUENCE) c.if-state-gt-HIGHEST_ID.true)

pub returns : goal.returns
unfolding state_of
returns c = sym (check_fine (state_of c.args.state.rows) _ (sym c.check.ensures ∙ c.in_ok-check.was) (room (goal.at.returns c).Else-links-ge-MAX_SEQUENCE) c.if-state-gt-HIGHEST_ID.false)
