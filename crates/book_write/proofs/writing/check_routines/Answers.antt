-- `book_write::writing::check_routines` meets its contract. The loop's invariant: the check of the routines from the i-th on, which begin
-- at `at` in the row, is the check of all of them. Assumes nothing.
use Rattle.std.proofs.Common.{Ok, Err, ◌≡◌, ◌+◌, ◌≤◌, ◌∷◌, length, drop, sym, ap, ◌∙◌}
use Rattle.std.proofs.lemmas.Result.{err_from_is_err_and}
use Rattle.rules_routine.specs.Routine.{routine_check}
use Rattle.book_layout.specs.Layout.{book_devices}
use Rattle.book_layout.specs.Writing.{commands_lent, routines_from, routines_check}
use Rattle.book_write.proofs.Row.{routine-there, routines-more, routines_end, check_none, check_more, check_stops}
use Rattle.book_write.proofs.writing.check_routines.Goals.{After-check_one, In_ok-check_one}
use Rattle.book_write.proofs.writing.check_routines.Goals as goal

-- the next routine
next : (c : After-check_one) →
    let a = c.args in
    routines_from a.devices.now a.tags.now a.settings.now c.loop-n.at (drop c.loop-n.n-index a.counts.now)
    ≡ commands_lent a.devices.now a.tags.now a.settings.now c.loop-n.at c.from-count.result
    ∷ routines_from a.devices.now a.tags.now a.settings.now (c.loop-n.at + c.from-count.result) (drop (c.loop-n.n-index + 1) a.counts.now)
next c =
    let a = c.args in
    routines-more a.devices.now a.tags.now a.settings.now a.counts.now c.loop-n.n-index _ _ c.loop-n-test.true c.from-count.ensures

pub returns-in_err-check_one : goal.returns-in_err-check_one
returns-in_err-check_one c = let p = err_from_is_err_and c.from_residual.result c.from_residual.ensures.1 in
    p.1
    ∙ ap Err p.2
    ∙ sym (check_stops _ _ _ (sym c.check_one.ensures ∙ c.in_err-check_one.was))
    ∙ ap routines_check (sym (next (goal.at.returns-in_err-check_one c).After-check_one))
    ∙ c.loop-n.invariant.1

-- the routine passes, so that all its commands are there
accepted : (c : In_ok-check_one) →
    let a = c.args in
    routine_check book_devices (commands_lent a.devices.now a.tags.now a.settings.now c.loop-n.at c.from-count.result) ≡ Ok tt
accepted c = sym c.check_one.ensures ∙ c.in_ok-check_one.was

there : (c : In_ok-check_one) → c.loop-n.at + c.from-count.result ≤ length c.args.devices.now
there c =
    let a = c.args in
    routine-there a.devices.now a.tags.now a.settings.now c.loop-n.at _ c.loop-n.invariant.0 (accepted c)

pub loop-n-preserved : goal.loop-n-preserved
loop-n-preserved c = let p = (goal.at.loop-n-preserved c).In_ok-check_one in (
  there p,
  sym (check_more _ _ (accepted p)) ∙ ap routines_check (sym (next (goal.at.loop-n-preserved c).After-check_one)) ∙ c.loop-n.invariant.1,
)

pub returns : goal.returns
returns c = let a = c.args in
    sym check_none
    ∙ ap routines_check (sym (routines_end a.devices.now a.tags.now a.settings.now a.counts.now _ _ c.loop-n-test.false))
    ∙ c.loop-n.invariant.1
