-- `book_write::write` meets its contract: each way out is one of the laws of `write_check`. Assumes nothing.
use Rattle.std.proofs.Common.{Ok, Err}
use Rattle.std.proofs.lemmas.Result.{err_from_is_err_and}
use mathlib.Core.Path.{◌≡◌, sym, ap, ◌∙◌}
use Prim.Native.Nat.{◌*◌, ◌≤◌}
use native.Mathlib.Omega.{arith}
use lib.ListN.{length}
use Rattle.book_layout.specs.Layout.{book_bytes}
use Rattle.book_layout.specs.Writing.{routines_lent, routines_check}
use Rattle.book_write.proofs.Row.{commands-few, length-routines, length-book}
use Rattle.book_write.proofs.Row.{write_refused, write_many, write_short, write_fits, turned-down, written}
use borrow.Author.Rules.{rules}
use Rattle.book_write.proofs.write.Goals.{After-count_commands-commands, In_ok-check_routines}
use Rattle.book_write.proofs.write.Goals as goal

-- the routines pass
accepted : (c : In_ok-check_routines) →
    let a = c.args in
    routines_check (routines_lent a.counts.now a.devices.now a.tags.now a.settings.now) ≡ Ok tt
accepted c = sym c.check_routines.ensures ∙ c.in_ok-check_routines.was

-- how many commands there can be
few : (c : After-count_commands-commands) →
    c.count_commands-commands.result ≤ 255 * length c.args.counts.now
few c =
    omega (arith, c.count_commands-commands.ensures, commands-few c.args.counts.now (λ i. (c.type_inv.counts i).fits))

pub returns-in_err-check_routines : goal.returns-in_err-check_routines
returns-in_err-check_routines c = let a = c.args in
    let p = err_from_is_err_and c.from_residual.result c.from_residual.ensures.1 in
    let rs = routines_lent a.counts.now a.devices.now a.tags.now a.settings.now in
    let t = turned-down rs a.out.now _ (write_refused rs _ _ (sym c.check_routines.ensures ∙ c.in_err-check_routines.was)) in record { answers = p.1 ∙ ap Err p.2 ∙ t.0; leaves = t.1 }

pub returns-then-counts-gt-MAX_ROUTINES : goal.returns-then-counts-gt-MAX_ROUTINES
returns-then-counts-gt-MAX_ROUTINES c = let a = c.args in
    let rs = routines_lent a.counts.now a.devices.now a.tags.now a.settings.now in
    let n = length-routines a.devices.now a.tags.now a.settings.now 0 a.counts.now in
    let t = turned-down rs a.out.now _ (write_many rs _ (accepted (goal.at.returns-then-counts-gt-MAX_ROUTINES c).In_ok-check_routines) (omega arith)) in record { answers = t.0; leaves = t.1 }

pub overflow_mul-size-2 : goal.overflow_mul-size-2
overflow_mul-size-2 c = let f = few (goal.at.overflow_mul-size-2 c).After-count_commands-commands in search rules

pub overflow_add-size-2 : goal.overflow_add-size-2
overflow_add-size-2 c = let f = few (goal.at.overflow_add-size-2 c).After-count_commands-commands in search rules

pub returns-then-out-size : goal.returns-then-out-size
returns-then-out-size c = let a = c.args in
    let rs = routines_lent a.counts.now a.devices.now a.tags.now a.settings.now in
    let n = length-routines a.devices.now a.tags.now a.settings.now 0 a.counts.now in
    let l = length-book a.devices.now a.tags.now a.settings.now a.counts.now in
    let e = c.count_commands-commands.ensures in
    let t = turned-down rs a.out.now _ (write_short rs _ (accepted (goal.at.returns-then-out-size c).In_ok-check_routines) (omega arith) (omega (arith, c.if-out-size.true, e, l))) in record { answers = t.0; leaves = t.1 }

pub put_book-requires : goal.put_book-requires
put_book-requires c = let a = c.args in
    let l = length-book a.devices.now a.tags.now a.settings.now a.counts.now in
    (c.if-counts-gt-MAX_ROUTINES.false, c.count_commands-commands.ensures, omega (arith, c.if-out-size.false, c.count_commands-commands.ensures, l))

pub returns : goal.returns
returns c = let a = c.args in
    let rs = routines_lent a.counts.now a.devices.now a.tags.now a.settings.now in
    let n = length-routines a.devices.now a.tags.now a.settings.now 0 a.counts.now in
    let l = length-book a.devices.now a.tags.now a.settings.now a.counts.now in
    let e = c.count_commands-commands.ensures in
    let room : length (book_bytes rs) ≤ length a.out.now = omega (arith, c.if-out-size.false, e, l) in
    let fits = write_fits rs (length a.out.now) (accepted (goal.at.returns c).In_ok-check_routines) (omega (arith, c.if-counts-gt-MAX_ROUTINES.false, n)) room in
    let t = written rs a.out.now fits room _ _ (omega (arith, e, l)) c.put_book.ensures in record { answers = t.0; leaves = t.1 }
