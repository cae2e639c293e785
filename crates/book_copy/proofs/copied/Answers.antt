-- `book_copy::copied` meets its contract: what is read of a book is lent as those routines, and written it is the book. Assumes nothing.
use Rattle.std.proofs.Common.{Err, List, length, ap, ◌∙◌, arith}
use Rattle.std.proofs.lemmas.Result.{err_from_is_err_and}
use Rattle.rules_routine.specs.declared.Command.{Command}
use Rattle.book_layout.specs.Writing.{written_of, buffer_after}
use Rattle.book_copy.specs.declared.Rows.{Rows}
use Rattle.book_copy.proofs.CopyLaws.{rows_count, rows_lent, written_copied, after_copied, refused_copied, Read, read-refused}
use Rattle.book_copy.proofs.CopyLaws.{read-accepted}
use Rattle.book_copy.proofs.copied.Goals.{In_ok-rows}
use Rattle.book_copy.proofs.copied.Goals as goal

-- the book is accepted
read : (c : In_ok-rows) → Read c.args.book.now c.in_ok-rows.rows
read c = read-accepted _ (λ i. (c.type_inv.book i).fits) _ c.rows_of.ensures _ c.in_ok-rows.was

pub returns-in_err-rows : goal.returns-in_err-rows
returns-in_err-rows c = let a = c.args in
    let p = err_from_is_err_and c.from_residual.result c.from_residual.ensures.1 in
    let e = read-refused a.book.now (λ i. (c.type_inv.book i).fits) _ c.rows_of.ensures _ c.in_err-rows.was in
    let t = refused_copied a.book.now a.out.now _ e in record { answers = p.1 ∙ ap Err p.2 ∙ t.0; leaves = t.1 }

pub write_rows-requires : goal.write_rows-requires
write_rows-requires c = let d = read (goal.at.write_rows-requires c).In_ok-rows in
    omega (arith, ap (λ (x : Rows). x.routines) d.rows, rows_count d.routines, d.makes.few)

pub returns : goal.returns
returns c = let d = read (goal.at.returns c).In_ok-rows in
    let w = c.write_rows.ensures in
    let a = c.args in
    let r = rows_lent d.routines _ d.rows in
    let b = a.book.now in record {
      answers = w.answers ∙ ap (λ (rs : List (List Command)). written_of rs (length a.out.now)) r
          ∙ written_copied b d.routines d.accepted d.makes _;
      leaves = w.leaves ∙ ap (λ (rs : List (List Command)). buffer_after rs a.out.now) r ∙ after_copied b d.routines d.accepted d.makes _;
    }
