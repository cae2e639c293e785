-- `book_read::next` meets its contract. Assumes nothing.
use Rattle.std.proofs.Common.{sym, ap, ◌∙◌}
use Rattle.book_layout.specs.Reading.{next_of}
use Rattle.book_layout.proofs.LayoutLaws.{next-first, next-later, next-refused}
use Rattle.book_read.proofs.next.Goals as goal

pub returns-in-Err : goal.returns-in-Err
returns-in-Err c = sym (next-refused _ _ (sym c.check.ensures ∙ c.in-Err.is) _)

pub returns-in-Ok : goal.returns-in-Ok
returns-in-Ok c = c.next_pair.ensures
    ∙ sym (next-first _ (sym c.check.ensures ∙ c.in-Ok.is))
    ∙ ap (next_of c.args.book.now) (sym c.if-position-eq0.true)

pub returns-in-Ok-2 : goal.returns-in-Ok-2
returns-in-Ok-2 c = c.next_pair-in-Ok-2.ensures ∙ sym (next-later _ (sym c.check.ensures ∙ c.in-Ok-2.is) _ c.if-position-eq0.false)
