-- `line_hints::of_line` meets its contract. Assumes nothing.
use Rattle.std.proofs.Common.{Some}
use mathlib.Core.Path.{refl, sym, ap, ◌∙◌}
use Rattle.line_hints.proofs.ReasonLaws.{told-unread, told-call, told-opening}
use Rattle.line_hints.proofs.of_line.Goals as goal

pub returns-in-Open : goal.returns-in-Open
returns-in-Open c = sym (told-opening _ _ _ c.read_line.ensures _ _ _ c.in-Open.is)

pub returns-in-Calling : goal.returns-in-Calling
returns-in-Calling c = sym (told-call _ _ _ c.read_line.ensures _ c.in-Calling.is ∙ rw c.if-opened.true refl)

pub returns-in-Calling-2 : goal.returns-in-Calling-2
returns-in-Calling-2 c = sym (told-call _ _ _ c.read_line.ensures _ c.in-Calling-2.is ∙ rw c.if-opened.false refl)

pub returns-in-Unread : goal.returns-in-Unread
returns-in-Unread c = ap Some c.why.ensures ∙ sym (told-unread _ _ _ c.read_line.ensures c.in-Unread.is)
