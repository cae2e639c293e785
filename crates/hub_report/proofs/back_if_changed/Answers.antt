-- `hub_report::back_if_changed` meets its contract. Assumes nothing.
use borrow.Author.Rules.{rules}
use mathlib.Core.Path.{◌≡◌, sym, ap, ◌∙◌}
use mir.Val.{to_z, of_z}
use mir.Syntax.{w16}
use Rattle.hub_report.proofs.ReportLaws.{back-same, back_changed}
use Rattle.hub_report.proofs.back_if_changed.Goals as goal

pub returns-then-due-before : goal.returns-then-due-before
returns-then-due-before c = let a = c.args in
    let n : to_z w16 (of_z w16 a.due) ≡ a.due = search rules in
    let b : to_z w16 (of_z w16 a.before) ≡ a.before = search rules in
    back-same a.device a.due a.before (sym n ∙ ap (to_z w16) c.if-due-before.true ∙ b)

pub returns : goal.returns
returns c = let a = c.args in
    let n : to_z w16 (of_z w16 a.due) ≡ a.due = search rules in
    back_changed a.device a.due a.before _ n (λ e. c.if-due-before.false (ap (of_z w16) e))
