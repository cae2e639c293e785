-- `hub_report::failed` meets its contract. Assumes nothing.
use mathlib.Core.Path.{sym, ◌∙◌, subst}
use Rattle.hub_state.specs.Contract.{Decides}
use Rattle.hub_report.proofs.ReportLaws.{tag_read, must-decides, failed_must, failed_other}
use Rattle.hub_report.proofs.failed.Goals as goal

pub returns-then-tags-k-eq-MUST : goal.returns-then-tags-k-eq-MUST
returns-then-tags-k-eq-MUST c = let h = c.args.state.rows in
    let k = c.args.k in
    subst (Decides _ _ _) (failed_must _ _ _ (sym (tag_read h k) ∙ c.if-tags-k-eq-MUST.true))
    (must-decides h c.args.at k c.requires.0 c.requires.1 c.args.id c.requires.2 _ c.plain.ensures)

pub returns : goal.returns
returns c = subst (Decides _ _ _)
    (failed_other _ _ _ (λ e. c.if-tags-k-eq-MUST.false (tag_read c.args.state.rows c.args.k ∙ e))) c.skip.ensures
