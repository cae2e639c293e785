-- `hub_report::decide` meets its contract. Assumes nothing.
use mathlib.Core.Path.{subst}
use Rattle.hub_state.specs.Unanswered.{NextInFlight, UnansweredIs}
use Rattle.hub_search.proofs.Found.{stands_at, found-id}
use Rattle.hub_report.proofs.ReportLaws.{done-decides, idle, report_nowhere, report-idle, report_code, report-done, report_failed}
use Rattle.hub_report.proofs.decide.Goals.{In-InFlight}
use Rattle.hub_report.proofs.decide.Goals as goal

pub returns-in_default : goal.returns-in_default
returns-in_default c = report_nowhere c.args.state.rows c.args.id c.args.code _ c.running.ensures _
    c.in_default.is c.refused.ensures

pub returns-in_default-open : goal.returns-in_default-open
returns-in_default-open c = report-idle c.args.state.rows c.args.id c.args.code _ c.running.ensures _ _ c.in-Some.is
    (idle _ _ c.unanswered_at-open.result c.unanswered_at-open.ensures c.in_default-open.not-InFlight) c.refused-in_default-open.ensures

-- the command in flight of the routine that was found
opened : (c : In-InFlight) →
    NextInFlight c.args.state.rows c.in-Some.at c.in-InFlight.k
opened c = subst (UnansweredIs _ _) c.in-InFlight.is c.unanswered_at-open.ensures

pub returns-then-code-gt-CODE_FAILED : goal.returns-then-code-gt-CODE_FAILED
returns-then-code-gt-CODE_FAILED c =
    report_code c.args.state.rows c.args.id c.args.code _ c.running.ensures _ _ c.in-Some.is _
    (opened (goal.at.returns-then-code-gt-CODE_FAILED c).In-InFlight)
    c.if-code-gt-CODE_FAILED.true c.refused-then-code-gt-CODE_FAILED.ensures

pub returns-then-code-eq-CODE_DONE : goal.returns-then-code-eq-CODE_DONE
returns-then-code-eq-CODE_DONE c = let f = c.running.ensures in
    let e = c.in-Some.is in
    report-done c.args.state.rows c.args.id c.args.code _ f _ _ e _
    (opened (goal.at.returns-then-code-eq-CODE_DONE c).In-InFlight) c.if-code-gt-CODE_FAILED.false c.if-code-eq-CODE_DONE.true
    (done-decides c.args.state.rows _ _ (stands_at _ _ _ f _ e) (opened (goal.at.returns-then-code-eq-CODE_DONE c).In-InFlight) c.args.id
    (found-id _ _ _ f _ e) _ _
    c.answered-change.ensures c.plain.ensures)

pub failed-requires : goal.failed-requires
failed-requires c = let f = c.running.ensures in
    let e = c.in-Some.is in
    (stands_at _ _ _ f _ e, opened (goal.at.failed-requires c).In-InFlight, found-id _ _ _ f _ e)

pub returns : goal.returns
returns c = report_failed c.args.state.rows c.args.id c.args.code _ c.running.ensures _ _ c.in-Some.is _
    (opened (goal.at.returns c).In-InFlight)
    c.if-code-gt-CODE_FAILED.false c.if-code-eq-CODE_DONE.false c.failed.ensures
