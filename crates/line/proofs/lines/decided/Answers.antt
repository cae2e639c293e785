-- `line::lines::decided` meets its contract. Assumes nothing.
use mathlib.Core.Path.{◌≡◌}
use mir.Syntax.{w16}
use mir.Val.{to_z, of_z}
use Rattle.line.proofs.LineLaws.{as-call}
use borrow.Author.Rules.{rules}
use Rattle.line.proofs.lines.decided.Goals as goal

pub returns-in-Submit : goal.returns-in-Submit
returns-in-Submit c = as-call c.args.hub c.in-Submit.is c.decide_submit.ensures

pub returns-in-Turn : goal.returns-in-Turn
returns-in-Turn c = as-call c.args.hub c.in-Turn.is c.decide_turn.ensures

pub returns-in-Report : goal.returns-in-Report
returns-in-Report c = as-call c.args.hub c.in-Report.is c.decide_report.ensures

pub returns-in-Cancel : goal.returns-in-Cancel
returns-in-Cancel c = as-call c.args.hub c.in-Cancel.is c.decide_cancel.ensures

pub returns-in-Fail : goal.returns-in-Fail
returns-in-Fail c = as-call c.args.hub c.in-Fail.is c.decide_failure.ensures

pub returns-in-Restart : goal.returns-in-Restart
returns-in-Restart c = let v = c.in-Restart.setting in
    let held : to_z w16 (of_z w16 v) ≡ v = search rules in
    as-call c.args.hub c.in-Restart.is (rw held at c.decide_restart.ensures)
