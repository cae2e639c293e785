-- `hub_settle::moved_marks` meets its contract. Assumes nothing.
use native.Mathlib.Omega.{arith}
use mathlib.Core.Path.{sym, ap, ◌∙◌}
use Rattle.hub_state.specs.View.{marks_of}
use Rattle.hub_settle.proofs.MarkLaws.{remark_end, marks_moved}
use Rattle.hub_settle.proofs.moved_marks.Goals as goal

pub returns : goal.returns
returns c = let l = c.loop-d in
    let n = l.invariant.0 in
    ap marks_of (sym (remark_end c.args.from c.args.to l.d l.moved (omega (arith, n, c.loop-d-test.false))) ∙ l.invariant.1)
    ∙ marks_moved c.args.from c.args.to c.args.marks c.requires
