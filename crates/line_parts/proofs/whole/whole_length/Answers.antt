-- `line_parts::whole::whole_length` meets its contract: no byte 10 lies behind the place. Assumes nothing.
use native.Mathlib.Omega.{arith}
use Rattle.line_parts.proofs.Loops.{none_at_end, none_before, last-here, none_here}
use Rattle.line_parts.proofs.whole.whole_length.Goals as goal

pub loop-at-init : goal.loop-at-init
loop-at-init c = none_at_end c.args.bytes.now

pub returns-then-bytes-at-eq-LINE_END : goal.returns-then-bytes-at-eq-LINE_END
returns-then-bytes-at-eq-LINE_END c =
    let is = last-here _ _ c.loop-at-test.true c.loop-at.auto.at c.if-bytes-at-eq-LINE_END.true c.loop-at.invariant in
    omega (arith, c.loop-at-test.true)

pub loop-at-preserved : goal.loop-at-preserved
loop-at-preserved c = none_before _ _ c.loop-at-test.true c.loop-at.auto.at c.if-bytes-at-eq-LINE_END.false c.loop-at.invariant

pub returns : goal.returns
returns c = none_here _ _ c.loop-at-test.false c.loop-at.invariant
