-- `line_read::pieces::near_end` meets its contract: as far as the piece reaches from each place, it ends where it did. Assumes nothing.
use mathlib.Core.Path.{◌≡◌, sym, ◌∙◌}
use native.Mathlib.Numerals.{add-one}
use native.Mathlib.Omega.{arith}
use Rattle.line_read.proofs.WordLaws.{ends-past, ends-here, ends_on}
use Rattle.line_read.proofs.pieces.near_end.Goals as goal

pub returns-then-bytes-at : goal.returns-then-bytes-at
returns-then-bytes-at c = sym (ends-here _ _ _ c.loop-at-test.true c.if-bytes-at.true) ∙ c.loop-at.invariant.0

pub loop-at-preserved : goal.loop-at-preserved
loop-at-preserved c =
    (rw (add-one c.loop-at.at) (sym (ends_on _ _ _ c.loop-at-test.true c.if-bytes-at.false) ∙ c.loop-at.invariant.0), omega arith)

pub returns : goal.returns
returns c =
    let e : c.max.result ≡ c.loop-at.at = omega (arith, c.max.ensures) in
    e ∙ sym (ends-past _ _ _ c.loop-at-test.false) ∙ c.loop-at.invariant.0
