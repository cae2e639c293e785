-- `line_parts::whole::keep` meets its contract. Assumes nothing.
use native.Mathlib.Omega.{arith}
use Rattle.line_parts.proofs.Loops.{all_moved}
use Rattle.line_parts.proofs.whole.keep.Goals as goal

pub returns : goal.returns
returns c = (
  omega (arith, c.requires, c.min-kept.ensures, c.copy_within.ensures.len),
  all_moved _ _ _ _ _ c.requires.0 c.requires.1 c.min-kept.ensures c.copy_within.ensures.after,
)
