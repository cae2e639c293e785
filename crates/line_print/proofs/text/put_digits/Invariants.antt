-- `line_print::text::put_digits` meets its contract. The loop's invariant: the digits of what is left of the number are
-- still to be put. Assumes nothing.
use mathlib.Core.Path.{◌≡◌}
use Prim.Native.Nat.{◌-◌}
use lib.ListN.{length}
use lib.Seq.{sets}
use Rattle.line_rules.specs.Text.{decimal}
use Rattle.line_print.proofs.Stores.{last_digits}
use Rattle.line_print.proofs.text.put_digits.Given as goal

abbrev pub invariant-loop-k : goal.invariant-loop-k
invariant-loop-k l = (length l.out ≡ length l.initial.out) × (sets l.out l.at (last_digits (l.k - l.at) l.left) ≡ sets l.initial.out l.at (decimal l.n))
