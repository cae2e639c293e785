-- `line_print::text::digits_of` meets its contract. The loop's invariant: ten times the power is ten to the count, and the number has
-- so many digits at least. Assumes nothing.
use mathlib.Core.Path.{◌≡◌}
use Prim.Native.Nat.{◌-◌, ◌*◌, ◌^◌, ◌≤◌, ◌<◌}
use lib.ListN.{length}
use Rattle.line_rules.specs.Text.{decimal}
use Rattle.line_print.proofs.text.digits_of.Given as goal

abbrev pub invariant-loop-power : goal.invariant-loop-power
invariant-loop-power l = (0 < l.count) × (l.count ≤ length (decimal l.n)) × (l.power * 10 ≡ 10 ^ l.count)

abbrev pub decreases-loop-power : goal.decreases-loop-power
decreases-loop-power l = length (decimal l.n) - l.count
