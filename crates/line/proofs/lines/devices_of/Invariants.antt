-- `line::lines::devices_of` meets its contract. The loop's invariant: of the first devices it is known which are up. Assumes nothing.
use mathlib.Core.Path.{◌≡◌}
use mathlib.Core.Bool.{false}
use Prim.Native.Nat.{ℕ, ◌<◌}
use lib.ListN.{length, get_or}
use Rattle.rules_routine.specs.Limits.{max_devices}
use Rattle.hub.specs.View.{view}
use Rattle.line.proofs.lines.devices_of.Given as goal

abbrev pub invariant-loop-device : goal.invariant-loop-device
invariant-loop-device l = (length l.up ≡ max_devices) × ((d : ℕ) → d < l.device → get_or l.up d false ≡ (view l.hub).up d)
