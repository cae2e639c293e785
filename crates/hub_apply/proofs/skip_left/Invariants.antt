-- `hub_apply::skip_left` meets its contract. The loop: of those passed the ones left on the device are skipped. Assumes nothing.
use Prim.Native.Nat.{◌*◌}
use mathlib.Core.Path.{◌≡◌}
use lib.ListN.{length}
use Rattle.rules_routine.specs.Limits.{max_commands, max_sequence}
use Rattle.hub_apply.specs.Stages.{SkipsLeft}
use Rattle.hub_apply.proofs.skip_left.Given as goal

abbrev pub invariant-loop-k : goal.invariant-loop-k
invariant-loop-k l = (length l.skipped ≡ max_sequence * max_commands) × SkipsLeft l.initial.skipped l.device l.wanted l.from l.k l.skipped
