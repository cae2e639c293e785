-- `hub_settle::leave::moved_restarts` meets its contract. Assumes nothing.
use Prim.Native.Nat.{◌*◌}
use mathlib.Core.Path.{◌≡◌}
use lib.ListN.{length}
use Rattle.rules_routine.specs.Limits.{max_devices, max_sequence}
use Rattle.hub_settle.proofs.RestartLaws.{MovedUpTo}
use Rattle.hub_settle.proofs.leave.moved_restarts.Given as goal

abbrev pub invariant-loop-d : goal.invariant-loop-d
invariant-loop-d l = (length l.moved ≡ max_sequence * max_devices)
    × MovedUpTo l.row l.from l.to l.d l.moved
