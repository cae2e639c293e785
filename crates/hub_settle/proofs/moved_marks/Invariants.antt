-- `hub_settle::moved_marks` meets its contract. Assumes nothing.
use mathlib.Core.Path.{◌≡◌}
use mathlib.Core.List.{map}
use lib.ListN.{length}
use Rattle.rules_routine.specs.Limits.{max_devices}
use Rattle.hub_settle.proofs.MarkLaws.{remark, remarked}
use Rattle.hub_settle.proofs.moved_marks.Given as goal

abbrev pub invariant-loop-d : goal.invariant-loop-d
invariant-loop-d l = (length l.moved ≡ max_devices)
    × (remarked l.from l.to l.d l.moved ≡ map (remark l.from l.to) l.initial.moved)
