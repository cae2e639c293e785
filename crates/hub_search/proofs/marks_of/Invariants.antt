-- `hub_search::marks_of` meets its contract. The loop: the marks of the first j commands are there. Assumes nothing.
use mathlib.Core.Path.{◌≡◌}
use lib.ListN.{length, take}
use Rattle.rules_routine.specs.Limits.{max_commands}
use Rattle.hub_search.specs.Contract.{marks_for}
use Rattle.hub_search.proofs.marks_of.Given as goal

abbrev pub invariant-loop-j : goal.invariant-loop-j
invariant-loop-j l = (length l.wanted ≡ max_commands)
    × (take l.j l.wanted ≡ marks_for l.marks (take l.j l.commands))
