-- `line::running::run_lines` meets its contract. The loop's invariant: the lines up to a place are done, and what is left gives the rest.
-- Assumes nothing.
use mathlib.Core.Path.{◌≡◌}
use Prim.Native.Nat.{◌-◌}
use lib.ListN.{length}
use Rattle.line_print.specs.Put.{max_text}
use Rattle.line.proofs.Loops.{Ran}
use Rattle.line.proofs.running.run_lines.Given as goal

abbrev pub invariant-loop-from : goal.invariant-loop-from
invariant-loop-from l = (length l.text ≡ max_text) × Ran l.initial.now l.input l.initial.out l.out l.room l.now l.at l.from

abbrev pub decreases-loop-from : goal.decreases-loop-from
decreases-loop-from l = length l.input - l.from
