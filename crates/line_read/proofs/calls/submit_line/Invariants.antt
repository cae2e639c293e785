-- `line_read::calls::submit_line` meets its contract. Assumes nothing.
use Prim.Native.Nat.{suc, ◌-◌}
use mathlib.Core.Path.{◌≡◌}
use lib.ListN.{length}
use Rattle.line_rules.specs.Reading.{commands, submit_line}
use Rattle.line_read.specs.View.{read_as}
use Rattle.line_read.specs.Places.{behind_letter, words_from}
use Rattle.line_read.proofs.Forms.{submit_from}
use Rattle.line_read.proofs.calls.submit_line.Given as goal

-- what is left: the commands of the words from a place on, behind those that the routine has
abbrev pub invariant-loop-at : goal.invariant-loop-at
invariant-loop-at l = submit_from l.routine (commands (words_from l.line l.at)) ≡ read_as (submit_line (words_from l.line behind_letter))

abbrev pub decreases-loop-at : goal.decreases-loop-at
decreases-loop-at l = suc (length l.line) - l.at
