-- `line::running::ends_in` meets its contract. The loop's invariant: those counted and those left are all. Assumes nothing.
use mathlib.Core.Path.{◌≡◌}
use Prim.Native.Nat.{◌+◌, ◌≤◌}
use lib.ListN.{drop}
use Rattle.rules.specs.Rounds.{times}
use Rattle.line_rules.specs.Text.{line_end}
use Rattle.line.proofs.running.ends_in.Given as goal

abbrev pub invariant-loop-byte : goal.invariant-loop-byte
invariant-loop-byte l = (l.count ≤ l.byte-index) × (l.count + times line_end (drop l.byte-index l.chunk) ≡ times line_end l.chunk)
