-- `line_print::words::put_backs` meets its contract. The loop's invariant: the first i are put behind the count. Assumes nothing.
use mathlib.Core.Path.{◌≡◌}
use mathlib.Core.List.{map}
use Prim.Native.Nat.{◌*◌}
use lib.ListN.{length, take}
use Rattle.hub_answers.specs.View.{back_of}
use Rattle.line_rules.specs.Printing.{back_list}
use Rattle.line_print.specs.Put.{max_put_back, PutShort}
use Rattle.line_print.proofs.words.put_backs.Given as goal

abbrev pub invariant-loop-i : goal.invariant-loop-i
invariant-loop-i l = (length l.out ≡ length l.initial.out) × PutShort (max_put_back * l.i) l.initial.out l.out l.initial.to l.to (back_list (map back_of (take l.i l.backs.items)))
