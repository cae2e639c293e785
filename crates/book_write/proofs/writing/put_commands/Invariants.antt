-- `book_write::writing::put_commands` meets its contract. The loop's invariant: what is left to write, written into the buffer as it is,
-- gives what all of it gives. Assumes nothing.
use Prim.Native.Nat.{◌+◌, ◌*◌, ◌-◌}
use mathlib.Core.Path.{◌≡◌}
use lib.ListN.{length}
use lib.Seq.{sets}
use Rattle.book_layout.specs.Layout.{command_size, commands_bytes}
use Rattle.book_layout.specs.Writing.{commands_lent}
use Rattle.book_write.proofs.writing.put_commands.Given as goal

abbrev pub invariant-loop-i : goal.invariant-loop-i
invariant-loop-i l = (length l.out ≡ length l.initial.out)
    × (sets l.out (l.from + command_size * l.i) (commands_bytes (commands_lent l.devices l.tags l.settings l.i (l.count - l.i)))
    ≡ sets l.initial.out l.from (commands_bytes (commands_lent l.devices l.tags l.settings 0 l.count)))
