-- `line_parts::out_buffer` meets its contract. Assumes nothing.
use mathlib.Core.Path.{sym}
use Prim.Native.Nat.{ℕ}
use lib.ListN.{length-replicate}
use Rattle.line_parts.specs.Contract.{input_room, room_for}
use Rattle.line_parts.proofs.out_buffer.Goals as goal

pub returns : goal.returns
returns c = sym (length-replicate {0} {A = ℕ} (room_for input_room) 0)
