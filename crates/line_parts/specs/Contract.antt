-- The contracts of the steps over an input that comes in parts. Assumes nothing.
use Rattle.std.specs.Prelude.{◌≡◌, List, [], ◌++◌, ℕ, suc, ◌+◌, ◌*◌, ◌≤◌, length, take, drop, None}
use Rattle.rules_routine.specs.Limits.{max_line}
use Rattle.line_rules.specs.Program.{program_text}
use Rattle.line_print.specs.Put.{max_text}
use Rattle.hub.specs.Valid.{Valid}
use Rattle.hub.specs.declared.Hub.{Hub}
use Rattle.line.specs.View.{hub_in}
use Rattle.line_parts.specs.Parts.{hub_after, printed_after, pending_after}
use Rattle.line_parts.specs.declared.AfterPart.{AfterPart}

-- ---- the buffers

-- At most so many bytes are read at a time.
abbrev pub max_part : ℕ
max_part = 2048

-- The input's buffer has room for the pending bytes and a part behind them.
abbrev pub input_room : ℕ
input_room = suc max_line + max_part

-- Room for what the lines of so many bytes print at most, and for the device lines.
abbrev pub room_for : ℕ → ℕ
room_for bytes = max_text * (bytes + 2)

-- ---- the steps

-- The hub, and the first so many bytes of the buffer, are what the definitions give of all bytes read so far.
pub record Holds (read : List ℕ) (h : Hub) (pending : ℕ) (input : List ℕ) : Type 0 where
  pub hub : hub_in h ≡ hub_after read
  pub bytes : take pending input ≡ pending_after read

-- The bytes that were read behind the pending ones.
abbrev pub part_of : ℕ → ℕ → List ℕ → List ℕ
part_of pending got input = take got (drop pending input)

-- A part is taken. Whatever was read before it: hub and pending bytes afterwards are those of all bytes read so far, the part with them;
-- and the text at the start of the buffer `out` is what the part adds to what is printed.
pub record TakesPart (h : Hub) (pending got : ℕ) (input input' out' : List ℕ) (s : AfterPart) : Type 0 where
  pub valid : Valid s.hub
  pub short : s.pending ≤ suc max_line
  pub within : s.length ≤ length out'
  pub holds : (read : List ℕ) → Holds read h pending input → Holds (read ++ part_of pending got input) s.hub s.pending input'
  pub prints :
      (read : List ℕ) → Holds read h pending input → printed_after (read ++ part_of pending got input) ≡ printed_after read
      ++ take s.length out'

-- The input has ended. Whatever was read: the text at the start of the buffer `out` is what is still to be printed of it, and the device
-- lines.
pub record TakesEnd (h : Hub) (pending : ℕ) (input out' : List ℕ) (long : ℕ) : Type 0 where
  pub within : long ≤ length out'
  pub prints : (read : List ℕ) → Holds read h pending input → program_text read ≡ printed_after read ++ take long out'

-- ---- steps in turn

-- These bytes were taken part by part, from no hub on, and these texts handed out one behind the other; hub and pending bytes are what
-- the last step left.
pub data Taken : List ℕ → List ℕ → Hub → List ℕ → Type 0 where
  start : {h : Hub} → hub_in h ≡ None → Taken [] [] h []
  next : {read text : List ℕ} {h : Hub} {pending got : ℕ} {input input' out' : List ℕ} {s : AfterPart} →
      Taken read text h (take pending input) → TakesPart h pending got input input' out' s →
      Taken (read ++ part_of pending got input) (text ++ take s.length out') s.hub (take s.pending input')

-- Hub and pending bytes are what the steps over some input leave.
pub record Reached (h : Hub) (pending : ℕ) (input : List ℕ) : Type 0 where
  pub read : List ℕ
  pub text : List ℕ
  pub taken : Taken read text h (take pending input)
  pub valid : Valid h
  pub short : pending ≤ suc max_line

-- What may be printed next: what a part adds to what is printed of the bytes read before it; or what the end of the input adds.
pub data Adds : List ℕ → Type 0 where
  by_part : (read part text : List ℕ) → printed_after (read ++ part) ≡ printed_after read ++ text → Adds text
  by_end : (read text : List ℕ) → program_text read ≡ printed_after read ++ text → Adds text
