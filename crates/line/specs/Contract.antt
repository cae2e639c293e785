-- The contracts of the line program's calls. Assumes nothing.
use Rattle.std.specs.Prelude.{◌≡◌, Bool, true, false, List, ℕ, suc, ◌+◌, ◌-◌, ◌*◌, ◌<◌, ◌≤◌, ℤ, pos, negsuc}
use Rattle.std.specs.Prelude.{length, take, drop, Option, None, Some}
use Rattle.hub_answers.specs.declared.Answer.{Answer}
use Rattle.hub_answers.specs.declared.Answer.TheVariants.{Refused, Placed, Wait, Sent, Done, Skipped, Committed, Aborted, Down, Up}
use Rattle.hub_answers.specs.declared.Answer.TheVariants.{Limited}
use Rattle.hub_answers.specs.declared.Answer.TheVariants.{Held, NotHeld}
use Rattle.line_rules.specs.Text.{line_end}
use Rattle.line_rules.specs.Pieces.{reach, lines_of}
use Rattle.line_rules.specs.Reading.{read_line}
use Rattle.line_rules.specs.Program.{Printed, steps, length_or21, buffer_with, hub_with}
use Rattle.line_read.specs.View.{read_as}
use Rattle.line_print.specs.Put.{max_text, Put}
use Rattle.hub.specs.Valid.{Valid}
use Rattle.hub.specs.declared.Hub.{Hub}
use Rattle.line.specs.View.{hub_in}
use Rattle.line.specs.declared.lines.NextLine.{NextLine}
use Rattle.line.specs.declared.running.Lines.{Lines}

-- ---- the calls that others make

-- What is printed is written: the result is the length of the text or −21; the text stands in the buffer and nothing else is changed there;
-- and the hub afterwards is the one that the program leaves. If the buffer is too short, it and the hub are as they were, whole. Where no
-- `O` was accepted, the hub of no devices is the same hub, whole.
pub record Wrote (p : Printed) (before after : Hub) (buffer buffer' : List ℕ) (result : ℤ) : Type 0 where
  pub valid : Valid after
  pub answers : result ≡ length_or21 p.text (length buffer)
  pub leaves : buffer' ≡ buffer_with p.text buffer
  pub hub : hub_in after ≡ hub_with (hub_in before) p (length buffer)
  pub kept : length buffer < length p.text → after ≡ before
  pub unopened : hub_in after ≡ None → after ≡ before

-- Room for any text of the lines of an input, and as much again for the device lines.
abbrev pub Ample : List ℕ → ℕ → Type 0
Ample input room = max_text * suc (length (lines_of input)) ≤ room

-- A length that was written, as the call that is exported to C says it: −21 is none.
abbrev pub written_as : Option ℕ → ℤ
written_as None = negsuc 20
written_as (Some n) = pos n

-- What an input prints is written, and ample room is enough for it.
pub record Runs (p : Printed) (input : List ℕ) (before after : Hub) (buffer buffer' : List ℕ) (written : Option ℕ) : Type 0 where
  pub wrote : Wrote p before after buffer buffer' (written_as written)
  pub enough : Ample input (length buffer) → length p.text ≤ length buffer

-- ---- below them

-- Ends of lines are counted in parts of up to so many bytes: a byte holds their number.
abbrev pub chunk_length : ℕ
chunk_length = 240

-- What all lines print stands in the buffer, if there is room for it; else the place is some place past the room, at most max_text further.
-- `ample`: where the room is max_text bytes for each line, what they print has no more bytes than that.
pub record RunsLines (h : Hub) (input : List ℕ) (room : ℕ) (buffer buffer' : List ℕ) (s : Lines) : Type 0 where
  pub valid : Valid s.hub
  pub near : s.at ≤ room + max_text
  pub fits :
      length (steps (hub_in h) (lines_of input)).text ≤ room →
      (hub_in s.hub ≡ (steps (hub_in h) (lines_of input)).hub) × Put buffer buffer' 0 s.at (steps (hub_in h) (lines_of input)).text
  pub past : room < length (steps (hub_in h) (lines_of input)).text → room < s.at
  pub unopened : hub_in s.hub ≡ None → s.hub ≡ h
  pub ample :
      max_text * length (lines_of input) ≤ room →
      length (steps (hub_in h) (lines_of input)).text ≤ max_text * length (lines_of input)

-- How long the text of an input is, if there is room for it; else a number past the room. Ample room is room for it.
pub record Measures (text input : List ℕ) (room long : ℕ) : Type 0 where
  pub fits : length text ≤ room → long ≡ length text
  pub past : room < length text → room < long
  pub enough : Ample input room → length text ≤ room

-- ---- one line

-- The line that begins at a place: where it ends, and what it says.
pub record ReadsNext (input : List ℕ) (from : ℕ) (r : NextLine) : Type 0 where
  pub ends : r.end ≡ from + reach line_end (drop from input)
  pub says : r.said ≡ read_as (read_line (take (r.end - from) (drop from input)))

-- Does a routine abort by this call: before its answer, or by the call itself?
abbrev pub is_abort : Option ℕ → Answer → Bool
is_abort (Some i) a = true
is_abort None (Refused r) = false
is_abort None (Placed p) = false
is_abort None (Wait i j) = false
is_abort None (Sent x) = false
is_abort None (Done i) = false
is_abort None (Skipped i) = false
is_abort None (Committed i) = false
is_abort None (Aborted i) = true
is_abort None (Down d i) = false
is_abort None (Up d i) = false
is_abort None (Limited k) = false
is_abort None (Held i) = false
is_abort None (NotHeld i) = false
