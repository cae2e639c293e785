-- Writing a book: document 01, "The routine book" and "When a call is turned down" ("Writing: the routines in turn (4, then commands), then
-- 21"). Assumes nothing.
use Rattle.rules_routine.specs.declared.refusals.Refusal.{Refusal}
use Rattle.rules_routine.specs.declared.refusals.Refusal.TheVariants.{NoRoom}
use Rattle.std.specs.Prelude.{◌||◌, List, [], ◌∷◌, ◌++◌, map, ℕ, zero, suc, ◌+◌, ltb, ℤ, pos, length, drop, get_or, Ok, Err, Result}
use Rattle.rules_routine.specs.Refusals.{refuse◌when◌, ◌and_then◌, Verdict}
use Rattle.rules_routine.specs.Routine.{routine_check}
use Rattle.rules_routine.specs.declared.Command.{Command}
use Rattle.rules_routine.specs.Limits.{max_routines}
use Rattle.book_layout.specs.Layout.{book_devices, book_bytes}

-- ---- the routines to write, as they are lent

-- A part of a command that is not lent reads as a number that no command has, so that its routine is turned down for it and is never
-- written shorter.
abbrev pub missing_device : ℕ
missing_device = 255

abbrev pub missing_tag : ℕ
missing_tag = 255

abbrev pub missing_setting : ℤ
missing_setting = pos 32767

-- Commands are lent in a row, as three slices: devices, tags, settings. The command at a place of the row, and n of them from there on.
abbrev pub command_lent : List ℕ → List ℕ → List ℤ → ℕ → Command
command_lent ds ts ss at =
    record { device = get_or ds at missing_device; tag = get_or ts at missing_tag; setting = get_or ss at missing_setting }

abbrev pub commands_lent : List ℕ → List ℕ → List ℤ → ℕ → ℕ → List Command
commands_lent ds ts ss at zero = []
commands_lent ds ts ss at (suc n) = command_lent ds ts ss at ∷ commands_lent ds ts ss (suc at) n

-- Routines of these counts, the first of which begins at a place of the row, each next where the one before ends. A routine has exactly as
-- many commands as its count says. What is lent behind the last routine belongs to none.
abbrev pub routines_from : List ℕ → List ℕ → List ℤ → ℕ → List ℕ → List (List Command)
routines_from ds ts ss at [] = []
routines_from ds ts ss at (n ∷ ns) = commands_lent ds ts ss at n ∷ routines_from ds ts ss (at + n) ns

-- The routines of four lent slices: counts, devices, tags, settings.
abbrev pub routines_lent : List ℕ → List ℕ → List ℕ → List ℤ → List (List Command)
routines_lent ns ds ts ss = routines_from ds ts ss 0 ns

-- The other way round, how routines are lent: a count for each, and each part of all their commands in a row.
abbrev pub row_of : List (List Command) → List Command
row_of [] = []
row_of (r ∷ rs) = r ++ row_of rs

abbrev pub counts_of : List (List Command) → List ℕ
counts_of rs = map length rs

abbrev pub devices_of : List (List Command) → List ℕ
devices_of rs = map (λ (c : Command). c.device) (row_of rs)

abbrev pub tags_of : List (List Command) → List ℕ
tags_of rs = map (λ (c : Command). c.tag) (row_of rs)

abbrev pub settings_of : List (List Command) → List ℤ
settings_of rs = map (λ (c : Command). c.setting) (row_of rs)

-- ---- what is turned down, what is answered and what is left in the buffer

-- The routines in turn: 4, then commands.
unfoldable pub routines_check : List (List Command) → Verdict
routines_check [] = Ok tt
routines_check (r ∷ rs) = routine_check book_devices r and_then routines_check rs

-- Then 21, for a buffer of so many bytes: "over 64 routines to write, or buffer too short".
unfoldable pub write_check : List (List Command) → ℕ → Verdict
write_check rs room =
    routines_check rs
    and_then refuse NoRoom when (ltb max_routines (length rs) || ltb room (length (book_bytes rs)))

abbrev pub written_with : Verdict → List ℕ → Result ℕ Refusal
written_with (Ok tt) book = Ok (length book)
written_with (Err r) book = Err r

-- The answer: the book's length, or the refusal.
unfoldable pub written_of : List (List Command) → ℕ → Result ℕ Refusal
written_of rs room = written_with (write_check rs room) (book_bytes rs)

abbrev pub buffer_with : Verdict → List ℕ → List ℕ → List ℕ
buffer_with (Ok tt) book buffer = book ++ drop (length book) buffer
buffer_with (Err r) book buffer = buffer

-- The buffer afterwards: the book over its first bytes, and nothing changed after them; on a refusal nothing changed at all.
unfoldable pub buffer_after : List (List Command) → List ℕ → List ℕ
buffer_after rs buffer = buffer_with (write_check rs (length buffer)) (book_bytes rs) buffer
