-- Rows: routines as the writer takes them, by value. Assumes nothing.
use Rattle.std.specs.Prelude.{◌≡◌, List, [], ◌∷◌, ◌++◌, map, ℕ, ◌+◌, ◌-◌, ◌*◌, ltb, pos, length, set, replicate, if◌then◌else◌, Result, Ok}
use Rattle.std.specs.Prelude.{Err}
use Rattle.rules_routine.specs.Limits.{max_commands, max_routines}
use Rattle.rules_routine.specs.declared.Command.{Command}
use Rattle.rules_routine.specs.declared.refusals.Refusal.{Refusal}
use Rattle.book_layout.specs.Claims.{Hands}
use Rattle.book_layout.specs.Reading.{book_check}
use Rattle.book_layout.specs.Writing.{row_of, counts_of}
use Rattle.book_copy.specs.declared.Rows.{Rows}

-- The most commands that a book has.
abbrev pub most_commands : ℕ
most_commands = max_routines * max_commands

-- A list, and the same value behind it up to a length.
abbrev pub padded : {A : Type 0} → ℕ → List A → A → List A
padded most l z = l ++ replicate (most - length l) z

-- The rows of these counts and these commands: zeros behind them.
unfoldable pub rows_with : List ℕ → List Command → Rows
rows_with ns cs = record {
  counts = padded max_routines ns 0;
  devices = padded most_commands (map (λ (c : Command). c.device) cs) 0;
  tags = padded most_commands (map (λ (c : Command). c.tag) cs) 0;
  settings = padded most_commands (map (λ (c : Command). c.setting) cs) (pos 0);
  routines = length ns;
  commands = length cs;
}

-- The rows of these routines: what is lent of them (crate `book_layout`, Writing.antt).
abbrev pub rows_of : List (List Command) → Rows
rows_of rs = rows_with (counts_of rs) (row_of rs)

-- What `rows_of` gives of book b: of an accepted one (which has such routines: `ReadThenWrite`) the rows of the routines that reading hands
-- out, of a refused one its refusal.
pub record RowsOfBook (b : List ℕ) (r : Result Rows Refusal) : Type 0 where
  pub accepted : (rs : List (List Command)) → Hands b 0 rs → r ≡ Ok (rows_of rs)
  pub refused : (x : Refusal) → book_check b ≡ Err x → r ≡ Err x

-- ---- how rows are put together

-- What the steps of reading give: the rows of the routines that they hand out.
abbrev pub RowsHanded : List ℕ → Rows → Type 0
RowsHanded b r = (rs : List (List Command)) → Hands b 0 rs → r ≡ rows_of rs

-- One command more, where there is room.
unfoldable pub with_command : Rows → Command → Rows
with_command r c = record {
  counts = r.counts;
  devices = set r.devices r.commands c.device;
  tags = set r.tags r.commands c.tag;
  settings = set r.settings r.commands c.setting;
  routines = r.routines;
  commands = if ltb r.commands most_commands then r.commands + 1 else r.commands;
}

unfoldable pub with_commands : Rows → List Command → Rows
with_commands r [] = r
with_commands r (c ∷ cs) = with_commands (with_command r c) cs

-- One count more, where there is room.
unfoldable pub with_count : Rows → ℕ → Rows
with_count r n = record {
  counts = set r.counts r.routines n;
  devices = r.devices;
  tags = r.tags;
  settings = r.settings;
  routines = if ltb r.routines max_routines then r.routines + 1 else r.routines;
  commands = r.commands;
}

unfoldable pub with_routine : Rows → List Command → Rows
with_routine r cs = with_count (with_commands r cs) (length cs)
