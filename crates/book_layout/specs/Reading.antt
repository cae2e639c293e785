-- Reading a book: document 01, "The routine book" and "When a call is turned down" ("Book reading: 18; then by routine 20, 19, then its
-- commands; bytes left over last"). Assumes nothing.
use Rattle.rules_routine.specs.declared.refusals.Refusal.TheVariants.{BookCutShort, BookMisplaced, BookLength}
use Rattle.std.specs.Prelude.{Bool, not, ◌&&◌, ◌||◌, List, ℕ, zero, suc, ◌+◌, ◌*◌, ◌/◌, ◌%◌, leb, ltb, eqb, length, if◌then◌else◌, Some}
use Rattle.std.specs.Prelude.{None, Ok, Err}
use Rattle.rules_routine.specs.Refusals.{refuse◌when◌, ◌and_then◌, Verdict}
use Rattle.rules_routine.specs.Limits.{max_commands, max_routines}
use Rattle.rules_routine.specs.Routine.{routine_of, commands_check}
use Rattle.rules_routine.specs.declared.refusals.Refusal.{Refusal}
use Rattle.book_layout.specs.Numbers.{four_at}
use Rattle.book_layout.specs.Layout.{count_size, pair_size, offset_size, command_size, book_devices}
use Rattle.book_layout.specs.Layout.{pairs_end, count-of, offset_at, length_at, commands_at}
use Rattle.book_layout.specs.declared.Next.{Next}

-- ---- the check of the whole book

-- 18: "book ends inside count or pairs, or count above 64".
unfoldable pub head_check : List ℕ → Verdict
head_check b =
    refuse BookCutShort when (ltb (length b) count_size || ltb max_routines (count-of b) || ltb (length b) (pairs_end (count-of b)))

-- "length not 4 to 32 in fours", the other way round.
unfoldable pub length_fits : ℕ → Bool
length_fits n = leb command_size n && leb n (command_size * max_commands) && eqb (n % command_size) 0

-- Routine i, which the layout puts at a place: 20, 19, then its commands.
unfoldable pub placed_check : List ℕ → ℕ → ℕ → Verdict
placed_check b i at =
    refuse (BookLength i) when not (length_fits (length_at b i))
    and_then refuse BookMisplaced when (not (eqb (offset_at b i) at) || ltb (length b) (at + length_at b i))
    and_then commands_check book_devices 0 (commands_at b at (length_at b i / command_size))

-- The n routines from the i-th on, which begin at a place, each next where the one before ends; then bytes left over.
unfoldable pub placed_checks : List ℕ → ℕ → ℕ → ℕ → Verdict
placed_checks b i zero at = refuse BookMisplaced when ltb at (length b)
placed_checks b i (suc n) at = placed_check b i at and_then placed_checks b (suc i) n (at + length_at b i)

unfoldable pub book_check : List ℕ → Verdict
book_check b = head_check b and_then placed_checks b 0 (count-of b) (pairs_end (count-of b))

-- ---- routine by routine

-- The end, at a position.
abbrev pub end_at : ℕ → Next
end_at at = record { item = Ok None; position = at }

-- In an accepted book: if one of its pairs begins at the position, its routine is handed out, and the position moves to the next pair;
-- else this is the end.
unfoldable pub pair_next : List ℕ → ℕ → Next
pair_next b at =
    let from = four_at b at in
    let size = four_at b (at + offset_size) in
    if ltb at (pairs_end (count-of b)) && eqb (at % pair_size) count_size
    then record { item = Ok (Some (routine_of (commands_at b from (size / command_size)))); position = at + pair_size }
    else end_at at

-- A book that is turned down: its refusal, and position 0.
abbrev pub turns_down : Refusal → Next
turns_down r = record { item = Err r; position = 0 }

abbrev pub next_with : Verdict → List ℕ → ℕ → Next
next_with (Ok tt) b at = if eqb at 0 then pair_next b count_size else pair_next b at
next_with (Err r) b at = turns_down r

-- A step of reading. At every position "the whole book having been checked first"; position 0 is that of its first pair.
unfoldable pub next_of : List ℕ → ℕ → Next
next_of b at = next_with (book_check b) b at
