-- Worked books, by computation. The first two are document 01's ★ examples. Assumes nothing.
use Rattle.rules_routine.specs.declared.refusals.Refusal.{Refusal}
use Rattle.rules_routine.specs.Refusals.{numbered, indexed, Verdict}
use Rattle.std.specs.Prelude.{◌≡◌, refl, List, [], ◌∷◌, ◌++◌, ℕ, suc, ℤ, pos, negsuc, take, Option, Some, None, Ok, Err, Result}
use Rattle.rules_routine.specs.Limits.{first_bytes}
use Rattle.rules_routine.specs.Range.{in_range}
use Rattle.rules_routine.specs.Routine.{routine_of, command_check, stands_alone, commands_check, routine_check}
use Rattle.rules_routine.specs.declared.Command.{Command}
use Rattle.rules_routine.specs.declared.Routine.{Routine}
use Rattle.book_layout.specs.Numbers.{two_bytes, four_bytes, two_at, four_at, bits_of, setting_of}
use Rattle.book_layout.specs.Layout.{command_bytes, book_bytes, count-of, offset_at, length_at, command_at}
use Rattle.book_layout.specs.Reading.{head_check, length_fits, placed_check, placed_checks, book_check, pair_next, turns_down, next_of}
use Rattle.book_layout.specs.Claims.{longest_book}
use Rattle.book_layout.specs.Writing.{routines_lent, routines_check, write_check, written_of, buffer_after}

-- All that a computation opens.
abbrev calc : Unit {0}
unfolding in_range command_check stands_alone commands_check routine_check two_bytes four_bytes two_at four_at bits_of setting_of
    command_bytes book_bytes count-of offset_at length_at command_at head_check length_fits placed_check placed_checks book_check pair_next
    next_of
    routine_of routines_check write_check written_of buffer_after
calc = tt

abbrev command : ℕ → ℕ → ℤ → Command
command d t s = record { device = d; tag = t; setting = s }

-- A book, what the check of it gives, and what reading it gives first.
pub record Example : Type 0 where
  pub book : List ℕ
  pub verdict : Verdict
  pub first : Result (Option Routine) Refusal

abbrev pub Holds : Example → Type 0
Holds e = (book_check e.book ≡ e.verdict) × ((next_of e.book 0).item ≡ e.first)

abbrev pub AllHold : List Example → Type 0
AllHold [] = Unit {0}
AllHold (e ∷ l) = Holds e × AllHold l

-- ★ "Book `00 00` is empty and accepted"
abbrev pub empty_book : Example
empty_book = record { book = 0 ∷ 0 ∷ []; verdict = Ok tt; first = Ok None }

-- ★ "`00` is refused (18)"
abbrev pub cut_book : Example
cut_book = record { book = 0 ∷ []; verdict = Err (numbered 18); first = Err (numbered 18) }

-- Those with ★.
abbrev pub book_examples : List Example
book_examples = empty_book ∷ cut_book ∷ []

pub book_examples_hold : AllHold book_examples
unfolding calc
book_examples_hold = ((refl, refl), ((refl, refl), tt))

-- Two routines, of two commands and one: device 0 to 50 and lamp 31, best-effort, to −1,000; device 0 to 70.
abbrev two : List (List Command)
two = (command 0 0 (pos 50) ∷ command 31 1 (negsuc 999) ∷ []) ∷ (command 0 0 (pos 70) ∷ []) ∷ []

-- Count 2; the pairs 18, 8 and 26, 4; the commands.
abbrev bytes : List ℕ
bytes = 2 ∷ 0 ∷ 18 ∷ 0 ∷ 0 ∷ 0 ∷ 8 ∷ 0 ∷ 0 ∷ 0 ∷ 26 ∷ 0 ∷ 0 ∷ 0 ∷ 4 ∷ 0 ∷ 0 ∷ 0 ∷ 0 ∷ 0 ∷ 50 ∷ 0 ∷ 31 ∷ 1 ∷ 24 ∷ 252 ∷ 0 ∷ 0 ∷ 70 ∷ 0 ∷ []

pub written : (book_bytes two ≡ bytes) × (written_of two 30 ≡ Ok 30) × (written_of two 29 ≡ Err (numbered 21))
unfolding calc
written = (refl, refl, refl)

-- Each routine in turn, then the end.
pub read : (book_check bytes ≡ Ok tt)
    × ((next_of bytes 0).item ≡ Ok (Some (routine_of (command 0 0 (pos 50) ∷ command 31 1 (negsuc 999) ∷ []))))
    × ((next_of bytes 0).position ≡ 10) × ((next_of bytes 10).item ≡ Ok (Some (routine_of (command 0 0 (pos 70) ∷ []))))
    × ((next_of bytes 18).item ≡ Ok None)
unfolding calc
read = (refl, refl, refl, refl, refl)

-- One routine with a command of device 255, tag 255, setting −1: the book is turned down at position 0, at the place of its pair, and
-- at every other.
abbrev wrong_device : List ℕ
wrong_device = 1 ∷ 0 ∷ 10 ∷ 0 ∷ 0 ∷ 0 ∷ 4 ∷ 0 ∷ 0 ∷ 0 ∷ 255 ∷ 255 ∷ 255 ∷ 255 ∷ []

pub not_read : (book_check wrong_device ≡ Err (indexed 5 0)) × (next_of wrong_device 0 ≡ turns_down (indexed 5 0))
    × (next_of wrong_device 2 ≡ turns_down (indexed 5 0)) × (next_of wrong_device 10 ≡ turns_down (indexed 5 0))
unfolding calc
not_read = (refl, refl, refl, refl)

-- Cut short, with a byte left over, with a device that no book has, with a setting of 1,001 (its low byte at 20 is 233, its high byte 3).
pub turned-down : (book_check (take 17 bytes) ≡ Err (numbered 18)) × (book_check (take 29 bytes) ≡ Err (numbered 19))
    × (book_check (bytes ++ (0 ∷ [])) ≡ Err (numbered 19))
    × (book_check (take 22 bytes ++ (32 ∷ 1 ∷ 24 ∷ 252 ∷ 0 ∷ 0 ∷ 70 ∷ 0 ∷ [])) ≡ Err (indexed 5 1))
    × (book_check (take 20 bytes ++ (233 ∷ 3 ∷ 31 ∷ 1 ∷ 24 ∷ 252 ∷ 0 ∷ 0 ∷ 70 ∷ 0 ∷ [])) ≡ Err (indexed 6 0))
unfolding calc
turned-down = (refl, refl, refl, refl, refl)

-- ---- settings of two bytes

-- The edges of the two cases, and of the range of settings; and back.
pub signs : (setting_of 0 0 ≡ pos 0) × (setting_of 232 3 ≡ pos 1000) × (setting_of 255 127 ≡ pos 32767)
    × (setting_of 0 128 ≡ negsuc 32767) × (setting_of 24 252 ≡ negsuc 999) × (setting_of 255 255 ≡ negsuc 0)
unfolding calc
signs = (refl, refl, refl, refl, refl, refl)

pub signs_back : (two_bytes (bits_of (pos 0)) ≡ 0 ∷ 0 ∷ []) × (two_bytes (bits_of (pos 1000)) ≡ 232 ∷ 3 ∷ [])
    × (two_bytes (bits_of (pos 32767)) ≡ 255 ∷ 127 ∷ []) × (two_bytes (bits_of (negsuc 32767)) ≡ 0 ∷ 128 ∷ [])
    × (two_bytes (bits_of (negsuc 999)) ≡ 24 ∷ 252 ∷ []) × (two_bytes (bits_of (negsuc 0)) ≡ 255 ∷ 255 ∷ [])
unfolding calc
signs_back = (refl, refl, refl, refl, refl, refl)

-- ---- routines lent

-- What writing answers for routines that are lent, where there is room.
abbrev answered : List ℕ → List ℕ → List ℕ → List ℤ → Result ℕ Refusal
answered ns ds ts ss = written_of (routines_lent ns ds ts ss) 100

abbrev eight : {A : Type 0} → A → List A
eight x = x ∷ x ∷ x ∷ x ∷ x ∷ x ∷ x ∷ x ∷ []

-- A count is the caller's word: 9 with eight commands lent, and 0, are refused with 4; eight with eight lent is written.
pub counted : (answered (9 ∷ []) (eight 0) (eight 0) (eight (pos 0)) ≡ Err (numbered 4))
    × (answered (0 ∷ []) (eight 0) (eight 0) (eight (pos 0)) ≡ Err (numbered 4))
    × (answered (8 ∷ []) (eight 0) (eight 0) (eight (pos 0)) ≡ Ok 42)
unfolding calc
counted = (refl, refl, refl)

-- Three commands with one lent: the second is not there. Of two commands, the second without its device, its setting, its tag.
pub not_all_there : (answered (3 ∷ []) (0 ∷ []) (0 ∷ []) (pos 0 ∷ []) ≡ Err (indexed 5 1))
    × (answered (2 ∷ []) (0 ∷ []) (0 ∷ 0 ∷ []) (pos 0 ∷ pos 0 ∷ []) ≡ Err (indexed 5 1))
    × (answered (2 ∷ []) (0 ∷ 0 ∷ []) (0 ∷ 0 ∷ []) (pos 0 ∷ []) ≡ Err (indexed 6 1))
    × (answered (2 ∷ []) (0 ∷ 0 ∷ []) (0 ∷ []) (pos 0 ∷ pos 0 ∷ []) ≡ Err (indexed 7 1))
unfolding calc
not_all_there = (refl, refl, refl, refl)

-- Commands left over, whole and in part, bad ones too, belong to no routine.
pub left_over : (answered (1 ∷ []) (0 ∷ 255 ∷ []) (0 ∷ 9 ∷ 9 ∷ []) (pos 0 ∷ []) ≡ Ok 14)
    × (answered [] (0 ∷ []) (0 ∷ []) (pos 0 ∷ []) ≡ Ok 2)
unfolding calc
left_over = (refl, refl)

-- ---- conditions (document 02, item 4)

-- A book of one routine with these commands' bytes.
abbrev one_routine : ℕ → List ℕ → List ℕ
one_routine size commands = 1 ∷ 0 ∷ 10 ∷ 0 ∷ 0 ∷ 0 ∷ size ∷ 0 ∷ 0 ∷ 0 ∷ commands

-- Below 20 on device 3 nothing is done with device 4: read and written. The condition alone; followed by another; behind its command.
-- A tag of 3 is 7. 22 of a command comes before 5 of the next.
pub conditions : (book_check (one_routine 8 (3 ∷ 2 ∷ 20 ∷ 0 ∷ 4 ∷ 0 ∷ 70 ∷ 0 ∷ [])) ≡ Ok tt)
    × (book_bytes ((command 3 2 (pos 20) ∷ command 4 0 (pos 70) ∷ []) ∷ []) ≡ one_routine 8 (3 ∷ 2 ∷ 20 ∷ 0 ∷ 4 ∷ 0 ∷ 70 ∷ 0 ∷ []))
    × (book_check (one_routine 4 (3 ∷ 2 ∷ 20 ∷ 0 ∷ [])) ≡ Err (indexed 22 0))
    × (book_check (one_routine 12 (3 ∷ 2 ∷ 20 ∷ 0 ∷ 3 ∷ 2 ∷ 20 ∷ 0 ∷ 4 ∷ 0 ∷ 70 ∷ 0 ∷ [])) ≡ Err (indexed 22 0))
    × (book_check (one_routine 8 (4 ∷ 0 ∷ 70 ∷ 0 ∷ 3 ∷ 2 ∷ 20 ∷ 0 ∷ [])) ≡ Err (indexed 22 1))
    × (book_check (one_routine 4 (3 ∷ 3 ∷ 20 ∷ 0 ∷ [])) ≡ Err (indexed 7 0))
    × (book_check (one_routine 8 (3 ∷ 2 ∷ 20 ∷ 0 ∷ 32 ∷ 2 ∷ 70 ∷ 0 ∷ [])) ≡ Err (indexed 22 0))
    × (book_check (one_routine 8 (3 ∷ 2 ∷ 20 ∷ 0 ∷ 32 ∷ 0 ∷ 70 ∷ 0 ∷ [])) ≡ Err (indexed 5 1))
    × (written_of ((command 4 0 (pos 70) ∷ command 3 2 (pos 20) ∷ []) ∷ []) 100 ≡ Err (indexed 22 1))
unfolding calc
conditions = (refl, refl, refl, refl, refl, refl, refl, refl, refl)

-- The number of bytes that judge a book, among the limits, is one more than the longest book has.
pub first-bytes : suc longest_book ≡ first_bytes
first-bytes = refl
