-- What is claimed of the definitions, beside the contracts of crates `book_read` and `book_write`. The theorems stand in
-- proofs/Theorems.antt. Assumes nothing.
use Rattle.rules_routine.specs.declared.refusals.Refusal.TheVariants.{DeviceNotBelow, SettingOutOfRange, TagOutOfRange, BookCutShort}
use Rattle.rules_routine.specs.declared.refusals.Refusal.TheVariants.{BookMisplaced, BookLength, ConditionAlone}
use Rattle.rules_routine.specs.declared.refusals.Refusal.{Refusal}
use Rattle.std.specs.Prelude.{◌≡◌, ◌⊎◌, ◌≢◌, List, [], ◌∷◌, ◌++◌, ℕ, zero, suc, ◌+◌, ◌*◌, ◌<◌, ◌≤◌, ℤ, length, take, Some, None, Ok, Err}
use Rattle.rules_routine.specs.Causes.{Exactly}
use Rattle.rules_routine.specs.Limits.{max_commands, lowest_setting, highest_setting, max_routines}
use Rattle.rules_routine.specs.Routine.{highest_tag, condition_tag, commands_of}
use Rattle.rules_routine.specs.declared.Command.{Command}
use Rattle.rules_routine.specs.declared.Routine.{Routine}
use Rattle.book_layout.specs.Numbers.{byte_at, two_at, bits_of}
use Rattle.book_layout.specs.Layout.{count_size, command_size, book_devices, pairs_end, count-of, offset_at, length_at}
use Rattle.book_layout.specs.Reading.{book_check, next_of}
use Rattle.book_layout.specs.Writing.{routines_lent, row_of, counts_of, devices_of, tags_of, settings_of, written_of, buffer_after}

-- ---- what is read

-- From a position the steps of reading hand out these routines, one a step, and then the end.
pub data Hands (b : List ℕ) : ℕ → List (List Command) → Type 0 where
  ends : {at : ℕ} → (next_of b at).item ≡ Ok None → Hands b at []
  hands : {at : ℕ} {r : List Command} {rs : List (List Command)} (q : Routine) →
      (next_of b at).item ≡ Ok (Some q) → commands_of q ≡ r → Hands b (next_of b at).position rs → Hands b at (r ∷ rs)

-- A list of bytes: no number above 255.
abbrev pub Bytes : List ℕ → Type 0
Bytes b = (i : ℕ) → byte_at b i < 256

-- (a) Whatever list of routines is written, reading what was written gives the same routines.
abbrev pub WriteThenRead : Type 0
WriteThenRead =
    (rs : List (List Command)) (buffer : List ℕ) (n : ℕ) → written_of rs (length buffer) ≡ Ok n →
    Hands (take n (buffer_after rs buffer)) 0 rs

-- (b) An accepted book is read to its end; and whatever was read of a book, written into any buffer that has the room, gives the same
-- bytes.
abbrev pub ReadThenWrite : Type 0
ReadThenWrite =
    (b : List ℕ) → Bytes b →
    (book_check b ≡ Ok tt → (rs : List (List Command)) × Hands b 0 rs)
    × ((rs : List (List Command)) → Hands b 0 rs → (buffer : List ℕ) → length b ≤ length buffer →
    (written_of rs (length buffer) ≡ Ok (length b)) × (take (length b) (buffer_after rs buffer) ≡ b))

-- ---- how routines are lent

-- What is lent of routines is those routines again, whatever is lent behind them.
abbrev pub LentAgain : Type 0
LentAgain =
    (rs : List (List Command)) (x y : List ℕ) (z : List ℤ) →
    routines_lent (counts_of rs) (devices_of rs ++ x) (tags_of rs ++ y) (settings_of rs ++ z) ≡ rs

-- Each routine has as many commands as its count says; and where they are written, all their parts were lent: nothing is written shorter.
abbrev pub WrittenWhole : Type 0
WrittenWhole =
    (ns ds ts : List ℕ) (ss : List ℤ) →
    let rs = routines_lent ns ds ts ss in
    let all = length (row_of rs) in
    (counts_of rs ≡ ns)
    × ((room n : ℕ) → written_of rs room ≡ Ok n →
    (devices_of rs ≡ take all ds) × (tags_of rs ≡ take all ts) × (settings_of rs ≡ take all ss))

-- ---- when a book is turned down

-- The tests of a book: of its head, of the length and the place of routine i, of the three parts of command j of routine i and, if it is a
-- condition, of what follows it, and of its end.
pub data Test : Type 0 where
  head : Test
  routine_length : ℕ → Test
  routine_place : ℕ → Test
  command_device : ℕ → ℕ → Test
  command_setting : ℕ → ℕ → Test
  command_tag : ℕ → ℕ → Test
  command_alone : ℕ → ℕ → Test
  left_over : Test

-- The order in which document 01, and for 22 document 02, item 4, makes them. Those of k commands from the j-th on:
unfoldable pub command_tests : ℕ → ℕ → ℕ → List Test
command_tests i j zero = []
command_tests i j (suc k) =
    command_device i j ∷ command_setting i j ∷ command_tag i j ∷ command_alone i j ∷ command_tests i (suc j) k

-- those of n routines from the i-th on:
unfoldable pub routine_tests : ℕ → ℕ → List Test
routine_tests i zero = []
routine_tests i (suc n) = routine_length i ∷ routine_place i ∷ (command_tests i 0 max_commands ++ routine_tests (suc i) n)

-- and all:
unfoldable pub tests : List Test
tests = head ∷ (routine_tests 0 max_routines ++ (left_over ∷ []))

-- The cause for which a test turns a book down.
abbrev pub cause_of : Test → Refusal
cause_of head = BookCutShort
cause_of (routine_length i) = BookLength i
cause_of (routine_place i) = BookMisplaced
cause_of (command_device i j) = DeviceNotBelow j
cause_of (command_setting i j) = SettingOutOfRange j
cause_of (command_tag i j) = TagOutOfRange j
cause_of (command_alone i j) = ConditionAlone j
cause_of left_over = BookMisplaced

-- Where the layout puts routine i: where the pairs end, and then where the routine before ends.
unfoldable pub place : List ℕ → ℕ → ℕ
place b zero = pairs_end (count-of b)
place b (suc i) = place b i + length_at b i

-- Book b breaks a test: said of its bytes, each test by itself. A routine is there if its index is below the count, and a command if
-- it begins before its routine's length is over. The 16 bits of a setting out of range lie between those of the highest and those of the
-- lowest. A condition is last where its routine's length is over behind it.
abbrev pub Breaks : List ℕ → Test → Type 0
Breaks b head = (length b < count_size) ⊎ ((max_routines < count-of b) ⊎ (length b < pairs_end (count-of b)))
Breaks b (routine_length i) = (i < count-of b) × ((k : ℕ) → 1 ≤ k → k ≤ max_commands → length_at b i ≢ command_size * k)
Breaks b (routine_place i) = (i < count-of b) × ((offset_at b i ≢ place b i) ⊎ (length b < place b i + length_at b i))
Breaks b (command_device i j) = (i < count-of b) × (command_size * j < length_at b i)
    × (book_devices ≤ byte_at b (place b i + command_size * j))
Breaks b (command_setting i j) =
    (i < count-of b) × (command_size * j < length_at b i)
    × (bits_of highest_setting < two_at b (place b i + command_size * j + 2))
    × (two_at b (place b i + command_size * j + 2) < bits_of lowest_setting)
Breaks b (command_tag i j) = (i < count-of b) × (command_size * j < length_at b i)
    × (highest_tag < byte_at b (place b i + command_size * j + 1))
Breaks b (command_alone i j) =
    (i < count-of b) × (command_size * j < length_at b i) × (byte_at b (place b i + command_size * j + 1) ≡ condition_tag)
    × ((length_at b i ≤ command_size * suc j) ⊎ (byte_at b (place b i + command_size * suc j + 1) ≡ condition_tag))
Breaks b left_over = place b (count-of b) < length b

-- (c) Each refusal is given exactly under its cause: the answer is a refusal r exactly if the first test that the book breaks turns down
-- with r; and a book is accepted exactly if it breaks none.
abbrev pub ExactRefusals : Type 0
ExactRefusals =
    (b : List ℕ) → Bytes b → Exactly (Breaks b) cause_of tests (λ r. book_check b ≡ Err r) (book_check b ≡ Ok tt)

-- ---- how much of a book has to be read

-- The longest book: 64 routines of 8 commands.
abbrev pub longest_book : ℕ
longest_book = pairs_end max_routines + max_routines * (command_size * max_commands)

-- (d) A book is judged by its first bytes, one more than the longest book has: what stands behind them changes nothing.
abbrev pub JudgedByFirstBytes : Type 0
JudgedByFirstBytes = (b : List ℕ) (n : ℕ) → longest_book < n → book_check (take n b) ≡ book_check b
