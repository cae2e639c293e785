-- Document 01, "When a call is turned down": the causes of writing, each said by itself in the table's words over the routines and the
-- buffer; the order in which they are tested; and what `exact_writing` (proofs/Theorems.antt) says: each number under its cause alone.
-- Causes 4 to 7 and 22, and what "each under its cause alone" means, stand in `specs/Causes.antt` of crate `rules_routine`. Assumes
-- nothing.
use Rattle.rules_routine.specs.declared.refusals.Refusal.TheVariants.{NoRoom}
use Rattle.std.specs.Prelude.{◌≡◌, ◌⊎◌, List, [], ◌∷◌, ◌++◌, map, ℕ, zero, suc, ◌<◌, length, get_or, Result, Ok, Err}
use Rattle.rules_routine.specs.Causes.{Exactly, RoutineCause, routine_causes}
use Rattle.rules_routine.specs.declared.Command.{Command}
use Rattle.rules_routine.specs.declared.refusals.Refusal.{Refusal}
use Rattle.rules_routine.specs.Limits.{max_routines}
use Rattle.book_layout.specs.Layout.{book_devices, book_bytes}
use Rattle.book_layout.specs.Writing.{written_of, buffer_after}

-- The tests of writing: of routine j for a cause of a routine (4 to 7, 22), and of the room.
pub data WriteTest : Type 0 where
  of_routine : ℕ → Refusal → WriteTest
  of_room : WriteTest

abbrev pub write_cause_of : WriteTest → Refusal
write_cause_of (of_routine j cause) = cause
write_cause_of of_room = NoRoom

-- Routine j, where there is one: where j is below the number of routines.
abbrev pub routine_no : ℕ → List (List Command) → List Command
routine_no j rs = get_or rs j []

-- The cause of a test holds of these routines and a buffer of so many bytes. 21: "over 64 routines to write, or buffer too short".
abbrev pub WritingCause : List (List Command) → ℕ → WriteTest → Type 0
WritingCause rs room (of_routine j cause) = (j < length rs) × RoutineCause book_devices (routine_no j rs) cause
WritingCause rs room of_room = (max_routines < length rs) ⊎ (room < length (book_bytes rs))

-- "the routines in turn (4, then commands)": those of n routines from the j-th on,
abbrev pub routines_tests : ℕ → ℕ → List WriteTest
routines_tests j zero = []
routines_tests j (suc n) = map (of_routine j) routine_causes ++ routines_tests (suc j) n

-- "then 21"
abbrev pub write_tests : List (List Command) → List WriteTest
write_tests rs = routines_tests 0 (length rs) ++ (of_room ∷ [])

-- Writing these routines is answered with the refusal r exactly if the first cause that holds has r, and with the book's length exactly
-- if none holds. After a refusal the buffer is as it was.
pub record ExactWrite (rs : List (List Command)) (before after : List ℕ) (answer : Result ℕ Refusal) : Type 0 where
  pub exact :
      Exactly (WritingCause rs (length before)) write_cause_of (write_tests rs)
      (λ r. answer ≡ Err r) (answer ≡ Ok (length (book_bytes rs)))
  pub left_as_it_was : (r : Refusal) → answer ≡ Err r → after ≡ before

-- So for every answer and every buffer that the contract of `book_write::write` gives.
abbrev pub ExactWriting : Type 0
ExactWriting =
    (rs : List (List Command)) (before after : List ℕ) (answer : Result ℕ Refusal) →
    answer ≡ written_of rs (length before) → after ≡ buffer_after rs before → ExactWrite rs before after answer
