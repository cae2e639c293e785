-- The reader of a book: what its two functions give, and what a whole reading gives by them. Document 01: "The reader holds the lent book
-- and a position in it and, the whole book having been checked first, hands out routine by routine, then the end." The theorem stands in
-- proofs/Theorem.antt. Assumes nothing.
use Rattle.std.specs.Prelude.{◌≡◌, List, [], ℕ, suc, ◌<◌, ◌≤◌, length, get_or, Some, None, Ok, Err}
use Rattle.std.specs.Borrow.{Bor}
use Rattle.rules_routine.specs.Routine.{commands_of}
use Rattle.rules_routine.specs.declared.Command.{Command}
use Rattle.rules_routine.specs.declared.Routine.{Routine}
use Rattle.rules_routine.specs.declared.refusals.Refusal.{Refusal}
use Rattle.book_layout.specs.Claims.{Hands}
use Rattle.book_layout.specs.Reading.{book_check, turns_down, next_of}
use Rattle.book_layout.specs.declared.Next.{Next}
use Rattle.book_read.specs.declared.reader.BookReader.{BookReader}

-- ---- the contracts

-- `start`: a reader at the beginning of the lent book.
pub record Started (book : Bor (List ℕ)) (reader : BookReader) : Type 0 where
  pub holds : reader.book ≡ book
  pub beginning : reader.position ≡ 0

-- `advance`: the step of reading at the reader's position; the reader is moved on in the same book.
pub record Advanced (before after : BookReader) (step : Next) : Type 0 where
  pub read : step ≡ next_of before.book.now before.position
  pub same_book : after.book ≡ before.book
  pub moved_on : after.position ≡ step.position

-- ---- a whole reading

-- n steps from a reader just started: step k is an `advance` of the reader that the step before left.
pub record Reading (book : Bor (List ℕ)) (n : ℕ) (reader : ℕ → BookReader) (step : ℕ → Next) : Type 0 where
  pub started : Started book (reader 0)
  pub advanced : (k : ℕ) → k < n → Advanced (reader k) (reader (suc k)) (step k)

-- A step hands out a routine of these commands.
pub record HandsOut (step : Next) (commands : List Command) : Type 0 where
  pub routine : Routine
  pub handed : step.item ≡ Ok (Some routine)
  pub same : commands_of routine ≡ commands

-- What the steps hand out of book b.
pub record Reads (b : List ℕ) (n : ℕ) (step : ℕ → Next) : Type 0 where
  -- The whole book is checked first: of a refused one no routine is ever handed out, since each step turns it down.
  pub refused : (r : Refusal) → book_check b ≡ Err r → (k : ℕ) → k < n → step k ≡ turns_down r
  -- Of an accepted one (which has such routines: `ReadThenWrite`) routine by routine, then the end.
  pub accepted : (rs : List (List Command)) → book_check b ≡ Ok tt → Hands b 0 rs → (k : ℕ) → k < n →
      (k < length rs → HandsOut (step k) (get_or rs k [])) × (length rs ≤ k → (step k).item ≡ Ok None)

-- For every reading: "the whole book having been checked first, hands out routine by routine, then the end".
abbrev pub RoutineByRoutine : Type 0
RoutineByRoutine =
    (book : Bor (List ℕ)) (n : ℕ) (reader : ℕ → BookReader) (step : ℕ → Next) → Reading book n reader step → Reads book.now n step
