-- A book that is read, and what was read is written: the same bytes. Document 01, "The routine book". Assumes nothing.
use Rattle.rules_routine.specs.declared.refusals.Refusal.{Refusal}
use Rattle.rules_routine.specs.declared.refusals.Refusal.TheVariants.{NoRoom}
use Rattle.std.specs.Prelude.{List, ℕ, ltb, length, Result}
use Rattle.rules_routine.specs.Refusals.{refuse◌when◌, ◌and_then◌, Verdict}
use Rattle.book_layout.specs.Reading.{book_check}
use Rattle.book_layout.specs.Writing.{written_with, buffer_with}

-- The book's refusal; then 21, for a buffer of so many bytes.
unfoldable pub copy_check : List ℕ → ℕ → Verdict
copy_check b room = book_check b and_then refuse NoRoom when ltb room (length b)

-- The answer: the length of the same book, or the refusal.
unfoldable pub copied_of : List ℕ → ℕ → Result ℕ Refusal
copied_of b room = written_with (copy_check b room) b

-- The buffer afterwards: the same book over its first bytes, and nothing changed after them; on a refusal nothing changed at all.
unfoldable pub copy_after : List ℕ → List ℕ → List ℕ
copy_after b buffer = buffer_with (copy_check b (length buffer)) b buffer
