-- Words by their places: the words of a line from a place on. Assumes nothing.
use Rattle.std.specs.Prelude.{◌≡◌, List, [], ◌∷◌, ℕ, ◌+◌, ◌≤◌, leb, eqb, ℤ, length, take, drop, if◌then◌else◌, Option, None, Some}
use Rattle.line_rules.specs.Text.{space}
use Rattle.line_rules.specs.Pieces.{pieces, reach}
use Rattle.line_rules.specs.Reading.{number_up_to, setting, commands}
use Rattle.rules_routine.specs.declared.Command.{Command}

-- Where the words behind a line's letter begin.
abbrev pub behind_letter : ℕ
behind_letter = 2

-- The word that begins at a place of a line, and where it ends.
unfoldable pub word_at : List ℕ → ℕ → List ℕ
word_at line at = take (reach space (drop at line)) (drop at line)

unfoldable pub word_end : List ℕ → ℕ → ℕ
word_end line at = at + reach space (drop at line)

-- The words of a line from a place on; past the line's end there are none.
unfoldable pub words_from : List ℕ → ℕ → List (List ℕ)
words_from line at = if leb at (length line) then pieces space (drop at line) else []

-- What that word says, as it is read: with where the word ends.
abbrev pub ending : {A : Type 0} → Option A → ℕ → Option (A × ℕ)
ending None end = None
ending (Some a) end = Some (a, end)

-- One that was read to the end of its word: a word of no bytes is none.
abbrev pub found_from : ℕ → ℕ → ℕ → Option (ℕ × ℕ)
found_from value from end = if eqb from end then None else Some (value, end)

unfoldable pub number_at : ℕ → List ℕ → ℕ → Option (ℕ × ℕ)
number_at highest line at = ending (number_up_to highest (word_at line at)) (word_end line at)

unfoldable pub setting_at : List ℕ → ℕ → Option (ℤ × ℕ)
setting_at line at = ending (setting (word_at line at)) (word_end line at)

abbrev pub command_behind : Command → Option (List Command) → Option (List Command)
command_behind c None = None
command_behind c (Some cs) = Some (c ∷ cs)

-- A command that begins at a place within a line, and the commands behind it; if there is none, the line has another shape.
abbrev pub CommandAt : List ℕ → ℕ → Option (Command × ℕ) → Type 0
CommandAt line from (Some (c, end)) =
    (from ≤ end) × (end ≤ length line) × (commands (words_from line from) ≡ command_behind c (commands (words_from line (end + 1))))
CommandAt line from None = from ≤ length line → commands (words_from line from) ≡ None
