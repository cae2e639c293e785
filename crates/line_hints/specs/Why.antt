-- Why a line prints `unread`: the first of these reasons that is so, in the order in which they are tested. Which lines print it is
-- document 01's ("The line program") and said in crate `line_rules`; which reason is told of one is said here. Assumes nothing.
use Rattle.std.specs.Prelude.{Bool, true, false, ◌&&◌, ◌||◌, List, [], ◌∷◌, ℕ, ◌-◌, ◌%◌, leb, ltb, eqb, length, get_or, drop, if◌then◌else◌}
use Rattle.std.specs.Prelude.{Option, None, Some}
use Rattle.std.specs.List.{list_any, list_all, zip}
use Rattle.line_rules.specs.Text.{space, minus}
use Rattle.line_rules.specs.Pieces.{words_of}
use Rattle.rules_routine.specs.Limits.{max_line}
use Rattle.line_rules.specs.Reading.{is_digit, Line, opening, calling, unread, read_line}
use Rattle.line_read.specs.View.{letter_of}
use Rattle.line_hints.specs.declared.Hint.{Hint}
use Rattle.line_hints.specs.declared.Hint.TheVariants.{TooLong, Empty, CarriageReturn, OtherByte, SpaceAtEnd, SpaceAtStart}
use Rattle.line_hints.specs.declared.Hint.TheVariants.{SpacesTogether, LowerCase, NoCall, TooFew, TooMany, NoNumber, OutsideWidth}
use Rattle.line_hints.specs.declared.Hint.TheVariants.{NoHub}

-- ---- bytes

abbrev pub carriage_return : ℕ
carriage_return = 13

-- Does this byte stand in the line?
abbrev pub has_byte : ℕ → List ℕ → Bool
has_byte byte line = list_any (λ b. eqb b byte) line

-- The last of the printable characters of ASCII; the first is the space.
abbrev pub last_printable : ℕ
last_printable = 126

-- A byte that no line has: a control character, or one that is not ASCII.
abbrev pub is_other : ℕ → Bool
is_other b = ltb b space || ltb last_printable b

abbrev pub has_other : List ℕ → Bool
has_other line = list_any is_other line

-- Of a line with bytes. (Of one without, 0.)
abbrev pub first_byte : List ℕ → ℕ
first_byte line = get_or line 0 0

abbrev pub last_byte : List ℕ → ℕ
last_byte line = get_or line (length line - 1) 0

-- "Single spaces part the words": do two stand side by side?
abbrev pub spaces_together : List ℕ → Bool
spaces_together line = list_any (λ p. eqb p.0 space && eqb p.1 space) (zip line (drop 1 line))

-- ---- numbers

-- "a number is decimal digits"; one at least.
abbrev pub some_digits : List ℕ → Bool
some_digits word = ltb 0 (length word) && list_all is_digit word

-- "perhaps with a minus before it": here of every word, so that −1 for an id is a number outside its width.
abbrev pub is_number : List ℕ → Bool
is_number [] = false
is_number (b ∷ bs) = if eqb b minus then some_digits bs else some_digits (b ∷ bs)

abbrev pub all_numbers : List (List ℕ) → Bool
all_numbers ws = list_all is_number ws

-- ---- words behind the letter

-- As many words as the call has, and the line is unread all the same: one is no number, or a number is outside its width.
abbrev pub by_numbers : List (List ℕ) → Hint
by_numbers ws = if all_numbers ws then OutsideWidth else NoNumber

-- A call with so many words.
unfoldable pub by_count : ℕ → List (List ℕ) → Hint
by_count n ws = if ltb (length ws) n then TooFew else if ltb n (length ws) then TooMany else by_numbers ws

-- "device tag setting repeated": three words for each command.
unfoldable pub by_commands : List (List ℕ) → Hint
by_commands ws = if eqb (length ws % 3) 0 then by_numbers ws else TooFew

-- ---- the letter

-- One of 01's letters.
unfoldable pub is_letter : ℕ → Bool
is_letter b =
    eqb b (letter_of "O")
    || eqb b (letter_of "S")
    || eqb b (letter_of "N")
    || eqb b (letter_of "D")
    || eqb b (letter_of "B")
    || eqb b (letter_of "C")
    || eqb b (letter_of "F")
    || eqb b (letter_of "R")

-- In ASCII the lower case of a letter stands so far behind it.
abbrev pub lower_case : ℕ
lower_case = 32

unfoldable pub is_lower : ℕ → Bool
is_lower b = leb lower_case b && is_letter (b - lower_case)

-- `O` has three words, `R` two, `S` three for each command, every other call one.
unfoldable pub by_letter : ℕ → List (List ℕ) → Hint
by_letter b ws =
    if eqb b (letter_of "O") then by_count 3 ws
    else if eqb b (letter_of "R") then by_count 2 ws
    else if eqb b (letter_of "S") then by_commands ws
    else if is_letter b then by_count 1 ws
    else if is_lower b then LowerCase
    else NoCall

-- A first word of several bytes is no letter.
unfoldable pub by_words : List (List ℕ) → Hint
by_words [] = NoCall
by_words ([] ∷ ws) = NoCall
by_words ((b ∷ []) ∷ ws) = by_letter b ws
by_words ((b ∷ c ∷ bs) ∷ ws) = NoCall

-- ---- lines

-- Of a line that is unread, whatever hub there is.
unfoldable pub why : List ℕ → Hint
why line =
    if ltb max_line (length line) then TooLong
    else if eqb (length line) 0 then Empty
    else if has_byte carriage_return line then CarriageReturn
    else if has_other line then OtherByte
    else if eqb (last_byte line) space then SpaceAtEnd
    else if eqb (first_byte line) space then SpaceAtStart
    else if spaces_together line then SpacesTogether
    else by_words (words_of line)

-- By what the line says. A call is read once a hub was opened: "before an accepted `O`, prints `unread`".
abbrev pub hint_by : Bool → Line → List ℕ → Option Hint
hint_by opened (opening n k first) line = None
hint_by true (calling c) line = None
hint_by false (calling c) line = Some NoHub
hint_by opened unread line = Some (why line)

-- What is told of a line, where a hub was opened before it or not.
unfoldable pub hint_of : Bool → List ℕ → Option Hint
hint_of opened line = hint_by opened (read_line line) line
