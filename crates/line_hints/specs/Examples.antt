-- What is told of worked lines, by computation. Assumes nothing.
use Rattle.std.specs.Prelude.{◌≡◌, refl, true, false, List, [], ◌∷◌, ◌++◌, replicate, Option, None, Some}
use Prim.Native.String.{String}
use Rattle.line_rules.specs.Text.{bytes, digit0}
use Rattle.line_rules.specs.Examples.{calc}
use Rattle.line_hints.specs.Why.{by_count, by_commands}
use Rattle.line_hints.specs.Why.{is_letter, is_lower, by_letter, by_words, why, hint_of}
use Rattle.line_hints.specs.declared.Hint.{Hint}
use Rattle.line_hints.specs.declared.Hint.TheVariants.{TooLong, Empty, CarriageReturn, OtherByte, SpaceAtEnd, SpaceAtStart}
use Rattle.line_hints.specs.declared.Hint.TheVariants.{SpacesTogether, LowerCase, NoCall, TooFew, TooMany, NoNumber, OutsideWidth}
use Rattle.line_hints.specs.declared.Hint.TheVariants.{NoHub}

-- All that a computation with the reasons opens.
unfoldable pub calc_hints : Unit {0}
unfolding calc by_count by_commands is_letter is_lower by_letter by_words
    why hint_of
calc_hints = tt

-- A line, and what is told of it where a hub was opened.
pub record Told : Type 0 where
  pub line : String
  pub hint : Option Hint

abbrev told : List Told → List (Option Hint)
told [] = []
told (t ∷ l) = hint_of true (bytes t.line) ∷ told l

abbrev expected : List Told → List (Option Hint)
expected [] = []
expected (t ∷ l) = t.hint ∷ expected l

infix 70 ◌is◌
abbrev ◌is◌ : String → Hint → Told
line is h = record { line = line; hint = Some h }

abbrev plain : String → Told
plain line = record { line = line; hint = None }

-- Lines that are read.
abbrev read : List Told
read = plain "O 3 2 1" ∷ plain "S" ∷ plain "S 0 0 -1000" ∷ plain "N 4294967295" ∷ plain "R 255 -32768" ∷ []

pub read_so : told read ≡ expected read
unfolding calc_hints
read_so = refl

-- By bytes and spaces.
abbrev by_spaces : List Told
by_spaces =
    "" is Empty ∷ "N 1\r" is CarriageReturn ∷ "N\t1" is OtherByte ∷ "N 1 " is SpaceAtEnd ∷ " N 1" is SpaceAtStart ∷ "N  1" is SpacesTogether
    ∷ " " is SpaceAtEnd ∷ []

pub spaces_so : told by_spaces ≡ expected by_spaces
unfolding calc_hints
spaces_so = refl

-- By the first word.
abbrev by_first : List Told
by_first = "n 1" is LowerCase ∷ "s 0 0 5" is LowerCase ∷ "n" is LowerCase ∷ "x 1" is NoCall ∷ "NN 1" is NoCall ∷ "1" is NoCall ∷ []

pub first_so : told by_first ≡ expected by_first
unfolding calc_hints
first_so = refl

-- By how many words there are.
abbrev by_words_left : List Told
by_words_left =
    "O 3 2" is TooFew ∷ "O 3 2 1 1" is TooMany ∷ "N" is TooFew ∷ "N 1 2" is TooMany ∷ "R 0" is TooFew ∷ "R 0 5 5" is TooMany ∷ "S 0 0" is TooFew
    ∷ "S 0 0 5 1" is TooFew ∷ []

pub words_so : told by_words_left ≡ expected by_words_left
unfolding calc_hints
words_so = refl

-- By numbers.
abbrev by_number : List Told
by_number =
    "N x" is NoNumber ∷ "N -" is NoNumber ∷ "N --1" is NoNumber ∷ "N +1" is NoNumber ∷ "S 0 0 5x" is NoNumber ∷ "N -1" is OutsideWidth
    ∷ "N 4294967296" is OutsideWidth ∷ "F 256" is OutsideWidth ∷ "R 0 32768" is OutsideWidth ∷ "R 0 -32769" is OutsideWidth
    ∷ "O 256 x 1" is NoNumber ∷ []

pub numbers_so : told by_number ≡ expected by_number
unfolding calc_hints
numbers_so = refl

-- A line of 128 bytes, and of 129.
pub long_so : (hint_of true (bytes "N " ++ replicate 126 digit0) ≡ None) × (hint_of true (bytes "N " ++ replicate 127 digit0) ≡ Some TooLong)
unfolding calc_hints
long_so = (refl, refl)

-- Before an accepted `O`: a call is not read, an opening is; of a line of another shape the reason is the same.
pub no_hub_so : (hint_of false (bytes "N 1") ≡ Some NoHub) × (hint_of false (bytes "O 1 0 1") ≡ None) × (hint_of false (bytes "n 1") ≡ Some LowerCase)
unfolding calc_hints
no_hub_so = (refl, refl, refl)
