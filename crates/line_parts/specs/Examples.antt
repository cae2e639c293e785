-- Inputs that come in pieces, by computation. Assumes nothing.
use Rattle.std.specs.Prelude.{◌≡◌, refl, List, [], ◌++◌, ℕ, suc, length, replicate}
use Rattle.line_rules.specs.Text.{bytes, digit0}
use Rattle.rules_routine.specs.Limits.{max_line}
use Rattle.line_rules.specs.Program.{program_text}
use Rattle.line_rules.specs.Examples.{calc as calcLines}
use Rattle.line_parts.specs.Parts.{unended_from, unended, whole_lines, after, printed_after, pending_after}

-- All that a computation with pieces opens.
unfoldable pub calc : Unit {0}
unfolding calcLines unended_from unended whole_lines after
calc = tt

-- A line that two reads share: it is pending, and prints nothing before its end has come.
pub shared_line :
    (pending_after (bytes "O 1 0 1\nN ") ≡ bytes "N ") × (printed_after (bytes "O 1 0 1\nN ") ≡ bytes "opened\n")
    × (pending_after (bytes "O 1 0 1\nN " ++ bytes "7\n") ≡ [])
    × (printed_after (bytes "O 1 0 1\nN " ++ bytes "7\n") ≡ bytes "opened\nrefused 10\n")
unfolding calc
shared_line = (refl, refl, refl, refl)

-- A line that three reads share, longer than the longest: of its 202 bytes up to now one more than the longest has are pending; it is
-- unread.
abbrev two : List ℕ
two = (bytes "O 1 0 1\nN " ++ replicate 100 digit0) ++ replicate 100 digit0

abbrev three : List ℕ
three = two ++ bytes "1\nN"

pub long_line :
    (length (unended two) ≡ 202) × (length (pending_after two) ≡ suc max_line) × (printed_after two ≡ bytes "opened\n")
    × (printed_after three ≡ bytes "opened\nunread\n") × (pending_after three ≡ bytes "N")
unfolding calc
long_line = (refl, refl, refl, refl, refl)

-- No byte 10 at the end: the last line is pending, and printed when the input ends.
pub no_last_end :
    (pending_after (bytes "?\n?") ≡ bytes "?") × (printed_after (bytes "?\n?") ≡ bytes "unread\n")
    × (program_text (bytes "?\n?") ≡ bytes "unread\nunread\n")
unfolding calc
no_last_end = (refl, refl, refl)
