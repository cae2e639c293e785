-- The line program of an input that is still being read: what all bytes read so far print, and what is pending of the line whose end has
-- not come. Assumes nothing.
use Rattle.std.specs.Prelude.{List, [], ◌∷◌, ◌++◌, ℕ, ◌-◌, eqb, length, take, if◌then◌else◌, Option, None}
use Rattle.rules.specs.State.{State}
use Rattle.line_rules.specs.Text.{line_end}
use Rattle.line_rules.specs.Pieces.{lines_of}
use Rattle.line_rules.specs.Program.{Printed, steps}
use Rattle.line_rules.specs.Claims.{cut}

-- The bytes behind the last byte 10, of bytes behind those pending already.
unfoldable pub unended_from : List ℕ → List ℕ → List ℕ
unended_from pending [] = pending
unended_from pending (b ∷ bs) = if eqb b line_end then unended_from [] bs else unended_from (pending ++ (b ∷ [])) bs

-- The line whose end has not come: the bytes behind the last byte 10.
unfoldable pub unended : List ℕ → List ℕ
unended read = unended_from [] read

-- The lines whose end has come: the bytes up to the last byte 10, and that byte.
unfoldable pub whole_lines : List ℕ → List ℕ
whole_lines read = take (length read - length (unended read)) read

-- What the whole lines of all bytes read so far leave and print.
unfoldable pub after : List ℕ → Printed
after read = steps None (lines_of (whole_lines read))

abbrev pub hub_after : List ℕ → Option State
hub_after read = (after read).hub

abbrev pub printed_after : List ℕ → List ℕ
printed_after read = (after read).text

-- What is pending of the line whose end has not come: of one that is too long already, one byte more than the longest has, so that it stays
-- too long.
abbrev pub pending_after : List ℕ → List ℕ
pending_after read = cut (unended read)
