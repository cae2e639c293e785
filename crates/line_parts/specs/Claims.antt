-- What is claimed of the line program over an input that comes in parts; proved in proofs/PartLaws.antt and Theorem.antt. Assumes nothing.
use Rattle.std.specs.Prelude.{◌≡◌, List, ◌++◌, ℕ, length, take}
use Rattle.line_rules.specs.Text.{line_end}
use Rattle.line_rules.specs.Pieces.{reach}
use Rattle.line_rules.specs.Program.{program_text}
use Rattle.line_rules.specs.Claims.{WholeLines}
use Rattle.hub.specs.declared.Hub.{Hub}
use Rattle.line_parts.specs.Parts.{unended, whole_lines}
use Rattle.line_parts.specs.Contract.{TakesEnd, Taken}

-- Bytes are their whole lines and then the line whose end has not come, which has no byte 10.
abbrev pub PartedAtTheLastEnd : Type 0
PartedAtTheLastEnd =
    (read : List ℕ) →
    (whole_lines read ++ unended read ≡ read) × WholeLines (whole_lines read) × (reach line_end (unended read) ≡ length (unended read))

-- However an input is cut into parts: the texts that the steps hand out, one behind the other, are what the line program prints of the
-- whole.
abbrev pub PrintsTheWhole : Type 0
PrintsTheWhole =
    (read text : List ℕ) (h : Hub) (pending : ℕ) (input out' : List ℕ) (long : ℕ) →
    Taken read text h (take pending input) → TakesEnd h pending input out' long → program_text read ≡ text ++ take long out'
