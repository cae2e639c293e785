-- `line::lines::routine_in` meets its contract. Assumes nothing.
use Rattle.std.proofs.Common.{ap, ◌∙◌}
use Rattle.rules_routine.specs.Routine.{commands_of}
use Rattle.line.proofs.LineLaws.{none_joins}
use Rattle.line.proofs.lines.routine_in.Goals as goal

pub returns-in_default : goal.returns-in_default
returns-in_default c = ap commands_of c.empty.ensures ∙ none_joins _ c.in_default.not-Submit
