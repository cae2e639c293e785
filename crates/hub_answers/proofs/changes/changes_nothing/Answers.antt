-- `hub_answers::changes_nothing` meets its contract. Assumes nothing.
use mathlib.Core.Path.{sym}
use Rattle.hub_answers.proofs.Cases.{changes}
use Rattle.hub_answers.proofs.changes.changes_nothing.Goals as goal

pub returns-in_default-answer : goal.returns-in_default-answer
returns-in_default-answer c = sym (changes c.args.answer c.in_default.not-Refused c.in_default-answer.not-Wait)
