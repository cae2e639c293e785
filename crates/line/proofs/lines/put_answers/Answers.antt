-- `line::lines::put_answers` meets its contract. Assumes nothing.
use mathlib.Core.Path.{sym, ◌∙◌}
use Rattle.line.proofs.Told.{put-told}
use Rattle.line.proofs.lines.put_answers.Goals as goal

pub put_aborts-requires : goal.put_aborts-requires
put_aborts-requires c = (c.requires.0, c.requires.1, c.requires.2, sym c.aborts.ensures ∙ c.if-aborts.true)

pub returns : goal.returns
returns c = put-told c.args.hub.state.rows c.args.decision c.requires.1.1.decides.well_told (sym c.aborts.ensures ∙ c.if-aborts.false)
    c.put_answer.ensures
