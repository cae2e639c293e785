-- `hub_due::due_settings` meets its contract. Assumes nothing.
use mathlib.Core.Path.{◌∙◌}
use Rattle.hub_due.proofs.Slots.{due_whole}
use Rattle.hub_due.proofs.due_settings.Goals as goal

pub returns : goal.returns
returns c = c.due_settings_without.ensures ∙ due_whole _ c.args.state.ok
