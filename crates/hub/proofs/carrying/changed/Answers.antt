-- `hub::carrying::changed` meets its contract. Assumes nothing.
use Rattle.hub.proofs.CallLaws.{carries_nothing}
use Rattle.hub.proofs.carrying.changed.Goals as goal

pub returns-in-Nothing : goal.returns-in-Nothing
returns-in-Nothing c = carries_nothing c.in-Nothing.is c.requires.0
