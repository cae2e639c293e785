-- `rules_routine::empty` meets its contract. Assumes nothing.
use mathlib.Core.Path.{refl}
use Rattle.rules_routine.specs.Routine.{routine_of}
use Rattle.rules_routine.proofs.empty.Goals as goal

pub returns : goal.returns
unfolding routine_of
returns c = refl
