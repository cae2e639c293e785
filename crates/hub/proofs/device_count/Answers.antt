-- `hub::device_count` meets its contract. Assumes nothing.
use mathlib.Core.Path.{refl}
use Rattle.hub_state.specs.View.{state_of}
use Rattle.hub.proofs.device_count.Goals as goal

pub returns : goal.returns
unfolding state_of
returns c = refl
