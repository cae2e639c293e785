-- `hub_sequence::order::empty` meets its contract. Assumes nothing.
use mathlib.Core.Path.{refl}
use Rattle.hub_sequence.proofs.EmptyLaws.{none-taken}
use Rattle.hub_sequence.proofs.order.empty.Goals as goal

pub returns : goal.returns
returns c = none-taken _ c.free_row-behind.ensures refl refl refl refl
