-- `hub_search::has_id` meets its contract. The loop: what is left gives what the whole gives. Assumes nothing.
use Prim.Native.Nat.{◌-◌}
use mathlib.Core.Path.{◌≡◌}
use Rattle.hub_search.specs.Contract.{any_on}
use Rattle.hub_search.proofs.Commands.{any_at, on_at}
use Rattle.hub_search.proofs.has_id.Given as goal

abbrev pub invariant-loop-j : goal.invariant-loop-j
invariant-loop-j l = any_at (on_at l.ids l.id) l.j (l.count - l.j) ≡ any_on l.ids l.id 0 l.count
