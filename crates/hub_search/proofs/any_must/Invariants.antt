-- `hub_search::any_must` meets its contract. The loop: what is left gives what the whole gives. Assumes nothing.
use Prim.Native.Nat.{◌-◌}
use mathlib.Core.Path.{◌≡◌}
use Rattle.hub_search.specs.Contract.{any_must}
use Rattle.hub_search.proofs.Commands.{any_at, must_at}
use Rattle.hub_search.proofs.any_must.Given as goal

abbrev pub invariant-loop-k : goal.invariant-loop-k
invariant-loop-k l = any_at (must_at l.device l.tag l.stage l.end l.wanted) l.k (l.end - l.k) ≡ any_must l.device l.tag l.stage l.wanted l.from (l.end - l.from)
