-- `hub_search::is_staged` meets its contract. The loop: what is left gives what the whole gives. Assumes nothing.
use Prim.Native.Nat.{◌-◌}
use mathlib.Core.Path.{◌≡◌}
use Rattle.hub_search.specs.Contract.{any_staged}
use Rattle.hub_search.proofs.Commands.{any_at, staged_at}
use Rattle.hub_search.proofs.is_staged.Given as goal

abbrev pub invariant-loop-k : goal.invariant-loop-k
invariant-loop-k l = any_at (staged_at l.device l.stage l.wanted l.low l.high) l.k (l.end - l.k) ≡ any_staged l.device l.stage l.wanted l.low l.high l.from (l.end - l.from)
