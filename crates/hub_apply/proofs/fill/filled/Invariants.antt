-- `hub_apply::fill::filled` meets its contract: with each round one entry more is filled in. Assumes nothing.
use Rattle.std.proofs.Common.{◌≡◌, length}
use Rattle.hub_apply.specs.Fill.{Fills}
use Rattle.hub_apply.proofs.fill.filled.Given as goal

abbrev pub invariant-loop-j : goal.invariant-loop-j
invariant-loop-j g l = (length l.filled ≡ g.row.N)
    × ((missing : g.row.T.Denot) → Fills missing l.initial.filled l.from l.j (λ i. l.value) l.filled)
