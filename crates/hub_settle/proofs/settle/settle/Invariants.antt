-- `hub_settle::settle::settle` meets its contract. The loop's invariant: what is settled so far settles to what the whole settles
-- to. Assumes nothing.
use Rattle.hub_settle.proofs.StateLaws.{tables_in}
use Rattle.hub_settle.proofs.SettleLaws.{Settling}
use Rattle.hub_settle.proofs.settle.settle.Given as goal

abbrev pub invariant-loop-i : goal.invariant-loop-i
invariant-loop-i l =
    Settling l.fn.state.rows (tables_in l.fn.state.rows l.links l.restarts l.settled l.fn.state.rows.up l.mark) l.i

abbrev pub decreases-loop-i : goal.decreases-loop-i
decreases-loop-i l = l.links.taken
