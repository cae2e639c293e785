-- `hub_due::after_restarts` meets its contract. The loop's invariant: the devices below d are at their restarts' settings. Assumes nothing.
use Rattle.hub_due.proofs.Restarts.{RestartsTo}
use Rattle.hub_due.proofs.after_restarts.Given as goal

abbrev pub invariant-loop-d : goal.invariant-loop-d
invariant-loop-d l = RestartsTo l.restarts l.at l.initial.after l.d l.after
