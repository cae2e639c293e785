-- `hub_apply::fill::with_commands` meets its contract: with each round one entry more is filled in. Assumes nothing.
use borrow.Author.Rules.{rules}
use native.Mathlib.Omega.{arith}
use mathlib.Core.Path.{◌≡◌, refl}
use mir.Syntax.{w16}
use mir.Val.{to_z, of_z}
use lib.ListN.{get_or, length-set}
use Rattle.rules_routine.specs.Routine.{zero_command}
use Rattle.hub_apply.proofs.FillLaws.{fills_more}
use Rattle.hub_apply.proofs.fill.with_commands.Goals as goal

pub loop-j-preserved : goal.loop-j-preserved
loop-j-preserved c = let v = c.loop-j.invariant in
    let z = (get_or c.args.routine.commands c.loop-j.j zero_command).setting in
    let e : to_z w16 (of_z w16 z) ≡ z = search rules in (
      simp length-set v.0,
      simp length-set v.1,
      simp length-set v.2,
      fills_more _ _ _ _ _ _ _ v.3 (omega arith) refl,
      fills_more _ _ _ _ _ _ _ v.4 (omega arith) refl,
      fills_more _ _ _ _ _ _ _ v.5 (omega arith) e,
    )
