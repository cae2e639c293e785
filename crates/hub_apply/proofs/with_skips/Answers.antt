-- `hub_apply::with_skips` meets its contract. Assumes nothing.
use borrow.Author.Rules.{rules}
use native.Mathlib.Omega.{arith}
use mathlib.Core.Path.{◌≡◌}
use lib.ListN.{length}
use Rattle.rules_routine.specs.Limits.{max_sequence}
use Rattle.rules_routine.proofs.RoutineLaws.{length_mapped}
use Rattle.hub_state.proofs.Members.{stands_below, answered_most, counts_most}
use Rattle.hub_apply.proofs.SkipLaws.{skips_applied}
use Rattle.hub_apply.proofs.with_skips.Goals.{Start}
use Rattle.hub_apply.proofs.with_skips.Goals as goal

long : (c : Start) → length c.args.state.rows.answered ≡ max_sequence
long c = search (rules, length_mapped)

pub first_unanswered-next-requires : goal.first_unanswered-next-requires
first_unanswered-next-requires c = let v = c.args.state.ok in
    let s = c.requires in
    let i = stands_below _ _ v s in
    let a = answered_most _ _ v s in
    let n = counts_most _ _ v s in
    (omega arith, omega arith)

pub invariant_of-result : goal.invariant_of-result
invariant_of-result c =
    record {
      ok =
          (skips_applied _ _ _ c.args.state.ok c.requires
          (long (goal.at.invariant_of-result c).Start) _ c.skip_left-stage.ensures _ c.first_unanswered-next.ensures).0;
    }

pub returns : goal.returns
returns c = skips_applied _ _ _ c.args.state.ok c.requires
    (long (goal.at.returns c).Start) _ c.skip_left-stage.ensures _ c.first_unanswered-next.ensures
