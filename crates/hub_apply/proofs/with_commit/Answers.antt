-- `hub_apply::with_commit` meets its contract. Assumes nothing.
use borrow.Author.Rules.{rules}
use mathlib.Core.Path.{◌≡◌}
use lib.ListN.{length}
use Rattle.rules_routine.proofs.RoutineLaws.{length_mapped}
use Rattle.rules_routine.specs.Limits.{max_sequence}
use Rattle.hub_apply.proofs.StageLaws.{commit_applied}
use Rattle.hub_apply.proofs.with_commit.Goals.{Start}
use Rattle.hub_apply.proofs.with_commit.Goals as goal

long : (c : Start) → length c.args.state.rows.committed ≡ max_sequence
long c = search (rules, length_mapped)

pub invariant_of-result : goal.invariant_of-result
invariant_of-result c = record { ok = (commit_applied _ _ c.args.state.ok c.requires (long (goal.at.invariant_of-result c).Start)).0 }

pub returns : goal.returns
returns c = commit_applied _ _ c.args.state.ok c.requires (long (goal.at.returns c).Start)
