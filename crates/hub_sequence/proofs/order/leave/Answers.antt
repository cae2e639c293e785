-- `hub_sequence::order::leave` meets its contract: the three links that are set make the change of the law. Assumes nothing.
use borrow.Author.Rules.{rules}
use native.Mathlib.Omega.{arith}
use mathlib.Core.Path.{◌≡◌, refl}
use lib.ListN.{length}
use Rattle.rules_routine.proofs.RoutineLaws.{length_mapped}
use Rattle.rules_routine.specs.Limits.{max_sequence}
use Rattle.hub_sequence.proofs.LeaveLaws.{spot_taken, spot_before, spot_next, some_taken, leaves}
use Rattle.hub_sequence.proofs.order.leave.Goals.{Start}
use Rattle.hub_sequence.proofs.order.leave.Goals as goal

long-behind : (c : Start) → length c.args.links.behind ≡ max_sequence
long-behind c = search (rules, length_mapped)

long-ahead : (c : Start) → length c.args.links.ahead ≡ max_sequence
long-ahead c = search (rules, length_mapped)

pub link_of-before-requires : goal.link_of-before-requires
link_of-before-requires c = spot_taken _ _ c.requires

pub link_of-next-requires : goal.link_of-next-requires
link_of-next-requires c = spot_taken _ _ c.requires

pub with_link-past_it-requires : goal.with_link-past_it-requires
with_link-past_it-requires c = rw c.link_of-before.ensures (spot_before _ _ c.requires)

pub with_link-ahead_now-requires : goal.with_link-ahead_now-requires
with_link-ahead_now-requires c = rw c.link_of-next.ensures (spot_next _ _ c.requires)

pub with_link-behind_now-requires : goal.with_link-behind_now-requires
with_link-behind_now-requires c = spot_taken _ _ c.requires

pub returns : goal.returns
returns c = let h = some_taken _ _ c.requires in
    leaves _ _ _ c.requires (long-behind (goal.at.returns c).Start) (long-ahead (goal.at.returns c).Start) c.link_of-before.ensures c.link_of-next.ensures
    c.with_link-past_it.ensures c.with_link-behind_now.ensures c.end_with.ensures
    c.with_link-ahead_now.ensures c.end_with-2.ensures
    refl (omega arith)
