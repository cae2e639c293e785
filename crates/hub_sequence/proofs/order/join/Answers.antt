-- `hub_sequence::order::join` meets its contract: the four links that are set make the change of the law. Assumes nothing.
use borrow.Author.Rules.{rules}
use mathlib.Core.Path.{◌≡◌, refl}
use lib.ListN.{length}
use Rattle.rules_routine.proofs.RoutineLaws.{length_mapped}
use Rattle.rules_routine.specs.Limits.{max_sequence}
use Rattle.hub_sequence.proofs.JoinLaws.{spot_free, spot_after, spot_next, joins}
use Rattle.hub_sequence.proofs.order.join.Goals.{Start}
use Rattle.hub_sequence.proofs.order.join.Goals as goal

long-behind : (c : Start) → length c.args.links.behind ≡ max_sequence
long-behind c = search (rules, length_mapped)

long-ahead : (c : Start) → length c.args.links.ahead ≡ max_sequence
long-ahead c = search (rules, length_mapped)

pub link_of-free-requires : goal.link_of-free-requires
link_of-free-requires c = spot_free _ _ c.requires

pub link_of-next-requires : goal.link_of-next-requires
link_of-next-requires c = spot_after _ _ c.requires

pub with_link-own_behind-requires : goal.with_link-own_behind-requires
with_link-own_behind-requires c = spot_free _ _ c.requires

pub with_link-own_ahead-requires : goal.with_link-own_ahead-requires
with_link-own_ahead-requires c = spot_free _ _ c.requires

pub with_link-behind_now-requires : goal.with_link-behind_now-requires
with_link-behind_now-requires c = spot_after _ _ c.requires

pub with_link-ahead_now-requires : goal.with_link-ahead_now-requires
with_link-ahead_now-requires c = rw c.link_of-next.ensures (spot_next _ _ c.requires)

pub returns : goal.returns
returns c = joins _ _ _ c.requires (long-behind (goal.at.returns c).Start) (long-ahead (goal.at.returns c).Start) c.link_of-next.ensures
    c.with_link-own_behind.ensures c.with_link-behind_now.ensures c.end_with.ensures
    c.with_link-own_ahead.ensures c.with_link-ahead_now.ensures c.end_with-2.ensures
    c.link_of-free.ensures refl
