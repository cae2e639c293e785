-- Links before and links after, whatever joined and left in between: the frame of document 02, item 8, "changes no links but its own and
-- its neighbours'". Assumes nothing.
use Rattle.std.specs.Prelude.{ℕ, ◌≡◌}
use Rattle.hub_sequence.specs.Links.{behind_of, ahead_of, Stands}
use Rattle.hub_sequence.specs.declared.Links.{Links}

-- A slot has neither joined nor left: it is taken before and after, or free before and after. `none` stays always.
abbrev pub Stays : Links → Links → ℕ → Type 0
Stays k r x = (Stands k x → Stands r x) × (Stands r x → Stands k x)

-- A link is as it was, unless its slot, or the one that it led to, or the one that it leads to now, has joined or left. The links of `none`
-- are `first` and `last`; free slots have links too.
pub record LinksStay (k r : Links) : Type 0 where
  pub behind : (x : ℕ) → Stays k r x → Stays k r (behind_of k x) → Stays k r (behind_of r x) → behind_of r x ≡ behind_of k x
  pub ahead : (x : ℕ) → Stays k r x → Stays k r (ahead_of k x) → Stays k r (ahead_of r x) → ahead_of r x ≡ ahead_of k x
