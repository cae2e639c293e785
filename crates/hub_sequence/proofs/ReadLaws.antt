-- Links that keep two lists: the readings give these lists, and the links are in order. So a change is proved for lists that are given, and
-- at the end the readings are put for them. Assumes nothing.
use Prim.Native.Nat.{ℕ, ◌≤◌, ◌<◌}
use native.Mathlib.Omega.{arith}
use mathlib.Core.Path.{◌≡◌, sym}
use mathlib.Core.List.{List, [], ◌∷◌, reverse}
use lib.ListN.{length, get_or, length-reverse}
use Rattle.rules_routine.specs.Limits.{max_sequence}
use Rattle.hub_sequence.specs.Lists.{count, up_to, last_or}
use Rattle.hub_sequence.specs.Links.{none, link_of, ahead_of, along, slots_of, back_of, free_of, within, Chain, more, stop, Keeps, LinksOk}
use Rattle.hub_sequence.specs.Links.{Walks, Spot, Stands}
use Rattle.hub_sequence.specs.declared.Links.{Links}
use Rattle.hub_sequence.proofs.Tables.{link_row}
use Rattle.hub_sequence.proofs.Lists.{same_other, same-apart, past-within, within-slot, within_most, count-reverse-onto}
use Rattle.hub_sequence.proofs.Paths.{path_chain, walk-chain, path_back, last_ahead}

-- along slots the row's end is not read
chain_row : (row : List ℕ) (end : ℕ) {x : ℕ} {l : List ℕ} → Chain (link_of row end) x l → count none l ≡ 0 → Chain (λ y. get_or row y 0) x l
chain_row row end (stop e) h = stop e
chain_row row end {x} (more {l = l} c) h =
    more {x = x} {l = l} (rw (sym (link_row row end x (λ e. same-apart none x (omega arith) (sym e)))) (chain_row row end c (omega arith)))

pub walks_of : (row : List ℕ) {x : ℕ} {l : List ℕ} → Chain (λ y. get_or row y 0) x l → ((w : ℕ) → count w l ≤ within w) →
    length l ≤ max_sequence →
    (along row x ≡ l) × Walks row x
unfolding along
walks_of row {x} {l} c s h =
    let e : along row x ≡ l = walk-chain max_sequence c s h in
    (e, record { chain = rw e c; slots = rw e s; short = rw e h })

module _ {k : Links} {l f : List ℕ} (v : Keeps k l f) where
  none_apart : (count none l ≡ 0) × (count none f ≡ 0)
  none_apart = let h = past-within none (omega arith) in (omega (arith, v.once none), omega (arith, v.once none))

  walks-slots : (slots_of k ≡ l) × Walks k.behind k.first
  unfolding link_of
  walks-slots =
      walks_of k.behind (chain_row k.behind k.first (path_chain v.linked) none_apart.0) (λ w. omega (arith, v.once w))
      (omega (arith, v.full))

  walks-free : (free_of k ≡ f) × Walks k.behind k.free
  walks-free = walks_of k.behind (chain_row k.behind k.first v.spare none_apart.1) (λ w. omega (arith, v.once w))
      (omega (arith, v.full))

  walks-back : (back_of k ≡ reverse l) × Walks k.ahead k.last
  unfolding link_of
  walks-back =
      walks_of k.ahead
      (chain_row k.ahead k.last (path_chain (path_back v.linked)) (omega (arith, none_apart.0, count-reverse-onto none l [])))
      (λ w. omega (arith, v.once w, count-reverse-onto w l []))
      (omega (arith, v.full, length-reverse l))

  pub keeps_slots : slots_of k ≡ l
  keeps_slots = walks-slots.0

  pub keeps_free : free_of k ≡ f
  keeps_free = walks-free.0

  pub keeps_valid : LinksOk k
  keeps_valid = rw (keeps_slots, keeps_free) v

  -- a slot of the sequence, or none, can be asked for its links
  pub keeps_spot : (x : ℕ) → 1 ≤ count x (none ∷ l) → Spot x
  keeps_spot x h n = within-slot x (omega (arith, v.once x, same_other x none n))

-- ---- what callers cite of links in order: the two readings, and that walks can be made

pub back_reversed : (k : Links) → LinksOk k → back_of k ≡ reverse (slots_of k)
back_reversed k v = (walks-back v).0

pub walks-behind : (k : Links) → LinksOk k → Walks k.behind k.first
walks-behind k v = (walks-slots v).1

pub walks-ahead : (k : Links) → LinksOk k → Walks k.ahead k.last
walks-ahead k v = (walks-back v).1

-- ---- and of their taken slots

pub taken-length : (k : Links) → LinksOk k → k.taken ≡ length (slots_of k)
taken-length k v = v.counted

pub once-taken : (k : Links) (x : ℕ) → LinksOk k → count x (slots_of k) ≤ 1
once-taken k x v = omega (arith, v.once x, within_most x)

pub stands-slot : (k : Links) (x : ℕ) → LinksOk k → Stands k x → x < max_sequence
stands-slot k x v h = within-slot x (omega (arith, v.once x))

-- the slot ahead, as the list has it and as the row has it
pub ahead-last : (k : Links) (x : ℕ) → LinksOk k → Stands k x → last_or none (up_to x (slots_of k)) ≡ ahead_of k x
ahead-last k x v h = last_ahead x v.linked h

pub ahead_row : (k : Links) (x : ℕ) → LinksOk k → Stands k x → ahead_of k x ≡ get_or k.ahead x 0
ahead_row k x v h = let i = stands-slot k x v h in link_row k.ahead k.last x (λ e. omega arith)
