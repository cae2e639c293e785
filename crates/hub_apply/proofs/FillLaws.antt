-- Loops that fill in a newcomer's rows. Assumes nothing.
use Prim.Native.Nat.{ℕ, ◌+◌, ◌≤◌, ◌<◌}
use native.Mathlib.Omega.{arith}
use mathlib.Core.Path.{◌≡◌, refl, sym, ap, subst, ◌∙◌}
use mathlib.Core.Bool.{Bool, true, false}
use mathlib.Core.List.{List, [], ◌∷◌}
use lib.ListN.{length, get_or, set}
use lib.Seq.{get_or-set_same, get_or-set_other}
use Rattle.rules_routine.specs.Limits.{max_sequence}
use Rattle.hub_sequence.specs.Lists.{count}
use Rattle.hub_sequence.specs.Links.{along, Walks}
use Rattle.hub_sequence.specs.declared.Links.{Links}
use Rattle.hub_sequence.proofs.Tables.{by_eq}
use Rattle.hub_sequence.proofs.Lists.{same_self, same_other, within_most}
use Rattle.hub_sequence.proofs.WalkLaws.{walks_next, walks_end}
use Rattle.hub_state.specs.Valid.{highest_passed}
use Rattle.hub_apply.specs.Fill.{Fills, behind_slot, CanPassBehind, once_more, PassesBehind}

-- ---- a slot's part of a row: one value more in each round

module _ {A : Type 0} (missing : A) (row : List A) (from : ℕ) (value : ℕ → A) where
  pub fills_more : (j : ℕ) (r : List A) (v : A) → Fills missing row from j value r → from + j < length r → v ≡ value j →
      Fills missing row from (j + 1) value (set r (from + j) v)
  fills_more j r v f h e =
      record {
        inside = λ i k. by_eq i j
            (λ q. rw q (get_or-set_same r (from + j) v missing h ∙ e))
            (λ n. get_or-set_other r (from + j) (from + i) v missing (λ q. omega arith) ∙ f.inside i (omega arith));
        outside = λ i k. get_or-set_other r (from + j) i v missing (k j (omega arith)) ∙ f.outside i (λ m o. k m (omega arith));
      }

  pub fills_all : (j n : ℕ) (r : List A) → j ≤ n → n ≤ j → Fills missing row from j value r → Fills missing row from n value r
  fills_all j n r h k f =
      record { inside = λ i m. f.inside i (omega arith); outside = λ i m. f.outside i (λ o p. m o (omega arith)) }

-- ---- pass counts: one slot of the walk in each round

-- Of the slots l those of `rest` are still to be passed.
pub record PassedSoFar (committed : List Bool) (row : List ℕ) (l rest now : List ℕ) : Type 0 where
  pub part : (x : ℕ) → count x rest ≤ count x l
  pub passed : (x : ℕ) → count x rest ≡ 0 → 1 ≤ count x l → get_or now x 0 ≡ once_more (get_or committed x false) (get_or row x 0)
  pub to_pass : (x : ℕ) → 1 ≤ count x rest → get_or now x 0 ≡ get_or row x 0
  pub others : (x : ℕ) → count x l ≡ 0 → get_or now x 0 ≡ get_or row x 0

module _ (committed : List Bool) (row : List ℕ) where
  -- the slot at which the walk is: its count alone may have become another
  passes_more : (l rest : List ℕ) (i : ℕ) (now later : List ℕ) → PassedSoFar committed row l (i ∷ rest) now → count i rest ≡ 0 →
      get_or later i 0 ≡ once_more (get_or committed i false) (get_or row i 0) → ((x : ℕ) → (x ≡ i → ⊥) → get_or later x 0 ≡ get_or now x 0) →
      PassedSoFar committed row l rest later
  passes_more l rest i now later p h e o =
      record {
        part = λ x. omega (arith, p.part x);
        passed = λ x k m. by_eq x i
            (λ q. rw q e)
            (λ n. o x n ∙ p.passed x (omega (arith, same_other x i n)) m);
        to_pass = λ x k. o x (λ q. let z : count x rest ≡ 0 = rw q h in omega arith) ∙ p.to_pass x (omega arith);
        others = λ x k. o x (λ q. let z : count i l ≡ 0 = rw (sym q) k in omega (arith, p.part i, same_self i)) ∙ p.others x k;
      }

  module _ (behind : List ℕ) (l : List ℕ) (i : ℕ) (w : Walks behind i) (h : i < max_sequence) (now : List ℕ)
      (p : PassedSoFar committed row l (along behind i) now)
    where
      here : PassedSoFar committed row l (i ∷ along behind (get_or behind i 0)) now
      here = rw (walks_next w h).0 at p

      once : count i (along behind (get_or behind i 0)) ≡ 0
      once =
          let q : count i (i ∷ along behind (get_or behind i 0)) ≤ 1 = rw (walks_next w h).0 at (at_most_once i) in
          omega (arith, same_self i)
        where
          at_most_once : (x : ℕ) → count x (along behind i) ≤ 1
          at_most_once x = omega (arith, w.slots x, within_most x)

      -- it was not passed yet
      pub as_before : get_or now i 0 ≡ get_or row i 0
      as_before = here.to_pass i (omega (arith, same_self i))

      pub still_there : 1 ≤ count i l
      still_there = omega (arith, here.part i, same_self i)

      pub passes_running : get_or committed i false ≡ false → length now ≡ max_sequence →
          PassedSoFar committed row l (along behind (get_or behind i 0)) (set now i (get_or now i 0 + 1))
      passes_running e n =
          passes_more l _ i now _ here once
          (get_or-set_same now i _ 0 (omega arith) ∙ rw (e, as_before) (omega arith))
          (λ x m. get_or-set_other now i x _ 0 m)

      pub passes_committed : get_or committed i false ≡ true → PassedSoFar committed row l (along behind (get_or behind i 0)) now
      passes_committed e = passes_more l _ i now now here once (rw (e, as_before)) (λ x m. refl)

module _ (row : List ℕ) (k : Links) (committed : List Bool) (slot : ℕ) (ok : CanPassBehind row k committed slot) where
  -- a slot behind the newcomer's is not that one
  off_slot : (x : ℕ) → 1 ≤ count x (behind_slot k slot) → x ≡ slot → ⊥
  off_slot x m q =
      let y : 1 ≤ count slot (behind_slot k slot) = subst (λ (y : ℕ). 1 ≤ count y (behind_slot k slot)) q m in omega (arith, ok.apart)

  -- a running slot at which the walk is can be passed
  pub room_left : (i : ℕ) (now : List ℕ) → Walks k.behind i → i < max_sequence →
      PassedSoFar committed (set row slot 0) (behind_slot k slot) (along k.behind i) now → get_or committed i false ≡ false →
      get_or now i 0 < highest_passed
  room_left i now w h p e =
      let t = still_there committed (set row slot 0) k.behind (behind_slot k slot) i w h now p in
      rw (
        as_before committed (set row slot 0) k.behind (behind_slot k slot) i w h now p,
        get_or-set_other row slot i 0 0 (off_slot i t),
      ) (ok.room i t e)

  -- the walk is at its end
  pub passes_all : (i : ℕ) (r : List ℕ) → length row ≡ max_sequence → Walks k.behind i → max_sequence ≤ i →
      PassedSoFar committed (set row slot 0) (behind_slot k slot) (along k.behind i) r → PassesBehind row k committed slot r
  passes_all i r n w h p =
      let f = ok.slot_fits in
      let e : along k.behind i ≡ [] = walks_end w h in
      record {
        newcomer = p.others slot ok.apart ∙ get_or-set_same row slot 0 0 (omega arith);
        behind = λ x m.
            p.passed x (rw e) m ∙ ap (once_more (get_or committed x false)) (get_or-set_other row slot x 0 0 (off_slot x m));
        others = λ x m o. p.others x o ∙ get_or-set_other row slot x 0 0 m;
      }
