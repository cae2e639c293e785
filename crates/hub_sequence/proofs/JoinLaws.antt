-- A slot joins. Assumes nothing.
use Prim.Native.Nat.{ℕ, ◌+◌, ◌≤◌, ◌<◌}
use native.Mathlib.Omega.{arith}
use mathlib.Core.Path.{◌≡◌, refl, sym, ap, subst, ◌∙◌}
use mathlib.Core.List.{List, ◌∷◌}
use lib.ListN.{length}
use Rattle.rules_routine.specs.Limits.{max_sequence}
use Rattle.rules.specs.Tables.{put}
use Rattle.rules.proofs.Lists.{put_same, put_other}
use Rattle.hub_sequence.specs.Lists.{count, placed}
use Rattle.hub_sequence.specs.Links.{none, link_of, behind_of, ahead_of, row_with, end_with, slots_of, within, Keeps, LinksOk, Spot}
use Rattle.hub_sequence.specs.Contract.{CanJoin, Joins}
use Rattle.hub_sequence.specs.declared.Links.{Links}
use Rattle.hub_sequence.proofs.Tables.{by_eq, at, length_row, put_link, put-slot, link_now}
use Rattle.hub_sequence.proofs.Lists.{same_self, same_eq, same_other, past-within, within-slot, within_most, count-placed}
use Rattle.hub_sequence.proofs.Lists.{length-placed}
use Rattle.hub_sequence.proofs.Paths.{behind_then_ahead, behind-there, chain_first, chain-rest, chain-past_join, path_join}
use Rattle.hub_sequence.proofs.ReadLaws.{keeps_slots, keeps_valid, keeps_spot}

-- where a slot is free, the first of them is the one that `free` names
free-first : (k : Links) → LinksOk k → k.taken < max_sequence → (m : List ℕ) × Keeps k (slots_of k) (k.free ∷ m)
free-first k v h =
    let p = chain_first v.spare (omega (arith, v.full, v.counted)) in
    (p.0, subst (λ (f : List ℕ). Keeps k (slots_of k) f) p.1 v)

module _ {k : Links} {l f : List ℕ} {s : ℕ} (v : Keeps k l (s ∷ f)) (after : ℕ) (h : 1 ≤ count after (none ∷ l)) where
  -- the counts of the new slot and of the one that it comes behind
  new_slot : (count s l ≡ 0) × (count s f ≡ 0) × (within s ≡ 1)
  new_slot =
      let a = v.once s in
      let b = same_self s in
      let c = within_most s in
      (omega arith, omega arith, omega arith)

  pub fresh-slot : s < max_sequence
  fresh-slot = within-slot s (omega (arith, new_slot.2))

  old_slot : (count after (none ∷ l) ≡ 1) × (count after (s ∷ f) ≡ 0)
  old_slot =
      by_eq after none
      (λ e. let a = v.once after in
      let w : within after ≡ 0 = past-within after (omega arith) in
      (omega (arith, same_eq after none e), omega arith))
      (λ n. let a = v.once after in
      let w = within_most after in
      let o = same_other after none n in
      (omega arith, omega arith))

  -- the new slot is neither of its neighbours
  off_after : s ≡ after → ⊥
  off_after e = omega (arith, old_slot.1, same_eq after s (sym e))

  off_next : s ≡ behind_of k after → ⊥
  off_next e =
      let i = fresh-slot in
      let q : 1 ≤ count s (none ∷ l) = subst (λ (x : ℕ). 1 ≤ count x (none ∷ l)) (sym e) (behind-there after v.linked h) in
      omega (arith, new_slot.0, same_other s none (λ j. omega arith))

  -- the two links that are set along each row
  abbrev new_behind : ℕ → ℕ
  new_behind = put (behind_of k) s (behind_of k after)

  abbrev new_ahead : ℕ → ℕ
  new_ahead = put (ahead_of k) s after

  module _ (r : Links) (b : behind_of r ≡ put new_behind after s) (a : ahead_of r ≡ put new_ahead (behind_of k after) s) where
    pub join_keeps_behind : (x : ℕ) → (x ≡ s → ⊥) → (x ≡ after → ⊥) → behind_of r x ≡ behind_of k x
    join_keeps_behind x n m = at b x ∙ put_other new_behind after s x m ∙ put_other (behind_of k) s (behind_of k after) x n

    pub join_keeps_ahead : (x : ℕ) → (x ≡ s → ⊥) → (x ≡ behind_of k after → ⊥) → ahead_of r x ≡ ahead_of k x
    join_keeps_ahead x n m = at a x ∙ put_other new_ahead (behind_of k after) s x m ∙ put_other (ahead_of k) s after x n

    pub join_behind-after : behind_of r after ≡ s
    join_behind-after = at b after ∙ put_same new_behind after s

    pub join_ahead-next : ahead_of r (behind_of k after) ≡ s
    join_ahead-next = at a (behind_of k after) ∙ put_same new_ahead (behind_of k after) s

    pub join_keeps : r.free ≡ behind_of k s → r.taken ≡ k.taken + 1 → Keeps r (placed after s none l) f
    join_keeps g c =
        let t = new_slot in
        let o = old_slot in
        let i = fresh-slot in
        let u : s ≡ none → ⊥ = λ e. omega arith in
        let back : ahead_of k (behind_of k after) ≡ after = behind_then_ahead after v.linked h in
        record {
          linked = path_join after s join_keeps_behind
              (λ x n m. join_keeps_ahead x n (λ e. m (ap (ahead_of k) e ∙ back)))
              join_behind-after
              (at a s ∙ put_other new_ahead (behind_of k after) s s off_next ∙ put_same (ahead_of k) s after)
              (at b s ∙ put_other new_behind after s s off_after ∙ put_same (behind_of k) s (behind_of k after))
              join_ahead-next
              v.linked (λ e. u (sym e)) (omega (arith, same_other s none u)) o.0;
          spare = rw g (chain-past_join after s join_keeps_behind (chain-rest v.spare) t.1 (omega arith));
          once = λ x. omega (arith, v.once x, count-placed after s x none l h);
          full = omega (arith, v.full, length-placed after s none l h);
          counted = omega (arith, v.counted, length-placed after s none l h);
        }

-- ---- as the code asks it

module _ (k : Links) (after : ℕ) (p : CanJoin k after) where
  slot-free : k.free < max_sequence
  slot-free = fresh-slot (free-first k p.valid p.room).1 after p.place

  pub spot_free : Spot k.free
  spot_free n = slot-free

  pub spot_after : Spot after
  spot_after = keeps_spot p.valid after p.place

  pub spot_next : Spot (behind_of k after)
  spot_next = keeps_spot p.valid (behind_of k after) (behind-there after p.valid.linked p.place)

-- the four links, as they are set one by one
module _ (k : Links) (after : ℕ) (r : Links) {next : ℕ} (p : CanJoin k after)
    (lb : length k.behind ≡ max_sequence) (la : length k.ahead ≡ max_sequence)
    (n : next ≡ behind_of k after)
  where
    joined-behind : {b : List ℕ} → b ≡ row_with k.behind k.free next → r.behind ≡ row_with b after k.free →
        r.first ≡ end_with k.first after k.free
        → behind_of r ≡ put (put (behind_of k) k.free (behind_of k after)) after k.free
    joined-behind {b} e f g =
        let l : length b ≡ max_sequence = ap length e ∙ length_row k.behind k.free next ∙ lb in
        let i : link_of b k.first ≡ put (behind_of k) k.free next
        = link_now e refl ∙ put-slot k.behind k.first k.free next (slot-free k after p) lb in
        link_now f g ∙ put_link b k.first after k.free (spot_after k after p) l
        ∙ ap (λ (t : ℕ → ℕ). put t after k.free) i
        ∙ ap (λ (m : ℕ). put (put (behind_of k) k.free m) after k.free) n

    joined-ahead : {a : List ℕ} → a ≡ row_with k.ahead k.free after → r.ahead ≡ row_with a next k.free →
        r.last ≡ end_with k.last next k.free
        → ahead_of r ≡ put (put (ahead_of k) k.free after) (behind_of k after) k.free
    joined-ahead {a} e f g =
        let l : length a ≡ max_sequence = ap length e ∙ length_row k.ahead k.free after ∙ la in
        let i : link_of a k.last ≡ put (ahead_of k) k.free after
        = link_now e refl ∙ put-slot k.ahead k.last k.free after (slot-free k after p) la in
        link_now f g ∙ put_link a k.last next k.free (rw n (spot_next k after p)) l
        ∙ ap (λ (t : ℕ → ℕ). put t next k.free) i
        ∙ ap (λ (m : ℕ). put (put (ahead_of k) k.free after) m k.free) n

    pub joins : {b a : List ℕ} → b ≡ row_with k.behind k.free next → r.behind ≡ row_with b after k.free →
        r.first ≡ end_with k.first after k.free
        → a ≡ row_with k.ahead k.free after → r.ahead ≡ row_with a next k.free → r.last ≡ end_with k.last next k.free
        → r.free ≡ behind_of k k.free → r.taken ≡ k.taken + 1
        → Joins k after (record { links = r; slot = k.free })
    joins b₁ b₂ b₃ a₁ a₂ a₃ g c =
        let b = joined-behind b₁ b₂ b₃ in
        let a = joined-ahead a₁ a₂ a₃ in
        let u = (free-first k p.valid p.room).1 in
        let i = p.place in
        let w = join_keeps u after i r b a g c in
        record {
          valid = keeps_valid w;
          slots = keeps_slots w;
          slot = fresh-slot u after i;
          slot_is = refl;
          fresh = (new_slot u after i).0;
          taken = c;
          behind_after = join_behind-after u after i r b a;
          ahead_next = join_ahead-next u after i r b a;
          behind = join_keeps_behind u after i r b a;
          ahead = join_keeps_ahead u after i r b a;
        }
