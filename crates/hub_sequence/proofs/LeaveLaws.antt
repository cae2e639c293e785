-- A slot leaves. Assumes nothing.
use Prim.Native.Nat.{ℕ, ◌+◌, ◌≤◌, ◌<◌}
use native.Mathlib.Omega.{arith}
use mathlib.Core.Path.{◌≡◌, refl, sym, ap, ◌∙◌}
use mathlib.Core.List.{List, ◌∷◌}
use lib.ListN.{length}
use Rattle.rules_routine.specs.Limits.{max_sequence}
use Rattle.rules.specs.Tables.{put}
use Rattle.rules.proofs.Lists.{put_same, put_other}
use Rattle.hub_sequence.specs.Lists.{count, without}
use Rattle.hub_sequence.specs.Links.{none, link_of, behind_of, ahead_of, row_with, end_with, more, Keeps, Spot}
use Rattle.hub_sequence.specs.Contract.{CanLeave, Leaves}
use Rattle.hub_sequence.specs.declared.Links.{Links}
use Rattle.hub_sequence.proofs.Tables.{at, length_row, put_link, put-slot, link_now}
use Rattle.hub_sequence.proofs.Lists.{same_other, within-slot, within_most, count-without, length_without}
use Rattle.hub_sequence.proofs.Paths.{behind_then_ahead, ahead_then_behind, behind-there, ahead-there, behind-apart}
use Rattle.hub_sequence.proofs.Paths.{chain-past-leave}
use Rattle.hub_sequence.proofs.Paths.{path_leave}
use Rattle.hub_sequence.proofs.ReadLaws.{keeps_slots, keeps_free, keeps_valid, keeps_spot}

module _ {k : Links} {l f : List ℕ} (v : Keeps k l f) (s : ℕ) (h : 1 ≤ count s l) where
  pub taken-slot : (count s l ≡ 1) × (count s f ≡ 0) × (s < max_sequence)
  taken-slot = (
    omega (arith, v.once s, within_most s),
    omega (arith, v.once s, within_most s),
    within-slot s (omega (arith, v.once s)),
  )

  some_slots : 1 ≤ length l
  some_slots = omega (arith, length_without s l h)

  -- it is neither of its neighbours
  behind-not_self : behind_of k s ≡ s → ⊥
  behind-not_self = let t = taken-slot in
      let u : s ≡ none → ⊥ = λ e. omega arith in
      behind-apart s v.linked (λ e. u (sym e)) (omega arith) (omega (arith, same_other s none u))

  ahead-not_self : ahead_of k s ≡ s → ⊥
  ahead-not_self e = behind-not_self (ap (behind_of k) (sym e) ∙ ahead_then_behind s v.linked h)

  -- the link over the slot
  abbrev over_it : ℕ → ℕ
  over_it = put (behind_of k) (ahead_of k s) (behind_of k s)

  module _ (r : Links) (b : behind_of r ≡ put over_it s k.free) (a : ahead_of r ≡ put (ahead_of k) (behind_of k s) (ahead_of k s)) where
    pub leave_keeps_behind : (x : ℕ) → (x ≡ s → ⊥) → (x ≡ ahead_of k s → ⊥) → behind_of r x ≡ behind_of k x
    leave_keeps_behind x n m = at b x ∙ put_other over_it s k.free x n ∙ put_other (behind_of k) (ahead_of k s) (behind_of k s) x m

    pub leave_keeps_ahead : (x : ℕ) → (x ≡ behind_of k s → ⊥) → ahead_of r x ≡ ahead_of k x
    leave_keeps_ahead x n = at a x ∙ put_other (ahead_of k) (behind_of k s) (ahead_of k s) x n

    pub leave_keeps : r.free ≡ s → r.taken + 1 ≡ k.taken → Keeps r (without s l) (s ∷ f)
    leave_keeps g c =
        let t = taken-slot in
        let u : s ≡ none → ⊥ = λ e. omega arith in
        let there : behind_of k (ahead_of k s) ≡ s = ahead_then_behind s v.linked h in
        let back : ahead_of k (behind_of k s) ≡ s = behind_then_ahead s v.linked (omega arith) in
        let keep : (x : ℕ) → (x ≡ s → ⊥) → (behind_of k x ≡ s → ⊥) → behind_of r x ≡ behind_of k x =
        λ x n m. leave_keeps_behind x n (λ e. m (ap (behind_of k) e ∙ there)) in
        record {
          linked = path_leave s keep
              (λ x n m. leave_keeps_ahead x (λ e. m (ap (ahead_of k) e ∙ back)))
              (at b (ahead_of k s) ∙ put_other over_it s k.free (ahead_of k s) ahead-not_self
              ∙ put_same (behind_of k) (ahead_of k s) (behind_of k s))
              (at a (behind_of k s) ∙ put_same (ahead_of k) (behind_of k s) (ahead_of k s))
              v.linked (λ e. u (sym e)) (λ e. u (sym e)) t.0;
          spare = rw g (more {x = s} {l = f} (rw (at b s ∙ put_same over_it s k.free) (chain-past-leave s keep v.spare u t.1)));
          once = λ x. omega (arith, v.once x, count-without s x l h);
          full = omega (arith, v.full, length_without s l h);
          counted = omega (arith, v.counted, length_without s l h);
        }

-- ---- as the code asks it

module _ (k : Links) (s : ℕ) (p : CanLeave k s) where
  slot-taken : s < max_sequence
  slot-taken = (taken-slot p.valid s p.stands).2

  pub spot_taken : Spot s
  spot_taken n = slot-taken

  pub spot_before : Spot (ahead_of k s)
  spot_before = keeps_spot p.valid (ahead_of k s) (ahead-there s p.valid.linked p.stands)

  pub spot_next : Spot (behind_of k s)
  spot_next = let h = p.stands in keeps_spot p.valid (behind_of k s) (behind-there s p.valid.linked (omega arith))

  pub some_taken : 1 ≤ k.taken
  some_taken = omega (arith, p.valid.counted, some_slots p.valid s p.stands)

-- the three links, as they are set one by one
module _ (k : Links) (s : ℕ) (r : Links) {before next : ℕ} (p : CanLeave k s)
    (lb : length k.behind ≡ max_sequence) (la : length k.ahead ≡ max_sequence)
    (m : before ≡ ahead_of k s) (n : next ≡ behind_of k s)
  where
    left_behind : {b : List ℕ} → b ≡ row_with k.behind before next → r.behind ≡ row_with b s k.free →
        r.first ≡ end_with k.first before next
        → behind_of r ≡ put (put (behind_of k) (ahead_of k s) (behind_of k s)) s k.free
    left_behind {b} e f g =
        let l : length b ≡ max_sequence = ap length e ∙ length_row k.behind before next ∙ lb in
        let i : link_of b r.first ≡ put (behind_of k) before next
        = link_now e g ∙ put_link k.behind k.first before next (rw m (spot_before k s p)) lb in
        link_now f refl ∙ put-slot b r.first s k.free (slot-taken k s p) l
        ∙ ap (λ (t : ℕ → ℕ). put t s k.free) i
        ∙ ap (λ (y : ℕ). put (put (behind_of k) y next) s k.free) m
        ∙ ap (λ (y : ℕ). put (put (behind_of k) (ahead_of k s) y) s k.free) n

    left_ahead : r.ahead ≡ row_with k.ahead next before → r.last ≡ end_with k.last next before
        → ahead_of r ≡ put (ahead_of k) (behind_of k s) (ahead_of k s)
    left_ahead f g =
        link_now f g ∙ put_link k.ahead k.last next before (rw n (spot_next k s p)) la
        ∙ ap (λ (y : ℕ). put (ahead_of k) y before) n
        ∙ ap (λ (y : ℕ). put (ahead_of k) (behind_of k s) y) m

    pub leaves : {b : List ℕ} → b ≡ row_with k.behind before next → r.behind ≡ row_with b s k.free →
        r.first ≡ end_with k.first before next
        → r.ahead ≡ row_with k.ahead next before → r.last ≡ end_with k.last next before
        → r.free ≡ s → r.taken + 1 ≡ k.taken
        → Leaves k s r
    leaves b₁ b₂ b₃ a₁ a₂ g c =
        let b = left_behind b₁ b₂ b₃ in
        let a = left_ahead a₁ a₂ in
        let w = leave_keeps p.valid s p.stands r b a g c in
        record {
          valid = keeps_valid w;
          slots = keeps_slots w;
          free = keeps_free w;
          taken = c;
          behind = leave_keeps_behind p.valid s p.stands r b a;
          ahead = leave_keeps_ahead p.valid s p.stands r b a;
        }
