-- Links before and after: a slot joins, a slot leaves, and one after the other. Assumes nothing.
use Prim.Native.Nat.{ℕ, ◌+◌}
use native.Mathlib.Omega.{arith}
use mathlib.Core.Path.{◌≡◌, sym, ap, subst, ◌∙◌}
use Rattle.hub_sequence.specs.Lists.{same, count, without}
use Rattle.hub_sequence.specs.Links.{none, behind_of, ahead_of, slots_of, LinksOk, Stands, StandsOrNone}
use Rattle.hub_sequence.specs.Contract.{Joins, Leaves}
use Rattle.hub_sequence.specs.Stays.{Stays, LinksStay}
use Rattle.hub_sequence.specs.declared.Links.{Links}
use Rattle.hub_sequence.specs.declared.Joined.{Joined}
use Rattle.hub_sequence.proofs.Tables.{by_less}
use Rattle.hub_sequence.proofs.Lists.{same_self, same_other, count-placed, count-without}
use Rattle.hub_sequence.proofs.Paths.{behind_then_ahead, ahead_then_behind}
use Rattle.hub_sequence.proofs.ReadLaws.{once-taken}

-- a slot is taken or not
pub by_stands : {C : Type 0} (k : Links) (x : ℕ) → (Stands k x → C) → ((Stands k x → ⊥) → C) → C
by_stands {C} k x yes' no' = by_less 0 (count x (slots_of k)) (λ h. yes' (omega arith)) (λ h. no' (λ s. omega arith))

-- ---- the same links

pub same_stay : (k r : Links) → r ≡ k → LinksStay k r
same_stay k r e = record { behind = λ x _ _ _. ap (λ (l : Links). behind_of l x) e; ahead = λ x _ _ _. ap (λ (l : Links). ahead_of l x) e }

-- ---- a slot leaves

module _ (k : Links) (at : ℕ) (r : Links) (v : LinksOk k) (s : Stands k at) (e : Leaves k at r) where
  -- a slot that still stands stood before
  pub stood : (x : ℕ) → Stands r x → Stands k x
  stood x t =
      let c : count x (slots_of r) ≡ count x (without at (slots_of k)) = ap (count x) e.slots in
      omega (arith, count-without at x (slots_of k) s)

  pub left_gone : Stands r at → ⊥
  left_gone t =
      let c : count at (slots_of r) ≡ count at (without at (slots_of k)) = ap (count at) e.slots in
      omega (arith, count-without at at (slots_of k) s, same_self at, once-taken k at v)

  -- every other slot stands as it stood
  pub still_stands : (x : ℕ) → Stands k x → (x ≡ at → ⊥) → Stands r x
  still_stands x t n =
      let c : count x (slots_of r) ≡ count x (without at (slots_of k)) = ap (count x) e.slots in
      omega (arith, count-without at x (slots_of k) s, same_other x at n)

  -- the one that left does not stay
  off_left : (x : ℕ) → Stays k r x → x ≡ at → ⊥
  off_left x a q = left_gone (subst (Stands r) q (a.0 (subst (Stands k) (sym q) s)))

  pub leaves_stay : LinksStay k r
  leaves_stay = record {
    behind = λ x a b _.
        e.behind x (off_left x a) (λ q. off_left (behind_of k x) b (ap (behind_of k) q ∙ ahead_then_behind at v.linked s));
    ahead = λ x a b _.
        e.ahead x (λ q. off_left (ahead_of k x) b (ap (ahead_of k) q ∙ behind_then_ahead at v.linked (omega arith)));
  }

-- ---- a slot joins

module _ (k : Links) (after : ℕ) (r : Joined) (p : StandsOrNone k after) (e : Joins k after r) where
  counted : (x : ℕ) → count x (slots_of r.links) ≡ same x r.slot + count x (slots_of k)
  counted x = ap (count x) e.slots ∙ count-placed after r.slot x none (slots_of k) p

  -- who is taken now was taken, or is the newcomer
  pub taken_or_new : (x : ℕ) → Stands r.links x → (x ≡ r.slot → ⊥) → Stands k x
  taken_or_new x t n = omega (arith, counted x, same_other x r.slot n)

  -- the newcomer does not stay
  off_new : (x : ℕ) → Stays k r.links x → x ≡ r.slot → ⊥
  off_new x a q =
      let i : Stands r.links r.slot = omega (arith, counted r.slot, same_self r.slot) in
      let j : Stands k r.slot = subst (Stands k) q (a.1 (subst (Stands r.links) (sym q) i)) in
      omega (arith, e.fresh)

  pub joins_stay : LinksStay k r.links
  joins_stay = record {
    behind = λ x a _ c. e.behind x (off_new x a) (λ q. off_new (behind_of r.links x) c (ap (behind_of r.links) q ∙ e.behind_after));
    ahead = λ x a _ c. e.ahead x (off_new x a) (λ q. off_new (ahead_of r.links x) c (ap (ahead_of r.links) q ∙ e.ahead_next));
  }

-- ---- one after the other

-- Who joins in the first part stays in the second, where nobody joins: so no slot is taken and freed, or freed and taken, in between.
module _ (k m r : Links) (joined-stay : (x : ℕ) → Stands m x → (Stands k x → ⊥) → Stands r x)
    (nobody-joins : (x : ℕ) → Stands r x → Stands m x)
  where
    stays_first : (x : ℕ) → Stays k r x → Stays k m x
    stays_first x a = ((λ s. nobody-joins x (a.0 s)), (λ s. by_stands k x (λ t. t) (λ t. a.1 (joined-stay x s t))))

    stays_then : (x : ℕ) → Stays k r x → Stays m r x
    stays_then x a = ((λ s. a.0 ((stays_first x a).1 s)), nobody-joins x)

    -- one of the two rows
    module _ (f g h : ℕ → ℕ) (p : (x : ℕ) → Stays k m x → Stays k m (f x) → Stays k m (g x) → g x ≡ f x)
        (q : (x : ℕ) → Stays m r x → Stays m r (g x) → Stays m r (h x) → h x ≡ g x)
        (x : ℕ) (a : Stays k r x) (b : Stays k r (f x)) (c : Stays k r (h x))
      where
        -- where the link led to in between stays in the second part
        stayed : Stays m r (g x) → h x ≡ f x
        stayed d =
            let e = q x (stays_then x a) d (stays_then (h x) c) in
            e ∙ p x (stays_first x a) (stays_first (f x) b) (stays_first (g x) (subst (Stays k r) e c))

        -- it cannot have left there: it was taken at the start, and the link led to it
        left_then : Stands m (g x) → (Stands r (g x) → ⊥) → ⊥
        left_then s t =
            let u : Stands k (g x) = by_stands k (g x) (λ o. o) (λ o. absurd (t (joined-stay (g x) s o))) in
            let e = p x (stays_first x a) (stays_first (f x) b) ((λ _. s), (λ _. u)) in
            t (subst (Stands r) (sym e) (b.0 (subst (Stands k) e u)))

        row_then : h x ≡ f x
        row_then =
            by_stands r (g x) (λ t. stayed ((λ _. t), nobody-joins (g x)))
            (λ t. stayed ((λ s. absurd (left_then s t)), nobody-joins (g x)))

    pub stay_then : LinksStay k m → LinksStay m r → LinksStay k r
    stay_then p q = record {
      behind = row_then (behind_of k) (behind_of m) (behind_of r) p.behind q.behind;
      ahead = row_then (ahead_of k) (ahead_of m) (ahead_of r) p.ahead q.ahead;
    }
