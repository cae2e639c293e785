-- Rows over devices as tables, and settings in 16 bits. Assumes nothing.
use mathlib.Core.Path.{◌≡◌, refl, sym, ap, ◌∙◌}
use mathlib.Core.Logic.{◌≢◌}
use mathlib.Core.Bool.{Bool, true, false, cond}
use mathlib.Core.List.{List}
use Prim.Native.Nat.{ℕ, ◌+◌, ◌<◌, ◌≤◌}
use native.Mathlib.Omega.{arith}
use borrow.Author.Tests.{eq-eqb, eqb-true, eqb-false, ltb-true, ltb-false, lt-ltb, le-ltb}
use mir.Val.{to_z, of_z}
use mir.Syntax.{w16}
use lib.Dec.{eqb, ltb}
use lib.IntN.{ℤ, pos, negsuc}
use lib.ListN.{length, get_or, set}
use lib.Seq.{get_or-set_same, get_or-set_other}
use Rattle.rules.specs.Tables.{put, same_setting}
use Rattle.rules.proofs.Lists.{by_if, this_or_other, same-setting, put_same, put_other}
use Rattle.hub_state.specs.View.{no_restart, is_restart}

-- a store in a row is a change of the table that it is read as
pub set-put {ℓ} : {A : Type ℓ} (l : List A) (i : ℕ) (v z : A) → i < length l → (d : ℕ) → get_or (set l i v) d z ≡ put (λ e. get_or l e z) i v d
set-put l i v z h d = go (eqb d i) refl
  where
    go : (t : Bool) → eqb d i ≡ t → get_or (set l i v) d z ≡ cond t v (get_or l d z)
    go true e = ap (λ (k : ℕ). get_or (set l i v) k z) (eqb-true d i e) ∙ get_or-set_same l i v z h
    go false e = get_or-set_other l i d v z (eqb-false d i e)

-- ---- settings

pub same_self : (u : ℤ) → same_setting u u ≡ true
same_self (pos n) = eq-eqb n n refl
same_self (negsuc n) = eq-eqb n n refl

-- a setting of 16 bits is no restart if it has the bits of that number, and else it is one
pub no_restart-bits : (u : ℤ) → to_z w16 (of_z w16 u) ≡ u → of_z w16 u ≡ of_z w16 no_restart → is_restart u ≡ false
no_restart-bits u p b = let s : u ≡ no_restart = sym p ∙ ap (to_z w16) b in ap is_restart s

pub restart-bits : (u : ℤ) → (of_z w16 u ≡ of_z w16 no_restart → ⊥) → is_restart u ≡ true
restart-bits u n = go (same_setting u no_restart) refl
  where
    go : (t : Bool) → same_setting u no_restart ≡ t → is_restart u ≡ true
    go true e = absurd (n (ap (of_z w16) (same-setting u no_restart e)))
    go false e = rw e

-- ---- a table that is made new entry by entry

-- a table of which the entries below i are new
abbrev pub new_below {ℓ} : {A : Type ℓ} → ℕ → (ℕ → A) → (ℕ → A) → ℕ → A
new_below i new old d = cond (ltb d i) (new d) (old d)

module _ {ℓ} {A : Type ℓ} (new old : ℕ → A) where
  -- one more is new: the others are as they were
  below_more : (i d : ℕ) → d ≢ i → new_below i new old d ≡ new_below (i + 1) new old d
  below_more i d n = ap (λ t. cond t (new d) (old d)) (go (ltb d i) refl)
    where
      go : (t : Bool) → ltb d i ≡ t → t ≡ ltb d (i + 1)
      go true e = let h = ltb-true d i e in sym (lt-ltb d (i + 1) (omega arith))
      go false e = let h = ltb-false d i e in sym (le-ltb d (i + 1) (omega arith))

  -- and the last one is new
  below_here : (i : ℕ) → new_below (i + 1) new old i ≡ new i
  below_here i = ap (λ t. cond t (new i) (old i)) (lt-ltb i (i + 1) (omega arith))

  -- the entry at i becomes new
  pub below_put : (i : ℕ) (f : ℕ → A) (v : A) → ((d : ℕ) → f d ≡ new_below i new old d) → v ≡ new i → (d : ℕ) →
      put f i v d ≡ new_below (i + 1) new old d
  below_put i f v h s d = this_or_other (λ d. put f i v d ≡ new_below (i + 1) new old d) i d (put_same f i v ∙ s ∙ sym (below_here i))
      (λ n. put_other f i v d (λ e. n (sym e)) ∙ h d ∙ below_more i d (λ e. n (sym e)))

  -- the entry at i is as it was
  pub below_same : (i : ℕ) (f : ℕ → A) → ((d : ℕ) → f d ≡ new_below i new old d) → new i ≡ old i → (d : ℕ) → f d ≡ new_below (i + 1) new old d
  below_same i f h s d = h d ∙ this_or_other (λ d. new_below i new old d ≡ new_below (i + 1) new old d) i d
      (ap (λ t. cond t (new i) (old i)) (le-ltb i i (omega arith)) ∙ sym s ∙ sym (below_here i))
      (λ n. below_more i d (λ e. n (sym e)))

  -- past the end nothing is new
  pub below_all : (n : ℕ) → ((d : ℕ) → n ≤ d → new d ≡ old d) → (d : ℕ) → new_below n new old d ≡ new d
  below_all n h d = by_if (λ x. x ≡ new d) (ltb d n) (λ _. refl) (λ e. sym (h d (ltb-false d n e)))
