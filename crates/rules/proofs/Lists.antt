-- Laws of tests, of tables, of predicates over lists, and of lists of ids. Assumes nothing.
use mathlib.Core.Path.{◌≡◌, refl, sym, ap, ◌∙◌, subst}
use mathlib.Core.Logic.{◌≢◌, ◌⊎◌, inl, inr}
use mathlib.Core.Bool.{Bool, true, false, cond, ◌&&◌, ◌||◌, or_assoc}
use mathlib.Core.List.{List, [], ◌∷◌, ◌++◌}
use Prim.Native.Nat.{ℕ, suc, ◌<◌}
use native.Mathlib.Omega.{arith}
use borrow.Author.Tests.{eqb-true, eqb-false, eq-eqb, ne_eqb}
use lib.Dec.{eqb}
use lib.IntN.{ℤ, pos, negsuc}
use Rattle.rules_routine.proofs.RoutineLaws.{or-false, and-true}
use Rattle.rules.specs.State.{Member}
use Rattle.rules.specs.Due.{after_members}
use Rattle.rules.specs.Tables.{any_of, Each, put, same_setting}

-- ---- tests

-- to prove a thing of a choice, prove it of each side
pub by_if {ℓ κ} : {A : Type ℓ} (P : A → Type κ) (t : Bool) {x y : A} → (t ≡ true → P x) → (t ≡ false → P y) → P (cond t x y)
by_if P true f g = f refl
by_if P false f g = g refl

pub t≠f {ℓ} : {A : Type ℓ} → true ≡ false → A
t≠f e = let z : ◌≡◌ {A = ℕ} 0 1 = cc in absurd (omega arith)

pub or_left : (s t : Bool) → s || t ≡ false → s ≡ false
or_left s t e = (or-false s t e).0

pub or_right : (s t : Bool) → s || t ≡ false → t ≡ false
or_right s t e = (or-false s t e).1

pub and_left : (s t : Bool) → s && t ≡ true → s ≡ true
and_left s t e = (and-true s t e).0

pub and_right : (s t : Bool) → s && t ≡ true → t ≡ true
and_right s t e = (and-true s t e).1

pub eqb_sym : (i j : ℕ) → eqb i j ≡ eqb j i
eqb_sym i j = go (eqb j i) refl
  where
    go : (t : Bool) → eqb j i ≡ t → eqb i j ≡ t
    go true t = eq-eqb i j (sym (eqb-true j i t))
    go false t = ne_eqb i j (λ e. eqb-false j i t (sym e))

-- j is i, or another
pub this_or_other {ℓ} : (P : ℕ → Type ℓ) (i j : ℕ) → P i → (i ≢ j → P j) → P j
this_or_other P i j h k = go (eqb i j) refl
  where
    go : (t : Bool) → eqb i j ≡ t → P j
    go true t = subst P (eqb-true i j t) h
    go false t = k (eqb-false i j t)

pub same-setting : (u v : ℤ) → same_setting u v ≡ true → u ≡ v
same-setting (pos m) (pos n) e = ap pos (eqb-true m n e)
same-setting (pos m) (negsuc n) e = t≠f (sym e)
same-setting (negsuc m) (pos n) e = t≠f (sym e)
same-setting (negsuc m) (negsuc n) e = ap negsuc (eqb-true m n e)

-- ---- tables

pub put_same {ℓ} : {A : Type ℓ} (f : ℕ → A) (i : ℕ) (v : A) → put f i v i ≡ v
put_same f i v = ap (λ t. cond t v (f i)) (eq-eqb i i refl)

pub put_other {ℓ} : {A : Type ℓ} (f : ℕ → A) (i : ℕ) (v : A) (j : ℕ) → j ≢ i → put f i v j ≡ f j
put_other f i v j n = ap (λ t. cond t v (f j)) (ne_eqb j i n)

-- a part that the new value has from the old one
pub put_keeps {ℓ κ} : {A : Type ℓ} {B : Type κ} (part : A → B) (f : ℕ → A) (i : ℕ) (v : A) → part v ≡ part (f i) → (j : ℕ) →
    part (put f i v j) ≡ part (f j)
put_keeps part f i v e j = by_if (λ x. part x ≡ part (f j)) (eqb j i) (λ t. e ∙ ap (λ k. part (f k)) (sym (eqb-true j i t))) (λ _. refl)

-- ---- a thing done for each of a list in turn

pub fold_++ {ℓ κ} : {X : Type ℓ} {A : Type κ} (all : List X → A → A) → ((a : A) → all [] a ≡ a) →
    ((x : X) (l : List X) (a : A) → all (x ∷ l) a ≡ all l (all (x ∷ []) a)) →
    (k l : List X) (a : A) → all (k ++ l) a ≡ all l (all k a)
fold_++ all n c [] l a = ap (all l) (sym (n a))
fold_++ all n c (x ∷ k) l a = c x (k ++ l) a ∙ fold_++ all n c k l (all (x ∷ []) a) ∙ ap (all l) (sym (c x k a))

pub members_after_++ : (d : ℕ) (a b : List Member) (v : ℤ) → after_members d (a ++ b) v ≡ after_members d b (after_members d a v)
members_after_++ d = fold_++ (after_members d) (λ v. refl) (λ m l v. refl)

-- ---- predicates over lists

pub each_++ {ℓ} : {A : Type ℓ} (P : A → Type 0) (a b : List A) → Each P a → Each P b → Each P (a ++ b)
each_++ P [] b h k = k
each_++ P (x ∷ a) b h k = (h.0, each_++ P a b h.1 k)

pub each_left {ℓ} : {A : Type ℓ} (P : A → Type 0) (a b : List A) → Each P (a ++ b) → Each P a
each_left P [] b h = tt
each_left P (x ∷ a) b h = (h.0, each_left P a b h.1)

pub each_right {ℓ} : {A : Type ℓ} (P : A → Type 0) (a b : List A) → Each P (a ++ b) → Each P b
each_right P [] b h = h
each_right P (x ∷ a) b h = each_right P a b h.1

pub each_mid {ℓ} : {A : Type ℓ} (P : A → Type 0) (a : List A) (x : A) (b : List A) → Each P (a ++ (x ∷ b)) → P x
each_mid P a x b h = (each_right P a (x ∷ b) h).0

pub each_drop {ℓ} : {A : Type ℓ} (P : A → Type 0) (a : List A) (x : A) (b : List A) → Each P (a ++ (x ∷ b)) → Each P (a ++ b)
each_drop P [] x b h = h.1
each_drop P (z ∷ a) x b h = (h.0, each_drop P a x b h.1)

pub each_insert {ℓ} : {A : Type ℓ} (P : A → Type 0) (a : List A) (x : A) (b : List A) → Each P (a ++ b) → P x → Each P (a ++ (x ∷ b))
each_insert P a x b h k = each_++ P a (x ∷ b) (each_left P a b h) (k, each_right P a b h)

-- one element replaced
pub each_swap {ℓ} : {A : Type ℓ} (P : A → Type 0) (a : List A) (x y : A) (b : List A) → Each P (a ++ (x ∷ b)) → P y → Each P (a ++ (y ∷ b))
each_swap P a x y b h k = each_insert P a y b (each_drop P a x b h) k

pub each_map {ℓ} : {A : Type ℓ} (P Q : A → Type 0) → ((x : A) → P x → Q x) → (l : List A) → Each P l → Each Q l
each_map P Q f [] h = tt
each_map P Q f (x ∷ l) h = (f x h.0, each_map P Q f l h.1)

pub any_of_++ {ℓ} : {A : Type ℓ} (p : A → Bool) (a b : List A) → any_of p (a ++ b) ≡ (any_of p a || any_of p b)
any_of_++ p [] b = refl
any_of_++ p (x ∷ a) b = rw (any_of_++ p a b) (sym (or_assoc (p x) (any_of p a) (any_of p b)))

-- ---- ids: distinct, not zero, below the next one

abbrev pub IsNot : ℕ → ℕ → Type 0
IsNot i x = x ≢ i

abbrev pub NotIn : ℕ → List ℕ → Type 0
NotIn i l = Each (IsNot i) l

abbrev pub In : ℕ → List ℕ → Type 0
In i [] = ⊥
In i (x ∷ l) = (x ≡ i) ⊎ In i l

abbrev pub IdsOk : ℕ → List ℕ → Type 0
IdsOk n [] = Unit {0}
IdsOk n (x ∷ l) = (0 < x) × (x < n) × NotIn x l × IdsOk n l

pub ids_drop : (n : ℕ) (a : List ℕ) (x : ℕ) (b : List ℕ) → IdsOk n (a ++ (x ∷ b)) → IdsOk n (a ++ b)
ids_drop n [] x b h = h.3
ids_drop n (z ∷ a) x b h = (h.0, h.1, each_drop (IsNot z) a x b h.2, ids_drop n a x b h.3)

pub ids_fresh : (n : ℕ) (l : List ℕ) → IdsOk n l → NotIn n l
ids_fresh n [] h = tt
ids_fresh n (x ∷ l) h = (omega arith, ids_fresh n l h.3)

pub ids_insert : (n : ℕ) (a b : List ℕ) → 0 < n → IdsOk n (a ++ b) → IdsOk (suc n) (a ++ (n ∷ b))
ids_insert n [] b p h = (p, omega arith, ids_fresh n b h, wider b h)
  where
    wider : (l : List ℕ) → IdsOk n l → IdsOk (suc n) l
    wider [] k = tt
    wider (x ∷ l) k = (k.0, omega arith, k.2, wider l k.3)
ids_insert n (z ∷ a) b p h = (h.0, omega arith, each_insert (IsNot z) a n b h.2 (omega arith), ids_insert n a b p h.3)

pub ids_left : (n : ℕ) (a b : List ℕ) → IdsOk n (a ++ b) → IdsOk n a
ids_left n [] b h = tt
ids_left n (z ∷ a) b h = (h.0, h.1, each_left (IsNot z) a b h.2, ids_left n a b h.3)

pub ids_right : (n : ℕ) (a b : List ℕ) → IdsOk n (a ++ b) → IdsOk n b
ids_right n [] b h = h
ids_right n (z ∷ a) b h = ids_right n a b h.3

-- the id in the middle is no other's
pub ids_other : (n : ℕ) (a : List ℕ) (x : ℕ) (b : List ℕ) → IdsOk n (a ++ (x ∷ b)) → NotIn x (a ++ b)
ids_other n [] x b h = h.2
ids_other n (z ∷ a) x b h = (λ e. each_mid (IsNot z) a x b h.2 (sym e), ids_other n a x b h.3)

pub ids_not_zero : (n : ℕ) (l : List ℕ) → IdsOk n l → NotIn 0 l
ids_not_zero n [] h = tt
ids_not_zero n (x ∷ l) h = (let p = h.0 in omega arith, ids_not_zero n l h.3)

pub in_other : (i j : ℕ) (l : List ℕ) → NotIn i l → In j l → j ≢ i
in_other i j [] n h e = h
in_other i j (x ∷ l) n (inl p) e = n.0 (p ∙ e)
in_other i j (x ∷ l) n (inr h) e = in_other i j l n.1 h e
