-- Paths and chains: what reads them, what leaves them as they are, and the two changes. Assumes nothing.
use Prim.Native.Nat.{ℕ, zero, suc, ◌≤◌, ◌<◌}
use native.Mathlib.Omega.{arith}
use borrow.Author.Tests.{eq-eqb, ne_eqb}
use mathlib.Core.Path.{◌≡◌, refl, sym, ap, ◌∙◌}
use mathlib.Core.List.{List, ◌∷◌, reverse_aux, reverse}
use lib.ListN.{length}
use Rattle.rules_routine.specs.Limits.{max_sequence}
use Rattle.hub_sequence.specs.Lists.{count, placed, without, up_to, last_or}
use Rattle.hub_sequence.specs.Links.{none, walk, within, Path, last, next, Chain, stop, more}
use Rattle.hub_sequence.proofs.Tables.{by_eq}
use Rattle.hub_sequence.proofs.Lists.{same_self, same_eq, same_other, same-apart, within-slot}

-- ---- reading

pub path_chain : {A B : ℕ → ℕ} {x : ℕ} {l : List ℕ} → Path A B x l none → Chain B (B x) l
path_chain (last e f) = stop e
path_chain (next e f p) = rw e (more (path_chain p))

-- a walk along a chain of slots gives the chain
pub walk-chain : (n : ℕ) {f : ℕ → ℕ} {x : ℕ} {l : List ℕ} → Chain f x l → ((w : ℕ) → count w l ≤ within w) → length l ≤ n → walk n f x ≡ l
unfolding walk
walk-chain zero (stop e) s h = refl
walk-chain (suc n) {x = x} (stop e) s h = rw (eq-eqb x none e)
walk-chain zero (more c) s h = absurd (omega arith)
walk-chain (suc n) {x = x} (more {l = l} c) s h =
    let i : x < max_sequence = within-slot x (omega (arith, s x, same_self x)) in
    rw (ne_eqb x none (λ e. omega arith)) (ap (λ (m : List ℕ). x ∷ m) (walk-chain n c (λ w. omega (arith, s w)) (omega arith)))

-- from the other end
path_back-onto : {A B : ℕ → ℕ} {x z w : ℕ} {l m : List ℕ} → Path A B x l z → Path B A x m w → Path B A z (reverse_aux l (x ∷ m)) w
path_back-onto (last e f) q = next f e q
path_back-onto (next e f p) q = path_back-onto p (next f e q)

pub path_back : {A B : ℕ → ℕ} {x z : ℕ} {l : List ℕ} → Path A B x l z → Path B A z (reverse l) x
path_back (last e f) = last f e
path_back (next e f p) = path_back-onto p (last f e)

-- ---- there and back

module _ {A B : ℕ → ℕ} (s : ℕ) where
  pub behind_then_ahead : {x z : ℕ} {l : List ℕ} → Path A B x l z → 1 ≤ count s (x ∷ l) → A (B s) ≡ s
  behind_then_ahead {x = x} (last e f) h = by_eq s x (λ i. cc) (λ n. absurd (omega (arith, same_other s x n)))
  behind_then_ahead {x = x} (next e f p) h = by_eq s x (λ i. cc) (λ n. behind_then_ahead p (omega (arith, same_other s x n)))

  pub ahead_then_behind : {x z : ℕ} {l : List ℕ} → Path A B x l z → 1 ≤ count s l → B (A s) ≡ s
  ahead_then_behind (last e f) h = absurd (omega arith)
  ahead_then_behind (next {y = y} e f p) h = by_eq s y (λ i. cc) (λ n. ahead_then_behind p (omega (arith, same_other s y n)))

  -- what stands behind a slot of the path, and ahead of one, is on it
  pub behind-there : {x z : ℕ} {l : List ℕ} → Path A B x l z → 1 ≤ count s (x ∷ l) → 1 ≤ count (B s) (z ∷ l)
  behind-there {x = x} {z = z} (last e f) h =
      by_eq s x (λ i. let j : B s ≡ z = cc in omega (arith, same_eq (B s) z j)) (λ n. absurd (omega (arith, same_other s x n)))
  behind-there {x = x} (next {y = y} e f p) h =
      by_eq s x
      (λ i. let j : B s ≡ y = cc in omega (arith, same_eq (B s) y j))
      (λ n. let q = behind-there p (omega (arith, same_other s x n)) in omega arith)

  pub ahead-there : {x z : ℕ} {l : List ℕ} → Path A B x l z → 1 ≤ count s l → 1 ≤ count (A s) (x ∷ l)
  ahead-there (last e f) h = absurd (omega arith)
  ahead-there {x = x} (next {y = y} e f p) h =
      by_eq s y
      (λ i. let j : A s ≡ x = cc in omega (arith, same_eq (A s) x j))
      (λ n. let q = ahead-there p (omega (arith, same_other s y n)) in omega arith)

  -- a slot that is there once does not stand behind itself
  pub behind-apart : {x z : ℕ} {l : List ℕ} → Path A B x l z → (z ≡ s → ⊥) → 1 ≤ count s (x ∷ l) → count s (x ∷ l) ≤ 1 → B s ≡ s → ⊥
  behind-apart {x = x} {z = z} (last e f) m h k i = by_eq s x (λ j. let q : z ≡ s = cc in m q) (λ n. omega (arith, same_other s x n))
  behind-apart {x = x} (next {y = y} e f p) m h k i =
      by_eq s x
      (λ j. let q : s ≡ y = cc in omega (arith, same_eq s x j, same_eq s y q))
      (λ n. behind-apart p m (omega (arith, same_other s x n)) (omega arith) i)

  -- the last of what stands ahead of a slot is the one that its link says
  pub last_ahead : {x z : ℕ} {l : List ℕ} → Path A B x l z → 1 ≤ count s l → last_or x (up_to s l) ≡ A s
  last_ahead (last e f) h = absurd (omega arith)
  last_ahead {x = x} (next {y = y} e f p) h =
      by_eq y s
      (λ i. rw (eq-eqb y s i) (let j : x ≡ A s = cc in j))
      (λ n. rw (ne_eqb y s n) (last_ahead p (omega (arith, same_other s y (λ i. n (sym i))))))

-- what a chain starts at is its first slot, or none
pub chain-start : {f : ℕ → ℕ} {x : ℕ} {l : List ℕ} (s : ℕ) → Chain f x l → (s ≡ none → ⊥) → count s l ≡ 0 → x ≡ s → ⊥
chain-start s (stop e) n h i = n (sym i ∙ e)
chain-start {x = x} s (more c) n h i = omega (arith, same_eq s x (sym i))

pub chain_first : {f : ℕ → ℕ} {x : ℕ} {l : List ℕ} → Chain f x l → 1 ≤ length l → (m : List ℕ) × (l ≡ x ∷ m)
chain_first (stop e) h = absurd (omega arith)
chain_first (more {l = m} c) h = (m, refl)

pub chain-rest : {f : ℕ → ℕ} {x y : ℕ} {l : List ℕ} → Chain f x (y ∷ l) → Chain f (f y) l
chain-rest (more c) = c

-- ---- a new slot s comes behind `after`

module _ {B B' : ℕ → ℕ} (after s : ℕ)
    (keep-behind : (x : ℕ) → (x ≡ s → ⊥) → (x ≡ after → ⊥) → B' x ≡ B x)
  where
    pub chain-past_join : {x : ℕ} {l : List ℕ} → Chain B x l → count s l ≡ 0 → count after l ≡ 0 → Chain B' x l
    chain-past_join (stop e) h k = stop e
    chain-past_join {x = x} (more {l = l} c) h k =
        more {x = x} {l = l}
        (rw (keep-behind x (λ e. same-apart s x (omega arith) (sym e)) (λ e. same-apart after x (omega arith) (sym e)))
        (chain-past_join c (omega arith) (omega arith)))

    module _ {A A' : ℕ → ℕ} (keep-ahead : (x : ℕ) → (x ≡ s → ⊥) → (A x ≡ after → ⊥) → A' x ≡ A x) where
      -- past the new slot nothing changes
      path_past_join : {x z : ℕ} {l : List ℕ} → Path A B x l z → (z ≡ s → ⊥) → count s (x ∷ l) ≡ 0 → count after (x ∷ l) ≡ 0 →
          Path A' B' x l z
      path_past_join {x = x} {z = z} (last e f) m h k =
          let n : x ≡ s → ⊥ = λ i. same-apart s x (omega arith) (sym i) in
          let o : x ≡ after → ⊥ = λ i. same-apart after x (omega arith) (sym i) in
          last (keep-behind x n o ∙ e) (keep-ahead z m (λ i. o (sym f ∙ i)) ∙ f)
      path_past_join {x = x} (next {y = y} e f p) m h k =
          let n : x ≡ s → ⊥ = λ i. same-apart s x (omega arith) (sym i) in
          let o : x ≡ after → ⊥ = λ i. same-apart after x (omega arith) (sym i) in
          let u : y ≡ s → ⊥ = λ i. same-apart s y (omega arith) (sym i) in
          next (keep-behind x n o ∙ e) (keep-ahead y u (λ i. o (sym f ∙ i)) ∙ f) (path_past_join p m (omega arith) (omega arith))

      module _ (in-behind : B' after ≡ s) (in-ahead : A' s ≡ after) (out-behind : B' s ≡ B after) (out-ahead : A' (B after) ≡ s) where
        pub path_join : {x z : ℕ} {l : List ℕ} → Path A B x l z → (z ≡ s → ⊥) → count s (x ∷ l) ≡ 0 → count after (x ∷ l) ≡ 1 →
            Path A' B' x (placed after s x l) z
        path_join {x = x} {z = z} (last e f) m h k =
            by_eq x after
            (λ i. let a : B' x ≡ s = cc in let b : A' s ≡ x = cc in let c : B' s ≡ z = cc in let d : A' z ≡ s = cc in
            rw (eq-eqb x after i) (next a b (last c d)))
            (λ n. absurd (omega (arith, same_other after x (λ i. n (sym i)))))
        path_join {x = x} {z = z} (next {y = y} e f p) m h k =
            by_eq x after
            (λ i. let a : B' x ≡ s = cc in let b : A' s ≡ x = cc in let c : B' s ≡ y = cc in let d : A' y ≡ s = cc in
            rw (eq-eqb x after i) (next a b (next c d (path_past_join p m (omega arith) (omega (arith, same_eq after x (sym i)))))))
            (λ n.
            let u : x ≡ s → ⊥ = λ i. same-apart s x (omega arith) (sym i) in
            let v : y ≡ s → ⊥ = λ i. same-apart s y (omega arith) (sym i) in
            rw (ne_eqb x after n)
            (next (keep-behind x u n ∙ e) (keep-ahead y v (λ i. n (sym f ∙ i)) ∙ f)
            (path_join p m (omega arith) (omega (arith, same_other after x (λ i. n (sym i)))))))

-- ---- the slot s leaves

module _ {B B' : ℕ → ℕ} (s : ℕ)
    (keep-behind : (x : ℕ) → (x ≡ s → ⊥) → (B x ≡ s → ⊥) → B' x ≡ B x)
  where
    pub chain-past-leave : {x : ℕ} {l : List ℕ} → Chain B x l → (s ≡ none → ⊥) → count s l ≡ 0 → Chain B' x l
    chain-past-leave (stop e) n h = stop e
    chain-past-leave {x = x} (more {l = l} c) n h =
        more {x = x} {l = l}
        (rw (keep-behind x (λ e. same-apart s x (omega arith) (sym e)) (chain-start s c n (omega arith)))
        (chain-past-leave c n (omega arith)))

    module _ {A A' : ℕ → ℕ} (keep-ahead : (x : ℕ) → (x ≡ s → ⊥) → (A x ≡ s → ⊥) → A' x ≡ A x) where
      -- past the slot nothing changes
      path_past-leave : {x z : ℕ} {l : List ℕ} → Path A B x l z → (z ≡ s → ⊥) → count s (x ∷ l) ≡ 0 → Path A' B' x l z
      path_past-leave {x = x} {z = z} (last e f) m h =
          let n : x ≡ s → ⊥ = λ i. same-apart s x (omega arith) (sym i) in
          last (keep-behind x n (λ i. m (sym e ∙ i)) ∙ e) (keep-ahead z m (λ i. n (sym f ∙ i)) ∙ f)
      path_past-leave {x = x} (next {y = y} e f p) m h =
          let n : x ≡ s → ⊥ = λ i. same-apart s x (omega arith) (sym i) in
          let u : y ≡ s → ⊥ = λ i. same-apart s y (omega arith) (sym i) in
          next (keep-behind x n (λ i. u (sym e ∙ i)) ∙ e) (keep-ahead y u (λ i. n (sym f ∙ i)) ∙ f) (path_past-leave p m (omega arith))

      module _ (over-behind : B' (A s) ≡ B s) (over-ahead : A' (B s) ≡ A s) where
        -- the link over the slot
        path_over : {x y z : ℕ} {l : List ℕ} → y ≡ s → A y ≡ x → Path A B y l z → (z ≡ s → ⊥) → count s l ≡ 0 → Path A' B' x l z
        path_over {x = x} {z = z} i f (last g j) m h = let a : B' x ≡ z = cc in let b : A' z ≡ x = cc in last a b
        path_over {x = x} i f (next {y = w} g j p) m h = let a : B' x ≡ w = cc in let b : A' w ≡ x = cc in next a b (path_past-leave p m h)

        pub path_leave : {x z : ℕ} {l : List ℕ} → Path A B x l z → (x ≡ s → ⊥) → (z ≡ s → ⊥) → count s l ≡ 1 → Path A' B' x (without s l) z
        path_leave (last e f) n m h = absurd (omega arith)
        path_leave {x = x} (next {y = y} e f p) n m h =
            by_eq y s
            (λ i. rw (eq-eqb y s i) (path_over i f p m (omega (arith, same_eq s y (sym i)))))
            (λ u. rw (ne_eqb y s u)
            (next (keep-behind x n (λ i. u (sym e ∙ i)) ∙ e) (keep-ahead y u (λ i. n (sym f ∙ i)) ∙ f)
            (path_leave p u m (omega (arith, same_other s y (λ i. u (sym i)))))))
