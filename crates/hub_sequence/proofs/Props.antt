-- That the links are in order has one proof at most, so that a ghost field can say it. Assumes nothing.
use mathlib.Core.Path.{◌≡◌, refl, sym, ap, ◌∙◌, subst, subst_refl}
use mathlib.Core.List.{List, [], ◌∷◌}
use Prim.Native.Nat.{ℕ}
use denote.Struct.Props as logic
use Rattle.hub_sequence.specs.Links.{Path, last, next, Chain, stop, more, none}

-- a path, by recursion on its list
module _ (ahead behind : ℕ → ℕ) where
  abbrev Linked : ℕ → List ℕ → ℕ → Type 0
  Linked x [] z = (behind x ≡ z) × (ahead z ≡ x)
  Linked x (y ∷ l) z = (behind x ≡ y) × (ahead y ≡ x) × Linked y l z

  linked-prop : (x : ℕ) (l : List ℕ) (z : ℕ) → IsProp (Linked x l z)
  linked-prop x [] z = Prim.hlevel logic.props
  linked-prop x (y ∷ l) z = Prim.hlevel (linked-prop y l z, logic.props)

  linked : {x : ℕ} {l : List ℕ} {z : ℕ} → Path ahead behind x l z → Linked x l z
  linked (last a b) = (a, b)
  linked (next a b p) = (a, b, linked p)

  path : (x : ℕ) (l : List ℕ) (z : ℕ) → Linked x l z → Path ahead behind x l z
  path x [] z s = last s.0 s.1
  path x (y ∷ l) z s = next s.0 s.1 (path y l z s.2)

  path-linked : {x : ℕ} {l : List ℕ} {z : ℕ} (p : Path ahead behind x l z) → path x l z (linked p) ≡ p
  unfolding path linked
  path-linked (last a b) = refl
  path-linked (next a b p) = ap (next a b) (path-linked p)

  pub path-prop : (x : ℕ) (l : List ℕ) (z : ℕ) → IsProp (Path ahead behind x l z)
  path-prop x l z p q = sym (path-linked p) ∙ ap (path x l z) (linked-prop x l z (linked p) (linked q)) ∙ path-linked q

-- a chain, by recursion on its list
module _ (f : ℕ → ℕ) where
  abbrev Chained : ℕ → List ℕ → Type 0
  Chained x [] = x ≡ none
  Chained x (y ∷ l) = (y ≡ x) × Chained (f y) l

  chained-prop : (x : ℕ) (l : List ℕ) → IsProp (Chained x l)
  chained-prop x [] = Prim.hlevel logic.props
  chained-prop x (y ∷ l) = Prim.hlevel (chained-prop (f y) l, logic.props)

  chained : {x : ℕ} {l : List ℕ} → Chain f x l → Chained x l
  chained (stop e) = e
  chained (more c) = (refl, chained c)

  chain : (x : ℕ) (l : List ℕ) → Chained x l → Chain f x l
  chain x [] e = stop e
  chain x (y ∷ l) s = subst (λ (z : ℕ). Chain f z (y ∷ l)) s.0 (more (chain (f y) l s.1))

  chain-chained : {x : ℕ} {l : List ℕ} (c : Chain f x l) → chain x l (chained c) ≡ c
  unfolding chain chained
  chain-chained (stop e) = refl
  chain-chained {l = y ∷ l} (more c) = subst_refl (λ (z : ℕ). Chain f z (y ∷ l)) (more (chain (f y) l (chained c)))
      ∙ ap more (chain-chained c)

  pub chain-prop : (x : ℕ) (l : List ℕ) → IsProp (Chain f x l)
  chain-prop x l p q = sym (chain-chained p) ∙ ap (chain x l) (chained-prop x l (chained p) (chained q)) ∙ chain-chained q
