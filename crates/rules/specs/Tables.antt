-- Lists that are searched, and tables over device numbers or ids. Assumes nothing.
use Rattle.std.specs.Prelude.{Bool, false, ◌||◌, List, [], ◌∷◌, ℕ, eqb, ℤ, pos, negsuc, cond}

-- Does one of the list pass the test?
abbrev pub any_of {ℓ} : {A : Type ℓ} → (A → Bool) → List A → Bool
any_of p [] = false
any_of p (x ∷ l) = p x || any_of p l

-- Does this hold of each of the list?
abbrev pub Each {ℓ} : {A : Type ℓ} → (A → Type 0) → List A → Type 0
Each P [] = Unit {0}
Each P (x ∷ l) = P x × Each P l

-- The table with v at i.
abbrev pub put {ℓ} : {A : Type ℓ} → (ℕ → A) → ℕ → A → ℕ → A
put f i v j = cond (eqb j i) v (f j)

-- Are two settings the same?
abbrev pub same_setting : ℤ → ℤ → Bool
same_setting (pos a) (pos b) = eqb a b
same_setting (pos a) (negsuc b) = false
same_setting (negsuc a) (pos b) = false
same_setting (negsuc a) (negsuc b) = eqb a b
