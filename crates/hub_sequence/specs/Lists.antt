-- Lists of slots: how often a slot occurs, the two changes of a list, and its parts around a slot. Assumes nothing.
use Rattle.std.specs.Prelude.{ℕ, ◌+◌, List, [], ◌∷◌, eqb, if◌then◌else◌}

-- 1 if the two are the same, else 0.
unfoldable pub same : ℕ → ℕ → ℕ
same x y = if eqb x y then 1 else 0

-- How often x occurs. That no slot is twice in a list, that two lists share none, and that they make up all slots is each an equation of
-- counts, and `omega` reads it.
abbrev pub count : ℕ → List ℕ → ℕ
count x [] = 0
count x (y ∷ l) = same x y + count x l

-- The list with s directly behind `after`, where the list itself stands behind x.
abbrev pub placed : ℕ → ℕ → ℕ → List ℕ → List ℕ
placed after s x [] = if eqb x after then s ∷ [] else []
placed after s x (y ∷ l) = if eqb x after then s ∷ y ∷ l else y ∷ placed after s y l

-- What stands ahead of that place.
abbrev pub ahead_of_place : ℕ → ℕ → List ℕ → List ℕ
ahead_of_place after x [] = []
ahead_of_place after x (y ∷ l) = if eqb x after then [] else y ∷ ahead_of_place after y l

-- What stands behind it.
abbrev pub behind_place : ℕ → ℕ → List ℕ → List ℕ
behind_place after x [] = []
behind_place after x (y ∷ l) = if eqb x after then y ∷ l else behind_place after y l

-- The list without the first s.
abbrev pub without : ℕ → List ℕ → List ℕ
without s [] = []
without s (y ∷ l) = if eqb y s then l else y ∷ without s l

-- The list up to the first x, without it.
abbrev pub up_to : ℕ → List ℕ → List ℕ
up_to x [] = []
up_to x (y ∷ l) = if eqb y x then [] else y ∷ up_to x l

-- The list behind the first x.
abbrev pub rest : ℕ → List ℕ → List ℕ
rest x [] = []
rest x (y ∷ l) = if eqb y x then l else rest x l

-- The last of the list, which stands behind x: x itself if the list is empty.
abbrev pub last_or : ℕ → List ℕ → ℕ
last_or x [] = x
last_or x (y ∷ l) = last_or y l
