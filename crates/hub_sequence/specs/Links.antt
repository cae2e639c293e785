-- The links, read as lists of slots. Document 02, item 8: "keep for each routine the one ahead and the one behind". Assumes nothing.
use Rattle.std.specs.Prelude.{ℕ, zero, suc, ◌+◌, ◌≤◌, ◌<◌, ◌≡◌, List, [], ◌∷◌, eqb, ltb, length, get_or, set, if◌then◌else◌}
use Rattle.rules_routine.specs.Limits.{max_sequence}
use Rattle.hub_sequence.specs.Lists.{count}
use Rattle.hub_sequence.specs.declared.Links.{Links}

-- No slot: it stands before the first and behind the last.
abbrev pub none : ℕ
none = 255

-- A row of links with its end, as one table: the end is the link of `none`. So the links make a ring through `none`, and neither end is a
-- case of its own.
unfoldable pub link_of : List ℕ → ℕ → ℕ → ℕ
link_of row end x = if eqb x none then end else get_or row x 0

-- "the one behind" a slot (item 8); behind `none` stands the first.
abbrev pub behind_of : Links → ℕ → ℕ
behind_of k = link_of k.behind k.first

-- "the one ahead" of a slot (item 8); ahead of `none` stands the last.
abbrev pub ahead_of : Links → ℕ → ℕ
ahead_of k = link_of k.ahead k.last

-- The row after the link of `at` became `to`; the link of `none` is not in the row.
unfoldable pub row_with : List ℕ → ℕ → ℕ → List ℕ
row_with row at to = if eqb at none then row else set row at to

-- Its end after that.
unfoldable pub end_with : ℕ → ℕ → ℕ → ℕ
end_with end at to = if eqb at none then to else end

-- ---- reading

-- The slots met from here on, at most n of them.
unfoldable pub walk : ℕ → (ℕ → ℕ) → ℕ → List ℕ
walk zero f x = []
walk (suc n) f x = if eqb x none then [] else x ∷ walk n f (f x)

-- The slots from x on along a row.
unfoldable pub along : List ℕ → ℕ → List ℕ
along row x = walk max_sequence (λ y. get_or row y 0) x

-- The taken slots in the sequence's order: "the sequence read along the links" (item 8).
abbrev pub slots_of : Links → List ℕ
slots_of k = along k.behind k.first

-- The same from the last to the first, along the other row.
abbrev pub back_of : Links → List ℕ
back_of k = along k.ahead k.last

-- The free slots. They hang on a list along `behind`, which they have no other use for.
abbrev pub free_of : Links → List ℕ
free_of k = along k.behind k.free

-- ---- what holds of them

-- From x behind to behind through the list to z; each link is there both ways: who stands behind x has x ahead of it.
pub data Path (ahead behind : ℕ → ℕ) : ℕ → List ℕ → ℕ → Type 0 where
  last : {x z : ℕ} → behind x ≡ z → ahead z ≡ x → Path ahead behind x [] z
  next : {x y z : ℕ} {l : List ℕ} → behind x ≡ y → ahead y ≡ x → Path ahead behind y l z → Path ahead behind x (y ∷ l) z

-- From x through the list to `none`, one way.
pub data Chain (f : ℕ → ℕ) : ℕ → List ℕ → Type 0 where
  stop : {x : ℕ} → x ≡ none → Chain f x []
  more : {x : ℕ} {l : List ℕ} → Chain f (f x) l → Chain f x (x ∷ l)

-- 1 for a slot, 0 for any other number.
unfoldable pub within : ℕ → ℕ
within x = if ltb x max_sequence then 1 else 0

-- The links hold these slots in this order, and these are free. Item 8 asks "the links to run through each held routine a single time":
-- the path goes from none through the taken slots to none, and `once` says that each slot is in just one of the two lists, and there once,
-- and that no other number is in either.
pub record Keeps (k : Links) (taken free : List ℕ) : Type 0 where
  pub linked : Path (ahead_of k) (behind_of k) none taken none
  pub spare : Chain (behind_of k) k.free free
  pub once : (x : ℕ) → count x taken + count x free ≡ within x
  pub full : length taken + length free ≡ max_sequence
  pub counted : k.taken ≡ length taken

-- The links are in order: this holds of the two lists that are read along them.
abbrev pub LinksOk : Links → Type 0
LinksOk k = Keeps k (slots_of k) (free_of k)

-- From x on a row links slots, each once, up to `none`: what a walk along the row needs, whichever row it is.
pub record Walks (row : List ℕ) (x : ℕ) : Type 0 where
  pub chain : Chain (λ y. get_or row y 0) x (along row x)
  pub slots : (w : ℕ) → count w (along row x) ≤ within w
  pub short : length (along row x) ≤ max_sequence

-- ---- numbers that name a place

-- A slot or `none`: a number that has a link.
abbrev pub Spot : ℕ → Type 0
Spot x = (x ≡ none → ⊥) → x < max_sequence

-- A slot that is taken.
abbrev pub Stands : Links → ℕ → Type 0
Stands k x = 1 ≤ count x (slots_of k)

-- A slot that is taken, or `none`: where a newcomer can be placed behind.
abbrev pub StandsOrNone : Links → ℕ → Type 0
StandsOrNone k x = 1 ≤ count x (none ∷ slots_of k)
