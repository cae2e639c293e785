-- The form of records and of the parts within them: two bytes of length, low first, and then so many bytes. Assumes nothing.
use Rattle.std.specs.Prelude.{List, ℕ, suc, ◌+◌, ◌*◌, get_or, take, drop}

-- The number of two bytes at a place. A byte past the end is 0.
abbrev pub number_in : List ℕ → ℕ → ℕ
number_in b at = get_or b at 0 + 256 * get_or b (suc at) 0

-- The part behind the length that stands first, cut off where the bytes end,
abbrev pub part_of : List ℕ → List ℕ
part_of b = take (number_in b 0) (drop 2 b)

-- and what is behind it.
abbrev pub behind_part : List ℕ → List ℕ
behind_part b = drop (number_in b 0) (drop 2 b)
