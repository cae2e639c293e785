-- What the counts of the routines to write say of their book. Assumes nothing.
use Rattle.std.specs.Prelude.{List, [], ◌∷◌, ◌++◌, ℕ, ◌+◌, ◌*◌}
use Rattle.book_layout.specs.Layout.{command_size}
use Rattle.book_layout.specs.Numbers.{four_bytes}

-- The pairs of routines of these counts, of which the first begins at a place.
abbrev pub pairs_counted : ℕ → List ℕ → List ℕ
pairs_counted at [] = []
pairs_counted at (n ∷ ns) = four_bytes at ++ (four_bytes (command_size * n) ++ pairs_counted (at + command_size * n) ns)
