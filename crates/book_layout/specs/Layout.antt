-- The layout of a routine book: document 01, "The routine book". A book is a list of bytes, a routine a list of commands.
-- "Count (16 bits, 0 to 64), then that many pairs of offset (from the first byte) and length in bytes, 32 bits each, sorted by offset, all
-- low byte first. The first routine begins where the pairs end, each next where the one before ends, and the last ends the book. A command
-- is 4 bytes: device, tag, setting (16 bits, two's complement, low byte first)." Assumes nothing.
use Rattle.std.specs.Prelude.{List, [], ◌∷◌, ◌++◌, ℕ, zero, suc, ◌+◌, ◌*◌, length}
use Rattle.rules_routine.specs.Limits.{max_devices}
use Rattle.rules_routine.specs.declared.Command.{Command}
use Rattle.book_layout.specs.Numbers.{two_bytes, four_bytes, byte_at, two_at, four_at, bits_of, setting_of}

-- Sizes in bytes, and the most that a book holds.
abbrev pub count_size : ℕ
count_size = 2

abbrev pub pair_size : ℕ
pair_size = 8

-- An offset's part of its pair.
abbrev pub offset_size : ℕ
offset_size = 4

abbrev pub command_size : ℕ
command_size = 4

-- "Device 0 to 31 is accepted in a book."
abbrev pub book_devices : ℕ
book_devices = max_devices

-- Where the pair of routine i stands; and where the pairs of a book of n routines end.
abbrev pub pair_place : ℕ → ℕ
pair_place i = count_size + pair_size * i

abbrev pub pairs_end : ℕ → ℕ
pairs_end n = pair_place n

-- ---- the bytes of a book

unfoldable pub command_bytes : Command → List ℕ
command_bytes c = c.device ∷ c.tag ∷ two_bytes (bits_of c.setting)

abbrev pub commands_bytes : List Command → List ℕ
commands_bytes [] = []
commands_bytes (c ∷ cs) = command_bytes c ++ commands_bytes cs

-- How long a routine is in a book.
abbrev pub length_in : List Command → ℕ
length_in r = command_size * length r

-- The pairs of routines of which the first begins at a place.
abbrev pub pairs_bytes : ℕ → List (List Command) → List ℕ
pairs_bytes at [] = []
pairs_bytes at (r ∷ rs) = four_bytes at ++ (four_bytes (length_in r) ++ pairs_bytes (at + length_in r) rs)

abbrev pub body_bytes : List (List Command) → List ℕ
body_bytes [] = []
body_bytes (r ∷ rs) = commands_bytes r ++ body_bytes rs

unfoldable pub book_bytes : List (List Command) → List ℕ
book_bytes rs = two_bytes (length rs) ++ (pairs_bytes (pairs_end (length rs)) rs ++ body_bytes rs)

-- ---- the parts of a book

unfoldable pub count-of : List ℕ → ℕ
count-of b = two_at b 0

-- What the pair of routine i says.
unfoldable pub offset_at : List ℕ → ℕ → ℕ
offset_at b i = four_at b (pair_place i)

unfoldable pub length_at : List ℕ → ℕ → ℕ
length_at b i = four_at b (pair_place i + offset_size)

-- The command whose first byte is at a place, and n of them in a row.
unfoldable pub command_at : List ℕ → ℕ → Command
command_at b at = record { device = byte_at b at; tag = byte_at b (at + 1); setting = setting_of (byte_at b (at + 2)) (byte_at b (at + 3)) }

abbrev pub commands_at : List ℕ → ℕ → ℕ → List Command
commands_at b at zero = []
commands_at b at (suc n) = command_at b at ∷ commands_at b (at + command_size) n
