-- Every capacity of document 01, once in the definitions; `src/limits.rt` has the same numbers, in the same order, for the code. Whoever
-- changes one changes these two files. `negsuc n` is −(n + 1). Assumes nothing.
use Rattle.std.specs.Prelude.{ℕ, ℤ, pos, negsuc}

-- "Devices are 0 to N−1, N from 1 to 32."
abbrev pub max_devices : ℕ
max_devices = 32

-- "A routine is 1 to 8 commands"
abbrev pub max_commands : ℕ
max_commands = 8

-- "a signed whole number from −1,000 to 1,000"
abbrev pub lowest_setting : ℤ
lowest_setting = negsuc 999

abbrev pub highest_setting : ℤ
highest_setting = pos 1000

-- "an unsigned 32-bit number"
abbrev pub highest_id : ℕ
highest_id = 4294967295

-- "Pass limit K, 0 to 8."
abbrev pub highest_pass_limit : ℕ
highest_pass_limit = 8

-- "The sequence holds at most 16 routines, running or committed but not settled."
abbrev pub max_sequence : ℕ
max_sequence = 16

-- "Count (16 bits, 0 to 64)": the most routines of a book.
abbrev pub max_routines : ℕ
max_routines = 64

-- A book is judged by so many bytes, one more than the longest book has.
abbrev pub first_bytes : ℕ
first_bytes = 2563

-- "lines of up to 128 bytes"
abbrev pub max_line : ℕ
max_line = 128
