-- Numbers as bytes, low byte first: document 01, "The routine book". Two bytes as a setting, and back: document 02, item 2. Assumes
-- nothing.
use Rattle.std.specs.Prelude.{List, [], ◌∷◌, ℕ, ◌+◌, ◌*◌, ◌/◌, ◌%◌, ltb, ℤ, pos, nat_abs, ◌+ℤ◌, ◌-ℤ◌, get_or, if◌then◌else◌}
use Rattle.std.specs.Int.Signed.{le_z}

-- A number as two bytes, and as four.
unfoldable pub two_bytes : ℕ → List ℕ
two_bytes n = n % 256 ∷ n / 256 ∷ []

unfoldable pub four_bytes : ℕ → List ℕ
four_bytes n = n % 256 ∷ n / 256 % 256 ∷ n / 65536 % 256 ∷ n / 16777216 ∷ []

-- The byte at a place, 0 past the end, and the numbers whose first byte is there.
abbrev pub byte_at : List ℕ → ℕ → ℕ
byte_at b at = get_or b at 0

unfoldable pub two_at : List ℕ → ℕ → ℕ
two_at b at = byte_at b at + 256 * byte_at b (at + 1)

unfoldable pub four_at : List ℕ → ℕ → ℕ
four_at b at = two_at b at + 65536 * two_at b (at + 2)

-- The setting of two bytes, the lower one first. Upper byte
-- below 128: the two bytes' number;
-- 128 or above: that less 65,536.
unfoldable pub setting_of : ℕ → ℕ → ℤ
setting_of lower upper =
    let number = lower + 256 * upper in
    if ltb upper 128
    then pos number
    else pos number -ℤ pos 65536

-- The way back, the number of a setting's two bytes, its 16 bits. The setting
-- 0 or above: itself;
-- below 0: that and 65,536.
-- (`nat_abs` is the number of a setting that is not below 0.)
unfoldable pub bits_of : ℤ → ℕ
bits_of setting =
    if le_z (pos 0) setting
    then nat_abs setting
    else nat_abs (setting +ℤ pos 65536)
