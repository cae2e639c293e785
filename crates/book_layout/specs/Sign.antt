-- The sign of a setting: document 02, item 2. What is claimed of `setting_of` and of the way back, `bits_of` (Numbers.antt). The theorems
-- stand in proofs/Theorems.antt. Assumes nothing.
use Rattle.std.specs.Prelude.{◌≡◌, List, [], ◌∷◌, ℕ, ◌+◌, ◌-◌, ◌*◌, ◌/◌, ◌%◌, ◌<◌, ◌≤◌, ltb, ℤ, pos, negsuc, ◌+ℤ◌, ◌-ℤ◌, ◌≤ℤ◌, ◌<ℤ◌, if◌then◌else◌}
use Rattle.std.specs.Int.{w16}
use Rattle.std.proofs.Common.{to_z}
use Rattle.rules_routine.specs.declared.Command.{Command}
use Rattle.book_layout.specs.Numbers.{two_bytes, byte_at, two_at, setting_of, bits_of}
use Rattle.book_layout.specs.Layout.{command_at}
use Rattle.book_layout.specs.Claims.{Bytes}

-- ---- by cases

-- Two bytes are read by cases on the upper one. That is "two's complement" (document 01), as a machine reads 16 bits (`to_z w16`). What was
-- read, written again, is these two bytes.
pub record ReadByCases (lower upper : ℕ) : Type 0 where
  pub below_128 : upper < 128 → setting_of lower upper ≡ pos (lower + 256 * upper)
  pub from_128 : 128 ≤ upper → setting_of lower upper ≡ pos (lower + 256 * upper) -ℤ pos 65536
  pub twos_complement : setting_of lower upper ≡ to_z w16 (lower + 256 * upper)
  pub written_again : two_bytes (bits_of (setting_of lower upper)) ≡ lower ∷ upper ∷ []

-- A setting is written by cases on its sign; and what was written, read again, is this setting.
pub record WrittenByCases (setting : ℤ) : Type 0 where
  pub from_0 : pos 0 ≤ℤ setting → pos (bits_of setting) ≡ setting
  pub below_0 : setting <ℤ pos 0 → pos (bits_of setting) ≡ setting +ℤ pos 65536
  pub read_again : setting_of (bits_of setting % 256) (bits_of setting / 256) ≡ setting

-- A setting of 16 bits: −32,768 to 32,767. `negsuc n` is −(n + 1).
abbrev pub Of16Bits : ℤ → Type 0
Of16Bits setting = (negsuc 32767 ≤ℤ setting) × (setting ≤ℤ pos 32767)

-- "for every pair of bytes"; and every setting of 16 bits.
pub record SignByCases : Type 0 where
  pub every_pair : (lower upper : ℕ) → lower < 256 → upper < 256 → ReadByCases lower upper
  pub every_setting : (setting : ℤ) → Of16Bits setting → WrittenByCases setting

-- ---- as before

-- The reading that this one replaces, of the 16 bits as one number; the command read with it; and the writing.
abbrev pub setting_before : ℕ → ℤ
setting_before n = if ltb n 32768 then pos n else pos n -ℤ pos 65536

abbrev pub command_before : List ℕ → ℕ → Command
command_before b at = record { device = byte_at b at; tag = byte_at b (at + 1); setting = setting_before (two_at b (at + 2)) }

abbrev pub bits_before : ℤ → ℕ
bits_before (pos n) = n
bits_before (negsuc n) = 65535 - n

-- "Every result is as before": of every pair of bytes, of every command of a book, wherever it stands, and of every setting of 16 bits.
pub record SignAsBefore : Type 0 where
  pub pair : (lower upper : ℕ) → lower < 256 → upper < 256 → setting_of lower upper ≡ setting_before (lower + 256 * upper)
  pub command : (b : List ℕ) → Bytes b → (at : ℕ) → command_at b at ≡ command_before b at
  pub bits : (setting : ℤ) → Of16Bits setting → bits_of setting ≡ bits_before setting
