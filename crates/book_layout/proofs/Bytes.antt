-- Numbers, settings and commands as bytes and back, for theorems (a) and (b) and those of the sign. `drop p b` is what book b holds from
-- place p on. Assumes nothing.
use Rattle.std.proofs.Common.{Ok}
use Prim.Native.Nat.{ℕ, zero, suc, ◌+◌, ◌-◌, ◌*◌, ◌/◌, ◌%◌, ◌≤◌, ◌<◌}
use mathlib.Core.Path.{◌≡◌, refl, sym, ap, ap₂, ◌∙◌}
use mathlib.Core.Bool.{Bool, true}
use mathlib.Core.List.{List, [], ◌∷◌, ◌++◌, append_assoc}
use native.Mathlib.Numerals.{add-one}
use native.Mathlib.Omega.{arith}
use borrow.Author.Tests.{leb-true, ltb-true, ltb-false}
use lib.Dec.{ltb}
use lib.IntN.{ℤ, pos, negsuc}
use lib.Signed.{mag}
use lib.ListN.{length, drop}
use lib.Seq.{drop_at, drop-drop, drop-cons, get_or-drop}
use Rattle.rules_routine.specs.Limits.{lowest_setting, highest_setting}
use Rattle.rules_routine.specs.Range.{in_range}
use Rattle.rules_routine.specs.Routine.{commands_check}
use Rattle.rules_routine.specs.declared.Command.{Command}
use Rattle.rules_routine.proofs.RoutineLaws.{by_test, in_range_pos, in_range_negsuc, command-accepted, commands-accepted}
use Rattle.book_layout.specs.Numbers.{two_bytes, four_bytes, byte_at, two_at, four_at, bits_of, setting_of}
use Rattle.book_layout.specs.Layout.{command_size, command_bytes, commands_bytes, command_at, commands_at}
use Rattle.book_layout.specs.Claims.{Bytes}
use Rattle.book_layout.proofs.LayoutLaws.{setting-number, setting_low, setting_high, less_65536, bits_pos, bits_negsuc}
use Rattle.book_layout.proofs.LayoutLaws.{length-two_bytes, length-command_bytes}

-- ---- settings and their two bytes

-- a setting of 16 bits is read from its two bytes
pub setting-read : (z : ℤ) → mag z < 32768 → setting_of (bits_of z % 256) (bits_of z / 256) ≡ z
setting-read (pos n) h =
    let k : n % 256 + 256 * (n / 256) ≡ n = omega arith in
    rw (bits_pos n, setting_low (n % 256) (n / 256) (omega arith), k)
setting-read (negsuc n) h =
    let m = 65535 - n in
    let k : m % 256 + 256 * (m / 256) ≡ m = omega arith in
    rw (bits_negsuc n (omega arith), setting_high (m % 256) (m / 256) (omega arith), k, less_65536 m (omega arith))
    (ap negsuc (omega arith))

-- and so one in range
in_range_read : (z : ℤ) → in_range z ≡ true → setting_of (bits_of z % 256) (bits_of z / 256) ≡ z
in_range_read (pos n) e =
    let l = leb-true n (mag highest_setting) (sym (in_range_pos n) ∙ e) in setting-read (pos n) (omega arith)
in_range_read (negsuc n) e =
    let l = leb-true n (mag lowest_setting) (sym (in_range_negsuc n) ∙ e) in setting-read (negsuc n) (omega arith)

-- two bytes are those of the setting that they are read as
pub setting-written : (lower upper : ℕ) → lower < 256 → upper < 256 → bits_of (setting_of lower upper) ≡ lower + 256 * upper
setting-written lower upper l h =
    let n = lower + 256 * upper in
    by_test (λ (_ : Bool). bits_of (setting_of lower upper) ≡ n) (ltb upper 128)
    (λ e. let k = ltb-true upper 128 e in rw (setting_low lower upper k) (bits_pos n))
    (λ e. let k = ltb-false upper 128 e in let d : 65535 - (65535 - n) ≡ n = omega arith in
    rw (setting_high lower upper k, less_65536 n (omega arith)) (bits_negsuc (65535 - n) (omega arith) ∙ d))

-- ---- reading at a place what stands there

-- bytes stand at a place: what stands behind them,
pub behind : (b xs rest : List ℕ) (p n : ℕ) → drop p b ≡ xs ++ rest → length xs ≡ n → drop (p + n) b ≡ rest
behind b xs rest p n e l = sym (drop-drop n p b) ∙ ap (λ (ys : List ℕ). drop n ys) e ∙ drop_at xs rest n l

-- each of them,
byte_read : (b xs : List ℕ) (p k : ℕ) → drop p b ≡ xs → byte_at b (p + k) ≡ byte_at xs k
byte_read b xs p k e = sym (get_or-drop p b k 0) ∙ ap (λ (ys : List ℕ). byte_at ys k) e

-- and the first of them
first_read : (b xs : List ℕ) (p : ℕ) → drop p b ≡ xs → byte_at b p ≡ byte_at xs 0
first_read b xs p e = let h : p ≡ p + 0 = omega arith in ap (byte_at b) h ∙ byte_read b xs p 0 e

-- two bytes are read as their number
pub two-read : (b rest : List ℕ) (p n : ℕ) → drop p b ≡ two_bytes n ++ rest → two_at b p ≡ n
unfolding two_bytes two_at
two-read b rest p n e =
    let x : byte_at b p ≡ n % 256 = first_read b _ p e in
    let y : byte_at b (p + 1) ≡ n / 256 = byte_read b _ p 1 e in
    omega arith

-- the low byte of a number
low_byte : (x y : ℕ) → x < 256 → (x + 256 * y) % 256 ≡ x
low_byte x y h = omega arith

-- four bytes are two and two
four_twos : (n : ℕ) (rest : List ℕ) → four_bytes n ++ rest ≡ two_bytes (n % 65536) ++ (two_bytes (n / 65536) ++ rest)
unfolding two_bytes four_bytes
four_twos n rest =
    let x : n % 256 ≡ n % 65536 % 256 = omega arith in
    let w : n / 256 ≡ n % 65536 / 256 + 256 * (n / 65536) = omega arith in
    let y = ap (λ (k : ℕ). k % 256) w ∙ low_byte (n % 65536 / 256) (n / 65536) (omega arith) in
    let z : n / 16777216 ≡ n / 65536 / 256 = omega arith in
    cc

-- so they are read as their number
pub four_read : (b rest : List ℕ) (p n : ℕ) → drop p b ≡ four_bytes n ++ rest → four_at b p ≡ n
unfolding four_at
four_read b rest p n e =
    let f = e ∙ four_twos n rest in
    let x = two-read b _ p (n % 65536) f in
    let y = two-read b rest (p + 2) (n / 65536) (behind b (two_bytes (n % 65536)) _ p 2 f (length-two_bytes (n % 65536))) in
    omega arith

-- a command is read as it was
command-read : (b rest : List ℕ) (p : ℕ) (c : Command) → in_range c.setting ≡ true → drop p b ≡ command_bytes c ++ rest → command_at b p ≡ c
unfolding command_at command_bytes two_bytes
command-read b rest p c h e =
    let x = first_read b _ p e in
    let y = byte_read b _ p 1 e in
    let z = ap₂ setting_of (byte_read b _ p 2 e) (byte_read b _ p 3 e) ∙ in_range_read c.setting h in
    λ i. record { device = x i; tag = y i; setting = z i }

-- accepted commands in a row are read as they were
pub commands-read : (limit k : ℕ) (b rest : List ℕ) (p : ℕ) (cs : List Command) → commands_check limit k cs ≡ Ok tt →
    drop p b ≡ commands_bytes cs ++ rest → commands_at b p (length cs) ≡ cs
commands-read limit k b rest p [] h e = refl
commands-read limit k b rest p (c ∷ cs) h e =
    let a = commands-accepted limit k c cs h in
    let f = e ∙ append_assoc (command_bytes c) (commands_bytes cs) rest in
    ap₂ ◌∷◌ (command-read b _ p c (command-accepted limit k c a.0).1 f)
    (commands-read limit (suc k) b rest (p + command_size) cs a.2 (behind b (command_bytes c) _ p command_size f (length-command_bytes c)))

-- ---- what was read at a place, written again, is what stands there

module _ (b : List ℕ) (bytes : Bytes b) where
  -- a number of two bytes has 16 bits
  two_bound : (p : ℕ) → two_at b p < 65536
  unfolding two_at
  two_bound p = omega (arith, bytes p, bytes (p + 1))

  -- so for a byte, a number of two bytes, of four, a command and commands in a row
  byte_written : (p : ℕ) → p < length b → drop p b ≡ byte_at b p ∷ drop (p + 1) b
  byte_written p h = rw (add-one, drop-cons b p 0)

  pub two-written : (p : ℕ) → p + 2 ≤ length b → drop p b ≡ two_bytes (two_at b p) ++ drop (p + 2) b
  unfolding two_at two_bytes
  two-written p h =
      let u = byte_written p (omega arith) in
      let v = byte_written (p + 1) (omega arith) in
      let n = byte_at b p + 256 * byte_at b (p + 1) in
      let x : n % 256 ≡ byte_at b p = omega (arith, bytes p) in
      let y : n / 256 ≡ byte_at b (p + 1) = omega (arith, bytes p) in
      let k : p + 1 + 1 ≡ p + 2 = omega arith in
      cc

  pub four_written : (p : ℕ) → p + 4 ≤ length b → drop p b ≡ four_bytes (four_at b p) ++ drop (p + 4) b
  unfolding four_at
  four_written p h =
      let u = two-written p (omega arith) in
      let v = two-written (p + 2) (omega arith) in
      let n = two_at b p + 65536 * two_at b (p + 2) in
      let x : n % 65536 ≡ two_at b p = omega (arith, two_bound p) in
      let y : n / 65536 ≡ two_at b (p + 2) = omega (arith, two_bound p) in
      let k : p + 2 + 2 ≡ p + 4 = omega arith in
      cc (four_twos n (drop (p + 4) b))

  command-written : (p : ℕ) → p + command_size ≤ length b → drop p b ≡ command_bytes (command_at b p) ++ drop (p + command_size) b
  unfolding command_at command_bytes
  command-written p h =
      let u = byte_written p (omega arith) in
      let v = byte_written (p + 1) (omega arith) in
      let w = two-written (p + 2) (omega arith) in
      let x = setting-written (byte_at b (p + 2)) (byte_at b (p + 3)) (bytes (p + 2)) (bytes (p + 3)) ∙ setting-number b p in
      let k : p + 1 + 1 ≡ p + 2 = omega arith in
      let l : p + 2 + 2 ≡ p + command_size = omega arith in
      cc

  pub commands-written : (p n : ℕ) → p + command_size * n ≤ length b →
      drop p b ≡ commands_bytes (commands_at b p n) ++ drop (p + command_size * n) b
  commands-written p zero h = let k : p ≡ p + 0 = omega arith in ap (λ (q : ℕ). drop q b) k
  commands-written p (suc n) h =
      let x = command_bytes (command_at b p) in
      let u = command-written p (omega arith) in
      let v = commands-written (p + command_size) n (omega arith) in
      let k : p + command_size + command_size * n ≡ p + command_size * suc n = omega arith in
      cc (append_assoc x (commands_bytes (commands_at b (p + command_size) n)) (drop (p + command_size * suc n) b))
