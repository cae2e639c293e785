-- The sign of a setting: by cases, and as before. Assumes nothing.
use Prim.Native.Nat.{ℕ, suc, ◌+◌, ◌-◌, ◌*◌, ◌/◌, ◌%◌, ◌<◌}
use mathlib.Core.Path.{◌≡◌, refl, sym, ap, ◌∙◌}
use mathlib.Core.Bool.{Bool}
use mathlib.Core.List.{List, [], ◌∷◌}
use native.Mathlib.Omega.{arith}
use borrow.Author.Tests.{lt-ltb, le-ltb, ltb-true, ltb-false}
use lib.Dec.{ltb, leb→le, ltb→lt}
use lib.IntN.{ℤ, pos, negsuc}
use lib.Signed.{mag}
use mir.Syntax.{w16}
use mir.Val.{to_z}
use mir.Facts.{to_z_pos, to_z-neg}
use Rattle.rules_routine.proofs.RoutineLaws.{by_test}
use Rattle.book_layout.specs.Numbers.{two_bytes, byte_at, setting_of, bits_of}
use Rattle.book_layout.specs.Layout.{command_at}
use Rattle.book_layout.specs.Claims.{Bytes}
use Rattle.book_layout.specs.Sign.{ReadByCases, WrittenByCases, Of16Bits, SignByCases, setting_before, command_before, bits_before}
use Rattle.book_layout.specs.Sign.{SignAsBefore}
use Rattle.book_layout.proofs.LayoutLaws.{setting-number, setting_low, setting_high, less_65536, bits_pos, bits_negsuc, and_65536}
use Rattle.book_layout.proofs.Bytes.{setting-read, setting-written}

-- the two bytes of their number
two_of : (lower upper : ℕ) → lower < 256 → two_bytes (lower + 256 * upper) ≡ lower ∷ upper ∷ []
unfolding two_bytes
two_of lower upper l =
    let n = lower + 256 * upper in
    let x : n % 256 ≡ lower = omega arith in
    let y : n / 256 ≡ upper = omega arith in
    cc

-- the setting as a machine reads the 16 bits
as_machine : (lower upper : ℕ) → lower < 256 → upper < 256 → setting_of lower upper ≡ to_z w16 (lower + 256 * upper)
as_machine lower upper l h =
    let n = lower + 256 * upper in
    by_test (λ (_ : Bool). setting_of lower upper ≡ to_z w16 n) (ltb upper 128)
    (λ e. let k = ltb-true upper 128 e in setting_low lower upper k ∙ sym (to_z_pos w16 {n = n} (omega arith)))
    (λ e. let k = ltb-false upper 128 e in let m : 65536 - suc (65535 - n) ≡ n = omega arith in
    setting_high lower upper k ∙ less_65536 n (omega arith)
    ∙ sym (to_z-neg w16 (65535 - n) (omega arith)) ∙ ap (to_z w16) m)

read_by_cases : (lower upper : ℕ) → lower < 256 → upper < 256 → ReadByCases lower upper
read_by_cases lower upper l h =
    record {
      below_128 = setting_low lower upper;
      from_128 = setting_high lower upper;
      twos_complement = as_machine lower upper l h;
      written_again = ap two_bytes (setting-written lower upper l h) ∙ two_of lower upper l;
    }

-- 16 bits as one bound
of_16 : (z : ℤ) → Of16Bits z → mag z < 32768
of_16 (pos n) h = let l = leb→le n 32767 h.1.le in omega arith
of_16 (negsuc n) h = let l = leb→le n 32767 h.0.le in omega arith

written_by_cases : (z : ℤ) → Of16Bits z → WrittenByCases z
written_by_cases (pos n) h =
    let m = of_16 (pos n) h in
    record {
      from_0 = λ _. ap pos (bits_pos n);
      below_0 = λ s. let l = ltb→lt n 0 s.lt in absurd (omega arith);
      read_again = setting-read (pos n) m;
    }
written_by_cases (negsuc n) h =
    let m = of_16 (negsuc n) h in
    record {
      from_0 = λ s. absurd s.le;
      below_0 = λ _. ap pos (bits_negsuc n (omega arith)) ∙ sym (and_65536 (negsuc n) refl (omega arith));
      read_again = setting-read (negsuc n) m;
    }

pub sign_by_cases : SignByCases
sign_by_cases = record { every_pair = read_by_cases; every_setting = written_by_cases }

-- ---- as before

pair_as_before : (lower upper : ℕ) → lower < 256 → upper < 256 → setting_of lower upper ≡ setting_before (lower + 256 * upper)
pair_as_before lower upper l h =
    by_test (λ (_ : Bool). setting_of lower upper ≡ setting_before (lower + 256 * upper)) (ltb upper 128)
    (λ e. let k = ltb-true upper 128 e in simp (setting_low lower upper k, lt-ltb (lower + 256 * upper) 32768 (omega arith)))
    (λ e. let k = ltb-false upper 128 e in simp (setting_high lower upper k, le-ltb (lower + 256 * upper) 32768 (omega arith)))

command_as_before : (b : List ℕ) → Bytes b → (at : ℕ) → command_at b at ≡ command_before b at
unfolding command_at
command_as_before b bytes at =
    let e = pair_as_before (byte_at b (at + 2)) (byte_at b (at + 3)) (bytes (at + 2)) (bytes (at + 3))
    ∙ ap setting_before (setting-number b at) in
    λ i. record { device = byte_at b at; tag = byte_at b (at + 1); setting = e i }

bits_as_before : (z : ℤ) → Of16Bits z → bits_of z ≡ bits_before z
bits_as_before (pos n) h = bits_pos n
bits_as_before (negsuc n) h = let l = of_16 (negsuc n) h in bits_negsuc n (omega arith)

pub sign_as_before : SignAsBefore
sign_as_before = record { pair = pair_as_before; command = command_as_before; bits = bits_as_before }
