-- Laws of the layout's definitions that the theorems and the code's proofs cite. Assumes nothing.
use Rattle.std.proofs.Common.{Some, Ok, Err}
use Rattle.rules_routine.specs.declared.refusals.Refusal.TheVariants.{BookCutShort, BookMisplaced, BookLength}
use Prim.Native.Nat.{ℕ, zero, suc, ◌+◌, ◌-◌, ◌*◌, ◌/◌, ◌%◌, ◌≤◌, ◌<◌}
use mathlib.Core.Path.{◌≡◌, refl, sym, ap, subst, ◌∙◌}
use mathlib.Core.Bool.{true, false, ◌&&◌}
use mathlib.Core.List.{List, [], ◌∷◌, ◌++◌}
use native.Mathlib.Numerals.{add-one}
use native.Mathlib.Omega.{arith}
use borrow.Author.Tests.{lt-ltb, le-ltb, le-leb, eq-eqb, ne_eqb, ltb-false, leb-true, leb-false, eqb-true, not-false}
use lib.Dec.{leb, eqb}
use lib.IntN.{ℤ, pos, negsuc, nat_abs, ◌+ℤ◌, ◌-ℤ◌}
use lib.Signed.{le_z, mag}
use lib.ListN.{length, length-append}
use Rattle.rules_routine.specs.Limits.{max_commands, max_routines}
use Rattle.rules_routine.specs.Routine.{routine_of, commands_check}
use Rattle.rules_routine.specs.declared.Command.{Command}
use Rattle.rules_routine.specs.declared.refusals.Refusal.{Refusal}
use Rattle.rules_routine.proofs.RoutineLaws.{and-true, both_accept, not-refused, or-false}
use Rattle.book_layout.specs.Numbers.{two_bytes, four_bytes, byte_at, two_at, four_at, bits_of, setting_of}
use Rattle.book_layout.specs.Layout.{count_size, pair_size, offset_size, command_size, book_devices, pairs_end, length_in}
use Rattle.book_layout.specs.Layout.{command_bytes, commands_bytes, pairs_bytes, count-of, offset_at, length_at, commands_at}
use Rattle.book_layout.specs.Reading.{head_check, length_fits, placed_check, placed_checks, book_check, end_at, pair_next, turns_down, next_of}

-- ---- lengths that fit: 4 to 32 in fours

pub record InFours (n : ℕ) : Type 0 where
  pub commands : ℕ
  pub some : 1 ≤ commands
  pub few : commands ≤ max_commands
  pub size : n ≡ command_size * commands

pub fits_in_fours : (n : ℕ) → length_fits n ≡ true → InFours n
unfolding length_fits
fits_in_fours n e =
    let a = and-true (leb command_size n && leb n (command_size * max_commands)) (eqb (n % command_size) 0) e in
    let b = and-true (leb command_size n) (leb n (command_size * max_commands)) a.0 in
    let l = leb-true command_size n b.0 in
    let u = leb-true n (command_size * max_commands) b.1 in
    let m = eqb-true (n % command_size) 0 a.1 in
    record { commands = n / command_size; some = omega arith; few = omega arith; size = omega arith }

pub in_fours_fits : (n : ℕ) → InFours n → length_fits n ≡ true
unfolding length_fits
in_fours_fits n h =
    let s = h.some in let f = h.few in let e = h.size in
    simp (
      le-leb command_size n (omega arith),
      le-leb n (command_size * max_commands) (omega arith),
      eq-eqb (n % command_size) 0 (omega arith),
    )

-- ---- settings of two bytes

-- the number of a command's last two bytes
pub setting-number : (b : List ℕ) (at : ℕ) → byte_at b (at + 2) + 256 * byte_at b (at + 3) ≡ two_at b (at + 2)
unfolding two_at
setting-number b at =
    let k : at + 3 ≡ at + 2 + 1 = omega arith in ap (λ (p : ℕ). byte_at b (at + 2) + 256 * byte_at b p) k

-- the setting of two bytes, in each case; below 0 it is `negsuc`
pub setting_low : (lower upper : ℕ) → upper < 128 → setting_of lower upper ≡ pos (lower + 256 * upper)
unfolding setting_of
setting_low lower upper h = simp (lt-ltb upper 128 h)

pub setting_high : (lower upper : ℕ) → 128 ≤ upper → setting_of lower upper ≡ pos (lower + 256 * upper) -ℤ pos 65536
unfolding setting_of
setting_high lower upper h = simp (le-ltb upper 128 h)

pub less_65536 : (n : ℕ) → n < 65536 → pos n -ℤ pos 65536 ≡ negsuc (65535 - n)
less_65536 n h = simp (lt-ltb n 65536 h) (ap negsuc (omega arith))

-- the number of a setting's two bytes, in each case; below 0 it is `pos` of a difference
pub bits_from_0 : (z : ℤ) → le_z (pos 0) z ≡ true → bits_of z ≡ nat_abs z
unfolding bits_of
bits_from_0 z e = rw e

pub bits_below_0 : (z : ℤ) → le_z (pos 0) z ≡ false → bits_of z ≡ nat_abs (z +ℤ pos 65536)
unfolding bits_of
bits_below_0 z e = rw e

pub not_below_0 : (z : ℤ) → le_z (pos 0) z ≡ true → z ≡ pos (mag z)
not_below_0 (pos n) e = refl
not_below_0 (negsuc n) e = let k : ◌≡◌ {A = ℕ} 0 1 = cc in absurd (omega arith)

pub and_65536 : (z : ℤ) → le_z (pos 0) z ≡ false → mag z < 65536 → z +ℤ pos 65536 ≡ pos (65535 - mag z)
and_65536 (pos n) e h = let l = leb-false 0 n e in absurd (omega arith)
and_65536 (negsuc n) e h = simp (le-ltb 65536 (suc n) (omega arith)) (ap pos (omega arith))

-- so by the two forms of a setting
pub bits_pos : (n : ℕ) → bits_of (pos n) ≡ n
bits_pos n = bits_from_0 (pos n) (le-leb 0 n (omega arith))

pub bits_negsuc : (n : ℕ) → n < 65536 → bits_of (negsuc n) ≡ 65535 - n
bits_negsuc n h = bits_below_0 (negsuc n) refl ∙ ap nat_abs (and_65536 (negsuc n) refl h)

-- ---- how long the parts are

pub length-two_bytes : (n : ℕ) → length (two_bytes n) ≡ 2
unfolding two_bytes
length-two_bytes n = refl

pub length-four_bytes : (n : ℕ) → length (four_bytes n) ≡ 4
unfolding four_bytes
length-four_bytes n = refl

pub length-command_bytes : (c : Command) → length (command_bytes c) ≡ command_size
unfolding command_bytes two_bytes
length-command_bytes c = refl

pub length-commands_bytes : (cs : List Command) → length (commands_bytes cs) ≡ command_size * length cs
length-commands_bytes [] = refl
length-commands_bytes (c ∷ cs) =
    omega (arith, length-append (command_bytes c) (commands_bytes cs), length-command_bytes c, length-commands_bytes cs)

pub length-pairs_bytes : (at : ℕ) (rs : List (List Command)) → length (pairs_bytes at rs) ≡ pair_size * length rs
length-pairs_bytes at [] = refl
length-pairs_bytes at (r ∷ rs) =
    let p = pairs_bytes (at + length_in r) rs in
    omega (
      arith,
      length-append (four_bytes at) (four_bytes (length_in r) ++ p),
      length-append (four_bytes (length_in r)) p,
      length-four_bytes at,
      length-four_bytes (length_in r),
      length-pairs_bytes (at + length_in r) rs,
    )

pub length-commands_at : (b : List ℕ) (at n : ℕ) → length (commands_at b at n) ≡ n
length-commands_at b at zero = refl
length-commands_at b at (suc n) = ap suc (length-commands_at b (at + command_size) n)

-- ---- a routine of a book, by its tests

module _ (b : List ℕ) (i at : ℕ) where
  pub placed-length : length_fits (length_at b i) ≡ false → placed_check b i at ≡ Err (BookLength i)
  unfolding placed_check
  placed-length e = simp e

  pub placed_offset : length_fits (length_at b i) ≡ true → (offset_at b i ≡ at → ⊥) → placed_check b i at ≡ Err BookMisplaced
  unfolding placed_check
  placed_offset e o = simp (e, ne_eqb (offset_at b i) at o)

  pub placed_end : length_fits (length_at b i) ≡ true → offset_at b i ≡ at → length b < at + length_at b i →
      placed_check b i at ≡ Err BookMisplaced
  unfolding placed_check
  placed_end e o l = simp (e, eq-eqb (offset_at b i) at o, lt-ltb (length b) (at + length_at b i) l)

  pub placed-commands : length_fits (length_at b i) ≡ true → offset_at b i ≡ at → at + length_at b i ≤ length b →
      placed_check b i at ≡ commands_check book_devices 0 (commands_at b at (length_at b i / command_size))
  unfolding placed_check
  placed-commands e o l = simp (e, eq-eqb (offset_at b i) at o, le-ltb (length b) (at + length_at b i) l)

-- what is known of a routine that its check accepts
pub record Placed (b : List ℕ) (i at : ℕ) : Type 0 where
  pub fits : length_fits (length_at b i) ≡ true
  pub offset : offset_at b i ≡ at
  pub inside : at + length_at b i ≤ length b
  pub fine : commands_check book_devices 0 (commands_at b at (length_at b i / command_size)) ≡ Ok tt

pub placed : (b : List ℕ) (i at : ℕ) → placed_check b i at ≡ Ok tt → Placed b i at
unfolding placed_check
placed b i at e =
    let x = both_accept _ _ e in
    let y = both_accept _ _ x.1 in
    let o = or-false _ _ (not-refused _ _ y.0) in
    record {
      fits = not-false _ (not-refused _ _ x.0);
      offset = eqb-true (offset_at b i) at (not-false _ o.0);
      inside = ltb-false (length b) (at + length_at b i) o.1;
      fine = y.1;
    }

-- ---- the routines of a book in turn: what is left from the i-th on

module _ (b : List ℕ) (i n at : ℕ) (h : i < n) where
  pub checks_more : placed_check b i at ≡ Ok tt → placed_checks b i (n - i) at ≡ placed_checks b (i + 1) (n - (i + 1)) (at + length_at b i)
  unfolding placed_checks
  checks_more e =
      let k : n - i ≡ suc (n - (i + 1)) = omega arith in
      rw (k, e) (ap (λ (j : ℕ). placed_checks b j (n - (i + 1)) (at + length_at b i)) (sym (add-one i)))

  pub checks_refused : (r : Refusal) → placed_check b i at ≡ Err r → placed_checks b i (n - i) at ≡ Err r
  unfolding placed_checks
  checks_refused r e =
      let k : n - i ≡ suc (n - (i + 1)) = omega arith in
      rw (k, e)

pub checks_left_over : (b : List ℕ) (i at : ℕ) → at < length b → placed_checks b i 0 at ≡ Err BookMisplaced
unfolding placed_checks
checks_left_over b i at h = simp (lt-ltb at (length b) h)

pub checks_end : (b : List ℕ) (i at : ℕ) → length b ≤ at → placed_checks b i 0 at ≡ Ok tt
unfolding placed_checks
checks_end b i at h = simp (le-ltb at (length b) h)

-- where all are accepted, the length of each fits: routine j, the k-th from the i-th on
checks_fit : (b : List ℕ) (i n at j k : ℕ) → placed_checks b i n at ≡ Ok tt → i + k ≡ j → k < n → length_fits (length_at b j) ≡ true
unfolding placed_checks
checks_fit b i zero at j k e p h = absurd (omega arith)
checks_fit b i (suc n) at j zero e p h =
    let s : i ≡ j = omega arith in
    subst (λ (q : ℕ). length_fits (length_at b q) ≡ true) s (placed b i at (both_accept (placed_check b i at) _ e).0).fits
checks_fit b i (suc n) at j (suc k) e p h =
    checks_fit b (suc i) n (at + length_at b i) j k (both_accept (placed_check b i at) _ e).1 (omega arith) (omega arith)

-- ---- the head of a book, by its tests

module _ (b : List ℕ) where
  pub head-count : length b < count_size → head_check b ≡ Err BookCutShort
  unfolding head_check
  head-count h = simp (lt-ltb (length b) count_size h)

  pub head_many : count_size ≤ length b → max_routines < count-of b → head_check b ≡ Err BookCutShort
  unfolding head_check
  head_many h k = simp (le-ltb (length b) count_size h, lt-ltb max_routines (count-of b) k)

  pub head_pairs : count_size ≤ length b → count-of b ≤ max_routines → length b < pairs_end (count-of b) →
      head_check b ≡ Err BookCutShort
  unfolding head_check
  head_pairs h k l = simp (le-ltb (length b) count_size h, le-ltb max_routines (count-of b) k, lt-ltb (length b) (pairs_end (count-of b)) l)

  pub head_fine : count_size ≤ length b → count-of b ≤ max_routines → pairs_end (count-of b) ≤ length b → head_check b ≡ Ok tt
  unfolding head_check
  head_fine h k l = simp (le-ltb (length b) count_size h, le-ltb max_routines (count-of b) k, le-ltb (length b) (pairs_end (count-of b)) l)

  pub book-refused : (r : Refusal) → head_check b ≡ Err r → book_check b ≡ Err r
  unfolding book_check
  book-refused r e = rw e

  pub book-placed : head_check b ≡ Ok tt → book_check b ≡ placed_checks b 0 (count-of b) (pairs_end (count-of b))
  unfolding book_check
  book-placed e = rw e

  -- the length of each routine of an accepted book fits
  pub book-fits : (i : ℕ) → book_check b ≡ Ok tt → i < count-of b → length_fits (length_at b i) ≡ true
  unfolding book_check
  book-fits i e h = checks_fit b 0 (count-of b) (pairs_end (count-of b)) i i (both_accept (head_check b) _ e).1 (omega arith) h

-- ---- a step of reading, by its tests

module _ (b : List ℕ) (at : ℕ) where
  pub pair_handed : at < pairs_end (count-of b) → at % pair_size ≡ count_size →
      pair_next b at
      ≡ record {
        item = Ok (Some (routine_of (commands_at b (four_at b at) (four_at b (at + offset_size) / command_size))));
        position = at + pair_size;
      }
  unfolding pair_next
  pair_handed h k = simp (lt-ltb at (pairs_end (count-of b)) h, eq-eqb (at % pair_size) count_size k)

  -- the tests in turn: the first that fails ends the book
  pub pair-past : pairs_end (count-of b) ≤ at → pair_next b at ≡ end_at at
  unfolding pair_next
  pair-past h = simp (le-ltb at (pairs_end (count-of b)) h)

  pub pair-between : at < pairs_end (count-of b) → (at % pair_size ≡ count_size → ⊥) → pair_next b at ≡ end_at at
  unfolding pair_next
  pair-between h k = simp (lt-ltb at (pairs_end (count-of b)) h, ne_eqb (at % pair_size) count_size k)

module _ (b : List ℕ) where
  pub next-first : book_check b ≡ Ok tt → next_of b 0 ≡ pair_next b count_size
  unfolding next_of
  next-first e = rw e

  pub next-later : book_check b ≡ Ok tt → (at : ℕ) → (at ≡ 0 → ⊥) → next_of b at ≡ pair_next b at
  unfolding next_of
  next-later e at h = simp (e, ne_eqb at 0 h)

  pub next-refused : (r : Refusal) → book_check b ≡ Err r → (at : ℕ) → next_of b at ≡ turns_down r
  unfolding next_of
  next-refused r e at = rw e
