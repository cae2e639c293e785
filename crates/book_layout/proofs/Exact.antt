-- Theorem (c): each refusal of a book is given exactly under its cause, and a book is accepted exactly if it breaks no test.
-- Assumes nothing.
use Rattle.std.proofs.Common.{Ok}
use Prim.Native.Nat.{ℕ, zero, suc, ◌+◌, ◌-◌, ◌*◌, ◌/◌, ◌≤◌, ◌<◌}
use mathlib.Core.Path.{◌≡◌, sym, ap, subst, ◌∙◌}
use mathlib.Core.Bool.{Bool, not}
use mathlib.Core.Logic.{inl, inr, ◌≢◌}
use mathlib.Core.List.{List, [], ◌∷◌, ◌++◌, append_assoc}
use native.Mathlib.Omega.{arith}
use borrow.Author.Tests.{ltb-true, ltb-false, leb-true, leb-false, not-true, not-false}
use lib.Dec.{ltb, eqb}
use lib.Signed.{mag}
use lib.ListN.{length}
use Rattle.rules_routine.specs.Limits.{lowest_setting, highest_setting, max_commands, max_routines}
use Rattle.rules_routine.specs.Range.{in_range}
use Rattle.rules_routine.specs.Refusals.{refuse◌when◌, ◌and_then◌, Verdict}
use Rattle.rules_routine.specs.Routine.{condition_tag, highest_tag, command_check, stands_alone, commands_check}
use Rattle.rules_routine.proofs.RoutineLaws.{by_test, not-refused, in_range_pos, in_range_negsuc}
use Rattle.rules_routine.proofs.Exact.{Decides, less, at_most, same, otherwise, either, both, second, agree, Outcome, none, passed, one}
use Rattle.rules_routine.proofs.Exact.{join, accepted_passes, exactly}
use Rattle.book_layout.specs.Numbers.{byte_at, two_at, bits_of, setting_of}
use Rattle.book_layout.specs.Layout.{count_size, command_size, book_devices, pairs_end, count-of, offset_at, length_at}
use Rattle.book_layout.specs.Layout.{command_at}
use Rattle.book_layout.specs.Layout.{commands_at}
use Rattle.book_layout.specs.Reading.{head_check, length_fits, placed_check, placed_checks, book_check}
use Rattle.book_layout.specs.Claims.{Bytes, Breaks, ExactRefusals, command_tests, routine_tests, tests, cause_of, place}
use Rattle.book_layout.specs.Claims.{Test, head, routine_length, routine_place, command_device, command_setting, command_tag}
use Rattle.book_layout.specs.Claims.{command_alone, left_over}
use Rattle.book_layout.proofs.LayoutLaws.{fits_in_fours, in_fours_fits, setting-number, setting_low, setting_high, less_65536}
use Rattle.book_layout.proofs.LayoutLaws.{bits_pos}
use Rattle.book_layout.proofs.LayoutLaws.{bits_negsuc}

-- ---- what the tests of a book decide

other : (m n : ℕ) → Decides (not (eqb m n)) (m ≢ n)
other m n = otherwise (eqb m n) (same m n)

-- a length does not fit exactly if it is not 4 to 32 in fours
unfit : (n : ℕ) → Decides (not (length_fits n)) ((k : ℕ) → 1 ≤ k → k ≤ max_commands → n ≢ command_size * k)
unfit n =
    record {
      met = λ e k some few size.
          let fits = in_fours_fits n (record { commands = k; some = some; few = few; size = size }) in
          let not-fits = not-true (length_fits n) e in
          let z : ◌≡◌ {A = ℕ} 0 1 = cc in absurd (omega arith);
      unmet = λ e h. let f = fits_in_fours n (not-false _ e) in h f.commands f.some f.few f.size;
    }

-- a setting is out of range exactly if the number of its two bytes lies between that of the highest and that of the lowest
out_of_range : (lower upper n : ℕ) → lower < 256 → upper < 256 → lower + 256 * upper ≡ n →
    Decides (not (in_range (setting_of lower upper))) ((bits_of highest_setting < n) × (n < bits_of lowest_setting))
out_of_range lower upper n l h e =
    let most = bits_pos (mag highest_setting) in
    let least = bits_negsuc (mag lowest_setting) (omega arith) in
    by_test (λ (_ : Bool). Decides (not (in_range (setting_of lower upper))) ((bits_of highest_setting < n) × (n < bits_of lowest_setting)))
    (ltb upper 128)
    (λ t. let k = ltb-true upper 128 t in rw (setting_low lower upper k, e, in_range_pos n) record {
      met = λ t. let x = leb-false n (mag highest_setting) (not-true _ t) in (omega arith, omega arith);
      unmet = λ t p. let x = leb-true n (mag highest_setting) (not-false _ t) in omega arith;
    })
    (λ t. let k = ltb-false upper 128 t in
    rw (setting_high lower upper k, e, less_65536 n (omega arith), in_range_negsuc (65535 - n)) record {
      met = λ t. let x = leb-false (65535 - n) (mag lowest_setting) (not-true _ t) in (omega arith, omega arith);
      unmet = λ t p. let x = leb-true (65535 - n) (mag lowest_setting) (not-false _ t) in omega arith;
    })

-- ---- the tests of a book

module _ (b : List ℕ) (bytes : Bytes b) where
  abbrev ComesTo : List Test → Verdict → Type 0
  ComesTo = Outcome (Breaks b) cause_of

  -- one test; and tests behind others
  made : (t : Test) (test : Bool) → Decides test (Breaks b t) → ComesTo (t ∷ []) (refuse cause_of t when test)
  made t test d = one (Breaks b) cause_of t test d

  then : {ts us : List Test} {v w : Verdict} → ComesTo ts v → (v ≡ Ok tt → ComesTo us w) → ComesTo (ts ++ us) (v and_then w)
  then o p = join (Breaks b) cause_of o p

  -- commands that are not there break no test
  commands-past : (i k j : ℕ) → (i < count-of b → length_at b i ≤ command_size * j) → ComesTo (command_tests i j k) (Ok tt)
  unfolding command_tests
  commands-past i zero j past = none
  commands-past i (suc k) j past =
      let gone : i < count-of b → command_size * j < length_at b i → ⊥ = λ h l. let p = past h in omega arith in
      passed {t = command_device i j} (λ x. gone x.0 x.1)
      (passed {t = command_setting i j} (λ x. gone x.0 x.1)
      (passed {t = command_tag i j} (λ x. gone x.0 x.1)
      (passed {t = command_alone i j} (λ x. gone x.0 x.1)
      (commands-past i k (suc j) (λ h. let p = past h in omega arith)))))

  -- nor do routines that are not there
  routines-past : (n i : ℕ) → count-of b ≤ i → ComesTo (routine_tests i n) (Ok tt)
  unfolding routine_tests
  routines-past zero i h = none
  routines-past (suc n) i h =
      passed {t = routine_length i} (λ x. let y = x.0 in omega arith)
      (passed {t = routine_place i} (λ x. let y = x.0 in omega arith)
      (then (commands-past i max_commands 0 (λ l. absurd (omega arith))) (λ _. routines-past n (suc i) (omega arith))))

  -- whether the j-th command of routine i is a condition that stands alone, n commands being behind it
  alone : (i n j : ℕ) → i < count-of b → length_at b i ≡ command_size * (j + suc n) →
      Decides
      (stands_alone (command_at b (place b i + command_size * j)) (commands_at b (place b i + command_size * j + command_size) n))
      (Breaks b (command_alone i j))
  unfolding stands_alone command_at
  alone i zero j hi e =
      agree (same (byte_at b (place b i + command_size * j + 1)) condition_tag) (λ t. (hi, omega arith, t, inl (omega arith)))
      (λ y. y.2)
  alone i (suc n) j hi e =
      let at = place b i + command_size * j in
      let next : place b i + command_size * suc j + 1 ≡ at + command_size + 1 = omega arith in
      agree (both _ _ (same (byte_at b (at + 1)) condition_tag) (same (byte_at b (at + command_size + 1)) condition_tag))
      (λ t. (hi, omega arith, t.0, inr (ap (byte_at b) next ∙ t.1)))
      (λ y. (y.2, sym (ap (byte_at b) next) ∙ second y.3 (λ l. omega arith)))

  -- the n commands from the j-th on, which end routine i
  commands-outcome : (i k n j : ℕ) → i < count-of b → length_at b i ≡ command_size * (j + n) → n ≤ k →
      ComesTo (command_tests i j k) (commands_check book_devices j (commands_at b (place b i + command_size * j) n))
  unfolding command_tests commands_check command_check command_at
  commands-outcome i k zero j hi e l = commands-past i k j (λ h. omega arith)
  commands-outcome i zero (suc n) j hi e l = absurd (omega arith)
  commands-outcome i (suc k) (suc n) j hi e l =
      let at = place b i + command_size * j in
      let there : command_size * j < length_at b i = omega arith in
      let next : place b i + command_size * suc j ≡ at + command_size = omega arith in
      let device = made (command_device i j) _ (agree (at_most book_devices (byte_at b at)) (λ x. (hi, there, x)) (λ y. y.2)) in
      let bits = out_of_range (byte_at b (at + 2)) (byte_at b (at + 3)) (two_at b (at + 2)) (bytes (at + 2)) (bytes (at + 3))
      (setting-number b at) in
      let setting = made (command_setting i j) _ (agree bits (λ x. (hi, there, x.0, x.1)) (λ y. (y.2, y.3))) in
      let tag = made (command_tag i j) _ (agree (less highest_tag (byte_at b (at + 1))) (λ x. (hi, there, x)) (λ y. y.2)) in
      let others = commands-outcome i k n (suc j) hi (omega arith) (omega arith) in
      then (then device (λ _. then setting (λ _. tag)))
      (λ _. then (made (command_alone i j) _ (alone i n j hi e))
      (λ _. subst (λ (p : ℕ). ComesTo (command_tests i (suc j) k) (commands_check book_devices (suc j) (commands_at b p n))) next others))

  -- routine i, at its place
  routine-outcome : (i : ℕ) → i < count-of b →
      ComesTo (routine_length i ∷ routine_place i ∷ command_tests i 0 max_commands) (placed_check b i (place b i))
  unfolding placed_check
  routine-outcome i h =
      let n = length_at b i / command_size in
      let first : place b i + command_size * 0 ≡ place b i = omega arith in
      let size = made (routine_length i) _ (agree (unfit (length_at b i)) (λ x. (h, x)) (λ y. y.1)) in
      let misplaced = either _ _ (other (offset_at b i) (place b i)) (less (length b) (place b i + length_at b i)) in
      let spot = made (routine_place i) _ (agree misplaced (λ x. (h, x)) (λ y. y.1)) in
      then size (λ fits. then spot (λ _.
      let f = fits_in_fours (length_at b i) (not-false _ (not-refused _ _ fits)) in
      subst (λ (p : ℕ). ComesTo (command_tests i 0 max_commands) (commands_check book_devices 0 (commands_at b p n))) first
      (commands-outcome i max_commands n 0 h (omega arith) (omega arith))))

  -- the n routines from the i-th on, which end the book, and then bytes left over
  routines-outcome : (m n i : ℕ) → i + n ≡ count-of b → n ≤ m →
      ComesTo (routine_tests i m ++ (left_over ∷ [])) (placed_checks b i n (place b i))
  unfolding routine_tests placed_checks place
  routines-outcome m zero i e l =
      let ended : count-of b ≡ i = omega arith in
      let over = less (place b (count-of b)) (length b) in
      then (routines-past m i (omega arith))
      (λ _. made left_over _ (subst (λ (k : ℕ). Decides (ltb (place b k) (length b)) (Breaks b left_over)) ended over))
  routines-outcome zero (suc n) i e l = absurd (omega arith)
  routines-outcome (suc m) (suc n) i e l =
      rw (append_assoc (command_tests i 0 max_commands) (routine_tests (suc i) m) (left_over ∷ []))
      (then (routine-outcome i (omega arith)) (λ _. routines-outcome m n (suc i) (omega arith) (omega arith)))

  -- the head of the book
  head-outcome : ComesTo (head ∷ []) (head_check b)
  unfolding head_check
  head-outcome =
      let few = either _ _ (less (length b) count_size) (less max_routines (count-of b)) in
      let short = either _ _ few (less (length b) (pairs_end (count-of b))) in
      made head _ (agree short (elim [ inl (inl x) ↦ inl x | inl (inr x) ↦ inr (inl x) | inr x ↦ inr (inr x) ])
      (elim [ inl x ↦ inl (inl x) | inr (inl x) ↦ inl (inr x) | inr (inr x) ↦ inr x ]))

  -- the whole book
  book-outcome : ComesTo tests (book_check b)
  unfolding tests book_check place
  book-outcome =
      then head-outcome (λ fine.
      let few : ¬ (max_routines < count-of b) = λ h. (accepted_passes (Breaks b) cause_of head-outcome fine).0 (inr (inl h)) in
      routines-outcome max_routines (count-of b) 0 (omega arith) (omega arith))

-- (c)
pub exact_refusals : ExactRefusals
exact_refusals b bytes =
    exactly (Breaks b) cause_of tests (book_check b) (book-outcome b bytes) (λ r e. e) (λ r e. e) (λ e. e) (λ e. e)
