-- Theorem (d): a book is judged by its first bytes, one more than the longest book has. Assumes nothing.
use Rattle.std.proofs.Common.{Ok, Err}
use Rattle.rules_routine.specs.declared.refusals.Refusal.TheVariants.{BookLength}
use Prim.Native.Nat.{ℕ, zero, suc, ◌+◌, ◌*◌, ◌/◌, ◌≤◌, ◌<◌}
use mathlib.Core.Path.{◌≡◌, refl, sym, ap, ap₂, ◌∙◌}
use mathlib.Core.Bool.{Bool, true, not}
use mathlib.Core.List.{List, ◌∷◌}
use native.Mathlib.Omega.{arith}
use borrow.Author.Tests.{le-ltb, ltb-true, ltb-false, not-false}
use lib.Dec.{ltb}
use lib.ListN.{length, take}
use lib.Seq.{length-take-le, take_all, get_or-take}
use Rattle.rules_routine.specs.Refusals.{refuse◌when◌, ◌and_then◌, Verdict}
use Rattle.rules_routine.specs.Limits.{max_commands, max_routines}
use Rattle.rules_routine.proofs.RoutineLaws.{by_test, not-refused}
use Rattle.book_layout.specs.Numbers.{byte_at, two_at, four_at, setting_of}
use Rattle.book_layout.specs.Layout.{offset_size, command_size, pairs_end, count-of, pair_place, offset_at, length_at}
use Rattle.book_layout.specs.Layout.{command_at}
use Rattle.book_layout.specs.Layout.{commands_at}
use Rattle.book_layout.specs.Reading.{length_fits, placed_check, placed_checks, book_check}
use Rattle.book_layout.specs.Claims.{longest_book, JudgedByFirstBytes}
use Rattle.book_layout.proofs.LayoutLaws.{fits_in_fours, placed, checks_left_over, head_many, head_fine, book-refused, book-placed}

-- what follows a verdict matters only where it accepts
same_after : (v w x : Verdict) → (v ≡ Ok tt → w ≡ x) → v and_then w ≡ v and_then x
same_after (Ok tt) w x h = h refl
same_after (Err r) w x h = refl

-- a length that fits is at most 32
fits-few : (n : ℕ) → length_fits n ≡ true → n ≤ command_size * max_commands
fits-few n e = let f = fits_in_fours n e in let few = f.few in let size = f.size in omega arith

-- ---- two books that are longer than the longest, and have its bytes in common

module _ (a b : List ℕ) (la : longest_book < length a) (lb : longest_book < length b)
    (same : (p : ℕ) → p < longest_book → byte_at a p ≡ byte_at b p) where
  -- they have the same numbers and the same commands there
  two-same : (p : ℕ) → p + 2 ≤ longest_book → two_at a p ≡ two_at b p
  unfolding two_at
  two-same p h = omega (arith, same p (omega arith), same (p + 1) (omega arith))

  four_same : (p : ℕ) → p + 4 ≤ longest_book → four_at a p ≡ four_at b p
  unfolding four_at
  four_same p h = omega (arith, two-same p (omega arith), two-same (p + 2) (omega arith))

  count_same : count-of a ≡ count-of b
  unfolding count-of
  count_same = two-same 0 (omega arith)

  offset_same : (i : ℕ) → i < max_routines → offset_at a i ≡ offset_at b i
  unfolding offset_at
  offset_same i h = four_same (pair_place i) (omega arith)

  length-same : (i : ℕ) → i < max_routines → length_at a i ≡ length_at b i
  unfolding length_at
  length-same i h = four_same (pair_place i + offset_size) (omega arith)

  command-same : (at : ℕ) → at + command_size ≤ longest_book → command_at a at ≡ command_at b at
  unfolding command_at
  command-same at h =
      let d = same at (omega arith) in
      let t = same (at + 1) (omega arith) in
      let l = same (at + 2) (omega arith) in
      let u = same (at + 3) (omega arith) in
      λ i. record { device = d i; tag = t i; setting = setting_of (l i) (u i) }

  commands-same : (at n : ℕ) → at + command_size * n ≤ longest_book → commands_at a at n ≡ commands_at b at n
  commands-same at zero h = refl
  commands-same at (suc n) h = ap₂ ◌∷◌ (command-same at (omega arith)) (commands-same (at + command_size) n (omega arith))

  -- so a routine that the layout puts there is judged alike,
  placed_same : (i at : ℕ) → i < max_routines → at + command_size * max_commands ≤ longest_book → placed_check a i at ≡ placed_check b i at
  unfolding placed_check
  placed_same i at h k =
      rw (length-same i h, offset_same i h) (same_after (refuse (BookLength i) when not (length_fits (length_at b i))) _ _ (λ e.
      let l = fits-few (length_at b i) (not-false _ (not-refused (BookLength i) _ e)) in
      rw (
        le-ltb (length a) (at + length_at b i) (omega arith),
        le-ltb (length b) (at + length_at b i) (omega arith),
        commands-same at (length_at b i / command_size) (omega arith),
      )))

  -- and all in turn; behind the last, both have bytes left over.
  checks_same : (i n at : ℕ) → i + n ≤ max_routines → at + command_size * max_commands * n ≤ longest_book →
      placed_checks a i n at ≡ placed_checks b i n at
  unfolding placed_checks
  checks_same i zero at h k = checks_left_over a i at (omega arith) ∙ sym (checks_left_over b i at (omega arith))
  checks_same i (suc n) at h k =
      rw (placed_same i at (omega arith) (omega arith), length-same i (omega arith)) (same_after (placed_check b i at) _ _ (λ e.
      let l = fits-few (length_at b i) (placed b i at e).fits in
      checks_same (suc i) n (at + length_at b i) (omega arith) (omega arith)))

  -- The count decides about the head, and if it is at most 64, the routines about the rest.
  book-same : book_check a ≡ book_check b
  book-same =
      let c = count_same in
      by_test (λ (_ : Bool). book_check a ≡ book_check b) (ltb max_routines (count-of b))
      (λ e.
      let m = ltb-true max_routines (count-of b) e in
      book-refused a _ (head_many a (omega arith) (omega arith)) ∙ sym (book-refused b _ (head_many b (omega arith) (omega arith))))
      (λ e.
      let m = ltb-false max_routines (count-of b) e in
      book-placed a (head_fine a (omega arith) (omega arith) (omega arith))
      ∙ rw c (checks_same 0 (count-of b) (pairs_end (count-of b)) (omega arith) (omega arith))
      ∙ sym (book-placed b (head_fine b (omega arith) (omega arith) (omega arith))))

-- (d)
pub judged_by_first-bytes : JudgedByFirstBytes
judged_by_first-bytes b n h =
    by_test (λ (_ : Bool). book_check (take n b) ≡ book_check b) (ltb n (length b))
    (λ e.
    let l = ltb-true n (length b) e in
    let m = length-take-le n b (omega arith) in
    book-same (take n b) b (omega arith) (omega arith) (λ p k. get_or-take n b p 0 (omega arith)))
    (λ e. ap book_check (take_all n b (ltb-false n (length b) e)))
