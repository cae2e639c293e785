-- Laws of the routines as they are lent, of what their counts say, and of bytes that are written one after another. Assumes nothing.
use Rattle.std.proofs.Common.{Ok, Err}
use Rattle.rules_routine.specs.declared.refusals.Refusal.TheVariants.{NoRoom}
use Prim.Native.Nat.{ℕ, zero, suc, ◌+◌, ◌-◌, ◌*◌, ◌≤◌, ◌<◌}
use mathlib.Core.Path.{◌≡◌, refl, sym, ap, ap₂, ◌∙◌}
use mathlib.Core.List.{List, [], ◌∷◌, ◌++◌, map, append_assoc}
use native.Mathlib.Nat.{suc-add}
use native.Mathlib.Numerals.{add-one}
use native.Mathlib.Omega.{arith}
use borrow.Author.Tests.{lt-ltb, le-ltb}
use lib.IntN.{ℤ}
use Rattle.std.proofs.Common.{◌/◌, ◌%◌, ◌^◌, w16, w32}
use Rattle.std.specs.Int.{to_le_bytes}
use borrow.Rule.Slice.PartMut.{put_mid}
use Rattle.std.proofs.lemmas.Slice.{put_mid-paste}
use Rattle.std.proofs.lemmas.List.Edits.{paste_all}
use lib.ListN.{length, take, drop, get_or, length-append, length-map, length-drop, drop_of_length-le}
use lib.Seq.{sets, sets-eq, drop-cons}
use Rattle.rules_routine.specs.Routine.{routine_check}
use Rattle.rules_routine.specs.declared.Command.{Command}
use Rattle.rules_routine.specs.declared.refusals.Refusal.{Refusal}
use Rattle.rules_routine.proofs.RoutineLaws.{sets_append}
use Rattle.rules_routine.specs.Limits.{max_routines}
use Rattle.book_layout.specs.Layout.{count_size, pair_size, offset_size, command_size, book_devices, pairs_end}
use Rattle.book_layout.specs.Layout.{command_bytes, commands_bytes, pairs_bytes, body_bytes, book_bytes}
use Rattle.book_layout.specs.Numbers.{two_bytes, four_bytes}
use Rattle.book_layout.specs.Writing.{command_lent, commands_lent, routines_from, routines_lent}
use Rattle.book_layout.specs.Writing.{routines_check, write_check, written_of, buffer_after}
use Rattle.book_layout.proofs.Lending.{length-lent, routine_whole}
use Rattle.book_layout.proofs.LayoutLaws.{length-two_bytes, length-four_bytes, length-command_bytes, length-commands_bytes, length-pairs_bytes}
use Rattle.book_write.specs.Count.{pairs_counted}
use Rattle.std.specs.List.{sum}
use Rattle.std.proofs.lemmas.List.Sums.{sum_by-cons}

-- ---- counts: what is left from the i-th on

counts_more : (ns : List ℕ) (i n : ℕ) → i < length ns → n ≡ get_or ns i 0 → drop i ns ≡ n ∷ drop (i + 1) ns
counts_more ns i n h e = drop-cons ns i 0 h ∙ ap₂ (λ (k j : ℕ). k ∷ drop j ns) (sym e) (sym (add-one i))

-- a count is a byte
pub commands-few : (ns : List ℕ) → ((i : ℕ) → get_or ns i 0 < 256) → sum ns ≤ 255 * length ns
commands-few [] h = omega arith
commands-few (n ∷ ns) h = let k = commands-few ns (λ i. h (suc i)) in omega (arith, h 0, sum_by-cons (λ x. x) n ns)

-- ---- commands of the row

module _ (ds ts : List ℕ) (ss : List ℤ) where
  -- some, and then others behind them
  pub lent_both : (at n m : ℕ) → commands_lent ds ts ss at (n + m) ≡ commands_lent ds ts ss at n ++ commands_lent ds ts ss (at + n) m
  lent_both at zero m = let z : 0 + m ≡ m = omega arith in let a : at ≡ at + 0 = omega arith in
      ap₂ (λ (p k : ℕ). commands_lent ds ts ss p k) a z
  lent_both at (suc n) m =
      let a : suc at + n ≡ at + suc n = omega arith in
      ap (commands_lent ds ts ss at) (suc-add n m)
      ∙ ap (λ (l : List Command). command_lent ds ts ss at ∷ l)
      (lent_both (suc at) n m ∙ ap (λ (p : ℕ). commands_lent ds ts ss (suc at) n ++ commands_lent ds ts ss p m) a)

  -- one more, at the end and in front
  pub lent-more : (at n : ℕ) → commands_lent ds ts ss at (n + 1) ≡ commands_lent ds ts ss at n ++ (command_lent ds ts ss (at + n) ∷ [])
  lent-more at n = lent_both at n 1

  pub lent-first : (i n : ℕ) → i < n →
      commands_lent ds ts ss i (n - i) ≡ command_lent ds ts ss i ∷ commands_lent ds ts ss (i + 1) (n - (i + 1))
  lent-first i n h =
      let k : n - i ≡ suc (n - (i + 1)) = omega arith in
      ap (commands_lent ds ts ss i) k ∙ ap (λ (p : ℕ). command_lent ds ts ss i ∷ commands_lent ds ts ss p (n - (i + 1))) (sym (add-one i))

  -- what passes the check is there
  pub routine-there : (at n : ℕ) → at ≤ length ds → routine_check book_devices (commands_lent ds ts ss at n) ≡ Ok tt → at + n ≤ length ds
  routine-there at n h e =
      let cs = commands_lent ds ts ss at n in
      let parts = map (λ (c : Command). c.device) cs in
      let l = ap length (routine_whole ds ts ss at n e).devices in
      omega (
        arith,
        length-drop at ds,
        length-append parts (drop (at + n) ds),
        length-map cs (λ (c : Command). c.device),
        length-lent ds ts ss at n,
      )

-- ---- routines of the row

module _ (ds ts : List ℕ) (ss : List ℤ) where
  -- the next routine, which begins at a place, where i are behind
  pub routines-more : (ns : List ℕ) (i at n : ℕ) → i < length ns → n ≡ get_or ns i 0 →
      routines_from ds ts ss at (drop i ns) ≡ commands_lent ds ts ss at n ∷ routines_from ds ts ss (at + n) (drop (i + 1) ns)
  routines-more ns i at n h e = ap (routines_from ds ts ss at) (counts_more ns i n h e)

  pub routines_end : (ns : List ℕ) (i at : ℕ) → length ns ≤ i → routines_from ds ts ss at (drop i ns) ≡ []
  routines_end ns i at h = ap (routines_from ds ts ss at) (drop_of_length-le ns h)

  -- how many they are
  pub length-routines : (at : ℕ) (ns : List ℕ) → length (routines_from ds ts ss at ns) ≡ length ns
  length-routines at [] = refl
  length-routines at (n ∷ ns) = ap suc (length-routines (at + n) ns)

  -- their pairs follow from the counts
  pairs-counted : (at p : ℕ) (ns : List ℕ) → pairs_bytes p (routines_from ds ts ss at ns) ≡ pairs_counted p ns
  pairs-counted at p [] = refl
  pairs-counted at p (n ∷ ns) =
      ap (λ (k : ℕ). four_bytes p ++ (four_bytes (command_size * k) ++ pairs_bytes (p + command_size * k) (routines_from ds ts ss (at + n) ns)))
      (length-lent ds ts ss at n)
      ∙ ap (λ (l : List ℕ). four_bytes p ++ (four_bytes (command_size * n) ++ l)) (pairs-counted (at + n) (p + command_size * n) ns)

  -- their commands are those of the row in turn
  body_is : (at : ℕ) (ns : List ℕ) → body_bytes (routines_from ds ts ss at ns) ≡ commands_bytes (commands_lent ds ts ss at (sum ns))
  body_is at [] = refl
  body_is at (n ∷ ns) =
      let m = sum ns in
      ap (λ (l : List ℕ). commands_bytes (commands_lent ds ts ss at n) ++ l) (body_is (at + n) ns)
      ∙ sym (commands-append (commands_lent ds ts ss at n) (commands_lent ds ts ss (at + n) m))
      ∙ ap commands_bytes (sym (lent_both ds ts ss at n m))
      ∙ ap (λ (k : ℕ). commands_bytes (commands_lent ds ts ss at k)) (sym (sum_by-cons (λ x. x) n ns))
    where
      commands-append : (a b : List Command) → commands_bytes (a ++ b) ≡ commands_bytes a ++ commands_bytes b
      commands-append [] b = refl
      commands-append (c ∷ a) b =
          ap (λ (l : List ℕ). command_bytes c ++ l) (commands-append a b)
          ∙ sym (append_assoc (command_bytes c) (commands_bytes a) (commands_bytes b))

  -- how long the book is
  pub length-book : (ns : List ℕ) → length (book_bytes (routines_lent ns ds ts ss)) ≡ pairs_end (length ns) + command_size * sum ns
  unfolding book_bytes
  length-book ns =
      let rs = routines_lent ns ds ts ss in
      let pairs = pairs_bytes (pairs_end (length rs)) rs in
      let body = commands_lent ds ts ss 0 (sum ns) in
      omega (
        arith,
        length-routines 0 ns,
        length-append (two_bytes (length rs)) (pairs ++ body_bytes rs),
        length-two_bytes (length rs),
        length-append pairs (body_bytes rs),
        length-pairs_bytes (pairs_end (length rs)) rs,
        ap length (body_is 0 ns),
        length-commands_bytes body,
        length-lent ds ts ss 0 (sum ns),
      )

-- the routines in turn
pub check_none : routines_check [] ≡ Ok tt
unfolding routines_check
check_none = refl

module _ (r : List Command) (rs : List (List Command)) where
  pub check_more : routine_check book_devices r ≡ Ok tt → routines_check (r ∷ rs) ≡ routines_check rs
  unfolding routines_check
  check_more e = rw e

  pub check_stops : (x : Refusal) → routine_check book_devices r ≡ Err x → routines_check (r ∷ rs) ≡ Err x
  unfolding routines_check
  check_stops x e = rw e

-- ---- bytes that are written one after another

-- the bytes of numbers, as the machine gives them
pub two_le : (n : ℕ) → n < 2 ^ 16 → to_le_bytes w16 n ≡ two_bytes n
unfolding two_bytes
two_le n h = let e : n / 256 % 256 ≡ n / 256 = omega arith in ap (λ (k : ℕ). n % 256 ∷ k ∷ []) e

pub four_le : (n : ℕ) → n < 2 ^ 32 → to_le_bytes w32 n ≡ four_bytes n
unfolding four_bytes
four_le n h =
    let e : n / 16777216 % 256 ≡ n / 16777216 = omega arith in
    ap (λ (k : ℕ). n % 256 ∷ n / 256 % 256 ∷ n / 65536 % 256 ∷ k ∷ []) e

-- bytes copied into a part of a buffer
pub bytes-put : (out ys bs : List ℕ) (at k : ℕ) → ys ≡ bs → k ≡ length bs → at + k ≤ length out → put_mid at k out ys ≡ sets out at bs
bytes-put out ys bs at k e n h =
    put_mid-paste at k out ys bs (length bs) e (sym n) refl
    ∙ paste_all out at bs (length bs) refl
    ∙ sym (append_assoc (take at out) bs (drop (at + length bs) out))
    ∙ sym (sets-eq bs out at (omega arith))

-- one pair of those that are left
pub pairs_more : (out ns : List ℕ) (p at i n : ℕ) → i < length ns → n ≡ get_or ns i 0 →
    let size = command_size * n in
    sets out p (pairs_counted at (drop i ns))
    ≡ sets (sets (sets out p (four_bytes at)) (p + offset_size) (four_bytes size)) (p + pair_size) (pairs_counted (at + size) (drop (i + 1) ns))
pairs_more out ns p at i n h e =
    let size = command_size * n in
    let rest = pairs_counted (at + size) (drop (i + 1) ns) in
    let one = sets out p (four_bytes at) in
    ap (λ (l : List ℕ). sets out p (pairs_counted at l)) (counts_more ns i n h e)
    ∙ sets_append (four_bytes at) (four_bytes size ++ rest) out p
    ∙ ap (λ (k : ℕ). sets one (p + k) (four_bytes size ++ rest)) (length-four_bytes at)
    ∙ sets_append (four_bytes size) rest one (p + offset_size)
    ∙ ap (λ (k : ℕ). sets (sets one (p + offset_size) (four_bytes size)) k rest) (omega (arith, length-four_bytes size))

pub pairs-end : (out ns : List ℕ) (p at i : ℕ) → length ns ≤ i → sets out p (pairs_counted at (drop i ns)) ≡ out
pairs-end out ns p at i h = ap (λ (l : List ℕ). sets out p (pairs_counted at l)) (drop_of_length-le ns h)

module _ (ds ts : List ℕ) (ss : List ℤ) where
  -- one command of those that are left
  pub commands-put : (out : List ℕ) (p i n : ℕ) → i < n →
      sets out p (commands_bytes (commands_lent ds ts ss i (n - i)))
      ≡ sets (sets out p (command_bytes (command_lent ds ts ss i))) (p + command_size)
      (commands_bytes (commands_lent ds ts ss (i + 1) (n - (i + 1))))
  commands-put out p i n h =
      let c = command_lent ds ts ss i in
      let rest = commands_bytes (commands_lent ds ts ss (i + 1) (n - (i + 1))) in
      ap (λ (l : List Command). sets out p (commands_bytes l)) (lent-first ds ts ss i n h)
      ∙ sets_append (command_bytes c) rest out p
      ∙ ap (λ (j : ℕ). sets (sets out p (command_bytes c)) (p + j) rest) (length-command_bytes c)

  pub commands-put_end : (out : List ℕ) (p i n : ℕ) → n ≤ i → sets out p (commands_bytes (commands_lent ds ts ss i (n - i))) ≡ out
  commands-put_end out p i n h = let e : n - i ≡ 0 = omega arith in rw e

  -- the three parts of a book, one after another
  pub book-put : (ns out : List ℕ) →
      let first = pairs_end (length ns) in
      let counted = sets (sets out 0 (two_bytes (length ns))) count_size (pairs_counted first ns) in
      sets counted first (commands_bytes (commands_lent ds ts ss 0 (sum ns))) ≡ sets out 0 (book_bytes (routines_lent ns ds ts ss))
  unfolding book_bytes
  book-put ns out =
      let rs = routines_lent ns ds ts ss in
      let n = length-routines ds ts ss 0 ns in
      let count = two_bytes (length ns) in
      let pairs = pairs_bytes (pairs_end (length ns)) rs in
      let l = length-pairs_bytes (pairs_end (length ns)) rs in
      let p : pairs_end (length ns) ≡ count_size + length pairs = omega arith in
      let two : count_size ≡ 0 + length count = omega (arith, length-two_bytes (length ns)) in
      let row = commands_bytes (commands_lent ds ts ss 0 (sum ns)) in
      ap (λ (q : List ℕ). sets (sets (sets out 0 count) count_size q) (pairs_end (length ns)) row)
      (sym (pairs-counted ds ts ss 0 (pairs_end (length ns)) ns))
      ∙ ap₂ (λ (k : ℕ) (b : List ℕ). sets (sets (sets out 0 count) count_size pairs) k b) p (sym (body_is ds ts ss 0 ns))
      ∙ sym (sets_append pairs (body_bytes rs) (sets out 0 count) count_size)
      ∙ ap (λ (k : ℕ). sets (sets out 0 count) k (pairs ++ body_bytes rs)) two
      ∙ sym (sets_append count (pairs ++ body_bytes rs) out 0)
      ∙ ap (λ (k : ℕ). sets out 0 (two_bytes k ++ (pairs_bytes (pairs_end k) rs ++ body_bytes rs))) (sym n)

-- ---- what is answered and what is left in the buffer

module _ (rs : List (List Command)) (room : ℕ) where
  pub write_refused : (x : Refusal) → routines_check rs ≡ Err x → write_check rs room ≡ Err x
  unfolding write_check
  write_refused x e = rw e

  pub write_many : routines_check rs ≡ Ok tt → max_routines < length rs → write_check rs room ≡ Err NoRoom
  unfolding write_check
  write_many e h = simp (e, lt-ltb max_routines (length rs) h)

  pub write_short : routines_check rs ≡ Ok tt → length rs ≤ max_routines → room < length (book_bytes rs) →
      write_check rs room ≡ Err NoRoom
  unfolding write_check
  write_short e h k = simp (e, le-ltb max_routines (length rs) h, lt-ltb room (length (book_bytes rs)) k)

  pub write_fits : routines_check rs ≡ Ok tt → length rs ≤ max_routines → length (book_bytes rs) ≤ room → write_check rs room ≡ Ok tt
  unfolding write_check
  write_fits e h k = simp (e, le-ltb max_routines (length rs) h, le-ltb room (length (book_bytes rs)) k)

module _ (rs : List (List Command)) (out : List ℕ) where
  pub turned-down : (x : Refusal) → write_check rs (length out) ≡ Err x →
      (Err x ≡ written_of rs (length out)) × (out ≡ buffer_after rs out)
  unfolding written_of buffer_after
  turned-down x e = (rw e, rw e)

  pub written : write_check rs (length out) ≡ Ok tt → length (book_bytes rs) ≤ length out → (n : ℕ) (o : List ℕ) →
      n ≡ length (book_bytes rs) → o ≡ sets out 0 (book_bytes rs) →
      (Ok n ≡ written_of rs (length out)) × (o ≡ buffer_after rs out)
  unfolding written_of buffer_after
  written e h n o m w =
      let z : 0 + length (book_bytes rs) ≡ length (book_bytes rs) = omega arith in
      (rw e (ap Ok m), rw e (w ∙ sets-eq (book_bytes rs) out 0 (omega arith) ∙ ap (λ (k : ℕ). book_bytes rs ++ drop k out) z))
