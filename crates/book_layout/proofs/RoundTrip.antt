-- Theorems (a) and (b): a book is accepted only if it is the bytes of routines that may be written, and such bytes are accepted and read as
-- the same routines. Assumes nothing.
use Rattle.std.proofs.Common.{Some, None, Ok, Err}
use Rattle.rules_routine.specs.Refusals.{Verdict}
use Rattle.rules_routine.specs.declared.refusals.Refusal.TheVariants.{BookCutShort, BookMisplaced, NoRoom}
use Prim.Native.Nat.{ℕ, zero, suc, ◌+◌, ◌*◌, ◌/◌, ◌≤◌, ◌<◌}
use mathlib.Core.Path.{◌≡◌, refl, sym, ap, ap₂, subst, ◌∙◌}
use mathlib.Core.Bool.{true, ◌||◌}
use mathlib.Core.List.{List, [], ◌∷◌, ◌++◌, append_assoc}
use native.Mathlib.Omega.{arith}
use borrow.Author.Tests.{le-ltb, ltb-false}
use lib.Dec.{ltb}
use lib.ListN.{length, take, drop, length-append, length-drop, drop_of_length-le}
use lib.Seq.{take-append_seam}
use Rattle.rules_routine.specs.Limits.{max_commands, max_routines}
use Rattle.rules_routine.specs.Routine.{commands_of, routine_of, commands_check, routine_check}
use Rattle.rules_routine.specs.declared.Command.{Command}
use Rattle.rules_routine.specs.declared.Routine.{Routine}
use Rattle.rules_routine.specs.declared.refusals.Refusal.{Refusal}
use Rattle.rules_routine.proofs.RoutineLaws.{both_accept, accept_both, not-refused, or-false, check_counted, check_accepted}
use Rattle.rules_routine.proofs.RoutineLaws.{routine_of-commands}
use Rattle.book_layout.specs.Numbers.{two_bytes, four_bytes}
use Rattle.book_layout.specs.Layout.{book_devices, pairs_end, commands_bytes, length_in, pairs_bytes, body_bytes, book_bytes}
use Rattle.book_layout.specs.Layout.{count_size, pair_size, offset_size, command_size, count-of, pair_place, offset_at, length_at, commands_at}
use Rattle.book_layout.specs.Reading.{head_check, length_fits, placed_check, placed_checks, book_check, pair_next, next_with, next_of}
use Rattle.book_layout.specs.Writing.{routines_check, write_check, written_with, written_of, buffer_after}
use Rattle.book_layout.specs.Claims.{Hands, ends, hands, Bytes, WriteThenRead, ReadThenWrite}
use Rattle.book_layout.specs.declared.Next.{Next}
use Rattle.book_layout.proofs.LayoutLaws.{InFours, fits_in_fours, in_fours_fits, placed-commands, Placed, placed}
use Rattle.book_layout.proofs.LayoutLaws.{head_fine, book-placed, pair_handed, pair-past, next-first, next-later}
use Rattle.book_layout.proofs.LayoutLaws.{length-four_bytes, length-commands_bytes, length-pairs_bytes, length-commands_at}
use Rattle.book_layout.proofs.Bytes.{behind, two-read, four_read, commands-read, two-written, four_written, commands-written}

-- ---- a routine in a book

-- Routine r, which may be written, stands in book b as the i-th, at a place.
record Stands (b : List ℕ) (i at : ℕ) (r : List Command) : Type 0 where
  offset : offset_at b i ≡ at
  size : length_at b i ≡ length_in r
  inside : at + length_in r ≤ length b
  same : commands_at b at (length r) ≡ r
  some : 1 ≤ length r
  few : length r ≤ max_commands
  fine : commands_check book_devices 0 r ≡ Ok tt

-- It does if its pair and its commands are written there.
stands : (b x y z : List ℕ) (i at : ℕ) (r : List Command) → routine_check book_devices r ≡ Ok tt →
    drop (pair_place i) b ≡ four_bytes at ++ x → drop (pair_place i + offset_size) b ≡ four_bytes (length_in r) ++ y →
    drop at b ≡ commands_bytes r ++ z → Stands b i at r
unfolding offset_at length_at
stands b x y z i at r h offset size body =
    let a = check_accepted book_devices r h in
    let s : 1 ≤ length r = omega arith in
    let l = ap length body ∙ length-append (commands_bytes r) z in
    record {
      offset = four_read b x (pair_place i) at offset;
      size = four_read b y (pair_place i + offset_size) (length_in r) size;
      inside = omega (arith, length-drop at b, length-commands_bytes r);
      same = commands-read book_devices 0 b z at r a.2 body;
      some = s;
      few = a.1;
      fine = a.2;
    }

-- At the place of a pair of an accepted book a step of reading looks at the pair;
pair-next : (b : List ℕ) → book_check b ≡ Ok tt → (i : ℕ) → next_of b (pair_place i) ≡ pair_next b (pair_place i)
pair-next b a i = next-later b a (pair_place i) (λ e. omega arith)

-- behind the pairs it is at the end;
pairs_over : (b : List ℕ) → book_check b ≡ Ok tt → (i : ℕ) → count-of b ≤ i → (next_of b (pair_place i)).item ≡ Ok None
pairs_over b a i h = ap (λ (t : Next). t.item) (pair-next b a i ∙ pair-past b (pair_place i) (omega arith))

-- and this is the step that hands out r, the i-th routine.
abbrev handed : ℕ → List Command → Next
handed i r = record { item = Ok (Some (routine_of r)); position = pair_place (suc i) }

module _ (b : List ℕ) (i at : ℕ) (r : List Command) (s : Stands b i at r) where
  -- Where r stands, its length fits, its commands are read,
  size_fits : length_fits (length_at b i) ≡ true
  size_fits = in_fours_fits (length_at b i) (record { commands = length r; some = s.some; few = s.few; size = s.size })

  commands-same : commands_at b at (length_at b i / command_size) ≡ r
  commands-same =
      let e = s.size in
      let n : length_at b i / command_size ≡ length r = omega arith in
      ap (commands_at b at) n ∙ s.same

  -- it passes the check of a book,
  stands-accepted : placed_check b i at ≡ Ok tt
  stands-accepted =
      let e = s.size in let l = s.inside in
      placed-commands b i at size_fits s.offset (omega arith) ∙ ap (commands_check book_devices 0) commands-same ∙ s.fine

  -- and it is handed out, the whole book being accepted.
  stands_handed : book_check b ≡ Ok tt → i < count-of b → next_of b (pair_place i) ≡ handed i r
  unfolding offset_at length_at
  stands_handed a h =
      let o = s.offset in
      let c = ap (λ (p : ℕ). commands_at b p (length_at b i / command_size)) o ∙ commands-same in
      let q : pair_place i + pair_size ≡ pair_place (suc i) = omega arith in
      pair-next b a i
      ∙ pair_handed b (pair_place i) (omega arith) (omega arith)
      ∙ (λ j. record { item = Ok (Some (routine_of (c j))); position = q j })

-- ---- routines that may be written are read as they are

-- A step of reading that is known hands out its routine.
hands_by : (b : List ℕ) (p : ℕ) (t : Next) (q : Routine) (r : List Command) (rs : List (List Command)) → next_of b p ≡ t →
    t.item ≡ Ok (Some q) → commands_of q ≡ r → Hands b t.position rs → Hands b p (r ∷ rs)
hands_by b p t q r rs e x y z =
    hands q (ap (λ (u : Next). u.item) e ∙ x) y (subst (λ (at : ℕ). Hands b at rs) (sym (ap (λ (u : Next). u.position) e)) z)

-- Of the routines from the i-th on, of which the first begins at a place, the pairs and the commands are written: they pass and, the whole
-- book being accepted, are handed out.
read_back : (b rest : List ℕ) (i at : ℕ) (rs : List (List Command)) → routines_check rs ≡ Ok tt → i + length rs ≡ count-of b →
    drop (pair_place i) b ≡ pairs_bytes at rs ++ rest → drop at b ≡ body_bytes rs →
    (placed_checks b i (length rs) at ≡ Ok tt) × (book_check b ≡ Ok tt → Hands b (pair_place i) rs)
unfolding routines_check placed_checks
read_back b rest i at [] h n pairs body =
    let l = ap length body in
    (simp (le-ltb at (length b) (omega (arith, length-drop at b))), λ a. ends (pairs_over b a i (omega arith)))
read_back b rest i at (r ∷ rs) h n pairs body =
    let a = both_accept (routine_check book_devices r) _ h in
    let more = pairs_bytes (at + length_in r) rs ++ rest in
    let offset : drop (pair_place i) b ≡ four_bytes at ++ (four_bytes (length_in r) ++ more) = simp append_assoc at pairs in
    let size = behind b (four_bytes at) (four_bytes (length_in r) ++ more) (pair_place i) offset_size offset (length-four_bytes at) in
    let s = stands b (four_bytes (length_in r) ++ more) more (body_bytes rs) i at r a.0 offset size body in
    let p : pair_place (suc i) ≡ pair_place i + offset_size + 4 = omega arith in
    let next =
    ap (λ (q : ℕ). drop q b) p
    ∙ behind b (four_bytes (length_in r)) more (pair_place i + offset_size) 4 size (length-four_bytes (length_in r)) in
    let c = behind b (commands_bytes r) (body_bytes rs) at (length_in r) body (length-commands_bytes r) in
    let f = read_back b rest (suc i) (at + length_in r) rs a.1 (omega arith) next c in (
      accept_both _ _ (stands-accepted b i at r s) (rw s.size f.0),
      λ w.
          let h = stands_handed b i at r s w (omega arith) in
          hands_by b (pair_place i) (handed i r) (routine_of r) r rs h refl (routine_of-commands r s.few) (f.1 w),
    )

-- An accepted book is read from position 0 as from its first pair.
from_start : (b : List ℕ) (rs : List (List Command)) → book_check b ≡ Ok tt → Hands b count_size rs → Hands b 0 rs
from_start b [] e (ends x) = let t = next-first b e ∙ sym (pair-next b e 0) in ends {at = 0} (ap (λ (u : Next). u.item) t ∙ x)
from_start b (r ∷ rs) e (hands q x y z) = hands_by b 0 (next_of b count_size) q r rs (next-first b e ∙ sym (pair-next b e 0)) x y z

-- Routines that may be written, and book b is their bytes.
pub record Makes (rs : List (List Command)) (b : List ℕ) : Type 0 where
  pub fine : routines_check rs ≡ Ok tt
  pub few : length rs ≤ max_routines
  pub book : book_bytes rs ≡ b

-- Then it is read as these routines.
book-read : (rs : List (List Command)) (b : List ℕ) → Makes rs b → Hands b 0 rs
unfolding book_bytes count-of two_bytes
book-read rs b w =
    let few = w.few in let e = w.book in
    let count = two_bytes (length rs) in
    let pairs = pairs_bytes (pairs_end (length rs)) rs in
    let body = body_bytes rs in
    let n = two-read b (pairs ++ body) 0 (length rs) (sym e) in
    let p = behind b count (pairs ++ body) 0 count_size (sym e) refl in
    let q = behind b pairs body count_size (pair_size * length rs) p (length-pairs_bytes (pairs_end (length rs)) rs) in
    let f = read_back b body 0 (pairs_end (length rs)) rs w.fine (omega arith) p q in
    let z = ap length e in
    let l : pairs_end (count-of b) ≤ length b = omega (arith, length-append pairs body, length-pairs_bytes (pairs_end (length rs)) rs) in
    let a : book_check b ≡ (Ok tt) = book-placed b (head_fine b (omega arith) (omega arith) l) ∙ rw n f.0 in
    from_start b rs a (f.1 a)

-- ---- an accepted book is the bytes of routines that may be written

-- A routine that may be written, and book b holds its pair as the i-th and its commands at a place.
record Holds (b : List ℕ) (i at : ℕ) : Type 0 where
  routine : List Command
  fine : routine_check book_devices routine ≡ Ok tt
  size : length_at b i ≡ length_in routine
  pair : drop (pair_place i) b ≡ four_bytes at ++ (four_bytes (length_in routine) ++ drop (pair_place (suc i)) b)
  body : drop at b ≡ commands_bytes routine ++ drop (at + length_in routine) b

-- So for a routine that passes the check,
holds : (b : List ℕ) → Bytes b → (i at : ℕ) → pair_place (suc i) ≤ length b → Placed b i at → InFours (length_at b i) → Holds b i at
unfolding offset_at length_at
holds b bytes i at l p f =
    let r = commands_at b at f.commands in
    let n = length-commands_at b at f.commands in
    let some = f.some in let few = f.few in let e = f.size in let offset = p.offset in let inside = p.inside in
    let s : length_at b i ≡ length_in r = omega arith in
    let c : f.commands ≡ length_at b i / command_size = omega arith in
    let k : pair_place i + offset_size + 4 ≡ pair_place (suc i) = omega arith in
    let m : at + command_size * f.commands ≡ at + length_in r = omega arith in
    let x = four_written b bytes (pair_place i) (omega arith) in
    let y = four_written b bytes (pair_place i + offset_size) (omega arith) in
    let z = commands-written b bytes at f.commands (omega arith) in
    record {
      routine = r;
      fine = check_counted book_devices r (omega arith) (omega arith) ∙ ap (λ (q : ℕ). commands_check book_devices 0 (commands_at b at q)) c
          ∙ p.fine;
      size = s;
      pair = cc;
      body = cc;
    }

-- n routines that may be written, and book b holds their pairs from the i-th on and their commands from a place to its end.
record HoldsAll (b : List ℕ) (i n at : ℕ) : Type 0 where
  routines : List (List Command)
  many : length routines ≡ n
  fine : routines_check routines ≡ Ok tt
  pairs : drop (pair_place i) b ≡ pairs_bytes at routines ++ drop (pair_place (i + n)) b
  body : drop at b ≡ body_bytes routines

-- So for no routine at the end of the book, for one more in front,
holds-none : (b : List ℕ) (i at : ℕ) → length b ≤ at → HoldsAll b i 0 at
unfolding routines_check
holds-none b i at h =
    let k : pair_place i ≡ pair_place (i + 0) = omega arith in
    record { routines = []; many = refl; fine = refl; pairs = ap (λ (q : ℕ). drop q b) k; body = drop_of_length-le b h }

holds_more : (b : List ℕ) (i n at : ℕ) (h : Holds b i at) → HoldsAll b (suc i) n (at + length_in h.routine) → HoldsAll b i (suc n) at
unfolding routines_check
holds_more b i n at h m =
    let r = h.routine in
    let rs = m.routines in
    let k : suc i + n ≡ i + suc n = omega arith in
    let x = h.pair in let y = m.pairs in let u = h.body in let v = m.body in
    record {
      routines = r ∷ rs;
      many = ap suc m.many;
      fine = accept_both (routine_check book_devices r) _ h.fine m.fine;
      pairs = simp append_assoc (cc);
      body = cc;
    }

-- and for all that pass the check.
holds_all : (b : List ℕ) → Bytes b → (i n at : ℕ) → pair_place (i + n) ≤ length b → placed_checks b i n at ≡ Ok tt → HoldsAll b i n at
unfolding placed_checks
holds_all b bytes i zero at l e = holds-none b i at (ltb-false at (length b) (not-refused BookMisplaced _ e))
holds_all b bytes i (suc n) at l e =
    let a = both_accept (placed_check b i at) _ e in
    let p = placed b i at a.0 in
    let h = holds b bytes i at (omega arith) p (fits_in_fours (length_at b i) p.fits) in
    holds_more b i n at h (holds_all b bytes (suc i) n (at + length_in h.routine) (omega arith) (rw h.size at a.1))

-- So an accepted book is the bytes of its routines.
book-written : (b : List ℕ) → Bytes b → book_check b ≡ Ok tt → (rs : List (List Command)) × Makes rs b
unfolding book_check head_check count-of book_bytes
book-written b bytes e =
    let a = both_accept (head_check b) _ e in
    let t = or-false (ltb (length b) count_size || ltb max_routines (count-of b)) _ (not-refused BookCutShort _ a.0) in
    let u = or-false (ltb (length b) count_size) _ t.0 in
    let k = ltb-false max_routines (count-of b) u.1 in
    let l = ltb-false (length b) (pairs_end (count-of b)) t.1 in
    let z : 0 + count-of b ≡ count-of b = omega arith in
    let h = holds_all b bytes 0 (count-of b) (pairs_end (count-of b)) (omega arith) a.1 in
    let many = h.many in let pairs = h.pairs in let body = h.body in
    let c = two-written b bytes 0 (omega arith) in
    (h.routines, record { fine = h.fine; few = omega arith; book = cc })

-- ---- the theorems

-- What is handed out from a position is determined.
hands-same : (b : List ℕ) (p : ℕ) (rs rs' : List (List Command)) → Hands b p rs → Hands b p rs' → rs ≡ rs'
hands-same b p [] [] (ends x) (ends x') = refl
hands-same b p [] (r' ∷ rs') (ends x) (hands q' x' y' z') = let z : ◌≡◌ {A = ℕ} 0 1 = cc in absurd (omega arith)
hands-same b p (r ∷ rs) [] (hands q x y z) (ends x') = let z : ◌≡◌ {A = ℕ} 0 1 = cc in absurd (omega arith)
hands-same b p (r ∷ rs) (r' ∷ rs') (hands q x y z) (hands q' x' y' z') =
    let e : q ≡ q' = cc in ap₂ ◌∷◌ (sym y ∙ ap commands_of e ∙ y') (hands-same b (next_of b p).position rs rs' z z')

-- Only an accepted book is read.
not-turned-down : (b : List ℕ) (v : Verdict) → ((r : Refusal) → (next_with v b 0).item ≡ Err r → ⊥) → v ≡ Ok tt
not-turned-down b (Ok tt) h = refl
not-turned-down b (Err r) h = absurd (h r refl)

pub hands-accepted : (b : List ℕ) (rs : List (List Command)) → Hands b 0 rs → book_check b ≡ Ok tt
unfolding next_of
hands-accepted b [] (ends x) = not-turned-down b (book_check b) (λ r e. let z : ◌≡◌ {A = ℕ} 0 1 = cc in omega arith)
hands-accepted b (r ∷ rs) (hands q x y z) = not-turned-down b (book_check b) (λ r e. let z : ◌≡◌ {A = ℕ} 0 1 = cc in omega arith)

-- So what was read of a book makes it.
pub hands_make : (b : List ℕ) → Bytes b → (rs : List (List Command)) → Hands b 0 rs → Makes rs b
hands_make b bytes rs h =
    let w = book-written b bytes (hands-accepted b rs h) in
    subst (λ (qs : List (List Command)). Makes qs b) (hands-same b 0 w.0 rs (book-read w.0 b w.1) h) w.1

-- A length is answered only for a writing that is accepted, and is the book's;
pub written-accepted : (v : Verdict) (book : List ℕ) (n : ℕ) → written_with v book ≡ Ok n → (v ≡ Ok tt) × (length book ≡ n)
written-accepted (Ok tt) book n e = (refl, cc)
written-accepted (Err r) book n e = let z : ◌≡◌ {A = ℕ} 0 1 = cc in absurd (omega arith)

-- the book is then the first bytes of the buffer.
first-bytes : (rs : List (List Command)) (buffer : List ℕ) → write_check rs (length buffer) ≡ Ok tt →
    take (length (book_bytes rs)) (buffer_after rs buffer) ≡ book_bytes rs
unfolding buffer_after
first-bytes rs buffer e = rw e (take-append_seam (book_bytes rs) (drop (length (book_bytes rs)) buffer))

-- Routines that may be written are accepted where there is room,
write_fits : (rs : List (List Command)) (b : List ℕ) (room : ℕ) → Makes rs b → length b ≤ room → write_check rs room ≡ Ok tt
unfolding write_check
write_fits rs b room w l =
    let few = w.few in let e = ap length w.book in
    simp (w.fine, le-ltb max_routines (length rs) few, le-ltb room (length (book_bytes rs)) (omega arith))

-- and give their book.
write_again : (rs : List (List Command)) (b buffer : List ℕ) → Makes rs b → length b ≤ length buffer →
    (written_of rs (length buffer) ≡ Ok (length b)) × (take (length b) (buffer_after rs buffer) ≡ b)
unfolding written_of
write_again rs b buffer w l =
    let a = write_fits rs b (length buffer) w l in
    let e = ap length w.book in
    (rw a (ap Ok e), ap (λ (m : ℕ). take m (buffer_after rs buffer)) (sym e) ∙ first-bytes rs buffer a ∙ w.book)

-- (a)
pub write_then_read : WriteThenRead
unfolding written_of write_check
write_then_read rs buffer n e =
    let w = written-accepted (write_check rs (length buffer)) (book_bytes rs) n e in
    let a = both_accept (routines_check rs) _ w.0 in
    let t = or-false (ltb max_routines (length rs)) _ (not-refused NoRoom _ a.1) in
    book-read rs (take n (buffer_after rs buffer)) (record {
      fine = a.0;
      few = ltb-false max_routines (length rs) t.0;
      book = sym (first-bytes rs buffer w.0) ∙ ap (λ (m : ℕ). take m (buffer_after rs buffer)) w.1;
    })

-- (b)
pub read_then_write : ReadThenWrite
read_then_write b bytes = (
  λ e. let w = book-written b bytes e in (w.0, book-read w.0 b w.1),
  λ rs h buffer l. write_again rs b buffer (hands_make b bytes rs h) l,
)
