-- Laws of rows, of the steps that read them, and of the copy. Assumes nothing.
use Rattle.std.proofs.Common.{Some, Result, Ok, Err}
use Rattle.rules_routine.specs.Refusals.{Verdict}
use Prim.Native.Nat.{ℕ, zero, suc, ◌+◌, ◌-◌, ◌*◌, ◌≤◌, ◌<◌}
use mathlib.Core.Path.{◌≡◌, refl, sym, ap, ap₂, subst, ◌∙◌}
use mathlib.Core.List.{List, [], ◌∷◌, ◌++◌, map, append_assoc, append-nil, map-append}
use native.Mathlib.Numerals.{add-one}
use native.Mathlib.Omega.{arith}
use borrow.Author.Tests.{lt-ltb, le-ltb}
use lib.Dec.{ltb}
use lib.IntN.{pos}
use lib.ListN.{length, take, drop, get_or, set, replicate, length-append, length-map, length-take, length-drop, drop_of_length-le}
use lib.Seq.{set_at, drop-cons, take-append_seam, take-suc}
use Rattle.std.specs.Prelude.{if◌then◌else◌}
use Rattle.rules_routine.specs.Limits.{max_commands, max_routines}
use Rattle.rules_routine.specs.Routine.{zero_command, commands_of, routine_check}
use Rattle.rules_routine.specs.declared.Command.{Command}
use Rattle.rules_routine.specs.declared.Routine.{Routine}
use Rattle.rules_routine.specs.declared.refusals.Refusal.{Refusal}
use Rattle.rules_routine.proofs.RoutineLaws.{both_accept, check_accepted}
use Rattle.book_layout.specs.Claims.{Hands, ends, hands, Bytes}
use Rattle.book_layout.specs.Layout.{book_devices}
use Rattle.book_layout.specs.Reading.{book_check, next_of}
use Rattle.book_layout.specs.Writing.{routines_lent, row_of, counts_of, routines_check, write_check, written_with, written_of, buffer_with}
use Rattle.book_layout.specs.Writing.{buffer_after}
use Rattle.book_layout.proofs.Lending.{first-there, rest-there}
use Rattle.book_layout.proofs.RoundTrip.{Makes, hands_make}
use Rattle.book_layout.proofs.Theorems.{read_then_write, lent_again}
use Rattle.book_copy.specs.Copy.{copy_check, copied_of, copy_after}
use Rattle.book_copy.specs.Rows.{most_commands, padded, rows_with, rows_of, RowsOfBook, with_command, with_commands, with_count}
use Rattle.book_copy.specs.Rows.{with_routine}
use Rattle.book_copy.specs.declared.Rows.{Rows}

-- ---- rows with more in them

-- a list with one value more
padded-more : {A : Type 0} (most n : ℕ) (l : List A) (a z : A) → length l ≡ n → n < most →
    set (padded most l z) n a ≡ padded most (l ++ (a ∷ [])) z
padded-more most n l a z e h =
    let rest = replicate (most - length (l ++ (a ∷ []))) z in
    let left : most - length l ≡ suc (most - length (l ++ (a ∷ []))) = omega (arith, length-append l (a ∷ [])) in
    ap (λ (k : ℕ). set (l ++ replicate k z) n a) left ∙ set_at l z rest a n e ∙ sym (append_assoc l (a ∷ []) rest)

-- the parts of commands, of one more
parts_more : {A : Type 0} (f : Command → A) (cs : List Command) (c : Command) (z : A) → length cs < most_commands →
    set (padded most_commands (map f cs) z) (length cs) (f c) ≡ padded most_commands (map f (cs ++ (c ∷ []))) z
parts_more f cs c z h =
    padded-more most_commands (length cs) (map f cs) (f c) z (length-map cs f) h
    ∙ ap (λ (l : List _). padded most_commands l z) (sym (map-append f cs (c ∷ [])))

one_more : {A : Type 0} (most : ℕ) (l : List A) (a : A) → length l < most →
    (if ltb (length l) most then length l + 1 else length l) ≡ length (l ++ (a ∷ []))
one_more most l a h = rw (lt-ltb (length l) most h) (sym (length-append l (a ∷ [])))

with-command : (ns : List ℕ) (cs : List Command) (c : Command) → length cs < most_commands →
    with_command (rows_with ns cs) c ≡ rows_with ns (cs ++ (c ∷ []))
unfolding with_command rows_with
with-command ns cs c h = λ i. record {
  counts = padded max_routines ns 0;
  devices = parts_more (λ (x : Command). x.device) cs c 0 h i;
  tags = parts_more (λ (x : Command). x.tag) cs c 0 h i;
  settings = parts_more (λ (x : Command). x.setting) cs c (pos 0) h i;
  routines = length ns;
  commands = one_more most_commands cs c h i;
}

with-commands : (ns : List ℕ) (cs r : List Command) → length cs + length r ≤ most_commands →
    with_commands (rows_with ns cs) r ≡ rows_with ns (cs ++ r)
unfolding with_commands
with-commands ns cs [] h = ap (rows_with ns) (sym (append-nil cs))
with-commands ns cs (c ∷ r) h =
    ap (λ (x : Rows). with_commands x r) (with-command ns cs c (omega arith))
    ∙ with-commands ns (cs ++ (c ∷ [])) r (omega (arith, length-append cs (c ∷ [])))
    ∙ ap (rows_with ns) (append_assoc cs (c ∷ []) r)

-- commands in turn: what is left from the i-th on
module _ (r : Rows) (cs : List Command) (i : ℕ) where
  pub commands-step : i < length cs →
      with_commands r (drop i cs) ≡ with_commands (with_command r (get_or cs i zero_command)) (drop (i + 1) cs)
  unfolding with_commands
  commands-step h = rw (drop-cons cs i zero_command h, add-one i)

  pub commands_over : length cs ≤ i → with_commands r (drop i cs) ≡ r
  unfolding with_commands
  commands_over h = rw (drop_of_length-le cs h)

with-count : (ns : List ℕ) (cs : List Command) (n : ℕ) → length ns < max_routines →
    with_count (rows_with ns cs) n ≡ rows_with (ns ++ (n ∷ [])) cs
unfolding with_count rows_with
with-count ns cs n h = λ i. record {
  counts = padded-more max_routines (length ns) ns n 0 refl h i;
  devices = padded most_commands (map (λ (c : Command). c.device) cs) 0;
  tags = padded most_commands (map (λ (c : Command). c.tag) cs) 0;
  settings = padded most_commands (map (λ (c : Command). c.setting) cs) (pos 0);
  routines = one_more max_routines ns n h i;
  commands = length cs;
}

row_more : (rs : List (List Command)) (r : List Command) → row_of rs ++ r ≡ row_of (rs ++ (r ∷ []))
row_more [] r = sym (append-nil r)
row_more (q ∷ rs) r = append_assoc q (row_of rs) r ∙ ap (λ (l : List Command). q ++ l) (row_more rs r)

-- one routine more
with-routine : (rs : List (List Command)) (r : List Command) → length rs < max_routines → length (row_of rs) + length r ≤ most_commands →
    with_routine (rows_of rs) r ≡ rows_of (rs ++ (r ∷ []))
unfolding with_routine
with-routine rs r h k =
    ap (λ (x : Rows). with_count x (length r)) (with-commands (counts_of rs) (row_of rs) r k)
    ∙ with-count (counts_of rs) (row_of rs ++ r) (length r) (omega (arith, length-map rs length))
    ∙ ap₂ rows_with (sym (map-append length rs (r ∷ []))) (row_more rs r)

-- ---- routines that may be written are few and short

pub routines-short : (rs : List (List Command)) (i : ℕ) → routines_check rs ≡ Ok tt → length (get_or rs i []) ≤ max_commands
unfolding routines_check
routines-short [] i e = omega arith
routines-short (r ∷ rs) zero e = (check_accepted book_devices r (both_accept (routine_check book_devices r) _ e).0).1
routines-short (r ∷ rs) (suc i) e = routines-short rs i (both_accept (routine_check book_devices r) _ e).1

row_short : (rs : List (List Command)) (i : ℕ) → routines_check rs ≡ Ok tt → length (row_of (take i rs)) ≤ max_commands * i
unfolding routines_check
row_short rs zero e = omega arith
row_short [] (suc i) e = omega arith
row_short (r ∷ rs) (suc i) e =
    let a = both_accept (routine_check book_devices r) _ e in
    let s = (check_accepted book_devices r a.0).1 in
    let k = row_short rs i a.1 in
    omega (arith, length-append r (row_of (take i rs)))

-- the rows of the first routines, with the next
pub rows_more : (rs : List (List Command)) (i : ℕ) → routines_check rs ≡ Ok tt → i < length rs → i < max_routines →
    with_routine (rows_of (take i rs)) (get_or rs i []) ≡ rows_of (take (i + 1) rs)
rows_more rs i e h k =
    let s = row_short rs i e in
    let t = routines-short rs i e in
    with-routine (take i rs) (get_or rs i []) (omega (arith, length-take i rs)) (omega arith)
    ∙ ap rows_of (sym (ap (λ (n : ℕ). take n rs) (add-one i) ∙ take-suc rs i [] h))

-- ---- a step of reading, where i routines were handed out

pub record CopyStep (b : List ℕ) (at i : ℕ) (rs : List (List Command)) (q : Routine) : Type 0 where
  pub there : i < length rs
  pub same : commands_of q ≡ get_or rs i []
  pub left : Hands b (next_of b at).position (drop (i + 1) rs)

module _ (b : List ℕ) (at i : ℕ) (rs : List (List Command)) where
  stepped : (q : Routine) (l : List (List Command)) → drop i rs ≡ l → Hands b at l → (next_of b at).item ≡ Ok (Some q) →
      CopyStep b at i rs q
  stepped q [] e (ends x) h = let z : ◌≡◌ {A = ℕ} 0 1 = cc in absurd (omega arith)
  stepped q (r ∷ l) e (hands p x y z) h =
      let n = ap length e in
      let s : q ≡ p = cc in
      let d = ap (λ (k : ℕ). drop k rs) (add-one i) ∙ rest-there rs l r i e in
      record {
        there = omega (arith, length-drop i rs);
        same = ap commands_of s ∙ y ∙ sym (first-there rs l r [] i e);
        left = subst (Hands b (next_of b at).position) (sym d) z;
      }

  pub step_handed : (q : Routine) → Hands b at (drop i rs) → (next_of b at).item ≡ Ok (Some q) → CopyStep b at i rs q
  step_handed q = stepped q (drop i rs) refl

  -- the reading has ended
  ended : (l : List (List Command)) → drop i rs ≡ l → Hands b at l → ((q : Routine) → (next_of b at).item ≡ Ok (Some q) → ⊥) → length rs ≤ i
  ended [] e (ends x) h = let n = ap length e in omega (arith, length-drop i rs)
  ended (r ∷ l) e (hands q x y z) h = absurd (h q x)

  pub step_ended : Hands b at (drop i rs) → ((q : Routine) → (next_of b at).item ≡ Ok (Some q) → ⊥) → length rs ≤ i
  step_ended = ended (drop i rs) refl

-- ---- the copy

pub rows_count : (rs : List (List Command)) → (rows_of rs).routines ≡ length rs
unfolding rows_with
rows_count rs = length-map rs length

-- the rows of routines, lent, are these routines
pub rows_lent : (rs : List (List Command)) (r : Rows) → r ≡ rows_of rs →
    routines_lent (take r.routines r.counts) r.devices r.tags r.settings ≡ rs
unfolding rows_with
rows_lent rs r e =
    ap (λ (x : Rows). routines_lent (take x.routines x.counts) x.devices x.tags x.settings) e
    ∙ ap (λ (ns : List ℕ). routines_lent ns (rows_of rs).devices (rows_of rs).tags (rows_of rs).settings)
    (take-append_seam (counts_of rs) _)
    ∙ lent_again rs _ _ _

module _ (b : List ℕ) (rs : List (List Command)) (accepted : book_check b ≡ Ok tt) (makes : Makes rs b) where
  check_same : (room : ℕ) → write_check rs room ≡ copy_check b room
  unfolding write_check copy_check
  check_same room = rw (makes.fine, le-ltb max_routines (length rs) makes.few, makes.book, accepted)

  -- what was read of a book, written, is its copy
  pub written_copied : (room : ℕ) → written_of rs room ≡ copied_of b room
  unfolding written_of copied_of
  written_copied room = ap₂ written_with (check_same room) makes.book

  pub after_copied : (buffer : List ℕ) → buffer_after rs buffer ≡ copy_after b buffer
  unfolding buffer_after copy_after
  after_copied buffer = ap₂ (λ (v : _) (l : List ℕ). buffer_with v l buffer) (check_same (length buffer)) makes.book

-- a book that is turned down
pub refused_copied : (b buffer : List ℕ) (x : Refusal) → book_check b ≡ Err x →
    (Err x ≡ copied_of b (length buffer)) × (buffer ≡ copy_after b buffer)
unfolding copied_of copy_after copy_check
refused_copied b buffer x e = (rw e, rw e)

-- ---- what rows tell of their book

-- rows of an accepted book
pub record Read (b : List ℕ) (r : Rows) : Type 0 where
  pub routines : List (List Command)
  pub accepted : book_check b ≡ Ok tt
  pub makes : Makes routines b
  pub rows : r ≡ rows_of routines

module _ (b : List ℕ) (bytes : Bytes b) (r : Result Rows Refusal) (of : RowsOfBook b r) where
  pub read-refused : (x : Refusal) → r ≡ Err x → book_check b ≡ Err x
  read-refused x e = go (book_check b) refl
    where
      go : (v : Verdict) → book_check b ≡ v → book_check b ≡ Err x
      go (Ok tt) a =
          let w = (read_then_write b bytes).0 a in
          let f = of.accepted w.0 w.1 in
          let z : ◌≡◌ {A = ℕ} 0 1 = cc in absurd (omega arith)
      go (Err y) a = let f = of.refused y a in let s : x ≡ y = cc in a ∙ ap Err (sym s)

  pub read-accepted : (q : Rows) → r ≡ Ok q → Read b q
  read-accepted q e = go (book_check b) refl
    where
      go : (v : Verdict) → book_check b ≡ v → Read b q
      go (Ok tt) a =
          let w = (read_then_write b bytes).0 a in
          let f = of.accepted w.0 w.1 in
          record { routines = w.0; accepted = a; makes = hands_make b bytes w.0 w.1; rows = cc }
      go (Err y) a =
          let f = of.refused y a in
          let z : ◌≡◌ {A = ℕ} 0 1 = cc in absurd (omega arith)
