-- The reader checks the whole book first, then hands out routine by routine, then the end: `routine_by_routine`. Assumes nothing.
use Rattle.std.proofs.Common.{Option, Some, None, Result, Ok, Err}
use Rattle.rules_routine.specs.Refusals.{Verdict}
use mathlib.Core.Path.{◌≡◌, refl, sym, ap, subst, ◌∙◌}
use mathlib.Core.Bool.{Bool, true, false, ◌&&◌}
use mathlib.Core.List.{List, [], ◌∷◌}
use native.Mathlib.Omega.{arith}
use Prim.Native.Nat.{ℕ, zero, suc, ◌%◌, ◌<◌, ◌≤◌}
use lib.Dec.{ltb, eqb}
use lib.ListN.{length, get_or}
use denote.Ref.{Bor}
use Rattle.std.specs.Prelude.{if◌then◌else◌}
use Rattle.rules_routine.specs.declared.Command.{Command}
use Rattle.rules_routine.specs.declared.Routine.{Routine}
use Rattle.rules_routine.specs.declared.refusals.Refusal.{Refusal}
use Rattle.book_layout.specs.Claims.{Hands, ends, hands}
use Rattle.book_layout.specs.Layout.{count_size, pair_size, pairs_end, count-of}
use Rattle.book_layout.specs.Reading.{book_check, end_at, pair_next, turns_down, next_of}
use Rattle.book_layout.specs.declared.Next.{Next}
use Rattle.book_layout.proofs.LayoutLaws.{next-first, next-later, next-refused}
use Rattle.book_read.specs.Reader.{Advanced, HandsOut, RoutineByRoutine}
use Rattle.book_read.specs.declared.reader.BookReader.{BookReader}

abbrev item : Next → Result (Option Routine) Refusal
item s = s.item

-- ---- after the end comes the end

if_ends : (t : Bool) (x y : Next) (q : Routine) → x.item ≡ Ok (Some q) → (if t then x else y).item ≡ Ok None → (if t then x else y) ≡ y
if_ends true x y q h e = let z : ◌≡◌ {A = ℕ} 0 1 = cc in absurd (omega arith)
if_ends false x y q h e = refl

pair_ends : (b : List ℕ) (at : ℕ) → (pair_next b at).item ≡ Ok None → pair_next b at ≡ end_at at
unfolding pair_next
pair_ends b at e =
    if_ends (ltb at (pairs_end (count-of b)) && eqb (at % pair_size) count_size) _ _ _ refl e

later-ends : (b : List ℕ) → book_check b ≡ Ok tt → (at : ℕ) → (at ≡ 0 → ⊥) → (next_of b at).item ≡ Ok None →
    (next_of b (next_of b at).position).item ≡ Ok None
later-ends b c at n e =
    let f = next-later b c at n in
    ap (λ (p : ℕ). (next_of b p).item) (ap (λ (s : Next). s.position) (f ∙ pair_ends b at (sym (ap item f) ∙ e))) ∙ e

ends_by : (b : List ℕ) (v : Verdict) → book_check b ≡ v → (at : ℕ) → (next_of b at).item ≡ Ok None →
    (next_of b (next_of b at).position).item ≡ Ok None
ends_by b (Ok tt) c zero e =
    let f : next_of b 0 ≡ next_of b count_size = next-first b c ∙ sym (next-later b c count_size (λ z. omega arith)) in
    subst (λ (s : Next). (next_of b s.position).item ≡ Ok None) (sym f) (later-ends b c count_size (λ z. omega arith) (sym (ap item f) ∙ e))
ends_by b (Ok tt) c (suc at) e = later-ends b c (suc at) (λ z. omega arith) e
ends_by b (Err r) c at e = let f = ap item (next-refused b r c at) in let z : ◌≡◌ {A = ℕ} 0 1 = cc in absurd (omega arith)

ends-again : (b : List ℕ) (at : ℕ) → (next_of b at).item ≡ Ok None → (next_of b (next_of b at).position).item ≡ Ok None
ends-again b at e = ends_by b (book_check b) refl at e

-- ---- the steps of a reader

module _ (book : Bor (List ℕ)) where
  -- A step of a reader that holds this book.
  step_is : (before after : BookReader) (s : Next) → before.book ≡ book → Advanced before after s →
      s ≡ next_of book.now before.position
  step_is before after s e a = a.read ∙ ap (λ (c : Bor (List ℕ)). next_of c.now before.position) e

  -- A refused book is turned down at each step.
  turned-down : (r : Refusal) → book_check book.now ≡ Err r → (k : ℕ) (reader : ℕ → BookReader) (step : ℕ → Next) →
      (reader 0).book ≡ book → ((i : ℕ) → i ≤ k → Advanced (reader i) (reader (suc i)) (step i)) → step k ≡ turns_down r
  turned-down r e zero reader step h c = step_is _ _ _ h (c 0 (omega arith)) ∙ next-refused book.now r e (reader 0).position
  turned-down r e (suc k) reader step h c =
      turned-down r e k (λ i. reader (suc i)) (λ i. step (suc i)) ((c 0 (omega arith)).same_book ∙ h) (λ i l. c (suc i) (omega arith))

  -- From a position these routines are handed out: so they are by the steps of a reader there.
  hands_out : (k : ℕ) (rs : List (List Command)) (reader : ℕ → BookReader) (step : ℕ → Next) → (reader 0).book ≡ book →
      ((i : ℕ) → i ≤ k → Advanced (reader i) (reader (suc i)) (step i)) → Hands book.now (reader 0).position rs →
      (k < length rs → HandsOut (step k) (get_or rs k [])) × (length rs ≤ k → (step k).item ≡ Ok None)
  hands_out zero [] reader step e c (ends x) = (λ l. absurd (omega arith), λ l. ap item (step_is _ _ _ e (c 0 (omega arith))) ∙ x)
  hands_out zero (r ∷ rs) reader step e c (hands q x y z) =
      let s = step_is _ _ _ e (c 0 (omega arith)) in
      (λ l. record { routine = q; handed = ap item s ∙ x; same = y }, λ l. absurd (omega arith))
  hands_out (suc k) [] reader step e c (ends x) =
      let a = c 0 (omega arith) in
      let p = a.moved_on ∙ ap (λ (u : Next). u.position) (step_is _ _ _ e a) in
      let on = hands_out k [] (λ i. reader (suc i)) (λ i. step (suc i)) (a.same_book ∙ e) (λ i l. c (suc i) (omega arith))
      (ends (ap (λ (q : ℕ). (next_of book.now q).item) p ∙ ends-again book.now (reader 0).position x)) in
      (λ l. absurd (omega arith), λ l. on.1 (omega arith))
  hands_out (suc k) (r ∷ rs) reader step e c (hands q x y z) =
      let a = c 0 (omega arith) in
      let p = a.moved_on ∙ ap (λ (u : Next). u.position) (step_is _ _ _ e a) in
      let on = hands_out k rs (λ i. reader (suc i)) (λ i. step (suc i)) (a.same_book ∙ e) (λ i l. c (suc i) (omega arith))
      (subst (λ (at : ℕ). Hands book.now at rs) (sym p) z) in
      (λ l. on.0 (omega arith), λ l. on.1 (omega arith))

pub routine_by_routine : RoutineByRoutine
routine_by_routine book n reader step c = record {
  refused = λ r e k l. turned-down book r e k reader step c.started.holds (λ i h. c.advanced i (omega arith));
  accepted = λ rs e h k l.
      hands_out book k rs reader step c.started.holds (λ i m. c.advanced i (omega arith))
      (subst (λ (q : ℕ). Hands book.now q rs) (sym c.started.beginning) h);
}
