-- Each refusal of writing is given exactly under its cause: `exact_writing` of specs/WritingCauses.antt. Assumes nothing.
use Rattle.std.proofs.Common.{Ok, Err}
use Rattle.rules_routine.specs.Refusals.{Verdict}
use mathlib.Core.Path.{◌≡◌, refl, sym, ap, subst, ◌∙◌}
use mathlib.Core.List.{List, [], ◌∷◌}
use Prim.Native.Nat.{ℕ, suc, ◌+◌, ◌<◌}
use native.Mathlib.Omega.{arith}
use lib.ListN.{length}
use Rattle.rules_routine.specs.Causes.{RoutineCause}
use Rattle.rules_routine.specs.declared.Command.{Command}
use Rattle.rules_routine.specs.declared.refusals.Refusal.{Refusal}
use Rattle.rules_routine.proofs.Exact.{less, either, Outcome, none, one, join, exactly, renamed, routine-outcome}
use Rattle.rules_routine.specs.Limits.{max_routines}
use Rattle.book_layout.specs.Layout.{book_devices, book_bytes}
use Rattle.book_layout.specs.Writing.{routines_check, write_check, written_with, written_of, buffer_with, buffer_after}
use Rattle.book_layout.specs.WritingCauses.{of_routine, of_room, write_cause_of, routine_no, WritingCause, routines_tests}
use Rattle.book_layout.specs.WritingCauses.{write_tests}
use Rattle.book_layout.specs.WritingCauses.{ExactWriting}

module _ (rs : List (List Command)) (room : ℕ) where
  -- the routines from the j-th on
  record Rest (j : ℕ) (rest : List (List Command)) : Type 0 where
    counted : length rs ≡ j + length rest
    each : (k : ℕ) → routine_no (j + k) rs ≡ routine_no k rest

  whole : Rest 0 rs
  whole = record { counted = omega arith; each = λ k. let e : 0 + k ≡ k = omega arith in ap (λ (n : ℕ). routine_no n rs) e }

  next-rest : {j : ℕ} {r : List Command} {rest : List (List Command)} → Rest j (r ∷ rest) → Rest (suc j) rest
  next-rest {j = j} {r = r} {rest = rest} h =
      record {
        counted = let e = h.counted in omega arith;
        each = λ k. let e : suc j + k ≡ j + suc k = omega arith in ap (λ (n : ℕ). routine_no n rs) e ∙ h.each (suc k);
      }

  first_rest : {j : ℕ} {r : List Command} {rest : List (List Command)} → Rest j (r ∷ rest) → routine_no j rs ≡ r
  first_rest {j = j} h = let e : j ≡ j + 0 = omega arith in ap (λ (n : ℕ). routine_no n rs) e ∙ h.each 0

  routines-outcome : (j : ℕ) (rest : List (List Command)) → Rest j rest →
      Outcome (WritingCause rs room) write_cause_of (routines_tests j (length rest)) (routines_check rest)
  unfolding routines_check
  routines-outcome j [] h = none
  routines-outcome j (r ∷ rest) h =
      let H = WritingCause rs room in
      let there : j < length rs = let e = h.counted in omega arith in
      let at = first_rest h in
      let R = RoutineCause book_devices in
      join H write_cause_of
      (renamed (R r) H write_cause_of (of_routine j) (λ c. refl)
      (λ c x. (there, subst (λ (k : List Command). R k c) (sym at) x))
      (λ c y. subst (λ (k : List Command). R k c) at y.1)
      (routine-outcome book_devices r))
      (λ _. routines-outcome (suc j) rest (next-rest h))

  write_outcome : Outcome (WritingCause rs room) write_cause_of (write_tests rs) (write_check rs room)
  unfolding write_check
  write_outcome =
      let H = WritingCause rs room in
      join H write_cause_of (routines-outcome 0 rs whole)
      (λ _. one H write_cause_of of_room _ (either _ _ (less max_routines (length rs)) (less room (length (book_bytes rs)))))

-- the answer says the same as the verdict
refused-written : (v : Verdict) (book : List ℕ) (r : Refusal) → written_with v book ≡ Err r → v ≡ Err r
refused-written (Ok tt) book r e = let z : ◌≡◌ {A = ℕ} 0 1 = cc in absurd (omega arith)
refused-written (Err x) book r e = let f : x ≡ r = cc in ap Err f

accepted-written : (v : Verdict) (book : List ℕ) → written_with v book ≡ Ok (length book) → v ≡ Ok tt
accepted-written (Ok tt) book e = refl
accepted-written (Err x) book e = let z : ◌≡◌ {A = ℕ} 0 1 = cc in absurd (omega arith)

pub exact_writing : ExactWriting
unfolding written_of buffer_after
exact_writing rs before after answer told left =
    let v = write_check rs (length before) in
    let book = book_bytes rs in
    record {
      exact = exactly (WritingCause rs (length before)) write_cause_of (write_tests rs) v (write_outcome rs (length before))
          (λ r e. refused-written v book r (sym told ∙ e)) (λ r e. told ∙ ap (λ (x : Verdict). written_with x book) e)
          (λ e. accepted-written v book (sym told ∙ e)) (λ e. told ∙ ap (λ (x : Verdict). written_with x book) e);
      left_as_it_was = λ r e. left ∙ ap (λ (x : Verdict). buffer_with x book before) (refused-written v book r (sym told ∙ e));
    }
