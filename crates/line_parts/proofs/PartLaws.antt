-- Bytes parted at their last byte 10, and what more bytes behind them change. Assumes nothing.
use Rattle.std.proofs.Common.{Option, None}
use mathlib.Core.Path.{◌≡◌, refl, sym, ap, subst, ◌∙◌}
use mathlib.Core.Bool.{Bool}
use mathlib.Core.Logic.{◌⊎◌, inl, inr, ⊎_elim}
use mathlib.Core.List.{List, [], ◌∷◌, ◌++◌, append-nil, append_assoc}
use Prim.Native.Nat.{ℕ, zero, suc, ◌+◌, ◌-◌, ◌≤◌}
use native.Mathlib.Omega.{arith}
use borrow.Author.Tests.{eqb-true, ltb-true, ltb-false}
use lib.Dec.{eqb, ltb}
use lib.ListN.{length, take, drop, length-append}
use lib.Seq.{take_all, append_snoc, take-append_seam, drop-append_seam}
use Rattle.std.specs.Prelude.{if◌then◌else◌}
use Rattle.rules_routine.proofs.RoutineLaws.{by_test}
use Rattle.rules.specs.State.{State}
use Rattle.line_rules.specs.Text.{line_end}
use Rattle.line_rules.specs.Pieces.{reach, pieces_from, pieces, lines_of}
use Rattle.rules_routine.specs.Limits.{max_line}
use Rattle.line_rules.specs.Program.{Printed, before, steps, end_text, run_from, program_text}
use Rattle.line_rules.specs.Claims.{WholeLines, cut}
use Rattle.line_rules.proofs.Parts.{none-behind, reach-append, reach-take, in_parts, whole_in_parts, cut-before_its_end}
use Rattle.line.proofs.Loops.{lines_counted}
use Rattle.line_parts.specs.Parts.{unended_from, unended, whole_lines, after, hub_after, printed_after, pending_after}
use Rattle.line_parts.specs.Claims.{PartedAtTheLastEnd}

-- ---- the last byte 10

-- no byte 10 among these
abbrev pub NoEnd : List ℕ → Type 0
NoEnd bs = reach line_end bs ≡ length bs

-- the bytes before the last byte 10 and those behind it
pub record LastEnd (bs : List ℕ) : Type 0 where
  pub front : List ℕ
  pub back : List ℕ
  pub is : bs ≡ front ++ line_end ∷ back
  pub behind : NoEnd back

parted : (bs : List ℕ) → NoEnd bs ⊎ LastEnd bs
unfolding reach
parted [] = inl refl
parted (b ∷ bs) = go (parted bs)
  where
    go : NoEnd bs ⊎ LastEnd bs → NoEnd (b ∷ bs) ⊎ LastEnd (b ∷ bs)
    go (inr p) =
        inr (record { front = b ∷ p.front; back = p.back; is = ap (λ (l : List ℕ). b ∷ l) p.is; behind = p.behind })
    go (inl e) =
        by_test (λ (t : Bool). ((if t then 0 else suc (reach line_end bs)) ≡ suc (length bs)) ⊎ LastEnd (b ∷ bs)) (eqb b line_end)
        (λ is. inr (record { front = []; back = bs; is = ap (λ (k : ℕ). k ∷ bs) (eqb-true b line_end is); behind = e }))
        (λ _. inl (ap suc e))

from_none : (pending bs : List ℕ) → NoEnd bs → unended_from pending bs ≡ pending ++ bs
unfolding unended_from
from_none pending [] e = sym (append-nil pending)
from_none pending (b ∷ bs) e =
    let n = none-behind line_end b bs e in
    rw n.0 (from_none (pending ++ (b ∷ [])) bs n.1 ∙ append_snoc pending b bs)

from_last : (pending front back : List ℕ) → NoEnd back → unended_from pending (front ++ line_end ∷ back) ≡ back
unfolding unended_from
from_last pending [] back e = from_none [] back e
from_last pending (b ∷ front) back e =
    let all = front ++ line_end ∷ back in
    by_test
    (λ (t : Bool). (if t then unended_from [] all else unended_from (pending ++ (b ∷ [])) all) ≡ back) (eqb b line_end)
    (λ _. from_last [] front back e) (λ _. from_last (pending ++ (b ∷ [])) front back e)

unended-none : (bs : List ℕ) → NoEnd bs → unended bs ≡ bs
unfolding unended
unended-none bs e = from_none [] bs e

unended-last : (front back : List ℕ) → NoEnd back → unended (front ++ line_end ∷ back) ≡ back
unfolding unended
unended-last front back e = from_last [] front back e

pub whole_none : (bs : List ℕ) → NoEnd bs → whole_lines bs ≡ []
unfolding whole_lines
whole_none bs e =
    let n : length bs - length (unended bs) ≡ 0 = let k = ap length (unended-none bs e) in omega arith in
    ap (λ (n : ℕ). take n bs) n

whole_last : (front back : List ℕ) → NoEnd back → whole_lines (front ++ line_end ∷ back) ≡ front ++ line_end ∷ []
unfolding whole_lines
whole_last front back e =
    let all = front ++ line_end ∷ back in
    let some = front ++ line_end ∷ [] in
    let n : length all - length (unended all) ≡ length some =
    omega (arith, ap length (unended-last front back e), length-append front (line_end ∷ back), length-append front (line_end ∷ [])) in
    ap (λ (n : ℕ). take n all) n ∙ ap (take (length some)) (sym (append_snoc front line_end back)) ∙ take-append_seam some back

pub parted_at_the_last_end : PartedAtTheLastEnd
parted_at_the_last_end bs = ⊎_elim
    (λ e. (rw (whole_none bs e, unended-none bs e), inl (whole_none bs e), rw (unended-none bs e) e))
    (λ p.
    let w = whole_last p.front p.back p.behind in
    let u = unended-last p.front p.back p.behind in
    rw p.is (rw (w, u) (append_snoc p.front line_end p.back), inr (p.front, w), rw u p.behind))
    (parted bs)

-- whole lines, and then bytes without a byte 10: so bytes are parted
pub parted_so : (whole line : List ℕ) → WholeLines whole → NoEnd line →
    (whole_lines (whole ++ line) ≡ whole) × (unended (whole ++ line) ≡ line)
parted_so whole line (inl w) e = rw w (whole_none line e, unended-none line e)
parted_so whole line (inr (front, w)) e = rw (w, append_snoc front line_end line) (whole_last front line e, unended-last front line e)

-- the whole lines are the first bytes, and the line whose end has not come is the others
pub whole_first : (bs : List ℕ) → take (length (whole_lines bs)) bs ≡ whole_lines bs
whole_first bs =
    let p = parted_at_the_last_end bs in
    ap (take (length (whole_lines bs))) (sym p.0) ∙ take-append_seam (whole_lines bs) (unended bs)

pub unended-others : (bs : List ℕ) → drop (length (whole_lines bs)) bs ≡ unended bs
unended-others bs =
    let p = parted_at_the_last_end bs in
    ap (drop (length (whole_lines bs))) (sym p.0) ∙ drop-append_seam (whole_lines bs) (unended bs)

pub whole_within : (bs : List ℕ) → length (whole_lines bs) ≤ length bs
whole_within bs =
    let p = parted_at_the_last_end bs in
    omega (arith, ap length p.0, length-append (whole_lines bs) (unended bs))

-- ---- more bytes

whole_then : (a b : List ℕ) → WholeLines a → WholeLines b → WholeLines (a ++ b)
whole_then a b w (inl e) = rw (e, append-nil a) w
whole_then a b w (inr (front, e)) = inr (a ++ front, ap (λ (l : List ℕ). a ++ l) e ∙ sym (append_assoc a front (line_end ∷ [])))

module _ (read part : List ℕ) where
  abbrev line : List ℕ
  line = unended read ++ part

  parted_more : (whole_lines (read ++ part) ≡ whole_lines read ++ whole_lines line) × (unended (read ++ part) ≡ unended line)
  parted_more =
      let p = parted_at_the_last_end read in
      let q = parted_at_the_last_end line in
      let all : (whole_lines read ++ whole_lines line) ++ unended line ≡ read ++ part =
      append_assoc (whole_lines read) (whole_lines line) (unended line) ∙ ap (λ (l : List ℕ). whole_lines read ++ l) q.0
      ∙ sym (append_assoc (whole_lines read) (unended read) part) ∙ ap (λ (l : List ℕ). l ++ part) p.0 in
      subst (λ (l : List ℕ). (whole_lines l ≡ whole_lines read ++ whole_lines line) × (unended l ≡ unended line)) all
      (parted_so (whole_lines read ++ whole_lines line) (unended line) (whole_then (whole_lines read) (whole_lines line) p.1 q.1) q.2)

-- ---- a line that is cut before its end

-- a line that is not too long is not cut
cut_short : (line : List ℕ) → length line ≤ max_line → cut line ≡ line
cut_short line h = take_all (suc max_line) line (omega arith)

take_again : (n : ℕ) (l m : List ℕ) → take n (take n l ++ m) ≡ take n (l ++ m)
take_again zero l m = refl
take_again (suc n) [] m = refl
take_again (suc n) (b ∷ l) m = ap (λ (k : List ℕ). b ∷ k) (take_again n l m)

module _ (line : List ℕ) (no_end : NoEnd line) where
  -- what lines print of it and of all behind it stays the same, and so does the hub
  steps-cut : (h : Option State) (behind : List ℕ) → steps h (lines_of (cut line ++ behind)) ≡ steps h (lines_of (line ++ behind))
  steps-cut h behind =
      by_test (λ (_ : Bool). steps h (lines_of (cut line ++ behind)) ≡ steps h (lines_of (line ++ behind))) (ltb max_line (length line))
      (λ e. cut-before_its_end h line behind no_end (ltb-true max_line (length line) e))
      (λ e. rw (cut_short line (ltb-false max_line (length line) e)))

  cut_no_end : NoEnd (cut line)
  cut_no_end = reach-take line_end (suc max_line) line no_end

  more_no_end : (l part : List ℕ) → NoEnd l → NoEnd part → NoEnd (l ++ part)
  more_no_end l part e f = reach-append line_end l part e ∙ ap (λ (n : ℕ). length l + n) f ∙ sym (length-append l part)

  module _ (part : List ℕ) where
    -- the whole lines print the same
    whole_cut : (h : Option State) → steps h (lines_of (whole_lines (cut line ++ part))) ≡ steps h (lines_of (whole_lines (line ++ part)))
    whole_cut h = ⊎_elim
        (λ e.
        let short = whole_none (cut line ++ part) (more_no_end (cut line) part cut_no_end e) in
        let long = whole_none (line ++ part) (more_no_end line part no_end e) in
        rw (short, long))
        (λ p.
        let end = p.front ++ line_end ∷ [] in
        let printed : List ℕ → Printed = λ l. steps h (lines_of l) in
        let so : (l : List ℕ) → whole_lines (l ++ part) ≡ l ++ end =
        λ l. ap whole_lines (ap (λ (k : List ℕ). l ++ k) p.is ∙ sym (append_assoc l p.front (line_end ∷ p.back)))
        ∙ whole_last (l ++ p.front) p.back p.behind ∙ append_assoc l p.front (line_end ∷ []) in
        ap printed (so (cut line)) ∙ steps-cut h end ∙ sym (ap printed (so line)))
        (parted part)

    -- and the same is pending
    pending_cut : cut (unended (cut line ++ part)) ≡ cut (unended (line ++ part))
    pending_cut = ⊎_elim
        (λ e.
        ap cut (unended-none (cut line ++ part) (more_no_end (cut line) part cut_no_end e))
        ∙ take_again (suc max_line) line part ∙ sym (ap cut (unended-none (line ++ part) (more_no_end line part no_end e))))
        (λ p.
        let so : (l : List ℕ) → unended (l ++ part) ≡ p.back =
        λ l. ap unended (ap (λ (k : List ℕ). l ++ k) p.is ∙ sym (append_assoc l p.front (line_end ∷ p.back)))
        ∙ unended-last (l ++ p.front) p.back p.behind in
        ap cut (so (cut line) ∙ sym (so line)))
        (parted part)

-- ---- a part behind all bytes read so far, and the end of the input

module _ (read : List ℕ) where
  none_pending : NoEnd (unended read)
  none_pending = (parted_at_the_last_end read).2

  pub after_more : (part : List ℕ) →
      after (read ++ part) ≡ before (printed_after read) (steps (hub_after read) (lines_of (whole_lines (pending_after read ++ part))))
  unfolding after
  after_more part =
      ap (λ (l : List ℕ). steps None (lines_of l)) (parted_more read part).0
      ∙ in_parts None (whole_lines read) (whole_lines (unended read ++ part)) (parted_at_the_last_end read).1
      ∙ ap (before (printed_after read)) (sym (whole_cut (unended read) none_pending part (hub_after read)))

  pub pending_more : (part : List ℕ) → pending_after (read ++ part) ≡ cut (unended (pending_after read ++ part))
  pending_more part = ap cut (parted_more read part).1 ∙ sym (pending_cut (unended read) none_pending part)

  run_cut : (h : Option State) → run_from h (cut (unended read)) ≡ run_from h (unended read)
  unfolding run_from
  run_cut h =
      let line = unended read in
      let printed : List ℕ → Printed = λ l. steps h (lines_of l) in
      let same : printed (cut line) ≡ printed line =
      ap printed (sym (append-nil (cut line))) ∙ steps-cut line none_pending h [] ∙ ap printed (append-nil line) in
      ap (λ (p : Printed). record { hub = p.hub; text = p.text ++ end_text p.hub }) same

  pub whole_text : program_text read ≡ printed_after read ++ (run_from (hub_after read) (pending_after read)).text
  unfolding program_text after
  whole_text =
      let p = parted_at_the_last_end read in
      let w : run_from None read ≡ before (printed_after read) (run_from (hub_after read) (unended read)) =
      ap (run_from None) (sym p.0) ∙ whole_in_parts None (whole_lines read) (unended read) p.1 in
      ap (λ (q : Printed). q.text) w ∙ ap (λ (q : Printed). printed_after read ++ q.text) (sym (run_cut (hub_after read)))

-- ---- how many lines there are

pieces-few : (byte : ℕ) (pending bs : List ℕ) → length (pieces_from byte pending bs) ≤ suc (length bs)
unfolding pieces_from
pieces-few byte pending [] = omega arith
pieces-few byte pending (b ∷ bs) =
    by_test
    (λ (t : Bool). length (if t then pending ∷ pieces_from byte [] bs else pieces_from byte (pending ++ (b ∷ [])) bs) ≤ suc (suc (length bs)))
    (eqb b byte) (λ _. let k = pieces-few byte [] bs in omega arith) (λ _. let k = pieces-few byte (pending ++ (b ∷ [])) bs in omega arith)

pub lines_few : (bs : List ℕ) → length (lines_of bs) ≤ suc (length bs)
unfolding pieces
lines_few bs = omega (arith, lines_counted bs, pieces-few line_end [] bs)
