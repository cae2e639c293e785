-- Pieces one at a time: the first reaches to the first parting byte, and the others are the pieces of what follows it. Assumes nothing.
use mathlib.Core.Path.{◌≡◌, refl, sym, ap, ◌∙◌}
use mathlib.Core.Bool.{Bool, true, false}
use mathlib.Core.List.{List, [], ◌∷◌, ◌++◌, append-nil}
use Prim.Native.Nat.{ℕ, suc, ◌+◌, ◌-◌, ◌≤◌, ◌<◌}
use native.Mathlib.Omega.{arith}
use borrow.Author.Tests.{ltb-true, ltb-false, lt-ltb, le-ltb}
use lib.Dec.{ltb, eqb, leb-suc-suc}
use lib.ListN.{length, take, drop, length-drop, drop_of_length-le}
use lib.Seq.{append_snoc, drop-drop, take_all}
use Rattle.std.specs.Prelude.{if◌then◌else◌}
use Rattle.rules_routine.proofs.RoutineLaws.{by_test}
use Rattle.line_rules.specs.Text.{line_end}
use Rattle.line_rules.specs.Pieces.{pieces_from, pieces, reach, without_empty_last, lines_of}

-- what is behind some bytes and one more, from a place on
pub drop-behind : (bs : List ℕ) (at n : ℕ) → drop (suc n) (drop at bs) ≡ drop (suc (at + n)) bs
drop-behind bs at n = let e : at + suc n ≡ suc (at + n) = omega arith in drop-drop (suc n) at bs ∙ ap (λ (k : ℕ). drop k bs) e

-- a piece reaches no further than the bytes do
pub reach-within : (byte : ℕ) (bs : List ℕ) → reach byte bs ≤ length bs
unfolding reach
reach-within byte [] = omega arith
reach-within byte (b ∷ bs) =
    let more = reach-within byte bs in
    by_test (λ (t : Bool). (if t then 0 else suc (reach byte bs)) ≤ suc (length bs)) (eqb b byte) (λ _. omega arith) (λ _. omega arith)

-- the pieces of bytes behind those met so far, if the first reaches so far
cut : ℕ → List ℕ → List ℕ → ℕ → List (List ℕ)
cut byte so_far bs r = if ltb r (length bs) then (so_far ++ take r bs) ∷ pieces byte (drop (suc r) bs) else (so_far ++ bs) ∷ []

cut-none : (byte : ℕ) (so_far : List ℕ) (b : ℕ) (bs : List ℕ) → cut byte so_far (b ∷ bs) 0 ≡ so_far ∷ pieces byte bs
unfolding cut
cut-none byte so_far b bs = rw (lt-ltb 0 (suc (length bs)) (omega arith), append-nil so_far)

cut-more : (byte : ℕ) (so_far : List ℕ) (b : ℕ) (bs : List ℕ) (r : ℕ) → cut byte (so_far ++ (b ∷ [])) bs r ≡ cut byte so_far (b ∷ bs) (suc r)
unfolding cut
cut-more byte so_far b bs r = rw (leb-suc-suc (suc r) (length bs), append_snoc so_far b (take r bs), append_snoc so_far b bs)

from_reach : (byte : ℕ) (so_far bs : List ℕ) → pieces_from byte so_far bs ≡ cut byte so_far bs (reach byte bs)
unfolding pieces_from pieces reach cut
from_reach byte so_far [] = ap (λ (l : List ℕ). l ∷ []) (sym (append-nil so_far))
from_reach byte so_far (b ∷ bs) =
    by_test
    (λ (t : Bool). (if t then so_far ∷ pieces_from byte [] bs else pieces_from byte (so_far ++ (b ∷ [])) bs)
    ≡ cut byte so_far (b ∷ bs) (if t then 0 else suc (reach byte bs)))
    (eqb b byte) (λ _. sym (cut-none byte so_far b bs))
    (λ _. from_reach byte (so_far ++ (b ∷ [])) bs ∙ cut-more byte so_far b bs (reach byte bs))

pub pieces-reach : (byte : ℕ) (bs : List ℕ) →
    pieces byte bs ≡
    (if ltb (reach byte bs) (length bs) then take (reach byte bs) bs ∷ pieces byte (drop (suc (reach byte bs)) bs) else bs ∷ [])
unfolding pieces cut
pieces-reach byte bs = from_reach byte [] bs

-- the law's two sides
pub pieces_parted : (byte : ℕ) (bs : List ℕ) → reach byte bs < length bs →
    pieces byte bs ≡ take (reach byte bs) bs ∷ pieces byte (drop (suc (reach byte bs)) bs)
pieces_parted byte bs h = rw (pieces-reach byte bs, lt-ltb (reach byte bs) (length bs) h)

pub pieces-one : (byte : ℕ) (bs : List ℕ) → length bs ≤ reach byte bs → pieces byte bs ≡ bs ∷ []
pieces-one byte bs h = rw (pieces-reach byte bs, le-ltb (reach byte bs) (length bs) h)

-- ---- lines

-- no last line is taken away before there are others
pub without_more : (l : List ℕ) (byte : ℕ) (bs : List ℕ) → without_empty_last (l ∷ pieces byte bs) ≡ l ∷ without_empty_last (pieces byte bs)
unfolding without_empty_last
without_more l byte bs =
    rw (pieces-reach byte bs)
    (by_test
    (λ (t : Bool). without_empty_last (l ∷ (if t then take (reach byte bs) bs ∷ pieces byte (drop (suc (reach byte bs)) bs) else bs ∷ []))
    ≡ l ∷ without_empty_last (if t then take (reach byte bs) bs ∷ pieces byte (drop (suc (reach byte bs)) bs) else bs ∷ []))
    (ltb (reach byte bs) (length bs)) (λ _. refl) (λ _. refl))

-- a last line of some bytes stays
without-last : (l : List ℕ) → 0 < length l → without_empty_last (l ∷ []) ≡ l ∷ []
unfolding without_empty_last
without-last [] h = absurd (omega arith)
without-last (b ∷ bs) h = refl

pub lines_none : (input : List ℕ) (from : ℕ) → length input ≤ from → lines_of (drop from input) ≡ []
unfolding lines_of without_empty_last pieces pieces_from
lines_none input from h = rw (drop_of_length-le input h)

lines_parted : (bs : List ℕ) → reach line_end bs < length bs →
    lines_of bs ≡ take (reach line_end bs) bs ∷ lines_of (drop (suc (reach line_end bs)) bs)
unfolding lines_of
lines_parted bs h =
    ap without_empty_last (pieces_parted line_end bs h) ∙ without_more (take (reach line_end bs) bs) line_end (drop (suc (reach line_end bs)) bs)

lines_last : (bs : List ℕ) → 0 < length bs → length bs ≤ reach line_end bs → lines_of bs ≡ bs ∷ []
unfolding lines_of
lines_last bs h k = ap without_empty_last (pieces-one line_end bs k) ∙ without-last bs h

pub lines_first : (input : List ℕ) (from : ℕ) → from < length input →
    lines_of (drop from input) ≡ take (reach line_end (drop from input)) (drop from input) ∷ lines_of
    (drop (suc (from + reach line_end (drop from input))) input)
lines_first input from h = go (ltb r (length bs)) refl
  where
    bs : List ℕ
    bs = drop from input

    r : ℕ
    r = reach line_end bs

    left : length bs ≡ length input - from
    left = length-drop from input

    go : (t : Bool) → ltb r (length bs) ≡ t → lines_of bs ≡ take r bs ∷ lines_of (drop (suc (from + r)) input)
    go true e = lines_parted bs (ltb-true r (length bs) e) ∙ ap (λ (l : List ℕ). take r bs ∷ lines_of l) (drop-behind input from r)
    go false e =
        let past = ltb-false r (length bs) e in
        lines_last bs (omega (arith, left)) past ∙ (rw (take_all r bs past, lines_none input (suc (from + r)) (omega (arith, left))))
