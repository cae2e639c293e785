-- The loops of the code: the search for the last byte 10, and the bytes that are moved to the front. Assumes nothing.
use mathlib.Core.Path.{◌≡◌, sym, ap, ◌∙◌}
use mathlib.Core.Bool.{Bool}
use mathlib.Core.Logic.{◌≢◌, inr}
use mathlib.Core.List.{List, [], ◌∷◌, ◌++◌}
use Prim.Native.Nat.{ℕ, zero, suc, ◌+◌, ◌-◌, ◌<◌, ◌≤◌, min}
use native.Mathlib.Omega.{arith}
use borrow.Author.Tests.{ne_eqb, ltb-true, ltb-false}
use lib.Dec.{ltb}
use lib.ListN.{length, take, drop, get_or, length-take, length-drop, take-append-drop}
use lib.Seq.{length-take-le, take_all, drop-length, take-suc, drop-cons}
use lib.Seq.{take-take, paste}
use Rattle.std.specs.List.{copy_within}
use Rattle.std.proofs.lemmas.List.{drop-take}
use Rattle.std.proofs.lemmas.List.Edits.{take-paste}
use Rattle.rules_routine.proofs.RoutineLaws.{by_test}
use Rattle.line_rules.specs.Text.{line_end}
use Rattle.line_rules.specs.Pieces.{reach}
use Rattle.rules_routine.specs.Limits.{max_line}
use Rattle.line_rules.specs.Claims.{cut}
use Rattle.line_parts.specs.Parts.{whole_lines}
use Rattle.line_parts.proofs.PartLaws.{NoEnd, whole_none, parted_so}

-- ---- the search for the last byte 10

-- behind the end there is none
pub none_at_end : (bs : List ℕ) → NoEnd (drop (length bs) bs)
unfolding reach
none_at_end bs = rw (drop-length bs)

-- here is none
pub none_before : (bs : List ℕ) (at : ℕ) → 0 < at → at ≤ length bs → get_or bs (at - 1) 0 ≢ line_end → NoEnd (drop at bs) →
    NoEnd (drop (at - 1) bs)
unfolding reach
none_before bs zero some h e clear = absurd (omega arith)
none_before bs (suc at) some h e clear =
    let n : suc at - 1 ≡ at = omega arith in
    let other = ne_eqb (get_or bs at 0) line_end (λ (is : get_or bs at 0 ≡ line_end). e (ap (λ (k : ℕ). get_or bs k 0) n ∙ is)) in
    rw (n, drop-cons bs at 0 (omega arith), other) (ap suc clear)

-- here is the last
pub last-here : (bs : List ℕ) (at : ℕ) → 0 < at → at ≤ length bs → get_or bs (at - 1) 0 ≡ line_end → NoEnd (drop at bs) →
    at ≡ length (whole_lines bs)
last-here bs zero some h e clear = absurd (omega arith)
last-here bs (suc at) some h e clear =
    let n : at ≡ suc at - 1 = omega arith in
    let whole : take (suc at) bs ≡ take at bs ++ line_end ∷ [] =
    take-suc bs at 0 (omega arith) ∙ ap (λ (b : ℕ). take at bs ++ b ∷ []) (ap (λ (k : ℕ). get_or bs k 0) n ∙ e) in
    let p = parted_so (take (suc at) bs) (drop (suc at) bs) (inr (take at bs, whole)) clear in
    let is : whole_lines bs ≡ take (suc at) bs = ap whole_lines (sym (take-append-drop (suc at) bs)) ∙ p.0 in
    sym (ap length is ∙ length-take-le (suc at) bs h)

-- there is none
pub none_here : (bs : List ℕ) (at : ℕ) → at ≤ 0 → NoEnd (drop at bs) → 0 ≡ length (whole_lines bs)
none_here bs zero h clear = sym (ap length (whole_none bs clear))
none_here bs (suc at) h clear = absurd (omega arith)

-- ---- bytes moved to the front

take_least : (a b : ℕ) (l : List ℕ) → take a (take b l) ≡ take (min b a) l
take_least a b l =
    by_test (λ (_ : Bool). take a (take b l) ≡ take (min b a) l) (ltb b a)
    (λ e.
    let h = ltb-true b a e in
    let m : b ≡ min b a = omega arith in
    take_all a (take b l) (omega (arith, length-take b l)) ∙ ap (λ (k : ℕ). take k l) m)
    (λ e.
    let h = ltb-false b a e in
    let m : a ≡ min b a = omega arith in
    take-take a b l h ∙ ap (λ (k : ℕ). take k l) m)

-- all that are pending
pub all_moved : (now first : List ℕ) (from filled kept : ℕ) → from ≤ filled → filled ≤ length first → kept ≡ min (filled - from) (suc max_line) →
    now ≡ copy_within first from (from + kept) 0 → take kept now ≡ cut (drop from (take filled first))
all_moved now first from filled kept h k least moved =
    let behind = drop from first in
    let n : from + kept - from ≡ 0 + kept = omega arith in
    let m : kept ≡ 0 + kept = omega arith in
    let whole : from + (filled - from) ≡ filled = omega arith in
    ap (take kept) moved ∙ (λ i. take (m i) (paste first 0 behind (n i)))
    ∙ ap (λ (j : ℕ). take (0 + kept) (paste first 0 behind j)) (sym m)
    ∙ take-paste first 0 behind kept (omega arith) (omega (arith, length-drop from first))
    ∙ ap (λ (j : ℕ). take j behind) least
    ∙ sym (
    ap (λ (j : ℕ). cut (drop from (take j first))) (sym whole) ∙ ap cut (drop-take from (filled - from) first)
    ∙ take_least (suc max_line) (filled - from) behind
    )
