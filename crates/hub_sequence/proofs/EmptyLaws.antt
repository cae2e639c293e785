-- No slot is taken, and all are free. Assumes nothing.
use Prim.Native.Nat.{ℕ, zero, suc, ◌+◌, ◌≤◌}
use native.Mathlib.Nat.{add-zero}
use native.Mathlib.Omega.{arith}
use mathlib.Core.Path.{◌≡◌, refl, ap, ◌∙◌}
use mathlib.Core.List.{List, [], ◌∷◌}
use lib.ListN.{length}
use Rattle.rules_routine.specs.Limits.{max_sequence}
use Rattle.hub_sequence.specs.Lists.{count}
use Rattle.hub_sequence.specs.Links.{none, behind_of, last, Chain, more, stop, Keeps}
use Rattle.hub_sequence.specs.Contract.{FreeRow, Empty}
use Rattle.hub_sequence.specs.declared.Links.{Links}
use Rattle.hub_sequence.proofs.Tables.{link_end, link_row}
use Rattle.hub_sequence.proofs.Lists.{below, within_below, below_next, below_zero}
use Rattle.hub_sequence.proofs.ReadLaws.{keeps_slots, keeps_valid}

-- n numbers from x on
unfoldable up_from : ℕ → ℕ → List ℕ
up_from x zero = []
up_from x (suc n) = x ∷ up_from (x + 1) n

length_up : (x n : ℕ) → length (up_from x n) ≡ n
unfolding up_from
length_up x zero = refl
length_up x (suc n) = ap suc (length_up (x + 1) n)

count-up : (w x n : ℕ) → count w (up_from x n) + below w x ≡ below w (x + n)
unfolding up_from
count-up w x zero = rw (add-zero x) (omega arith)
count-up w x (suc n) =
    let i = count-up w (x + 1) n in
    let e : x + suc n ≡ x + 1 + n = omega arith in
    rw e (omega (arith, below_next w x))

chain-up : (k : Links) → FreeRow k.behind → (x n : ℕ) → x + n ≡ max_sequence → 1 ≤ n → Chain (behind_of k) x (up_from x n)
unfolding up_from
chain-up k f x zero h i = absurd (omega arith)
chain-up k f x (suc zero) h i =
    more {x = x} {l = []} (stop (link_row k.behind k.first x (λ e. omega arith) ∙ f.ends x (omega arith)))
chain-up k f x (suc (suc n)) h i =
    more {x = x} {l = up_from (x + 1) (suc n)}
    (rw (link_row k.behind k.first x (λ e. omega arith) ∙ f.along x (omega arith))
    (chain-up k f (x + 1) (suc n) (omega arith) (omega arith)))

pub none-taken : (r : Links) → FreeRow r.behind → r.first ≡ none → r.last ≡ none → r.free ≡ 0 → r.taken ≡ 0 → Empty r
none-taken r f a b c d =
    let v : Keeps r [] (up_from 0 max_sequence) =
    record {
      linked = last (link_end _ _ none refl ∙ a) (link_end _ _ none refl ∙ b);
      spare = rw c (chain-up r f 0 max_sequence refl (omega arith));
      once = λ x. omega (arith, count-up x 0 max_sequence, within_below x, below_zero x);
      full = omega (arith, length_up 0 max_sequence);
      counted = d;
    } in
    record { valid = keeps_valid v; slots = keeps_slots v }
