-- Bytes stored in turn: copied from a text, and the digits of a number from the last to the first. Assumes nothing.
use mathlib.Core.Path.{◌≡◌, refl, sym, ap, ap₂, ◌∙◌}
use mathlib.Core.Bool.{Bool}
use mathlib.Core.List.{List, [], ◌∷◌, ◌++◌, append_assoc}
use Prim.Native.Nat.{ℕ, zero, suc, ◌+◌, ◌-◌, ◌/◌, ◌%◌, ◌^◌, ◌≤◌, ◌<◌, min}
use native.Mathlib.Nat.{pow-suc, one-le-pow}
use native.Mathlib.Numerals.{add-one}
use native.Mathlib.Omega.{arith}
use borrow.Author.Tests.{ltb-true, ltb-false}
use lib.Dec.{ltb}
use lib.ListN.{length, take, drop, get_or, set, length-append, take-append-drop}
use lib.Seq.{sets, set_comm, set_out, take-suc, take_all, length-take-le, length-sets, sets-eq, drop-drop}
use Rattle.rules_routine.proofs.RoutineLaws.{by_test, sets_append}
use Rattle.line_rules.specs.Text.{digit0, decimal}
use Rattle.line_rules.proofs.TextLaws.{decimal_small, decimal_large}

-- ---- stores

-- a store behind others can come before them
stored_first : (t l : List ℕ) (at k b : ℕ) → at + length t ≤ k → sets (set l k b) at t ≡ set (sets l at t) k b
stored_first [] l at k b h = refl
stored_first (c ∷ t) l at k b h =
    ap (λ (m : List ℕ). sets m (suc at) t) (set_comm l k at b c (λ e. omega arith))
    ∙ stored_first t (set l at c) (suc at) k b (omega arith)

-- past the end they change nothing
stores_past : (t l : List ℕ) (at : ℕ) → length l ≤ at → sets l at t ≡ l
stores_past [] l at h = refl
stores_past (b ∷ t) l at h = ap (λ (m : List ℕ). sets m (suc at) t) (set_out l at b h) ∙ stores_past t l (suc at) (omega arith)

-- ---- a text copied

-- one byte more
pub copied_next : (t l m : List ℕ) (at i : ℕ) → i < length t → m ≡ sets l at (take i t) →
    set m (at + i) (get_or t i 0) ≡ sets l at (take (i + 1) t)
copied_next t l m at i h e =
    let b : List ℕ = get_or t i 0 ∷ [] in
    let n : length (take i t) ≡ i = length-take-le i t (omega arith) in
    ap₂ (λ (k : List ℕ) (j : ℕ). set k (at + j) (get_or t i 0)) e (sym n)
    ∙ sym (sets_append (take i t) b l at)
    ∙ ap (λ (k : List ℕ). sets l at k) (sym (take-suc t i 0 h))
    ∙ ap (λ (j : ℕ). sets l at (take j t)) (sym (add-one i))

-- as it stands behind a copy into a part of what was there
pub pasted : (l part t : List ℕ) (at k : ℕ) → at + length t ≤ length l → k ≡ length t → part ≡ t →
    take at l ++ (part ++ drop k (drop at l)) ≡ sets l at t
pasted l part t at k h e f =
    ap₂ (λ (p : List ℕ) (j : ℕ). take at l ++ (p ++ drop j (drop at l))) f e
    ∙ ap (λ (d : List ℕ). take at l ++ (t ++ d)) (drop-drop (length t) at l)
    ∙ sym (append_assoc (take at l) t (drop (at + length t) l))
    ∙ sym (sets-eq t l at h)

-- what has no room changes nothing
pub copied_all : (t l : List ℕ) (at k : ℕ) → k ≡ min (length t) (length l - at) → sets l at (take k t) ≡ sets l at t
copied_all t l at k e =
    by_test (λ (_ : Bool). sets l at (take k t) ≡ sets l at t) (ltb k (length t))
    (λ c. let h = ltb-true k (length t) c in
    let n : length (take k t) ≡ k = length-take-le k t (omega arith) in
    sym (stores_past (drop k t) (sets l at (take k t)) (at + length (take k t)) (omega (arith, length-sets l at (take k t))))
    ∙ sym (sets_append (take k t) (drop k t) l at)
    ∙ ap (λ (m : List ℕ). sets l at m) (take-append-drop k t))
    (λ c. ap (λ (m : List ℕ). sets l at m) (take_all k t (ltb-false k (length t) c)))

-- ---- digits

pub some_digit : (n : ℕ) → 0 < length (decimal n)
some_digit n =
    by_test (λ (_ : Bool). 0 < length (decimal n)) (ltb n 10)
    (λ e. rw (decimal_small n (ltb-true n 10 e)) (omega arith))
    (λ e. rw (decimal_large n (ltb-false n 10 e)) (omega (arith, length-append (decimal (n / 10)) ((digit0 + n % 10) ∷ []))))

-- a number has one digit more than its tenth
more-digits : (n : ℕ) → 10 ≤ n → length (decimal n) ≡ length (decimal (n / 10)) + 1
more-digits n h = ap length (decimal_large n h) ∙ length-append (decimal (n / 10)) ((digit0 + n % 10) ∷ [])

-- a power of ten that is not above a number
pub digits_above : (k n : ℕ) → 10 ^ k ≤ n → k < length (decimal n)
digits_above zero n h = some_digit n
digits_above (suc k) n h =
    let p = pow-suc 10 k in
    let o = one-le-pow k 10 (omega arith) in
    omega (arith, digits_above k (n / 10) (omega arith), more-digits n (omega arith))

-- the last digits of a number, so many, with zeros before them where it has fewer
unfoldable pub last_digits : ℕ → ℕ → List ℕ
last_digits zero n = []
last_digits (suc k) n = last_digits k (n / 10) ++ ((digit0 + n % 10) ∷ [])

last-length : (k n : ℕ) → length (last_digits k n) ≡ k
unfolding last_digits
last-length zero n = refl
last-length (suc k) n = omega (arith, length-append (last_digits k (n / 10)) ((digit0 + n % 10) ∷ []), last-length k (n / 10))

-- all of them
pub last_all : (k n : ℕ) → length (decimal n) ≡ k → last_digits k n ≡ decimal n
unfolding last_digits
last_all zero n e = absurd (omega (arith, some_digit n))
last_all (suc k) n e =
    by_test (λ (_ : Bool). last_digits (suc k) n ≡ decimal n) (ltb n 10)
    (λ t. let h = ltb-true n 10 t in
    let z : k ≡ 0 = omega (arith, ap length (decimal_small n h)) in
    let r : n % 10 ≡ n = omega arith in
    ap₂ (λ (j d : ℕ). last_digits j (n / 10) ++ ((digit0 + d) ∷ [])) z r ∙ sym (decimal_small n h))
    (λ t. let h = ltb-false n 10 t in
    ap (λ (l : List ℕ). l ++ ((digit0 + n % 10) ∷ [])) (last_all k (n / 10) (omega (arith, more-digits n h))) ∙ sym (decimal_large n h))

-- one is put: the others are those of the tenth
pub last-next : (l : List ℕ) (at k n : ℕ) →
    sets (set l (at + k) (digit0 + n % 10)) at (last_digits k (n / 10)) ≡ sets l at (last_digits (suc k) n)
unfolding last_digits
last-next l at k n =
    let d = last_digits k (n / 10) in
    let e = last-length k (n / 10) in
    stored_first d l at (at + k) (digit0 + n % 10) (omega arith)
    ∙ ap (λ (j : ℕ). set (sets l at d) (at + j) (digit0 + n % 10)) (sym e)
    ∙ sym (sets_append d ((digit0 + n % 10) ∷ []) l at)
