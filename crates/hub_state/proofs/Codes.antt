-- How far a routine has come, by the codes of its stages. Assumes nothing.
use mathlib.Core.Path.{◌≡◌, sym, subst}
use mathlib.Core.Bool.{true}
use mathlib.Core.List.{List}
use Prim.Native.Nat.{ℕ, zero, suc, ◌+◌, ◌≤◌, ◌<◌}
use native.Mathlib.Omega.{arith}
use lib.IntN.{ℤ, pos}
use lib.ListN.{get_or}
use Rattle.rules.specs.Tables.{Each}
use Rattle.hub_sequence.proofs.Tables.{by_eq}
use Rattle.hub_state.specs.View.{done_code, status_of, Rows, step_at, steps_from}
use Rattle.hub_state.specs.Valid.{is_behind, IsBehind, AnsweredUpTo}
use Rattle.hub_state.proofs.Rows.{status-answered, status_open, answered_code, open_code, behind-due}

-- to do or skipped
abbrev pub CodeBehind : ℕ → Type 0
CodeBehind code = is_behind (status_of code (pos 0)) ≡ true

-- Of the commands from one place to another those before a third are answered, and what stands there is not; behind that each is to do or
-- skipped.
pub record CodesUpTo (stages : List ℕ) (from mid end : ℕ) : Type 0 where
  pub within : (from ≤ mid) × (mid ≤ end)
  pub answered_before : (j : ℕ) → from ≤ j → j < mid → done_code ≤ get_or stages j 0
  pub unanswered_there : mid < end → get_or stages mid 0 < done_code
  pub behind : (j : ℕ) → mid < j → j < end → CodeBehind (get_or stages j 0)

module _ (rows : Rows) (u : ℤ) where
  all_behind : (k n : ℕ) → ((j : ℕ) → k ≤ j → j < k + n → CodeBehind (get_or rows.stages j 0)) → Each IsBehind (steps_from rows u k n)
  unfolding step_at
  all_behind k zero h = tt
  all_behind k (suc n) h =
      let b = behind-due (get_or rows.stages k 0) (pos 0) u (h k (omega arith) (omega arith)) in
      (b, all_behind (suc k) n (λ j i l. h j (omega arith) (omega arith)))

  behind_all : (k n j : ℕ) → Each IsBehind (steps_from rows u k n) → k ≤ j → j < k + n → CodeBehind (get_or rows.stages j 0)
  unfolding step_at
  behind_all k zero j b h i = absurd (omega arith)
  behind_all k (suc n) j b h i =
      by_eq j k
      (λ e. subst (λ (m : ℕ). CodeBehind (get_or rows.stages m 0)) (sym e) (behind-due (get_or rows.stages k 0) u (pos 0) b.0))
      (λ m. behind_all (suc k) n j b.1 (omega arith) (omega arith))

  -- by the codes
  pub codes_upto : (k n c p e : ℕ) → p ≡ k + n → e ≡ k + c → CodesUpTo rows.stages k p e → AnsweredUpTo n (steps_from rows u k c)
  unfolding step_at
  codes_upto k zero zero p e i j a = tt
  codes_upto k zero (suc c) p e i j a =
      let q : p ≡ k = omega arith in
      let o = subst (λ (m : ℕ). get_or rows.stages m 0 < done_code) q (a.unanswered_there (omega arith)) in
      (status_open (get_or rows.stages k 0) u o, all_behind (suc k) c (λ m f l. a.behind m (omega arith) (omega arith)))
  codes_upto k (suc n) zero p e i j a = absurd (omega (arith, a.within.1))
  codes_upto k (suc n) (suc c) p e i j a = (
    status-answered (get_or rows.stages k 0) u (a.answered_before k (omega arith) (omega arith)),
    codes_upto (suc k) n c p e (omega arith) (omega arith)
        (record {
          within = (omega arith, a.within.1);
          answered_before = λ m f l. a.answered_before m (omega arith) l;
          unanswered_there = a.unanswered_there;
          behind = a.behind;
        }),
  )

  -- and back
  pub upto_codes : (k n c p e : ℕ) → p ≡ k + n → e ≡ k + c → AnsweredUpTo n (steps_from rows u k c) → CodesUpTo rows.stages k p e
  unfolding step_at
  upto_codes k zero zero p e i j a = record {
    within = (omega arith, omega arith);
    answered_before = λ m f l. absurd (omega arith);
    unanswered_there = λ l. absurd (omega arith);
    behind = λ m f l. absurd (omega arith);
  }
  upto_codes k zero (suc c) p e i j a =
      let q : k ≡ p = omega arith in
      record {
        within = (omega arith, omega arith);
        answered_before = λ m f l. absurd (omega arith);
        unanswered_there = λ l. subst (λ (m : ℕ). get_or rows.stages m 0 < done_code) q (open_code (get_or rows.stages k 0) u a.0);
        behind = λ m f l. behind_all (suc k) c m a.1 (omega arith) (omega arith);
      }
  upto_codes k (suc n) zero p e i j a = absurd a
  upto_codes k (suc n) (suc c) p e i j a =
      let r = upto_codes (suc k) n c p e (omega arith) (omega arith) a.1 in
      let h = answered_code (get_or rows.stages k 0) u a.0 in
      record {
        within = (omega (arith, r.within.0), r.within.1);
        answered_before =
            λ m f l. by_eq m k
            (λ q. subst (λ (w : ℕ). done_code ≤ get_or rows.stages w 0) (sym q) h)
            (λ o. r.answered_before m (omega arith) l);
        unanswered_there = r.unanswered_there;
        behind = r.behind;
      }
