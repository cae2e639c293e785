-- Restarts that are attached to a slot, device by device. Assumes nothing.
use Rattle.std.proofs.Common.{Option, None, Some}
use mathlib.Core.Path.{◌≡◌, sym, ap, ◌∙◌}
use mathlib.Core.Bool.{true, false}
use mathlib.Core.List.{List}
use Prim.Native.Nat.{ℕ, ◌+◌, ◌*◌, ◌≤◌, ◌<◌}
use native.Mathlib.Omega.{arith}
use borrow.Author.Tests.{eq-eqb, ne_eqb}
use lib.Dec.{eqb}
use lib.IntN.{ℤ}
use lib.ListN.{length, get_or, set}
use Rattle.std.specs.Prelude.{if◌then◌else◌}
use Rattle.rules_routine.specs.Limits.{max_devices, max_sequence}
use Rattle.rules.specs.Attach.{one_restart, later}
use Rattle.rules.proofs.Lists.{put_same, put_other}
use Rattle.hub_sequence.proofs.Tables.{by_eq, by_less}
use Rattle.hub_state.specs.View.{is_restart, restarts_at}
use Rattle.hub_state.proofs.Rows.{restarts-past, restarts-read, restarts_other, restarts-set, restart_some, restart-none}
use Rattle.hub_settle.specs.Contract.{MovesRestarts}

-- in the row r the restarts e stand behind those that the slot x has in the other row
abbrev pub Attaches : List ℤ → ℕ → (ℕ → Option ℤ) → List ℤ → Type 0
Attaches row x e r = (y d : ℕ) → restarts_at r y d ≡ (if eqb y x then later (restarts_at row x d) (e d) else restarts_at row y d)

-- ---- the restarts of another slot

-- those of the devices below d
pub record MovedUpTo (row : List ℤ) (from to d : ℕ) (r : List ℤ) : Type 0 where
  pub moved : (e : ℕ) → e < d → restarts_at r to e ≡ later (restarts_at row to e) (restarts_at row from e)
  pub still : (e : ℕ) → d ≤ e → restarts_at r to e ≡ restarts_at row to e
  pub others : (x e : ℕ) → (x ≡ to → ⊥) → restarts_at r x e ≡ restarts_at row x e

module _ (row : List ℤ) (from to : ℕ) where
  pub moved_all : (d : ℕ) (r : List ℤ) → max_devices ≤ d → MovedUpTo row from to d r → MovesRestarts row from to r
  moved_all d r h m x e =
      by_eq x to
      (λ q. rw (eq-eqb x to q, q)
      (by_less e d (m.moved e) (λ i. m.still e i ∙ sym (ap (later (restarts_at row to e)) (restarts-past row from e (omega arith))))))
      (λ n. rw (ne_eqb x to n) (m.others x e n))

  module _ (d : ℕ) (r : List ℤ) (z : ℤ) (i : from < max_sequence) (j : to < max_sequence) (h : d < max_devices)
      (l : length row ≡ max_sequence * max_devices) (k : length r ≡ max_sequence * max_devices) (m : MovedUpTo row from to d r)
    where
      -- what the device has in the row
      abbrev here : ℤ
      here = get_or row (from * max_devices + d) z

      pub moved_some : is_restart here ≡ true → MovedUpTo row from to (d + 1) (set r (to * max_devices + d) here)
      moved_some t =
          let o : restarts_at row from d ≡ Some here = restarts-read row from d z l i h ∙ restart_some here t in
          let s : restarts_at (set r (to * max_devices + d) here) to d ≡ Some here = restarts-set r to d here h k j ∙ restart_some here t in
          record {
            moved = λ e u. by_eq e d
                (λ q. rw q (s ∙ sym (ap (later (restarts_at row to d)) o)))
                (λ n. restarts_other r to d here h to e (λ p. n p.1) ∙ m.moved e (omega arith));
            still = λ e u. restarts_other r to d here h to e (λ p. let q = p.1 in omega arith) ∙ m.still e (omega arith);
            others = λ x e n. restarts_other r to d here h x e (λ p. n p.0) ∙ m.others x e n;
          }

      pub moved_skip : is_restart here ≡ false → MovedUpTo row from to (d + 1) r
      moved_skip t =
          let o : restarts_at row from d ≡ None = restarts-read row from d z l i h ∙ restart-none here t in
          record {
            moved = λ e u. by_eq e d
                (λ q. rw q (m.still d (omega arith) ∙ sym (ap (later (restarts_at row to d)) o)))
                (λ n. m.moved e (omega arith));
            still = λ e u. m.still e (omega arith);
            others = m.others;
          }

-- ---- one restart

pub attaches_one : (row : List ℤ) (x d : ℕ) (v : ℤ) → length row ≡ max_sequence * max_devices → x < max_sequence → d < max_devices →
    is_restart v ≡ true →
    Attaches row x (one_restart d v) (set row (x * max_devices + d) v)
unfolding one_restart
attaches_one row x d v l i h t y e =
    by_eq y x
    (λ q. rw (eq-eqb y x q, q)
    (by_eq e d
    (λ p. rw p (restarts-set row x d v h l i ∙ restart_some v t ∙ sym (ap (later (restarts_at row x d)) (put_same (λ j. None) d (Some v)))))
    (λ n. restarts_other row x d v h x e (λ p. n p.1) ∙ sym (ap (later (restarts_at row x e)) (put_other (λ j. None) d (Some v) e n)))))
    (λ n. rw (ne_eqb y x n) (restarts_other row x d v h y e (λ p. n p.0)))
