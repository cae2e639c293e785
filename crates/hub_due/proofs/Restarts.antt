-- A table of settings after the restarts of a slot, made device by device. Assumes nothing.
use Rattle.std.proofs.Common.{Option, None, Some}
use mathlib.Core.Path.{◌≡◌, sym, ap, ◌∙◌, fun_ext}
use mathlib.Core.List.{List}
use Prim.Native.Nat.{ℕ, ◌+◌, ◌*◌, ◌<◌, ◌≤◌}
use native.Mathlib.Omega.{arith}
use mir.Val.{to_z, of_z}
use mir.Syntax.{w16}
use lib.IntN.{ℤ, pos}
use lib.ListN.{length, get_or, set, length-set}
use Rattle.rules_routine.specs.Limits.{max_devices, max_sequence}
use Rattle.rules.specs.Due.{after_restart}
use Rattle.rules.specs.Attach.{settle_restarts}
use Rattle.hub_state.specs.View.{settings_of, no_restart, restarts_at}
use Rattle.hub_state.proofs.Rows.{restarts-past, restarts-read, restart_some, restart-none}
use Rattle.hub_due.proofs.Tables.{set-put, no_restart-bits, restart-bits, new_below, below_put, below_same}
use Rattle.hub_due.proofs.Tables.{below_all}

-- ---- the entry of a device in a slot

module _ (row : List ℤ) (x d : ℕ) (l : length row ≡ max_sequence * max_devices) (h : x < max_sequence) (i : d < max_devices) where
  pub restart-there : (of_z w16 (get_or row (x * max_devices + d) (pos 0)) ≡ of_z w16 no_restart → ⊥) →
      restarts_at row x d ≡ Some (get_or row (x * max_devices + d) (pos 0))
  restart-there n = restarts-read row x d (pos 0) l h i
      ∙ restart_some (get_or row (x * max_devices + d) (pos 0)) (restart-bits (get_or row (x * max_devices + d) (pos 0)) n)

  pub restart_absent : to_z w16 (of_z w16 (get_or row (x * max_devices + d) (pos 0))) ≡ get_or row (x * max_devices + d) (pos 0) →
      of_z w16 (get_or row (x * max_devices + d) (pos 0)) ≡ of_z w16 no_restart → restarts_at row x d ≡ None
  restart_absent b e = restarts-read row x d (pos 0) l h i
      ∙ restart-none (get_or row (x * max_devices + d) (pos 0)) (no_restart-bits (get_or row (x * max_devices + d) (pos 0)) b e)

-- ---- the table

-- What the devices shall be at.
abbrev pub after : List ℤ → ℕ → List ℤ → ℕ → ℤ
after row x table = settle_restarts (restarts_at row x) (settings_of table)

-- The devices below d are at their restarts' settings.
pub record RestartsTo (row : List ℤ) (x : ℕ) (table : List ℤ) (d : ℕ) (now : List ℤ) : Type 0 where
  pub long : length now ≡ max_devices
  pub same : (e : ℕ) → settings_of now e ≡ new_below d (after row x table) (settings_of table) e

module _ {row : List ℤ} {x : ℕ} {table : List ℤ} {d : ℕ} {now : List ℤ} (t : RestartsTo row x table d now) where
  pub restart_store : {next : List ℤ} (v : ℤ) → next ≡ set now d v → d < max_devices → restarts_at row x d ≡ Some v →
      RestartsTo row x table (d + 1) next
  unfolding settle_restarts
  restart_store {next} v q h e =
      record {
        long = ap length q ∙ length-set now d v ∙ t.long;
        same =
            λ i. ap (λ (l : List ℤ). settings_of l i) q
            ∙ set-put now d v (pos 0) (omega (arith, h, t.long)) i
            ∙ below_put (after row x table) (settings_of table) d (settings_of now) v t.same
            (ap (λ (o : Option ℤ). after_restart o (settings_of table d)) (sym e)) i;
      }

  pub restart_keep : {next : List ℤ} → next ≡ now → restarts_at row x d ≡ None → RestartsTo row x table (d + 1) next
  unfolding settle_restarts
  restart_keep {next} q e =
      record {
        long = ap length q ∙ t.long;
        same =
            λ i. ap (λ (l : List ℤ). settings_of l i) q
            ∙ below_same (after row x table) (settings_of table) d (settings_of now) t.same
            (ap (λ (o : Option ℤ). after_restart o (settings_of table d)) e) i;
      }

  pub restarts_all : max_devices ≤ d → settings_of now ≡ settle_restarts (restarts_at row x) (settings_of table)
  unfolding settle_restarts
  restarts_all h =
      fun_ext
      (λ e. t.same e
      ∙ below_all (after row x table) (settings_of table) d
      (λ i k. ap (λ (o : Option ℤ). after_restart o (settings_of table i)) (restarts-past row x i (omega arith))) e)
