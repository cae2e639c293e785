-- The two ways out of a new pass limit. Assumes nothing.
use Rattle.std.proofs.Common.{Ok, Err}
use Rattle.rules_routine.specs.Refusals.{Verdict}
use mathlib.Core.Path.{◌≡◌, ap}
use mathlib.Core.List.{[], ◌∷◌}
use Prim.Native.Nat.{ℕ}
use Rattle.rules_routine.specs.declared.refusals.Refusal.{Refusal}
use Rattle.rules.specs.State.{State}
use Rattle.rules.specs.Answers.{limited, Result, turned_down, unless_refused}
use Rattle.rules.specs.Settle.{settling}
use Rattle.rules.specs.Limit.{new_limit_check, with_pass_limit, limit_of}

module _ (s : State) (k : ℕ) where
  -- what comes of it if it passes
  abbrev pub in_force : Result
  in_force = settling (record { state = with_pass_limit s k; answers = limited k ∷ [] })

  pub limit_passes : new_limit_check s.devices k ≡ Ok tt → limit_of s k ≡ in_force
  unfolding limit_of
  limit_passes e = ap (λ (v : Verdict). unless_refused v s in_force) e

  pub limit-turned-down : (r : Refusal) → new_limit_check s.devices k ≡ Err r → limit_of s k ≡ turned_down r s
  unfolding limit_of
  limit-turned-down r e = ap (λ (v : Verdict). unless_refused v s in_force) e
