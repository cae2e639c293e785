-- What a new pass limit comes to on the hub's rows. Assumes nothing.
use Rattle.std.specs.Prelude.{◌≡◌, [], ◌∷◌, ℕ, Result, Ok, Err}
use Rattle.rules.specs.Limit.{limit_of}
use Rattle.rules.specs.Answers.{Answer as Told, limited, refused}
use Rattle.rules_routine.specs.declared.refusals.Refusal.{Refusal}
use Rattle.hub_state.specs.View.{state_of}
use Rattle.hub_state.specs.Valid.{StateOk}
use Rattle.hub_state.specs.Unmoved.{Unmoved}
use Rattle.hub_state.specs.declared.HubState.{HubState}
use Rattle.hub_state.specs.declared.valid.ValidState.{ValidState}

-- The state after it: where it is turned down the same, whole.
abbrev pub state_after : HubState → Result ValidState Refusal → HubState
state_after h (Ok s) = s.rows
state_after h (Err r) = h

-- What is answered.
abbrev pub limit_told : ℕ → Result ValidState Refusal → Told
limit_told k (Ok s) = limited k
limit_told k (Err r) = refused r

-- It gives what the rules give, and a valid state; "No id, mark, setting or place changes".
pub record Limits (h : HubState) (k : ℕ) (r : Result ValidState Refusal) : Type 0 where
  pub valid : StateOk (state_after h r)
  pub gives : record { state = state_of (state_after h r); answers = limit_told k r ∷ [] } ≡ limit_of (state_of h) k
  pub unmoved : Unmoved h (state_after h r)
