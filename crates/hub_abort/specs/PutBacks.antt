-- The put-backs of an abort, read off tables. Assumes nothing.
use Rattle.std.specs.Prelude.{◌≡◌, Bool, not, ◌&&◌, ◌||◌, List, [], ◌∷◌, ℕ, zero, suc, ltb, ℤ, if◌then◌else◌, Option, None, Some}
use Rattle.rules_routine.specs.Limits.{max_devices}
use Rattle.rules.specs.Tables.{any_of, same_setting}
use Rattle.rules.specs.Answers.{Back}
use Rattle.rules.specs.Progress.{in_flight_on}
use Rattle.rules.specs.State.{State}
use Rattle.rules.specs.Due.{due}
use Rattle.rules.specs.Abort.{leave}
use Rattle.hub_state.specs.View.{settings_of, flags_of, up_of, member_at, state_of, there}
use Rattle.hub_state.specs.Contract.{down_with}
use Rattle.hub_state.specs.declared.HubState.{HubState}
use Rattle.hub_abort.specs.declared.Tables.{Tables}

-- Is D put back? By the tables: it is up, no other routine's command is in flight on it, and its due setting changed or R had one.
abbrev pub is_back_by : Tables → ℕ → Bool
is_back_by t d =
    up_of t.up d && not (flags_of t.others d) &&
    (not (same_setting (settings_of t.before d) (settings_of t.after d)) || flags_of t.own d)

-- By rising device: those of the `left` devices from d on that pass the test, each with its setting.
abbrev pub put_backs_from : (ℕ → Bool) → (ℕ → ℤ) → ℕ → ℕ → List Back
put_backs_from p setting d zero = []
put_backs_from p setting d (suc left) = if p d then record { device = d; setting = setting d } ∷ put_backs_from p setting (suc d) left
    else put_backs_from p setting (suc d) left

-- The state while a device fails, if one does; a number past the devices is none.
abbrev pub down_if : State → Option ℕ → State
down_if s None = s
down_if s (Some d) = if ltb d max_devices then down_with s d else s

-- The tables of an abort of the routine in a slot, while a device fails.
pub record TablesAre (h : HubState) (x : ℕ) (down : Option ℕ) (t : Tables) : Type 0 where
  pub up_is : up_of t.up ≡ (down_if (state_of h) down).up
  pub others_are : flags_of t.others ≡ (λ d. any_of (in_flight_on d) (leave (state_of h) (there h x)).sequence)
  pub own_are : flags_of t.own ≡ (λ d. in_flight_on d (member_at h x))
  pub before_is : settings_of t.before ≡ due (state_of h)
  pub after_is : settings_of t.after ≡ due (leave (state_of h) (there h x))
