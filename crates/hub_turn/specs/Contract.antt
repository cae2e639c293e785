-- What a part of a turn promises. Assumes nothing.
use Rattle.std.specs.Prelude.{◌≡◌, Bool, ◌&&◌, List, ℕ, ◌-◌, eqb, ltb, pos, get_or}
use Rattle.rules_routine.specs.Routine.{condition_tag}
use Rattle.rules.specs.Progress.{counts_as_not_held}
use Rattle.hub_state.specs.View.{status_of}
use Rattle.hub_state.specs.declared.HubState.{HubState}
use Rattle.hub_turn.specs.declared.Lent.{Lent}

-- The rows are those of the state.
pub record LentFrom (h : HubState) (r : Lent) : Type 0 where
  pub device_is : r.device.now ≡ h.device
  pub tag_is : r.tag.now ≡ h.tag
  pub stage_is : r.stage.now ≡ h.stage

-- Of a routine whose commands stand from a place on: is the command before k a condition that skips the one at k?
unfoldable pub skipped_at : List ℕ → List ℕ → ℕ → ℕ → Bool
skipped_at tag stage from k =
    ltb from k && eqb (get_or tag (k - 1) 0) condition_tag && counts_as_not_held (status_of (get_or stage (k - 1) 0) (pos 0))
