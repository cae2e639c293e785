-- A decision carried out. Assumes nothing.
use Rattle.std.specs.Prelude.{◌≡◌, true, List, ◌<◌}
use Rattle.rules_routine.specs.Limits.{max_devices}
use Rattle.rules_routine.specs.declared.Command.{Command}
use Rattle.hub_sequence.specs.Links.{Stands}
use Rattle.hub_state.specs.View.{is_restart}
use Rattle.hub_state.specs.Contract.{applied_to, StandsIfAny}
use Rattle.hub_state.specs.Unmoved.{Unmoved, OnlyLeave, LeftCommitted, JoinedRun}
use Rattle.hub_state.specs.declared.HubState.{HubState}
use Rattle.hub_state.specs.declared.Change.{Change}
use Rattle.hub_state.specs.declared.Change.TheVariants.{Nothing, Stage, Commit, Join, Abort, Fail, Restart}
use Rattle.hub.specs.View.{view}
use Rattle.hub.specs.Valid.{InOrder}
use Rattle.hub.specs.declared.Hub.{Hub}

-- What is asked of a change before it is told what it puts back: that of an abort.
abbrev pub LeavingOk : HubState → Change → Type 0
LeavingOk h Nothing = Unit {0}
LeavingOk h (Stage c) = Unit {0}
LeavingOk h (Commit x) = Unit {0}
LeavingOk h (Join after) = Unit {0}
LeavingOk h (Abort x) = Stands h.links x
LeavingOk h (Fail d x) = (d < max_devices) × StandsIfAny h x
LeavingOk h (Restart d v x) = (d < max_devices) × (is_restart v ≡ true) × StandsIfAny h x

-- A change moves nobody; and who has joined by it runs, so that settling does not take it in the same call.
pub record MovesNobody (h r : HubState) : Type 0 where
  pub unmoved : Unmoved h r
  pub joined_run : JoinedRun h r

-- Settling moves nobody: some may leave, all of them committed, and nobody joins.
pub record OnlySettle (h r : HubState) : Type 0 where
  pub only_leave : OnlyLeave h r
  pub left_committed : LeftCommitted h r

-- The change of a decision on hub h is carried out; where it changes nothing it is the same hub, whole.
pub record Carries (h : Hub) (cs : List Command) (c : Change) (r : Hub) : Type 0 where
  pub in_order : InOrder r
  pub gives : view r ≡ applied_to h.state.rows cs c
  pub moves_nobody : MovesNobody h.state.rows r.state.rows
  pub same_hub : c ≡ Nothing → r ≡ h
