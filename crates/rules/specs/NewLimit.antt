-- Document 02, item 13: what is claimed of new pass limits besides their refusals (`Causes.antt`), demand 3 and the waiting promise. The
-- proofs are `limit-tells_nothing`, `nothing_to_settle`, `limit_changes_k`, `passed_below` and `passes_in_range` of crate `rules_promises`.
-- Assumes nothing.
use Rattle.std.specs.Prelude.{◌≡◌, true, List, [], ◌∷◌, ◌++◌, map, ℕ, ◌<◌, ◌≤◌, ℤ}
use Rattle.rules_routine.specs.declared.Command.{Command}
use Rattle.rules.specs.Tables.{Each}
use Rattle.rules_routine.specs.Limits.{highest_pass_limit}
use Rattle.rules.specs.State.{Member, State}
use Rattle.rules.specs.Answers.{Call, limit, limited}
use Rattle.rules.specs.Sequence.{is_running}
use Rattle.rules.specs.Settle.{settle}
use Rattle.rules.specs.Submit.{pass, newcomer, place}
use Rattle.rules.specs.Open.{opened, open_of}
use Rattle.rules.specs.Limit.{with_pass_limit}
use Rattle.rules.specs.Calls.{result_of, state_after}
use Rattle.rules.specs.History.{working_of}
use Rattle.rules.specs.World.{World, Act, calls, accounts, world_after, world_after_all, new_world}
use Rattle.rules.specs.Demand3.{order_in}

-- From w to t nothing is told: of the order, its bar included, of the routines, of the devices.
pub record NothingTold (w t : World) : Type 0 where
  pub same_order : order_in t ≡ order_in w
  pub same_accounts : accounts t ≡ accounts w
  pub same_working : working_of t.history ≡ working_of w.history
  pub same_devices : t.devices ≡ w.devices

-- After every list a new pass limit, accepted or refused, tells nothing.
abbrev pub LimitTellsNothing : Type 0
LimitTellsNothing =
    (n k first : ℕ) (s : State) → open_of n k first ≡ opened s → (acts : List Act) (new : ℕ) (v : ℤ) →
    let w = world_after_all (new_world s) acts in
    NothingTold w (world_after w (calls (limit new) v))

-- Document 01, "Settling": "After each call". After every list, of new pass limits too, there is nothing to settle.
abbrev pub NothingToSettle : Type 0
NothingToSettle =
    (n k first : ℕ) (s : State) → open_of n k first ≡ opened s → (acts : List Act) →
    let now = (world_after_all (new_world s) acts).state in
    settle now ≡ now

-- "No id, mark, setting or place changes": after every list a new pass limit that is not too high is in force, and K alone changes by it.
abbrev pub LimitChangesK : Type 0
LimitChangesK =
    (n k first : ℕ) (s : State) → open_of n k first ≡ opened s → (acts : List Act) (new : ℕ) → new ≤ highest_pass_limit →
    let now = (world_after_all (new_world s) acts).state in
    result_of now (limit new) ≡ record { state = with_pass_limit now new; answers = limited new ∷ [] }

abbrev pub PassedLessThan : ℕ → Member → Type 0
PassedLessThan k m = is_running m ≡ true → m.passed < k

-- "a running one passed as often as the K then in force, or oftener, may not be passed": of those that run, a newcomer is placed ahead only
-- of such as have been passed less often. On every state, whatever K was before.
pub record Placement (s : State) (cs : List Command) : Type 0 where
  pub ahead : List Member
  pub behind : List Member
  pub sequence_was : s.sequence ≡ ahead ++ behind
  pub sequence_is : (place s cs).sequence ≡ ahead ++ (newcomer s.next_id cs ∷ map pass behind)
  pub less_often : Each (PassedLessThan s.pass_limit) behind

abbrev pub PassedBelow : Type 0
PassedBelow = (s : State) (cs : List Command) → Placement s cs

abbrev pub PassedInRange : Member → Type 0
PassedInRange m = m.passed ≤ highest_pass_limit

-- A routine is passed only while its count is below the K then in force: whatever K becomes, no count rises above the highest K.
abbrev pub PassesInRange : Type 0
PassesInRange =
    (n k first : ℕ) (s : State) → open_of n k first ≡ opened s → (calls : List Call) →
    let now = state_after s calls in
    (now.pass_limit ≤ highest_pass_limit) × Each PassedInRange now.sequence
