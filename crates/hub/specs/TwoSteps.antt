-- Calls in two steps: decided on a hub, then applied and settled, as the contracts of those functions have it. What comes of one is what
-- the contract of the call gives (`applied_meets`), so that demand 3, the replay of conditions, what the readers tell and the links hold
-- along chains that are made so, or partly so (`applied_demand_3`). The proofs are in `proofs/TwoSteps.antt`. Assumes nothing.
use Rattle.std.specs.Prelude.{◌≡◌, true, false, List, [], ◌∷◌, ◌⊎◌, ℕ, Ok}
use Rattle.rules_routine.specs.declared.Command.{Command}
use Rattle.rules.specs.Calls.{result_of}
use Rattle.rules.specs.Replay.{ConditionsReplay}
use Rattle.rules.specs.Rounds.{KeepsLimit}
use Rattle.rules.specs.Settle.{settle}
use Rattle.hub_answers.specs.View.{put_backs_of, PutBacksOk, changes_nothing}
use Rattle.hub_answers.specs.declared.Answer.{Answer}
use Rattle.hub_state.specs.View.{first_committed}
use Rattle.hub_state.specs.Contract.{Decides, put_backs_of_decision}
use Rattle.hub_state.specs.declared.Decision.{Decision}
use Rattle.hub.specs.View.{view}
use Rattle.hub.specs.Valid.{Valid}
use Rattle.hub.specs.Contract.{Opens}
use Rattle.hub.specs.Carrying.{OnlySettle, Carries}
use Rattle.hub.specs.Demand3.{HubCall, call_of, Meets, HubAct, called, device_takes, Chain, world_then_all, new_world_of, HubDemand3}
use Rattle.hub.specs.Demand3.{ReadersTell, ListTells}
use Rattle.hub.specs.Links.{LinksKeep}
use Rattle.hub.specs.declared.Hub.{Hub}
use Rattle.hub.specs.declared.Opened.{Opened}
use Rattle.hub.specs.declared.Outcome.{Outcome}

-- Hub m settles to r after this answer: where it tells of a change and the first in the sequence is committed, r is what `hub::settle`
-- gives; else it is m.
pub record SettlesTo (a : Answer) (m r : Hub) : Type 0 where
  pub settled :
      changes_nothing a ≡ false → first_committed (view m).sequence ≡ true →
      (Valid r) × (view r ≡ settle (view m)) × (OnlySettle m.state.rows r.state.rows)
  pub idle : changes_nothing a ≡ false → first_committed (view m).sequence ≡ false → r ≡ m
  pub same : changes_nothing a ≡ true → r ≡ m

-- The outcome o of the call c on hub h, made in two steps. The call is decided (`hub::decide_submit`, `decide_turn`, ..; a new pass limit
-- is no decision), the applier of its change makes a hub (`hub::with_stage`, `with_commit`, ..; none where nothing changes), and that
-- settles. The answers are those of the decision, the put-backs what `hub::put_backs` gives of it.
pub record AppliedFor (h : Hub) (c : HubCall) (o : Outcome) : Type 0 where
  pub commands : List Command  -- those of a routine that joins
  pub decision : Decision
  pub no_limit : KeepsLimit (call_of c)
  pub decides : Decides h.state.rows commands decision (result_of (view h) (call_of c))
  pub made : Hub
  pub carries : Carries h commands decision.change made
  pub settles : SettlesTo decision.answer made o.hub
  pub first_is : o.first ≡ decision.first
  pub answer_is : o.answer ≡ decision.answer
  pub put_backs_fit : PutBacksOk o.put_backs
  pub put_backs_are : put_backs_of o.put_backs ≡ put_backs_of_decision h.state.rows decision

-- It is what the contract of the call gives.
abbrev pub AppliedMeets : Type 0
AppliedMeets = (h : Hub) (c : HubCall) (o : Outcome) → Valid h → AppliedFor h c o → Meets h c o

-- Each call gets the hub that the last one left, and is made by its public function or in two steps.
abbrev pub AnyChain : Hub → List HubAct → Type 0
AnyChain h [] = Unit {0}
AnyChain h (called c o v ∷ l) = (Meets h c o ⊎ AppliedFor h c o) × AnyChain o.hub l
AnyChain h (device_takes d k ∷ l) = AnyChain h l

-- Such a chain is one of public calls: whatever is said of every chain is said of it.
abbrev pub AppliedChains : Type 0
AppliedChains = (h : Hub) (acts : List HubAct) → Valid h → AnyChain h acts → Chain h acts

-- What is promised along a chain from an opening.
pub record Promised (n k first : ℕ) (h : Hub) (acts : List HubAct) : Type 0 where
  pub demand_3 : HubDemand3 h acts
  pub replay : ConditionsReplay (world_then_all (new_world_of h) acts)
  pub readers : ReadersTell h acts
  pub list : ListTells h acts
  pub links : LinksKeep n k first h acts

-- Demand 3 and the rest, for every accepted opening and every such chain.
abbrev pub AppliedDemand3 : Type 0
AppliedDemand3 = (n k first : ℕ) (o : Opened) → Opens n k first o → o.verdict ≡ Ok tt → (acts : List HubAct) → AnyChain o.hub acts →
    Promised n k first o.hub acts
