-- Demand 3 of this hub, and the replay of conditions: the theorems of the rules, carried along a chain of calls. Assumes nothing.
use Rattle.std.proofs.Common.{Ok}
use mathlib.Core.Path.{◌≡◌, refl, sym, ap, ◌∙◌, subst}
use mathlib.Core.List.{List, [], ◌∷◌, ◌++◌, map, map-append}
use Prim.Native.Nat.{ℕ}
use Rattle.rules.specs.State.{State}
use Rattle.rules.specs.Answers.{Result}
use Rattle.rules.specs.Due.{due}
use Rattle.rules.specs.Open.{opened, open_if, open_of}
use Rattle.rules.specs.Calls.{result_of}
use Rattle.rules.specs.Order.{entries}
use Rattle.rules.specs.Serial.{DeviceState, all_up}
use Rattle.rules.specs.World.{World, accounts, Act, calls, takes_one, after_call, world_after, world_after_all, Premised, PremiseAll}
use Rattle.rules.specs.Demand3.{order_in, EndState, Begins, CommandsStand, Demand3}
use Rattle.rules.specs.HubOrder.{IsHubs}
use Rattle.rules.specs.Replay.{ConditionsReplay}
use Rattle.rules_promises.proofs.Theorem.{demand_3, hub-order, replay}
use Rattle.rules.proofs.AllDue.{list_entry}
use Rattle.hub.specs.View.{view, result_in}
use Rattle.hub.specs.Valid.{Valid}
use Rattle.hub.specs.Contract.{Opens, Gives}
use Rattle.hub.specs.Demand3.{HubCall, submits, turns, reports, fails, restarts, cancels, limits, call_of, Meets, HubAct, called}
use Rattle.hub.specs.Demand3.{device_takes, Chain, hub_after, world_then_all, PremiseThenAll, new_world_of, HubDemand3, HubStatement}
use Rattle.hub.specs.Demand3.{HubReplayStatement, ReadersStatement, ListStatement}
use Rattle.hub.specs.declared.Hub.{Hub}
use Rattle.hub.specs.declared.Opened.{Opened}
use Rattle.hub.specs.declared.Outcome.{Outcome}

-- what happens, without the outcomes
abbrev act_of : HubAct → Act
act_of (called c o v) = calls (call_of c) v
act_of (device_takes d k) = takes_one d k

-- an outcome that meets the contract is what the rules give
pub met : (h : Hub) (c : HubCall) (o : Outcome) → Meets h c o → Gives h o (result_of (view h) (call_of c))
met h (submits r) o m = m
met h (turns i) o m = m
met h (reports i code) o m = m
met h (fails d) o m = m
met h (restarts d v) o m = m
met h (cancels i) o m = m
met h (limits k) o m = m

met_in : (w : World) (h : Hub) → w.state ≡ view h → (c : HubCall) (o : Outcome) → Meets h c o → result_in o ≡ result_of w.state (call_of c)
met_in w h e c o m = (met h c o m).gives ∙ ap (λ s. result_of s (call_of c)) (sym e)

-- so the outcomes make the same world as the rules
worlds : (w : World) (h : Hub) (acts : List HubAct) → w.state ≡ view h → Chain h acts →
    world_then_all w acts ≡ world_after_all w (map act_of acts)
worlds w h [] e ch = refl
worlds w h (called c o v ∷ l) e ch =
    worlds (after_call w (call_of c) v (result_in o)) o.hub l refl ch.1
    ∙ ap (λ (r : Result). world_after_all (after_call w (call_of c) v r) (map act_of l)) (met_in w h e c o ch.0)
worlds w h (device_takes d k ∷ l) e ch = worlds (world_after w (takes_one d k)) h l e ch

premises : (w : World) (h : Hub) (acts : List HubAct) → w.state ≡ view h → Chain h acts → PremiseThenAll w acts →
    PremiseAll w (map act_of acts)
premises w h [] e ch p = tt
premises w h (called c o v ∷ l) e ch p =
    let q = met_in w h e c o ch.0 in (
      subst (λ (r : Result). Premised w (call_of c) r.answers) q p.0,
      subst (λ (r : Result). PremiseAll (after_call w (call_of c) v r) (map act_of l)) q
          (premises (after_call w (call_of c) v (result_in o)) o.hub l refl ch.1 p.1),
    )
premises w h (device_takes d k ∷ l) e ch p = (tt, premises (world_after w (takes_one d k)) h l e ch p.1)

-- the first part of a chain
pub chain_left : (h : Hub) (before rest : List HubAct) → Chain h (before ++ rest) → Chain h before
chain_left h [] rest ch = tt
chain_left h (called c o v ∷ l) rest ch = (ch.0, chain_left o.hub l rest ch.1)
chain_left h (device_takes d k ∷ l) rest ch = chain_left h l rest ch

-- what the rules promise of the list without the outcomes, this hub has
carried : (h : Hub) (acts : List HubAct) → Chain h acts → Demand3 (view h) (map act_of acts) → HubDemand3 h acts
carried h acts ch d = record {
  end_state = λ p. subst (EndState (view h).devices) (sym whole) (d.end_state (premises w h acts refl ch p));
  settled_part = λ before rest e.
      subst (λ (v : World). Begins (order_in v).settled (entries (order_in (world_then_all w acts))))
      (sym (worlds w h before refl (chain_left h before rest (subst (Chain h) e ch))))
      (subst (λ (v : World). Begins (order_in (world_after_all w (map act_of before))).settled (entries (order_in v))) (sym whole)
      (d.settled_part (map act_of before) (map act_of rest) (ap (map act_of) e ∙ map-append act_of before rest)));
  commands_stand = subst (λ (v : World). CommandsStand (accounts v) (entries (order_in v)) all_up) (sym whole) d.commands_stand;
}
  where
    w : World
    w = new_world_of h

    whole : world_then_all (new_world_of h) acts ≡ world_after_all (new_world_of h) (map act_of acts)
    whole = worlds (new_world_of h) h acts refl ch

-- every hub of the chain is valid, so that the next call may be made
pub chain-valid : (h : Hub) (acts : List HubAct) → Valid h → Chain h acts → Valid (hub_after h acts)
chain-valid h [] v ch = v
chain-valid h (called c o x ∷ l) v ch = chain-valid o.hub l (met h c o ch.0).valid ch.1
chain-valid h (device_takes d k ∷ l) v ch = chain-valid h l v ch

-- the state in the world is that of the hub that the last call left
state-then : (w : World) (h : Hub) (acts : List HubAct) → w.state ≡ view h → (world_then_all w acts).state ≡ view (hub_after h acts)
state-then w h [] e = e
state-then w h (called c o v ∷ l) e = state-then (after_call w (call_of c) v (result_in o)) o.hub l refl
state-then w h (device_takes d k ∷ l) e = state-then (world_after w (takes_one d k)) h l e

-- an accepted opening gives the rules' hub
pub opens_as : (n k first : ℕ) (o : Opened) → Opens n k first o → o.verdict ≡ Ok tt → open_of n k first ≡ opened (view o.hub)
opens_as n k first o op accepted = sym op.gives ∙ ap (λ v. open_if v (view o.hub)) accepted

-- Demand 3.
pub hub_demand_3 : HubStatement
hub_demand_3 n k first o op accepted acts ch =
    carried o.hub acts ch (demand_3 n k first (view o.hub) (opens_as n k first o op accepted) (map act_of acts))

-- The replay of conditions.
pub hub-replay : HubReplayStatement
hub-replay n k first o op accepted acts ch =
    let h = o.hub in
    subst ConditionsReplay (sym (worlds (new_world_of h) h acts refl ch))
    (replay n k first (view h) (opens_as n k first o op accepted) (map act_of acts))

-- What the readers tell.
pub hub-readers : ReadersStatement
hub-readers n k first o op accepted acts ch d =
    let h = o.hub in
    let i = subst IsHubs (sym (worlds (new_world_of h) h acts refl ch))
    (hub-order n k first (view h) (opens_as n k first o op accepted) (map act_of acts)) in
    i.devices_are d ∙ ap (λ (s : State). record { up = s.up d; setting = due s d }) (state-then (new_world_of h) h acts refl)

pub hub-list : ListStatement
hub-list n k first o op accepted acts ch list h d below =
    list_entry (view (hub_after o.hub acts)) list h d below
    ∙ sym (ap (λ (x : DeviceState). x.setting) (hub-readers n k first o op accepted acts ch d))
