-- Demand 3 of this hub: for every chain of hubs that starts at an accepted `open` and goes from each hub to the next by the contract of a
-- public call, with the answers that the contracts give. The proof is `hub_demand_3` of `proofs/Theorem.antt`. The same of the replay of
-- conditions (document 02, item 4), `hub-replay`. Assumes nothing.
use Rattle.std.specs.Prelude.{◌≡◌, List, [], ◌∷◌, ◌++◌, ℕ, ◌<◌, ◌≤◌, ℤ, pos, length, get_or, Ok}
use Rattle.rules_routine.specs.Routine.{commands_of}
use Rattle.rules_routine.specs.declared.Routine.{Routine}
use Rattle.rules.specs.Answers.{Call, submit, turn, report, failure, restart, cancel, limit}
use Rattle.rules.specs.Due.{due}
use Rattle.rules.specs.AllDue.{list_after}
use Rattle.rules.specs.Order.{entries}
use Rattle.rules.specs.Serial.{all_up, serial_run}
use Rattle.rules.specs.World.{World, accounts, takes_one, world_after, after_call, Premised, new_world}
use Rattle.rules.specs.Demand3.{order_in, EndState, Begins, CommandsStand}
use Rattle.rules.specs.Replay.{ConditionsReplay}
use Rattle.hub.specs.View.{view, answers_in, result_in}
use Rattle.hub.specs.Contract.{Opens, Submitted, Turned, Reported, Cancelled, Failed, Restarted, Limited}
use Rattle.hub.specs.declared.Hub.{Hub}
use Rattle.hub.specs.declared.Opened.{Opened}
use Rattle.hub.specs.declared.Outcome.{Outcome}

-- A public call with its arguments.
pub data HubCall : Type 0 where
  submits : Routine → HubCall
  turns : ℕ → HubCall  -- id
  reports : ℕ → ℕ → HubCall  -- id, code
  fails : ℕ → HubCall  -- device
  restarts : ℕ → ℤ → HubCall  -- device, setting
  cancels : ℕ → HubCall  -- id
  limits : ℕ → HubCall  -- the new K

-- The call as the rules have it.
abbrev pub call_of : HubCall → Call
call_of (submits r) = submit (commands_of r)
call_of (turns i) = turn i
call_of (reports i code) = report i code
call_of (fails d) = failure d
call_of (restarts d v) = restart d v
call_of (cancels i) = cancel i
call_of (limits k) = limit k

-- The contract of the call: of `hub::submit`, `turn`, `report`, `fail`, `restart`, `cancel` and `limit`.
abbrev pub Meets : Hub → HubCall → Outcome → Type 0
Meets h (submits r) o = Submitted h r o
Meets h (turns i) o = Turned h i o
Meets h (reports i code) o = Reported h i code o
Meets h (fails d) o = Failed h d o
Meets h (restarts d v) o = Restarted h d v o
Meets h (cancels i) o = Cancelled h i o
Meets h (limits k) o = Limited h k o

-- What happens: a call with its outcome; should it be an accepted failure, it leaves its device at the setting given here. Or a device
-- takes one of what was sent to it, passing over some.
pub data HubAct : Type 0 where
  called : HubCall → Outcome → ℤ → HubAct
  device_takes : ℕ → ℕ → HubAct  -- device, how many it passes over

-- Each call gets the hub that the last one left, and meets its contract on it.
abbrev pub Chain : Hub → List HubAct → Type 0
Chain h [] = Unit {0}
Chain h (called c o v ∷ l) = Meets h c o × Chain o.hub l
Chain h (device_takes d k ∷ l) = Chain h l

-- The hub that the last call left.
abbrev pub hub_after : Hub → List HubAct → Hub
hub_after h [] = h
hub_after h (called c o v ∷ l) = hub_after o.hub l
hub_after h (device_takes d k ∷ l) = hub_after h l

-- The world around the hub, by the outcomes of its calls.
abbrev pub world_then : World → HubAct → World
world_then w (called c o v) = after_call w (call_of c) v (result_in o)
world_then w (device_takes d k) = world_after w (takes_one d k)

abbrev pub world_then_all : World → List HubAct → World
world_then_all w [] = w
world_then_all w (x ∷ l) = world_then_all (world_then w x) l

-- The premise on the devices, by the outcomes.
abbrev pub PremiseThen : World → HubAct → Type 0
PremiseThen w (called c o v) = Premised w (call_of c) (answers_in o)
PremiseThen w (device_takes d k) = Unit {0}

abbrev pub PremiseThenAll : World → List HubAct → Type 0
PremiseThenAll w [] = Unit {0}
PremiseThenAll w (x ∷ l) = PremiseThen w x × PremiseThenAll (world_then w x) l

-- The world around a hub just opened.
abbrev pub new_world_of : Hub → World
new_world_of h = new_world (view h)

-- The three parts: end state, settled part, where commands stand. Only the first needs the premise on the devices.
pub record HubDemand3 (h : Hub) (acts : List HubAct) : Type 0 where
  pub end_state : PremiseThenAll (new_world_of h) acts → EndState (view h).devices (world_then_all (new_world_of h) acts)
  pub settled_part :
      (before rest : List HubAct) → acts ≡ before ++ rest →
      Begins (order_in (world_then_all (new_world_of h) before)).settled (entries (order_in (world_then_all (new_world_of h) acts)))
  pub commands_stand :
      let w = world_then_all (new_world_of h) acts in
      CommandsStand (accounts w) (entries (order_in w)) all_up

-- What the readers tell of each device, whether it is up and its due setting, is what the serial run in the hub's order gives, running
-- routines included.
abbrev pub ReadersTell : Hub → List HubAct → Type 0
ReadersTell h acts =
    let s = view (hub_after h acts) in
    (d : ℕ) → serial_run (entries (order_in (world_then_all (new_world_of h) acts))) all_up d ≡ record { up = s.up d; setting = due s d }

-- Demand 3, for every accepted opening and every chain.
abbrev pub HubStatement : Type 0
HubStatement = (n k first : ℕ) (o : Opened) → Opens n k first o → o.verdict ≡ Ok tt → (acts : List HubAct) → Chain o.hub acts →
    HubDemand3 o.hub acts

-- And document 02, item 4: run in the hub's order, every condition that was not skipped has the outcome that it had live. It needs no
-- premise on the devices. The proof is `hub-replay`.
abbrev pub HubReplayStatement : Type 0
HubReplayStatement =
    (n k first : ℕ) (o : Opened) → Opens n k first o → o.verdict ≡ Ok tt → (acts : List HubAct) → Chain o.hub acts →
    ConditionsReplay (world_then_all (new_world_of o.hub) acts)

-- And what the readers tell. The proof is `hub-readers`.
abbrev pub ReadersStatement : Type 0
ReadersStatement = (n k first : ℕ) (o : Opened) → Opens n k first o → o.verdict ≡ Ok tt → (acts : List HubAct) → Chain o.hub acts →
    ReadersTell o.hub acts

-- And the list that `hub::due_settings` leaves, if it is long enough: at each device, up or down, the setting that the same run gives.
abbrev pub ListTells : Hub → List HubAct → Type 0
ListTells h acts =
    let s = view (hub_after h acts) in
    (list : List ℤ) → s.devices ≤ length list → (d : ℕ) → d < s.devices →
    get_or (list_after s list) d (pos 0) ≡ (serial_run (entries (order_in (world_then_all (new_world_of h) acts))) all_up d).setting

-- The proof is `hub-list`.
abbrev pub ListStatement : Type 0
ListStatement = (n k first : ℕ) (o : Opened) → Opens n k first o → o.verdict ≡ Ok tt → (acts : List HubAct) → Chain o.hub acts →
    ListTells o.hub acts
