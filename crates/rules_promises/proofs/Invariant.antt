-- What holds between calls, of the hub, its order, the accounts and each device. Assumes nothing.
use Rattle.std.proofs.Common.{Some}
use mathlib.Core.Path.{◌≡◌}
use mathlib.Core.Bool.{Bool, true, false, not}
use mathlib.Core.List.{List, [], ◌∷◌, ◌++◌, map}
use Prim.Native.Nat.{ℕ, ◌<◌, ◌≤◌}
use lib.Dec.{eqb}
use lib.IntN.{ℤ, pos}
use Rattle.std.specs.Prelude.{if◌then◌else◌}
use Rattle.rules_routine.specs.declared.Command.{Command}
use Rattle.rules.specs.Tables.{any_of, Each}
use Rattle.rules.specs.State.{State}
use Rattle.rules.specs.Answers.{Call, submit, turn, report, failure, restart, cancel, limit}
use Rattle.rules.specs.Progress.{begun, finished, in_flight_on, Flight, flight}
use Rattle.rules.specs.Due.{due}
use Rattle.rules.specs.Report.{code_done}
use Rattle.rules.specs.Events.{is_halfway}
use Rattle.rules.specs.History.{Account}
use Rattle.rules.specs.Order.{is_of}
use Rattle.rules.specs.Order.{Event, failure_event, restart_event, Entry, routine, event, Order, before_bar, entries}
use Rattle.rules.specs.World.{Origin, putting_back, sent_for, same_origin, Message, Device}
use Rattle.rules.specs.HubOrder.{AllAgree}
use Rattle.rules.proofs.Lists.{IdsOk}
use Rattle.rules_promises.proofs.Groups.{Group, members, ids, flat, entry_ids, last_restart}
use Rattle.rules.proofs.Schedules.{has_flight}
use Rattle.rules_promises.proofs.Steps.{InTurn, left_steps}

-- ---- marks

-- d has not been begun, and no event of it is attached
pub record NotBegun (d : ℕ) (g : Group) : Type 0 where
  pub idle : begun d g.member ≡ false
  pub bare : any_of (is_of d) g.events ≡ false

pub record HasFinished (d : ℕ) (g : Group) : Type 0 where
  pub finished-it : finished d g.member ≡ true

-- the routine at the mark: it has finished d, or it has begun it and no event of d is attached
pub data AtMark (d : ℕ) (g : Group) : Type 0 where
  whole : HasFinished d g → AtMark d g
  part : begun d g.member ≡ true → any_of (is_of d) g.events ≡ false → AtMark d g

-- the mark is i: those ahead of it have finished d, those behind it are quiet
pub data MarkedAt (d i : ℕ) : List Group → Type 0 where
  here : {g : Group} {l : List Group} → g.member.id ≡ i → AtMark d g → Each (NotBegun d) l → MarkedAt d i (g ∷ l)
  there : {g : Group} {l : List Group} → HasFinished d g → MarkedAt d i l → MarkedAt d i (g ∷ l)

pub data MarkOk (d i : ℕ) (l : List Group) : Type 0 where
  unmarked : i ≡ 0 → Each (NotBegun d) l → MarkOk d i l
  marked : MarkedAt d i l → MarkOk d i l

-- what is committed has nothing left
pub record CommittedHasNothingLeft (g : Group) : Type 0 where
  pub nothing_left : g.member.committed ≡ true → left_steps g.member.steps ≡ []

pub record CommandsInTurn (g : Group) : Type 0 where
  pub turns : InTurn g.member.steps

-- ---- the hub

pub record HubOk (s : State) (l : List Group) : Type 0 where
  pub sequence_is : s.sequence ≡ members l
  pub ids_ok : IdsOk s.next_id (ids l)
  pub marks : (d : ℕ) → MarkOk d (s.mark d) l
  pub nothing_left_all : Each CommittedHasNothingLeft l
  pub turns : Each CommandsInTurn l
  pub some_id : 0 < s.next_id

-- a device with a command in flight on it is up
pub record InFlightIsUp (s : State) (g : Group) : Type 0 where
  pub flies_up : (d : ℕ) → in_flight_on d g.member ≡ true → s.up d ≡ true

-- a routine that is not running, begun and unfinished with d
pub record NotHalfway (d : ℕ) (g : Group) : Type 0 where
  pub not_halfway : is_halfway d g.member ≡ false

-- the first runs
abbrev pub FirstRuns : List Group → Type 0
FirstRuns [] = Unit {0}
FirstRuns (g ∷ l) = g.member.committed ≡ false

-- ---- the serial run, for one device

abbrev pub set_event : ℕ → Event → ℤ → ℤ
set_event d (failure_event e) v = v
set_event d (restart_event e w) v = if eqb e d then w else v

abbrev pub set_commands : ℕ → List Command → ℤ → ℤ
set_commands d [] v = v
set_commands d (c ∷ l) v = set_commands d l (if eqb c.device d then c.setting else v)

-- the setting that d has after these entries
abbrev pub set_after : ℕ → List Entry → ℤ → ℤ
set_after d [] v = v
set_after d (routine i cs b ∷ l) v = set_after d l (set_commands d cs v)
set_after d (event e ∷ l) v = set_after d l (set_event d e v)

abbrev pub up_event : ℕ → Event → Bool → Bool
up_event d (failure_event e) u = if eqb e d then false else u
up_event d (restart_event e w) u = if eqb e d then true else u

-- and whether it is up
abbrev pub up_after : ℕ → List Entry → Bool → Bool
up_after d [] u = u
up_after d (routine i cs b ∷ l) u = up_after d l u
up_after d (event e ∷ l) u = up_after d l (up_event d e u)

-- ---- order and hub

-- the restarts that a routine keeps are the last ones among its events
pub record EventsOk (g : Group) : Type 0 where
  pub events_ok : (d : ℕ) → g.member.restarts d ≡ last_restart d g.events

-- `lead`: events attached to 0 in this call, which stand behind the bar until it moves; between calls there are none
pub record OrderOk (s : State) (o : Order) (lead : List Event) (l : List Group) : Type 0 where
  pub unsettled-is : o.unsettled ≡ map event lead ++ flat l
  pub settled_is : (d : ℕ) → set_after d (o.settled ++ map event lead) (pos 0) ≡ s.settled_at d
  pub up_is : (d : ℕ) → up_after d (entries o) true ≡ s.up d
  pub events_ok : Each EventsOk l
  pub ids_ok : IdsOk s.next_id (entry_ids o.settled ++ ids l)
  pub barred : before_bar o.settled ≡ o.settled

-- ---- accounts and hub

pub record AccountTells (a : ℕ → Account) (g : Group) : Type 0 where
  pub runs : (a g.member.id).running ≡ not g.member.committed
  pub flies_is : (a g.member.id).flying ≡ has_flight (flight g.member.steps)
  pub sent_is : (x : Flight) → flight g.member.steps ≡ Some x → (a g.member.id).last_sent ≡ x.command
  pub agrees : AllAgree (a g.member.id).commands g.member.steps

-- ---- devices

-- what was sent for an id is one of those that its account counts
abbrev pub CountedSend : (ℕ → Account) → Origin → Type 0
CountedSend a putting_back = Unit {0}
CountedSend a (sent_for i n) = n ≤ (a i).sends

abbrev pub CountedMessage : (ℕ → Account) → Message → Type 0
CountedMessage a m = CountedSend a m.origin

abbrev pub back_to : ℤ → Message
back_to v = record { setting = v; origin = putting_back }

-- these were sent to a device with setting u: it comes to v for good, for nothing was sent, or the last of them puts it back to v
pub data ReachesSetting (u : ℤ) (v : ℤ) (l : List Message) : Type 0 where
  has : l ≡ [] → u ≡ v → ReachesSetting u v l
  goes-back : (k : List Message) → l ≡ k ++ (back_to v ∷ []) → ReachesSetting u v l

abbrev pub flight_origin : (ℕ → Account) → ℕ → Origin
flight_origin a i = sent_for i (a i).sends

pub record NotOrigin (o : Origin) (m : Message) : Type 0 where
  pub other : same_origin m.origin o ≡ false

-- the command in flight of routine i: taken, or the last on its way
pub data OnItsWay (a : ℕ → Account) (i : ℕ) (x : Flight) (w : Device) : Type 0 where
  arrived : w.sent ≡ [] → w.setting ≡ x.command.setting → any_of (same_origin (flight_origin a i)) w.took ≡ true → OnItsWay a i x w
  going : (k : List Message) → w.sent ≡ k ++ (record { setting = x.command.setting; origin = flight_origin a i } ∷ []) →
      Each (NotOrigin (flight_origin a i)) k →
      any_of (same_origin (flight_origin a i)) w.took ≡ false → ReachesSetting w.setting x.due_then k → OnItsWay a i x w

pub record NoFlightOn (d : ℕ) (g : Group) : Type 0 where
  pub no_flight_on : in_flight_on d g.member ≡ false

-- one routine of the list has a command in flight on d, and it flies so
pub data OneFlightOn (d : ℕ) (a : ℕ → Account) (w : Device) : List Group → Type 0 where
  first_has_it : {g : Group} {l : List Group} (x : Flight) → flight g.member.steps ≡ Some x → x.command.device ≡ d →
      OnItsWay a g.member.id x w → Each (NoFlightOn d) l → OneFlightOn d a w (g ∷ l)
  later_has_it : {g : Group} {l : List Group} → NoFlightOn d g → OneFlightOn d a w l → OneFlightOn d a w (g ∷ l)

pub data DeviceAt (d : ℕ) (isUp : Bool) (v : ℤ) (a : ℕ → Account) (l : List Group) (w : Device) : Type 0 where
  is_down : isUp ≡ false → w.sent ≡ [] → DeviceAt d isUp v a l w
  none_on_it : isUp ≡ true → Each (NoFlightOn d) l → ReachesSetting w.setting v w.sent → DeviceAt d isUp v a l w
  one_on_it : isUp ≡ true → OneFlightOn d a w l → DeviceAt d isUp v a l w

pub record DeviceOk (d : ℕ) (s : State) (a : ℕ → Account) (l : List Group) (w : Device) : Type 0 where
  pub old_sent : Each (CountedMessage a) w.sent
  pub old_took : Each (CountedSend a) w.took
  pub device_at : DeviceAt d (s.up d) (due s d) a l w

-- the premise on a call, with the accounts and devices before it
abbrev pub PremiseOnCall : (ℕ → Account) → (ℕ → Device) → Call → Type 0
PremiseOnCall a ds (submit cs) = Unit {0}
PremiseOnCall a ds (turn i) = Unit {0}
PremiseOnCall a ds (report i code) = any_of (same_origin (sent_for i (a i).sends)) (ds (a i).last_sent.device).took ≡ eqb code code_done
PremiseOnCall a ds (failure d) = Unit {0}
PremiseOnCall a ds (restart d v) = v ≡ (ds d).setting
PremiseOnCall a ds (cancel i) = Unit {0}
PremiseOnCall a ds (limit k) = Unit {0}
