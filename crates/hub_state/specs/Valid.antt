-- Validity of a hub's state: what opening gives and every call keeps. Assumes nothing.
use Rattle.std.specs.Prelude.{◌≡◌, Bool, true, false, List, [], ◌∷◌, ℕ, zero, suc, ◌<◌, ◌≤◌, get_or, Option, Some, None}
use Rattle.rules_routine.specs.Limits.{max_devices, max_commands, highest_id}
use Rattle.rules_routine.specs.declared.Command.{Command}
use Rattle.rules.specs.State.{Status, to-do, in_flight, was_done, was_skipped, was_held, was_not_held, Step, Member}
use Rattle.rules.specs.Sequence.{is_running}
use Rattle.rules.specs.Progress.{is_answered}
use Rattle.rules.specs.Tables.{Each}
use Rattle.hub_sequence.specs.Links.{LinksOk, Stands}
use Rattle.hub_state.specs.View.{steps_at}
use Rattle.hub_state.specs.declared.HubState.{HubState}

abbrev pub CommandOk : Command → Type 0
CommandOk c = c.device < max_devices

abbrev pub CommandsOk : List Command → Type 0
CommandsOk cs = Each CommandOk cs

abbrev pub StepOk : Step → Type 0
StepOk x = CommandOk x.command

-- Behind the first command that is not answered: to do, or skipped by an event (document 02, item 3).
abbrev pub is_behind : Status → Bool
is_behind to-do = true
is_behind (in_flight u) = false
is_behind was_done = false
is_behind was_skipped = true
is_behind was_held = false
is_behind was_not_held = false

abbrev pub IsBehind : Step → Type 0
IsBehind x = is_behind x.status ≡ true

-- The first n of the commands are answered; the next, if there is one, is not; of those behind that each is to do or skipped.
abbrev pub AnsweredUpTo : ℕ → List Step → Type 0
AnsweredUpTo zero [] = Unit {0}
AnsweredUpTo zero (x ∷ l) = (is_answered x.status ≡ false) × Each IsBehind l
AnsweredUpTo (suc n) [] = ⊥
AnsweredUpTo (suc n) (x ∷ l) = (is_answered x.status ≡ true) × AnsweredUpTo n l

-- A routine has at most as many commands as it may, on devices that there can be, and an id; and the hub knows how far it has come.
pub record SlotOk (h : HubState) (x : ℕ) : Type 0 where
  pub fits : get_or h.counts x 0 ≤ max_commands
  pub devices_fit : Each StepOk (steps_at h x)
  pub come_so_far : AnsweredUpTo (get_or h.answered x 0) (steps_at h x)
  pub has-id : 0 < get_or h.ids x 0

pub record StateOk (h : HubState) : Type 0 where
  pub devices_fit : h.devices ≤ max_devices
  pub some_id : 0 < h.next_id
  pub ids_fit : h.next_id ≤ suc highest_id
  pub links_ok : LinksOk h.links
  pub slots_ok : (x : ℕ) → Stands h.links x → SlotOk h x
  pub ids_below : (x : ℕ) → Stands h.links x → get_or h.ids x 0 < h.next_id
  pub ids_differ : (x y : ℕ) → Stands h.links x → Stands h.links y → get_or h.ids x 0 ≡ get_or h.ids y 0 → x ≡ y

abbrev pub PlaceOk : HubState → Option ℕ → Type 0
PlaceOk h (Some x) = Stands h.links x
PlaceOk h None = Unit {0}

-- A pass count has 8 bits in the code.
abbrev pub highest_passed : ℕ
highest_passed = 255

-- A running routine can be passed once more.
abbrev pub CanPass : Member → Type 0
CanPass m = is_running m ≡ true → m.passed < highest_passed

-- Each of these can be passed once more.
abbrev pub RoomToPass : List Member → Type 0
RoomToPass l = Each CanPass l
