-- Document 01: "The hub's order is the settled part, then each routine of the sequence followed by its events." The order is built from the
-- answers; this says that it is the order of the routines that the hub holds, that its serial run gives what the hub has of each device,
-- and that the accounts have of each command what the hub has. The proof is `hub-order` of crate `rules_promises`. Assumes nothing.
use Rattle.std.specs.Prelude.{◌≡◌, List, [], ◌∷◌, map, ℕ, ℤ, if◌then◌else◌}
use Rattle.rules_routine.specs.declared.Command.{Command}
use Rattle.rules.specs.Tables.{Each}
use Rattle.rules.specs.State.{Status, to-do, in_flight, was_done, was_skipped, was_held, was_not_held, Step, Member, State}
use Rattle.rules.specs.Progress.{is_done}
use Rattle.rules.specs.Due.{due}
use Rattle.rules.specs.Open.{opened, open_of}
use Rattle.rules.specs.History.{Outcome, not_yet, reported_done, reported_failed, not_sent, by_event, found_held, found_not_held}
use Rattle.rules.specs.History.{Noted, Account}
use Rattle.rules.specs.Order.{Entry, routine, event, entries}
use Rattle.rules.specs.Serial.{all_up, serial_run}
use Rattle.rules.specs.World.{World, accounts, Act, world_after_all, new_world}
use Rattle.rules.specs.Demand3.{order_in}

-- The done commands of a routine, in turn.
abbrev pub done_steps : List Step → List Command
done_steps [] = []
done_steps (x ∷ l) = if is_done x.status then x.command ∷ done_steps l else done_steps l

-- What is told of a command is what the hub has of it: to do and in flight are not answered yet.
pub data Agree : Status → Outcome → Type 0 where
  agree_to_do : Agree to-do not_yet
  agree_in_flight : {u : ℤ} → Agree (in_flight u) not_yet
  agree_done : Agree was_done reported_done
  agree_failed : Agree was_skipped reported_failed
  agree_not_sent : Agree was_skipped not_sent
  agree_by_event : Agree was_skipped by_event
  agree_held : Agree was_held found_held
  agree_not_held : Agree was_not_held found_not_held

-- The commands of a routine in turn, as they are told of and as the hub holds them.
pub data AllAgree : List Noted → List Step → Type 0 where
  no_command : AllAgree [] []
  one_more : (c : Command) {o : Outcome} {s : Status} {l : List Noted} {k : List Step} → Agree s o → AllAgree l k →
      AllAgree (record { command = c; outcome = o } ∷ l) (record { command = c; status = s } ∷ k)

-- The account of a routine, told by calls and answers alone, has its commands as the hub has them: it knows those that an event skipped
-- (document 02, item 3).
abbrev pub CommandsTold : (ℕ → Account) → Member → Type 0
CommandsTold a m = AllAgree (a m.id).commands m.steps

-- The entry of a routine that the hub holds.
abbrev pub entry_of : Member → Entry
entry_of m = routine m.id (done_steps m.steps) m.committed

-- The routines of an order, without its events.
abbrev pub routines_in : List Entry → List Entry
routines_in [] = []
routines_in (routine i cs b ∷ l) = routine i cs b ∷ routines_in l
routines_in (event e ∷ l) = routines_in l

pub record IsHubs (w : World) : Type 0 where
  pub routines_are : routines_in (order_in w).unsettled ≡ map entry_of w.state.sequence
  pub devices_are : (d : ℕ) → serial_run (entries (order_in w)) all_up d ≡ record { up = w.state.up d; setting = due w.state d }
  pub commands_are : Each (CommandsTold (accounts w)) w.state.sequence

-- For every accepted opening and every list.
abbrev pub OrderIsHubs : Type 0
OrderIsHubs = (n k first : ℕ) (s : State) → open_of n k first ≡ opened s → (acts : List Act) → IsHubs (world_after_all (new_world s) acts)
