-- Demand 3, its statement. The proof is `demand_3` of crate `rules_promises`; `docs/DEMAND-3.md` walks through it. Assumes nothing.
use Rattle.std.specs.Prelude.{◌≡◌, ◌⊎◌, Bool, true, false, ◌&&◌, List, [], ◌∷◌, ◌++◌, map, ℕ, ◌<◌}
use Rattle.rules_routine.specs.Routine.{is_condition}
use Rattle.rules_routine.specs.declared.Command.{Command}
use Rattle.rules.specs.Tables.{any_of}
use Rattle.rules.specs.State.{State}
use Rattle.rules.specs.Progress.{counts_as_must}
use Rattle.rules.specs.Open.{opened, open_of}
use Rattle.rules.specs.History.{Outcome, not_yet, reported_done, reported_failed, not_sent, by_event, found_held, found_not_held}
use Rattle.rules.specs.History.{Noted, Account, working_of}
use Rattle.rules.specs.Order.{Event, is_of, Entry, routine, event, Order, entries, order_of}
use Rattle.rules.specs.Serial.{DeviceState, all_up, run_command, run_entry, serial_run}
use Rattle.rules.specs.World.{putting_back, same_origin, Message, World, accounts, Act, world_after_all, PremiseAll, new_world}

-- The order of a world: built from its calls and answers.
abbrev pub order_in : World → Order
order_in w = order_of w.history

-- Part 1, end state. No routine runs: by the answers, none is placed and neither committed nor aborted.
abbrev pub NoneRuns : World → Type 0
NoneRuns w = (i : ℕ) → (accounts w i).running ≡ false

-- Was it sent to put the device back?
abbrev pub is_back : Message → Bool
is_back m = same_origin m.origin putting_back

-- The demand: "the committed routines, each with the commands reported done, and all accepted failures and restarts".
abbrev pub committed_part : List Entry → List Entry
committed_part [] = []
committed_part (routine i cs true ∷ l) = routine i cs true ∷ committed_part l
committed_part (routine i cs false ∷ l) = committed_part l
committed_part (event e ∷ l) = event e ∷ committed_part l

-- Each working device, nothing that puts it back being left to take, is up in the serial run of these and has its setting. They run "one
-- after another from the opening, in the hub's order".
abbrev pub EndState : ℕ → World → Type 0
EndState n w =
    NoneRuns w → (d : ℕ) → d < n → working_of w.history d ≡ true → any_of is_back (w.devices d).sent ≡ false →
    serial_run (committed_part (entries (order_in w))) all_up d ≡ record { up = true; setting = (w.devices d).setting }

-- Part 2, settled part. The demand: "what was settled after any first part of the list stands unchanged and unmoved at the beginning of
-- that order"
abbrev pub Begins : List Entry → List Entry → Type 0
Begins first whole = (rest : List Entry) × (whole ≡ first ++ rest)

abbrev pub SettledStands : World → List Act → Type 0
SettledStands w acts =
    (before rest : List Act) → acts ≡ before ++ rest →
    Begins (order_in (world_after_all w before)).settled (entries (order_in (world_after_all w acts)))

-- Part 3, where commands stand. Document 01, The hub's order: "In it every done command finds its device up; every skipped one was reported
-- failed or finds it down." Where it finds it down it is no must: "If D is down, a must aborts R and a best-effort is skipped" (Turn of R).
-- Document 02, item 3, has "a third ground for a skipped command", a best-effort one: an event of its device, which "follows the routine in
-- the order". Item 4 has "further grounds": a command, must or best-effort, after a condition that did not hold or was skipped; a condition
-- is skipped as its device is down ("the following command decides: must aborts, best-effort skips the condition"), or by an event, with
-- the tag of the command after it. One that was not skipped finds its device up; that it then has the outcome that it had live is the
-- statement of `Replay.antt`.

-- The events behind a routine and before the next one, in what stands behind it.
abbrev pub events_next : List Entry → List Event
events_next [] = []
events_next (routine i cs b ∷ l) = []
events_next (event e ∷ l) = e ∷ events_next l

-- Not held, or skipped, which "counts as not held".
abbrev pub not_held_by : Outcome → Bool
not_held_by not_yet = false
not_held_by reported_done = false
not_held_by reported_failed = true
not_held_by not_sent = true
not_held_by by_event = true
not_held_by found_held = false
not_held_by found_not_held = true

-- A condition after which the following command is skipped.
abbrev pub skips_following : Noted → Bool
skips_following x = is_condition x.command && not_held_by x.outcome

-- A command that was answered so: its device; is it up where the routine stands; did the condition before it skip it; is the tag that
-- counts for it must; `behind`: the events behind the routine.
abbrev pub Finds : List Event → ℕ → Bool → Bool → Bool → Outcome → Type 0
Finds behind d isUp skipping must not_yet = Unit {0}
Finds behind d isUp skipping must reported_done = isUp ≡ true
Finds behind d isUp skipping must reported_failed = Unit {0}
Finds behind d isUp skipping must not_sent = (skipping ≡ true) ⊎ ((isUp ≡ false) × (must ≡ false))
Finds behind d isUp skipping must by_event = (must ≡ false) × (any_of (is_of d) behind ≡ true)
Finds behind d isUp skipping must found_held = isUp ≡ true
Finds behind d isUp skipping must found_not_held = isUp ≡ true

-- What a command that was answered so leaves: a done one is run.
abbrev pub after_noted : Outcome → Command → (ℕ → DeviceState) → ℕ → DeviceState
after_noted not_yet c t = t
after_noted reported_done c t = run_command c t
after_noted reported_failed c t = t
after_noted not_sent c t = t
after_noted by_event c t = t
after_noted found_held c t = t
after_noted found_not_held c t = t

-- The commands of a routine, in turn, as they were answered; `skipping`: does the command before these skip the first of them?
abbrev pub AllFind : List Event → Bool → List Noted → (ℕ → DeviceState) → Type 0
AllFind behind skipping [] t = Unit {0}
AllFind behind skipping (x ∷ l) t =
    Finds behind x.command.device (t x.command.device).up skipping (counts_as_must x.command (map (λ (y : Noted). y.command) l))
    x.outcome
    × AllFind behind (skips_following x) l (after_noted x.outcome x.command t)

-- Those of them that were done.
abbrev pub done_ones : List Noted → List Command
done_ones [] = []
done_ones (x ∷ l) = if_done x.outcome x.command (done_ones l)
  where
    if_done : Outcome → Command → List Command → List Command
    if_done not_yet c cs = cs
    if_done reported_done c cs = c ∷ cs
    if_done reported_failed c cs = cs
    if_done not_sent c cs = cs
    if_done by_event c cs = cs
    if_done found_held c cs = cs
    if_done found_not_held c cs = cs

-- The routines of an order, run from t: each one's done commands are those that were answered done, and its answered commands find what
-- they should.
abbrev pub CommandsStand : (ℕ → Account) → List Entry → (ℕ → DeviceState) → Type 0
CommandsStand a [] t = Unit {0}
CommandsStand a (routine i cs b ∷ l) t = (cs ≡ done_ones (a i).commands) × AllFind (events_next l) false (a i).commands t
    × CommandsStand a l (run_entry (routine i cs b) t)
CommandsStand a (event e ∷ l) t = CommandsStand a l (run_entry (event e) t)

-- The three parts, for a list of calls and device steps from the hub s, just opened. Only the first needs the premise on the devices.
pub record Demand3 (s : State) (acts : List Act) : Type 0 where
  pub end_state : PremiseAll (new_world s) acts → EndState s.devices (world_after_all (new_world s) acts)
  pub settled_part : SettledStands (new_world s) acts
  pub commands_stand :
      let w = world_after_all (new_world s) acts in
      CommandsStand (accounts w) (entries (order_in w)) all_up

-- Demand 3: for every accepted opening and every list.
abbrev pub Statement : Type 0
Statement = (n k first : ℕ) (s : State) → open_of n k first ≡ opened s → (acts : List Act) → Demand3 s acts
