-- Document 02, item 4: "Running the committed routines and the accepted failures and restarts in the hub's order must give every condition
-- that was not skipped the same outcome that it had live." The proof is `replay` of crate `rules_promises`. Assumes nothing.
use Rattle.std.specs.Prelude.{◌≡◌, Bool, true, false, List, [], ◌∷◌, ℕ}
use Rattle.std.specs.Int.Signed.{lt_z}
use Rattle.rules_routine.specs.Routine.{is_condition}
use Rattle.rules_routine.specs.declared.Command.{Command}
use Rattle.rules.specs.State.{State}
use Rattle.rules.specs.Open.{opened, open_of}
use Rattle.rules.specs.History.{Outcome, not_yet, reported_done, reported_failed, not_sent, by_event, found_held, found_not_held}
use Rattle.rules.specs.History.{Noted, Account}
use Rattle.rules.specs.Order.{Entry, routine, event, entries}
use Rattle.rules.specs.Serial.{DeviceState, all_up, run_entry}
use Rattle.rules.specs.World.{World, accounts, Act, world_after_all, new_world}
use Rattle.rules.specs.Demand3.{order_in, committed_part, skips_following, after_noted}

-- A command that was answered so, where the run has its device at t; `skipping`: did the condition before it skip it? A condition that was
-- not skipped finds its device up, and its setting below the number exactly if it did not hold. No other command was answered as a
-- condition is, nor a condition as a command that is sent; and what a condition skips was not sent, so that it was reported neither done
-- nor failed.
abbrev pub Replayed : Bool → Command → DeviceState → Outcome → Type 0
Replayed skipping c t not_yet = Unit {0}
Replayed skipping c t reported_done = (is_condition c ≡ false) × (skipping ≡ false)
Replayed skipping c t reported_failed = (is_condition c ≡ false) × (skipping ≡ false)
Replayed skipping c t not_sent = Unit {0}
Replayed skipping c t by_event = Unit {0}
Replayed skipping c t found_held = (is_condition c ≡ true) × (t.up ≡ true) × (lt_z t.setting c.setting ≡ false)
Replayed skipping c t found_not_held = (is_condition c ≡ true) × (t.up ≡ true) × (lt_z t.setting c.setting ≡ true)

-- The commands of a routine, in turn, run from t: the done ones are run.
abbrev pub AllReplayed : Bool → List Noted → (ℕ → DeviceState) → Type 0
AllReplayed skipping [] t = Unit {0}
AllReplayed skipping (x ∷ l) t =
    Replayed skipping x.command (t x.command.device) x.outcome
    × AllReplayed (skips_following x) l (after_noted x.outcome x.command t)

-- The routines of an order, run from t.
abbrev pub Replays : (ℕ → Account) → List Entry → (ℕ → DeviceState) → Type 0
Replays a [] t = Unit {0}
Replays a (routine i cs b ∷ l) t = AllReplayed false (a i).commands t × Replays a l (run_entry (routine i cs b) t)
Replays a (event e ∷ l) t = Replays a l (run_entry (event e) t)

-- Along the serial run in the hub's order, of every routine in it, running ones included; and, as the item words it, of the committed
-- routines, run with the events and without the routines that still run.
pub record ConditionsReplay (w : World) : Type 0 where
  pub all_routines : Replays (accounts w) (entries (order_in w)) all_up
  pub committed_routines : Replays (accounts w) (committed_part (entries (order_in w))) all_up

-- For every accepted opening and every list.
abbrev pub ReplayStatement : Type 0
ReplayStatement =
    (n k first : ℕ) (s : State) → open_of n k first ≡ opened s → (acts : List Act) → ConditionsReplay (world_after_all (new_world s) acts)
