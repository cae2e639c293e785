-- Document 01, "The hub's order": "Built from the accepted calls and their answers alone, it is a list, empty at first, with a bar that
-- ends the settled part." Assumes nothing.
use Rattle.std.specs.Prelude.{Bool, true, false, ◌||◌, List, [], ◌∷◌, ◌++◌, ℕ, eqb, ℤ, pos, if◌then◌else◌}
use Rattle.rules_routine.specs.declared.Command.{Command}
use Rattle.rules.specs.Answers.{Call, submit, turn, report, failure, restart, cancel, limit, Answer, refused, placed, wait, send}
use Rattle.rules.specs.Answers.{done}
use Rattle.rules.specs.Answers.{skipped, held, not_held, committed, aborted, down, up, limited}
use Rattle.rules.specs.History.{Told, Account, accounts_of}

pub data Event : Type 0 where
  failure_event : ℕ → Event  -- device
  restart_event : ℕ → ℤ → Event  -- device, the setting it reports

abbrev pub device_of : Event → ℕ
device_of (failure_event d) = d
device_of (restart_event d v) = d

abbrev pub is_of : ℕ → Event → Bool
is_of d x = eqb (device_of x) d

-- A routine: its id, its done commands in turn, is it committed; or an event.
pub data Entry : Type 0 where
  routine : ℕ → List Command → Bool → Entry
  event : Event → Entry

-- The list, cut at the bar.
pub record Order : Type 0 where
  pub settled : List Entry
  pub unsettled : List Entry

abbrev pub empty_order : Order
empty_order = record { settled = []; unsettled = [] }

-- "it goes before the next routine .., or last"
abbrev pub before_next : Entry → List Entry → List Entry
before_next x [] = x ∷ []
before_next x (routine i cs b ∷ l) = x ∷ (routine i cs b ∷ l)
before_next x (event e ∷ l) = event e ∷ before_next x l

abbrev pub behind_routine : Entry → ℕ → List Entry → List Entry
behind_routine x j [] = x ∷ []
behind_routine x j (routine i cs b ∷ l) = routine i cs b ∷ (if eqb i j then before_next x l else behind_routine x j l)
behind_routine x j (event e ∷ l) = event e ∷ behind_routine x j l

-- Does the routine X stand in this part?
abbrev pub has_routine : ℕ → List Entry → Bool
has_routine j [] = false
has_routine j (routine i cs b ∷ l) = eqb i j || has_routine j l
has_routine j (event e ∷ l) = has_routine j l

-- "Placed, or an event, after X: it goes before the next routine behind X, or last; after 0, before the first routine behind the bar, or
-- last." Where X stands before the bar, so does what is put after it.
unfoldable pub put_after : Entry → ℕ → Order → Order
put_after x j o =
    if eqb j 0 then record { settled = o.settled; unsettled = before_next x o.unsettled }
    else if has_routine j o.settled then record { settled = behind_routine x j o.settled; unsettled = o.unsettled }
    else record { settled = o.settled; unsettled = behind_routine x j o.unsettled }

-- The routine R, wherever it stands, becomes what f makes of its done commands and its commit.
abbrev pub edit : ℕ → (List Command → Bool → List Entry) → List Entry → List Entry
edit r f [] = []
edit r f (routine i cs b ∷ l) = if eqb i r then f cs b ++ l else routine i cs b ∷ edit r f l
edit r f (event e ∷ l) = event e ∷ edit r f l

abbrev pub edit_order : ℕ → (List Command → Bool → List Entry) → Order → Order
edit_order r f o = record { settled = edit r f o.settled; unsettled = edit r f o.unsettled }

-- "R goes, its events stay."
abbrev pub goes : List Command → Bool → List Entry
goes cs b = []

-- "R gains the command last sent for it."
abbrev pub gains : ℕ → Command → List Command → Bool → List Entry
gains r c cs b = routine r (cs ++ (c ∷ [])) b ∷ []

-- "Committed R: noted."
abbrev pub noted : ℕ → List Command → Bool → List Entry
noted r cs b = routine r cs true ∷ []

-- The setting that a restart reports.
abbrev pub setting_reported : Call → ℤ
setting_reported (submit cs) = pos 0
setting_reported (turn i) = pos 0
setting_reported (report i code) = pos 0
setting_reported (failure d) = pos 0
setting_reported (restart d v) = v
setting_reported (cancel i) = pos 0
setting_reported (limit k) = pos 0

-- One answer. `a`: the accounts before the call.
abbrev pub order_after : Call → (ℕ → Account) → Answer → Order → Order
order_after c a (refused r) o = o
order_after c a (placed i j) o = put_after (routine i [] false) j o
order_after c a (wait i j) o = o
order_after c a (send i x) o = o
order_after c a (done i) o = edit_order i (gains i (a i).last_sent) o
order_after c a (skipped i l) o = o
order_after c a (held i) o = o
order_after c a (not_held i) o = o
order_after c a (committed i) o = edit_order i (noted i) o
order_after c a (aborted i l) o = edit_order i goes o
order_after c a (down d j) o = put_after (event (failure_event d)) j o
order_after c a (up d j) o = put_after (event (restart_event d (setting_reported c))) j o
order_after c a (limited k) o = o

abbrev pub order_after_all : Call → (ℕ → Account) → List Answer → Order → Order
order_after_all c a [] o = o
order_after_all c a (x ∷ l) o = order_after_all c a l (order_after c a x o)

-- "at the call's end the bar goes before the first routine not committed, or to the end": what then stands before the bar.
abbrev pub before_bar : List Entry → List Entry
before_bar [] = []
before_bar (event e ∷ l) = event e ∷ before_bar l
before_bar (routine i cs true ∷ l) = routine i cs true ∷ before_bar l
before_bar (routine i cs false ∷ l) = []

-- And what then stands behind the bar.
abbrev pub behind_bar : List Entry → List Entry
behind_bar [] = []
behind_bar (event e ∷ l) = behind_bar l
behind_bar (routine i cs true ∷ l) = behind_bar l
behind_bar (routine i cs false ∷ l) = routine i cs false ∷ l

-- The whole list.
abbrev pub entries : Order → List Entry
entries o = o.settled ++ o.unsettled

unfoldable pub move_bar : Order → Order
move_bar o = record { settled = before_bar (entries o); unsettled = behind_bar (entries o) }

-- The order after a history.
abbrev pub order_of : List Told → Order
order_of [] = empty_order
order_of (t ∷ earlier) = move_bar (order_after_all t.call (accounts_of earlier) t.answers (order_of earlier))
