-- The printed key: what the line program prints, told by calls, answers and the serial run in the hub's order. The statements are
-- `PrintedKey`, `KeyStatement` and, of both together, `KeyOfDevices`; the proofs are `printed_key`, `key_demand_3` and `key_of_devices` of
-- `proofs/Theorem.antt`. Assumes nothing.
use Rattle.std.specs.Prelude.{◌≡◌, ◌⊎◌, Bool, true, false, List, [], ◌∷◌, ◌++◌, ℕ, zero, suc, ◌<◌, Option, None, Some}
use Rattle.rules.specs.Tables.{any_of}
use Rattle.rules.specs.State.{State}
use Rattle.rules.specs.Answers.{Call}
use Rattle.rules.specs.Open.{Opening, opened, not_opened, open_of}
use Rattle.rules.specs.Calls.{result_of}
use Rattle.rules.specs.History.{Told, accounts_of, working_of}
use Rattle.rules.specs.Order.{order_of, entries}
use Rattle.rules.specs.Serial.{DeviceState, all_up, serial_run}
use Rattle.rules.specs.World.{World, Act, calls, takes_one, world_after_all, PremiseAll, new_world}
use Rattle.rules.specs.Demand3.{NoneRuns, is_back, Begins, committed_part, CommandsStand}
use Rattle.rules.specs.Replay.{Replays}
use Rattle.line_rules.specs.Text.{bytes}
use Rattle.line_rules.specs.Pieces.{lines_of}
use Rattle.line_rules.specs.Reading.{as_call, Line, opening, calling, unread, read_line}
use Rattle.line_rules.specs.Printing.{refusal_text, as_line, answers_text, device_text_of}
use Rattle.line_rules.specs.Program.{program_text}

-- ---- what the program replies to a line

-- A call with its answers; or what an opening gave; or the line is not read.
pub data Reply : Type 0 where
  answered : Told → Reply
  opening_gave : Opening → Reply
  not_read : Reply

-- A call on the hub of the last accepted `O`, if there was one. "before an accepted `O`, prints `unread`"
abbrev pub reply_to_call : Option State → Call → Reply
reply_to_call None c = not_read
reply_to_call (Some s) c = answered (record { call = c; answers = (result_of s c).answers })

abbrev pub reply_to : Option State → Line → Reply
reply_to h (opening n k first) = opening_gave (open_of n k first)
reply_to h (calling c) = reply_to_call h (as_call c)
reply_to h unread = not_read

-- "A later accepted `O` starts a new hub."
abbrev pub hub_opened : Option State → Opening → Option State
hub_opened h (opened s) = Some s
hub_opened h (not_opened r) = h

-- "each call gets the hub that the last one left, refused or not"
abbrev pub hub_called : Option State → Call → Option State
hub_called None c = None
hub_called (Some s) c = Some (result_of s c).state

abbrev pub hub_left : Option State → Line → Option State
hub_left h (opening n k first) = hub_opened h (open_of n k first)
hub_left h (calling c) = hub_called h (as_call c)
hub_left h unread = h

-- The lines in turn: a reply to each.
abbrev pub replies_to : Option State → List (List ℕ) → List Reply
replies_to h [] = []
replies_to h (l ∷ ls) = reply_to h (read_line l) ∷ replies_to (hub_left h (read_line l)) ls

-- ---- their text

-- "One line of output each, ended by byte 10; an abort caused by `F` or `R` is printed first, on a line of its own."
abbrev pub reply_text : Reply → List ℕ
reply_text (answered t) = answers_text t.answers
reply_text (opening_gave (opened s)) = as_line (bytes "opened")
reply_text (opening_gave (not_opened r)) = as_line (refusal_text r)
reply_text not_read = as_line (bytes "unread")

abbrev pub replies_text : List Reply → List ℕ
replies_text [] = []
replies_text (r ∷ rs) = reply_text r ++ replies_text rs

-- ---- what they tell, and the serial run

-- A reply behind a history, which has the latest first.
abbrev pub tells : Reply → List Told → List Told
tells (answered t) earlier = t ∷ earlier
tells (opening_gave o) earlier = earlier
tells not_read earlier = earlier

abbrev pub told_behind : List Told → List Reply → List Told
told_behind earlier [] = earlier
told_behind earlier (r ∷ rs) = told_behind (tells r earlier) rs

-- The calls and answers of these replies.
abbrev pub told_by : List Reply → List Told
told_by rs = told_behind [] rs

-- Document 01, "The hub's order": "Built from the accepted calls and their answers alone"; "It runs from all devices up at 0".
abbrev pub run_of : List Told → ℕ → DeviceState
run_of history = serial_run (entries (order_of history)) all_up

-- "one line a device": up, with its setting, or down
abbrev pub device_line : ℕ → DeviceState → List ℕ
device_line d x = as_line (device_text_of d x.up x.setting)

-- Of so many devices, from d on.
abbrev pub device_lines_from : (ℕ → DeviceState) → ℕ → ℕ → List ℕ
device_lines_from run d zero = []
device_lines_from run d (suc left) = device_line d (run d) ++ device_lines_from run (suc d) left

-- ---- the statement about the text

abbrev pub is_opened : Opening → Bool
is_opened (opened s) = true
is_opened (not_opened r) = false

-- Is this line an `O` that is accepted?
abbrev pub opens : Line → Bool
opens (opening n k first) = is_opened (open_of n k first)
opens (calling c) = false
opens unread = false

abbrev pub any_opens : List (List ℕ) → Bool
any_opens ls = any_of (λ l. opens (read_line l)) ls

-- The last accepted `O`: the lines before it, its numbers, the hub that it makes, and the lines behind it.
pub record LastOpening (lines : List (List ℕ)) : Type 0 where
  pub front : List (List ℕ)
  pub line : List ℕ
  pub behind : List (List ℕ)
  pub lines_are : lines ≡ front ++ (line ∷ behind)
  pub devices : ℕ
  pub pass_limit : ℕ
  pub first_id : ℕ
  pub reads_as : read_line line ≡ opening devices pass_limit first_id
  pub hub : State
  pub accepted : open_of devices pass_limit first_id ≡ opened hub
  pub is_last : any_opens behind ≡ false

-- The replies to the lines behind it, each call on the hub that the one before left.
abbrev pub replies_behind : {lines : List (List ℕ)} → LastOpening lines → List Reply
replies_behind o = replies_to (Some o.hub) o.behind

-- The calls that these lines make, with their answers.
abbrev pub history : {lines : List (List ℕ)} → LastOpening lines → List Told
history o = told_by (replies_behind o)

-- A whole text: what the lines before the last accepted `O` print; `opened`; what the lines behind it print, the answers to the calls that
-- they make; and a line for each device, of such a run.
abbrev pub key_text : {lines : List (List ℕ)} → LastOpening lines → (ℕ → DeviceState) → List ℕ
key_text o run =
    replies_text (replies_to None o.front) ++ as_line (bytes "opened") ++ replies_text (replies_behind o)
    ++ device_lines_from run 0 o.devices

-- What is printed if an `O` is accepted: the device lines are those of the serial run in the hub's order, built from these calls and
-- answers.
pub record Key (input : List ℕ) : Type 0 where
  pub last : LastOpening (lines_of input)
  pub text_is : program_text input ≡ key_text last (run_of (history last))

-- What is printed if none is: of each line that it is not read, or an opening's refusal. No call is made, and there are no device lines.
pub record NoHub (input : List ℕ) : Type 0 where
  pub none_opens : any_opens (lines_of input) ≡ false
  pub none_told : told_by (replies_to None (lines_of input)) ≡ []
  pub text_is : program_text input ≡ replies_text (replies_to None (lines_of input))

abbrev pub PrintedKey : Type 0
PrintedKey = (input : List ℕ) → Key input ⊎ NoHub input

-- ---- the statement about the devices: demand 3 of the printed key

-- The calls that lines make, in turn.
abbrev pub call_before : Line → List Call → List Call
call_before (opening n k first) cs = cs
call_before (calling c) cs = as_call c ∷ cs
call_before unread cs = cs

abbrev pub calls_by : List (List ℕ) → List Call
calls_by [] = []
calls_by (l ∷ ls) = call_before (read_line l) (calls_by ls)

-- The calls of what happens, in turn; in between, devices take what was sent to them.
abbrev pub calls_in : List Act → List Call
calls_in [] = []
calls_in (calls c v ∷ l) = c ∷ calls_in l
calls_in (takes_one d k ∷ l) = calls_in l

-- A device as it is: does it work, by the answers; and the setting that it has.
abbrev pub device_in : World → ℕ → DeviceState
device_in w d = record { up = working_of w.history d; setting = (w.devices d).setting }

-- The demand: "a command that puts a working device back is carried out before the settings are compared". None is left to take.
abbrev pub NoneToPutBack : World → ℕ → Type 0
NoneToPutBack w d = working_of w.history d ≡ true → any_of is_back (w.devices d).sent ≡ false

-- If no routine runs at the end, the line that is printed of a device is the line of the device as it is.
abbrev pub LinesTell : ℕ → (ℕ → DeviceState) → World → Type 0
LinesTell n run w = NoneRuns w → (d : ℕ) → d < n → NoneToPutBack w d → device_line d (run d) ≡ device_line d (device_in w d)

-- Demand 3 of the lines behind the last accepted `O`, about the order whose serial run is printed.
pub record KeyDemand3 {lines : List (List ℕ)} (o : LastOpening lines) : Type 0 where
  -- Whatever happens with these calls: it tells what the lines tell; and within the premise the printed lines are those of the devices.
  pub end_state :
      (acts : List Act) → calls_in acts ≡ calls_by o.behind →
      let w = world_after_all (new_world o.hub) acts in
      (w.history ≡ history o) × (PremiseAll (new_world o.hub) acts → LinesTell o.devices (run_of (history o)) w)
  -- What was settled after any first part of the lines stands at the beginning of the order.
  pub settled_part :
      (before rest : List (List ℕ)) → o.behind ≡ before ++ rest →
      Begins (order_of (told_by (replies_to (Some o.hub) before))).settled (entries (order_of (history o)))
  -- "In it every done command finds its device up; every skipped one was reported failed or finds it down."
  pub commands_stand : CommandsStand (accounts_of (history o)) (entries (order_of (history o))) all_up
  -- The replay of conditions (document 02, item 4), along the whole order and of the committed routines alone.
  pub conditions_replay :
      Replays (accounts_of (history o)) (entries (order_of (history o))) all_up
      × Replays (accounts_of (history o)) (committed_part (entries (order_of (history o)))) all_up
  -- Whether or not a routine runs: up is printed of the devices that work.
  pub up_works : (d : ℕ) → (run_of (history o) d).up ≡ working_of (history o) d

abbrev pub KeyStatement : Type 0
KeyStatement = (lines : List (List ℕ)) (o : LastOpening lines) → KeyDemand3 o

-- So the whole text, within the premise, if no routine runs at the end: the answers, and each device as it is.
abbrev pub KeyOfDevices : Type 0
KeyOfDevices =
    (input : List ℕ) (k : Key input) (acts : List Act) →
    calls_in acts ≡ calls_by k.last.behind → PremiseAll (new_world k.last.hub) acts →
    let w = world_after_all (new_world k.last.hub) acts in
    NoneRuns w → ((d : ℕ) → d < k.last.devices → NoneToPutBack w d) → program_text input ≡ key_text k.last (device_in w)
