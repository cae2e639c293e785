-- Inputs by computation: document 01's listing; and one with lines before the last accepted `O`, lines that are not read, openings that are
-- turned down, and a routine that runs at the end. The theorem is not used. Assumes nothing.
use Rattle.rules_routine.specs.Refusals.{numbered}
use Rattle.std.specs.Prelude.{◌≡◌, refl, true, false, List, [], ◌∷◌, ◌++◌, ℕ, zero, suc, pos, None}
use Rattle.rules.specs.Answers.{Call, submit, turn, report, failure, restart, cancel, Answer, refused, placed, send, done, committed}
use Rattle.rules.specs.Answers.{aborted, down, up}
use Rattle.rules.specs.Open.{not_opened, new_hub}
use Rattle.rules.specs.Order.{failure_event, restart_event, routine, event, put_after, move_bar, order_of}
use Rattle.rules.specs.Serial.{DeviceState}
use Rattle.rules.specs.Examples.{must}
use Rattle.line_rules.specs.Text.{bytes}
use Rattle.line_rules.specs.Pieces.{lines_of}
use Rattle.line_rules.specs.Program.{program_text}
use Rattle.line_rules.specs.Examples.{calc as calcLines, listing as listing-printed}
use Rattle.line_key.specs.Key.{Reply, answered, opening_gave, not_read, replies_to, replies_text, run_of, LastOpening, replies_behind}
use Rattle.line_key.specs.Key.{history}
use Rattle.line_key.specs.Key.{key_text, Key, NoHub}

-- All that a computation with the key opens.
unfoldable pub calc : Unit {0}
unfolding calcLines put_after move_bar
calc = tt

-- A call and its answers.
abbrev pub said : Call → List Answer → Reply
said c l = answered (record { call = c; answers = l })

-- The run of the devices from d on.
abbrev pub states_from : (ℕ → DeviceState) → ℕ → ℕ → List DeviceState
states_from run d zero = []
states_from run d (suc left) = run d ∷ states_from run (suc d) left

-- ---- the listing

abbrev pub listing : List ℕ
listing = bytes "O 3 2 1\nS 0 0 50 1 0 20\nS 0 0 70\nN 2\nD 2\nN 2\nN 1\nD 1\nF 0\nC 1\nR 0 15\n"

abbrev pub listing_behind : List (List ℕ)
listing_behind =
    bytes "S 0 0 50 1 0 20" ∷ bytes "S 0 0 70" ∷ bytes "N 2" ∷ bytes "D 2" ∷ bytes "N 2" ∷ bytes "N 1" ∷ bytes "D 1"
    ∷ bytes "F 0" ∷ bytes "C 1" ∷ bytes "R 0 15" ∷ []

unfoldable pub listing_last : LastOpening (lines_of listing)
unfolding calc
listing_last = record {
  front = [];
  line = bytes "O 3 2 1";
  behind = listing_behind;
  lines_are = refl;
  devices = 3;
  pass_limit = 2;
  first_id = 1;
  reads_as = refl;
  hub = new_hub 3 2 1;
  accepted = refl;
  is_last = refl;
}

-- The replies to its lines; the order that they build; the serial run.
pub listing_replies :
    replies_behind listing_last
    ≡ said (submit (must 0 (pos 50) ∷ must 1 (pos 20) ∷ [])) (placed 1 0 ∷ []) ∷ said (submit (must 0 (pos 70) ∷ [])) (placed 2 0 ∷ [])
    ∷ said (turn 2) (send 2 (must 0 (pos 70)) ∷ []) ∷ said (report 2 0) (done 2 ∷ []) ∷ said (turn 2) (committed 2 ∷ [])
    ∷ said (turn 1) (send 1 (must 0 (pos 50)) ∷ []) ∷ said (report 1 0) (done 1 ∷ []) ∷ said (failure 0) (down 0 1 ∷ [])
    ∷ said (cancel 1) (aborted 1 [] ∷ []) ∷ said (restart 0 (pos 15)) (up 0 0 ∷ []) ∷ []
unfolding calc listing_last
listing_replies = refl

pub listing_order :
    order_of (history listing_last)
    ≡ record {
      settled = routine 2 (must 0 (pos 70) ∷ []) true ∷ event (failure_event 0) ∷ event (restart_event 0 (pos 15)) ∷ [];
      unsettled = [];
    }
unfolding calc listing_last
listing_order = refl

pub listing_run :
    states_from (run_of (history listing_last)) 0 3
    ≡ record { up = true; setting = pos 15 } ∷ record { up = true; setting = pos 0 } ∷ record { up = true; setting = pos 0 } ∷ []
unfolding calc listing_last
listing_run = refl

-- What document 01 prints is their text and these device lines; so the theorem's equation holds of it.
pub listing_text :
    key_text listing_last (run_of (history listing_last))
    ≡ bytes "opened\nplaced 1 after 0\nplaced 2 after 0\nsend 2 0 70\ndone 2\ncommitted 2\nsend 1 0 50\ndone 1\ndown 0 after 1\n"
    ++ bytes "aborted 1 back 0\nup 0 after 0\ndevice 0 up 15\ndevice 1 up 0\ndevice 2 up 0\n"
unfolding calc listing_last
listing_text = refl

pub listing_key : Key listing
unfolding calc listing_last
listing_key = record { last = listing_last; text_is = listing-printed }

-- ---- more before the last accepted `O`, and less calm behind it

-- Routine 5 runs at the end: its done command is in the serial run and not in the settled part.
abbrev pub running : List ℕ
running = bytes "N 1\nO 1 0 7\nF 0\nO 2 1 5\nS 0 0 7 1 0 8\nN 5\nO 33 0 1\nD 5\n?\nF 1\nR 0 9\nO 1 9 1"

abbrev pub running_behind : List (List ℕ)
running_behind =
    bytes "S 0 0 7 1 0 8" ∷ bytes "N 5" ∷ bytes "O 33 0 1" ∷ bytes "D 5" ∷ bytes "?" ∷ bytes "F 1" ∷ bytes "R 0 9" ∷ bytes "O 1 9 1" ∷ []

unfoldable pub running_last : LastOpening (lines_of running)
unfolding calc
running_last = record {
  front = bytes "N 1" ∷ bytes "O 1 0 7" ∷ bytes "F 0" ∷ [];
  line = bytes "O 2 1 5";
  behind = running_behind;
  lines_are = refl;
  devices = 2;
  pass_limit = 1;
  first_id = 5;
  reads_as = refl;
  hub = new_hub 2 1 5;
  accepted = refl;
  is_last = refl;
}

pub running_replies :
    replies_behind running_last
    ≡ said (submit (must 0 (pos 7) ∷ must 1 (pos 8) ∷ [])) (placed 5 0 ∷ []) ∷ said (turn 5) (send 5 (must 0 (pos 7)) ∷ [])
    ∷ opening_gave (not_opened (numbered 1)) ∷ said (report 5 0) (done 5 ∷ []) ∷ not_read ∷ said (failure 1) (down 1 0 ∷ [])
    ∷ said (restart 0 (pos 9)) (refused (numbered 16) ∷ []) ∷ opening_gave (not_opened (numbered 2)) ∷ []
unfolding calc running_last
running_replies = refl

pub running_order :
    order_of (history running_last)
    ≡ record { settled = event (failure_event 1) ∷ []; unsettled = routine 5 (must 0 (pos 7) ∷ []) false ∷ [] }
unfolding calc running_last
running_order = refl

abbrev running_text : List ℕ
running_text =
    bytes "unread\nopened\ndown 0 after 0\nopened\nplaced 5 after 0\nsend 5 0 7\nrefused 1\ndone 5\nunread\ndown 1 after 0\n"
    ++ bytes "refused 16\nrefused 2\ndevice 0 up 7\ndevice 1 down\n"

pub running-text : key_text running_last (run_of (history running_last)) ≡ running_text
unfolding calc running_last
running-text = refl

running_printed : program_text running ≡ running_text
unfolding calc
running_printed = refl

pub running_key : Key running
unfolding calc running_last
running_key = record { last = running_last; text_is = running_printed }

-- ---- no accepted `O`

pub nothing_opened : NoHub (bytes "N 1\nO 0 0 1\nS 0 0 7\n")
unfolding calc
nothing_opened = record { none_opens = refl; none_told = refl; text_is = refl }

pub nothing_printed : replies_text (replies_to None (lines_of (bytes "N 1\nO 0 0 1\nS 0 0 7\n"))) ≡ bytes "unread\nrefused 1\nunread\n"
unfolding calc
nothing_printed = refl
