-- Document 01, "Examples from the exam hall": those that concern the hub, each through its last settings. (The ★ examples of hub and book
-- are one list in crate `rules_starred`.) Assumes nothing.
use Rattle.rules_routine.specs.Refusals.{numbered, indexed}
use Rattle.std.specs.Prelude.{◌≡◌, refl, List, [], ◌∷◌, ◌++◌, ℕ, zero, suc, ℤ, pos, negsuc, replicate, if◌then◌else◌, Option, None, Some, Ok, Err}
use Rattle.rules_routine.specs.Range.{in_range}
use Rattle.rules_routine.specs.Routine.{command_check, stands_alone, commands_check, routine_check}
use Rattle.rules_routine.specs.declared.Command.{Command}
use Rattle.rules.specs.State.{State}
use Rattle.rules.specs.Answers.{Call, submit, turn, report, failure, restart, cancel, limit, Back, Answer, refused, placed, wait}
use Rattle.rules.specs.Answers.{send}
use Rattle.rules.specs.Answers.{done, skipped, held, not_held, committed, aborted, down, up, limited}
use Rattle.rules.specs.Progress.{begun, finished, in_flight_on}
use Rattle.rules.specs.Due.{after_member, due}
use Rattle.rules.specs.AllDue.{all_due, list_check, list_after}
use Rattle.rules.specs.Sequence.{is_running, runs, move_marks}
use Rattle.rules.specs.Attach.{one_restart, attach_to, settle_restarts, attach}
use Rattle.rules.specs.Settle.{join_settled, settle}
use Rattle.rules.specs.Abort.{leave, is_put_back, put_backs, abort}
use Rattle.rules.specs.Open.{opened, open_check, new_hub, open_of}
use Rattle.rules.specs.Submit.{submit_check, blocks, pass, newcomer, place, submit_of}
use Rattle.rules.specs.Turn.{holds, has_set, holds_up, mark_begun, commit, commit_turn, send_turn, skip_turn, is_held, held_turn, not_held_turn}
use Rattle.rules.specs.Turn.{turn_of}
use Rattle.rules.specs.Report.{done_report, back_if_changed, skipped_state, skip_report, report_of}
use Rattle.rules.specs.Events.{is_halfway, must_left, skip_rest, stop_halfway, failure_result, restart_result, failure_of, restart_of}
use Rattle.rules.specs.Cancel.{cancel_of}
use Rattle.rules.specs.Limit.{limit_of}
use Rattle.rules.specs.Calls.{result_of, state_after}

-- All that a computation with the rules opens.
unfoldable pub calc : Unit {0}
unfolding in_range command_check stands_alone commands_check routine_check begun finished in_flight_on after_member due is_running runs
    join_settled
    settle attach_to settle_restarts move_marks leave is_put_back put_backs abort open_check new_hub open_of submit_check blocks pass newcomer place
    submit_of holds has_set holds_up mark_begun commit commit_turn send_turn skip_turn is_held held_turn not_held_turn turn_of done_report back_if_changed
    skipped_state skip_report report_of is_halfway
    must_left skip_rest stop_halfway attach one_restart failure_result restart_result failure_of restart_of cancel_of
    limit_of
calc = tt

-- An opening, calls, what each answers, and the device lines at the end: the due setting of a device that is up, none of one that is down.
pub record Example : Type 0 where
  pub devices : ℕ
  pub pass_limit : ℕ
  pub first_id : ℕ
  pub calls : List Call
  pub answers : List (List Answer)
  pub settings : List (Option ℤ)

abbrev pub answers_of : State → List Call → List (List Answer)
answers_of s [] = []
answers_of s (c ∷ l) = (result_of s c).answers ∷ answers_of (result_of s c).state l

-- The lines of the `left` devices from d on.
abbrev pub device_lines : State → ℕ → ℕ → List (Option ℤ)
device_lines s d zero = []
device_lines s d (suc left) = (if s.up d then Some (due s d) else None) ∷ device_lines s (suc d) left

abbrev pub Holds : Example → Type 0
Holds e =
    let s = new_hub e.devices e.pass_limit e.first_id in
    (open_of e.devices e.pass_limit e.first_id ≡ opened s) × (answers_of s e.calls ≡ e.answers)
    × (device_lines (state_after s e.calls) 0 e.devices ≡ e.settings)

abbrev pub AllHold : List Example → Type 0
AllHold [] = Unit {0}
AllHold (e ∷ l) = Holds e × AllHold l

abbrev pub must : ℕ → ℤ → Command
must d v = record { device = d; tag = 0; setting = v }

abbrev pub best : ℕ → ℤ → Command
best d v = record { device = d; tag = 1; setting = v }

abbrev pub back : ℕ → ℤ → Back
back d v = record { device = d; setting = v }

-- The listing.
abbrev pub listing : Example
listing = record {
  devices = 3;
  pass_limit = 2;
  first_id = 1;
  calls = submit (must 0 (pos 50) ∷ must 1 (pos 20) ∷ []) ∷ submit
      (must 0 (pos 70) ∷ []) ∷ turn 2 ∷ report 2 0 ∷ turn 2 ∷ turn 1 ∷ report 1 0 ∷ failure 0 ∷ cancel 1
      ∷ restart 0 (pos 15) ∷ [];
  answers = (placed 1 0 ∷ []) ∷ (placed 2 0 ∷ []) ∷ (send 2 (must 0 (pos 70)) ∷ []) ∷ (done 2 ∷ []) ∷ (committed 2 ∷ []) ∷
      (send 1 (must 0 (pos 50)) ∷ [])
      ∷ (done 1 ∷ []) ∷ (down 0 1 ∷ []) ∷ (aborted 1 [] ∷ []) ∷ (up 0 0 ∷ []) ∷ [];
  settings = Some (pos 15) ∷ Some (pos 0) ∷ Some (pos 0) ∷ [];
}

-- "K = 1, three routines on device 0: 1, then 2 after 0, then 3 after 1."
abbrev pub passing : Example
passing = record {
  devices = 1;
  pass_limit = 1;
  first_id = 1;
  calls = submit (must 0 (pos 1) ∷ []) ∷ submit (must 0 (pos 2) ∷ []) ∷ submit (must 0 (pos 3) ∷ []) ∷ [];
  answers = (placed 1 0 ∷ []) ∷ (placed 2 0 ∷ []) ∷ (placed 3 1 ∷ []) ∷ [];
  settings = Some (pos 0) ∷ [];
}

-- "K = 0, routines on devices 0 and 1; 1 and 2; 2 and 0: the first turn of 3 waits on 2."
abbrev pub ring : Example
ring = record {
  devices = 3;
  pass_limit = 0;
  first_id = 1;
  calls = submit (must 0 (pos 1) ∷ must 1 (pos 1) ∷ []) ∷ submit (must 1 (pos 2) ∷ must 2 (pos 2) ∷ []) ∷ submit
      (must 2 (pos 3) ∷ must 0 (pos 3) ∷ []) ∷ turn 3 ∷ [];
  answers = (placed 1 0 ∷ []) ∷ (placed 2 1 ∷ []) ∷ (placed 3 2 ∷ []) ∷ (wait 3 2 ∷ []) ∷ [];
  settings = Some (pos 0) ∷ Some (pos 0) ∷ Some (pos 0) ∷ [];
}

-- "1 did device 0 = 50 and has device 1 left; 2 follows with 70": its command c has been sent.
abbrev pub followed : Command → List Call
followed c = submit (must 0 (pos 50) ∷ must 1 (pos 20) ∷ []) ∷ turn 1 ∷ report 1 0 ∷ submit (c ∷ []) ∷ turn 2 ∷ []

abbrev pub followed_answers : Command → List (List Answer)
followed_answers c = (placed 1 0 ∷ []) ∷ (send 1 (must 0 (pos 50)) ∷ []) ∷ (done 1 ∷ []) ∷ (placed 2 1 ∷ []) ∷ (send 2 c ∷ []) ∷ []

-- "and commits; cancel 1: no command back, device 0 stays 70."
abbrev pub later_stands : Example
later_stands = record {
  devices = 2;
  pass_limit = 8;
  first_id = 1;
  calls = followed (must 0 (pos 70)) ++ (report 2 0 ∷ turn 2 ∷ cancel 1 ∷ []);
  answers = followed_answers (must 0 (pos 70)) ++ ((done 2 ∷ []) ∷ (committed 2 ∷ []) ∷ (aborted 1 [] ∷ []) ∷ []);
  settings = Some (pos 70) ∷ Some (pos 0) ∷ [];
}

-- "The same, but 2 is cancelled after its done: device 0 back to 50; then cancel 1: back to 0."
abbrev pub back_twice : Example
back_twice = record {
  devices = 2;
  pass_limit = 8;
  first_id = 1;
  calls = followed (must 0 (pos 70)) ++ (report 2 0 ∷ cancel 2 ∷ cancel 1 ∷ []);
  answers = followed_answers (must 0 (pos 70))
      ++ ((done 2 ∷ []) ∷ (aborted 2 (back 0 (pos 50) ∷ []) ∷ []) ∷ (aborted 1 (back 0 (pos 0) ∷ []) ∷ []) ∷ []);
  settings = Some (pos 0) ∷ Some (pos 0) ∷ [];
}

-- "Once more, but 2's 70 is best-effort and in flight at the cancel of 1: `aborted 1 back 0`; then failed: `skipped 2 back 1 0 0`."
abbrev pub in_flight_at_cancel : Example
in_flight_at_cancel = record {
  devices = 2;
  pass_limit = 8;
  first_id = 1;
  calls = followed (best 0 (pos 70)) ++ (cancel 1 ∷ report 2 1 ∷ []);
  answers = followed_answers (best 0 (pos 70)) ++ ((aborted 1 [] ∷ []) ∷ (skipped 2 (back 0 (pos 0) ∷ []) ∷ []) ∷ []);
  settings = Some (pos 0) ∷ Some (pos 0) ∷ [];
}

-- "Best-effort on a down device is skipped; must aborts."
abbrev pub on_down : Example
on_down = record {
  devices = 1;
  pass_limit = 0;
  first_id = 1;
  calls = failure 0 ∷ submit (best 0 (pos 5) ∷ []) ∷ submit (must 0 (pos 6) ∷ []) ∷ turn 1 ∷ turn 2 ∷ [];
  answers = (down 0 0 ∷ []) ∷ (placed 1 0 ∷ []) ∷ (placed 2 1 ∷ []) ∷ (skipped 1 [] ∷ []) ∷ (aborted 2 [] ∷ []) ∷ [];
  settings = None ∷ [];
}

-- "Setting 1,000 accepted, 1,001 refused (6); −1,000 and −1,001 likewise."
abbrev pub limits : Example
limits = record {
  devices = 1;
  pass_limit = 0;
  first_id = 1;
  calls = submit (must 0 (pos 1000) ∷ []) ∷ submit (must 0 (pos 1001) ∷ []) ∷ submit (must 0 (negsuc 999) ∷ []) ∷ submit
      (must 0 (negsuc 1000) ∷ []) ∷ [];
  answers = (placed 1 0 ∷ []) ∷ (refused (indexed 6 0) ∷ []) ∷ (placed 2 1 ∷ []) ∷ (refused (indexed 6 0) ∷ []) ∷ [];
  settings = Some (pos 0) ∷ [];
}

-- The answers to n submissions in a row, from id i on, where each follows the one before.
abbrev placed_in_row : ℕ → ℕ → List (List Answer)
placed_in_row i zero = []
placed_in_row i (suc n) = (placed (suc i) i ∷ []) ∷ placed_in_row (suc i) n

-- "Sixteenth routine placed, seventeenth refused (8)."
abbrev pub full : Example
full = record {
  devices = 1;
  pass_limit = 0;
  first_id = 1;
  calls = replicate 17 (submit (must 0 (pos 5) ∷ []));
  answers = placed_in_row 0 16 ++ ((refused (numbered 8) ∷ []) ∷ []);
  settings = Some (pos 0) ∷ [];
}

-- Those with ★.
abbrev pub hub_examples : List Example
hub_examples = listing ∷ passing ∷ ring ∷ later_stands ∷ back_twice ∷ in_flight_at_cancel ∷ on_down ∷ limits ∷ full ∷ []

pub hub_examples_hold : AllHold hub_examples
unfolding calc
hub_examples_hold = (
  (refl, refl, refl),
  (
    (refl, refl, refl),
    (
      (refl, refl, refl),
      (
        (refl, refl, refl),
        ((refl, refl, refl), ((refl, refl, refl), ((refl, refl, refl), ((refl, refl, refl), ((refl, refl, refl), tt))))),
      ),
    ),
  ),
)

-- "EventAbort id 4,294,967,295: one routine placed, the next refused (9)."
abbrev pub last_ids : Example
last_ids = record {
  devices = 1;
  pass_limit = 0;
  first_id = 4294967295;
  calls = submit (must 0 (pos 5) ∷ []) ∷ submit (must 0 (pos 5) ∷ []) ∷ [];
  answers = (placed 4294967295 0 ∷ []) ∷ (refused (numbered 9) ∷ []) ∷ [];
  settings = Some (pos 0) ∷ [];
}

pub last-ids : Holds last_ids
unfolding calc
last-ids = (refl, refl, refl)

-- ---- a new pass limit (document 02, item 13)

abbrev one : Call
one = submit (must 0 (pos 5) ∷ [])

-- K = 1: 2 passes 1. 9 is turned down, and K stays 1: 3 follows 1. With K = 2, 4 passes all of them: 1 and 3 have then been passed twice
-- and once. With K = 1 again 5 follows 3, which has been passed as often as that, and not 1, which has been passed oftener and stands
-- ahead; 6 follows 3 too, and 5 is passed. With K = 2 the counts still stand: 7 follows 1.
abbrev pub new_limits : Example
new_limits = record {
  devices = 1;
  pass_limit = 1;
  first_id = 1;
  calls = one ∷ one ∷ limit 9 ∷ one ∷ limit 2 ∷ one ∷ limit 1 ∷ one ∷ one ∷ limit 2 ∷ one ∷ [];
  answers = (placed 1 0 ∷ []) ∷ (placed 2 0 ∷ []) ∷ (refused (numbered 2) ∷ []) ∷ (placed 3 1 ∷ []) ∷ (limited 2 ∷ []) ∷ (placed 4 0 ∷ [])
      ∷ (limited 1 ∷ []) ∷ (placed 5 3 ∷ []) ∷ (placed 6 3 ∷ []) ∷ (limited 2 ∷ []) ∷ (placed 7 1 ∷ []) ∷ [];
  settings = Some (pos 0) ∷ [];
}

-- Passed oftener than the K in force: 1 and 2 have been passed twice and once; with K = 1 none of them may be passed, with K = 0 nobody.
abbrev pub oftener : Example
oftener = record {
  devices = 1;
  pass_limit = 8;
  first_id = 1;
  calls = one ∷ one ∷ one ∷ limit 1 ∷ one ∷ limit 0 ∷ one ∷ limit 8 ∷ one ∷ [];
  answers = (placed 1 0 ∷ []) ∷ (placed 2 0 ∷ []) ∷ (placed 3 0 ∷ []) ∷ (limited 1 ∷ []) ∷ (placed 4 1 ∷ []) ∷ (limited 0 ∷ [])
      ∷ (placed 5 4 ∷ []) ∷ (limited 8 ∷ []) ∷ (placed 6 0 ∷ []) ∷ [];
  settings = Some (pos 0) ∷ [];
}

pub new_limits_hold : Holds new_limits × Holds oftener
unfolding calc
new_limits_hold = ((refl, refl, refl), (refl, refl, refl))

-- ---- a lamp that dies after its work (document 02, item 3): device 0 is the lamp, device 1 the shelter

abbrev pub none_flies : List Answer
none_flies = refused (numbered 12) ∷ []

abbrev pub none_runs : List Answer
none_runs = refused (numbered 10) ∷ []

-- The lamp is in flight when it fails: the routine goes on, and a turn passes over it. A late report is 12 while nothing is in flight, and
-- 10 once the routine has ended. (Between the sends and the dones the server drops it: the hub would take it for the shelter's.)
abbrev pub lamp_in_flight : Example
lamp_in_flight = record {
  devices = 2;
  pass_limit = 0;
  first_id = 1;
  calls = submit (best 0 (pos 50) ∷ must 1 (pos 20) ∷ must 1 (pos 30) ∷ []) ∷ turn 1 ∷ failure 0 ∷ report 1 0 ∷ report 1 1 ∷ turn 1
      ∷ report 1 0 ∷ report 1 0 ∷ turn 1 ∷ report 1 0 ∷ turn 1 ∷ report 1 0 ∷ report 1 1 ∷ [];
  answers = (placed 1 0 ∷ []) ∷ (send 1 (best 0 (pos 50)) ∷ []) ∷ (down 0 1 ∷ []) ∷ none_flies ∷ none_flies
      ∷ (send 1 (must 1 (pos 20)) ∷ []) ∷ (done 1 ∷ []) ∷ none_flies ∷ (send 1 (must 1 (pos 30)) ∷ []) ∷ (done 1 ∷ [])
      ∷ (committed 1 ∷ []) ∷ none_runs ∷ none_runs ∷ [];
  settings = None ∷ Some (pos 30) ∷ [];
}

-- The lamp was done before it failed, and its last command is skipped: behind the shelter's, the turn commits. Nothing is left on the lamp
-- when it is restarted.
abbrev pub lamp_done : Example
lamp_done = record {
  devices = 2;
  pass_limit = 0;
  first_id = 1;
  calls = submit (best 0 (pos 50) ∷ must 1 (pos 20) ∷ best 0 (pos 60) ∷ []) ∷ turn 1 ∷ report 1 0 ∷ failure 0 ∷ turn 1
      ∷ restart 0 (pos 33) ∷ report 1 0 ∷ turn 1 ∷ [];
  answers = (placed 1 0 ∷ []) ∷ (send 1 (best 0 (pos 50)) ∷ []) ∷ (done 1 ∷ []) ∷ (down 0 1 ∷ []) ∷ (send 1 (must 1 (pos 20)) ∷ [])
      ∷ (up 0 1 ∷ []) ∷ (done 1 ∷ []) ∷ (committed 1 ∷ []) ∷ [];
  settings = Some (pos 33) ∷ Some (pos 20) ∷ [];
}

-- A must is left on the lamp, behind a best-effort one: it aborts, and nothing is skipped.
abbrev pub lamp_must_behind : Example
lamp_must_behind = record {
  devices = 2;
  pass_limit = 0;
  first_id = 1;
  calls = submit (must 1 (pos 20) ∷ best 0 (pos 50) ∷ best 0 (pos 55) ∷ must 0 (pos 60) ∷ []) ∷ turn 1 ∷ report 1 0 ∷ turn 1 ∷ failure 0
      ∷ report 1 0 ∷ [];
  answers = (placed 1 0 ∷ []) ∷ (send 1 (must 1 (pos 20)) ∷ []) ∷ (done 1 ∷ []) ∷ (send 1 (best 0 (pos 50)) ∷ [])
      ∷ (aborted 1 (back 1 (pos 0) ∷ []) ∷ down 0 0 ∷ []) ∷ none_runs ∷ [];
  settings = None ∷ Some (pos 0) ∷ [];
}

-- A restart skips what is left, too; a must left aborts.
abbrev pub lamp_restarted : Example
lamp_restarted = record {
  devices = 2;
  pass_limit = 0;
  first_id = 1;
  calls = failure 0 ∷ submit (best 0 (pos 5) ∷ best 0 (pos 6) ∷ must 1 (pos 20) ∷ []) ∷ turn 1 ∷ restart 0 (pos 9) ∷ turn 1 ∷ report 1 0
      ∷ turn 1 ∷ failure 0 ∷ submit (best 0 (pos 5) ∷ must 0 (pos 6) ∷ []) ∷ turn 2 ∷ restart 0 (pos 8) ∷ [];
  answers = (down 0 0 ∷ []) ∷ (placed 1 0 ∷ []) ∷ (skipped 1 [] ∷ []) ∷ (up 0 1 ∷ []) ∷ (send 1 (must 1 (pos 20)) ∷ []) ∷ (done 1 ∷ [])
      ∷ (committed 1 ∷ []) ∷ (down 0 0 ∷ []) ∷ (placed 2 0 ∷ []) ∷ (skipped 2 [] ∷ []) ∷ (aborted 2 [] ∷ up 0 0 ∷ []) ∷ [];
  settings = Some (pos 8) ∷ Some (pos 20) ∷ [];
}

-- Three commands are left on the lamp with one on the shelter between them: all are skipped, and the turn passes over the first. The lamp
-- counts as finished: routine 2 waits no more, and 1 does not wait for 2, which is behind it. 2 has not begun the lamp: it loses nothing.
abbrev pub lamp_between : Example
lamp_between = record {
  devices = 2;
  pass_limit = 0;
  first_id = 1;
  calls = submit (best 0 (pos 1) ∷ best 0 (pos 2) ∷ must 1 (pos 20) ∷ best 0 (pos 3) ∷ best 0 (pos 4) ∷ []) ∷ submit (best 0 (pos 7) ∷ [])
      ∷ turn 1 ∷ report 1 0 ∷ turn 2 ∷ failure 0 ∷ restart 0 (pos 33) ∷ turn 2 ∷ turn 1 ∷ report 1 0 ∷ turn 1 ∷ report 2 0 ∷ turn 2 ∷ [];
  answers = (placed 1 0 ∷ []) ∷ (placed 2 1 ∷ []) ∷ (send 1 (best 0 (pos 1)) ∷ []) ∷ (done 1 ∷ []) ∷ (wait 2 1 ∷ []) ∷ (down 0 1 ∷ [])
      ∷ (up 0 1 ∷ []) ∷ (send 2 (best 0 (pos 7)) ∷ []) ∷ (send 1 (must 1 (pos 20)) ∷ []) ∷ (done 1 ∷ []) ∷ (committed 1 ∷ [])
      ∷ (done 2 ∷ []) ∷ (committed 2 ∷ []) ∷ [];
  settings = Some (pos 7) ∷ Some (pos 20) ∷ [];
}

-- A routine that has not begun the lamp keeps its command on it, through a failure and a restart.
abbrev pub lamp_not_begun : Example
lamp_not_begun = record {
  devices = 2;
  pass_limit = 0;
  first_id = 1;
  calls = submit (must 1 (pos 20) ∷ best 0 (pos 5) ∷ best 0 (pos 6) ∷ []) ∷ turn 1 ∷ failure 0 ∷ restart 0 (pos 9) ∷ report 1 0 ∷ turn 1
      ∷ report 1 0 ∷ turn 1 ∷ [];
  answers = (placed 1 0 ∷ []) ∷ (send 1 (must 1 (pos 20)) ∷ []) ∷ (down 0 0 ∷ []) ∷ (up 0 0 ∷ []) ∷ (done 1 ∷ [])
      ∷ (send 1 (best 0 (pos 5)) ∷ []) ∷ (done 1 ∷ []) ∷ (send 1 (best 0 (pos 6)) ∷ []) ∷ [];
  settings = Some (pos 5) ∷ Some (pos 20) ∷ [];
}

pub lamps_hold : AllHold (lamp_in_flight ∷ lamp_done ∷ lamp_must_behind ∷ lamp_restarted ∷ lamp_between ∷ lamp_not_begun ∷ [])
unfolding calc
lamps_hold = (
  (refl, refl, refl),
  ((refl, refl, refl), ((refl, refl, refl), ((refl, refl, refl), ((refl, refl, refl), ((refl, refl, refl), tt))))),
)

-- ---- water only if dry (document 02, item 4): device 0 is the soil's, device 1 the valve, device 2 a lamp

abbrev pub condition : ℕ → ℤ → Command
condition d v = record { device = d; tag = 2; setting = v }

-- 0 is below 20, and not below 0: the first does not hold, and the command after it, a must on a device that is up, is skipped at its own
-- turn; the second holds. Each takes one turn, and nothing is in flight behind it. 20 is not below 20: it holds.
abbrev pub dry_or_not : Example
dry_or_not = record {
  devices = 2;
  pass_limit = 0;
  first_id = 3;
  calls = submit (condition 0 (pos 20) ∷ must 1 (pos 70) ∷ condition 0 (pos 0) ∷ must 0 (pos 20) ∷ []) ∷ turn 3 ∷ report 3 0 ∷ turn 3
      ∷ turn 3 ∷ turn 3 ∷ report 3 0 ∷ turn 3 ∷ submit (condition 0 (pos 20) ∷ must 1 (pos 5) ∷ []) ∷ turn 4 ∷ turn 4 ∷ [];
  answers = (placed 3 0 ∷ []) ∷ (not_held 3 ∷ []) ∷ none_flies ∷ (skipped 3 [] ∷ []) ∷ (held 3 ∷ []) ∷ (send 3 (must 0 (pos 20)) ∷ [])
      ∷ (done 3 ∷ []) ∷ (committed 3 ∷ []) ∷ (placed 4 0 ∷ []) ∷ (held 4 ∷ []) ∷ (send 4 (must 1 (pos 5)) ∷ []) ∷ [];
  settings = Some (pos 20) ∷ Some (pos 0) ∷ [];
}

-- 1 has done device 0 and finished it: a condition on it waits until 1 has committed.
abbrev pub second_cause : Example
second_cause = record {
  devices = 3;
  pass_limit = 0;
  first_id = 1;
  calls = submit (must 0 (pos 30) ∷ must 1 (pos 1) ∷ []) ∷ turn 1 ∷ report 1 0 ∷ submit (condition 0 (pos 20) ∷ must 2 (pos 5) ∷ [])
      ∷ turn 2 ∷ turn 1 ∷ report 1 0 ∷ turn 2 ∷ turn 1 ∷ turn 2 ∷ turn 2 ∷ [];
  answers = (placed 1 0 ∷ []) ∷ (send 1 (must 0 (pos 30)) ∷ []) ∷ (done 1 ∷ []) ∷ (placed 2 1 ∷ []) ∷ (wait 2 1 ∷ [])
      ∷ (send 1 (must 1 (pos 1)) ∷ []) ∷ (done 1 ∷ []) ∷ (wait 2 1 ∷ []) ∷ (committed 1 ∷ []) ∷ (held 2 ∷ [])
      ∷ (send 2 (must 2 (pos 5)) ∷ []) ∷ [];
  settings = Some (pos 30) ∷ Some (pos 1) ∷ Some (pos 0) ∷ [];
}

-- The first in the sequence that gives either cause: 1 has a done command on device 0, 2 has it left. The condition of 3 waits on 1, a
-- command of 4 on the same device on 2.
abbrev pub either_cause : Example
either_cause = record {
  devices = 2;
  pass_limit = 0;
  first_id = 1;
  calls = submit (must 0 (pos 30) ∷ must 1 (pos 1) ∷ []) ∷ turn 1 ∷ report 1 0 ∷ submit (must 0 (pos 40) ∷ []) ∷ submit
      (condition 0 (pos 20) ∷ must 1 (pos 5) ∷ []) ∷ submit (must 0 (pos 50) ∷ []) ∷ turn 3 ∷ turn 4 ∷ cancel 1 ∷ turn 3 ∷ turn 2
      ∷ report 2 0 ∷ turn 3 ∷ turn 2 ∷ turn 3 ∷ [];
  answers = (placed 1 0 ∷ []) ∷ (send 1 (must 0 (pos 30)) ∷ []) ∷ (done 1 ∷ []) ∷ (placed 2 1 ∷ []) ∷ (placed 3 2 ∷ [])
      ∷ (placed 4 3 ∷ []) ∷ (wait 3 1 ∷ []) ∷ (wait 4 2 ∷ []) ∷ (aborted 1 (back 0 (pos 0) ∷ []) ∷ []) ∷ (wait 3 2 ∷ [])
      ∷ (send 2 (must 0 (pos 40)) ∷ []) ∷ (done 2 ∷ []) ∷ (wait 3 2 ∷ []) ∷ (committed 2 ∷ []) ∷ (held 3 ∷ []) ∷ [];
  settings = Some (pos 40) ∷ Some (pos 0) ∷ [];
}

-- A restart at 25, attached to a routine that runs, is no cause to wait: the condition holds because of it. One that is committed and not
-- settled is none, either.
abbrev pub restart_holds : Example
restart_holds = record {
  devices = 3;
  pass_limit = 0;
  first_id = 1;
  calls = submit (best 0 (pos 3) ∷ must 1 (pos 1) ∷ []) ∷ failure 0 ∷ turn 1 ∷ restart 0 (pos 25) ∷ submit
      (condition 0 (pos 20) ∷ must 0 (pos 7) ∷ []) ∷ turn 2 ∷ turn 2 ∷ report 2 0 ∷ turn 2 ∷ submit
      (condition 0 (pos 8) ∷ best 2 (pos 6) ∷ []) ∷ turn 3 ∷ turn 3 ∷ [];
  answers = (placed 1 0 ∷ []) ∷ (down 0 0 ∷ []) ∷ (skipped 1 [] ∷ []) ∷ (up 0 1 ∷ []) ∷ (placed 2 1 ∷ []) ∷ (held 2 ∷ [])
      ∷ (send 2 (must 0 (pos 7)) ∷ []) ∷ (done 2 ∷ []) ∷ (committed 2 ∷ []) ∷ (placed 3 2 ∷ []) ∷ (not_held 3 ∷ []) ∷ (skipped 3 [] ∷ [])
      ∷ [];
  settings = Some (pos 7) ∷ Some (pos 0) ∷ Some (pos 0) ∷ [];
}

-- Device 0 is down. The command after the condition decides: a must aborts 1; a best-effort skips the condition of 2, and is itself
-- skipped at its turn, its device up.
abbrev pub asked_down : Example
asked_down = record {
  devices = 2;
  pass_limit = 0;
  first_id = 1;
  calls = failure 0 ∷ submit (condition 0 (pos 0) ∷ must 1 (pos 5) ∷ []) ∷ submit (condition 0 (pos 0) ∷ best 1 (pos 5) ∷ []) ∷ turn 1
      ∷ turn 2 ∷ turn 2 ∷ turn 2 ∷ [];
  answers = (down 0 0 ∷ []) ∷ (placed 1 0 ∷ []) ∷ (placed 2 1 ∷ []) ∷ (aborted 1 [] ∷ []) ∷ (skipped 2 [] ∷ []) ∷ (skipped 2 [] ∷ [])
      ∷ (committed 2 ∷ []) ∷ [];
  settings = None ∷ Some (pos 0) ∷ [];
}

-- The condition of 1 is left on device 0, which 1 has begun, when that fails: it has the tag of the command after it. A best-effort one
-- skips it, and is skipped at its turn though its device is up; a must aborts (2).
abbrev pub asked_at_event : Example
asked_at_event = record {
  devices = 2;
  pass_limit = 0;
  first_id = 1;
  calls = submit (must 0 (pos 9) ∷ condition 0 (pos 5) ∷ best 1 (pos 5) ∷ must 1 (pos 6) ∷ []) ∷ turn 1 ∷ report 1 0 ∷ failure 0 ∷ turn 1
      ∷ turn 1 ∷ report 1 0 ∷ turn 1 ∷ restart 0 (pos 9) ∷ submit (best 0 (pos 9) ∷ condition 0 (pos 5) ∷ must 1 (pos 5) ∷ []) ∷ turn 2
      ∷ failure 0 ∷ [];
  answers = (placed 1 0 ∷ []) ∷ (send 1 (must 0 (pos 9)) ∷ []) ∷ (done 1 ∷ []) ∷ (down 0 1 ∷ []) ∷ (skipped 1 [] ∷ [])
      ∷ (send 1 (must 1 (pos 6)) ∷ []) ∷ (done 1 ∷ []) ∷ (committed 1 ∷ []) ∷ (up 0 0 ∷ []) ∷ (placed 2 0 ∷ [])
      ∷ (send 2 (best 0 (pos 9)) ∷ []) ∷ (aborted 2 [] ∷ down 0 0 ∷ []) ∷ [];
  settings = None ∷ Some (pos 6) ∷ [];
}

-- The command after a condition that did not hold waits as any other (2 for 1, which has begun device 1), and aborts nothing where its
-- device is down. The condition begins its device: a failure is attached to its routine, and the newcomer 3 follows it.
abbrev pub skipped_waits : Example
skipped_waits = record {
  devices = 2;
  pass_limit = 8;
  first_id = 1;
  calls = submit (must 1 (pos 1) ∷ []) ∷ turn 1 ∷ submit (condition 0 (pos 5) ∷ must 1 (pos 2) ∷ []) ∷ turn 2 ∷ turn 2 ∷ failure 0
      ∷ submit (best 0 (pos 1) ∷ []) ∷ report 1 0 ∷ failure 1 ∷ turn 2 ∷ turn 2 ∷ [];
  answers = (placed 1 0 ∷ []) ∷ (send 1 (must 1 (pos 1)) ∷ []) ∷ (placed 2 1 ∷ []) ∷ (not_held 2 ∷ []) ∷ (wait 2 1 ∷ [])
      ∷ (down 0 2 ∷ []) ∷ (placed 3 2 ∷ []) ∷ (done 1 ∷ []) ∷ (down 1 1 ∷ []) ∷ (skipped 2 [] ∷ []) ∷ (committed 2 ∷ []) ∷ [];
  settings = None ∷ None ∷ [];
}

-- 5, 6, 7, 22 for each command in turn.
abbrev pub conditions_refused : Example
conditions_refused = record {
  devices = 2;
  pass_limit = 0;
  first_id = 1;
  calls = submit (condition 0 (pos 5) ∷ []) ∷ submit (must 0 (pos 5) ∷ condition 0 (pos 5) ∷ condition 1 (pos 5) ∷ must 1 (pos 5) ∷ [])
      ∷ submit (condition 2 (pos 5) ∷ []) ∷ submit (condition 0 (pos 1001) ∷ []) ∷ submit
      (record { device = 0; tag = 3; setting = pos 0 } ∷ []) ∷ submit (condition 0 (pos 5) ∷ condition 2 (pos 5) ∷ []) ∷ submit
      (condition 0 (pos 5) ∷ must 2 (pos 5) ∷ []) ∷ [];
  answers = (refused (indexed 22 0) ∷ []) ∷ (refused (indexed 22 1) ∷ []) ∷ (refused (indexed 5 0) ∷ []) ∷ (refused (indexed 6 0) ∷ [])
      ∷ (refused (indexed 7 0) ∷ []) ∷ (refused (indexed 22 0) ∷ []) ∷ (refused (indexed 5 1) ∷ []) ∷ [];
  settings = Some (pos 0) ∷ Some (pos 0) ∷ [];
}

pub conditions_hold : AllHold (dry_or_not ∷ second_cause ∷ either_cause ∷ restart_holds ∷ asked_down ∷ asked_at_event ∷ skipped_waits
    ∷ conditions_refused ∷ [])
unfolding calc
conditions_hold = (
  (refl, refl, refl),
  (
    (refl, refl, refl),
    ((refl, refl, refl), ((refl, refl, refl), ((refl, refl, refl), ((refl, refl, refl), ((refl, refl, refl), ((refl, refl, refl), tt)))))),
  ),
)

-- ---- all due settings in one list (document 02, item 14)

-- Routine 1 did device 0 = 50 and has device 1 left; device 0 has failed.
abbrev pub one_down : State
one_down = state_after (new_hub 3 2 1) (submit (must 0 (pos 50) ∷ must 1 (pos 20) ∷ []) ∷ turn 1 ∷ report 1 0 ∷ failure 0 ∷ [])

abbrev pub nines : ℕ → List ℤ
nines n = replicate n (pos 9)

-- Longer than N, just N, one short, none.
abbrev pub ListsHold : Type 0
ListsHold =
    (list_check one_down 5 ≡ Ok tt) × (list_after one_down (nines 5) ≡ pos 50 ∷ pos 0 ∷ pos 0 ∷ pos 9 ∷ pos 9 ∷ [])
    × (list_check one_down 3 ≡ Ok tt) × (list_after one_down (nines 3) ≡ pos 50 ∷ pos 0 ∷ pos 0 ∷ [])
    × (list_check one_down 2 ≡ Err (numbered 21)) × (list_after one_down (nines 2) ≡ nines 2)
    × (list_check one_down 0 ≡ Err (numbered 21)) × (list_after one_down [] ≡ [])

pub lists_hold : ListsHold
unfolding calc all_due list_check list_after
lists_hold = (refl, refl, refl, refl, refl, refl, refl, refl)
