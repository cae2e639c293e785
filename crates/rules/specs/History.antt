-- What the calls and their answers tell, without a look at the hub. A history is the calls with their answers, the latest first. Assumes
-- nothing.
use Rattle.std.specs.Prelude.{Bool, true, false, not, ◌&&◌, ◌||◌, List, [], ◌∷◌, map, ℕ, suc, eqb, if◌then◌else◌}
use Rattle.rules_routine.specs.Routine.{zero_command}
use Rattle.rules_routine.specs.declared.Command.{Command}
use Rattle.rules.specs.Tables.{any_of, put}
use Rattle.rules.specs.Answers.{Call, submit, turn, report, failure, restart, cancel, limit, Answer, refused, placed, wait, send}
use Rattle.rules.specs.Answers.{done}
use Rattle.rules.specs.Answers.{skipped, held, not_held, committed, aborted, down, up, limited}
use Rattle.rules.specs.Report.{code_failed}

pub record Told : Type 0 where
  pub call : Call
  pub answers : List Answer

-- How a command was answered: not yet; reported done; skipped as it was reported failed; skipped by a turn, without being sent; skipped by
-- an event of its device (document 02, item 3); a condition that was found to hold, or not to hold (item 4).
pub data Outcome : Type 0 where
  not_yet : Outcome
  reported_done : Outcome
  reported_failed : Outcome
  not_sent : Outcome
  by_event : Outcome
  found_held : Outcome
  found_not_held : Outcome

abbrev pub is_left : Outcome → Bool
is_left not_yet = true
is_left reported_done = false
is_left reported_failed = false
is_left not_sent = false
is_left by_event = false
is_left found_held = false
is_left found_not_held = false

-- A command of a routine, as it is told of.
pub record Noted : Type 0 where
  pub command : Command
  pub outcome : Outcome

-- What is told of one id: does it run ("a routine runs until committed or aborted"); has it a command in flight, one that was sent and
-- neither answered nor ended with its routine since; its commands, in turn, each with how it was answered; the command last sent for it,
-- and how many were sent.
pub record Account : Type 0 where
  pub running : Bool
  pub flying : Bool
  pub commands : List Noted
  pub last_sent : Command
  pub sends : ℕ

abbrev pub no_account : Account
no_account = record { running = false; flying = false; commands = []; last_sent = zero_command; sends = 0 }

-- The commands that a submission brings.
abbrev pub submitted_by : Call → List Command
submitted_by (submit cs) = cs
submitted_by (turn i) = []
submitted_by (report i code) = []
submitted_by (failure d) = []
submitted_by (restart d v) = []
submitted_by (cancel i) = []
submitted_by (limit k) = []

-- A command is skipped by a report or by a turn. Document 01, Report on R: "Code 1, failed: a must aborts R, a best-effort is skipped". A
-- `skipped` that answers a report of another code has not that ground: it must have one of those of a command that was not sent.
abbrev pub skipped_by : Call → Outcome
skipped_by (submit cs) = not_sent
skipped_by (turn i) = not_sent
skipped_by (report i code) = if eqb code code_failed then reported_failed else not_sent
skipped_by (failure d) = not_sent
skipped_by (restart d v) = not_sent
skipped_by (cancel i) = not_sent
skipped_by (limit k) = not_sent

abbrev pub noted_as : Outcome → Command → Noted
noted_as o c = record { command = c; outcome = o }

abbrev pub placed_account : List Command → Account
placed_account cs = record { running = true; flying = false; commands = map (noted_as not_yet) cs; last_sent = zero_command; sends = 0 }

abbrev pub sent_account : Command → Account → Account
sent_account c a = record { running = a.running; flying = true; commands = a.commands; last_sent = c; sends = suc a.sends }

-- The first command that is left is answered.
abbrev pub note_first : Outcome → List Noted → List Noted
note_first o [] = []
note_first o (x ∷ l) = if is_left x.outcome then noted_as o x.command ∷ l else x ∷ note_first o l

abbrev pub answered_account : Outcome → Account → Account
answered_account o a = record {
  running = a.running;
  flying = false;
  commands = note_first o a.commands;
  last_sent = a.last_sent;
  sends = a.sends;
}

abbrev pub ended_account : Account → Account
ended_account a = record { running = false; flying = false; commands = a.commands; last_sent = a.last_sent; sends = a.sends }

-- ---- an event of D: what its answer does not name (document 02, item 3)

abbrev pub is_for : ℕ → Command → Bool
is_for d c = eqb c.device d

-- Begun (document 01, The steps), by the account: a command on D was answered, or is in flight.
abbrev pub has_begun : ℕ → Account → Bool
has_begun d a = any_of (λ x. is_for d x.command && not (is_left x.outcome)) a.commands || (a.flying && is_for d a.last_sent)

-- "Its remaining commands on D are skipped, one in flight included".
abbrev pub note_left : ℕ → List Noted → List Noted
note_left d [] = []
note_left d (x ∷ l) = (if is_for d x.command && is_left x.outcome then noted_as by_event x.command else x) ∷ note_left d l

abbrev pub skipped_account : ℕ → Account → Account
skipped_account d a = record {
  running = a.running;
  flying = a.flying && not (is_for d a.last_sent);
  commands = note_left d a.commands;
  last_sent = a.last_sent;
  sends = a.sends;
}

-- "a running routine that has begun D". One with a must left on D has aborted: the answers tell that first, and it runs no more.
abbrev pub event_account : ℕ → Account → Account
event_account d a = if a.running && has_begun d a then skipped_account d a else a

abbrev pub note_answer : Call → Answer → (ℕ → Account) → ℕ → Account
note_answer c (refused r) a = a
note_answer c (placed i j) a = put a i (placed_account (submitted_by c))
note_answer c (wait i j) a = a
note_answer c (send i x) a = put a i (sent_account x (a i))
note_answer c (done i) a = put a i (answered_account reported_done (a i))
note_answer c (skipped i l) a = put a i (answered_account (skipped_by c) (a i))
note_answer c (held i) a = put a i (answered_account found_held (a i))
note_answer c (not_held i) a = put a i (answered_account found_not_held (a i))
note_answer c (committed i) a = put a i (ended_account (a i))
note_answer c (aborted i l) a = put a i (ended_account (a i))
note_answer c (down d j) a = λ i. event_account d (a i)
note_answer c (up d j) a = λ i. event_account d (a i)
note_answer c (limited k) a = a

abbrev pub note_answers : Call → List Answer → (ℕ → Account) → ℕ → Account
note_answers c [] a = a
note_answers c (x ∷ l) a = note_answers c l (note_answer c x a)

-- The account of every id.
abbrev pub accounts_of : List Told → ℕ → Account
accounts_of [] = λ i. no_account
accounts_of (t ∷ earlier) = note_answers t.call t.answers (accounts_of earlier)

-- "A device works unless its last accepted event is a failure".
abbrev pub working_after : Answer → (ℕ → Bool) → ℕ → Bool
working_after (refused r) w = w
working_after (placed i j) w = w
working_after (wait i j) w = w
working_after (send i x) w = w
working_after (done i) w = w
working_after (skipped i l) w = w
working_after (held i) w = w
working_after (not_held i) w = w
working_after (committed i) w = w
working_after (aborted i l) w = w
working_after (down d j) w = put w d false
working_after (up d j) w = put w d true
working_after (limited k) w = w

abbrev pub working_after_all : List Answer → (ℕ → Bool) → ℕ → Bool
working_after_all [] w = w
working_after_all (x ∷ l) w = working_after_all l (working_after x w)

abbrev pub working_of : List Told → ℕ → Bool
working_of [] = λ d. true
working_of (t ∷ earlier) = working_after_all t.answers (working_of earlier)
