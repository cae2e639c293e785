-- Document 01, "Mark" and "Turn of R", with the conditions of document 02, item 4. Refusals: 10, 11. Assumes nothing.
use Rattle.rules_routine.specs.declared.refusals.Refusal.TheVariants.{NotRunning, TurnInFlight}
use Rattle.std.specs.Prelude.{Bool, true, false, not, ◌&&◌, ◌||◌, List, [], ◌∷◌, ℕ, if◌then◌else◌, Option, None, Some}
use Rattle.std.specs.Int.Signed.{lt_z}
use Rattle.rules_routine.specs.Routine.{is_condition}
use Rattle.rules_routine.specs.declared.Command.{Command}
use Rattle.rules.specs.Tables.{any_of, put}
use Rattle.rules.specs.State.{Status, in_flight, was_skipped, was_held, was_not_held, Member, State}
use Rattle.rules.specs.Answers.{Result, wait, send, skipped, held, not_held, committed, refused_for}
use Rattle.rules.specs.Progress.{is_on, is_done, begun, finished, next, next_counts_as_must, next_is_skipped, Flight, flight, advance}
use Rattle.rules.specs.Progress.{with_steps}
use Rattle.rules.specs.Due.{due}
use Rattle.rules.specs.Sequence.{Found, find, is_running, runs, with_mark, change}
use Rattle.rules.specs.Abort.{abort}
use Rattle.rules.specs.Settle.{settling}

-- "If an earlier running routine uses D and has not finished it": a routine that does not use D has finished it.
unfoldable pub holds : ℕ → Member → Bool
holds d m = is_running m && not (finished d m)

-- A second cause to wait, for a condition: "while another running routine ahead has a done setting on that device".
unfoldable pub has_set : ℕ → Member → Bool
has_set d m = is_running m && any_of (λ x. is_on d x && is_done x.status) m.steps

-- Does this routine give a command on D, or a condition on D, a cause to wait?
unfoldable pub holds_up : ℕ → Bool → Member → Bool
holds_up d condition m = holds d m || (condition && has_set d m)

-- "the first such id in the sequence", and for a condition "the first in the sequence that gives either cause to wait": the wait search,
-- through the routines ahead.
abbrev pub first_holding : ℕ → Bool → List Member → Option ℕ
first_holding d condition [] = None
first_holding d condition (m ∷ l) = if holds_up d condition m then Some m.id else first_holding d condition l

-- Mark (document 01, The steps): "It becomes R when R begins the device."
unfoldable pub mark_begun : Member → ℕ → (ℕ → ℕ) → ℕ → ℕ
mark_begun m d mark = if begun d m then mark else put mark d m.id

unfoldable pub commit : Member → Member
commit m = record { id = m.id; steps = m.steps; passed = m.passed; committed = true; restarts = m.restarts }

-- "No command left: committed."
unfoldable pub commit_turn : State → Found → Result
commit_turn s f = record { state = change s f (commit f.it); answers = committed f.it.id ∷ [] }

-- The next command, c, gets this status, and its device the mark if R begins it by that.
abbrev pub next_becomes : State → Found → Command → Status → State
next_becomes s f c st = with_mark (change s f (with_steps f.it (advance st f.it.steps))) (mark_begun f.it c.device s.mark)

-- "Otherwise the command is sent and is in flight." It keeps its device's due setting of now.
unfoldable pub send_turn : State → Found → Command → Result
send_turn s f c = record { state = next_becomes s f c (in_flight (due s c.device)); answers = send f.it.id c ∷ [] }

-- "a best-effort is skipped"
unfoldable pub skip_turn : State → Found → Command → Result
skip_turn s f c = record { state = next_becomes s f c was_skipped; answers = skipped f.it.id [] ∷ [] }

-- "if its device's due setting is below the given number, it doesn't hold"
unfoldable pub is_held : State → Command → Bool
is_held s c = not (lt_z (due s c.device) c.setting)

-- A condition on a device that is up "takes one turn, sends nothing and answers `held` or `not held` with the id".
unfoldable pub held_turn : State → Found → Command → Result
held_turn s f c = record { state = next_becomes s f c was_held; answers = held f.it.id ∷ [] }

unfoldable pub not_held_turn : State → Found → Command → Result
not_held_turn s f c = record { state = next_becomes s f c was_not_held; answers = not_held f.it.id ∷ [] }

-- The next command, its device being up.
abbrev pub proceed_up : State → Found → Command → Result
proceed_up s f c =
    if is_condition c then (if is_held s c then settling (held_turn s f c) else settling (not_held_turn s f c))
    else settling (send_turn s f c)

-- The command after a condition that did not hold "is skipped at its own turn, its device up or down, after the wait rule". Else: "If D is
-- down, a must aborts R and a best-effort is skipped"; of a condition "the following command decides". "Otherwise the command is sent and
-- is in flight."
abbrev pub proceed : State → Found → Command → Result
proceed s f c =
    if next_is_skipped false f.it.steps then settling (skip_turn s f c)
    else if s.up c.device then proceed_up s f c
    else if next_counts_as_must f.it.steps then settling (abort s f)
    else settling (skip_turn s f c)

-- "the answer is wait, with the first such id in the sequence, and no change"
abbrev pub wait_or : State → Found → Command → Option ℕ → Result
wait_or s f c (Some j) = record { state = s; answers = wait f.it.id j ∷ [] }
wait_or s f c None = proceed s f c

-- "No command left: committed. Otherwise let D be the next command's device."
abbrev pub turn_next : State → Found → Option Command → Result
turn_next s f None = settling (commit_turn s f)
turn_next s f (Some c) = wait_or s f c (first_holding c.device (is_condition c) f.ahead)

abbrev pub turn_flight : State → Found → Option Flight → Result
turn_flight s f (Some x) = refused_for TurnInFlight s
turn_flight s f None = turn_next s f (next f.it.steps)

abbrev pub turn_found : State → Option Found → Result
turn_found s None = refused_for NotRunning s
turn_found s (Some f) = turn_flight s f (flight f.it.steps)

unfoldable pub turn_of : State → ℕ → Result
turn_of s i = turn_found s (find (runs i) s.sequence)
