-- Document 01, "Submit". Refusals: 4; then the commands in turn, each 5, 6, 7 and 22 (document 02, item 4); then 8, 9. Assumes nothing.
use Rattle.rules_routine.specs.declared.refusals.Refusal.TheVariants.{SequenceFull, IdsUsedUp}
use Rattle.std.specs.Prelude.{Bool, false, ◌&&◌, ◌||◌, List, [], ◌∷◌, ◌++◌, map, ℕ, suc, leb, ltb, eqb, length, if◌then◌else◌, None}
use Rattle.rules_routine.specs.Refusals.{refuse◌when◌, ◌and_then◌, Verdict}
use Rattle.rules_routine.specs.Routine.{routine_check}
use Rattle.rules_routine.specs.declared.Command.{Command}
use Rattle.rules.specs.Tables.{any_of}
use Rattle.rules_routine.specs.Limits.{max_sequence, highest_id}
use Rattle.rules.specs.State.{to-do, Step, Member, State}
use Rattle.rules.specs.Answers.{Result, placed, unless_refused}
use Rattle.rules.specs.Sequence.{is_running, last_id_or}
use Rattle.rules.specs.Settle.{settling}

unfoldable pub submit_check : State → List Command → Verdict
submit_check s cs =
    routine_check s.devices cs
    and_then refuse SequenceFull when leb max_sequence (length s.sequence)
    and_then refuse IdsUsedUp when ltb highest_id s.next_id

-- What the newcomer must follow: "the marks of its devices; every running routine that has been passed K times"; with another K than that
-- of the opening, "passed as often as the K then in force, or oftener" (document 02, item 13)
unfoldable pub blocks : State → List Command → Member → Bool
blocks s cs m = any_of (λ c. eqb (s.mark c.device) m.id) cs || (is_running m && leb s.pass_limit m.passed)

-- "directly after the latest, in the sequence, of": the part of the sequence up to the last that passes the test. It is empty if none does:
-- the newcomer then follows the settled part.
abbrev pub up_to_last : (Member → Bool) → List Member → List Member
up_to_last p [] = []
up_to_last p (m ∷ l) = if any_of p (m ∷ l) then m ∷ up_to_last p l else []

-- The part of the sequence behind the last that passes the test.
abbrev pub past_last : (Member → Bool) → List Member → List Member
past_last p [] = []
past_last p (m ∷ l) = if any_of p (m ∷ l) then past_last p l else m ∷ l

-- "Every running routine now behind it has been passed once more."
unfoldable pub pass : Member → Member
pass m = record {
  id = m.id;
  steps = m.steps;
  passed = if is_running m then suc m.passed else m.passed;
  committed = m.committed;
  restarts = m.restarts;
}

abbrev pub step_of : Command → Step
step_of c = record { command = c; status = to-do }

unfoldable pub newcomer : ℕ → List Command → Member
newcomer i cs = record { id = i; steps = map step_of cs; passed = 0; committed = false; restarts = λ d. None }

-- "It gets the next id"
unfoldable pub place : State → List Command → State
place s cs = record {
  devices = s.devices;
  pass_limit = s.pass_limit;
  next_id = suc s.next_id;
  sequence = up_to_last (blocks s cs) s.sequence ++ (newcomer s.next_id cs ∷ map pass (past_last (blocks s cs) s.sequence));
  settled_at = s.settled_at;
  up = s.up;
  mark = s.mark;
}

-- "The answer is its id and the id it follows." Id 0 means the settled part.
unfoldable pub submit_of : State → List Command → Result
submit_of s cs =
    unless_refused (submit_check s cs) s
    (settling (record { state = place s cs; answers = placed s.next_id (last_id_or 0 (up_to_last (blocks s cs) s.sequence)) ∷ [] }))
