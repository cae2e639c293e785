-- Document 02, item 13, "New pass limit without a stop". Refusals: 1, 2. Assumes nothing.
use Rattle.std.specs.Prelude.{[], ◌∷◌, ℕ}
use Rattle.rules_routine.specs.Refusals.{◌and_then◌, Verdict}
use Rattle.rules.specs.State.{State}
use Rattle.rules.specs.Answers.{Result, limited, unless_refused}
use Rattle.rules.specs.Settle.{settling}
use Rattle.rules.specs.Open.{devices_check, limit_check}

-- The first two tests of an opening, of the hub's own N and the new K. Every hub that an opening made has an N of 1 to 32: only where no
-- hub was made is the cause 1.
abbrev pub new_limit_check : ℕ → ℕ → Verdict
new_limit_check n k = devices_check n and_then limit_check k

-- "Every routine keeps its count", and "No id, mark, setting or place changes": K alone does.
abbrev pub with_pass_limit : State → ℕ → State
with_pass_limit s k = record {
  devices = s.devices;
  pass_limit = k;
  next_id = s.next_id;
  sequence = s.sequence;
  settled_at = s.settled_at;
  up = s.up;
  mark = s.mark;
}

-- It settles, as document 01 has it "After each call". After calls from an opening nothing is left to settle, so that there K alone changes
-- by it (`limit_changes_k` of crate `rules_promises`).
unfoldable pub limit_of : State → ℕ → Result
limit_of s k =
    unless_refused (new_limit_check s.devices k) s
    (settling (record { state = with_pass_limit s k; answers = limited k ∷ [] }))
