-- The calls of the hub, with any numbers and lists, and their answers as data: every value that document 01 prints, under the word that it
-- prints, `held` and `not held` of document 02, item 4, among them; and the new pass limit of item 13, which no line makes. Assumes
-- nothing.
use Rattle.rules_routine.specs.Refusals.{Verdict}
use Rattle.std.specs.Prelude.{List, [], ◌∷◌, ℕ, ℤ, Ok, Err}
use Rattle.rules_routine.specs.declared.Command.{Command}
use Rattle.rules_routine.specs.declared.refusals.Refusal.{Refusal}
use Rattle.rules.specs.State.{State}

pub data Call : Type 0 where
  submit : List Command → Call
  turn : ℕ → Call  -- id
  report : ℕ → ℕ → Call  -- id, code
  failure : ℕ → Call  -- device
  restart : ℕ → ℤ → Call  -- device, setting
  cancel : ℕ → Call  -- id
  limit : ℕ → Call  -- the new K

-- A setting that a device is put back to.
pub record Back : Type 0 where
  pub device : ℕ
  pub setting : ℤ

pub data Answer : Type 0 where
  refused : Refusal → Answer
  placed : ℕ → ℕ → Answer  -- id, the id it follows
  wait : ℕ → ℕ → Answer  -- id, the id it waits on
  send : ℕ → Command → Answer  -- id, the command to send
  done : ℕ → Answer  -- id
  skipped : ℕ → List Back → Answer  -- id, what is put back
  held : ℕ → Answer  -- id
  not_held : ℕ → Answer  -- id
  committed : ℕ → Answer  -- id
  aborted : ℕ → List Back → Answer  -- id, what is put back, by rising device
  down : ℕ → ℕ → Answer  -- device, the id that the failure follows
  up : ℕ → ℕ → Answer  -- device, the id that the restart follows
  limited : ℕ → Answer  -- the K now in force

-- What a call gives: the next state and the answers, one for each line that document 01 prints. There are two only where a failure or a
-- restart aborts a routine: the abort, then its own.
pub record Result : Type 0 where
  pub state : State
  pub answers : List Answer

-- A call that is turned down leaves the state as it was.
abbrev pub turned_down : Refusal → State → Result
turned_down r s = record { state = s; answers = refused r ∷ [] }

abbrev pub refused_for : Refusal → State → Result
refused_for cause s = turned_down cause s

-- The result of a call if the verdict on it lets it pass.
abbrev pub unless_refused : Verdict → State → Result → Result
unless_refused (Ok tt) s result = result
unless_refused (Err r) s result = turned_down r s
