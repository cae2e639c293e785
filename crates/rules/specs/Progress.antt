-- Document 01, "The steps": how far a routine is with its commands and with a device; conditions: document 02, item 4. A condition "uses
-- its device like a command". Assumes nothing.
use Rattle.std.specs.Prelude.{Bool, true, false, not, ◌&&◌, List, [], ◌∷◌, map, ℕ, eqb, ℤ, if◌then◌else◌, Option, None, Some}
use Rattle.rules_routine.specs.Routine.{must_tag, is_condition}
use Rattle.rules_routine.specs.declared.Command.{Command}
use Rattle.rules.specs.Tables.{any_of}
use Rattle.rules.specs.State.{Status, to-do, in_flight, was_done, was_skipped, was_held, was_not_held, Step, Member}

-- "tag (0 must, 1 best-effort)"
abbrev pub is_must : Command → Bool
is_must c = eqb c.tag must_tag

abbrev pub is_on : ℕ → Step → Bool
is_on d x = eqb x.command.device d

abbrev pub is_to_do : Status → Bool
is_to_do to-do = true
is_to_do (in_flight u) = false
is_to_do was_done = false
is_to_do was_skipped = false
is_to_do was_held = false
is_to_do was_not_held = false

abbrev pub is_in_flight : Status → Bool
is_in_flight to-do = false
is_in_flight (in_flight u) = true
is_in_flight was_done = false
is_in_flight was_skipped = false
is_in_flight was_held = false
is_in_flight was_not_held = false

abbrev pub is_done : Status → Bool
is_done to-do = false
is_done (in_flight u) = false
is_done was_done = true
is_done was_skipped = false
is_done was_held = false
is_done was_not_held = false

-- "answered (done or skipped)"; of a condition held or not held, too
abbrev pub is_answered : Status → Bool
is_answered to-do = false
is_answered (in_flight u) = false
is_answered was_done = true
is_answered was_skipped = true
is_answered was_held = true
is_answered was_not_held = true

-- Begun (document 01, The steps): "from its first command on D that was sent or skipped"; of a condition "an answered one begins it".
unfoldable pub begun : ℕ → Member → Bool
begun d m = any_of (λ x. is_on d x && not (is_to_do x.status)) m.steps

-- Left on D: on D and not answered, to do or in flight.
abbrev pub is_left_on : ℕ → Step → Bool
is_left_on d x = is_on d x && not (is_answered x.status)

-- Finished (document 01, The steps): "when all its commands on D are answered".
unfoldable pub finished : ℕ → Member → Bool
finished d m = not (any_of (is_left_on d) m.steps)

-- It has a command in flight on D.
unfoldable pub in_flight_on : ℕ → Member → Bool
in_flight_on d m = any_of (λ x. is_on d x && is_in_flight x.status) m.steps

-- The next command: the first that is neither sent nor skipped, anywhere in the routine.
abbrev pub next : List Step → Option Command
next [] = None
next (x ∷ l) = if is_to_do x.status then Some x.command else next l

-- ---- conditions

abbrev pub commands_in : List Step → List Command
commands_in = map (λ x. x.command)

-- "the condition has the tag of the command after it": is the tag that counts for a command must? `rest`: the commands behind it.
abbrev pub counts_as_must : Command → List Command → Bool
counts_as_must c [] = is_must c
counts_as_must c (d ∷ rest) = if is_condition c then is_must d else is_must c

-- The same of the next command.
abbrev pub next_counts_as_must : List Step → Bool
next_counts_as_must [] = false
next_counts_as_must (x ∷ l) = if is_to_do x.status then counts_as_must x.command (commands_in l) else next_counts_as_must l

-- Not held; "a skipped condition counts as not held".
abbrev pub counts_as_not_held : Status → Bool
counts_as_not_held to-do = false
counts_as_not_held (in_flight u) = false
counts_as_not_held was_done = false
counts_as_not_held was_skipped = true
counts_as_not_held was_held = false
counts_as_not_held was_not_held = true

-- A condition by which "the following command is skipped at its own turn".
abbrev pub skips_next : Step → Bool
skips_next x = is_condition x.command && counts_as_not_held x.status

-- Is the next command one that the condition before it skips? `before`: whether the command before these skips the first of them.
abbrev pub next_is_skipped : Bool → List Step → Bool
next_is_skipped before [] = false
next_is_skipped before (x ∷ l) = if is_to_do x.status then before else next_is_skipped (skips_next x) l

-- ---- a command in flight, and how commands go on

-- A command in flight, with its device's due setting when it was sent.
pub record Flight : Type 0 where
  pub command : Command
  pub due_then : ℤ

abbrev pub flight_or : Step → Status → Option Flight → Option Flight
flight_or x to-do other = other
flight_or x (in_flight u) other = Some (record { command = x.command; due_then = u })
flight_or x was_done other = other
flight_or x was_skipped other = other
flight_or x was_held other = other
flight_or x was_not_held other = other

-- The command in flight.
abbrev pub flight : List Step → Option Flight
flight [] = None
flight (x ∷ l) = flight_or x x.status (flight l)

abbrev pub with_status : Status → Step → Step
with_status st x = record { command = x.command; status = st }

-- The next command gets this status.
abbrev pub advance : Status → List Step → List Step
advance st [] = []
advance st (x ∷ l) = if is_to_do x.status then with_status st x ∷ l else x ∷ advance st l

-- The command in flight gets this status.
abbrev pub answer_flight : Status → List Step → List Step
answer_flight st [] = []
answer_flight st (x ∷ l) = if is_in_flight x.status then with_status st x ∷ l else x ∷ answer_flight st l

abbrev pub with_steps : Member → List Step → Member
with_steps m l = record { id = m.id; steps = l; passed = m.passed; committed = m.committed; restarts = m.restarts }
