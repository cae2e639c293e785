-- Document 01, "Things and ranges" and "The steps": the hub's state. Assumes nothing.
use Rattle.std.specs.Prelude.{Bool, List, ℕ, ℤ, Option}
use Rattle.rules_routine.specs.declared.Command.{Command}

-- Where a command of a routine in the sequence stands. One in flight keeps its device's due setting "when the command was sent".
-- "Answered" is done or skipped and, of a condition (document 02, item 4), held or not held.
pub data Status : Type 0 where
  to-do : Status
  in_flight : ℤ → Status
  was_done : Status
  was_skipped : Status
  was_held : Status
  was_not_held : Status

pub record Step : Type 0 where
  pub command : Command
  pub status : Status

-- A routine of the sequence, running or committed but not settled. `passed`: how often a newcomer was placed ahead of it while it ran. Of
-- the events attached to it, what later answers depend on: for each device the setting of the last restart, if there is one.
pub record Member : Type 0 where
  pub id : ℕ
  pub steps : List Step
  pub passed : ℕ
  pub committed : Bool
  pub restarts : ℕ → Option ℤ

-- The hub: N; K; the id that the next routine gets; the sequence; for each device what the settled part leaves it at, whether it is up, and
-- its mark.
pub record State : Type 0 where
  pub devices : ℕ
  pub pass_limit : ℕ
  pub next_id : ℕ
  pub sequence : List Member
  pub settled_at : ℕ → ℤ
  pub up : ℕ → Bool
  pub mark : ℕ → ℕ
