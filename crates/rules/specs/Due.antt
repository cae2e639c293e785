-- Document 01, "Abort of R": "The due setting of D is that of the last, in the hub's order, of the done commands on D and the restarts of
-- D, running routines included; 0 if there is none." Assumes nothing.
use Rattle.std.specs.Prelude.{◌&&◌, List, [], ◌∷◌, ℕ, ℤ, if◌then◌else◌, Option, None, Some}
use Rattle.rules.specs.State.{Step, Member, State}
use Rattle.rules.specs.Progress.{is_on, is_done}

-- What D is due after these commands, v before them.
abbrev pub after_steps : ℕ → List Step → ℤ → ℤ
after_steps d [] v = v
after_steps d (x ∷ l) v = after_steps d l (if is_on d x && is_done x.status then x.command.setting else v)

-- What D is due after a restart of it, if there is one.
abbrev pub after_restart : Option ℤ → ℤ → ℤ
after_restart None v = v
after_restart (Some w) v = w

-- What D is due after a routine and the events attached to it.
unfoldable pub after_member : ℕ → Member → ℤ → ℤ
after_member d m v = after_restart (m.restarts d) (after_steps d m.steps v)

abbrev pub after_members : ℕ → List Member → ℤ → ℤ
after_members d [] v = v
after_members d (m ∷ l) v = after_members d l (after_member d m v)

-- Due (document 01, Abort of R): the settled part, then the sequence.
unfoldable pub due : State → ℕ → ℤ
due s d = after_members d s.sequence (s.settled_at d)
