-- Events attached to a routine or to the settled part: document 01, "Failure or restart of D", "Abort of R" and "Settling". A failure
-- changes no due setting, so that what is kept of events is the last restart of each device. Assumes nothing.
use Rattle.std.specs.Prelude.{List, [], ◌∷◌, ℕ, eqb, ℤ, if◌then◌else◌, Option, None, Some}
use Rattle.rules.specs.Tables.{put}
use Rattle.rules.specs.State.{Member, State}
use Rattle.rules.specs.Due.{after_restart}
use Rattle.rules.specs.Sequence.{with_sequence, with_settled}

-- One restart, of D.
unfoldable pub one_restart : ℕ → ℤ → ℕ → Option ℤ
one_restart d v = put (λ e. None) d (Some v)

-- The later of two last restarts.
abbrev pub later : Option ℤ → Option ℤ → Option ℤ
later o None = o
later o (Some v) = Some v

-- Restarts attached to a routine, "behind the events already attached there".
unfoldable pub attach_to : (ℕ → Option ℤ) → Member → Member
attach_to e m =
    record { id = m.id; steps = m.steps; passed = m.passed; committed = m.committed; restarts = λ d. later (m.restarts d) (e d) }

-- The routine with this id gets the restarts.
abbrev pub attach_at : ℕ → (ℕ → Option ℤ) → List Member → List Member
attach_at i e [] = []
attach_at i e (m ∷ l) = if eqb m.id i then attach_to e m ∷ l else m ∷ attach_at i e l

-- "Events attached to 0 .. join the end of the settled part as soon as they are attached".
unfoldable pub settle_restarts : (ℕ → Option ℤ) → (ℕ → ℤ) → ℕ → ℤ
settle_restarts e settled d = after_restart (e d) (settled d)

-- Restarts attached to an id: to 0, the settled part, or to the routine that has it.
unfoldable pub attach : ℕ → (ℕ → Option ℤ) → State → State
attach i e s =
    with_settled (with_sequence s (if eqb i 0 then s.sequence else attach_at i e s.sequence))
    (if eqb i 0 then settle_restarts e s.settled_at else s.settled_at)
