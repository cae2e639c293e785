-- The sequence: finding a routine in it, and changes of the state. Assumes nothing.
use Rattle.std.specs.Prelude.{Bool, not, ◌&&◌, List, [], ◌∷◌, ◌++◌, ℕ, eqb, ℤ, if◌then◌else◌, Option, None, Some}
use Rattle.rules.specs.State.{Member, State}

-- A routine of the sequence, with those ahead of it and those behind it.
pub record Found : Type 0 where
  pub ahead : List Member
  pub it : Member
  pub behind : List Member

abbrev pub onto : Member → Option Found → Option Found
onto m None = None
onto m (Some f) = Some (record { ahead = m ∷ f.ahead; it = f.it; behind = f.behind })

-- The first that passes the test.
abbrev pub find : (Member → Bool) → List Member → Option Found
find p [] = None
find p (m ∷ l) = if p m then Some (record { ahead = []; it = m; behind = l }) else onto m (find p l)

-- "a routine runs until committed or aborted": in the sequence, until committed.
unfoldable pub is_running : Member → Bool
is_running m = not m.committed

-- The running routine with this id.
unfoldable pub runs : ℕ → Member → Bool
runs i m = eqb m.id i && is_running m

-- The id of the last; i if there is none.
abbrev pub last_id_or : ℕ → List Member → ℕ
last_id_or i [] = i
last_id_or i (m ∷ l) = last_id_or m.id l

abbrev pub with_sequence : State → List Member → State
with_sequence s l = record {
  devices = s.devices;
  pass_limit = s.pass_limit;
  next_id = s.next_id;
  sequence = l;
  settled_at = s.settled_at;
  up = s.up;
  mark = s.mark;
}

abbrev pub with_settled : State → (ℕ → ℤ) → State
with_settled s b = record {
  devices = s.devices;
  pass_limit = s.pass_limit;
  next_id = s.next_id;
  sequence = s.sequence;
  settled_at = b;
  up = s.up;
  mark = s.mark;
}

abbrev pub with_up : State → (ℕ → Bool) → State
with_up s u = record {
  devices = s.devices;
  pass_limit = s.pass_limit;
  next_id = s.next_id;
  sequence = s.sequence;
  settled_at = s.settled_at;
  up = u;
  mark = s.mark;
}

abbrev pub with_mark : State → (ℕ → ℕ) → State
with_mark s m = record {
  devices = s.devices;
  pass_limit = s.pass_limit;
  next_id = s.next_id;
  sequence = s.sequence;
  settled_at = s.settled_at;
  up = s.up;
  mark = m;
}

-- Marks that were i become j.
unfoldable pub move_marks : ℕ → ℕ → (ℕ → ℕ) → ℕ → ℕ
move_marks i j mark d = if eqb (mark d) i then j else mark d

-- The routine found becomes m.
abbrev pub change : State → Found → Member → State
change s f m = with_sequence s (f.ahead ++ (m ∷ f.behind))
