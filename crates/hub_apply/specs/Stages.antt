-- What the functions over a row of stages promise. Assumes nothing.
use Rattle.std.specs.Prelude.{◌≡◌, ◌&&◌, List, ℕ, ◌≤◌, ◌<◌, eqb, ltb, get_or, if◌then◌else◌}
use Rattle.hub_state.specs.View.{done_code, skipped_code}

-- The first place from one to another whose command is not answered; the end if there is none.
pub record FirstUnanswered (stage : List ℕ) (from end r : ℕ) : Type 0 where
  pub within : (from ≤ r) × (r ≤ end)
  pub answered_before : (k : ℕ) → from ≤ k → k < r → done_code ≤ get_or stage k 0
  pub unanswered_there : r < end → get_or stage r 0 < done_code

-- The commands from one place to another that are left on the device are skipped; all else is as it was.
pub record SkipsLeft (stage device : List ℕ) (d from end : ℕ) (r : List ℕ) : Type 0 where
  pub inside :
      (k : ℕ) → from ≤ k → k < end →
      get_or r k 0 ≡ (if eqb (get_or device k 0) d && ltb (get_or stage k 0) done_code then skipped_code else get_or stage k 0)
  pub outside : (k : ℕ) → (from ≤ k → k < end → ⊥) → get_or r k 0 ≡ get_or stage k 0
