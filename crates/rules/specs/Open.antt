-- The opening. Document 01, "Things and ranges": "At the opening all are up at 0." Refusals: 1, 2, 3. Assumes nothing.
use Rattle.rules_routine.specs.declared.refusals.Refusal.TheVariants.{DevicesOutOfRange, PassLimitOutOfRange, FirstIdZero}
use Rattle.std.specs.Prelude.{true, ◌||◌, [], ℕ, ltb, eqb, pos, Ok, Err}
use Rattle.rules_routine.specs.Limits.{max_devices, highest_pass_limit}
use Rattle.rules_routine.specs.Refusals.{refuse◌when◌, ◌and_then◌, Verdict}
use Rattle.rules_routine.specs.declared.refusals.Refusal.{Refusal}
use Rattle.rules.specs.State.{State}

-- What an opening gives: a hub; or a refusal, and no hub is made.
pub data Opening : Type 0 where
  opened : State → Opening
  not_opened : Refusal → Opening

-- "N not 1 to 32", and "K above 8": of an opening, and of a new pass limit (`Limit.antt`).
abbrev pub devices_check : ℕ → Verdict
devices_check n = refuse DevicesOutOfRange when (eqb n 0 || ltb max_devices n)

abbrev pub limit_check : ℕ → Verdict
limit_check k = refuse PassLimitOutOfRange when ltb highest_pass_limit k

unfoldable pub open_check : ℕ → ℕ → ℕ → Verdict
open_check n k first =
    devices_check n
    and_then limit_check k
    and_then refuse FirstIdZero when eqb first 0

-- A hub just opened.
unfoldable pub new_hub : ℕ → ℕ → ℕ → State
new_hub n k first =
    record { devices = n; pass_limit = k; next_id = first; sequence = []; settled_at = λ d. pos 0; up = λ d. true; mark = λ d. 0 }

-- No hub, where a hub has to stand: beside a refused opening, and before an accepted one. It has no devices, and every call on it is turned
-- down (`StaysClosed` of `Calls.antt`).
abbrev pub closed_hub : State
closed_hub = new_hub 0 0 1

abbrev pub open_if : Verdict → State → Opening
open_if (Ok tt) s = opened s
open_if (Err r) s = not_opened r

unfoldable pub open_of : ℕ → ℕ → ℕ → Opening
open_of n k first = open_if (open_check n k first) (new_hub n k first)
