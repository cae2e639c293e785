-- The waiting promise, computed: how many rounds it gives; what is no round; and schedules in which wrong rules show. That they are
-- schedules is `is_schedule` of `RoundsExist.antt` of crate `rules_promises`. Assumes nothing.
use Rattle.std.proofs.Common.{Option, None, Some}
use mathlib.Core.Path.{◌≡◌, refl}
use mathlib.Core.Bool.{Bool, true, false, not, ◌&&◌}
use mathlib.Core.List.{List, [], ◌∷◌, ◌++◌, map}
use Prim.Native.Nat.{ℕ, zero, suc, ◌+◌, ◌*◌}
use native.Mathlib.Omega.{arith}
use lib.Dec.{eqb}
use lib.IntN.{pos}
use Rattle.std.specs.Prelude.{if◌then◌else◌}
use Rattle.rules_routine.specs.declared.Command.{Command}
use Rattle.rules.specs.State.{Member, State}
use Rattle.rules.specs.Answers.{Call, submit, turn, report, limit, placed}
use Rattle.rules.specs.Progress.{Flight, flight}
use Rattle.rules.specs.Sequence.{is_running}
use Rattle.rules.specs.Open.{new_hub}
use Rattle.rules.specs.Report.{code_done}
use Rattle.rules.specs.Calls.{result_of, state_after}
use Rattle.rules.specs.History.{Told}
use Rattle.rules.specs.Rounds.{calls_told, told_then, Ended, enough_rounds, EachOnce}
use Rattle.rules.specs.Examples.{calc, must}

-- ---- a round, from the state

abbrev pub has_flight : Option Flight → Bool
has_flight None = false
has_flight (Some x) = true

unfoldable pub is_flying : Member → Bool
is_flying m = is_running m && has_flight (flight m.steps)

unfoldable pub is_idle : Member → Bool
is_idle m = is_running m && not (has_flight (flight m.steps))

-- the ids of those that pass the test, in the sequence's order
abbrev pub ids_with : (Member → Bool) → List Member → List ℕ
ids_with q [] = []
ids_with q (m ∷ l) = if q m then m.id ∷ ids_with q l else ids_with q l

-- the turns of a round, in the sequence's order, and its reports
abbrev pub turns_at : State → List Call
turns_at s = map turn (ids_with is_idle s.sequence)

abbrev pub reports_at : (ℕ → ℕ) → State → List Call
reports_at codes s = map (λ i. report i (codes i)) (ids_with is_flying s.sequence)

-- ---- a schedule, from the state

abbrev pub all_done : ℕ → ℕ
all_done i = code_done

-- n rounds, all commands done, and before each a submission of cs
abbrev pub busy : ℕ → List Command → State → List Call
busy zero cs s = []
busy (suc n) cs s =
    let t = (result_of s (submit cs)).state in
    let u = state_after t (turns_at t) in
    submit cs ∷ (turns_at t ++ (reports_at all_done u ++ busy n cs (state_after u (reports_at all_done u))))

-- one device, up; calls; then a routine is placed and the rounds begin, newcomers before each
pub record Sitting : Type 0 where
  pub pass_limit : ℕ
  pub before : List Call
  pub commands : List Command
  pub id : ℕ
  pub follows : ℕ
  pub newcomers : List Command

abbrev pub opens_at : Sitting → State
opens_at x = new_hub 1 x.pass_limit 1

abbrev pub placing : Sitting → List Call
placing x = x.before ++ (submit x.commands ∷ [])

abbrev pub placed_state : Sitting → State
placed_state x = state_after (opens_at x) (placing x)

abbrev pub rounds_of : Sitting → ℕ → List Call
rounds_of x n = busy n x.newcomers (placed_state x)

-- these calls from the submission on; then a new pass limit; then n rounds
abbrev pub changed : Sitting → List Call → ℕ → ℕ → List Call
changed x earlier k n =
    earlier ++ (limit k ∷ busy n x.newcomers (result_of (state_after (placed_state x) earlier) (limit k)).state)

-- all that is told, with these calls from the submission on
abbrev pub told_after : Sitting → List Call → List Told
told_after x later = told_then [] (calls_told (opens_at x) (x.before ++ (submit x.commands ∷ later)))

unfoldable pub calc_rounds : Unit {0}
unfolding calc is_flying is_idle
calc_rounds = tt

-- ---- how many rounds are promised

-- Document 02, item 1: "within 9 × (16 + K) rounds". The 9 and the 16 are the document's own numbers and stand here as such; the promise is
-- worded by the capacities. That no fewer are enough is `needs_all` of crate `rules_promises`.
pub as_many_as_documented : (k : ℕ) → enough_rounds k ≡ 9 * (16 + k)
as_many_as_documented k = refl

-- ---- what is no round

-- one that leaves out a routine, or asks it twice
pub nobody_left_out : ¬ EachOnce (λ i. eqb i 1) []
nobody_left_out each = let z : ◌≡◌ {A = ℕ} 0 1 = each 1 in absurd (omega arith)

pub nobody_twice : ¬ EachOnce (λ i. eqb i 1) (1 ∷ 1 ∷ [])
nobody_twice each = let z : ◌≡◌ {A = ℕ} 2 1 = each 1 in absurd (omega arith)

-- ---- where wrong rules show

-- with K = 1 a routine of one command, and before each round a newcomer on the same device
abbrev pub overtaken : Sitting
overtaken = record {
  pass_limit = 1;
  before = [];
  commands = must 0 (pos 5) ∷ [];
  id = 1;
  follows = 0;
  newcomers = must 0 (pos 7) ∷ [];
}

pub overtaken_placed : (result_of (state_after (opens_at overtaken) overtaken.before) (submit overtaken.commands)).answers
    ≡ placed overtaken.id overtaken.follows ∷ []
unfolding calc_rounds
overtaken_placed = refl

-- it ends in time. If passes were not counted, or did not keep newcomers back, it would wait for ever; and so would all, if a turn waited
-- for routines behind its own.
pub overtaken_ends : Ended overtaken.id (told_after overtaken (rounds_of overtaken (enough_rounds overtaken.pass_limit)))
unfolding calc_rounds
overtaken_ends = refl

-- ---- where a wrong rule about a lower pass limit shows

-- as `overtaken`, but with K = 2; after two rounds the routine has been passed twice, and K becomes 1
abbrev pub lowered : Sitting
lowered = record { pass_limit = 2; before = []; commands = must 0 (pos 5) ∷ []; id = 1; follows = 0; newcomers = must 0 (pos 7) ∷ [] }

abbrev pub lowered_to : ℕ
lowered_to = 1

abbrev pub after_lowering : List Call
after_lowering = changed lowered (rounds_of lowered 2) lowered_to (enough_rounds lowered_to)

pub lowered_placed : (result_of (state_after (opens_at lowered) lowered.before) (submit lowered.commands)).answers
    ≡ placed lowered.id lowered.follows ∷ []
unfolding calc_rounds
lowered_placed = refl

-- it ends in time. If a routine that has been passed oftener than K could be passed, it would wait for ever.
pub lowered_ends : Ended lowered.id (told_after lowered after_lowering)
unfolding calc_rounds
lowered_ends = refl
