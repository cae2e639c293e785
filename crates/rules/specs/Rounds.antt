-- Document 02, item 1, "Nobody waits for ever", with the new pass limits of item 13: rounds, schedules and the waiting promise. Which
-- routines run, what is in flight, what has ended and which K is in force is told by calls and answers, without a look at the hub. The
-- proof is `ended_in_time` of crate `rules_promises`; `docs/WAITING.md` walks through it. Assumes nothing.
use Rattle.std.specs.Prelude.{◌≡◌, Bool, false, not, ◌&&◌, List, [], ◌∷◌, ◌++◌, map, ℕ, suc, ◌+◌, ◌*◌, ◌≤◌, eqb, if◌then◌else◌}
use Rattle.rules_routine.specs.Limits.{max_commands, max_sequence}
use Rattle.rules_routine.specs.declared.Command.{Command}
use Rattle.rules.specs.Tables.{any_of, Each}
use Rattle.rules.specs.State.{State}
use Rattle.rules.specs.Answers.{Call, submit, turn, report, failure, restart, cancel, limit, Answer, refused, placed, wait, send}
use Rattle.rules.specs.Answers.{done, skipped, held, not_held, committed, aborted}
use Rattle.rules.specs.Answers.{down, up, limited}
use Rattle.rules.specs.Progress.{is_in_flight}
use Rattle.rules.specs.Sequence.{runs}
use Rattle.rules.specs.Open.{opened, open_of}
use Rattle.rules.specs.Report.{code_failed}
use Rattle.rules.specs.Calls.{result_of, state_after}
use Rattle.rules.specs.History.{Told, accounts_of}
use Rattle.rules.specs.World.{is_accepted}

-- ---- what is told

-- Calls, one after another from the state s, each with its answers; in time's order.
abbrev pub calls_told : State → List Call → List Told
calls_told s [] = []
calls_told s (c ∷ l) = record { call = c; answers = (result_of s c).answers } ∷ calls_told (result_of s c).state l

-- A history, which has the latest first, and behind it what is then told, in time's order.
abbrev pub told_then : List Told → List Told → List Told
told_then history [] = history
told_then history (t ∷ l) = told_then (t ∷ history) l

-- Has the routine a command in flight? By its account, which knows what an event skips.
abbrev pub flying_of : List Told → ℕ → Bool
flying_of history i = (accounts_of history i).flying

-- Is it a "running routine that has nothing in flight"?
abbrev pub idle_of : List Told → ℕ → Bool
idle_of history i = (accounts_of history i).running && not (flying_of history i)

-- "a routine is ended": it was committed or aborted, by the answers.
abbrev pub Ended : ℕ → List Told → Type 0
Ended i history = (accounts_of history i).running ≡ false

-- "the K then in force": k, which is that of the opening, until a new one is accepted.
abbrev pub limit_after : Answer → ℕ → ℕ
limit_after (refused r) k = k
limit_after (placed i j) k = k
limit_after (wait i j) k = k
limit_after (send i c) k = k
limit_after (done i) k = k
limit_after (skipped i l) k = k
limit_after (held i) k = k
limit_after (not_held i) k = k
limit_after (committed i) k = k
limit_after (aborted i l) k = k
limit_after (down d j) k = k
limit_after (up d j) k = k
limit_after (limited new) k = new

abbrev pub limit_after_all : List Answer → ℕ → ℕ
limit_after_all [] k = k
limit_after_all (x ∷ l) k = limit_after_all l (limit_after x k)

abbrev pub limit_told : ℕ → List Told → ℕ
limit_told k [] = k
limit_told k (t ∷ earlier) = limit_after_all t.answers (limit_told k earlier)

-- ---- rounds

-- The calls among these that were accepted. The others were refused: they change nothing, and may stand anywhere.
abbrev pub accepted_in : List Told → List Call
accepted_in [] = []
accepted_in (t ∷ l) = if is_accepted t.answers then t.call ∷ accepted_in l else accepted_in l

-- How often i stands in a list.
abbrev pub times : ℕ → List ℕ → ℕ
times i [] = 0
times i (j ∷ l) = if eqb j i then suc (times i l) else times i l

-- These ids are those that pass the test, each once, in any order.
abbrev pub EachOnce : (ℕ → Bool) → List ℕ → Type 0
EachOnce test ids = (i : ℕ) → times i ids ≡ (if test i then 1 else 0)

-- A round (document 02, item 1), after a history: "one turn for each running routine that has nothing in flight, and then a done or failed
-- report for each command in flight". Nothing else is accepted in it. A routine has at most one command in flight.
pub record Round (history turns reports : List Told) : Type 0 where
  pub turned : List ℕ
  pub turns_are : accepted_in turns ≡ map turn turned
  pub one_turn_each : EachOnce (idle_of history) turned
  pub reported : List ℕ
  pub codes : ℕ → ℕ
  pub reports_are : accepted_in reports ≡ map (λ i. report i (codes i)) reported
  pub one_report_each : EachOnce (flying_of (told_then history turns)) reported

-- What may be told between rounds: "submissions fall between rounds"; and refused calls.
pub data Between : Told → Type 0 where
  a_submission : (cs : List Command) (answers : List Answer) → Between (record { call = submit cs; answers = answers })
  a_refusal : (t : Told) → is_accepted t.answers ≡ false → Between t

-- A schedule of a hub that was opened with K = k: the history at its start, the history now, and how many of its rounds count: those since
-- the start or, "if later, the last change, which falls between rounds". A new pass limit that is already in force is no change.
pub data Schedule (k : ℕ) (start : List Told) : List Told → ℕ → Type 0 where
  begins : Schedule k start start 0
  between : {now : List Told} {n : ℕ} → Schedule k start now n → (t : Told) → Between t → Schedule k start (t ∷ now) n
  a_new_limit : {now : List Told} {n : ℕ} → Schedule k start now n → (new : ℕ) →
      Schedule k start (record { call = limit new; answers = limited new ∷ [] } ∷ now) (if eqb new (limit_told k now) then n else 0)
  a_round : {now : List Told} {n : ℕ} → Schedule k start now n → (turns reports : List Told) → Round now turns reports →
      Schedule k start (told_then (told_then now turns) reports) (suc n)

-- ---- the promise

-- "9 × (16 + K) rounds"
abbrev pub enough_rounds : ℕ → ℕ
enough_rounds k = (max_commands + 1) * (max_sequence + k)

-- The waiting promise, for every accepted opening, every list of calls, every submission then accepted, with id i, and every schedule from
-- there: once so many rounds count, by the K in force, the routine is ended. Without a new pass limit all rounds count, and K is that of
-- the opening: so it is the promise of item 1.
abbrev pub EndedInTime : Type 0
EndedInTime =
    (n k first : ℕ) (s : State) → open_of n k first ≡ opened s →
    (before : List Call) (cs : List Command) (i j : ℕ) → (result_of (state_after s before) (submit cs)).answers ≡ placed i j ∷ [] →
    (later : List Call) (rounds : ℕ) →
    let start = told_then [] (calls_told s (before ++ (submit cs ∷ []))) in
    let now = told_then [] (calls_told s (before ++ (submit cs ∷ later))) in
    Schedule k start now rounds → enough_rounds (limit_told k now) ≤ rounds → Ended i now

-- It is no new pass limit.
abbrev pub KeepsLimit : Call → Type 0
KeepsLimit (submit cs) = Unit {0}
KeepsLimit (turn i) = Unit {0}
KeepsLimit (report i code) = Unit {0}
KeepsLimit (failure d) = Unit {0}
KeepsLimit (restart d v) = Unit {0}
KeepsLimit (cancel i) = Unit {0}
KeepsLimit (limit k) = ⊥

-- An instance of it, the promise of item 1: no change happens, and K is the opening's.
abbrev pub EndedInTimeAtOneLimit : Type 0
EndedInTimeAtOneLimit =
    (n k first : ℕ) (s : State) → open_of n k first ≡ opened s →
    (before : List Call) (cs : List Command) (i j : ℕ) → (result_of (state_after s before) (submit cs)).answers ≡ placed i j ∷ [] →
    (later : List Call) (rounds : ℕ) → Each KeepsLimit (before ++ (submit cs ∷ later)) →
    let start = told_then [] (calls_told s (before ++ (submit cs ∷ []))) in
    let now = told_then [] (calls_told s (before ++ (submit cs ∷ later))) in
    Schedule k start now rounds → enough_rounds k ≤ rounds → Ended i now

-- ---- what is told is what the hub holds

-- After every list of calls a routine runs, by the answers, exactly if it does in the hub's sequence; and has a command in flight exactly
-- if it has one there. The K in force is the hub's.
abbrev pub ToldIsHeld : Type 0
ToldIsHeld =
    (n k first : ℕ) (s : State) → open_of n k first ≡ opened s →
    (calls : List Call) (i : ℕ) →
    let now = state_after s calls in
    let history = told_then [] (calls_told s calls) in
    ((accounts_of history i).running ≡ any_of (runs i) now.sequence)
    × (flying_of history i ≡ any_of (λ m. runs i m && any_of (λ x. is_in_flight x.status) m.steps) now.sequence)
    × (limit_told k history ≡ now.pass_limit)

-- ---- rounds can be made

-- After every list of calls, in whatever order each of them is asked, and whatever the reports say, the calls make a round.
abbrev pub AnyOrder : Type 0
AnyOrder =
    (n k first : ℕ) (s : State) → open_of n k first ≡ opened s →
    (calls : List Call) (codes : ℕ → ℕ) → ((i : ℕ) → codes i ≤ code_failed) →
    let now = state_after s calls in
    let history = told_then [] (calls_told s calls) in
    (turned : List ℕ) → EachOnce (idle_of history) turned →
    let turns = calls_told now (map turn turned) in
    (reported : List ℕ) → EachOnce (flying_of (told_then history turns)) reported →
    Round history turns (calls_told (state_after now (map turn turned)) (map (λ i. report i (codes i)) reported))

-- And there is a round: a schedule can always go on.
abbrev pub RoundsExist : Type 0
RoundsExist =
    (n k first : ℕ) (s : State) → open_of n k first ≡ opened s →
    (calls : List Call) (codes : ℕ → ℕ) → ((i : ℕ) → codes i ≤ code_failed) →
    let now = state_after s calls in
    (turns reports : List Call) × Round (told_then [] (calls_told s calls)) (calls_told now turns) (calls_told (state_after now turns) reports)
