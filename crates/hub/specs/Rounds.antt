-- Document 02, item 1, "Nobody waits for ever", with the new pass limits of item 13, of this hub: for every chain of its calls, with the
-- answers that its contracts give. Rounds and schedules are those of `specs/Rounds.antt` of crate `rules`. The proof is `hub_ended_in_time`
-- of `proofs/Rounds.antt`. Assumes nothing.
use Rattle.std.specs.Prelude.{◌≡◌, List, [], ◌∷◌, ◌++◌, ℕ, ◌≤◌, ℤ, Ok}
use Rattle.rules_routine.specs.declared.Routine.{Routine}
use Rattle.rules.specs.Tables.{Each}
use Rattle.rules.specs.Answers.{placed}
use Rattle.rules.specs.History.{Told}
use Rattle.rules.specs.Rounds.{told_then, Ended, limit_told, Schedule, enough_rounds, KeepsLimit}
use Rattle.hub.specs.View.{answers_in}
use Rattle.hub.specs.Contract.{Opens}
use Rattle.hub.specs.Demand3.{submits, call_of, HubAct, called, device_takes, Chain}
use Rattle.hub.specs.Links.{calls_in}
use Rattle.hub.specs.declared.Opened.{Opened}
use Rattle.hub.specs.declared.Outcome.{Outcome}

-- What is told: the calls, each with the answers of its outcome, in time's order. Devices tell nothing.
abbrev pub told_in : List HubAct → List Told
told_in [] = []
told_in (called c o v ∷ l) = record { call = call_of c; answers = answers_in o } ∷ told_in l
told_in (device_takes d k ∷ l) = told_in l

-- For every accepted opening, every chain of calls from it, in which a routine is placed, with id i, and every schedule from there: once so
-- many rounds count, by the K in force, the routine is ended.
abbrev pub HubEndedInTime : Type 0
HubEndedInTime =
    (n k first : ℕ) (o : Opened) → Opens n k first o → o.verdict ≡ Ok tt →
    (before : List HubAct) (r : Routine) (p : Outcome) (v : ℤ) (i j : ℕ) → answers_in p ≡ placed i j ∷ [] →
    (later : List HubAct) (rounds : ℕ) →
    let start = told_then [] (told_in (before ++ (called (submits r) p v ∷ []))) in
    let now = told_then [] (told_in (before ++ (called (submits r) p v ∷ later))) in
    Chain o.hub (before ++ (called (submits r) p v ∷ later)) → Schedule k start now rounds → enough_rounds (limit_told k now) ≤ rounds →
    Ended i now

-- Where no new pass limit is asked for: the promise of item 1, with the K of the opening.
abbrev pub HubEndedInTimeAtOneLimit : Type 0
HubEndedInTimeAtOneLimit =
    (n k first : ℕ) (o : Opened) → Opens n k first o → o.verdict ≡ Ok tt →
    (before : List HubAct) (r : Routine) (p : Outcome) (v : ℤ) (i j : ℕ) → answers_in p ≡ placed i j ∷ [] →
    (later : List HubAct) (rounds : ℕ) →
    let start = told_then [] (told_in (before ++ (called (submits r) p v ∷ []))) in
    let acts = before ++ (called (submits r) p v ∷ later) in
    let now = told_then [] (told_in acts) in
    Chain o.hub acts → Each KeepsLimit (calls_in acts) → Schedule k start now rounds → enough_rounds k ≤ rounds → Ended i now
