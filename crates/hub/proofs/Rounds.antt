-- The waiting promise of this hub: the theorem of the rules, carried along a chain of calls. Assumes nothing.
use mathlib.Core.Path.{◌≡◌, refl, sym, ap, ◌∙◌, subst}
use mathlib.Core.List.{List, [], ◌∷◌, ◌++◌, append_assoc}
use Prim.Native.Nat.{◌≤◌}
use Rattle.rules_routine.specs.Routine.{commands_of}
use Rattle.rules_routine.specs.declared.Command.{Command}
use Rattle.rules.specs.State.{State}
use Rattle.rules.specs.Answers.{submit, placed, Result}
use Rattle.rules.specs.Calls.{result_of, state_after}
use Rattle.rules.specs.History.{Told}
use Rattle.rules.specs.Rounds.{calls_told, told_then, Ended, limit_told, Schedule, enough_rounds}
use Rattle.rules_promises.proofs.Ready.{limit-kept}
use Rattle.rules_promises.proofs.Waiting.{ended_in_time}
use Rattle.hub.specs.View.{view, answers_in}
use Rattle.hub.specs.Demand3.{submits, call_of, HubAct, called, device_takes, Chain, hub_after}
use Rattle.hub.specs.Links.{calls_in}
use Rattle.hub.specs.Rounds.{told_in, HubEndedInTime, HubEndedInTimeAtOneLimit}
use Rattle.hub.specs.declared.Hub.{Hub}
use Rattle.hub.proofs.Theorem.{met, opens_as, chain_left}

-- the calls of two parts of a chain
calls_++ : (a b : List HubAct) → calls_in (a ++ b) ≡ calls_in a ++ calls_in b
calls_++ [] b = refl
calls_++ (called c o v ∷ a) b = ap (λ l. call_of c ∷ l) (calls_++ a b)
calls_++ (device_takes d k ∷ a) b = calls_++ a b

-- the hub that the last call left is the rules'
state-is : (h : Hub) (acts : List HubAct) → Chain h acts → view (hub_after h acts) ≡ state_after (view h) (calls_in acts)
state-is h [] ch = refl
state-is h (called c o v ∷ l) ch =
    state-is o.hub l ch.1 ∙ ap (λ (r : Result). state_after r.state (calls_in l)) (met h c o ch.0).gives
state-is h (device_takes d k ∷ l) ch = state-is h l ch

-- and tells what the rules tell
told_is : (h : Hub) (acts : List HubAct) → Chain h acts → told_in acts ≡ calls_told (view h) (calls_in acts)
told_is h [] ch = refl
told_is h (called c o v ∷ l) ch =
    ap (λ t. record { call = call_of c; answers = answers_in o } ∷ t) (told_is o.hub l ch.1)
    ∙ ap (λ (r : Result). record { call = call_of c; answers = r.answers } ∷ calls_told r.state (calls_in l)) (met h c o ch.0).gives
told_is h (device_takes d k ∷ l) ch = told_is h l ch

-- the rest of a chain
chain_right : (h : Hub) (before rest : List HubAct) → Chain h (before ++ rest) → Chain (hub_after h before) rest
chain_right h [] rest ch = ch
chain_right h (called c o v ∷ l) rest ch = chain_right o.hub l rest ch.1
chain_right h (device_takes d k ∷ l) rest ch = chain_right h l rest ch

-- a first part of a chain: what happens in it, and one call more
first_part : (before later : List HubAct) (x : HubAct) → before ++ (x ∷ later) ≡ (before ++ (x ∷ [])) ++ later
first_part before later x = sym (append_assoc before (x ∷ []) later)

-- The waiting promise.
pub hub_ended_in_time : HubEndedInTime
hub_ended_in_time n k first o op accepted before r p v i j was_placed later rounds ch schedule enough =
    subst (Ended i) (sym told_all)
    (ended_in_time n k first s (opens_as n k first o op accepted) (calls_in before) cs i j answers (calls_in later) rounds
    (subst (λ x. Schedule k x now rounds) told-start (subst (λ x. Schedule k start x rounds) told_all schedule))
    (subst (λ x. enough_rounds (limit_told k x) ≤ rounds) told_all enough))
  where
    h : Hub
    h = o.hub

    s : State
    s = view h

    cs : List Command
    cs = commands_of r

    x : HubAct
    x = called (submits r) p v

    start : List Told
    start = told_then [] (told_in (before ++ (x ∷ [])))

    now : List Told
    now = told_then [] (calls_told s (calls_in before ++ (submit cs ∷ calls_in later)))

    chain-start : Chain h (before ++ (x ∷ []))
    chain-start = chain_left h (before ++ (x ∷ [])) later (subst (Chain h) (first_part before later x) ch)

    told-start : start ≡ told_then [] (calls_told s (calls_in before ++ (submit cs ∷ [])))
    told-start =
        ap (told_then []) (told_is h (before ++ (x ∷ [])) chain-start ∙ ap (calls_told s) (calls_++ before (x ∷ [])))

    told_all : told_then [] (told_in (before ++ (x ∷ later))) ≡ now
    told_all = ap (told_then []) (told_is h (before ++ (x ∷ later)) ch ∙ ap (calls_told s) (calls_++ before (x ∷ later)))

    answers : (result_of (state_after s (calls_in before)) (submit cs)).answers ≡ placed i j ∷ []
    answers =
        ap (λ x. (result_of x (submit cs)).answers) (sym (state-is h before (chain_left h before (x ∷ []) chain-start)))
        ∙ ap (λ (x : Result). x.answers)
        (sym (met (hub_after h before) (submits r) p (chain_right h before (x ∷ []) chain-start).0).gives)
        ∙ was_placed

-- Where no change happens.
pub hub_ended_in_time_at_one-limit : HubEndedInTimeAtOneLimit
hub_ended_in_time_at_one-limit n k first o op accepted before r p v i j was_placed later rounds ch keeps schedule enough =
    let acts = before ++ (called (submits r) p v ∷ later) in
    let s = view o.hub in
    let same = ap (λ l. limit_told k (told_then [] l)) (told_is o.hub acts ch) ∙ limit-kept k k s [] refl (calls_in acts) keeps in
    hub_ended_in_time n k first o op accepted before r p v i j was_placed later rounds ch schedule
    (subst (λ x. enough_rounds x ≤ rounds) (sym same) enough)
