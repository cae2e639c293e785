-- What the statements exclude: of each a case, computed, in which it is false. So a statement that says less fails here. Assumes nothing.
use mathlib.Core.Path.{◌≡◌, refl, sym, ap, ◌∙◌}
use mathlib.Core.Logic.{◌⊎◌, inl, inr}
use mathlib.Core.Bool.{Bool, true, false, ◌||◌}
use mathlib.Core.List.{List, [], ◌∷◌, map, nil≢cons, head-eq_of_cons-eq, tail-eq_of_cons-eq}
use Prim.Native.Nat.{ℕ, ◌<◌}
use native.Mathlib.Omega.{arith}
use lib.Dec.{eqb}
use lib.IntN.{pos}
use lib.Signed.{lt_z}
use Rattle.std.specs.Prelude.{if◌then◌else◌}
use Rattle.rules.specs.Tables.{any_of}
use Rattle.rules.specs.Answers.{Call, submit, turn, report, failure, restart, cancel, limit, limited}
use Rattle.rules.specs.Open.{new_hub}
use Rattle.rules.specs.History.{Told}
use Rattle.rules.specs.Order.{failure_event, routine, event}
use Rattle.rules.specs.Serial.{DeviceState, all_up}
use Rattle.rules.specs.World.{accounts, is_accepted}
use Rattle.rules.specs.Demand3.{EndState, CommandsStand}
use Rattle.rules.specs.Rounds.{calls_told, told_then, idle_of, limit_after_all, limit_told, accepted_in, times, Between, a_submission}
use Rattle.rules.specs.Rounds.{a_refusal}
use Rattle.rules.specs.Rounds.{Round, Schedule, begins, between, a_new_limit, a_round}
use Rattle.rules.specs.Examples.{must, best}
use Rattle.rules.proofs.Lists.{by_if, t≠f}
use Rattle.rules.proofs.Passages.{end_of, event_behind, reported_untaken}
use Rattle.rules.proofs.Worlds.{calc_world, none_run}
use Rattle.rules.proofs.Schedules.{calc_rounds}

-- ---- demand 3

-- The end state speaks of every device: here the last one does not have the 5 that the serial run gives it.
pub untaken_excluded : EndState 2 (end_of reported_untaken) → ⊥
unfolding calc_world
untaken_excluded end =
    let last : 1 < 2 = omega arith in
    let e = end (none_run (end_of reported_untaken) (refl, tt)) 1 last refl refl in
    t≠f (sym (ap (λ (t : DeviceState). lt_z t.setting (pos 5)) e))

-- A command that an event skipped has an event of its own device behind its routine: here there is one of another device alone.
pub no_event_excluded :
    CommandsStand (accounts (end_of event_behind)) (routine 1 (best 0 (pos 5) ∷ []) false ∷ event (failure_event 1) ∷ []) all_up → ⊥
unfolding calc_world
no_event_excluded stands = t≠f (sym stands.1.1.1.0.1)

-- ---- the waiting promise: rounds before a change of K do not count

abbrev is_limit : Call → Bool
is_limit (submit cs) = false
is_limit (turn i) = false
is_limit (report i code) = false
is_limit (failure d) = false
is_limit (restart d v) = false
is_limit (cancel i) = false
is_limit (limit k) = true

or-true : (t : Bool) → (t || true) ≡ true
or-true true = refl
or-true false = refl

turns_are_none : (l : List ℕ) → any_of is_limit (map turn l) ≡ false
turns_are_none [] = refl
turns_are_none (i ∷ l) = turns_are_none l

reports_are_none : (codes : ℕ → ℕ) (l : List ℕ) → any_of is_limit (map (λ i. report i (codes i)) l) ≡ false
reports_are_none codes [] = refl
reports_are_none codes (i ∷ l) = reports_are_none codes l

-- a history h, and then a new pass limit, another than the one in force; i runs then, with nothing in flight
module _ (k new : ℕ) (start h : List Told) (other : eqb new (limit_told k h) ≡ false) (i : ℕ) where
  abbrev change : Told
  change = record { call = limit new; answers = limited new ∷ [] }

  not-between : (t : Told) → Between t → t ≡ change → ⊥
  not-between _ (a_submission cs answers) e = t≠f (sym (ap (λ (t : Told). is_limit t.call) e))
  not-between t (a_refusal _ f) e = t≠f (sym (ap (λ (t : Told). is_accepted t.answers) e) ∙ f)

  -- it is the last that was told: nothing came then, or it is among what came
  came : (g l : List Told) → told_then g l ≡ change ∷ h → ((g ≡ change ∷ h) × (l ≡ [])) ⊎ (any_of is_limit (accepted_in l) ≡ true)
  came g [] e = inl (e, refl)
  came g (t ∷ l) e = more (came (t ∷ g) l e)
    where
      more : ((t ∷ g ≡ change ∷ h) × (l ≡ [])) ⊎ (any_of is_limit (accepted_in l) ≡ true) →
          ((g ≡ change ∷ h) × (t ∷ l ≡ [])) ⊎ (any_of is_limit (accepted_in (t ∷ l)) ≡ true)
      more (inl (x, y)) =
          inr (ap (λ z. any_of is_limit (accepted_in (z ∷ l))) (head-eq_of_cons-eq x) ∙ ap (λ z. any_of is_limit (accepted_in (change ∷ z))) y)
      more (inr x) =
          inr (by_if (λ z. any_of is_limit z ≡ true) (is_accepted t.answers)
          (λ _. ap (λ z. is_limit t.call || z) x ∙ or-true (is_limit t.call)) (λ _. x))

  module _ (idle : idle_of (change ∷ h) i ≡ true) where
    no_round : (g turns reports : List Told) → Round g turns reports → told_then (told_then g turns) reports ≡ change ∷ h → ⊥
    no_round g turns reports r e = by_reports (came (told_then g turns) reports e)
      where
        nobody : (l : List ℕ) → map turn l ≡ [] → times i l ≡ (if idle_of g i then 1 else 0) → g ≡ change ∷ h → ⊥
        nobody [] x y z =
            let a : ◌≡◌ {A = ℕ} 0 1 = y ∙ ap (λ g. if idle_of g i then 1 else 0) z ∙ ap (λ (t : Bool). if t then 1 else 0) idle in
            absurd (omega arith)
        nobody (j ∷ l) x y z = absurd (nil≢cons (sym x))

        by_turns : ((g ≡ change ∷ h) × (turns ≡ [])) ⊎ (any_of is_limit (accepted_in turns) ≡ true) → ⊥
        by_turns (inl (x, y)) = nobody r.turned (sym r.turns_are ∙ ap accepted_in y) (r.one_turn_each i) x
        by_turns (inr x) = t≠f (sym x ∙ ap (any_of is_limit) r.turns_are ∙ turns_are_none r.turned)

        by_reports : ((told_then g turns ≡ change ∷ h) × (reports ≡ [])) ⊎ (any_of is_limit (accepted_in reports) ≡ true) → ⊥
        by_reports (inl (x, y)) = by_turns (came g turns x)
        by_reports (inr x) = t≠f (sym x ∙ ap (any_of is_limit) r.reports_are ∙ reports_are_none r.codes r.reported)

    none-count : (now : List Told) (n : ℕ) → Schedule k start now n → now ≡ change ∷ h → n ≡ 0
    none-count _ _ begins e = refl
    none-count _ _ (between w t b) e = absurd (not-between t b (head-eq_of_cons-eq e))
    none-count _ _ (a_new_limit {now} {n} w new') e =
        let same = ap (λ (t : Told). limit_after_all t.answers 0) (head-eq_of_cons-eq e) in
        ap (λ (t : Bool). if t then n else 0)
        (ap (λ z. eqb z (limit_told k now)) same ∙ ap (λ z. eqb new (limit_told k z)) (tail-eq_of_cons-eq e) ∙ other)
    none-count _ _ (a_round {now} w turns reports r) e = absurd (no_round now turns reports r e)

-- what is told of a hub with K = 0, from the submission of a routine of two commands on
abbrev pub told_of_one : List Call → List Told
told_of_one later = told_then [] (calls_told (new_hub 1 0 1) (submit (must 0 (pos 5) ∷ must 0 (pos 6) ∷ []) ∷ later))

-- A round, in which its first command is done, and then K becomes 1: no round counts.
pub earlier_rounds_excluded : Schedule 0 (told_of_one []) (told_of_one (turn 1 ∷ report 1 0 ∷ limit 1 ∷ [])) 1 → ⊥
unfolding calc_rounds
earlier_rounds_excluded w =
    let none = none-count 0 1 (told_of_one []) (told_of_one (turn 1 ∷ report 1 0 ∷ [])) refl 1 refl _ 1 w refl in
    absurd (omega arith)
