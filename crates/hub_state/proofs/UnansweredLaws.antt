-- The first command of a routine that is not answered, read off the rows. Assumes nothing.
use mathlib.Core.Path.{◌≡◌, refl, sym, ap, ◌∙◌}
use mathlib.Core.Bool.{false}
use mathlib.Core.List.{List, ◌∷◌}
use Prim.Native.Nat.{ℕ, zero, suc, ◌+◌, ◌*◌, ◌-◌, ◌≤◌, ◌<◌}
use native.Mathlib.Omega.{arith}
use lib.ListN.{take, drop, get_or}
use Rattle.rules_routine.specs.Limits.{max_commands}
use Rattle.rules.specs.State.{in_flight, Step}
use Rattle.rules.specs.Progress.{is_in_flight, commands_in, counts_as_must}
use Rattle.hub_sequence.specs.Links.{Stands}
use Rattle.hub_state.specs.View.{in_flight_code, rows_of, step_at, steps_from, steps_at}
use Rattle.hub_state.specs.Valid.{AnsweredUpTo, StateOk}
use Rattle.hub_state.specs.Unanswered.{answered_at, due_then_at, skips_after, commands_past, AllAnswered, NextToDo, NextInFlight}
use Rattle.hub_state.specs.declared.HubState.{HubState}
use Rattle.hub_state.proofs.Steps.{flight_all, next_all, flight_to_do, next_to_do, advance_to_do, last_skips, skipped_to_do}
use Rattle.hub_state.proofs.Steps.{must_to_do}
use Rattle.hub_state.proofs.Steps.{flight-sent, answer-sent}
use Rattle.hub_state.proofs.Rows.{status-sent, status-not-sent, steps_open, take-steps_from, steps-last}
use Rattle.hub_state.proofs.Members.{steps_are, length-steps, device-within}

module _ (h : HubState) (x : ℕ) (v : StateOk h) (s : Stands h.links x) where
  come : AnsweredUpTo (answered_at h x) (steps_at h x)
  come = (v.slots_ok x s).come_so_far

  -- all are answered
  pub none_open : get_or h.counts x 0 ≤ answered_at h x → AllAnswered h x
  none_open i =
      let j = length-steps h x in
      record {
        no_flight = flight_all (answered_at h x) (steps_at h x) come (omega arith);
        no_next = next_all (answered_at h x) (steps_at h x) come (omega arith);
      }

  module _ (i : answered_at h x < get_or h.counts x 0) where
    -- its place, the command there, and those behind it
    abbrev open_place : ℕ
    open_place = x * max_commands + answered_at h x

    abbrev open_step : Step
    open_step = step_at (rows_of h) (due_then_at h x) open_place

    abbrev behind_it : List Step
    behind_it = steps_from (rows_of h) (due_then_at h x) (suc open_place) (get_or h.counts x 0 - suc (answered_at h x))

    pub unanswered_at_place : drop (answered_at h x) (steps_at h x) ≡ open_step ∷ behind_it
    unanswered_at_place =
        ap (drop (answered_at h x)) (steps_are h x)
        ∙ steps_open (rows_of h) (due_then_at h x) (x * max_commands) (answered_at h x) (get_or h.counts x 0) i

    behind-past : commands_in behind_it ≡ commands_past h x (suc (answered_at h x))
    behind-past =
        let e : suc open_place ≡ x * max_commands + suc (answered_at h x) = omega arith in
        ap (λ (k : ℕ). commands_in (steps_from (rows_of h) (due_then_at h x) k (get_or h.counts x 0 - suc (answered_at h x)))) e

    -- the last of the first n
    last-skips : (n : ℕ) → n ≤ get_or h.counts x 0 → last_skips false (take n (steps_at h x)) ≡ skips_after h x n
    last-skips zero q = refl
    last-skips (suc n) q =
        ap (λ (l : List Step). last_skips false (take (suc n) l)) (steps_are h x)
        ∙ ap (last_skips false) (take-steps_from (rows_of h) (due_then_at h x) (x * max_commands) (suc n) (get_or h.counts x 0) q)
        ∙ steps-last (rows_of h) (due_then_at h x) (x * max_commands) n false

    pub to_do_open : (get_or h.stage open_place 0 ≡ in_flight_code → ⊥) → NextToDo h x open_place
    unfolding step_at
    to_do_open n =
        let t : is_in_flight open_step.status ≡ false = status-not-sent (get_or h.stage open_place 0) (due_then_at h x) n in
        record {
          place = refl;
          not_all = i;
          device_fits = device-within h x v s (answered_at h x) i;
          no_flight = flight_to_do (answered_at h x) (steps_at h x) come open_step behind_it unanswered_at_place t;
          next_is = next_to_do (answered_at h x) (steps_at h x) come open_step behind_it unanswered_at_place t;
          advances = advance_to_do (answered_at h x) (steps_at h x) come open_step behind_it unanswered_at_place t;
          next_skipped = skipped_to_do false (answered_at h x) (steps_at h x) come open_step behind_it unanswered_at_place t
              ∙ last-skips (answered_at h x) (omega arith);
          next_must = must_to_do (answered_at h x) (steps_at h x) come open_step behind_it unanswered_at_place t
              ∙ ap (counts_as_must open_step.command) behind-past;
        }

    pub in_flight_open : get_or h.stage open_place 0 ≡ in_flight_code → NextInFlight h x open_place
    unfolding step_at
    in_flight_open e =
        let t : open_step.status ≡ in_flight (due_then_at h x) = status-sent (get_or h.stage open_place 0) (due_then_at h x) e in
        record {
          place = refl;
          not_all = i;
          device_fits = device-within h x v s (answered_at h x) i;
          flight_is = flight-sent (answered_at h x) (steps_at h x) come open_step behind_it unanswered_at_place (due_then_at h x) t;
          answers = answer-sent (answered_at h x) (steps_at h x) come open_step behind_it unanswered_at_place (due_then_at h x) t;
        }

  -- the row of stages as it is lent
  module _ (row : List ℕ) (e : row ≡ h.stage) (i : answered_at h x < get_or h.counts x 0) where
    stage_read : get_or row (x * max_commands + answered_at h x) 0 ≡ get_or h.stage (x * max_commands + answered_at h x) 0
    stage_read = ap (λ (l : List ℕ). get_or l (x * max_commands + answered_at h x) 0) e

    pub to_do_in_row : (get_or row (x * max_commands + answered_at h x) 0 ≡ in_flight_code → ⊥) → NextToDo h x (x * max_commands + answered_at h x)
    to_do_in_row n = to_do_open i (λ f. n (stage_read ∙ f))

    pub sent_in_row : get_or row (x * max_commands + answered_at h x) 0 ≡ in_flight_code → NextInFlight h x (x * max_commands + answered_at h x)
    sent_in_row f = in_flight_open i (sym stage_read ∙ f)
