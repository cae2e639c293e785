-- The commands left on a device are skipped. Assumes nothing.
use Prim.Native.Nat.{ℕ, ◌+◌, ◌-◌}
use native.Mathlib.Omega.{arith}
use mathlib.Core.Path.{◌≡◌, refl, ap, subst}
use mathlib.Core.List.{List, ◌∷◌, ◌++◌}
use lib.ListN.{length, get_or, set}
use lib.Seq.{get_or-set_same, get_or-set_other}
use Rattle.rules_routine.specs.Limits.{max_sequence}
use Rattle.rules.specs.State.{Member}
use Rattle.rules.specs.Progress.{with_steps}
use Rattle.rules.specs.Sequence.{with_sequence}
use Rattle.rules.specs.Events.{skip_left, skip_rest}
use Rattle.hub_sequence.specs.Links.{Stands}
use Rattle.hub_state.specs.View.{rows_of, steps_at, member_at, members_of, state_of, there}
use Rattle.hub_state.specs.Valid.{AnsweredUpTo, StateOk}
use Rattle.hub_state.specs.Unmoved.{InPlace}
use Rattle.hub_state.specs.declared.HubState.{HubState}
use Rattle.hub_state.proofs.Rows.{with_stages, step_same, steps_other}
use Rattle.hub_state.proofs.Codes.{codes_upto}
use Rattle.hub_state.proofs.Members.{stands_below}
use Rattle.hub_apply.specs.Stages.{FirstUnanswered, SkipsLeft}
use Rattle.hub_apply.proofs.CodeLaws.{codes-skipped, steps-skipped, each_skip_left}
use Rattle.hub_apply.proofs.MoveLaws.{moved_rows, move_in_place, Moved, move_valid, move_sequence, from_of, open_of, end_of}
use Rattle.hub_apply.proofs.MoveLaws.{come_codes, places_apart}

module _ (h : HubState) (x d : ℕ) (v : StateOk h) (st : Stands h.links x) (long : length h.answered ≡ max_sequence)
    (stage : List ℕ) (s : SkipsLeft h.stage h.device d (from_of x) (end_of h x) stage) (r : ℕ)
    (f : FirstUnanswered stage (open_of h x) (end_of h x) r)
  where
    abbrev new_answered : List ℕ
    new_answered = set h.answered x (r - from_of x)

    abbrev now_skipped : HubState
    now_skipped = moved_rows h new_answered h.due_then stage h.mark

    skips_here : steps_at now_skipped x ≡ skip_left d (steps_at h x)
    unfolding steps_at
    skips_here = steps-skipped (rows_of h) _ d stage (from_of x) (get_or h.counts x 0) s.inside

    skips_others : (y : ℕ) → Stands h.links y → (y ≡ x → ⊥) → steps_at now_skipped y ≡ steps_at h y
    unfolding steps_at
    skips_others y t n =
        steps_other (rows_of h) (with_stages (rows_of h) stage) _ _ (from_of y) (get_or h.counts y 0)
        (λ j a b. step_same (rows_of h) (with_stages (rows_of h) stage) _ j refl refl refl
        (s.outside j (places_apart h x v st y j t n a b)))

    skips_come : AnsweredUpTo (get_or new_answered x 0) (skip_left d (steps_at h x))
    unfolding steps_at
    skips_come =
        let i = stands_below h x v st in
        let codes = codes-skipped _ _ _ _ (come_codes h x v st) r h.device d stage s f in
        let p : r ≡ from_of x + (r - from_of x) = omega (arith, codes.within.0) in
        rw (get_or-set_same h.answered x (r - from_of x) 0 (omega arith))
        (subst (AnsweredUpTo (r - from_of x)) skips_here (codes_upto (rows_of now_skipped) _ _ _ _ _ _ p refl codes))

    skips_moved : Moved h x new_answered h.due_then stage h.mark (skip_left d (steps_at h x))
    skips_moved = record {
      fit = each_skip_left d (steps_at h x) (v.slots_ok x st).devices_fit;
      come = skips_come;
      here = skips_here;
      others = skips_others;
      as_many = λ y n. get_or-set_other h.answered x y (r - from_of x) 0 n;
    }

    skips_sequence : members_of now_skipped
        ≡ (there h x).ahead ++ (with_steps (there h x).it (skip_left d (there h x).it.steps) ∷ (there h x).behind)
    unfolding there member_at
    skips_sequence = move_sequence h x v st skips_moved

    pub skips_applied : (StateOk now_skipped) × (state_of now_skipped ≡ skip_rest d (state_of h) (there h x)) × (InPlace h now_skipped)
    unfolding state_of skip_rest
    skips_applied = (
      move_valid h x v st skips_moved,
      ap (λ (l : List Member). with_sequence (state_of h) l) skips_sequence,
      move_in_place h new_answered h.due_then stage h.mark,
    )
