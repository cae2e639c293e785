-- Laws for the proofs of a new pass limit. Assumes nothing.
use Rattle.std.proofs.Common.{Ok, Err}
use Rattle.rules_routine.specs.Refusals.{Verdict}
use mathlib.Core.Path.{◌≡◌, refl, sym, ap, ◌∙◌}
use mathlib.Core.List.{[], ◌∷◌}
use Prim.Native.Nat.{ℕ}
use Rattle.rules_routine.specs.declared.refusals.Refusal.{Refusal}
use Rattle.rules.specs.State.{State}
use Rattle.rules.specs.Answers.{limited}
use Rattle.rules.specs.Settle.{settle}
use Rattle.rules.specs.Limit.{new_limit_check, with_pass_limit}
use Rattle.rules.proofs.LimitLaws.{limit_passes, limit-turned-down}
use Rattle.hub_state.specs.View.{steps_at, member_at, members_of, state_of}
use Rattle.hub_state.specs.Valid.{StateOk}
use Rattle.hub_state.specs.Unmoved.{Unmoved}
use Rattle.hub_state.specs.declared.HubState.{HubState}
use Rattle.hub_state.specs.declared.valid.ValidState.{ValidState}
use Rattle.hub_state.proofs.UnmovedLaws.{in_place, itself_in_place}
use Rattle.hub_limit.specs.Contract.{Limits}

-- the rows with another pass limit
abbrev with_limit : HubState → ℕ → HubState
with_limit h k = record {
  devices = h.devices;
  pass_limit = k;
  next_id = h.next_id;
  links = h.links;
  ids = h.ids;
  passed = h.passed;
  committed = h.committed;
  counts = h.counts;
  answered = h.answered;
  due_then = h.due_then;
  device = h.device;
  tag = h.tag;
  setting = h.setting;
  stage = h.stage;
  restarts = h.restarts;
  settled_at = h.settled_at;
  up = h.up;
  mark = h.mark;
}

pub limited-state : (h : HubState) (k : ℕ) → StateOk h →
    (StateOk (with_limit h k)) × (state_of (with_limit h k) ≡ with_pass_limit (state_of h) k)
unfolding state_of members_of member_at steps_at
limited-state h k v = (
  record {
    devices_fit = v.devices_fit;
    some_id = v.some_id;
    ids_fit = v.ids_fit;
    links_ok = v.links_ok;
    slots_ok = λ x s. let w = v.slots_ok x s in
        record { fits = w.fits; devices_fit = w.devices_fit; come_so_far = w.come_so_far; has-id = w.has-id };
    ids_below = v.ids_below;
    ids_differ = v.ids_differ;
  },
  refl,
)

-- and nobody is moved by it
pub limited-unmoved : (h : HubState) (k : ℕ) (r : HubState) → Unmoved (with_limit h k) r → Unmoved h r
unfolding member_at steps_at
limited-unmoved h k r u = record { same_slot = u.same_slot; same_routine = u.same_routine; links = u.links }

module _ (h : HubState) (k : ℕ) (verdict : Verdict) (made : verdict ≡ new_limit_check h.devices k) where
  -- it is in force
  pub limits_fine : (next : ValidState) → state_of next.rows ≡ settle (with_pass_limit (state_of h) k) → Unmoved h next.rows →
      verdict ≡ Ok tt → Limits h k (Ok next)
  unfolding state_of
  limits_fine next e p a = record {
    valid = next.ok;
    unmoved = p;
    gives = ap (λ (s : State). record { state = s; answers = limited k ∷ [] }) e ∙ sym (limit_passes (state_of h) k (sym made ∙ a));
  }

  -- it is turned down
  pub limits-not : (r : Refusal) → StateOk h → verdict ≡ Err r → Limits h k (Err r)
  unfolding state_of
  limits-not r v a =
      record {
        valid = v;
        gives = sym (limit-turned-down (state_of h) k r (sym made ∙ a));
        unmoved = in_place h h v (itself_in_place h);
      }
