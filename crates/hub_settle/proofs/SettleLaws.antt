-- Settling: the first in the sequence joins the settled part. Assumes nothing.
use mathlib.Core.Path.{◌≡◌, refl, sym, ap, ◌∙◌, fun_ext}
use mathlib.Core.Bool.{Bool, true, false}
use mathlib.Core.List.{List, [], ◌∷◌, map}
use Prim.Native.Nat.{ℕ, ◌+◌, ◌-◌, ◌*◌, ◌≤◌, ◌<◌}
use native.Mathlib.Omega.{arith}
use lib.IntN.{ℤ, pos}
use lib.ListN.{get_or}
use Rattle.std.specs.Prelude.{if◌then◌else◌}
use Rattle.rules_routine.specs.Limits.{max_commands, max_sequence}
use Rattle.rules_routine.proofs.RoutineLaws.{by_test}
use Rattle.rules.specs.State.{Step, Member, State}
use Rattle.rules.specs.Sequence.{with_sequence, with_settled, with_mark, move_marks}
use Rattle.rules.specs.Due.{after_steps, after_restart, after_member}
use Rattle.rules.specs.Attach.{settle_restarts}
use Rattle.rules.specs.Settle.{join_settled, settle_from, settle}
use Rattle.hub_sequence.specs.Lists.{without}
use Rattle.hub_sequence.specs.Links.{along, slots_of, Stands}
use Rattle.hub_sequence.specs.Contract.{Leaves}
use Rattle.hub_sequence.specs.declared.Links.{Links}
use Rattle.hub_sequence.proofs.Lists.{without-first}
use Rattle.hub_sequence.proofs.Tables.{by_eq}
use Rattle.hub_sequence.proofs.StayLaws.{by_stands, stood, still_stands}
use Rattle.hub_sequence.proofs.WalkLaws.{first_slot, first-stands, no_first}
use Rattle.hub_state.specs.View.{settings_of, marks_of, first_committed, rows_of, steps_from, steps_at, restarts_at, member_at, members_of, state_of}
use Rattle.hub_state.specs.Valid.{StateOk}
use Rattle.hub_state.specs.Unmoved.{OnlyLeave, LeftCommitted}
use Rattle.hub_state.specs.declared.HubState.{HubState}
use Rattle.hub_state.proofs.Steps.{done_upto}
use Rattle.hub_state.proofs.Rows.{take-steps_from}
use Rattle.hub_state.proofs.Members.{member_committed, answered_most, counts_most, device-within}
use Rattle.hub_state.proofs.DecisionLaws.{settle-idle}
use Rattle.hub_state.proofs.UnmovedLaws.{same-routine_as, itself_in_place, in_place-leaves, leaves_only, leave_then}
use Rattle.hub_due.specs.Contract.{AfterDone, DevicesFit}
use Rattle.hub_settle.specs.Contract.{SettlesHub}
use Rattle.hub_settle.proofs.StateLaws.{tables_in, valid-linked}

-- ---- the places of a routine's answered commands

module _ (h : HubState) (x : ℕ) (v : StateOk h) (s : Stands h.links x) where
  pub answered_fit : get_or h.answered x 0 ≤ max_commands
  answered_fit = omega (arith, answered_most h x v s, counts_most h x v s)

  pub done_fit : DevicesFit h.device (x * max_commands) (x * max_commands + get_or h.answered x 0)
  done_fit k i j =
      let e : x * max_commands + (k - x * max_commands) ≡ k = omega arith in
      rw e at (device-within h x v s (k - x * max_commands) (omega (arith, answered_most h x v s)))

  module _ (done : List ℤ)
      (a : AfterDone h.settled_at h.device h.stage h.setting (x * max_commands)
      (x * max_commands + get_or h.answered x 0) done)
    where
      -- what the devices are due after its done commands
      after-steps : (d : ℕ) → settings_of done d ≡ after_steps d (steps_at h x) (settings_of h.settled_at d)
      unfolding steps_at
      after-steps d =
          let u = get_or h.due_then x (pos 0) in
          let n = get_or h.answered x 0 in
          let w = settings_of h.settled_at d in
          let e : x * max_commands + n - x * max_commands ≡ n = omega arith in
          a h.tag u d
          ∙ ap (λ (j : ℕ). after_steps d (steps_from (rows_of h) u (x * max_commands) j) w) e
          ∙ sym (ap (λ (l : List Step). after_steps d l w)
          (take-steps_from (rows_of h) u (x * max_commands) n (get_or h.counts x 0) (answered_most h x v s)))
          ∙ sym (done_upto n (steps_at h x) (v.slots_ok x s).come_so_far d w)

      -- and after its restarts
      pub after-member : (after : List ℤ) → settings_of after ≡ settle_restarts (restarts_at h.restarts x) (settings_of done) →
          settings_of after ≡ (λ d. after_member d (member_at h x) (settings_of h.settled_at d))
      unfolding settle_restarts after_member member_at
      after-member after b = b ∙ fun_ext (λ d. ap (after_restart (restarts_at h.restarts x d)) (after-steps d))

-- ---- the first

-- x is where the sequence starts
module _ (h : HubState) (x : ℕ) (v : StateOk h) (q : x ≡ h.links.first) where
  module _ (f : x < max_sequence) where
    abbrev behind : List ℕ
    behind = along h.links.behind (get_or h.links.behind x 0)

    slots_from : slots_of h.links ≡ x ∷ behind
    slots_from =
        first_slot h.links v.links_ok (rw q at f)
        ∙ ap (λ (y : ℕ). y ∷ along h.links.behind (get_or h.links.behind y 0)) (sym q)

    pub stands-first : Stands h.links x
    stands-first = rw q (first-stands h.links v.links_ok (rw q at f))

    pub first-there : (state_of h).sequence ≡ member_at h x ∷ map (member_at h) behind
    unfolding state_of members_of
    first-there = ap (map (member_at h)) slots_from

    pub settles-first : get_or h.committed x false ≡ first_committed (state_of h).sequence
    unfolding member_at
    settles-first = sym (ap first_committed first-there)

  pub settles-none : max_sequence ≤ x → false ≡ first_committed (state_of h).sequence
  unfolding state_of members_of
  settles-none f = sym (ap (λ (l : List ℕ). first_committed (map (member_at h) l)) (no_first h.links v.links_ok (rw q at f)))

-- what the state keeps of the sequence while it settles does not matter
settle_any : (s : State) (k l : List Member) → settle_from (with_sequence s k) l ≡ settle_from s l
unfolding join_settled
settle_any s k [] = refl
settle_any s k (m ∷ l) =
    by_test (λ (t : Bool). (if t then settle_from (join_settled (with_sequence s k) m) l else with_sequence s (m ∷ l)) ≡
    (if t then settle_from (join_settled s m) l else with_sequence s (m ∷ l)))
    m.committed
    (λ _. settle_any (join_settled s m) k l)
    (λ _. refl)

-- a committed routine that stands first joins the settled part
settle-more : (s : State) (m : Member) (l : List Member) → m.committed ≡ true → settle_from s (m ∷ l) ≡ settle_from (join_settled s m) l
settle-more s m l c = ap (λ (t : Bool). if t then settle_from (join_settled s m) l else with_sequence s (m ∷ l)) c

module _ (h : HubState) (x : ℕ) (after : List ℤ) (mark : List ℕ) (k : Links) (v : StateOk h) (q : x ≡ h.links.first) (f : x < max_sequence)
    (e : Leaves h.links x k)
  where
    -- the first has joined the settled part
    abbrev joined : HubState
    joined = tables_in h k h.restarts after h.up mark

    joined-valid : StateOk joined
    joined-valid =
        valid-linked h h.restarts after h.up mark v k e.valid (stood h.links x k v.links_ok (stands-first h x v q f) e)

    -- every routine is in the slot where it was
    joined_same : (y : ℕ) → member_at joined y ≡ member_at h y
    unfolding member_at steps_at
    joined_same y = refl

    joined-leaves : OnlyLeave h joined
    joined-leaves = leaves_only h x joined v (stands-first h x v q f) e (λ y _ _. same-routine_as (joined_same y))

    -- who has left is the first, which is committed
    joined_left : get_or h.committed x false ≡ true → LeftCommitted h joined
    joined_left c y t n =
        by_eq y x
        (λ i. member_committed h y ∙ ap (λ (z : ℕ). get_or h.committed z false) i ∙ c)
        (λ o. absurd (n (still_stands h.links x k v.links_ok (stands-first h x v q f) e y t o)))

    joined-behind : (state_of joined).sequence ≡ map (member_at h) (behind h x v q f)
    unfolding state_of members_of member_at steps_at
    joined-behind = ap (map (member_at h)) (e.slots ∙ ap (without x) (slots_from h x v q f) ∙ without-first x (behind h x v q f))

    joined-state : settings_of after ≡ (λ d. after_member d (member_at h x) (settings_of h.settled_at d)) →
        marks_of mark ≡ move_marks (get_or h.ids x 0) 0 (marks_of h.mark) →
        state_of joined ≡ with_sequence (join_settled (state_of h) (member_at h x)) (state_of joined).sequence
    unfolding state_of join_settled member_at
    joined-state a m = λ i. with_sequence (with_mark (with_settled (state_of h) (a i)) (m i)) (state_of joined).sequence

    joined-settles : get_or h.committed x false ≡ true →
        settings_of after ≡ (λ d. after_member d (member_at h x) (settings_of h.settled_at d)) →
        marks_of mark ≡ move_marks (get_or h.ids x 0) 0 (marks_of h.mark) → settle (state_of joined) ≡ settle (state_of h)
    unfolding settle member_at
    joined-settles c a m =
        let t = join_settled (state_of h) (member_at h x) in
        let l = (state_of joined).sequence in
        ap (λ (s : State). settle_from s l) (joined-state a m)
        ∙ settle_any t l l
        ∙ ap (settle_from t) joined-behind
        ∙ sym (settle-more (state_of h) (member_at h x) (map (member_at h) (behind h x v q f)) c)
        ∙ sym (ap (settle_from (state_of h)) (first-there h x v q f))

-- ---- the loop: what is settled so far settles to what the whole settles to

pub record Settling (whole h : HubState) (i : ℕ) : Type 0 where
  pub valid : StateOk h
  pub first_is : i ≡ h.links.first
  pub same_end : settle (state_of h) ≡ settle (state_of whole)
  pub same : (x : ℕ) → member_at h x ≡ member_at whole x
  pub only_leave : OnlyLeave whole h
  pub left_committed : LeftCommitted whole h

-- before the first has settled
pub settling-none : (h : HubState) → StateOk h → Settling h h h.links.first
settling-none h v = record {
  valid = v;
  first_is = refl;
  same_end = refl;
  same = λ x. refl;
  only_leave = in_place-leaves h h v (itself_in_place h);
  left_committed = λ x s n. absurd (n s);
}

module _ (whole h : HubState) (i : ℕ) (s : Settling whole h i) where
  pub settling-more : (done after : List ℤ) (mark : List ℕ) (k : Links) → i < max_sequence → get_or h.committed i false ≡ true →
      AfterDone h.settled_at h.device h.stage h.setting (i * max_commands) (i * max_commands + get_or h.answered i 0) done →
      settings_of after ≡ settle_restarts (restarts_at h.restarts i) (settings_of done) →
      marks_of mark ≡ move_marks (get_or h.ids i 0) 0 (marks_of h.mark) → Leaves h.links i k →
      Settling whole (tables_in h k h.restarts after h.up mark) k.first
  settling-more done after mark k f c a b m e =
      let v = s.valid in
      let q = s.first_is in
      let w = after-member h i v (stands-first h i v q f) done a after b in
      record {
        valid = joined-valid h i after mark k v q f e;
        first_is = refl;
        same_end = joined-settles h i after mark k v q f e c w m ∙ s.same_end;
        same = λ x. joined_same h i after mark k v q f e x ∙ s.same x;
        only_leave = leave_then whole h _ s.only_leave (joined-leaves h i after mark k v q f e);
        left_committed = λ x t n.
            by_stands h.links x
            (λ u. ap (λ (m : Member). m.committed) (sym (s.same x)) ∙ joined_left h i after mark k v q f e c x u n)
            (s.left_committed x t);
      }

  settling-ends : first_committed (state_of h).sequence ≡ false → SettlesHub whole h
  settling-ends e = record {
    valid = s.valid;
    gives = sym (settle-idle (state_of h) e) ∙ s.same_end;
    only_leave = s.only_leave;
    others = λ x _. s.same x;
    left_committed = s.left_committed;
  }

  -- the first is not committed, or there is none
  pub settling-runs : i < max_sequence → get_or h.committed i false ≡ false → SettlesHub whole h
  settling-runs f c = settling-ends (sym (settles-first h i s.valid s.first_is f) ∙ c)

  pub settling_empty : max_sequence ≤ i → SettlesHub whole h
  settling_empty f = settling-ends (sym (settles-none h i s.valid s.first_is f))
