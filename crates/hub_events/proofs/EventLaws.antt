-- Laws that the proofs of this crate, and those above it, cite. Assumes nothing.
use Rattle.rules_routine.specs.declared.refusals.Refusal.TheVariants.{EventDevice, FailureOfDown, RestartOfUp, RestartSetting}
use Rattle.std.proofs.Common.{Option, None, Some}
use mathlib.Core.Path.{◌≡◌, refl, sym, ap, subst, ◌∙◌}
use mathlib.Core.Bool.{Bool, true, false, not}
use mathlib.Core.List.{List, [], ◌∷◌, ◌++◌, append-nil}
use Prim.Native.Nat.{ℕ, ◌<◌, ◌≤◌}
use native.Mathlib.Omega.{arith}
use borrow.Author.Tests.{leb-true, le-leb, lt-leb, eq-eqb, ne_eqb}
use lib.IntN.{ℤ, pos, negsuc}
use lib.Signed.{mag}
use lib.ListN.{get_or}
use Rattle.std.specs.Prelude.{if◌then◌else◌}
use Rattle.rules_routine.specs.Limits.{highest_setting, max_devices}
use Rattle.rules_routine.specs.Range.{in_range}
use Rattle.rules_routine.proofs.RoutineLaws.{by_test, in_range_pos}
use Rattle.rules.specs.Tables.{put}
use Rattle.rules.specs.State.{State}
use Rattle.rules.specs.Answers.{Back, Answer as Told, aborted, down, up, Result, turned_down}
use Rattle.rules.specs.Sequence.{Found, find, last_id_or, move_marks, with_up}
use Rattle.rules.specs.Attach.{one_restart, attach}
use Rattle.rules.specs.Abort.{leave, abort}
use Rattle.rules.specs.Settle.{settling}
use Rattle.rules.specs.Events.{is_halfway, must_left, skip_rest, stop_if_any, stop_halfway, failure_result, restart_result, failure_of, restart_of}
use Rattle.rules.proofs.Lists.{t≠f}
use Rattle.hub_sequence.specs.Links.{Stands}
use Rattle.hub_sequence.specs.declared.Links.{Links}
use Rattle.hub_answers.specs.View.{put_backs_of, event_abort_of, put_backs_in}
use Rattle.hub_answers.specs.declared.Answer.TheVariants.{Down, Up}
use Rattle.hub_answers.specs.declared.PutBacks.{PutBacks}
use Rattle.hub_state.specs.View.{found_at, no_restart, is_restart, member_at, state_of, there}
use Rattle.hub_state.specs.Valid.{StateOk}
use Rattle.hub_state.specs.Contract.{put_backs_left, stopped_by, put_backs_stopped, down_with, up_with, StandsIfAny, Decides}
use Rattle.hub_state.specs.Unmoved.{InPlace, OnlyLeave}
use Rattle.hub_state.specs.declared.HubState.{HubState}
use Rattle.hub_state.specs.declared.Change.TheVariants.{Fail, Restart}
use Rattle.hub_state.proofs.Members.{state-mark, member_id, there-it}
use Rattle.hub_state.proofs.UnmovedLaws.{same-routine_as, itself_in_place, in_place-leaves, leave_then}
use Rattle.hub_search.specs.Contract.{Finds}
use Rattle.hub_search.proofs.Found.{found_as, stands_at}
use Rattle.hub_settle.specs.Contract.{LeavesHub}
use Rattle.hub_settle.proofs.LeaveLaws.{leaves-unmoved}
use Rattle.hub_events.specs.Contract.{abort_told, IsHalfway}
use Rattle.hub_events.specs.declared.Affected.{Affected}

-- ---- the routine that is halfway, by its slot

-- is a must of it left?
must-there : (h : HubState) (x d : ℕ) {t : Bool} → t ≡ must_left d (member_at h x) → must_left d (there h x).it ≡ t
must-there h x d k = ap (must_left d) (there-it h x) ∙ sym k

-- what an event of d makes of it; t: is a must left there?
abbrev stop_by : Bool → ℕ → State → Found → Result
stop_by t d s f = if t then abort s f else record { state = skip_rest d s f; answers = [] }

module _ (d : ℕ) (s : State) (f : Found) where
  -- one is: it aborts
  stop-leaves : must_left d f.it ≡ true → stopped_by d s (Some f) ≡ leave s f
  unfolding abort
  stop-leaves e = ap (λ (t : Bool). (stop_by t d s f).state) e

  -- none is: what is left is skipped
  stop_skips : must_left d f.it ≡ false → stopped_by d s (Some f) ≡ skip_rest d s f
  stop_skips e = ap (λ (t : Bool). (stop_by t d s f).state) e

  mark-skipped : (skip_rest d s f).mark ≡ s.mark
  unfolding skip_rest
  mark-skipped = refl

-- the mark of a device after the abort
module _ (s : State) (f : Found) (d : ℕ) where
  mark_left : (leave s f).mark d ≡ move_marks f.it.id (last_id_or 0 f.ahead) s.mark d
  unfolding leave attach
  mark_left = refl

  -- it was another's
  mark-kept : (s.mark d ≡ f.it.id → ⊥) → s.mark d ≡ (leave s f).mark d
  unfolding move_marks
  mark-kept n = sym (mark_left ∙ ap (λ (t : Bool). if t then last_id_or 0 f.ahead else s.mark d) (ne_eqb (s.mark d) f.it.id n))

  -- it was the one that aborts
  mark_moved : s.mark d ≡ f.it.id → last_id_or 0 f.ahead ≡ (leave s f).mark d
  unfolding move_marks
  mark_moved e = sym (mark_left ∙ ap (λ (t : Bool). if t then last_id_or 0 f.ahead else s.mark d) (eq-eqb (s.mark d) f.it.id e))

module _ (h : HubState) (d : ℕ) (p : Option ℕ) (f : Finds h (is_halfway d) p) where
  -- no running routine has begun D and not finished it
  pub halfway_none : p ≡ None → IsHalfway h d (record { slot = p; first = None; mark = get_or h.mark d 0 })
  halfway_none e =
      record {
        place_ok = subst (StandsIfAny h) (sym e) tt;
        slot_is = sym (found_as h (is_halfway d) p f p refl);
        first_is = λ l. sym (ap (λ (o : Option ℕ). abort_told d (found_at h o) l) e);
        mark_is = sym (λ i. state-mark h i d) ∙ sym (ap (λ (o : Option ℕ). (stopped_by d (state_of h) (found_at h o)).mark d) e);
      }

  -- the one in this slot has
  module _ (v : StateOk h) (x : ℕ) (e : p ≡ Some x) where
    pub halfway_stands : Stands h.links x
    halfway_stands = stands_at h (is_halfway d) p f x e

    id-there : get_or h.ids x 0 ≡ (there h x).it.id
    id-there = sym (member_id h x) ∙ (λ i. (sym (there-it h x) i).id)

    mark-there : get_or h.mark d 0 ≡ (state_of h).mark d
    mark-there = λ i. sym (state-mark h) i d

    -- so it is told, and m is D's mark then
    halfway_one : (first : Option ℕ) (m : ℕ) → ((l : List Back) → event_abort_of first l ≡ abort_told d (Some (there h x)) l) →
        m ≡ (stopped_by d (state_of h) (Some (there h x))).mark d → IsHalfway h d (record { slot = Some x; first = first; mark = m })
    halfway_one first m t q =
        record {
          place_ok = halfway_stands;
          slot_is = sym (found_as h (is_halfway d) p f (Some x) e);
          first_is = t;
          mark_is = q;
        }

    -- t: is a must left?
    module _ (t : Bool) (k : t ≡ must_left d (member_at h x)) where
      -- none is: it is not told, and the mark stays
      pub halfway_skips : t ≡ false → IsHalfway h d (record { slot = Some x; first = None; mark = get_or h.mark d 0 })
      halfway_skips n =
          let u = must-there h x d k ∙ n in
          halfway_one None (get_or h.mark d 0) (λ l. rw u)
          (mark-there ∙ (λ i. sym (ap (λ (s : State). s.mark) (stop_skips d (state_of h) (there h x) u) ∙ mark-skipped d _ _) i d))

      -- one is: it aborts
      module _ (y : t ≡ true) where
        halfway_aborts : (m : ℕ) → m ≡ (leave (state_of h) (there h x)).mark d →
            IsHalfway h d (record { slot = Some x; first = Some (get_or h.ids x 0); mark = m })
        halfway_aborts m q =
            let u = must-there h x d k ∙ y in
            halfway_one (Some (get_or h.ids x 0)) m (λ l. rw u (ap (λ (j : ℕ). event_abort_of (Some j) l) id-there))
            (q ∙ (λ i. (sym (stop-leaves d (state_of h) (there h x) u) i).mark d))

        pub halfway_other : (get_or h.mark d 0 ≡ get_or h.ids x 0 → ⊥) →
            IsHalfway h d (record { slot = Some x; first = Some (get_or h.ids x 0); mark = get_or h.mark d 0 })
        halfway_other n =
            halfway_aborts (get_or h.mark d 0)
            (mark-there ∙ mark-kept (state_of h) (there h x) d (λ q. n (mark-there ∙ q ∙ sym id-there)))

        pub halfway_marked : (m : ℕ) → m ≡ last_id_or 0 (there h x).ahead → get_or h.mark d 0 ≡ get_or h.ids x 0 →
            IsHalfway h d (record { slot = Some x; first = Some (get_or h.ids x 0); mark = m })
        halfway_marked m b q = halfway_aborts m (b ∙ mark_moved (state_of h) (there h x) d (sym mark-there ∙ q ∙ id-there))

-- ---- what an event comes to

-- the abort or the skips of the rules, by what they leave and put back
stops_as : (d : ℕ) (s : State) (o : Option Found) →
    record { state = stopped_by d s o; answers = abort_told d o (put_backs_stopped d s o) } ≡ stop_if_any d s o
unfolding abort
stops_as d s None = refl
stops_as d s (Some f) =
    by_test
    (λ (t : Bool). record {
      state = (stop_by t d s f).state;
      answers = if t then aborted f.it.id (if t then put_backs_left s f else []) ∷ [] else [];
    } ≡ stop_by t d s f)
    (must_left d f.it) (λ e. refl) (λ e. refl)

-- that a device is down changes no mark
down-mark : (s : State) (d : ℕ) (o : Option Found) → (stopped_by d s o).mark d ≡ (stopped_by d (down_with s d) o).mark d
unfolding abort skip_rest
down-mark s d None = refl
down-mark s d (Some f) =
    by_test (λ (t : Bool). (stop_by t d s f).state.mark d ≡ (stop_by t d (down_with s d) f).state.mark d) (must_left d f.it)
    (λ e. mark_left s f d ∙ sym (mark_left (down_with s d) f d)) (λ e. refl)

-- the event's own answer puts nothing back
own_backs : (d : ℕ) (o : Option Found) (s : State) (t : Told) → put_backs_in (t ∷ []) ≡ [] →
    put_backs_stopped d s o ≡ put_backs_in (abort_told d o (put_backs_stopped d s o) ++ (t ∷ []))
own_backs d None s t e = sym e
own_backs d (Some f) s t e =
    let l = put_backs_left s f in
    by_test
    (λ (u : Bool). (if u then l else []) ≡ put_backs_in ((if u then aborted f.it.id (if u then l else []) ∷ [] else []) ++ (t ∷ [])))
    (must_left d f.it) (λ k. sym (append-nil l) ∙ ap (λ (m : List Back). l ++ m) (sym e)) (λ k. sym e)

-- after the abort, or the skips: the answer of a failure, and of a restart
abbrev then_down : ℕ → Result → Result
then_down d r = record { state = r.state; answers = r.answers ++ (down d (r.state.mark d) ∷ []) }

abbrev then_up : ℕ → ℤ → Result → Result
then_up d v r = record { state = up_with r.state d v; answers = r.answers ++ (up d (r.state.mark d) ∷ []) }

failure-is : (s : State) (d : ℕ) → failure_result s d ≡ then_down d (stop_if_any d (down_with s d) (find (is_halfway d) s.sequence))
unfolding failure_result stop_halfway
failure-is s d = refl

restart-is : (s : State) (d : ℕ) (v : ℤ) → restart_result s d v ≡ then_up d v (stop_if_any d s (find (is_halfway d) s.sequence))
unfolding restart_result stop_halfway
restart-is s d v = refl

module _ (h : HubState) (d : ℕ) (a : Affected) (w : IsHalfway h d a) (result : Result) where
  pub failure-decides : d < max_devices → settling (failure_result (state_of h) d) ≡ result →
      Decides h [] (record { first = a.first; answer = Down d a.mark; back = None; change = Fail d a.slot }) result
  failure-decides i e =
      let s = down_with (state_of h) d in
      let o = found_at h a.slot in
      let l = put_backs_stopped d s o in
      let m = w.mark_is ∙ down-mark (state_of h) d o in
      record {
        change_ok = (i, w.place_ok);
        gives =
            ap settling
            ((λ j. record { state = stopped_by d s o; answers = w.first_is l j ++ (down d (m j) ∷ []) })
            ∙ ap (then_down d) (stops_as d s o ∙ ap (stop_if_any d s) w.slot_is)
            ∙ sym (failure-is (state_of h) d))
            ∙ e;
        put_backs_told = own_backs d o s (down d a.mark) refl ∙ (λ j. put_backs_in (sym (w.first_is l) j ++ (down d a.mark ∷ [])));
        well_told = (_, refl);
        nothing_told = λ u. t≠f (sym u);
        something_told = λ u k. let z : ◌≡◌ {A = ℕ} 0 1 = cc in omega arith;
      }

  pub restart-decides : (v : ℤ) → d < max_devices → is_restart v ≡ true → settling (restart_result (state_of h) d v) ≡ result →
      Decides h [] (record { first = a.first; answer = Up d a.mark; back = None; change = Restart d v a.slot }) result
  restart-decides v i r e =
      let s = state_of h in
      let o = found_at h a.slot in
      let l = put_backs_stopped d s o in
      record {
        change_ok = (i, r, w.place_ok);
        gives =
            ap settling
            ((λ j. record { state = up_with (stopped_by d s o) d v; answers = w.first_is l j ++ (up d (w.mark_is j) ∷ []) })
            ∙ ap (then_up d v) (stops_as d s o ∙ ap (stop_if_any d s) w.slot_is)
            ∙ sym (restart-is s d v))
            ∙ e;
        put_backs_told = own_backs d o s (up d a.mark) refl ∙ (λ j. put_backs_in (sym (w.first_is l) j ++ (up d a.mark ∷ [])));
        well_told = (_, refl);
        nothing_told = λ u. t≠f (sym u);
        something_told = λ u k. let z : ◌≡◌ {A = ℕ} 0 1 = cc in omega arith;
      }

-- a setting in range can stand in a table of restarts
pub restart_entry : (v : ℤ) → in_range v ≡ true → is_restart v ≡ true
restart_entry (pos n) e =
    let h = leb-true n (mag highest_setting) (sym (in_range_pos n) ∙ e) in
    ap not (ne_eqb n (mag no_restart) (λ p. absurd (omega (arith, h, p))))
restart_entry (negsuc n) e = refl

-- ---- whether it is turned down

module _ (s : State) (d : ℕ) where
  pub failure_14 : s.devices ≤ d → turned_down EventDevice s ≡ failure_of s d
  unfolding failure_of
  failure_14 h = rw (le-leb s.devices d h)

  pub failure_15 : d < s.devices → s.up d ≡ false → turned_down FailureOfDown s ≡ failure_of s d
  unfolding failure_of
  failure_15 h u = rw (lt-leb s.devices d h, u)

  pub failure_passes : d < s.devices → s.up d ≡ true → settling (failure_result s d) ≡ failure_of s d
  unfolding failure_of
  failure_passes h u = rw (lt-leb s.devices d h, u)

module _ (s : State) (d : ℕ) (v : ℤ) where
  pub restart_14 : s.devices ≤ d → turned_down EventDevice s ≡ restart_of s d v
  unfolding restart_of
  restart_14 h = rw (le-leb s.devices d h)

  pub restart_16 : d < s.devices → s.up d ≡ true → turned_down RestartOfUp s ≡ restart_of s d v
  unfolding restart_of
  restart_16 h u = rw (lt-leb s.devices d h, u)

  pub restart_17 : d < s.devices → s.up d ≡ false → in_range v ≡ false → turned_down RestartSetting s ≡ restart_of s d v
  unfolding restart_of
  restart_17 h u r = rw (lt-leb s.devices d h, u, r)

  pub restart_passes : d < s.devices → s.up d ≡ false → in_range v ≡ true → settling (restart_result s d v) ≡ restart_of s d v
  unfolding restart_of
  restart_passes h u r = rw (lt-leb s.devices d h, u, r)

-- ---- the event carried out

module _ (h : HubState) (o : Option ℕ) (d : ℕ) where
  -- what comes of the routine that is halfway, if there is one
  abbrev pub Stops : HubState → Type 0
  Stops r = (StateOk r) × (state_of r ≡ stopped_by d (state_of h) (found_at h o)) × (OnlyLeave h r)

  -- there is none
  pub none_stops : StateOk h → o ≡ None → Stops h
  none_stops v e =
      (v, ap (λ (p : Option ℕ). stopped_by d (state_of h) (found_at h p)) (sym e), in_place-leaves h h v (itself_in_place h))

  -- t: is a must of the one in this slot left?
  module _ (x : ℕ) (i : o ≡ Some x) (t : Bool) (k : t ≡ must_left d (member_at h x)) where
    -- it aborts
    pub one-leaves : StateOk h → StandsIfAny h o → t ≡ true → (r : HubState) → LeavesHub h x r → Stops r
    one-leaves v s y r a = (
      a.valid,
      a.gives ∙ sym (stop-leaves d (state_of h) (there h x) (must-there h x d k ∙ y))
          ∙ ap (λ (p : Option ℕ). stopped_by d (state_of h) (found_at h p)) (sym i),
      leaves-unmoved h x r v (subst (StandsIfAny h) i s) a,
    )

    -- what is left is skipped
    pub one_skips : StateOk h → t ≡ false → (r : HubState) →
        (StateOk r) × (state_of r ≡ skip_rest d (state_of h) (there h x)) × (InPlace h r) → Stops r
    one_skips v n r a = (
      a.0,
      a.1 ∙ sym (stop_skips d (state_of h) (there h x) (must-there h x d k ∙ n))
          ∙ ap (λ (p : Option ℕ). stopped_by d (state_of h) (found_at h p)) (sym i),
      in_place-leaves h r v a.2,
    )

  -- what its abort puts back, in the state s
  module _ (s : State) (r : PutBacks) where
    abbrev BacksIf : Type 0
    BacksIf = put_backs_of r ≡ put_backs_stopped d s (found_at h o)

    pub none_backs : o ≡ None → put_backs_of r ≡ [] → BacksIf
    none_backs e k = k ∙ ap (λ (p : Option ℕ). put_backs_stopped d s (found_at h p)) (sym e)

    module _ (x : ℕ) (i : o ≡ Some x) (t : Bool) (k : t ≡ must_left d (member_at h x)) where
      backs_there : (u : Bool) → t ≡ u → (if u then put_backs_left s (there h x) else []) ≡ put_backs_stopped d s (found_at h o)
      backs_there u e =
          ap (λ (v : Bool). if v then put_backs_left s (there h x) else []) (sym (must-there h x d k ∙ e))
          ∙ ap (λ (p : Option ℕ). put_backs_stopped d s (found_at h p)) (sym i)

      pub one_backs : t ≡ true → put_backs_of r ≡ put_backs_left s (there h x) → BacksIf
      one_backs y e = e ∙ backs_there true y

      pub skip_backs : t ≡ false → put_backs_of r ≡ [] → BacksIf
      skip_backs n e = e ∙ backs_there false n

-- g: the hub with the device down
pub stands-down : (h g : HubState) (o : Option ℕ) → g.links ≡ h.links → StandsIfAny h o → StandsIfAny g o
stands-down h g None k s = tt
stands-down h g (Some x) k s = subst (λ (l : Links). Stands l x) (sym k) s

found_same : (h g : HubState) (o : Option ℕ) → there g ≡ there h → found_at g o ≡ found_at h o
found_same h g None t = refl
found_same h g (Some x) t = λ i. Some (t i x)

-- whether a device is up changes nothing else
up-leaves : (h g : HubState) → StateOk h → g.links ≡ h.links → there g ≡ there h → OnlyLeave h g
up-leaves h g v k t =
    in_place-leaves h g v
    (record {
      links = k;
      routines = λ x _. same-routine_as (sym (there-it g x) ∙ (λ i. (t i x).it) ∙ there-it h x);
    })

pub failure_stops : (h g : HubState) (d : ℕ) (o : Option ℕ) → StateOk h → state_of g ≡ down_with (state_of h) d → g.links ≡ h.links →
    there g ≡ there h → (r : HubState) → Stops g o d r →
    (StateOk r) × (state_of r ≡ stopped_by d (down_with (state_of h) d) (found_at h o)) × (OnlyLeave h r)
failure_stops h g d o v e k t r a = (
  a.0,
  a.1 ∙ (λ i. stopped_by d (e i) (found_same h g o t i)),
  leave_then h g r (up-leaves h g v k t) a.2,
)

pub restart-leaves : (h g t u : HubState) → OnlyLeave h g → StateOk g → InPlace g t → StateOk t → u.links ≡ t.links →
    there u ≡ there t → OnlyLeave h u
restart-leaves h g t u p v q w k e = leave_then h g u p (leave_then g t u (in_place-leaves g t v q) (up-leaves t u w k e))

-- g: after the abort or the skips, if there are any; t: with the restart attached; u: with the device up
pub restart-gives : (h g t u : HubState) (o : Option ℕ) (d : ℕ) (v : ℤ) → Stops h o d g →
    state_of t ≡ attach (get_or g.mark d 0) (one_restart d v) (state_of g) → state_of u ≡ with_up (state_of t) (put (state_of t).up d true) →
    state_of u ≡ up_with (stopped_by d (state_of h) (found_at h o)) d v
restart-gives h g t u o d v a e k =
    k
    ∙ ap (λ (s : State). with_up s (put s.up d true))
    (e ∙ ap (λ (j : ℕ). attach j (one_restart d v) (state_of g)) (λ i. sym (state-mark g) i d))
    ∙ ap (λ (s : State). up_with s d v) a.1
