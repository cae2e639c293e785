-- Slots by what their rows have: what a device is due after them, along the sequence and back, and which have a command in flight on it.
-- Assumes nothing.
use Rattle.std.proofs.Common.{Option, None, Some}
use mathlib.Core.Path.{◌≡◌, refl, sym, ap, ◌∙◌, subst, fun_ext}
use mathlib.Core.Bool.{Bool, true, false, not, ◌&&◌, ◌||◌, and-true, and-false, or-true, or-false, or_assoc}
use mathlib.Core.List.{List, [], ◌∷◌, map, reverse, reverse_aux}
use Prim.Native.Nat.{ℕ, zero, suc, ◌+◌, ◌-◌, ◌*◌, ◌≤◌, ◌<◌}
use native.Mathlib.Omega.{arith}
use borrow.Author.Tests.{eq-eqb, ne_eqb, lt-ltb, le-ltb}
use lib.Dec.{eqb, ltb}
use lib.IntN.{ℤ, pos}
use lib.ListN.{length, take, drop, get_or, set, replicate, length-set, get_or-eq_default}
use Rattle.std.specs.Prelude.{if◌then◌else◌, unwrap_or}
use Rattle.rules_routine.specs.Limits.{max_devices, max_commands, max_sequence}
use Rattle.rules.specs.Tables.{any_of}
use Rattle.rules.specs.State.{Step, Member}
use Rattle.rules.specs.Progress.{in_flight_on}
use Rattle.rules.specs.Due.{after_steps, after_restart, after_member, after_members, due}
use Rattle.rules.specs.Attach.{settle_restarts}
use Rattle.hub_sequence.specs.Lists.{count, without}
use Rattle.hub_sequence.specs.Links.{along, slots_of, back_of, Walks, Stands}
use Rattle.hub_sequence.proofs.Tables.{by_eq, by_less}
use Rattle.hub_sequence.proofs.Lists.{same_self, same_eq, same-apart, count-reverse-onto}
use Rattle.hub_sequence.proofs.ReadLaws.{back_reversed, once-taken}
use Rattle.hub_sequence.proofs.WalkLaws.{walks_next, walks_end}
use Rattle.rules.proofs.Lists.{eqb_sym}
use Rattle.hub_state.specs.View.{settings_of, flags_of, rows_of, step_at, steps_from, steps_at, restarts_at, member_at, members_of, state_of}
use Rattle.hub_state.specs.View.{in_flight_code}
use Rattle.hub_state.specs.Valid.{StateOk}
use Rattle.hub_state.specs.declared.HubState.{HubState}
use Rattle.hub_state.proofs.Steps.{done_upto, flights_all, flights_open}
use Rattle.hub_state.proofs.Rows.{flight_code, take-steps_from, steps_open}
use Rattle.hub_state.proofs.Members.{steps_are, length-steps, stands_below, answered_most, counts_most, device-within}
use Rattle.hub_due.specs.Contract.{BehindLastDone, AfterDone, DevicesFit, members_without, none_done, due_without}
use Rattle.hub_due.proofs.Tables.{set-put}
use Rattle.hub_due.proofs.Places.{rows_with, after_places, after-places}

-- ---- what a device is due

-- What each slot of a list leaves, one after the other, of what there was.
abbrev pub in_turn : (ℕ → ℤ → ℤ) → List ℕ → ℤ → ℤ
in_turn f [] v = v
in_turn f (x ∷ l) v = in_turn f l (f x v)

module _ (device stage : List ℕ) (setting restarts : List ℤ) (answered : List ℕ) (d : ℕ) where
  -- After a slot's routine and the events attached to it. No command is done but those that are answered.
  abbrev pub after_slot : ℕ → ℤ → ℤ
  after_slot x v = after_restart (restarts_at restarts x d) (after_places device stage setting d (x * max_commands) (get_or answered x 0) v)

  -- The same with the commands of one slot left out.
  abbrev pub after_but : ℕ → ℕ → ℤ → ℤ
  after_but but x v = if eqb x but then after_restart (restarts_at restarts x d) v else after_slot x v

  -- After slots that are listed from the last to the first.
  abbrev pub back_slots : List ℕ → ℤ → ℤ
  back_slots [] v = v
  back_slots (x ∷ l) v = after_slot x (back_slots l v)

  back-onto : (l m : List ℕ) (v : ℤ) → back_slots (reverse_aux l m) v ≡ in_turn after_slot l (back_slots m v)
  back-onto [] m v = refl
  back-onto (x ∷ l) m v = back-onto l (x ∷ m) v

  pub back-slots : (l : List ℕ) (v : ℤ) → back_slots (reverse l) v ≡ in_turn after_slot l v
  back-slots l v = back-onto l [] v

-- a walk, of which x is the next slot
module _ (f : ℕ → ℤ → ℤ) {row : List ℕ} {x : ℕ} (t : Walks row x) (v : ℤ) where
  walk_after : x < max_sequence → in_turn f (along row (get_or row x 0)) (f x v) ≡ in_turn f (along row x) v
  walk_after h = sym (ap (λ (l : List ℕ). in_turn f l v) (walks_next t h).0)

  walk-done : max_sequence ≤ x → in_turn f (along row x) v ≡ v
  walk-done h = ap (λ (l : List ℕ). in_turn f l v) (walks_end t h)

-- ---- one device, from the last slot on

-- The slots from x on, from the last to the first, leave the device as all leave it.
pub record BackTo (row device stage : List ℕ) (setting restarts : List ℤ) (answered : List ℕ) (d last : ℕ) (v : ℤ) (x : ℕ) : Type 0 where
  pub same : back_slots device stage setting restarts answered d (along row x) v ≡ back_slots device stage setting restarts answered d
      (along row last) v

pub back_yet : (row device stage : List ℕ) (setting restarts : List ℤ) (answered : List ℕ) (d last : ℕ) (v : ℤ) →
    BackTo row device stage setting restarts answered d last v last
back_yet row device stage setting restarts answered d last v = record { same = refl }

module _ {row device stage : List ℕ} {setting restarts : List ℤ} {answered : List ℕ} {d last : ℕ} {v : ℤ} {x : ℕ} (t : Walks row x)
    (f : BackTo row device stage setting restarts answered d last v x) where
  -- no slot is left
  pub back_done : max_sequence ≤ x → v ≡ back_slots device stage setting restarts answered d (along row last) v
  back_done h = sym (ap (λ (l : List ℕ). back_slots device stage setting restarts answered d l v) (walks_end t h)) ∙ f.same

  module _ (h : x < max_sequence) where
    -- what the slots ahead leave the device at
    abbrev ahead : ℤ
    ahead = back_slots device stage setting restarts answered d (along row (get_or row x 0)) v

    abbrev after : Option ℤ → ℤ
    after o = after_restart o (after_places device stage setting d (x * max_commands) (get_or answered x 0) ahead)

    back-next : after (restarts_at restarts x d) ≡ back_slots device stage setting restarts answered d (along row last) v
    back-next = sym (ap (λ (l : List ℕ). back_slots device stage setting restarts answered d l v) (walks_next t h).0) ∙ f.same

    -- the slot has a restart
    pub back-restart : (r : ℤ) → restarts_at restarts x d ≡ Some r →
        r ≡ back_slots device stage setting restarts answered d (along row last) v
    back-restart r e = sym (ap after e) ∙ back-next

    module _ (e : restarts_at restarts x d ≡ None) {k : ℕ}
        (i : BehindLastDone device stage (x * max_commands) (x * max_commands + get_or answered x 0) d k) where
      back_places : (w : ℤ) →
          after_steps d (steps_from (rows_with device stage setting []) (pos 0) (x * max_commands)
          (x * max_commands + get_or answered x 0 - x * max_commands)) ahead ≡ w →
          w ≡ back_slots device stage setting restarts answered d (along row last) v
      back_places w g =
          let n : x * max_commands + get_or answered x 0 - x * max_commands ≡ get_or answered x 0 = omega arith in
          sym g
          ∙ after-places device stage setting [] (pos 0) d (x * max_commands) (x * max_commands + get_or answered x 0 - x * max_commands) ahead
          ∙ ap (λ (m : ℕ). after_places device stage setting d (x * max_commands) m ahead) n
          ∙ sym (ap after e)
          ∙ back-next

      -- it has a done command on the device
      pub back_found : x * max_commands < k →
          get_or setting (k - 1) (pos 0) ≡ back_slots device stage setting restarts answered d (along row last) v
      back_found h = back_places (get_or setting (k - 1) (pos 0)) (i.last_is (k - 1) (omega arith) (omega arith) [] setting (pos 0) ahead)

      -- it leaves the device as it was
      pub back-past : k ≤ x * max_commands → BackTo row device stage setting restarts answered d last v (get_or row x 0)
      back-past h = let g : k ≡ x * max_commands = omega (arith, i.within) in
          record { same = back_places ahead (i.none_left g [] setting (pos 0) ahead) }

-- ---- the slots of a state

module _ (h : HubState) (ok : StateOk h) (d : ℕ) where
  slot_due : (x : ℕ) (v : ℤ) → Stands h.links x →
      after_member d (member_at h x) v ≡ after_slot h.device h.stage h.setting h.restarts h.answered d x v
  unfolding after_member member_at
  slot_due x v s =
      let n = get_or h.answered x 0 in
      let u = get_or h.due_then x (pos 0) in
      let k = (ok.slots_ok x s).come_so_far in
      ap (after_restart (restarts_at h.restarts x d))
      (done_upto n (steps_at h x) k d v
      ∙ ap (λ (l : List Step). after_steps d l v)
      (ap (take n) (steps_are h x) ∙ take-steps_from (rows_of h) u (x * max_commands) n (get_or h.counts x 0) (answered_most h x ok s))
      ∙ after-places h.device h.stage h.setting h.tag u d (x * max_commands) n v)

  -- the routines of taken slots, as f reads them
  slots-due : (f : ℕ → Member) (g : ℕ → ℤ → ℤ) → ((x : ℕ) (v : ℤ) → Stands h.links x → after_member d (f x) v ≡ g x v) →
      (l : List ℕ) (v : ℤ) → ((x : ℕ) → 1 ≤ count x l → Stands h.links x) → after_members d (map f l) v ≡ in_turn g l v
  slots-due f g e [] v s = refl
  slots-due f g e (x ∷ l) v s =
      ap (after_members d (map f l)) (e x v (s x (omega (arith, same_self x)))) ∙ slots-due f g e l (g x v) (λ y i. s y (omega arith))

  -- along the sequence
  pub due-along : (v : ℤ) →
      in_turn (after_slot h.device h.stage h.setting h.restarts h.answered d) (slots_of h.links) v
      ≡ after_members d (members_of h) v
  unfolding members_of
  due-along v = sym (slots-due (member_at h) _ slot_due (slots_of h.links) v (λ x i. i))

  -- the commands of the routine in a slot left out
  slot_but : (but x : ℕ) (v : ℤ) → Stands h.links x →
      after_member d (if eqb x but then none_done (member_at h x) else member_at h x) v
      ≡ after_but h.device h.stage h.setting h.restarts h.answered d but x v
  unfolding after_member member_at
  slot_but but x v s = by_eq x but (λ e. rw (eq-eqb x but e)) (λ n. rw (ne_eqb x but n) (slot_due x v s))

  slots_but : (but : ℕ) (v : ℤ) →
      in_turn (after_but h.device h.stage h.setting h.restarts h.answered d but) (slots_of h.links) v
      ≡ after_members d (map (λ x. if eqb x but then none_done (member_at h x) else member_at h x) (slots_of h.links)) v
  slots_but but v =
      sym
      (slots-due (λ x. if eqb x but then none_done (member_at h x) else member_at h x) _ (slot_but but) (slots_of h.links) v (λ x i. i))

  -- no slot has the number past the slots
  none_out : (l : List ℕ) → ((x : ℕ) → 1 ≤ count x l → Stands h.links x) →
      map (λ y. if eqb y max_sequence then none_done (member_at h y) else member_at h y) l ≡ map (member_at h) l
  none_out [] s = refl
  none_out (x ∷ l) s =
      let i = stands_below h x ok (s x (omega (arith, same_self x))) in
      let n : x ≡ max_sequence → ⊥ = λ e. absurd (omega arith) in
      rw (ne_eqb x max_sequence n, none_out l (λ y i. s y (omega arith)))

  pub due_but : (but : Option ℕ) (x : ℕ) → x ≡ unwrap_or but max_sequence →
      in_turn (after_but h.device h.stage h.setting h.restarts h.answered d x) (slots_of h.links) (settings_of h.settled_at d)
      ≡ due_without h but d
  unfolding due_without
  due_but None x e =
      let v = settings_of h.settled_at d in
      rw e (slots_but max_sequence v ∙ ap (λ (l : List Member). after_members d l v) (none_out (slots_of h.links) (λ x i. i)))
  due_but (Some but) x e = rw e (slots_but but (settings_of h.settled_at d))

  -- and from the last on; the rows that are lent are those of the state
  due-back : (v : ℤ) →
      back_slots h.device h.stage h.setting h.restarts h.answered d (back_of h.links) v ≡ after_members d (members_of h) v
  due-back v =
      ap (λ (l : List ℕ). back_slots h.device h.stage h.setting h.restarts h.answered d l v)
      (back_reversed h.links ok.links_ok)
      ∙ back-slots h.device h.stage h.setting h.restarts h.answered d (slots_of h.links) v
      ∙ due-along v

  pub due-lent : (device stage : List ℕ) (setting : List ℤ) → device ≡ h.device → stage ≡ h.stage → setting ≡ h.setting →
      (u v : ℤ) → u ≡ v →
      back_slots device stage setting h.restarts h.answered d (back_of h.links) u ≡ after_members d (members_of h) v
  due-lent device stage setting e f g u v i =
      ap (λ (l : List ℕ). back_slots l stage setting h.restarts h.answered d (back_of h.links) u) e
      ∙ ap (λ (l : List ℕ). back_slots h.device l setting h.restarts h.answered d (back_of h.links) u) f
      ∙ ap (λ (l : List ℤ). back_slots h.device h.stage l h.restarts h.answered d (back_of h.links) u) g
      ∙ due-back u
      ∙ ap (after_members d (members_of h)) i

-- the answered commands of a slot are in the rows, on devices that there can be
module _ (h : HubState) (x : ℕ) (ok : StateOk h) (s : Stands h.links x) where
  pub answered_end : x * max_commands + get_or h.answered x 0 ≤ max_sequence * max_commands
  answered_end = omega (arith, stands_below h x ok s, answered_most h x ok s, counts_most h x ok s)

  pub answered-devices : DevicesFit h.device (x * max_commands) (x * max_commands + get_or h.answered x 0)
  answered-devices k i j =
      let e : x * max_commands + (k - x * max_commands) ≡ k = omega arith in
      subst (λ (n : ℕ). get_or h.device n 0 < max_devices) e
      (device-within h x ok s (k - x * max_commands) (omega (arith, answered_most h x ok s)))

-- a slot that a walk back comes to is taken
pub back-stands : (h : HubState) → StateOk h → (x : ℕ) → 1 ≤ count x (back_of h.links) → Stands h.links x
back-stands h ok x i =
    let e : count x (back_of h.links) ≡ count x (slots_of h.links) + 0 =
    ap (count x) (back_reversed h.links ok.links_ok) ∙ count-reverse-onto x (slots_of h.links) [] in
    omega (arith, e, i)

-- ---- all devices

-- A table of which the slots before x are part: those from x on leave each device as all leave it. The commands of one slot do not count.
pub record DueTo (row device stage : List ℕ) (setting restarts : List ℤ) (answered : List ℕ) (but first : ℕ) (settled : List ℤ) (x : ℕ)
    (table : List ℤ) : Type 0 where
  pub same :
      (d : ℕ) → in_turn (after_but device stage setting restarts answered d but) (along row x) (settings_of table d)
      ≡ in_turn (after_but device stage setting restarts answered d but) (along row first) (settings_of settled d)

pub due_yet : (row device stage : List ℕ) (setting restarts : List ℤ) (answered : List ℕ) (but first : ℕ) (settled : List ℤ) →
    DueTo row device stage setting restarts answered but first settled first settled
due_yet row device stage setting restarts answered but first settled = record { same = λ d. refl }

module _ {row device stage : List ℕ} {setting restarts : List ℤ} {answered : List ℕ} {but first : ℕ} {settled : List ℤ} {x : ℕ}
    {table : List ℤ}
    (t : Walks row x)
    (f : DueTo row device stage setting restarts answered but first settled x table) where
  -- one slot more
  due-next : x < max_sequence → {after : List ℤ} →
      ((d : ℕ) → settings_of after d ≡ after_but device stage setting restarts answered d but x (settings_of table d)) →
      DueTo row device stage setting restarts answered but first settled (get_or row x 0) after
  due-next h e =
      record {
        same =
            λ d. ap (in_turn (after_but device stage setting restarts answered d but) (along row (get_or row x 0))) (e d)
            ∙ walk_after (after_but device stage setting restarts answered d but) t (settings_of table d) h
            ∙ f.same d;
      }

  -- its commands count
  pub due-more : x < max_sequence → (x ≡ but → ⊥) → {done mid after : List ℤ} → mid ≡ done →
      AfterDone table device stage setting (x * max_commands) (x * max_commands + get_or answered x 0) done →
      settings_of after ≡ settle_restarts (restarts_at restarts x) (settings_of mid) →
      DueTo row device stage setting restarts answered but first settled (get_or row x 0) after
  unfolding settle_restarts
  due-more h b q a e =
      due-next h
      (λ d. let n : x * max_commands + get_or answered x 0 - x * max_commands ≡ get_or answered x 0 = omega arith in
      rw (ne_eqb x but b)
      ((λ i. e i d)
      ∙ ap (λ (l : List ℤ). after_restart (restarts_at restarts x d) (settings_of l d)) q
      ∙ ap (after_restart (restarts_at restarts x d))
      (a [] (pos 0) d
      ∙ after-places device stage setting [] (pos 0) d (x * max_commands) (x * max_commands + get_or answered x 0 - x * max_commands)
      (settings_of table d)
      ∙ ap (λ (m : ℕ). after_places device stage setting d (x * max_commands) m (settings_of table d)) n)))

  -- they do not
  pub due_left_out : x < max_sequence → x ≡ but → {mid after : List ℤ} → mid ≡ table →
      settings_of after ≡ settle_restarts (restarts_at restarts x) (settings_of mid) →
      DueTo row device stage setting restarts answered but first settled (get_or row x 0) after
  unfolding settle_restarts
  due_left_out h b q e =
      due-next h
      (λ d. rw (eq-eqb x but b) ((λ i. e i d) ∙ ap (λ (l : List ℤ). after_restart (restarts_at restarts x d) (settings_of l d)) q))

  -- no slot is left
  pub due_end : max_sequence ≤ x → (d : ℕ) →
      settings_of table d ≡ in_turn (after_but device stage setting restarts answered d but) (along row first) (settings_of settled d)
  due_end h d = sym (walk-done (after_but device stage setting restarts answered d but) t (settings_of table d) h) ∙ f.same d

-- the table is what the rules have
module _ (h : HubState) (ok : StateOk h) where
  -- of one device
  pub due-is : (d : ℕ) → after_members d (members_of h) (settings_of h.settled_at d) ≡ due (state_of h) d
  unfolding due state_of
  due-is d = refl

  -- of all, with none left out
  pub due_whole : due_without h None ≡ due (state_of h)
  unfolding due_without members_of
  due_whole = fun_ext due-is

  -- one that the hub cannot have is at 0
  pub due-past : (d : ℕ) → length h.settled_at ≤ d → after_members d (members_of h) (pos 0) ≡ due (state_of h) d
  due-past d l = ap (after_members d (members_of h)) (sym (get_or-eq_default h.settled_at (pos 0) l)) ∙ due-is d

-- ---- a walk stays on the slots where it began

-- Each slot of one list is in the other.
pub record Within (l m : List ℕ) : Type 0 where
  pub most : (w : ℕ) → count w l ≤ count w m

pub within_self : (l : List ℕ) → Within l l
within_self l = record { most = λ w. omega arith }

module _ {row l : List ℕ} {x : ℕ} (t : Walks row x) (s : Within (along row x) l) (h : x < max_sequence) where
  pub walk-within : Within (along row (get_or row x 0)) l
  walk-within =
      record {
        most =
            λ w. let e : count w (along row x) ≡ count w (x ∷ along row (get_or row x 0)) = ap (count w) (walks_next t h).0 in
            omega (arith, e, s.most w);
      }

  pub walk_here : 1 ≤ count x l
  walk_here =
      let e : count x (along row x) ≡ count x (x ∷ along row (get_or row x 0)) = ap (count x) (walks_next t h).0 in
      omega (arith, e, s.most x, same_self x)

-- ---- commands in flight

-- A slot's first command that is not answered is in flight on the device.
abbrev pub flies_at : List ℕ → List ℕ → List ℕ → List ℕ → ℕ → ℕ → Bool
flies_at counts answered device stage d x =
    ltb (get_or answered x 0) (get_or counts x 0)
    && (eqb (get_or device (x * max_commands + get_or answered x 0) 0) d && eqb
    (get_or stage (x * max_commands + get_or answered x 0) 0) in_flight_code)

-- The same of a slot that is not left out.
abbrev pub flies_but : List ℕ → List ℕ → List ℕ → List ℕ → ℕ → ℕ → ℕ → Bool
flies_but counts answered device stage but d x = not (eqb x but) && flies_at counts answered device stage d x

module _ (h : HubState) (ok : StateOk h) (d : ℕ) where
  slot_flies : (x : ℕ) → Stands h.links x → in_flight_on d (member_at h x) ≡ flies_at h.counts h.answered h.device h.stage d x
  unfolding in_flight_on member_at step_at
  slot_flies x s =
      let n = get_or h.answered x 0 in
      let m = get_or h.counts x 0 in
      let u = get_or h.due_then x (pos 0) in
      let k = x * max_commands in
      let a = (ok.slots_ok x s).come_so_far in
      by_less n m
      (λ i. flights_open n (steps_at h x) a (step_at (rows_of h) u (k + n)) (steps_from (rows_of h) u (suc (k + n)) (m - suc n))
      (ap (drop n) (steps_are h x) ∙ steps_open (rows_of h) u k n m i) d
      ∙ rw (lt-ltb n m i, flight_code (get_or h.stage (k + n) 0) u))
      (λ i. flights_all n (steps_at h x) a (omega (arith, i, length-steps h x)) d ∙ rw (le-ltb n m i))

  -- slots of which the one left out is none
  slots-others : (but : ℕ) (l : List ℕ) → ((x : ℕ) → 1 ≤ count x l → Stands h.links x) → count but l ≡ 0 →
      any_of (in_flight_on d) (map (member_at h) l) ≡ any_of (flies_but h.counts h.answered h.device h.stage but d) l
  slots-others but [] s z = refl
  slots-others but (x ∷ l) s z =
      let n : x ≡ but → ⊥ = λ e. same-apart but x (omega arith) (sym e) in
      rw (
        ne_eqb x but n,
        slot_flies x (s x (omega (arith, same_self x))),
        slots-others but l (λ y i. s y (omega arith)) (omega arith),
      )

  -- it is among them once at most
  slots_fly : (but : ℕ) (l : List ℕ) → ((x : ℕ) → 1 ≤ count x l → Stands h.links x) → count but l ≤ 1 →
      any_of (in_flight_on d) (map (member_at h) (without but l)) ≡ any_of (flies_but h.counts h.answered h.device h.stage but d) l
  slots_fly but [] s z = refl
  slots_fly but (x ∷ l) s z =
      by_eq x but
      (λ e. rw (eq-eqb x but e) (slots-others but l (λ y i. s y (omega arith)) (omega (arith, same_eq but x (sym e)))))
      (λ n. rw (
        ne_eqb x but n,
        slot_flies x (s x (omega (arith, same_self x))),
        slots_fly but l (λ y i. s y (omega arith)) (omega arith),
      ))

  pub flights_along : (but : ℕ) →
      any_of (flies_but h.counts h.answered h.device h.stage but d) (slots_of h.links) ≡ any_of (in_flight_on d)
      (members_without h but)
  unfolding members_without
  flights_along but = sym (slots_fly but (slots_of h.links) (λ x i. i) (once-taken h.links but ok.links_ok))

-- A row of flags to which the slots before x have given their devices: with the slots from x on it has all of them.
pub record FlightsTo (row counts answered device stage : List ℕ) (but first x : ℕ) (busy : List Bool) : Type 0 where
  pub long : length busy ≡ max_devices
  pub same :
      (d : ℕ) → flags_of busy d || any_of (flies_but counts answered device stage but d) (along row x) ≡ any_of
      (flies_but counts answered device stage but d) (along row first)

-- no device is set in a table of none
pub none-set : (n d : ℕ) → flags_of (replicate n false) d ≡ false
none-set zero d = refl
none-set (suc n) zero = refl
none-set (suc n) (suc d) = none-set n d

pub flights_yet : (row counts answered device stage : List ℕ) (but first : ℕ) →
    FlightsTo row counts answered device stage but first first (replicate max_devices false)
flights_yet row counts answered device stage but first =
    record {
      long = refl;
      same = λ d. ap (λ (b : Bool). b || any_of (flies_but counts answered device stage but d) (along row first)) (none-set max_devices d);
    }

module _ {row counts answered device stage : List ℕ} {but first x : ℕ} {busy : List Bool} (t : Walks row x)
    (f : FlightsTo row counts answered device stage but first x busy) where
  -- no slot is left
  pub flights_end : max_sequence ≤ x → (d : ℕ) → flags_of busy d ≡ any_of (flies_but counts answered device stage but d) (along row first)
  flights_end h d =
      sym (or-false (flags_of busy d))
      ∙ sym (ap (λ (l : List ℕ). flags_of busy d || any_of (flies_but counts answered device stage but d) l) (walks_end t h))
      ∙ f.same d

  module _ (h : x < max_sequence) where
    flights_more : (next : List Bool) → length next ≡ length busy →
        ((d : ℕ) → flags_of next d ≡ flags_of busy d || flies_but counts answered device stage but d x) →
        FlightsTo row counts answered device stage but first (get_or row x 0) next
    flights_more next l e =
        record {
          long = l ∙ f.long;
          same =
              λ d. ap (λ (s : Bool). s || any_of (flies_but counts answered device stage but d) (along row (get_or row x 0))) (e d)
              ∙ or_assoc (flags_of busy d) (flies_but counts answered device stage but d x)
              (any_of (flies_but counts answered device stage but d) (along row (get_or row x 0)))
              ∙ sym (ap (λ (l : List ℕ). flags_of busy d || any_of (flies_but counts answered device stage but d) l) (walks_next t h).0)
              ∙ f.same d;
        }

    flights_same : {next : List Bool} → next ≡ busy → ((d : ℕ) → flies_but counts answered device stage but d x ≡ false) →
        FlightsTo row counts answered device stage but first (get_or row x 0) next
    flights_same {next} q e =
        flights_more next (ap length q)
        (λ d. ap (λ (l : List Bool). flags_of l d) q ∙ sym (or-false (flags_of busy d)) ∙ ap (λ (s : Bool). flags_of busy d || s) (sym (e d)))

    -- the slot is left out
    pub flights_left_out : {next : List Bool} → next ≡ busy → x ≡ but →
        FlightsTo row counts answered device stage but first (get_or row x 0) next
    flights_left_out q e = flights_same q (λ d. rw (eq-eqb x but e))

    -- all commands of the slot are answered
    pub flights_past : {next : List Bool} → next ≡ busy → get_or counts x 0 ≤ get_or answered x 0 →
        FlightsTo row counts answered device stage but first (get_or row x 0) next
    flights_past q i = flights_same q (λ d. rw (le-ltb (get_or answered x 0) (get_or counts x 0) i) (and-false (not (eqb x but))))

    -- its next command is not in flight
    pub flights_to_do : {next : List Bool} → next ≡ busy → (get_or stage (x * max_commands + get_or answered x 0) 0 ≡ in_flight_code → ⊥) →
        FlightsTo row counts answered device stage but first (get_or row x 0) next
    flights_to_do q n =
        let k = x * max_commands + get_or answered x 0 in
        flights_same q
        (λ d. rw (
          ne_eqb (get_or stage k 0) in_flight_code n,
          and-false (eqb (get_or device k 0) d),
          and-false (ltb (get_or answered x 0) (get_or counts x 0)),
        ) (and-false (not (eqb x but))))

    -- it is: its device is added
    pub flights_put : {next : List Bool} → next ≡ set busy (get_or device (x * max_commands + get_or answered x 0) 0) true →
        (x ≡ but → ⊥) → get_or answered x 0 < get_or counts x 0 → get_or stage (x * max_commands + get_or answered x 0) 0 ≡ in_flight_code →
        get_or device (x * max_commands + get_or answered x 0) 0 < max_devices →
        FlightsTo row counts answered device stage but first (get_or row x 0) next
    flights_put {next} q n i e l =
        flights_more next (ap length q ∙ length-set busy at true)
        (λ d. ap (λ (m : List Bool). flags_of m d) q ∙ set-put busy at true false (omega (arith, l, f.long)) d
        ∙ added (flags_of busy d) (eqb d at) ∙ ap (λ (s : Bool). flags_of busy d || s) (sym (here d)))
      where
        at : ℕ
        at = get_or device (x * max_commands + get_or answered x 0) 0

        added : (b s : Bool) → (if s then true else b) ≡ b || s
        added b true = sym (or-true b)
        added b false = sym (or-false b)

        here : (d : ℕ) → flies_but counts answered device stage but d x ≡ eqb d at
        here d =
            rw (
              ne_eqb x but n,
              lt-ltb (get_or answered x 0) (get_or counts x 0) i,
              eq-eqb (get_or stage (x * max_commands + get_or answered x 0) 0) in_flight_code e,
            ) (and-true (eqb at d))
            ∙ eqb_sym at d
