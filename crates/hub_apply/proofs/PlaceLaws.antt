-- A routine joins: its rows are filled in at a free slot, those behind it are passed, and all else stays. Assumes nothing.
use Rattle.std.proofs.Common.{Option, None}
use Prim.Native.Nat.{ℕ, zero, suc, ◌+◌, ◌*◌, ◌≤◌, ◌<◌}
use native.Mathlib.Omega.{arith}
use borrow.Author.Tests.{ltb-true}
use mathlib.Core.Path.{◌≡◌, refl, sym, ap, subst, ◌∙◌}
use mathlib.Core.Bool.{Bool, false, not}
use mathlib.Core.List.{List, [], ◌∷◌, ◌++◌, map, map-append}
use lib.Dec.{ltb}
use lib.IntN.{ℤ, pos}
use lib.ListN.{length, take, get_or, set}
use lib.Seq.{get_or-set_same, get_or-set_other}
use Rattle.std.specs.Prelude.{if◌then◌else◌}
use Rattle.rules_routine.specs.Limits.{max_devices, max_commands, max_sequence}
use Rattle.rules_routine.specs.Routine.{zero_command, commands_of}
use Rattle.rules_routine.specs.declared.Command.{Command}
use Rattle.rules_routine.specs.declared.Routine.{Routine}
use Rattle.rules_routine.proofs.RoutineLaws.{by_test, length-commands_of, commands_of-held}
use Rattle.rules.specs.State.{Member}
use Rattle.rules.specs.Tables.{Each}
use Rattle.rules.specs.Progress.{commands_in}
use Rattle.rules.specs.Sequence.{is_running}
use Rattle.rules.specs.Submit.{pass, step_of, newcomer}
use Rattle.hub_sequence.specs.Lists.{same, count, ahead_of_place, behind_place}
use Rattle.hub_sequence.specs.Links.{none as no_slot, slots_of, Stands, StandsOrNone}
use Rattle.hub_sequence.specs.Contract.{Joins}
use Rattle.hub_sequence.specs.declared.Joined.{Joined}
use Rattle.hub_sequence.proofs.Tables.{by_eq}
use Rattle.hub_sequence.proofs.Lists.{same_other, count-append, count-placed, placed_split, through_past}
use Rattle.hub_sequence.proofs.ReadLaws.{once-taken}
use Rattle.hub_sequence.proofs.StayLaws.{by_stands, taken_or_new, joins_stay}
use Rattle.hub_sequence.proofs.WalkLaws.{behind-joined}
use Rattle.hub_state.specs.View.{no_restart, restart_of, to_do_code, status_of, Rows, rows_of, step_at, steps_from, steps_at, restarts_at, member_at}
use Rattle.hub_state.specs.View.{members_of, state_of}
use Rattle.hub_state.specs.Valid.{CanPass, SlotOk, StateOk}
use Rattle.hub_state.specs.Contract.{joined_behind, JoinOk}
use Rattle.hub_state.specs.Unmoved.{SameRoutine, Unmoved, JoinedRun}
use Rattle.hub_state.specs.declared.HubState.{HubState}
use Rattle.hub_state.proofs.Steps.{new_upto, new_fit}
use Rattle.hub_state.proofs.Rows.{step_same, steps_other, restart-none, same_place}
use Rattle.hub_state.proofs.Members.{map_same, counts_most, member_id, member_passed, member_committed}
use Rattle.hub_apply.specs.Fill.{Fills, command_in, CanFill, behind_slot, CanPassBehind, once_more, PassesBehind}
use Rattle.hub_apply.specs.Contract.{with_passed, Places}

-- ---- commands and restarts that were filled in

new_steps : (rows : Rows) (u : ℤ) (cs : List Command) (k n : ℕ) → n ≤ length cs →
    ((i : ℕ) → i < n → step_at rows u (k + i) ≡ step_of (get_or cs i zero_command)) → steps_from rows u k n ≡ map step_of (take n cs)
new_steps rows u cs k zero h e = refl
new_steps rows u [] k (suc n) h e = absurd (omega arith)
new_steps rows u (c ∷ cs) k (suc n) h e =
    let z : k ≡ k + 0 = omega arith in
    let a : step_at rows u k ≡ step_of c = ap (step_at rows u) z ∙ e 0 (omega arith) in
    let b = new_steps rows u cs (suc k) n (omega arith)
    (λ i m. let y : suc k + i ≡ k + suc i = omega arith in ap (step_at rows u) y ∙ e (suc i) (omega arith)) in
    λ i. a i ∷ b i

step_new : (rows : Rows) (u : ℤ) (k : ℕ) (c : Command) → get_or rows.devices k 0 ≡ c.device → get_or rows.tags k 0 ≡ c.tag →
    get_or rows.settings k (pos 0) ≡ c.setting → get_or rows.stages k 0 ≡ to_do_code → step_at rows u k ≡ step_of c
unfolding step_at status_of
step_new rows u k c d t s g = λ i. record { command = record { device = d i; tag = t i; setting = s i }; status = status_of (g i) u }

-- tables of restarts
same-restarts : {f g : ℕ → Option ℤ} → ((d : ℕ) → f d ≡ g d) → f ≡ g
same-restarts e = λ i d. e d i

no_restarts : (row restarts : List ℤ) (slot : ℕ) → Fills no_restart row (slot * max_devices) max_devices (λ d. no_restart) restarts →
    restarts_at restarts slot ≡ (λ d. None)
unfolding restarts_at
no_restarts row restarts slot f =
    same-restarts
    (λ d. by_test (λ (t : Bool). (if t then restart_of (get_or restarts (slot * max_devices + d) no_restart) else None) ≡ None) (ltb d max_devices)
    (λ t. rw (f.inside d (ltb-true d max_devices t)) (restart-none no_restart refl))
    (λ t. refl))

other_restarts : (row restarts : List ℤ) (slot x : ℕ) → Fills no_restart row (slot * max_devices) max_devices (λ d. no_restart) restarts →
    (x ≡ slot → ⊥) → restarts_at restarts x ≡ restarts_at row x
unfolding restarts_at
other_restarts row restarts slot x f n =
    same-restarts
    (λ d. by_test (λ (t : Bool). (if t then restart_of (get_or restarts (x * max_devices + d) no_restart) else None)
    ≡ (if t then restart_of (get_or row (x * max_devices + d) no_restart) else None)) (ltb d max_devices)
    (λ t. ap restart_of (f.outside (x * max_devices + d) (λ e k q. n (same_place x slot d e (ltb-true d max_devices t) k q).0)))
    (λ t. refl))

-- ---- the state with a newcomer's rows

-- The rows that are filled in by functions of their own.
pub record NewRows : Type 0 where
  pub passed : List ℕ
  pub device : List ℕ
  pub tag : List ℕ
  pub setting : List ℤ
  pub stage : List ℕ
  pub restarts : List ℤ

abbrev pub joined_rows : HubState → Routine → Joined → NewRows → HubState
joined_rows h q j new = record {
  devices = h.devices;
  pass_limit = h.pass_limit;
  next_id = h.next_id + 1;
  links = j.links;
  ids = set h.ids j.slot h.next_id;
  passed = new.passed;
  committed = set h.committed j.slot false;
  counts = set h.counts j.slot q.count;
  answered = set h.answered j.slot 0;
  due_then = h.due_then;
  device = new.device;
  tag = new.tag;
  setting = new.setting;
  stage = new.stage;
  restarts = new.restarts;
  settled_at = h.settled_at;
  up = h.up;
  mark = h.mark;
}

-- What the functions promised of them.
pub record Filled (h : HubState) (q : Routine) (j : Joined) (new : NewRows) : Type 0 where
  pub passes : PassesBehind h.passed j.links h.committed j.slot new.passed
  pub devices : Fills 0 h.device (j.slot * max_commands) q.count (λ i. (command_in q i).device) new.device
  pub tags : Fills 0 h.tag (j.slot * max_commands) q.count (λ i. (command_in q i).tag) new.tag
  pub settings : Fills (pos 0) h.setting (j.slot * max_commands) q.count (λ i. (command_in q i).setting) new.setting
  pub stages : Fills 0 h.stage (j.slot * max_commands) max_commands (λ i. to_do_code) new.stage
  pub no-restart : Fills no_restart h.restarts (j.slot * max_devices) max_devices (λ d. no_restart) new.restarts

-- The lengths of the rows that are stored to here.
pub record Long (h : HubState) (q : Routine) : Type 0 where
  pub ids : length h.ids ≡ max_sequence
  pub committed : length h.committed ≡ max_sequence
  pub counts : length h.counts ≡ max_sequence
  pub answered : length h.answered ≡ max_sequence
  pub commands : length q.commands ≡ max_commands

-- a routine passed
pass-is : (m : Member) → pass m ≡ with_passed (once_more m.committed m.passed) m
unfolding pass is_running
pass-is m =
    by_test (λ (t : Bool). with_passed (if not t then suc m.passed else m.passed) m ≡ with_passed (once_more t m.passed) m)
    m.committed (λ _. refl) (λ _. refl)

map_twice : (f : ℕ → Member) (l : List ℕ) → map (λ x. pass (f x)) l ≡ map pass (map f l)
map_twice f [] = refl
map_twice f (x ∷ l) = ap (λ (m : List Member). pass (f x) ∷ m) (map_twice f l)

-- ---- what is known of the place

each_mapped : {A : Type 0} (P : A → Type 0) (f : ℕ → A) (l : List ℕ) (x : ℕ) → Each P (map f l) → 1 ≤ count x l → P (f x)
each_mapped P f [] x e h = absurd (omega arith)
each_mapped P f (y ∷ l) x e h =
    by_eq x y
    (λ q. subst (λ (z : ℕ). P (f z)) (sym q) e.0)
    (λ n. each_mapped P f l x e.1 (omega (arith, same_other x y n)))

module _ (h : HubState) (q : Routine) (after : ℕ) (v : StateOk h) (ok : JoinOk h (commands_of q) after) where
  pub count_fits : q.count ≤ max_commands
  count_fits = omega (arith, ok.few, length-commands_of q)

  module _ (j : Joined) (a : Joins h.links after j) where
    abbrev slots_before : List ℕ
    slots_before = ahead_of_place after no_slot (slots_of h.links)

    abbrev slots_past : List ℕ
    slots_past = behind_place after no_slot (slots_of h.links)

    -- the taken slots are those before the newcomer and those past it
    parts : (x : ℕ) → count x (slots_of h.links) ≡ count x slots_before + count x slots_past
    parts x = ap (count x) (sym (through_past after no_slot (slots_of h.links))) ∙ count-append x slots_before slots_past

    behind-it : behind_slot j.links j.slot ≡ slots_past
    behind-it = (behind-joined h.links after j ok.place a).0

    pub can_fill : CanFill j.slot q
    can_fill = record { slot_fits = a.slot; few = count_fits }

    pub can_pass : CanPassBehind h.passed j.links h.committed j.slot
    unfolding member_at is_running
    can_pass =
        record {
          slot_fits = a.slot;
          walks = (behind-joined h.links after j ok.place a).1;
          apart = rw behind-it (omega (arith, parts j.slot, a.fresh));
          room = λ x i e. each_mapped CanPass (member_at h) slots_past x ok.room_to_pass (rw behind-it at i) (rw e);
        }

    -- a taken slot is not the newcomer's
    off_slot : (x : ℕ) → Stands h.links x → x ≡ j.slot → ⊥
    off_slot x t e =
        let i : 1 ≤ count j.slot (slots_of h.links) = subst (λ (y : ℕ). 1 ≤ count y (slots_of h.links)) e t in
        omega (arith, a.fresh)

    module _ (new : NewRows) (f : Filled h q j new) (l : Long h q) where
      abbrev now : HubState
      now = joined_rows h q j new

      -- ---- the newcomer

      abbrev cs : List Command
      cs = commands_of q

      steps_new : steps_at now j.slot ≡ map step_of cs
      unfolding steps_at
      steps_new =
          let i = a.slot in
          let n = count_fits in
          rw (get_or-set_same h.counts j.slot q.count 0 (omega (arith, l.counts)))
          (new_steps (rows_of now) _ q.commands (j.slot * max_commands) q.count (omega (arith, l.commands))
          (λ y k. step_new (rows_of now) _ (j.slot * max_commands + y) (command_in q y) (f.devices.inside y k) (f.tags.inside y k)
          (f.settings.inside y k) (f.stages.inside y (omega arith)))
          ∙ ap (map step_of) (sym (commands_of-held q (omega (arith, l.commands)))))

      member_new : member_at now j.slot ≡ newcomer h.next_id cs
      unfolding member_at newcomer
      member_new =
          let i = a.slot in
          let e : get_or now.ids j.slot 0 ≡ h.next_id = get_or-set_same h.ids j.slot h.next_id 0 (omega (arith, l.ids)) in
          let c : get_or now.committed j.slot false ≡ false =
          get_or-set_same h.committed j.slot false false (omega (arith, l.committed)) in
          let r = no_restarts h.restarts new.restarts j.slot f.no-restart in
          λ p. record { id = e p; steps = steps_new p; passed = f.passes.newcomer p; committed = c p; restarts = r p }

      -- ---- the others

      steps_stay : (x : ℕ) → Stands h.links x → steps_at now x ≡ steps_at h x
      unfolding steps_at
      steps_stay x t =
          let n = off_slot x t in
          let m = counts_most h x v t in
          let b = count_fits in
          rw (get_or-set_other h.counts j.slot x q.count 0 n)
          (steps_other (rows_of h) (rows_of now) _ _ (x * max_commands) (get_or h.counts x 0)
          (λ y c d. let off : (i : ℕ) → i < max_commands → y ≡ j.slot * max_commands + i → ⊥ = λ i k e. n (omega arith) in
          step_same (rows_of h) (rows_of now) _ y
          (f.devices.outside y (λ i k. off i (omega arith)))
          (f.tags.outside y (λ i k. off i (omega arith)))
          (f.settings.outside y (λ i k. off i (omega arith)))
          (f.stages.outside y off)))

      member_stays : (x : ℕ) → Stands h.links x → member_at now x ≡ with_passed (get_or new.passed x 0) (member_at h x)
      unfolding member_at
      member_stays x t =
          let n = off_slot x t in
          let e = get_or-set_other h.ids j.slot x h.next_id 0 n in
          let c = get_or-set_other h.committed j.slot x false false n in
          let s = steps_stay x t in
          let r = other_restarts h.restarts new.restarts j.slot x f.no-restart n in
          λ p. record { id = e p; steps = s p; passed = get_or new.passed x 0; committed = c p; restarts = r p }

      member_before : (x : ℕ) → 1 ≤ count x slots_before → member_at now x ≡ member_at h x
      unfolding member_at
      member_before x i =
          let t : Stands h.links x = omega (arith, parts x) in
          let z : count x (behind_slot j.links j.slot) ≡ 0 =
          rw behind-it (omega (arith, parts x, once-taken h.links x v.links_ok)) in
          member_stays x t ∙ ap (λ (n : ℕ). with_passed n (member_at h x)) (f.passes.others x (off_slot x t) z)

      member_past : (x : ℕ) → 1 ≤ count x slots_past → member_at now x ≡ pass (member_at h x)
      member_past x i =
          let t : Stands h.links x = omega (arith, parts x) in
          let b : 1 ≤ count x (behind_slot j.links j.slot) = rw behind-it i in
          let e : get_or new.passed x 0 ≡ once_more (member_at h x).committed (member_at h x).passed
          = f.passes.behind x b ∙ (λ p. once_more (sym (member_committed h x) p) (sym (member_passed h x) p)) in
          member_stays x t ∙ ap (λ (n : ℕ). with_passed n (member_at h x)) e ∙ sym (pass-is (member_at h x))

      -- ---- the sequence and the state

      members_now : members_of now ≡ map (member_at h) slots_before ++ (newcomer h.next_id cs ∷ map pass (map (member_at h) slots_past))
      unfolding members_of
      members_now =
          let b = map_same (member_at now) (member_at h) slots_before member_before in
          let p = map_same (member_at now) (λ x. pass (member_at h x)) slots_past member_past ∙ map_twice (member_at h) slots_past in
          ap (map (member_at now)) (a.slots ∙ placed_split after j.slot no_slot (slots_of h.links) ok.place)
          ∙ map-append (member_at now) slots_before (j.slot ∷ slots_past)
          ∙ (λ i. b i ++ (member_new i ∷ p i))

      state_now : state_of now ≡ joined_behind h cs after
      unfolding state_of joined_behind
      state_now =
          let e : h.next_id + 1 ≡ suc h.next_id = omega arith in
          λ i. record {
            devices = h.devices;
            pass_limit = h.pass_limit;
            next_id = e i;
            sequence = members_now i;
            settled_at = (state_of h).settled_at;
            up = (state_of h).up;
            mark = (state_of h).mark;
          }

      -- ---- validity

      slot_new : SlotOk now j.slot
      slot_new =
          let i = a.slot in
          let g : get_or now.answered j.slot 0 ≡ 0 = get_or-set_same h.answered j.slot 0 0 (omega (arith, l.answered)) in
          record {
            fits = rw (get_or-set_same h.counts j.slot q.count 0 (omega (arith, l.counts))) count_fits;
            devices_fit = rw steps_new (new_fit cs ok.devices_fit);
            come_so_far = rw (steps_new, g) (new_upto cs);
            has-id = rw (get_or-set_same h.ids j.slot h.next_id 0 (omega (arith, l.ids))) v.some_id;
          }

      slot_stays : (x : ℕ) → Stands h.links x → SlotOk now x
      slot_stays x t =
          let n = off_slot x t in
          let w = v.slots_ok x t in
          record {
            fits = rw (get_or-set_other h.counts j.slot x q.count 0 n) w.fits;
            devices_fit = rw (steps_stay x t) w.devices_fit;
            come_so_far = rw (steps_stay x t, get_or-set_other h.answered j.slot x 0 0 n) w.come_so_far;
            has-id = rw (get_or-set_other h.ids j.slot x h.next_id 0 n) w.has-id;
          }

      -- a slot that is taken now was taken, or is the newcomer's
      stood : (x : ℕ) → Stands j.links x → (x ≡ j.slot → ⊥) → Stands h.links x
      stood x t n =
          let c : count x (slots_of j.links) ≡ same x j.slot + count x (slots_of h.links)
          = ap (count x) a.slots ∙ count-placed after j.slot x no_slot (slots_of h.links) ok.place in
          omega (arith, same_other x j.slot n)

      slot_now : (x : ℕ) → Stands j.links x → SlotOk now x
      slot_now x t =
          by_eq x j.slot
          (λ e. subst (SlotOk now) (sym e) slot_new)
          (λ n. slot_stays x (stood x t n))

      -- the newcomer has the next id, which is above all others
      id_new : (x : ℕ) → x ≡ j.slot → get_or now.ids x 0 ≡ h.next_id
      id_new x e = let i = a.slot in rw e (get_or-set_same h.ids j.slot h.next_id 0 (omega (arith, l.ids)))

      id_stays : (x : ℕ) → (x ≡ j.slot → ⊥) → get_or now.ids x 0 ≡ get_or h.ids x 0
      id_stays x n = get_or-set_other h.ids j.slot x h.next_id 0 n

      id_under : (x : ℕ) → Stands j.links x → (x ≡ j.slot → ⊥) → get_or now.ids x 0 < h.next_id
      id_under x t n = rw (id_stays x n) (v.ids_below x (stood x t n))

      below_now : (x : ℕ) → Stands j.links x → get_or now.ids x 0 < now.next_id
      below_now x t = by_eq x j.slot (λ e. omega (arith, id_new x e)) (λ n. omega (arith, id_under x t n))

      differ_now : (x y : ℕ) → Stands j.links x → Stands j.links y → get_or now.ids x 0 ≡ get_or now.ids y 0 → x ≡ y
      differ_now x y t u q =
          by_eq x j.slot
          (λ e. by_eq y j.slot (λ k. e ∙ sym k) (λ n. absurd (omega (arith, id_new x e, id_under y u n))))
          (λ m. by_eq y j.slot
          (λ k. absurd (omega (arith, id_new y k, id_under x t m)))
          (λ n. v.ids_differ x y (stood x t m) (stood y u n) (sym (id_stays x m) ∙ q ∙ id_stays y n)))

      valid_now : StateOk now
      valid_now =
          record {
            devices_fit = v.devices_fit;
            some_id = omega arith;
            ids_fit = omega (arith, ok.id_left);
            links_ok = a.valid;
            slots_ok = slot_now;
            ids_below = below_now;
            ids_differ = differ_now;
          }

      pub join_places : Places h cs after now
      join_places =
          record {
            valid = valid_now;
            gives = state_now;
            links = subst (λ (s : ℕ). Joins h.links after (record { links = j.links; slot = s })) a.slot_is a;
            it = subst (λ (s : ℕ). member_at now s ≡ newcomer h.next_id cs) a.slot_is member_new;
            others = λ x t. member_stays x t ∙ ap (λ (n : ℕ). with_passed n (member_at h x)) (sym (member_passed now x));
          }

-- ---- nobody else is moved

module _ (h : HubState) (cs : List Command) (after : ℕ) (r : HubState) (v : StateOk h) (k : StandsOrNone h.links after)
    (p : Places h cs after r)
  where
    abbrev joined : Joined
    joined = record { links = r.links; slot = h.links.free }

    stays_same : (x : ℕ) → Stands h.links x → SameRoutine (member_at h x) (member_at r x)
    stays_same x t = let e = p.others x t in
        record { same_id = ap (λ (m : Member). m.id) e; same_commands = ap (λ (m : Member). commands_in m.steps) e }

    -- who is taken now and was not is the newcomer
    is_new : (x : ℕ) → Stands r.links x → (Stands h.links x → ⊥) → member_at r x ≡ newcomer h.next_id cs
    is_new x t n =
        by_eq x h.links.free
        (λ e. ap (member_at r) e ∙ p.it)
        (λ m. absurd (n (taken_or_new h.links after joined k p.links x t m)))

    new_id : (x : ℕ) → Stands r.links x → (Stands h.links x → ⊥) → (member_at r x).id ≡ h.next_id
    unfolding newcomer
    new_id x t n = ap (λ (m : Member). m.id) (is_new x t n)

    pub places_run : JoinedRun h r
    unfolding newcomer
    places_run x t n = ap (λ (m : Member). m.committed) (is_new x t n)

    -- the newcomer's id is above all others
    places_slot : (x y : ℕ) → Stands h.links x → Stands r.links y → (member_at r y).id ≡ (member_at h x).id → x ≡ y
    places_slot x y t u e =
        by_stands h.links y
        (λ s. v.ids_differ x y t s (sym (member_id h x) ∙ sym e ∙ (stays_same y s).same_id ∙ member_id h y))
        (λ n. absurd (omega (arith, new_id y u n, e, member_id h x, v.ids_below x t)))

    pub places_unmoved : Unmoved h r
    places_unmoved =
        record {
          same_slot = places_slot;
          same_routine = λ x t _. stays_same x t;
          links = joins_stay h.links after joined k p.links;
        }
