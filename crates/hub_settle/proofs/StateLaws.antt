-- The state with other links and other tables, and restarts attached to an id of it. Assumes nothing.
use Rattle.std.proofs.Common.{Option, None, Some}
use mathlib.Core.Path.{◌≡◌, refl, sym, ap, ◌∙◌, fun_ext}
use mathlib.Core.Bool.{Bool, true, false}
use mathlib.Core.List.{List, [], ◌∷◌, ◌++◌}
use Prim.Native.Nat.{ℕ, ◌<◌}
use borrow.Author.Tests.{eq-eqb, ne_eqb}
use lib.Dec.{eqb}
use lib.IntN.{ℤ, pos}
use lib.ListN.{length, get_or, set}
use lib.Seq.{get_or-set_same, get_or-set_other}
use Rattle.std.specs.Prelude.{if◌then◌else◌}
use Rattle.rules_routine.proofs.RoutineLaws.{by_test}
use Rattle.rules.specs.State.{Member, State}
use Rattle.rules.specs.Tables.{put}
use Rattle.rules.specs.Sequence.{Found, find, onto, with_sequence, with_settled, with_up}
use Rattle.rules.specs.Attach.{one_restart, later, attach_to, attach_at, settle_restarts, attach}
use Rattle.hub_sequence.specs.Links.{LinksOk, Stands}
use Rattle.hub_sequence.specs.declared.Links.{Links}
use Rattle.hub_sequence.proofs.Tables.{by_eq}
use Rattle.hub_state.specs.View.{settings_of, steps_at, restarts_at, member_at, members_of, state_of, there}
use Rattle.hub_state.specs.Valid.{StateOk}
use Rattle.hub_state.specs.Unmoved.{InPlace}
use Rattle.hub_state.specs.declared.HubState.{HubState}
use Rattle.hub_state.proofs.Members.{there-it, changed_slot}
use Rattle.hub_due.proofs.Tables.{set-put}
use Rattle.hub_search.specs.Contract.{has_id, Finds}
use Rattle.hub_settle.proofs.RestartLaws.{Attaches}

-- ---- the state with other links and tables: the commands stay

abbrev pub tables_in : HubState → Links → List ℤ → List ℤ → List Bool → List ℕ → HubState
tables_in h links restarts settled up mark = record {
  devices = h.devices;
  pass_limit = h.pass_limit;
  next_id = h.next_id;
  links = links;
  ids = h.ids;
  passed = h.passed;
  committed = h.committed;
  counts = h.counts;
  answered = h.answered;
  due_then = h.due_then;
  device = h.device;
  tag = h.tag;
  setting = h.setting;
  stage = h.stage;
  restarts = restarts;
  settled_at = settled;
  up = up;
  mark = mark;
}

module _ (h : HubState) (restarts settled : List ℤ) (up : List Bool) (mark : List ℕ) (v : StateOk h) where
  pub valid-linked : (k : Links) → LinksOk k → ((x : ℕ) → Stands k x → Stands h.links x) →
      StateOk (tables_in h k restarts settled up mark)
  unfolding steps_at
  valid-linked k ok s = record {
    devices_fit = v.devices_fit;
    some_id = v.some_id;
    ids_fit = v.ids_fit;
    links_ok = ok;
    slots_ok = λ x t. let o = v.slots_ok x (s x t) in
        record { fits = o.fits; devices_fit = o.devices_fit; come_so_far = o.come_so_far; has-id = o.has-id };
    ids_below = λ x t. v.ids_below x (s x t);
    ids_differ = λ x y t u. v.ids_differ x y (s x t) (s y u);
  }

  pub valid_tables : StateOk (tables_in h h.links restarts settled up mark)
  valid_tables = valid-linked h.links v.links_ok (λ x s. s)

-- every routine is where it was
pub tables_in_place : (h : HubState) (restarts settled : List ℤ) (up : List Bool) (mark : List ℕ) →
    InPlace h (tables_in h h.links restarts settled up mark)
unfolding member_at steps_at
tables_in_place h restarts settled up mark = record { links = refl; routines = λ x _. record { same_id = refl; same_commands = refl } }

-- a device becomes up or down
module _ (h : HubState) (d : ℕ) (b : Bool) (l : d < length h.up) where
  pub up-gives : state_of (tables_in h h.links h.restarts h.settled_at (set h.up d b) h.mark) ≡ with_up (state_of h)
      (put (state_of h).up d b)
  unfolding state_of members_of member_at steps_at
  up-gives = ap (with_up (state_of h)) (fun_ext (set-put h.up d b true l))

  pub up-there : there (tables_in h h.links h.restarts h.settled_at (set h.up d b) h.mark) ≡ there h
  unfolding there member_at steps_at
  up-there = refl

-- ---- restarts attached to an id: to the settled part, or to a routine

module _ (id : ℕ) (e : ℕ → Option ℤ) (s : State) where
  pub attach_zero : id ≡ 0 → attach id e s ≡ with_settled s (settle_restarts e s.settled_at)
  unfolding attach
  attach_zero z =
      ap (λ (b : Bool). with_settled (with_sequence s (if b then s.sequence else attach_at id e s.sequence))
      (if b then settle_restarts e s.settled_at else s.settled_at))
      (eq-eqb id 0 z)

  pub attach-routine : (id ≡ 0 → ⊥) → attach id e s ≡ with_sequence s (attach_at id e s.sequence)
  unfolding attach
  attach-routine n =
      ap (λ (b : Bool). with_settled (with_sequence s (if b then s.sequence else attach_at id e s.sequence))
      (if b then settle_restarts e s.settled_at else s.settled_at))
      (ne_eqb id 0 n)

-- the routine of a slot, if the restarts go to x
abbrev pub attached_in : HubState → ℕ → (ℕ → Option ℤ) → ℕ → Member
attached_in h x e y = if eqb y x then attach_to e (member_at h y) else member_at h y

-- every routine, where the restarts stand in the row
module _ (h : HubState) (k : Links) (row settled : List ℤ) (up : List Bool) (mark : List ℕ) (x : ℕ) (e : ℕ → Option ℤ)
    (a : Attaches h.restarts x e row)
  where
    pub attached_it : member_at (tables_in h k row settled up mark) x ≡ attach_to e (member_at h x)
    unfolding member_at steps_at attach_to
    attached_it = λ i. record {
      id = get_or h.ids x 0;
      steps = steps_at h x;
      passed = get_or h.passed x 0;
      committed = get_or h.committed x false;
      restarts = fun_ext here i;
    }
      where
        here : (d : ℕ) → restarts_at row x d ≡ later (restarts_at h.restarts x d) (e d)
        here d = a x d
            ∙ ap (λ (t : Bool). if t then later (restarts_at h.restarts x d) (e d) else restarts_at h.restarts x d) (eq-eqb x x refl)

    pub attached_others : (y : ℕ) → (y ≡ x → ⊥) → member_at (tables_in h k row settled up mark) y ≡ member_at h y
    unfolding member_at steps_at
    attached_others y n = λ i. record {
      id = get_or h.ids y 0;
      steps = steps_at h y;
      passed = get_or h.passed y 0;
      committed = get_or h.committed y false;
      restarts = fun_ext there_still i;
    }
      where
        there_still : (d : ℕ) → restarts_at row y d ≡ restarts_at h.restarts y d
        there_still d = a y d
            ∙ ap (λ (t : Bool). if t then later (restarts_at h.restarts x d) (e d) else restarts_at h.restarts y d) (ne_eqb y x n)

    pub attached_each : (y : ℕ) → member_at (tables_in h k row settled up mark) y ≡ attached_in h x e y
    attached_each y =
        by_eq y x
        (λ q. rw (eq-eqb y x q, q) attached_it)
        (λ n. rw (ne_eqb y x n) (attached_others y n))

-- ---- the routine that is found

abbrev attached_to : (ℕ → Option ℤ) → List Member → Option Found → List Member
attached_to e l None = l
attached_to e l (Some f) = f.ahead ++ (attach_to e f.it ∷ f.behind)

attach-found : (i : ℕ) (e : ℕ → Option ℤ) (l : List Member) → attach_at i e l ≡ attached_to e l (find (has_id i) l)
attach-found i e [] = refl
attach-found i e (m ∷ l) =
    by_test (λ (t : Bool). (if t then attach_to e m ∷ l else m ∷ attach_at i e l) ≡ attached_to e (m ∷ l)
    (if t then Some (record { ahead = []; it = m; behind = l }) else onto m (find (has_id i) l)))
    (eqb m.id i)
    (λ _. refl)
    (λ _. ap (λ (k : List Member). m ∷ k) (attach-found i e l) ∙ sym (behind (find (has_id i) l)))
  where
    behind : (o : Option Found) → attached_to e (m ∷ l) (onto m o) ≡ m ∷ attached_to e l o
    behind None = refl
    behind (Some f) = refl

module _ (h : HubState) (id : ℕ) (e : ℕ → Option ℤ) where
  pub attach-settled : (table : List ℤ) → id ≡ 0 → settings_of table ≡ settle_restarts e (settings_of h.settled_at) →
      state_of (tables_in h h.links h.restarts table h.up h.mark) ≡ attach id e (state_of h)
  unfolding state_of members_of member_at steps_at
  attach-settled table z t = ap (with_settled (state_of h)) t ∙ sym (attach_zero id e (state_of h) z)

  pub attach_nowhere : (id ≡ 0 → ⊥) → Finds h (has_id id) None → state_of h ≡ attach id e (state_of h)
  attach_nowhere n f =
      let l = (state_of h).sequence in
      let a : attach_at id e l ≡ l = attach-found id e l ∙ ap (attached_to e l) (sym f.found) in
      sym (attach-routine id e (state_of h) n ∙ ap (with_sequence (state_of h)) a)

  pub attach-at : (row : List ℤ) (x : ℕ) → Attaches h.restarts x e row → (id ≡ 0 → ⊥) → StateOk h → Finds h (has_id id) (Some x) →
      state_of (tables_in h h.links row h.settled_at h.up h.mark) ≡ attach id e (state_of h)
  unfolding state_of
  attach-at row x a n v f =
      let r = tables_in h h.links row h.settled_at h.up h.mark in
      let l = (state_of h).sequence in
      let it : member_at r x ≡ attach_to e (there h x).it
      = attached_it h h.links row h.settled_at h.up h.mark x e a ∙ ap (attach_to e) (sym (there-it h x)) in
      let m : members_of r ≡ (there h x).ahead ++ (attach_to e (there h x).it ∷ (there h x).behind)
      = changed_slot h r x (attach_to e (there h x).it) v f.place_ok refl it
      (attached_others h h.links row h.settled_at h.up h.mark x e a) in
      let k : attach_at id e l ≡ (there h x).ahead ++ (attach_to e (there h x).it ∷ (there h x).behind)
      = attach-found id e l ∙ ap (attached_to e l) (sym f.found) in
      ap (with_sequence (state_of h)) (m ∙ sym k) ∙ sym (attach-routine id e (state_of h) n)

-- one restart, to the settled part
pub settles-one : (l : List ℤ) (d : ℕ) (v : ℤ) → d < length l → settings_of (set l d v) ≡ settle_restarts (one_restart d v) (settings_of l)
unfolding settle_restarts one_restart
settles-one l d v h =
    fun_ext
    (λ e. by_eq e d
    (λ q. rw (eq-eqb e d q, q) (get_or-set_same l d v (pos 0) h))
    (λ n. rw (ne_eqb e d n) (get_or-set_other l d e v (pos 0) n)))
