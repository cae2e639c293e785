-- The hub that an abort leaves, read off the rows as they are: its due settings are those with the routine's commands left out, and its
-- commands in flight are those of the others. Assumes nothing.
use Rattle.std.proofs.Common.{Option, None, Some}
use mathlib.Core.Path.{◌≡◌, refl, sym, ap, subst, ◌∙◌, fun_ext}
use mathlib.Core.Bool.{Bool, ◌||◌}
use mathlib.Core.List.{List, [], ◌∷◌, ◌++◌, map, map-append}
use Prim.Native.Nat.{ℕ, ◌+◌, ◌≤◌}
use native.Mathlib.Omega.{arith}
use borrow.Author.Tests.{eq-eqb, ne_eqb}
use lib.Dec.{eqb}
use lib.IntN.{ℤ}
use Rattle.std.specs.Prelude.{if◌then◌else◌}
use Rattle.rules_routine.proofs.RoutineLaws.{by_test}
use Rattle.rules.specs.Tables.{any_of}
use Rattle.rules.specs.State.{Member, State}
use Rattle.rules.specs.Sequence.{Found, last_id_or}
use Rattle.rules.specs.Progress.{in_flight_on}
use Rattle.rules.specs.Due.{after_restart, after_member, after_members, due}
use Rattle.rules.specs.Attach.{later, attach_to, attach_at, settle_restarts, attach}
use Rattle.rules.specs.Abort.{leave}
use Rattle.rules.proofs.Lists.{members_after_++}
use Rattle.hub_sequence.specs.Lists.{count, up_to, rest, last_or}
use Rattle.hub_sequence.specs.Links.{slots_of, Stands}
use Rattle.hub_sequence.proofs.Lists.{same_self, count-append, slots_around, off_up_to, off_rest}
use Rattle.hub_sequence.proofs.ReadLaws.{once-taken}
use Rattle.hub_state.specs.View.{settings_of, member_at, state_of, there}
use Rattle.hub_state.specs.Valid.{StateOk}
use Rattle.hub_state.specs.declared.HubState.{HubState}
use Rattle.hub_state.proofs.Members.{state-settled, member_id, there_left, map_same, last_id, last_in}
use Rattle.hub_due.specs.Contract.{members_without, none_done, due_without}

-- ---- commands in flight: attaching events changes no commands

flights_attached : (d i : ℕ) (e : ℕ → Option ℤ) (l : List Member) → any_of (in_flight_on d) (attach_at i e l) ≡ any_of (in_flight_on d) l
unfolding in_flight_on attach_to
flights_attached d i e [] = refl
flights_attached d i e (m ∷ l) =
    by_test (λ (t : Bool). any_of (in_flight_on d) (if t then attach_to e m ∷ l else m ∷ attach_at i e l) ≡ any_of (in_flight_on d) (m ∷ l))
    (eqb m.id i)
    (λ _. refl)
    (λ _. ap (λ (k : Bool). in_flight_on d m || k) (flights_attached d i e l))

flights_left : (s : State) (f : Found) (d : ℕ) → any_of (in_flight_on d) (leave s f).sequence ≡ any_of (in_flight_on d) (f.ahead ++ f.behind)
unfolding leave attach
flights_left s f d =
    let i = last_id_or 0 f.ahead in
    let l = f.ahead ++ f.behind in
    by_test (λ (t : Bool). any_of (in_flight_on d) (if t then l else attach_at i f.it.restarts l) ≡ any_of (in_flight_on d) l)
    (eqb i 0)
    (λ _. refl)
    (λ _. flights_attached d i f.it.restarts l)

pub left_flights : (h : HubState) (x : ℕ) → StateOk h → Stands h.links x →
    ◌≡◌ {A = ℕ → Bool} (λ d. any_of (in_flight_on d) (members_without h x))
    (λ d. any_of (in_flight_on d) (leave (state_of h) (there h x)).sequence)
unfolding members_without
left_flights h x v s =
    fun_ext (λ d. ap (any_of (in_flight_on d)) (there_left h x v s) ∙ sym (flights_left (state_of h) (there h x) d))

-- ---- due settings: the routine's events go to the last of those ahead of it

-- the last of these has an id that none before it has
abbrev LastAlone : Member → List Member → Type 0
LastAlone m [] = Unit {0}
LastAlone m (n ∷ l) = (m.id ≡ last_id_or n.id l → ⊥) × LastAlone n l

-- and it is not 0, which is the settled part
abbrev AheadOk : List Member → Type 0
AheadOk [] = Unit {0}
AheadOk (m ∷ l) = (last_id_or m.id l ≡ 0 → ⊥) × LastAlone m l

module _ (d : ℕ) (e : ℕ → Option ℤ) where
  after-later : (o : Option ℤ) (v : ℤ) → after_restart (later o (e d)) v ≡ after_restart (e d) (after_restart o v)
  after-later o v = go (e d)
    where
      go : (p : Option ℤ) → after_restart (later o p) v ≡ after_restart p (after_restart o v)
      go None = refl
      go (Some w) = refl

  after_attached : (m : Member) (v : ℤ) → after_member d (attach_to e m) v ≡ after_restart (e d) (after_member d m v)
  unfolding after_member attach_to
  after_attached m v = after-later (m.restarts d) _

  -- attached to the id of the last of them, with others behind
  due-last : (m : Member) (l b : List Member) (v : ℤ) → LastAlone m l →
      after_members d (attach_at (last_id_or m.id l) e (m ∷ (l ++ b))) v
      ≡ after_members d b (after_restart (e d) (after_members d (m ∷ l) v))
  due-last m [] b v k = rw (eq-eqb m.id m.id refl) (ap (after_members d b) (after_attached m v))
  due-last m (n ∷ l) b v k = rw (ne_eqb m.id (last_id_or n.id l) k.0) (due-last n l b (after_member d m v) k.1)

  due_attached : (a b : List Member) (settled : ℕ → ℤ) → AheadOk a →
      after_members d (if eqb (last_id_or 0 a) 0 then a ++ b else attach_at (last_id_or 0 a) e (a ++ b))
      ((if eqb (last_id_or 0 a) 0 then settle_restarts e settled else settled) d)
      ≡ after_members d b (after_restart (e d) (after_members d a (settled d)))
  unfolding settle_restarts
  due_attached [] b settled k = refl
  due_attached (m ∷ l) b settled k = rw (ne_eqb (last_id_or m.id l) 0 k.0) (due-last m l b (settled d) k.1)

due_left : (s : State) (f : Found) (d : ℕ) → AheadOk f.ahead →
    due (leave s f) d ≡ after_members d f.behind (after_restart (f.it.restarts d) (after_members d f.ahead (s.settled_at d)))
unfolding due leave attach
due_left s f d k = due_attached d f.it.restarts f.ahead f.behind s.settled_at k

-- ---- those ahead of it in their slots

module _ (h : HubState) (v : StateOk h) where
  -- taken slots, each once
  abbrev TakenOnce : List ℕ → Type 0
  TakenOnce l = (w : ℕ) → (count w l ≤ 1) × (1 ≤ count w l → Stands h.links w)

  last_alone : (y : ℕ) (l : List ℕ) → TakenOnce (y ∷ l) → LastAlone (member_at h y) (map (member_at h) l)
  last_alone y [] k = tt
  last_alone y (z ∷ l) k = (other, last_alone z l (λ w. (omega (arith, (k w).0), λ i. (k w).1 (omega (arith, i)))))
    where
      other : (member_at h y).id ≡ last_id_or (member_at h z).id (map (member_at h) l) → ⊥
      other e =
          let a = last_or z l in
          let i = last_in z l in
          let q : y ≡ a
          = v.ids_differ y a ((k y).1 (omega (arith, same_self y))) ((k a).1 (omega (arith, i)))
          (sym (member_id h y) ∙ e ∙ sym (last_id h z l)) in
          let c : 1 ≤ count y (z ∷ l) = subst (λ (w : ℕ). 1 ≤ count w (z ∷ l)) (sym q) i in
          omega (arith, c, same_self y, (k y).0)

  ahead_ok : (l : List ℕ) → TakenOnce l → AheadOk (map (member_at h) l)
  ahead_ok [] k = tt
  ahead_ok (y ∷ l) k = (some_id, last_alone y l k)
    where
      some_id : last_id_or (member_at h y).id (map (member_at h) l) ≡ 0 → ⊥
      some_id e =
          let i = (v.slots_ok (last_or y l) ((k (last_or y l)).1 (last_in y l))).has-id in
          omega (arith, i, last_id h y l, e)

module _ (h : HubState) (x : ℕ) (v : StateOk h) (s : Stands h.links x) where
  abbrev slots_ahead : List ℕ
  slots_ahead = up_to x (slots_of h.links)

  abbrev slots_behind : List ℕ
  slots_behind = rest x (slots_of h.links)

  ahead-taken : TakenOnce h v slots_ahead
  ahead-taken w =
      let e : count w (slots_of h.links) ≡ count w slots_ahead + count w (x ∷ slots_behind)
      = ap (count w) (slots_around x (slots_of h.links) s) ∙ count-append w slots_ahead (x ∷ slots_behind) in
      (omega (arith, e, once-taken h.links w v.links_ok), λ i. omega (arith, e, i))

  -- each as it is, but the one in the slot without its commands
  abbrev but : ℕ → Member
  but y = if eqb y x then none_done (member_at h y) else member_at h y

  but_here : but x ≡ none_done (member_at h x)
  but_here = rw (eq-eqb x x refl)

  but_off : (l : List ℕ) → count x l ≡ 0 → map but l ≡ map (member_at h) l
  but_off l z = map_same but (member_at h) l
      (λ y i. rw (ne_eqb y x (λ e. let k : 1 ≤ count x l = subst (λ (w : ℕ). 1 ≤ count w l) e i in omega (arith, k, z))))

  but_whole : map but (slots_of h.links) ≡ map (member_at h) slots_ahead ++ (none_done (member_at h x) ∷ map (member_at h) slots_behind)
  but_whole =
      ap (map but) (slots_around x (slots_of h.links) s)
      ∙ map-append but slots_ahead (x ∷ slots_behind)
      ∙ (λ i. but_off slots_ahead (off_up_to x (slots_of h.links)) i
      ++ (but_here i ∷ but_off slots_behind (off_rest x (slots_of h.links) (once-taken h.links x v.links_ok)) i))

  -- what a device is due after those ahead of it, its events and those behind it, v before them
  abbrev due_around : ℕ → ℤ → ℤ
  due_around d v =
      after_members d (map (member_at h) slots_behind)
      (after_restart ((member_at h x).restarts d) (after_members d (map (member_at h) slots_ahead) v))

  due_but : (d : ℕ) → due_without h (Some x) d ≡ due_around d (settings_of h.settled_at d)
  unfolding due_without after_member
  due_but d =
      let v = settings_of h.settled_at d in
      ap (λ (l : List Member). after_members d l v) but_whole
      ∙ members_after_++ d (map (member_at h) slots_ahead) (none_done (member_at h x) ∷ map (member_at h) slots_behind) v

  pub left_due : due_without h (Some x) ≡ due (leave (state_of h) (there h x))
  unfolding there
  left_due =
      fun_ext
      (λ d. due_but d
      ∙ ap (λ (t : ℕ → ℤ). due_around d (t d)) (sym (state-settled h))
      ∙ sym (due_left (state_of h) (there h x) d (ahead_ok h v slots_ahead ahead-taken)))
