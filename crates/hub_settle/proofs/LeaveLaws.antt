-- A routine leaves the sequence. Assumes nothing.
use Rattle.std.proofs.Common.{Option}
use mathlib.Core.Path.{◌≡◌, refl, sym, ap, subst, ◌∙◌, fun_ext}
use mathlib.Core.Bool.{Bool, true, false}
use mathlib.Core.List.{List, [], ◌∷◌, ◌++◌, map}
use Prim.Native.Nat.{ℕ, ◌+◌, ◌≤◌, ◌<◌}
use native.Mathlib.Omega.{arith}
use borrow.Author.Tests.{eq-eqb, ne_eqb}
use lib.Dec.{eqb}
use lib.IntN.{ℤ}
use lib.ListN.{get_or}
use Rattle.std.specs.Prelude.{if◌then◌else◌}
use Rattle.rules_routine.specs.Limits.{max_sequence}
use Rattle.rules.specs.State.{Member, State}
use Rattle.rules.specs.Sequence.{last_id_or, with_sequence, with_settled, with_mark, move_marks}
use Rattle.rules.specs.Attach.{attach_to, attach_at, settle_restarts, attach}
use Rattle.rules.specs.Abort.{leave}
use Rattle.hub_sequence.specs.Lists.{count, without, up_to, rest, last_or}
use Rattle.hub_sequence.specs.Links.{none, ahead_of, slots_of, Stands}
use Rattle.hub_sequence.specs.Contract.{Leaves}
use Rattle.hub_sequence.specs.declared.Links.{Links}
use Rattle.hub_sequence.proofs.Tables.{by_eq}
use Rattle.hub_sequence.proofs.Lists.{same_self, same_eq, same_other, count-without, count-append, slots_around, off_up_to}
use Rattle.hub_sequence.proofs.StayLaws.{stood}
use Rattle.hub_sequence.proofs.ReadLaws.{once-taken, stands-slot, ahead-last, ahead_row}
use Rattle.hub_state.specs.View.{settings_of, marks_of, steps_at, restarts_at, member_at, members_of, state_of, there}
use Rattle.hub_state.specs.Valid.{StateOk}
use Rattle.hub_state.specs.Unmoved.{SameRoutine, OnlyLeave}
use Rattle.hub_state.specs.declared.HubState.{HubState}
use Rattle.hub_state.proofs.Members.{member_id, member_restarts, member_same, map_same, there_left, id_in_row, id-not_in_row, last_in}
use Rattle.hub_state.proofs.UnmovedLaws.{leaves_only}
use Rattle.hub_settle.specs.Contract.{LeavesHub, MovesRestarts}
use Rattle.hub_settle.proofs.StateLaws.{tables_in, valid-linked, attach_zero, attach-routine, attached_in, attached_each}

-- ---- the slot before it

-- b is the slot before it
module _ (h : HubState) (at : ℕ) (v : StateOk h) (s : Stands h.links at) (b : ℕ) (q : b ≡ get_or h.links.ahead at 0) where
  before_is : ahead_of h.links at ≡ b
  before_is = ahead_row h.links at v.links_ok s ∙ sym q

  before-ahead : b < max_sequence → 1 ≤ count b (up_to at (slots_of h.links))
  before-ahead i =
      let l = up_to at (slots_of h.links) in
      let e : last_or none l ≡ b = ahead-last h.links at v.links_ok s ∙ before_is in
      let c : 1 ≤ count b (none ∷ l) = subst (λ (x : ℕ). 1 ≤ count x (none ∷ l)) e (last_in none l) in
      omega (arith, c, same_other b none (λ w. omega arith))

  before_stands : b < max_sequence → Stands h.links b
  before_stands i =
      let l = slots_of h.links in
      let e : count b l ≡ count b (up_to at l) + count b (at ∷ rest at l)
      = ap (count b) (slots_around at l s) ∙ count-append b (up_to at l) (at ∷ rest at l) in
      omega (arith, before-ahead i, e)

  pub before_other : b < max_sequence → at ≡ b → ⊥
  before_other i e =
      let c : count at (up_to at (slots_of h.links)) ≡ count b (up_to at (slots_of h.links))
      = ap (λ (x : ℕ). count x (up_to at (slots_of h.links))) e in
      omega (arith, before-ahead i, c, off_up_to at (slots_of h.links))

-- ---- its events go there

module _ (h : HubState) (b : ℕ) (e : ℕ → Option ℤ) where
  -- the slot b is none of these
  attach-past : (l : List ℕ) → count b l ≡ 0 → map (attached_in h b e) l ≡ map (member_at h) l
  attach-past l c =
      map_same (attached_in h b e) (member_at h) l
      (λ z i. ap (λ (w : Bool). if w then attach_to e (member_at h z) else member_at h z)
      (ne_eqb z b (λ p. let j : 1 ≤ count b l = subst (λ (x : ℕ). 1 ≤ count x l) p i in omega arith)))

  -- it is the first of these
  attach-here : (y : ℕ) (l : List ℕ) → y ≡ b → count b l ≡ 0 →
      map (attached_in h b e) (y ∷ l) ≡ attach_at (get_or h.ids b 0) e (map (member_at h) (y ∷ l))
  attach-here y l q c =
      let t : eqb (member_at h y).id (get_or h.ids b 0) ≡ true
      = eq-eqb (member_at h y).id (get_or h.ids b 0) (member_id h y ∙ ap (λ (x : ℕ). get_or h.ids x 0) q) in
      rw (eq-eqb y b q, t) (ap (λ (k : List Member). attach_to e (member_at h y) ∷ k) (attach-past l c))

  -- the first of these is another
  attach-further : (y : ℕ) (l : List ℕ) → (y ≡ b → ⊥) → (get_or h.ids y 0 ≡ get_or h.ids b 0 → ⊥) →
      map (attached_in h b e) l ≡ attach_at (get_or h.ids b 0) e (map (member_at h) l) →
      map (attached_in h b e) (y ∷ l) ≡ attach_at (get_or h.ids b 0) e (map (member_at h) (y ∷ l))
  attach-further y l n d r =
      let t : eqb (member_at h y).id (get_or h.ids b 0) ≡ false
      = ne_eqb (member_at h y).id (get_or h.ids b 0) (λ p. d (sym (member_id h y) ∙ p)) in
      rw (ne_eqb y b n, t) (ap (λ (k : List Member). member_at h y ∷ k) r)

  -- the first with the id is the one in the slot b, since no other has its id
  attach-slots : (l : List ℕ) → ((y : ℕ) → 1 ≤ count y l → get_or h.ids y 0 ≡ get_or h.ids b 0 → y ≡ b) → count b l ≤ 1 →
      map (attached_in h b e) l ≡ attach_at (get_or h.ids b 0) e (map (member_at h) l)
  attach-slots [] o c = refl
  attach-slots (y ∷ l) o c =
      by_eq y b
      (λ q. attach-here y l q (omega (arith, same_eq b y (sym q))))
      (λ n. attach-further y l n (λ d. n (o y (omega (arith, same_self y)) d)) (attach-slots l (λ z i. o z (omega arith)) (omega arith)))

-- ---- the state without it

-- k: the links without it; mark: its marks are moved to the id `to`
module _ (h : HubState) (at : ℕ) (k : Links) (row table : List ℤ) (mark : List ℕ) (v : StateOk h) (s : Stands h.links at)
    (e : Leaves h.links at k) (b : ℕ) (q : b ≡ get_or h.links.ahead at 0) (to : ℕ)
    (m : marks_of mark ≡ move_marks (get_or h.ids at 0) to (marks_of h.mark))
  where
    abbrev gone : HubState
    gone = tables_in h k row table h.up mark

    -- its events
    abbrev events : ℕ → Option ℤ
    events = restarts_at h.restarts at

    gone_valid : StateOk gone
    gone_valid = valid-linked h row table h.up mark v k e.valid (stood h.links at k v.links_ok s e)

    -- the state before its events are attached
    abbrev moved : ℕ → State
    moved i = with_mark (with_sequence (state_of h) ((there h at).ahead ++ (there h at).behind))
        (move_marks (get_or h.ids at 0) i (state_of h).mark)

    moved_leaves : to ≡ last_id_or 0 (there h at).ahead → attach to events (moved to) ≡ leave (state_of h) (there h at)
    unfolding there member_at leave
    moved_leaves i = ap (λ (j : ℕ). attach j events (moved j)) i

    -- its events go to the one before it
    module _ (f : b < max_sequence) (i : to ≡ get_or h.ids b 0) (t : table ≡ h.settled_at)
        (a : MovesRestarts h.restarts at b row) where
      behind_each : (x : ℕ) → member_at gone x ≡ attached_in h b events x
      behind_each = attached_each h k row table h.up mark b events a

      behind-others : (x : ℕ) → attached_in h b events x ≡
          (if eqb x (ahead_of h.links at) then attach_to (member_at h at).restarts (member_at h x) else member_at h x)
      behind-others x =
          ap (λ (y : ℕ). attached_in h y events x) (sym (before_is h at v s b q))
          ∙ ap (λ (g : ℕ → Option ℤ). attached_in h (ahead_of h.links at) g x) (sym (member_restarts h at))

      -- no other has the id of the one before it
      differ : (y : ℕ) → 1 ≤ count y (without at (slots_of h.links)) → get_or h.ids y 0 ≡ get_or h.ids b 0 → y ≡ b
      differ y c = v.ids_differ y b (omega (arith, c, count-without at y (slots_of h.links) s)) (before_stands h at v s b q f)

      behind_members : members_of gone ≡ attach_at to events ((there h at).ahead ++ (there h at).behind)
      unfolding members_of
      behind_members =
          (λ j. map (fun_ext behind_each j) (e.slots j))
          ∙ attach-slots h b events (without at (slots_of h.links)) differ
          (omega (arith, count-without at b (slots_of h.links) s, once-taken h.links b v.links_ok))
          ∙ ap (λ (y : ℕ). attach_at y events (map (member_at h) (without at (slots_of h.links)))) (sym i)
          ∙ ap (attach_at to events) (there_left h at v s)

      behind-gives : state_of gone ≡ attach to events (moved to)
      unfolding state_of
      behind-gives =
          (λ j. with_settled (with_mark (with_sequence (state_of h) (behind_members j)) (m j)) (settings_of (t j)))
          ∙ sym (attach-routine to events (moved to) (λ z. omega (arith, z, i, (v.slots_ok b (before_stands h at v s b q f)).has-id)))

      pub leaves-behind : LeavesHub h at gone
      leaves-behind = record {
        valid = gone_valid;
        gives = behind-gives ∙ moved_leaves (i ∙ ap (λ (x : ℕ). get_or h.ids x 0) q ∙ id_in_row h at v s (rw q at f));
        links = e;
        others = λ x _ _. behind_each x ∙ behind-others x;
      }

    -- there is none before it: they join the settled part
    module _ (f : max_sequence ≤ b) (i : to ≡ 0) (t : settings_of table ≡ settle_restarts events (settings_of h.settled_at))
        (a : row ≡ h.restarts)
      where
        first_each : (x : ℕ) → member_at gone x ≡ member_at h x
        unfolding steps_at
        first_each x = member_same h gone x refl refl refl refl (ap (λ (l : List ℤ). restarts_at l x) a)

        first-others : (x : ℕ) → Stands h.links x → member_at h x ≡
            (if eqb x (ahead_of h.links at) then attach_to (member_at h at).restarts (member_at h x) else member_at h x)
        first-others x u =
            let j = stands-slot h.links x v.links_ok u in
            let c = before_is h at v s b q in
            sym (ap (λ (w : Bool). if w then attach_to (member_at h at).restarts (member_at h x) else member_at h x)
            (ne_eqb x (ahead_of h.links at) (λ p. omega (arith, j, c, f, p))))

        first_members : members_of gone ≡ (there h at).ahead ++ (there h at).behind
        unfolding members_of
        first_members = (λ j. map (fun_ext first_each j) (e.slots j)) ∙ there_left h at v s

        first_gives : state_of gone ≡ attach to events (moved to)
        unfolding state_of
        first_gives =
            (λ j. with_settled (with_mark (with_sequence (state_of h) (first_members j)) (m j)) (t j))
            ∙ sym (attach_zero to events (moved to) i)

        pub leaves-first : LeavesHub h at gone
        leaves-first = record {
          valid = gone_valid;
          gives = first_gives ∙ moved_leaves (i ∙ id-not_in_row h at v s (rw q at f));
          links = e;
          others = λ x u _. first_each x ∙ first-others x u;
        }

-- ---- nobody else is moved

attached_same : (e : ℕ → Option ℤ) (m : Member) (t : Bool) → SameRoutine m (if t then attach_to e m else m)
unfolding attach_to
attached_same e m true = record { same_id = refl; same_commands = refl }
attached_same e m false = record { same_id = refl; same_commands = refl }

pub leaves-unmoved : (h : HubState) (at : ℕ) (r : HubState) → StateOk h → Stands h.links at → LeavesHub h at r → OnlyLeave h r
leaves-unmoved h at r v s e =
    leaves_only h at r v s e.links
    (λ x t n. subst (SameRoutine (member_at h x)) (sym (e.others x t n))
    (attached_same (member_at h at).restarts (member_at h x) (eqb x (ahead_of h.links at))))
