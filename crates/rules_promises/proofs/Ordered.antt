-- Every call, before it settles, keeps together the hub and the order, which is built from calls and answers. Assumes nothing.
use mathlib.Core.Path.{◌≡◌, refl, sym, ap, ◌∙◌, subst, ap₂}
use mathlib.Core.Logic.{◌≢◌}
use mathlib.Core.Bool.{Bool, true, false}
use mathlib.Core.List.{List, [], ◌∷◌, ◌++◌, map, append_assoc, append-nil, map-append}
use Prim.Native.Nat.{ℕ, suc}
use borrow.Author.Tests.{eqb-true, eq-eqb, ne_eqb}
use lib.Dec.{eqb}
use lib.IntN.{ℤ, pos}
use Rattle.std.specs.Prelude.{if◌then◌else◌}
use Rattle.rules_routine.specs.declared.Command.{Command}
use Rattle.rules.specs.Tables.{put, Each}
use Rattle.rules.specs.State.{Step, Member, State}
use Rattle.rules.specs.Answers.{Call, turn, failure, restart, Answer, down, up, Result}
use Rattle.rules.specs.Sequence.{last_id_or, with_sequence, with_up, with_mark}
use Rattle.rules.specs.Due.{after_restart}
use Rattle.rules.specs.Abort.{leave, abort}
use Rattle.rules.specs.Submit.{newcomer, place}
use Rattle.rules.specs.Turn.{commit, commit_turn, send_turn}
use Rattle.rules.specs.Report.{done_report, skipped_state, skip_report}
use Rattle.rules.specs.Events.{skip_rest}
use Rattle.rules.specs.History.{Account}
use Rattle.rules.specs.Order.{device_of}
use Rattle.rules.specs.Order.{Event, failure_event, restart_event, Entry, routine, event, Order, before_next, behind_routine, has_routine}
use Rattle.rules.specs.Order.{put_after, edit, edit_order, goes, gains, noted, order_after, order_after_all, entries}
use Rattle.rules.specs.HubOrder.{done_steps, entry_of}
use Rattle.rules.specs.Attach.{settle_restarts, attach, one_restart}
use Rattle.rules.proofs.Lists.{eqb_sym, fold_++, each_left, each_right, each_mid, each_insert, each_swap, IsNot, NotIn, IdsOk}
use Rattle.rules.proofs.Lists.{ids_drop, ids_insert, ids_other, ids_not_zero, ids_left, ids_right}
use Rattle.rules_promises.proofs.Groups.{Group, members, ids, flat, entry_ids, last_restart, alone, with, changed, pass_all, found_at}
use Rattle.rules_promises.proofs.Groups.{leaving, lead_of, add_event, attach_event, lead_with, ids_++, flat_++, ids_swap, flat_pass}
use Rattle.rules_promises.proofs.Groups.{events_++}
use Rattle.rules_promises.proofs.Groups.{flat_leaving, flat_cut, flat_added, attach_miss, attach_hit, last-not_zero}
use Rattle.rules_promises.proofs.Same.{same-placed, same_leaving, same_attached, same_ids}
use Rattle.rules_promises.proofs.Steps.{send-step, skip_step, done-gains, fail_done, skip_steps, fresh-newcomer}
use Rattle.rules_promises.proofs.Invariant.{NotBegun, HubOk, set_after, up_after, EventsOk, OrderOk, AccountTells}
use Rattle.rules_promises.proofs.View.{by_answer, passing, pass_turn, passed_member, Gone, nobody, somebody, loses, Moves, places}
use Rattle.rules_promises.proofs.View.{commits}
use Rattle.rules_promises.proofs.View.{sends, passes, dones, misses, aborts, fails}
use Rattle.rules_promises.proofs.View.{restarts}
use Rattle.rules_promises.proofs.Runs.{set_++, up_++, set_events, brings_up, up-event, up_flat_not-begun, settled_alone}
use Rattle.rules_promises.proofs.Runs.{events_placed}
use Rattle.rules_promises.proofs.Runs.{events_leaving, events_attached}
use Rattle.rules_promises.proofs.Fields.{Fixed, gone_fixed}
use Rattle.rules_promises.proofs.Marks.{in-turn, MarkPlace, at_zero, at_group, mark-place}
use Rattle.rules_promises.proofs.Moved.{hub_gone, hub-up}

-- what is to show of a call: the order fits the state, and its settled part stands
abbrev Kept : State → Order → Order → List Event → List Group → Type 0
Kept s o o' lead l = OrderOk s o' lead l × (o'.settled ≡ o.settled)

abbrev with_unsettled : Order → List Entry → Order
with_unsettled o l = record { settled = o.settled; unsettled = l }

-- it is enough to show it of a new part behind the bar
kept : (s : State) (o o' : Order) (lead : List Event) (l : List Group) (e : List Entry) → o' ≡ with_unsettled o e →
    OrderOk s (with_unsettled o e) lead l → Kept s o o' lead l
kept s o o' lead l e i h = subst (λ q. Kept s o q lead l) (sym i) (h, refl)

-- what a new end of the part behind the bar does to whether d is up, it does in the whole order
up_end : (d : ℕ) (f : Bool → Bool) (o : Order) (pre x y : List Entry) → o.unsettled ≡ pre ++ y →
    ((u : Bool) → up_after d x u ≡ f (up_after d y u)) →
    up_after d (entries (with_unsettled o (pre ++ x))) true ≡ f (up_after d (entries o) true)
up_end d f o pre x y e h =
    let u = up_after d o.settled true in
    up_++ d o.settled (pre ++ x) true ∙ up_++ d pre x u ∙ h _
    ∙ ap f (sym (up_++ d o.settled o.unsettled true ∙ ap (λ l. up_after d l u) e ∙ up_++ d pre y u))

-- ---- the routine with an id, in the order

edit_miss : (i : ℕ) (f : List Command → Bool → List Entry) (l : List Entry) → NotIn i (entry_ids l) → edit i f l ≡ l
edit_miss i f [] h = refl
edit_miss i f (routine j cs b ∷ l) h = rw (ne_eqb j i h.0, edit_miss i f l h.1) refl
edit_miss i f (event e ∷ l) h = ap (λ m. event e ∷ m) (edit_miss i f l h)

-- what passes over an event passes over events
past_events : (f : List Entry → List Entry) → ((x : Event) (l : List Entry) → f (event x ∷ l) ≡ event x ∷ f l) →
    (e : List Event) (l : List Entry) →
    f (map event e ++ l) ≡ map event e ++ f l
past_events f h [] l = refl
past_events f h (x ∷ e) l = h x (map event e ++ l) ∙ ap (λ m. event x ∷ m) (past_events f h e l)

edit_hit : (f : List Command → Bool → List Entry) (a : List Group) (g : Group) (b : List Group) → NotIn g.member.id (ids a) →
    edit g.member.id f (flat (a ++ (g ∷ b))) ≡ flat a
    ++ (f (done_steps g.member.steps) g.member.committed ++ (map event g.events ++ flat b))
edit_hit f [] g b h = rw (eq-eqb g.member.id g.member.id refl) refl
edit_hit f (x ∷ a) g b h =
    rw (
      ne_eqb x.member.id g.member.id h.0,
      past_events (edit g.member.id f) (λ y l. refl) x.events (flat (a ++ (g ∷ b))),
      edit_hit f a g b h.1,
      append_assoc (map event x.events) (flat a)
          (f (done_steps g.member.steps) g.member.committed ++ (map event g.events ++ flat b)),
    ) refl

-- the ids, cut where the groups are
pub order_ids : (s : State) (o : Order) (lead : List Event) (a b : List Group) → OrderOk s o lead (a ++ b) →
    IdsOk s.next_id ((entry_ids o.settled ++ ids a) ++ ids b)
order_ids s o lead a b k =
    subst (IdsOk s.next_id)
    (ap (λ l. entry_ids o.settled ++ l) (ids_++ a b) ∙ sym (append_assoc (entry_ids o.settled) (ids a) (ids b))) k.ids_ok

-- a routine of the sequence, and the order
module _ (s : State) (o : Order) (lead : List Event) (a : List Group) (g : Group) (b : List Group)
    (k : OrderOk s o lead (a ++ (g ∷ b))) where
  -- its id is nowhere ahead
  unmet : NotIn g.member.id (entry_ids o.settled ++ ids a)
  unmet =
      let p = entry_ids o.settled ++ ids a in
      each_left (IsNot g.member.id) p (ids b) (ids_other s.next_id p g.member.id (ids b) (order_ids s o lead a (g ∷ b) k))

  unmet_behind : NotIn g.member.id (ids a)
  unmet_behind = each_right (IsNot g.member.id) (entry_ids o.settled) (ids a) unmet

  not_zero : g.member.id ≢ 0
  not_zero =
      let p = entry_ids o.settled ++ ids a in
      each_mid (IsNot 0) p g.member.id (ids b)
      (ids_not_zero s.next_id (p ++ (g.member.id ∷ ids b)) (order_ids s o lead a (g ∷ b) k))

-- ---- a routine changes in its place

-- a routine of the sequence, between calls
module _ (s : State) (o : Order) (a : List Group) (g : Group) (b : List Group) (k : OrderOk s o [] (a ++ (g ∷ b))) where
  edit-is : (f : List Command → Bool → List Entry) →
      edit_order g.member.id f o ≡ with_unsettled o
      (flat a ++ (f (done_steps g.member.steps) g.member.committed ++ (map event g.events ++ flat b)))
  edit-is f = λ i. record {
    settled = edit_miss g.member.id f o.settled
        (each_left (IsNot g.member.id) (entry_ids o.settled) (ids a) (unmet s o [] a g b k)) i;
    unsettled = (ap (λ l. edit g.member.id f l) k.unsettled-is ∙ edit_hit f a g b (unmet_behind s o [] a g b k)) i;
  }

  order_changes : (l : List Step) (c : Bool) (q : List Member) (mark : ℕ → ℕ) (o' : Order) →
      o' ≡ with_unsettled o (flat a ++ (routine g.member.id (done_steps l) c ∷ (map event g.events ++ flat b))) →
      Kept (with_mark (with_sequence s q) mark) o o' [] (a ++ (changed g l c ∷ b))
  order_changes l c q mark o' i =
      kept (with_mark (with_sequence s q) mark) o o' [] (a ++ (h ∷ b)) _ i
      (record {
        unsettled-is = sym (flat_++ a (h ∷ b));
        settled_is = k.settled_is;
        up_is = λ d. up_end d (λ u. u) o (flat a) (flat (h ∷ b)) (flat (g ∷ b)) (k.unsettled-is ∙ flat_++ a (g ∷ b)) (λ u. refl)
            ∙ k.up_is d;
        events_ok = each_swap EventsOk a g h b k.events_ok (record { events_ok = (each_mid EventsOk a g b k.events_ok).events_ok });
        ids_ok = subst (λ m. IdsOk s.next_id (entry_ids o.settled ++ m)) (sym (ids_swap a g h b refl)) k.ids_ok;
        barred = k.barred;
      })
    where
      h : Group
      h = changed g l c

  -- the answer does not touch the order
  order_untouched : (l : List Step) (q : List Member) (mark : ℕ → ℕ) → done_steps l ≡ done_steps g.member.steps →
      Kept (with_mark (with_sequence s q) mark) o o [] (a ++ (changed g l g.member.committed ∷ b))
  order_untouched l q mark e =
      order_changes l g.member.committed q mark o
      (ap (λ m. with_unsettled o m)
      (k.unsettled-is ∙ flat_++ a (g ∷ b)
      ∙ ap (λ cs. flat a ++ (routine g.member.id cs g.member.committed ∷ (map event g.events ++ flat b))) (sym e)))

  order_commits : (q : List Member) →
      Kept (with_sequence s q) o (edit_order g.member.id (noted g.member.id) o) [] (a ++ (with g (commit g.member) ∷ b))
  unfolding commit
  order_commits q = order_changes g.member.steps true q s.mark _ (edit-is (noted g.member.id))

  order_dones : (c : Command) (l : List Step) (q : List Member) → done_steps l ≡ done_steps g.member.steps ++ (c ∷ []) →
      Kept (with_sequence s q) o (edit_order g.member.id (gains g.member.id c) o) [] (a ++ (changed g l g.member.committed ∷ b))
  order_dones c l q e =
      order_changes l g.member.committed q s.mark _
      (edit-is (gains g.member.id c)
      ∙ ap (λ cs. with_unsettled o (flat a ++ (routine g.member.id cs g.member.committed ∷ (map event g.events ++ flat b))))
      (sym e))

-- ---- an entry is put behind a routine, or before the first

next_flat : (x : Entry) (e : List Event) (l : List Group) → before_next x (map event e ++ flat l) ≡ map event e ++ (x ∷ flat l)
next_flat x e l = past_events (before_next x) (λ y m. refl) e (flat l) ∙ ap (λ m. map event e ++ m) (first l)
  where
    first : (l : List Group) → before_next x (flat l) ≡ x ∷ flat l
    first [] = refl
    first (g ∷ l) = refl

-- events are passed over
behind_events : (x : Entry) (j : ℕ) (e : List Event) (l : List Entry) → behind_routine x j (map event e ++ l) ≡ map event e
    ++ behind_routine x j l
behind_events x j = past_events (behind_routine x j) (λ y l. refl)

-- behind the events of g
behind_flat : (x : Entry) (a : List Group) (g : Group) (b : List Group) → NotIn g.member.id (ids a) →
    behind_routine x g.member.id (flat (a ++ (g ∷ b))) ≡ flat (a ++ (g ∷ [])) ++ (x ∷ flat b)
behind_flat x [] g b h =
    rw (eq-eqb g.member.id g.member.id refl, next_flat x g.events b, append-nil (map event g.events)) refl
behind_flat x (y ∷ a) g b h =
    rw (
      ne_eqb y.member.id g.member.id h.0,
      behind_events x g.member.id y.events (flat (a ++ (g ∷ b))),
      behind_flat x a g b h.1,
      append_assoc (map event y.events) (flat (a ++ (g ∷ []))) (x ∷ flat b),
    ) refl

-- a routine of the sequence does not stand before the bar
has_miss : (j : ℕ) (l : List Entry) → NotIn j (entry_ids l) → has_routine j l ≡ false
has_miss j [] h = refl
has_miss j (routine i cs b ∷ l) h = rw (ne_eqb i j h.0, has_miss j l h.1) refl
has_miss j (event e ∷ l) h = has_miss j l h

-- an entry put after j comes behind `pre` and before b
abbrev Slot : Order → ℕ → List Entry → List Group → Type 0
Slot o j pre b = (x : Entry) → put_after x j o ≡ with_unsettled o (pre ++ (x ∷ flat b))

slot-first : (s : State) (o : Order) (lead : List Event) (b : List Group) → OrderOk s o lead b → Slot o 0 (map event lead) b
unfolding put_after
slot-first s o lead b k x = ap (λ l. with_unsettled o l) (ap (λ l. before_next x l) k.unsettled-is ∙ next_flat x lead b)

slot-behind : (s : State) (o : Order) (lead : List Event) (a : List Group) (g : Group) (b : List Group) → OrderOk s o lead (a ++ (g ∷ b)) →
    Slot o g.member.id (map event lead ++ flat (a ++ (g ∷ []))) b
unfolding put_after
slot-behind s o lead a g b k x =
    rw (
      ne_eqb g.member.id 0 (not_zero s o lead a g b k),
      has_miss g.member.id o.settled
          (each_left (IsNot g.member.id) (entry_ids o.settled) (ids a) (unmet s o lead a g b k)),
    )
    (ap (λ l. with_unsettled o l)
    (ap (λ l. behind_routine x g.member.id l) k.unsettled-is ∙ behind_events x g.member.id lead (flat (a ++ (g ∷ b)))
    ∙ ap (λ l. map event lead ++ l) (behind_flat x a g b (unmet_behind s o lead a g b k))
    ∙ sym (append_assoc (map event lead) (flat (a ++ (g ∷ []))) (x ∷ flat b))))

-- ---- a routine is placed

-- the last of some groups has the id i
record Last (i : ℕ) (l : List Group) : Type 0 where
  ahead : List Group
  it : Group
  all : l ≡ ahead ++ (it ∷ [])
  id-is : i ≡ it.member.id

last : (g : Group) (l : List Group) → Last (last_id_or g.member.id (members l)) (g ∷ l)
last g [] = record { ahead = []; it = g; all = refl; id-is = refl }
last g (x ∷ l) = let r = last x l in record { ahead = g ∷ r.ahead; it = r.it; all = ap (λ m. g ∷ m) r.all; id-is = r.id-is }

slot-last : (s : State) (o : Order) (a b : List Group) → OrderOk s o [] (a ++ b) → Slot o (last_id_or 0 (members a)) (flat a) b
slot-last s o [] b k = slot-first s o [] b k
slot-last s o (g ∷ a) b k =
    let r = last g a in
    subst (λ l. Slot o (last_id_or g.member.id (members a)) (flat l) b) (sym r.all)
    (subst (λ i. Slot o i (flat (r.ahead ++ (r.it ∷ []))) b) (sym r.id-is)
    (slot-behind s o [] r.ahead r.it b
    (subst (λ l. OrderOk s o [] l) (ap (λ l. l ++ b) r.all ∙ append_assoc r.ahead (r.it ∷ []) b) k)))

order_places : (s : State) (o : Order) (cs : List Command) (a b : List Group) → HubOk s (a ++ b) → OrderOk s o [] (a ++ b) →
    Kept (place s cs) o (put_after (routine s.next_id [] false) (last_id_or 0 (members a)) o) []
    (a ++ (alone (newcomer s.next_id cs) ∷ pass_all b))
unfolding place newcomer
order_places s o cs a b h k =
    kept (place s cs) o _ [] (a ++ (n ∷ pass_all b)) (flat a ++ (routine s.next_id [] false ∷ flat b))
    (slot-last s o a b k (routine s.next_id [] false))
    (record {
      unsettled-is = sym (flat_++ a (n ∷ pass_all b) ∙ ap (λ l. flat a ++ (entry_of n.member ∷ l)) (flat_pass b)
          ∙ ap (λ ds. flat a ++ (routine s.next_id ds false ∷ flat b)) (fresh-newcomer s.next_id cs).done-is);
      settled_is = k.settled_is;
      up_is = λ d. up_end d (λ u. u) o (flat a) (routine s.next_id [] false ∷ flat b) (flat b) (k.unsettled-is ∙ flat_++ a b) (λ u. refl)
          ∙ k.up_is d;
      events_ok = events_placed a n b (each_insert EventsOk a n b k.events_ok (record { events_ok = λ d. refl }));
      ids_ok = subst (λ l. IdsOk (suc s.next_id) l) ids_is
          (ids_insert s.next_id (entry_ids o.settled ++ ids a) (ids b) h.some_id (order_ids s o [] a b k));
      barred = k.barred;
    })
  where
    n : Group
    n = alone (newcomer s.next_id cs)

    ids_is : (entry_ids o.settled ++ ids a) ++ (s.next_id ∷ ids b) ≡ entry_ids o.settled ++ ids (a ++ (n ∷ pass_all b))
    ids_is = append_assoc (entry_ids o.settled) (ids a) (s.next_id ∷ ids b)
        ∙ ap (λ l. entry_ids o.settled ++ l) (sym (same_ids (same-placed a n b) ∙ ids_++ a (n ∷ b)))

-- ---- a routine leaves

order-leaves : (s : State) (o : Order) (a : List Group) (g : Group) (b : List Group) → OrderOk s o [] (a ++ (g ∷ b)) →
    Kept (abort s (found_at a g b)).state o (edit_order g.member.id goes o) (lead_of a g) (leaving a g b)
unfolding abort leave attach settle_restarts
order-leaves s o a g b k =
    kept (abort s (found_at a g b)).state o _ (lead_of a g) (leaving a g b) _ (edit-is s o a g b k goes)
    (record {
      unsettled-is = sym (flat_leaving a g b);
      settled_is = settled a k;
      up_is = λ d. up_end d (λ u. u) o (flat a) (map event g.events ++ flat b) (flat (g ∷ b)) (k.unsettled-is ∙ flat_++ a (g ∷ b))
          (λ u. refl) ∙ k.up_is d;
      events_ok = events_leaving a g b k.events_ok;
      ids_ok = subst (λ l. IdsOk s.next_id l) ids_is
          (ids_drop s.next_id (entry_ids o.settled ++ ids a) g.member.id (ids b) (order_ids s o [] a (g ∷ b) k));
      barred = k.barred;
    })
  where
    settled : (c : List Group) → OrderOk s o [] (c ++ (g ∷ b)) → (d : ℕ) →
        set_after d (o.settled ++ map event (lead_of c g)) (pos 0) ≡ (abort s (found_at c g b)).state.settled_at d
    settled [] k d =
        set_++ d o.settled (map event g.events) (pos 0) ∙ set_events d g.events _
        ∙ ap (λ x. after_restart x (set_after d o.settled (pos 0))) (sym (k.events_ok.0.events_ok d))
        ∙ ap (λ v. after_restart (g.member.restarts d) v) (settled_alone s o (g ∷ b) k d)
    settled (x ∷ c) k d =
        rw (last-not_zero s.next_id x c (ids_left s.next_id (ids (x ∷ c)) (g.member.id ∷ ids b)
        (subst (IdsOk s.next_id) (ids_++ (x ∷ c) (g ∷ b))
        (ids_right s.next_id (entry_ids o.settled) (ids ((x ∷ c) ++ (g ∷ b))) k.ids_ok)))) (k.settled_is d)

    ids_is : (entry_ids o.settled ++ ids a) ++ ids b ≡ entry_ids o.settled ++ ids (leaving a g b)
    ids_is = append_assoc (entry_ids o.settled) (ids a) (ids b)
        ∙ ap (λ l. entry_ids o.settled ++ l) (sym (same_ids (same_leaving a g b) ∙ ids_++ a b))

-- ---- an event is attached

-- the event x, attached to the mark j: the entries before it, and the groups behind it, which do not see it
pub record Cut (x : Event) (j : ℕ) (lead : List Event) (l : List Group) : Type 0 where
  pub before : List Entry
  pub ahead : List Group
  pub behind : List Group
  pub was : map event lead ++ flat l ≡ before ++ flat behind
  pub becomes : map event (lead_with j x lead) ++ flat (attach_event j x l) ≡ before ++ (event x ∷ flat behind)
  pub attached : attach_event j x l ≡ ahead ++ behind
  pub not-begun : Each (NotBegun (device_of x)) behind

module _ (x : Event) (j : ℕ) (lead : List Event) where
  becoming : (l k : List Group) (t : Bool) → eqb j 0 ≡ t → attach_event j x l ≡ k →
      map event (lead_with j x lead) ++ flat (attach_event j x l) ≡ map event (if t then lead ++ (x ∷ []) else lead) ++ flat k
  becoming l k t e = ap₂ (λ b m. map event (if b then lead ++ (x ∷ []) else lead) ++ flat m) e

  pub cut_at : (l : List Group) → MarkPlace (device_of x) j l → Cut x j lead l
  cut_at l (at_zero z n q) = record {
    before = map event lead;
    ahead = [];
    behind = l;
    was = refl;
    becomes = becoming l l true (eq-eqb j 0 z) (attach_miss j x l n) ∙ events_++ lead (x ∷ []) (flat l);
    attached = attach_miss j x l n;
    not-begun = q;
  }
  cut_at l (at_group a g b e i z n q) = record {
    before = map event lead ++ flat (a ++ (g ∷ []));
    ahead = a ++ (add_event x g ∷ []);
    behind = b;
    was = ap (λ m. map event lead ++ m) (ap flat e ∙ flat_cut a g b) ∙ sym (append_assoc (map event lead) (flat (a ++ (g ∷ []))) (flat b));
    becomes = becoming l (a ++ (add_event x g ∷ b)) false (ne_eqb j 0 z) hit ∙ ap (λ m. map event lead ++ m) (flat_added x a g b)
        ∙ sym (append_assoc (map event lead) (flat (a ++ (g ∷ []))) (event x ∷ flat b));
    attached = hit ∙ sym (append_assoc a (add_event x g ∷ []) b);
    not-begun = q;
  }
    where
      hit : attach_event j x l ≡ a ++ (add_event x g ∷ b)
      hit = ap (attach_event j x) e ∙ attach_hit j x a g b n i

-- nothing behind an event speaks of its device
up-behind : (d : ℕ) (x : Event) (b : List Group) → Each (NotBegun (device_of x)) b → (u : Bool) →
    up_after d (event x ∷ flat b) u ≡ (if eqb d (device_of x) then brings_up x else up_after d (flat b) u)
up-behind d x b q u =
    ap (λ w. up_after d (flat b) w) (up-event d x u ∙ ap (λ t. if t then brings_up x else u) (eqb_sym (device_of x) d))
    ∙ go (eqb d (device_of x)) refl
  where
    go : (t : Bool) → eqb d (device_of x) ≡ t →
        up_after d (flat b) (if t then brings_up x else u) ≡ (if t then brings_up x else up_after d (flat b) u)
    go true t = up_flat_not-begun d b (brings_up x) (subst (λ i. Each (NotBegun i) b) (sym (eqb-true d (device_of x) t)) q)
    go false t = refl

-- what an event, attached to 0 or to a routine, makes of the state
record Attached (x : Event) (first : Bool) (s t : State) : Type 0 where
  next_is : t.next_id ≡ s.next_id
  settled_is : (d : ℕ) → t.settled_at d ≡ (if first then after_restart (last_restart d (x ∷ [])) (s.settled_at d) else s.settled_at d)
  up_is : (d : ℕ) → t.up d ≡ put s.up (device_of x) (brings_up x) d

module _ (x : Event) (s t : State) (o : Order) (lead : List Event) where
  put-cut : (j : ℕ) (l : List Group) → OrderOk s o lead l → (p : MarkPlace (device_of x) j l) →
      put_after (event x) j o ≡ with_unsettled o ((cut_at x j lead l p).before ++ (event x ∷ flat (cut_at x j lead l p).behind))
  unfolding cut_at
  put-cut j l k (at_zero z n q) =
      subst (λ i. put_after (event x) i o ≡ with_unsettled o (map event lead ++ (event x ∷ flat l))) (sym z)
      (slot-first s o lead l k (event x))
  put-cut j l k (at_group a g b e i z n q) =
      subst (λ i. put_after (event x) i o ≡ with_unsettled o ((map event lead ++ flat (a ++ (g ∷ []))) ++ (event x ∷ flat b))) i
      (slot-behind s o lead a g b (subst (OrderOk s o lead) e k) (event x))

  -- if the event is attached to 0, it joins the settled part
  settled_attached : (l : List Group) → OrderOk s o lead l → (d : ℕ) (first : Bool) →
      set_after d (o.settled ++ map event (if first then lead ++ (x ∷ []) else lead)) (pos 0)
      ≡ (if first then after_restart (last_restart d (x ∷ [])) (s.settled_at d) else s.settled_at d)
  settled_attached l k d true =
      ap (λ m. set_after d m (pos 0))
      (ap (λ m. o.settled ++ m) (map-append event lead (x ∷ [])) ∙ sym (append_assoc o.settled (map event lead) (event x ∷ [])))
      ∙ set_++ d (o.settled ++ map event lead) (event x ∷ []) (pos 0) ∙ set_events d (x ∷ []) _
      ∙ ap (λ v. after_restart (last_restart d (x ∷ [])) v) (k.settled_is d)
  settled_attached l k d false = k.settled_is d

  order_attaches : (j : ℕ) (l : List Group) → OrderOk s o lead l → MarkPlace (device_of x) j l → Attached x (eqb j 0) s t →
      Kept t o (put_after (event x) j o) (lead_with j x lead) (attach_event j x l)
  order_attaches j l k p f =
      let c = cut_at x j lead l p in
      kept t o (put_after (event x) j o) (lead_with j x lead) (attach_event j x l) (c.before ++ (event x ∷ flat c.behind))
      (put-cut j l k p)
      (record {
        unsettled-is = sym c.becomes;
        settled_is = λ d. settled_attached l k d (eqb j 0) ∙ sym (f.settled_is d);
        up_is = λ d.
            up_end d (λ u. if eqb d (device_of x) then brings_up x else u) o c.before (event x ∷ flat c.behind) (flat c.behind)
            (k.unsettled-is ∙ c.was)
            (up-behind d x c.behind c.not-begun) ∙ ap (λ u. if eqb d (device_of x) then brings_up x else u) (k.up_is d)
            ∙ sym (f.up_is d);
        events_ok = events_attached j x l k.events_ok;
        ids_ok = rw (f.next_is, same_ids (same_attached j x l)) k.ids_ok;
        barred = k.barred;
      })

-- ---- what comes ahead of an event, then the event

-- `u`: what is up when a routine aborts or loses commands. On a failure the device is down by then, but the order has the event only after
-- the abort
order_gone : (s : State) (u : ℕ → Bool) (o : Order) (c : Call) (n : ℕ → Account) (d : ℕ)
    (l : List Group) {r : Result} {lead : List Event} {k : List Group} →
    HubOk s l → OrderOk s o [] l → Gone (with_up s u) d l r lead k →
    Kept (with_up r.state s.up) o (order_after_all c n r.answers o) lead k
unfolding abort leave attach skip_rest
order_gone s u o c n d l h k (nobody f) = (k, refl)
order_gone s u o c n d l h k (somebody a g b e f) = order-leaves s o a g b (subst (λ m. OrderOk s o [] m) e k)
order_gone s u o c n d l h k (loses a g b e f _) =
    order_untouched s o a g b (subst (λ m. OrderOk s o [] m) e k) _ _ _
    (skip_steps d g.member (in-turn s a g b (subst (HubOk s) e h))).same-done

-- `t`: the state after the event
order_happens : (s t : State) (u : ℕ → Bool) (o : Order) (c : Call) (n : ℕ → Account) (x : Event) (y : Answer)
    (l : List Group) {r : Result} {lead : List Event} {k : List Group} →
    HubOk s l → OrderOk s o [] l → Gone (with_up s u) (device_of x) l r lead k →
    ((q : Order) → order_after c n y q ≡ put_after (event x) (r.state.mark (device_of x)) q) →
    Attached x (eqb (r.state.mark (device_of x)) 0) (with_up r.state s.up) t →
    Kept t o (order_after_all c n (r.answers ++ (y ∷ [])) o) (lead_with (r.state.mark (device_of x)) x lead)
    (attach_event (r.state.mark (device_of x)) x k)
order_happens s t u o c n x y l {r = r} {lead = lead} {k = k} h i g e f =
    let j = r.state.mark (device_of x) in
    let q = order_after_all c n r.answers o in
    let p = order_gone s u o c n (device_of x) l h i g in
    let z = order_attaches x (with_up r.state s.up) t q lead j k p.0
    (mark-place r.state k (hub_gone (with_up s u) (device_of x) l (hub-up s u l h) g).0 (device_of x)) f in
    subst (λ w. Kept t o w (lead_with j x lead) (attach_event j x k))
    (sym (fold_++ (order_after_all c n) (λ o. refl) (λ x l o. refl) r.answers (y ∷ []) o ∙ e q)) (z.0, z.1 ∙ p.1)

-- no restart: the settings stand
attached_failure : (d : ℕ) (first : Bool) (s t : State) → t.next_id ≡ s.next_id → t.settled_at ≡ s.settled_at →
    t.up ≡ put s.up d false →
    Attached (failure_event d) first s t
attached_failure d first s t n v u =
    record { next_is = n; settled_is = λ i. ap (λ f. f i) v ∙ go (s.settled_at i) first; up_is = λ i. ap (λ f. f i) u }
  where
    go : (v : ℤ) (b : Bool) → v ≡ (if b then v else v)
    go v true = refl
    go v false = refl

attached_restart : (d j : ℕ) (v : ℤ) (s : State) (u : ℕ → Bool) → s.up ≡ u →
    Attached (restart_event d v) (eqb j 0) (with_up s u) (with_up (attach j (one_restart d v) s) (put (attach j (one_restart d v) s).up d true))
unfolding attach settle_restarts
attached_restart d j v s u e = record { next_is = refl; settled_is = go (eqb j 0); up_is = λ i. ap (λ f. put f d true i) e }
  where
    go : (b : Bool) (i : ℕ) →
        (if b then settle_restarts (one_restart d v) s.settled_at else s.settled_at) i ≡
        (if b then after_restart (last_restart i (restart_event d v ∷ [])) (s.settled_at i) else s.settled_at i)
    go true i = refl
    go false i = refl

-- ---- every call

-- `a`: the accounts before the call
pub order_moves : (s : State) (o : Order) (a : ℕ → Account) (l : List Group) {c : Call} {r : Result} {lead : List Event} {k : List Group} →
    HubOk s l → OrderOk s o [] l → Each (AccountTells a) l → Moves s l c r lead k →
    OrderOk r.state (order_after_all c a r.answers o) lead k × ((order_after_all c a r.answers o).settled ≡ o.settled)
unfolding commit_turn send_turn done_report skipped_state skip_report abort
order_moves s o n l h k t (places cs a b _ e u _ _) =
    subst (λ m. Kept (place s cs) o (put_after (routine s.next_id [] false) (last_id_or 0 m) o) []
    (a ++ (alone (newcomer s.next_id cs) ∷ pass_all b))) (sym u)
    (order_places s o cs a b (subst (λ m. HubOk s m) e h) (subst (λ m. OrderOk s o [] m) e k))
order_moves s o n l h k t (commits i a g b e _ _ _ _) = order_commits s o a g b (subst (λ m. OrderOk s o [] m) e k) _
order_moves s o n l h k t (sends i a g b c e _ _ f x _ _ plain on) =
    order_untouched s o a g b (subst (λ m. OrderOk s o [] m) e k) _ _ _
    (send-step g.member (in-turn s a g b (subst (HubOk s) e h)) c _ x f).same-done
order_moves s o n l h k t (passes i a g b c e _ _ f x _ st pass) =
    subst (λ p. Kept (pass_turn s (found_at a g b) c st).state o p [] (a ++ (with g (passed_member st g) ∷ b)))
    (sym (by_answer (λ y. order_after (turn i) n y o ≡ o) g.member.id refl refl refl st))
    (order_untouched s o a g b (subst (λ m. OrderOk s o [] m) e k) _ _ _
    (skip_step g.member (in-turn s a g b (subst (HubOk s) e h)) c st (passing pass) x f).same-done)
order_moves s o n l h k t (dones i code a g b x e _ _ f _) =
    order_dones s o a g b (subst (λ m. OrderOk s o [] m) e k) (n g.member.id).last_sent _ _
    (done-gains g.member (in-turn s a g b (subst (HubOk s) e h)) x f
    ∙ ap (λ c. done_steps g.member.steps ++ (c ∷ []))
    (sym ((each_mid (AccountTells n) a g b (subst (λ m. Each (AccountTells n) m) e t)).sent_is x f)))
order_moves s o n l h k t (misses i a g b x e _ _ f) =
    order_untouched s o a g b (subst (λ m. OrderOk s o [] m) e k) _ _ _ (fail_done g.member (in-turn s a g b (subst (HubOk s) e h)) x f)
order_moves s o n l h k t (aborts c a g b e _ _) = order-leaves s o a g b (subst (λ m. OrderOk s o [] m) e k)
order_moves s o n l h k t (fails d r lead b _ _ g) =
    order_happens s r.state (put s.up d false) o (failure d) n (failure_event d) (down d (r.state.mark d)) l h k g (λ q. refl)
    (attached_failure d _ _ r.state refl refl (ap (λ (x : Fixed). x.up) (gone_fixed _ d l g)))
order_moves s o n l h k t (restarts d v r lead b _ _ g) =
    order_happens s _ s.up o (restart d v) n (restart_event d v) (up d (r.state.mark d)) l h k g (λ q. refl)
    (attached_restart d _ v r.state s.up (ap (λ (x : Fixed). x.up) (gone_fixed s d l g)))
