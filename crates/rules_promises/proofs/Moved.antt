-- The hub's invariant is kept when a routine is placed, when one leaves, when an event is attached, and when routines settle. Assumes
-- nothing.
use Rattle.std.proofs.Common.{Option}
use mathlib.Core.Path.{◌≡◌, refl, sym, ap, ◌∙◌, subst}
use mathlib.Core.Logic.{◌≢◌}
use mathlib.Core.Bool.{Bool, true, false, not, ◌&&◌, and-false, or-false}
use mathlib.Core.List.{List, [], ◌∷◌, ◌++◌, map}
use Prim.Native.Nat.{ℕ, ◌<◌}
use native.Mathlib.Omega.{arith}
use borrow.Author.Tests.{eqb-true, eqb-false, eq-eqb, ne_eqb, not-false}
use lib.Dec.{leb, eqb}
use lib.IntN.{ℤ}
use Rattle.std.specs.Prelude.{if◌then◌else◌}
use Rattle.rules_routine.specs.declared.Command.{Command}
use Rattle.rules.specs.Tables.{any_of, Each}
use Rattle.rules.specs.State.{Member, State}
use Rattle.rules.specs.Answers.{Result}
use Rattle.rules.specs.Progress.{is_on, is_answered, begun, finished}
use Rattle.rules.specs.Limit.{with_pass_limit}
use Rattle.rules.specs.Sequence.{is_running, last_id_or, with_sequence, with_settled, with_up, move_marks}
use Rattle.rules.specs.Settle.{join_settled, settle}
use Rattle.rules.specs.Abort.{leave, abort}
use Rattle.rules.specs.Submit.{blocks, up_to_last, past_last, step_of, newcomer, place}
use Rattle.rules.specs.Events.{is_halfway}
use Rattle.rules.specs.Order.{device_of, is_of}
use Rattle.rules.specs.Order.{Event, failure_event, restart_event}
use Rattle.rules.specs.Attach.{attach_to, attach_at, attach, one_restart}
use Rattle.rules.proofs.Lists.{by_if, t≠f, or_left, or_right, this_or_other, each_++, each_left, each_right, each_mid, each_drop}
use Rattle.rules.proofs.Lists.{each_insert, each_map, any_of_++, IsNot, NotIn, IdsOk, ids_drop, ids_insert, ids_left, ids_other}
use Rattle.rules.proofs.Lists.{ids_not_zero, in_other}
use Rattle.rules_promises.proofs.Groups.{Group, members, ids, alone, with, pass_all, found_at, add_events, add_to_last, leaving}
use Rattle.rules_promises.proofs.Groups.{add_event, attach_event, still_held, members_++, ids_++, members_pass, added_is, attach_miss}
use Rattle.rules_promises.proofs.Groups.{last_in}
use Rattle.rules_promises.proofs.Groups.{last-not_zero}
use Rattle.rules_promises.proofs.Same.{Pairwise, pair, pairs_each, pairs_placed, pairs_last, pairs_attached, Same, same_refl}
use Rattle.rules_promises.proofs.Same.{same-pass}
use Rattle.rules_promises.proofs.Same.{same_moved, same_added, same-placed, same_leaving, same_attached, same_each, same_ids}
use Rattle.rules_promises.proofs.Steps.{left_steps, InTurn, skip_steps, fresh-newcomer}
use Rattle.rules_promises.proofs.Invariant.{NotBegun, HasFinished, AtMark, whole, part, MarkedAt, here, there, MarkOk, unmarked}
use Rattle.rules_promises.proofs.Invariant.{marked}
use Rattle.rules_promises.proofs.Invariant.{CommittedHasNothingLeft, CommandsInTurn, HubOk, NotHalfway}
use Rattle.rules_promises.proofs.View.{skipped_left, Gone, nobody, somebody, loses}
use Rattle.rules_promises.proofs.Fields.{settles}
use Rattle.rules_promises.proofs.Marks.{mark-ahead, mark-here, mark-behind, MarkSeen, nowhere, near, see_mark, upto_right, upto_left}
use Rattle.rules_promises.proofs.Marks.{upto_in, nothing_left_finished-it, in-turn, ids_at, halfway_clear, hub_loses}

-- ---- groups that the invariant does not tell apart

-- the same routine, and it has an event of d if it had one
record SameOn (d : ℕ) (g h : Group) : Type 0 where
  same_member : Same g h
  same_events : any_of (is_of d) h.events ≡ any_of (is_of d) g.events

same_on_refl : (d : ℕ) (g : Group) → SameOn d g g
same_on_refl d g = record { same_member = same_refl g; same_events = refl }

same-begun : (d : ℕ) (g h : Group) → Same g h → begun d h.member ≡ begun d g.member
unfolding begun
same-begun d g h e = rw e.same-steps refl

same-finished-it : (d : ℕ) (g h : Group) → Same g h → HasFinished d g → HasFinished d h
unfolding finished
same-finished-it d g h e f = record { finished-it = rw e.same-steps f.finished-it }

same_nothing_left : (g h : Group) → Same g h → CommittedHasNothingLeft g → CommittedHasNothingLeft h
same_nothing_left g h e f = record { nothing_left = λ c. ap left_steps e.same-steps ∙ f.nothing_left (sym e.same-committed ∙ c) }

same-turns : (g h : Group) → Same g h → CommandsInTurn g → CommandsInTurn h
same-turns g h e f = record { turns = subst InTurn (sym e.same-steps) f.turns }

same-not_halfway : (d : ℕ) (g h : Group) → Same g h → NotHalfway d g → NotHalfway d h
unfolding is_halfway is_running begun finished
same-not_halfway d g h e f = record { not_halfway = rw (e.same-steps, e.same-committed) f.not_halfway }

same-not-begun : (d : ℕ) (g h : Group) → SameOn d g h → NotBegun d g → NotBegun d h
same-not-begun d g h e q = record { idle = same-begun d g h e.same_member ∙ q.idle; bare = e.same_events ∙ q.bare }

same_at_mark : (d : ℕ) (g h : Group) → SameOn d g h → AtMark d g → AtMark d h
same_at_mark d g h e (whole f) = whole (same-finished-it d g h e.same_member f)
same_at_mark d g h e (part b n) = part (same-begun d g h e.same_member ∙ b) (e.same_events ∙ n)

pairs_upto : (d i : ℕ) (l k : List Group) → Pairwise (SameOn d) l k → MarkedAt d i l → MarkedAt d i k
pairs_upto d i [] k p u = elim u [ ]
pairs_upto d i (x ∷ l) [] p u = elim p [ ]
pairs_upto d i (x ∷ l) (y ∷ k) (pair r p) (here e h q) =
    here (r.same_member.same_id ∙ e) (same_at_mark d x y r h) (pairs_each (SameOn d) (NotBegun d) (same-not-begun d) p q)
pairs_upto d i (x ∷ l) (y ∷ k) (pair r p) (there f u) = there (same-finished-it d x y r.same_member f) (pairs_upto d i l k p u)

pairs_mark : (d i : ℕ) (l k : List Group) → Pairwise (SameOn d) l k → MarkOk d i l → MarkOk d i k
pairs_mark d i l k p (unmarked z q) = unmarked z (pairs_each (SameOn d) (NotBegun d) (same-not-begun d) p q)
pairs_mark d i l k p (marked u) = marked (pairs_upto d i l k p u)

-- ---- a routine is placed

-- the newcomer is quiet; it has finished d if the mark is behind it
place-mark : (d i : ℕ) (a b : List Group) (x : Group) → NotBegun d x → (MarkedAt d i b → HasFinished d x) → MarkOk d i (a ++ b) →
    MarkOk d i (a ++ (x ∷ b))
place-mark d i a b x q f (unmarked z h) = unmarked z (each_insert (NotBegun d) a x b h q)
place-mark d i a b x q f (marked u) = marked (go a u)
  where
    go : (a : List Group) → MarkedAt d i (a ++ b) → MarkedAt d i (a ++ (x ∷ b))
    go [] u = there (f u) u
    go (g ∷ a) (here e h s) = here e h (each_insert (NotBegun d) a x b s q)
    go (g ∷ a) (there k u) = there k (go a u)

new_not-begun : (d i : ℕ) (cs : List Command) → NotBegun d (alone (newcomer i cs))
new_not-begun d i cs = record { idle = (fresh-newcomer i cs).unbegun d; bare = refl }

-- a newcomer that the mark of d does not block does not use d
unblocked_finished-it : (s : State) (cs : List Command) (d : ℕ) (m : Member) → m.id ≡ s.mark d → blocks s cs m ≡ false →
    HasFinished d (alone (newcomer s.next_id cs))
unfolding blocks finished newcomer
unblocked_finished-it s cs d m e n =
    record {
      finished-it =
          ap not (go cs (or_left (any_of (λ c. eqb (s.mark c.device) m.id) cs) (is_running m && leb s.pass_limit m.passed) n));
    }
  where
    go : (cs : List Command) → any_of (λ c. eqb (s.mark c.device) m.id) cs ≡ false →
        any_of (λ x. is_on d x && not (is_answered x.status)) (map step_of cs) ≡ false
    go [] h = refl
    go (c ∷ l) h =
        let x = or_left (eqb (s.mark c.device) m.id) (any_of (λ c. eqb (s.mark c.device) m.id) l) h in
        let y = or_right (eqb (s.mark c.device) m.id) (any_of (λ c. eqb (s.mark c.device) m.id) l) h in
        rw (ne_eqb c.device d (λ z. eqb-false (s.mark c.device) m.id x (ap s.mark z ∙ sym e))) (go l y)

place-finished-it : (s : State) (cs : List Command) (d : ℕ) (b : List Group) → any_of (blocks s cs) (members b) ≡ false →
    MarkedAt d (s.mark d) b → HasFinished d (alone (newcomer s.next_id cs))
place-finished-it s cs d [] n u = elim u [ ]
place-finished-it s cs d (g ∷ b) n (here e h q) =
    unblocked_finished-it s cs d g.member e (or_left (blocks s cs g.member) (any_of (blocks s cs) (members b)) n)
place-finished-it s cs d (g ∷ b) n (there f u) =
    place-finished-it s cs d b (or_right (blocks s cs g.member) (any_of (blocks s cs) (members b)) n) u

pub hub_places : (s : State) (cs : List Command) (a b : List Group) → HubOk s (a ++ b) → up_to_last (blocks s cs) s.sequence ≡ members a →
    past_last (blocks s cs) s.sequence ≡ members b → any_of (blocks s cs) (members b) ≡ false →
    HubOk (place s cs) (a ++ (alone (newcomer s.next_id cs) ∷ pass_all b))
unfolding place newcomer
hub_places s cs a b h u p n = record {
  sequence_is = rw (u, p, members_++ a (x ∷ pass_all b), members_pass b) refl;
  ids_ok = rw (same_ids passed, ids_++ a (x ∷ b))
      (ids_insert s.next_id (ids a) (ids b) h.some_id (subst (λ l. IdsOk s.next_id l) (ids_++ a b) h.ids_ok));
  marks = λ d. pairs_mark d (s.mark d) (a ++ (x ∷ b)) (a ++ (x ∷ pass_all b)) (passed_on d)
      (place-mark d (s.mark d) a b x (new_not-begun d s.next_id cs) (place-finished-it s cs d b n) (h.marks d));
  nothing_left_all =
      same_each CommittedHasNothingLeft same_nothing_left passed
      (each_insert CommittedHasNothingLeft a x b h.nothing_left_all (record { nothing_left = λ e. t≠f (sym e) }));
  turns = same_each CommandsInTurn same-turns passed
      (each_insert CommandsInTurn a x b h.turns (record { turns = (fresh-newcomer s.next_id cs).in-turn }));
  some_id = omega arith;
}
  where
    x : Group
    x = alone (newcomer s.next_id cs)

    passed : Pairwise Same (a ++ (x ∷ b)) (a ++ (x ∷ pass_all b))
    passed = same-placed a x b

    passed_on : (d : ℕ) → Pairwise (SameOn d) (a ++ (x ∷ b)) (a ++ (x ∷ pass_all b))
    passed_on d = pairs_placed (SameOn d) (same_on_refl d) (λ g. record { same_member = same-pass g; same_events = refl }) a x b

-- ---- a routine leaves

-- events that are not of d, behind others
no_more : (d : ℕ) (l f : List Event) → any_of (is_of d) f ≡ false → any_of (is_of d) (l ++ f) ≡ any_of (is_of d) l
no_more d l f n = any_of_++ (is_of d) l f ∙ rw n (or-false (any_of (is_of d) l))

-- those ahead of g, when it has left
abbrev heirs : Group → List Group → List Group
heirs g l = add_to_last g.events g.member.restarts l

leaving_same_on : (d : ℕ) (a : List Group) (g : Group) (b : List Group) → NotBegun d g → Pairwise (SameOn d) (a ++ b) (leaving a g b)
leaving_same_on d a g b q = pairs_last (SameOn d) (same_on_refl d) g.events g.member.restarts
    (λ x. record {
      same_member = same_moved g.events g.member.restarts x;
      same_events =
          no_more d x.events g.events q.bare;
    }) a b

-- the last ahead is the one with its id
heirs_members : (n : ℕ) (g x : Group) (l : List Group) (m : List Member) → IdsOk n (ids (x ∷ l)) →
    attach_at (last_id_or x.member.id (members l)) g.member.restarts (members (x ∷ l) ++ m) ≡ members (heirs g (x ∷ l)) ++ m
heirs_members n g x [] m k = rw (eq-eqb x.member.id x.member.id refl) refl
heirs_members n g x (y ∷ l) m k =
    rw (ne_eqb x.member.id (last_id_or y.member.id (members l))
    (λ e. in_other x.member.id _ (ids (y ∷ l)) k.2 (last_in y l) (sym e)))
    (ap (λ q. x.member ∷ q) (heirs_members n g y l m k.3))

-- those ahead, with what moves to the last of them
heirs_sequence : (s : State) (a : List Group) (g : Group) (b : List Group) → HubOk s (a ++ (g ∷ b)) →
    (if eqb (last_id_or 0 (members a)) 0 then members a ++ members b
    else attach_at (last_id_or 0 (members a)) g.member.restarts (members a ++ members b)) ≡ members (leaving a g b)
heirs_sequence s [] g b h = refl
heirs_sequence s (x ∷ a) g b h =
    rw (last-not_zero s.next_id x a (ids_left s.next_id (ids (x ∷ a)) (g.member.id ∷ ids b) (ids_at s (x ∷ a) g b h)))
    (heirs_members s.next_id g x a (members b) (ids_left s.next_id (ids (x ∷ a)) (g.member.id ∷ ids b) (ids_at s (x ∷ a) g b h))
    ∙ sym (members_++ (heirs g (x ∷ a)) b))

-- all have finished d: the last can bear the mark
heirs_mark : (d : ℕ) (g x : Group) (l : List Group) → Each (HasFinished d) (x ∷ l) →
    MarkedAt d (last_id_or x.member.id (members l)) (heirs g (x ∷ l))
heirs_mark d g x [] h =
    let k = same_moved g.events g.member.restarts x in
    here k.same_id (whole (same-finished-it d x (add_events g.events g.member.restarts x) k h.0)) tt
heirs_mark d g x (y ∷ l) h = there h.0 (heirs_mark d g y l h.1)

leave-mark : (d i n : ℕ) (a : List Group) (g : Group) (b : List Group) → IdsOk n (ids a ++ (g.member.id ∷ ids b)) →
    MarkOk d i (a ++ (g ∷ b)) →
    MarkOk d (if eqb i g.member.id then last_id_or 0 (members a) else i) (leaving a g b)
leave-mark d i n a g b k m = go (see_mark d i a g b m)
  where
    j : ℕ
    j = g.member.id

    stays : i ≢ j → MarkOk d i (leaving a g b) → MarkOk d (if eqb i j then last_id_or 0 (members a) else i) (leaving a g b)
    stays e h = rw (ne_eqb i j e) h

    falls_back : (a : List Group) → Each (HasFinished d) a → Each (NotBegun d) b → MarkOk d (last_id_or 0 (members a)) (leaving a g b)
    falls_back [] f q = unmarked refl q
    falls_back (x ∷ a) f q = marked (upto_right d (last_id_or x.member.id (members a)) (heirs g (x ∷ a)) b (heirs_mark d g x a f) q)

    others : NotIn j (ids a ++ ids b)
    others = ids_other n (ids a) j (ids b) k

    go : MarkSeen d i a g b → MarkOk d (if eqb i j then last_id_or 0 (members a) else i) (leaving a g b)
    go (nowhere z p q s) =
        stays (λ e. each_mid (IsNot 0) (ids a) j (ids b) (ids_not_zero n (ids a ++ (j ∷ ids b)) k) (sym e ∙ z))
        (unmarked z (pairs_each (SameOn d) (NotBegun d) (same-not-begun d) (leaving_same_on d a g b q) (each_++ (NotBegun d) a b p s)))
    go (near (mark-ahead u q s)) =
        stays (in_other j i (ids a) (each_left (IsNot j) (ids a) (ids b) others) (upto_in d i a u))
        (marked (pairs_upto d i (a ++ b) (leaving a g b) (leaving_same_on d a g b q) (upto_right d i a b u s)))
    go (near (mark-here f e h s)) = rw (eq-eqb i j (sym e)) (falls_back a f s)
    go (near (mark-behind f h u)) =
        stays (in_other j i (ids b) (each_right (IsNot j) (ids a) (ids b) others) (upto_in d i b u))
        (marked (upto_left d i (heirs g a) b
        (each_left (HasFinished d) (heirs g a) []
        (same_each (HasFinished d) (same-finished-it d) (same_leaving a g []) (each_++ (HasFinished d) a [] f tt))) u))

pub hub-leaves : (s : State) (a : List Group) (g : Group) (b : List Group) → HubOk s (a ++ (g ∷ b)) →
    HubOk (abort s (found_at a g b)).state (leaving a g b)
unfolding abort leave attach move_marks
hub-leaves s a g b h = record {
  sequence_is = heirs_sequence s a g b h;
  ids_ok = rw (same_ids (same_leaving a g b), ids_++ a b) (ids_drop s.next_id (ids a) g.member.id (ids b) (ids_at s a g b h));
  marks = λ d. leave-mark d (s.mark d) s.next_id a g b (ids_at s a g b h) (h.marks d);
  nothing_left_all =
      same_each CommittedHasNothingLeft same_nothing_left (same_leaving a g b)
      (each_drop CommittedHasNothingLeft a g b h.nothing_left_all);
  turns = same_each CommandsInTurn same-turns (same_leaving a g b) (each_drop CommandsInTurn a g b h.turns);
  some_id = h.some_id;
}

finished-it-not_halfway : (d : ℕ) (g : Group) → HasFinished d g → NotHalfway d g
unfolding is_halfway
finished-it-not_halfway d g f = record { not_halfway = rw f.finished-it (and-false (is_running g.member && begun d g.member)) }

not-begun-not_halfway : (d : ℕ) (g : Group) → NotBegun d g → NotHalfway d g
unfolding is_halfway
not-begun-not_halfway d g q = record { not_halfway = rw (q.idle, and-false (is_running g.member)) refl }

-- one is halfway with d: no other is
pub others-not_halfway : (s : State) (d : ℕ) (a : List Group) (g : Group) (b : List Group) → HubOk s (a ++ (g ∷ b)) →
    is_halfway d g.member ≡ true → Each (NotHalfway d) a × Each (NotHalfway d) b
others-not_halfway s d a g b h t =
    let c = halfway_clear s d a g b h t in (
      each_map (HasFinished d) (NotHalfway d) (finished-it-not_halfway d) a c.ahead-finished-it,
      each_map (NotBegun d) (NotHalfway d) (not-begun-not_halfway d) b c.behind-not-begun,
    )

-- what comes ahead of an event; HubOk does not look at which devices are up
pub hub_gone : (s : State) (d : ℕ) (l : List Group) {r : Result} {lead : List Event} {k : List Group} → HubOk s l → Gone s d l r lead k →
    HubOk r.state k × Each (NotHalfway d) k
hub_gone s d l h (nobody c) = (h, c)
hub_gone s d l h (somebody a g b e t) =
    let m = subst (λ k. HubOk s k) e h in
    let o = others-not_halfway s d a g b m t in
    (hub-leaves s a g b m, same_each (NotHalfway d) (same-not_halfway d) (same_leaving a g b) (each_++ (NotHalfway d) a b o.0 o.1))
hub_gone s d l h (loses a g b e t _) =
    let m = subst (λ k. HubOk s k) e h in
    let o = others-not_halfway s d a g b m t in
    let f : HasFinished d (with g (skipped_left d g)) = record { finished-it = (skip_steps d g.member (in-turn s a g b m)).finishes_it } in
    (hub_loses s d a g b m t, each_++ (NotHalfway d) a _ o.0 (finished-it-not_halfway d (with g (skipped_left d g)) f, o.1))

-- ---- an event is attached to the mark

-- nobody has the id 0
attach_zero : (s : State) (l : List Group) → HubOk s l → (i : ℕ) (x : Event) → i ≡ 0 → attach_event i x l ≡ l
attach_zero s l h i x z = attach_miss i x l (subst (λ j. NotIn j (ids l)) (sym z) (ids_not_zero s.next_id (ids l) h.ids_ok))

-- once nobody is halfway, the routine at the mark has finished d
not_halfway_finished-it : (d : ℕ) (g : Group) → CommittedHasNothingLeft g → NotHalfway d g → AtMark d g → HasFinished d g
unfolding is_halfway is_running begun finished
not_halfway_finished-it d g s c (whole f) = f
not_halfway_finished-it d g s c (part b n) =
    nothing_left_finished-it d g s (λ e. let k = c.not_halfway in not-false (finished d g.member) (rw (e, b) at k))

upto_attach : (d i n : ℕ) (x : Event) (l : List Group) → IdsOk n (ids l) → Each CommittedHasNothingLeft l → Each (NotHalfway d) l →
    MarkedAt d i l → MarkedAt d i (attach_event i x l)
upto_attach d i n x [] k s c u = elim u [ ]
upto_attach d i n x (g ∷ l) k s c (here e h q) =
    let m = same_added x g in
    rw (eq-eqb g.member.id i e)
    (here (m.same_id ∙ e) (whole (same-finished-it d g (add_event x g) m (not_halfway_finished-it d g s.0 c.0 h))) q)
upto_attach d i n x (g ∷ l) k s c (there f u) =
    rw (ne_eqb g.member.id i (λ e. in_other g.member.id i (ids l) k.2 (upto_in d i l u) (sym e)))
    (there f (upto_attach d i n x l k.3 s.1 c.1 u))

-- x at the mark of its device; what the settled part leaves does not matter
event_ok : (s : State) (x : Event) (l : List Group) → HubOk s l → Each (NotHalfway (device_of x)) l → (q : List Member) (w : ℕ → ℤ) →
    let k = attach_event (s.mark (device_of x)) x l in
    q ≡ members k → HubOk (with_settled (with_sequence s q) w) k
event_ok s x l h c q w z = record {
  sequence_is = z;
  ids_ok = rw (same_ids alike) h.ids_ok;
  marks = marks;
  nothing_left_all = same_each CommittedHasNothingLeft same_nothing_left alike h.nothing_left_all;
  turns = same_each CommandsInTurn same-turns alike h.turns;
  some_id = h.some_id;
}
  where
    d : ℕ
    d = device_of x

    k : List Group
    k = attach_event (s.mark d) x l

    alike : Pairwise Same l k
    alike = same_attached (s.mark d) x l

    mine : (i : ℕ) → MarkOk d i l → MarkOk d i (attach_event i x l)
    mine i (unmarked e r) = unmarked e (subst (Each (NotBegun d)) (sym (attach_zero s l h i x e)) r)
    mine i (marked u) = marked (upto_attach d i s.next_id x l h.ids_ok h.nothing_left_all c u)

    added : (e : ℕ) → is_of e x ≡ false → (g : Group) → SameOn e g (add_event x g)
    added e n g =
        record {
          same_member = same_added x g;
          same_events = ap (λ (y : Group). any_of (is_of e) y.events) (added_is x g)
              ∙ no_more e g.events (x ∷ []) (rw n refl);
        }

    marks : (e : ℕ) → MarkOk e (s.mark e) k
    marks e =
        this_or_other (λ y. MarkOk y (s.mark y) k) d e (mine (s.mark d) (h.marks d))
        (λ n. pairs_mark e (s.mark e) l k (pairs_attached (SameOn e) (same_on_refl e) (s.mark d) x (added e (ne_eqb d e n)) l)
        (h.marks e))

pub hub-fails : (s : State) (d : ℕ) (l : List Group) → HubOk s l → Each (NotHalfway d) l →
    HubOk s (attach_event (s.mark d) (failure_event d) l)
hub-fails s d l h c = event_ok s (failure_event d) l h c s.sequence s.settled_at (h.sequence_is ∙ same_members l)
  where
    same_members : (l : List Group) → members l ≡ members (attach_event (s.mark d) (failure_event d) l)
    same_members [] = refl
    same_members (g ∷ l) =
        by_if (λ k. members (g ∷ l) ≡ members k) (eqb g.member.id (s.mark d)) (λ t. refl)
        (λ t. ap (λ k. g.member ∷ k) (same_members l))

pub hub-restarts : (s : State) (d : ℕ) (v : ℤ) (l : List Group) → HubOk s l → Each (NotHalfway d) l →
    HubOk (attach (s.mark d) (one_restart d v) s) (attach_event (s.mark d) (restart_event d v) l)
unfolding attach
hub-restarts s d v l h c =
    event_ok s x l h c _ _
    (by_if (λ q. q ≡ members (attach_event i x l)) (eqb i 0) (λ t. h.sequence_is ∙ ap members (sym (attach_zero s l h i x (eqb-true i 0 t))))
    (λ _. ap (attach_at i e) h.sequence_is ∙ attached l))
  where
    i : ℕ
    i = s.mark d

    x : Event
    x = restart_event d v

    e : ℕ → Option ℤ
    e = one_restart d v

    attached : (l : List Group) → attach_at i e (members l) ≡ members (attach_event i x l)
    attached [] = refl
    attached (g ∷ l) = go (attached l) (eqb g.member.id i)
      where
        go : attach_at i e (members l) ≡ members (attach_event i x l) → (b : Bool) →
            (if b then attach_to e g.member ∷ members l else g.member ∷ attach_at i e (members l)) ≡ members
            (if b then add_event x g ∷ l else g ∷ attach_event i x l)
        go ih true = refl
        go ih false = ap (λ k. g.member ∷ k) ih

-- it looks at the sequence, the ids and the marks alone
hub-same : (s t : State) (l : List Group) → t.sequence ≡ s.sequence → t.next_id ≡ s.next_id → ((d : ℕ) → t.mark d ≡ s.mark d) →
    HubOk s l → HubOk t l
hub-same s t l e n m h = record {
  sequence_is = e ∙ h.sequence_is;
  ids_ok = subst (λ i. IdsOk i (ids l)) (sym n) h.ids_ok;
  marks = λ d. subst (λ i. MarkOk d i l) (sym (m d)) (h.marks d);
  nothing_left_all = h.nothing_left_all;
  turns = h.turns;
  some_id = subst (λ i. 0 < i) (sym n) h.some_id;
}

-- other devices are up
pub hub-up : (s : State) (u : ℕ → Bool) (l : List Group) → HubOk s l → HubOk (with_up s u) l
hub-up s u l = hub-same s (with_up s u) l refl refl (λ d. refl)

-- a new pass limit
pub hub-limit : (s : State) (k : ℕ) (l : List Group) → HubOk s l → HubOk (with_pass_limit s k) l
hub-limit s k l = hub-same s (with_pass_limit s k) l refl refl (λ d. refl)

-- ---- routines settle

-- a first one that settles leaves as any other
join_ok : (s : State) (g : Group) (l : List Group) → HubOk (with_sequence s (members (g ∷ l))) (g ∷ l) →
    HubOk (with_sequence (join_settled s g.member) (members l)) l
unfolding join_settled move_marks
join_ok s g l h = record {
  sequence_is = refl;
  ids_ok = h.ids_ok.3;
  marks = λ d. leave-mark d (s.mark d) s.next_id [] g l h.ids_ok (h.marks d);
  nothing_left_all = h.nothing_left_all.1;
  turns = h.turns.1;
  some_id = h.some_id;
}

pub hub-settles : (s : State) (l : List Group) → HubOk s l → HubOk (settle s) (still_held l)
hub-settles s l h =
    settles (λ s l. HubOk (with_sequence s (members l)) l) HubOk (λ s g l _ h. join_ok s g l h) (λ s l _ h. h) s l h.sequence_is
    (subst (λ q. HubOk (with_sequence s q) l) h.sequence_is h)
