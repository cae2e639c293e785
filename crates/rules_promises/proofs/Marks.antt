-- Where the routines stand to a device's mark: those ahead of it have finished the device, those behind it have not begun it. By that a
-- turn and a report keep the hub's invariant. Assumes nothing.
use Rattle.rules_routine.proofs.Options.{none-ne-some}
use Rattle.std.proofs.Common.{None, Some}
use mathlib.Core.Path.{◌≡◌, refl, sym, ap, ◌∙◌, subst}
use mathlib.Core.Logic.{◌≢◌, inl, inr}
use mathlib.Core.Bool.{Bool, true, false, not, ◌&&◌}
use mathlib.Core.List.{List, [], ◌∷◌, ◌++◌}
use Prim.Native.Nat.{ℕ}
use native.Mathlib.Omega.{arith}
use borrow.Author.Tests.{not-true, not-false}
use Rattle.std.specs.Prelude.{if◌then◌else◌}
use Rattle.rules_routine.specs.Routine.{is_condition}
use Rattle.rules_routine.specs.declared.Command.{Command}
use Rattle.rules.specs.Tables.{any_of, Each}
use Rattle.rules.specs.State.{Status, was_skipped, Member, State}
use Rattle.rules.specs.Progress.{begun, finished, next, Flight, flight}
use Rattle.rules.specs.Due.{due}
use Rattle.rules.specs.Sequence.{is_running, with_mark, change}
use Rattle.rules.specs.Turn.{holds, has_set, holds_up, first_holding, mark_begun, commit, commit_turn, send_turn}
use Rattle.rules.specs.Report.{done_report, skipped_state, skip_report}
use Rattle.rules.specs.Events.{is_halfway, skip_rest}
use Rattle.rules.specs.Order.{is_of}
use Rattle.rules.proofs.Lists.{by_if, t≠f, or_left, and_left, and_right, this_or_other, put_same, put_other, each_++, each_left}
use Rattle.rules.proofs.Lists.{each_right}
use Rattle.rules.proofs.Lists.{each_mid, each_swap, IsNot, NotIn, In, IdsOk, ids_other, ids_not_zero}
use Rattle.rules_promises.proofs.Groups.{Group, members, ids, with, found_at, members_++, ids_++, ids_swap}
use Rattle.rules_promises.proofs.Steps.{InTurn, AnsweredOne, Passing, skipping, send-step, skip_step, done-step, fail_step}
use Rattle.rules_promises.proofs.Steps.{none_left}
use Rattle.rules_promises.proofs.Steps.{left_finished}
use Rattle.rules_promises.proofs.Steps.{left_grounded, skip_steps}
use Rattle.rules_promises.proofs.Invariant.{NotBegun, HasFinished, AtMark, whole, part, MarkedAt, here, there, MarkOk, unmarked}
use Rattle.rules_promises.proofs.Invariant.{marked}
use Rattle.rules_promises.proofs.Invariant.{CommittedHasNothingLeft, CommandsInTurn, HubOk}
use Rattle.rules_promises.proofs.View.{pass_turn, sent_member, passed_member, done_member, failed_member, skipped_left}

-- ---- the mark, seen from a routine of the sequence

pub data NearMark (d i : ℕ) (a : List Group) (g : Group) (b : List Group) : Type 0 where
  mark-ahead : MarkedAt d i a → NotBegun d g → Each (NotBegun d) b → NearMark d i a g b
  mark-here : Each (HasFinished d) a → g.member.id ≡ i → AtMark d g → Each (NotBegun d) b → NearMark d i a g b
  mark-behind : Each (HasFinished d) a → HasFinished d g → MarkedAt d i b → NearMark d i a g b

pub data MarkSeen (d i : ℕ) (a : List Group) (g : Group) (b : List Group) : Type 0 where
  nowhere : i ≡ 0 → Each (NotBegun d) a → NotBegun d g → Each (NotBegun d) b → MarkSeen d i a g b
  near : NearMark d i a g b → MarkSeen d i a g b

nearer : (d i : ℕ) (x : Group) (a : List Group) (g : Group) (b : List Group) → HasFinished d x → NearMark d i a g b →
    NearMark d i (x ∷ a) g b
nearer d i x a g b f (mark-ahead u q s) = mark-ahead (there f u) q s
nearer d i x a g b f (mark-here fs e h s) = mark-here (f, fs) e h s
nearer d i x a g b f (mark-behind fs k u) = mark-behind (f, fs) k u

see_upto : (d i : ℕ) (a : List Group) (g : Group) (b : List Group) → MarkedAt d i (a ++ (g ∷ b)) → NearMark d i a g b
see_upto d i [] g b (here e h q) = mark-here tt e h q
see_upto d i [] g b (there f u) = mark-behind tt f u
see_upto d i (x ∷ a) g b (here e h q) =
    let r = each_right (NotBegun d) a (g ∷ b) q in
    mark-ahead (here e h (each_left (NotBegun d) a (g ∷ b) q)) r.0 r.1
see_upto d i (x ∷ a) g b (there f u) = nearer d i x a g b f (see_upto d i a g b u)

pub see_mark : (d i : ℕ) (a : List Group) (g : Group) (b : List Group) → MarkOk d i (a ++ (g ∷ b)) → MarkSeen d i a g b
see_mark d i a g b (unmarked z q) = let r = each_right (NotBegun d) a (g ∷ b) q in
    nowhere z (each_left (NotBegun d) a (g ∷ b) q) r.0 r.1
see_mark d i a g b (marked u) = near (see_upto d i a g b u)

pub upto_right : (d i : ℕ) (a b : List Group) → MarkedAt d i a → Each (NotBegun d) b → MarkedAt d i (a ++ b)
upto_right d i [] b u q = elim u [ ]
upto_right d i (x ∷ a) b (here e h s) q = here e h (each_++ (NotBegun d) a b s q)
upto_right d i (x ∷ a) b (there f u) q = there f (upto_right d i a b u q)

pub upto_left : (d i : ℕ) (a b : List Group) → Each (HasFinished d) a → MarkedAt d i b → MarkedAt d i (a ++ b)
upto_left d i [] b f u = u
upto_left d i (x ∷ a) b f u = there f.0 (upto_left d i a b f.1 u)

-- and back
seen_back : (d i : ℕ) (a : List Group) (g : Group) (b : List Group) → MarkSeen d i a g b → MarkOk d i (a ++ (g ∷ b))
seen_back d i a g b (nowhere z p q s) = unmarked z (each_++ (NotBegun d) a (g ∷ b) p (q, s))
seen_back d i a g b (near (mark-ahead u q s)) = marked (upto_right d i a (g ∷ b) u (q, s))
seen_back d i a g b (near (mark-here f e h s)) = marked (upto_left d i a (g ∷ b) f (here e h s))
seen_back d i a g b (near (mark-behind f k u)) = marked (upto_left d i a (g ∷ b) f (there k u))

-- the mark's id is one of the sequence
pub upto_in : (d i : ℕ) (l : List Group) → MarkedAt d i l → In i (ids l)
upto_in d i [] u = elim u [ ]
upto_in d i (g ∷ l) (here e h q) = inl e
upto_in d i (g ∷ l) (there f u) = inr (upto_in d i l u)

-- ---- where d stands for a routine

-- d, at a routine g: everyone ahead has finished it, no event of it is attached to g, everyone behind is quiet
pub record ClearOfDevice (d : ℕ) (a : List Group) (g : Group) (b : List Group) : Type 0 where
  pub ahead-finished-it : Each (HasFinished d) a
  pub no_event : any_of (is_of d) g.events ≡ false
  pub behind-not-begun : Each (NotBegun d) b

-- a routine that has begun d and not finished it is at the mark
at_mark : (d i : ℕ) (a : List Group) (g : Group) (b : List Group) → begun d g.member ≡ true → finished d g.member ≡ false →
    MarkOk d i (a ++ (g ∷ b)) →
    ClearOfDevice d a g b × (g.member.id ≡ i)
at_mark d i a g b y n k = go (see_mark d i a g b k)
  where
    go : MarkSeen d i a g b → ClearOfDevice d a g b × (g.member.id ≡ i)
    go (nowhere z p q s) = t≠f (sym y ∙ q.idle)
    go (near (mark-ahead u q s)) = t≠f (sym y ∙ q.idle)
    go (near (mark-here f e (whole w) s)) = t≠f (sym w.finished-it ∙ n)
    go (near (mark-here f e (part x z) s)) = (record { ahead-finished-it = f; no_event = z; behind-not-begun = s }, e)
    go (near (mark-behind f w u)) = t≠f (sym w.finished-it ∙ n)

-- if everyone ahead has finished d and g has not, d's mark is not behind g
not_behind : (d i : ℕ) (a : List Group) (g : Group) (b : List Group) → Each (HasFinished d) a → finished d g.member ≡ false →
    MarkOk d i (a ++ (g ∷ b)) → ClearOfDevice d a g b
not_behind d i a g b f n k = go (see_mark d i a g b k)
  where
    go : MarkSeen d i a g b → ClearOfDevice d a g b
    go (nowhere z p q s) = record { ahead-finished-it = f; no_event = q.bare; behind-not-begun = s }
    go (near (mark-ahead u q s)) = record { ahead-finished-it = f; no_event = q.bare; behind-not-begun = s }
    go (near (mark-here p e (whole w) s)) = t≠f (sym w.finished-it ∙ n)
    go (near (mark-here p e (part x z) s)) = record { ahead-finished-it = f; no_event = z; behind-not-begun = s }
    go (near (mark-behind p w u)) = t≠f (sym w.finished-it ∙ n)

-- what is committed has finished every device, and has no command in flight
pub nothing_left_finished-it : (d : ℕ) (g : Group) → CommittedHasNothingLeft g →
    (g.member.committed ≡ false → finished d g.member ≡ true) → HasFinished d g
nothing_left_finished-it d g s f = record { finished-it = go g.member.committed refl }
  where
    go : (t : Bool) → g.member.committed ≡ t → finished d g.member ≡ true
    go true e = left_finished g.member d (s.nothing_left e)
    go false e = f e

pub flight-runs : (g : Group) (x : Flight) → CommittedHasNothingLeft g → flight g.member.steps ≡ Some x → g.member.committed ≡ false
flight-runs g x s f = go g.member.committed refl
  where
    go : (t : Bool) → g.member.committed ≡ t → t ≡ false
    go true e = absurd (none-ne-some x (sym (left_grounded g.member (s.nothing_left e)) ∙ f))
    go false e = refl

-- who does not hold d has finished it
unheld : (d : ℕ) (g : Group) → CommittedHasNothingLeft g → holds d g.member ≡ false → HasFinished d g
unfolding holds is_running finished
unheld d g s h = nothing_left_finished-it d g s (λ e. not-false (finished d g.member) (rw e at h))

-- the wait search finds nobody
pub none-held-up : (d : ℕ) (condition : Bool) (a : List Group) → first_holding d condition (members a) ≡ None →
    Each (λ g. holds_up d condition g.member ≡ false) a
none-held-up d condition [] e = tt
none-held-up d condition (g ∷ a) e = go (none-held-up d condition a) (holds_up d condition g.member) refl e
  where
    go : (first_holding d condition (members a) ≡ None → Each (λ g. holds_up d condition g.member ≡ false) a) → (t : Bool) →
        holds_up d condition g.member ≡ t → (if t then Some g.member.id else first_holding d condition (members a)) ≡ None →
        (holds_up d condition g.member ≡ false) × Each (λ g. holds_up d condition g.member ≡ false) a
    go ih true q e = let z : ◌≡◌ {A = ℕ} 0 1 = cc in absurd (omega arith)
    go ih false q e = (q, ih e)

none-holds : (d : ℕ) (condition : Bool) (a : List Group) → Each CommittedHasNothingLeft a →
    Each (λ g. holds_up d condition g.member ≡ false) a →
    Each (HasFinished d) a
unfolding holds_up
none-holds d condition [] s e = tt
none-holds d condition (g ∷ a) s e =
    (unheld d g s.0 (or_left (holds d g.member) (condition && has_set d g.member) e.0), none-holds d condition a s.1 e.1)

pub in-turn : (s : State) (a : List Group) (g : Group) (b : List Group) → HubOk s (a ++ (g ∷ b)) → InTurn g.member.steps
in-turn s a g b h = (each_mid CommandsInTurn a g b h.turns).turns

pub ids_at : (s : State) (a : List Group) (g : Group) (b : List Group) → HubOk s (a ++ (g ∷ b)) →
    IdsOk s.next_id (ids a ++ (g.member.id ∷ ids b))
ids_at s a g b h = subst (IdsOk s.next_id) (ids_++ a (g ∷ b)) h.ids_ok

-- the device of the next command, when nobody ahead holds it
pub turn_clear : (s : State) (a : List Group) (g : Group) (b : List Group) (c : Command) → HubOk s (a ++ (g ∷ b)) →
    next g.member.steps ≡ Some c → flight g.member.steps ≡ None → first_holding c.device (is_condition c) (members a) ≡ None →
    ClearOfDevice c.device a g b
turn_clear s a g b c h e f n =
    not_behind c.device (s.mark c.device) a g b
    (none-holds c.device (is_condition c) a (each_left CommittedHasNothingLeft a (g ∷ b) h.nothing_left_all)
    (none-held-up c.device (is_condition c) a n))
    (skip_step g.member (in-turn s a g b h) c was_skipped skipping e f).unfinished (h.marks c.device)

-- the device of the command in flight
pub flight_clear : (s : State) (a : List Group) (g : Group) (b : List Group) (x : Flight) → HubOk s (a ++ (g ∷ b)) →
    flight g.member.steps ≡ Some x → ClearOfDevice x.command.device a g b
flight_clear s a g b x h e =
    let y = done-step g.member (in-turn s a g b h) x e in
    (at_mark x.command.device (s.mark x.command.device) a g b y.had_begun y.unfinished (h.marks x.command.device)).0

-- a routine that has begun d and not finished it
pub record Halfway (d : ℕ) (m : Member) : Type 0 where
  pub runs : m.committed ≡ false
  pub has-begun : begun d m ≡ true
  pub unfinished : finished d m ≡ false

pub halfway_is : (d : ℕ) (m : Member) → is_halfway d m ≡ true → Halfway d m
unfolding is_halfway is_running
halfway_is d m e =
    let y = and_left (is_running m && begun d m) (not (finished d m)) e in
    record {
      runs = not-true m.committed (and_left (is_running m) (begun d m) y);
      has-begun = and_right (is_running m) (begun d m) y;
      unfinished = not-true (finished d m) (and_right (is_running m && begun d m) (not (finished d m)) e);
    }

-- it has the mark of d
pub halfway_marked : (s : State) (d : ℕ) (a : List Group) (g : Group) (b : List Group) → HubOk s (a ++ (g ∷ b)) →
    is_halfway d g.member ≡ true → ClearOfDevice d a g b × (g.member.id ≡ s.mark d)
halfway_marked s d a g b h e = let w = halfway_is d g.member e in at_mark d (s.mark d) a g b w.has-begun w.unfinished (h.marks d)

pub halfway_clear : (s : State) (d : ℕ) (a : List Group) (g : Group) (b : List Group) → HubOk s (a ++ (g ∷ b)) →
    is_halfway d g.member ≡ true → ClearOfDevice d a g b
halfway_clear s d a g b h e = (halfway_marked s d a g b h e).0

-- the mark in the list
pub data MarkPlace (d i : ℕ) (l : List Group) : Type 0 where
  at_zero : i ≡ 0 → NotIn i (ids l) → Each (NotBegun d) l → MarkPlace d i l
  at_group : (a : List Group) (g : Group) (b : List Group) → l ≡ a ++ (g ∷ b) → g.member.id ≡ i → i ≢ 0 → NotIn i (ids a) →
      Each (NotBegun d) b → MarkPlace d i l

upto_place : (d i : ℕ) (l : List Group) → MarkedAt d i l →
    (a : List Group) × (g : Group) × (b : List Group) × (l ≡ a ++ (g ∷ b)) × (g.member.id ≡ i) × Each (NotBegun d) b
upto_place d i [] u = elim u [ ]
upto_place d i (g ∷ l) (here e h q) = ([], g, l, refl, e, q)
upto_place d i (x ∷ l) (there f u) = let r = upto_place d i l u in (x ∷ r.0, r.1, r.2, ap (λ k. x ∷ k) r.3, r.4, r.5)

pub mark-place : (s : State) (l : List Group) → HubOk s l → (d : ℕ) → MarkPlace d (s.mark d) l
mark-place s l h d = go (h.marks d)
  where
    go : MarkOk d (s.mark d) l → MarkPlace d (s.mark d) l
    go (unmarked z q) = at_zero z (subst (λ i. NotIn i (ids l)) (sym z) (ids_not_zero s.next_id (ids l) h.ids_ok)) q
    go (marked u) =
        let r = upto_place d (s.mark d) l u in
        let i = r.1.member.id in
        let k = ids_at s r.0 r.1 r.2 (subst (HubOk s) r.3 h) in
        let ahead = each_left (IsNot i) (ids r.0) (ids r.2) (ids_other s.next_id (ids r.0) i (ids r.2) k) in
        at_group r.0 r.1 r.2 r.3 r.4
        (λ z. each_mid (IsNot 0) (ids r.0) i (ids r.2) (ids_not_zero s.next_id (ids r.0 ++ (i ∷ ids r.2)) k) (r.4 ∙ z))
        (subst (λ j. NotIn j (ids r.0)) r.4 ahead) r.5

-- ---- a routine changes in its place

-- a change of g that keeps which devices it has begun and those it has finished
swap_mark : (d i : ℕ) (a : List Group) (g : Group) (b : List Group) (n : Member) → n.id ≡ g.member.id → begun d n ≡ begun d g.member →
    (finished d g.member ≡ true → finished d n ≡ true) → MarkOk d i (a ++ (g ∷ b)) → MarkOk d i (a ++ (with g n ∷ b))
swap_mark d i a g b n e y f k = seen_back d i a (with g n) b (go (see_mark d i a g b k))
  where
    not-begun : NotBegun d g → NotBegun d (with g n)
    not-begun q = record { idle = y ∙ q.idle; bare = q.bare }

    done : HasFinished d g → HasFinished d (with g n)
    done q = record { finished-it = f q.finished-it }

    mark : AtMark d g → AtMark d (with g n)
    mark (whole q) = whole (done q)
    mark (part q z) = part (y ∙ q) z

    go : MarkSeen d i a g b → MarkSeen d i a (with g n) b
    go (nowhere z p q s) = nowhere z p (not-begun q) s
    go (near (mark-ahead u q s)) = near (mark-ahead u (not-begun q) s)
    go (near (mark-here p q w s)) = near (mark-here p (e ∙ q) (mark w) s)
    go (near (mark-behind p w u)) = near (mark-behind p (done w) u)

-- nothing is asked of a routine that runs
running : (g : Group) (n : Member) → n.committed ≡ false → CommittedHasNothingLeft (with g n)
running g n r = record { nothing_left = λ t. t≠f (sym t ∙ r) }

module _ (s : State) (a : List Group) (g : Group) (b : List Group) (h : HubOk s (a ++ (g ∷ b))) where
  -- g becomes n, with these marks
  hub_changes : (n : Member) (mark : ℕ → ℕ) → n.id ≡ g.member.id → CommittedHasNothingLeft (with g n) → InTurn n.steps →
      ((d : ℕ) → MarkOk d (mark d) (a ++ (with g n ∷ b))) →
      HubOk (with_mark (change s (found_at a g b) n) mark) (a ++ (with g n ∷ b))
  hub_changes n mark e c t k = record {
    sequence_is = sym (members_++ a (with g n ∷ b));
    ids_ok = rw (ids_swap a g (with g n) b e) h.ids_ok;
    marks = k;
    nothing_left_all = each_swap CommittedHasNothingLeft a g (with g n) b h.nothing_left_all c;
    turns = each_swap CommandsInTurn a g (with g n) b h.turns (record { turns = t });
    some_id = h.some_id;
  }

  -- a command on e begins: e's mark becomes g, if it is not g already
  begin_marks : (e : ℕ) (n : Member) → n.id ≡ g.member.id → ClearOfDevice e a g b → finished e g.member ≡ false → begun e n ≡ true →
      ((d : ℕ) → e ≢ d → begun d n ≡ begun d g.member) → ((d : ℕ) → finished d g.member ≡ true → finished d n ≡ true) →
      (d : ℕ) → MarkOk d (mark_begun g.member e s.mark d) (a ++ (with g n ∷ b))
  unfolding mark_begun
  begin_marks e n i c u y o f d = this_or_other (λ x. Ok x (mark_begun g.member e s.mark)) e d
      (by_if (Ok e) (begun e g.member)
      (λ p. subst (λ j. MarkOk e j (a ++ (with g n ∷ b))) (at_mark e (s.mark e) a g b p u (h.marks e)).1 mine)
      (λ _. rw (put_same s.mark e g.member.id) mine))
      (λ q. by_if (Ok d) (begun e g.member) (λ _. other q) (λ _. rw (put_other s.mark e g.member.id d (λ p. q (sym p))) (other q)))
    where
      Ok : ℕ → (ℕ → ℕ) → Type 0
      Ok x mark = MarkOk x (mark x) (a ++ (with g n ∷ b))

      mine : MarkOk e g.member.id (a ++ (with g n ∷ b))
      mine = seen_back e g.member.id a (with g n) b
          (near (mark-here c.ahead-finished-it i (part y c.no_event) c.behind-not-begun))

      other : e ≢ d → MarkOk d (s.mark d) (a ++ (with g n ∷ b))
      other q = swap_mark d (s.mark d) a g b n i (o d q) (f d) (h.marks d)

-- the five changes of a turn or a report keep the hub's invariant
pub hub_commits : (s : State) (a : List Group) (g : Group) (b : List Group) → HubOk s (a ++ (g ∷ b)) → flight g.member.steps ≡ None →
    next g.member.steps ≡ None →
    HubOk (commit_turn s (found_at a g b)).state (a ++ (with g (commit g.member) ∷ b))
unfolding commit_turn commit begun finished
hub_commits s a g b h f e =
    hub_changes s a g b h (commit g.member) s.mark refl (record { nothing_left = λ _. none_left g.member e f }) (in-turn s a g b h)
    (λ d. swap_mark d (s.mark d) a g b (commit g.member) refl refl (λ q. q) (h.marks d))

pub hub-sends : (s : State) (a : List Group) (g : Group) (b : List Group) (c : Command) → HubOk s (a ++ (g ∷ b)) →
    g.member.committed ≡ false →
    flight g.member.steps ≡ None → next g.member.steps ≡ Some c → first_holding c.device (is_condition c) (members a) ≡ None →
    HubOk (send_turn s (found_at a g b) c).state (a ++ (with g (sent_member s g c) ∷ b))
unfolding send_turn
hub-sends s a g b c h r f e n =
    let x = send-step g.member (in-turn s a g b h) c (due s c.device) e f in
    hub_changes s a g b h (sent_member s g c) (mark_begun g.member c.device s.mark) refl (running g (sent_member s g c) r)
    x.in-turn
    (begin_marks s a g b h c.device (sent_member s g c) refl (turn_clear s a g b c h e f n) x.unfinished x.begins x.other_begun
    (λ d q. x.finishes d ∙ q))

pub hub_passes : (s : State) (a : List Group) (g : Group) (b : List Group) (c : Command) (st : Status) → Passing st →
    HubOk s (a ++ (g ∷ b)) → g.member.committed ≡ false →
    flight g.member.steps ≡ None → next g.member.steps ≡ Some c → first_holding c.device (is_condition c) (members a) ≡ None →
    HubOk (pass_turn s (found_at a g b) c st).state (a ++ (with g (passed_member st g) ∷ b))
hub_passes s a g b c st p h r f e n =
    let x = skip_step g.member (in-turn s a g b h) c st p e f in
    hub_changes s a g b h (passed_member st g) (mark_begun g.member c.device s.mark) refl (running g (passed_member st g) r)
    x.in-turn
    (begin_marks s a g b h c.device (passed_member st g) refl (turn_clear s a g b c h e f n) x.unfinished x.begins x.other_begun
    x.finishes)

-- the command in flight, c, is answered
hub-answers : (s : State) (a : List Group) (g : Group) (b : List Group) (c : Command) (n : Member) → HubOk s (a ++ (g ∷ b)) →
    n.id ≡ g.member.id → n.committed ≡ false →
    AnsweredOne c g.member n → HubOk (change s (found_at a g b) n) (a ++ (with g n ∷ b))
hub-answers s a g b c n h i r x =
    hub_changes s a g b h n s.mark i (running g n r) x.in-turn
    (λ d. swap_mark d (s.mark d) a g b n i (x.same-begun d) (x.finishes d) (h.marks d))

pub hub_dones : (s : State) (a : List Group) (g : Group) (b : List Group) (x : Flight) → HubOk s (a ++ (g ∷ b)) →
    g.member.committed ≡ false →
    flight g.member.steps ≡ Some x → HubOk (done_report s (found_at a g b)).state (a ++ (with g (done_member g) ∷ b))
unfolding done_report
hub_dones s a g b x h r e = hub-answers s a g b x.command (done_member g) h refl r (done-step g.member (in-turn s a g b h) x e)

pub hub_misses : (s : State) (a : List Group) (g : Group) (b : List Group) (x : Flight) → HubOk s (a ++ (g ∷ b)) →
    g.member.committed ≡ false →
    flight g.member.steps ≡ Some x → HubOk (skip_report s (found_at a g b) x).state (a ++ (with g (failed_member g) ∷ b))
unfolding skip_report skipped_state
hub_misses s a g b x h r e = hub-answers s a g b x.command (failed_member g) h refl r (fail_step g.member (in-turn s a g b h) x e)

-- what is left on d is skipped by an event of it
pub hub_loses : (s : State) (d : ℕ) (a : List Group) (g : Group) (b : List Group) → HubOk s (a ++ (g ∷ b)) →
    is_halfway d g.member ≡ true →
    HubOk (skip_rest d s (found_at a g b)) (a ++ (with g (skipped_left d g) ∷ b))
unfolding skip_rest
hub_loses s d a g b h e =
    let n = skipped_left d g in
    let w = halfway_is d g.member e in
    let x = skip_steps d g.member (in-turn s a g b h) in
    hub_changes s a g b h n s.mark refl (running g n w.runs) x.in-turn
    (λ c. swap_mark c (s.mark c) a g b n refl (x.same-begun w.has-begun c) (x.finishes c) (h.marks c))
