-- An abort, at a call of the routine's own or ahead of a failure or restart, and such an event: each device still comes to its due setting.
-- Assumes nothing.
use Rattle.std.proofs.Common.{Option, None, Some}
use mathlib.Core.Path.{◌≡◌, refl, sym, ap, ◌∙◌, subst}
use mathlib.Core.Logic.{◌≢◌}
use mathlib.Core.Bool.{Bool, true, false, not, ◌&&◌, ◌||◌, or-true}
use mathlib.Core.List.{List, [], ◌∷◌, ◌++◌}
use Prim.Native.Nat.{ℕ, zero, suc, ◌+◌, ◌<◌, ◌≤◌}
use native.Mathlib.Omega.{arith}
use borrow.Author.Tests.{eqb-true, eq-eqb, ne_eqb}
use lib.Dec.{eqb}
use lib.IntN.{ℤ}
use Rattle.std.specs.Prelude.{if◌then◌else◌}
use Rattle.rules.specs.Tables.{any_of, put, same_setting, Each}
use Rattle.rules.specs.State.{Member, State}
use Rattle.rules.specs.Answers.{Call, failure, restart, Back, Answer, down, up, Result}
use Rattle.rules.specs.Progress.{in_flight_on}
use Rattle.rules.specs.Due.{after_restart, after_member, after_members, due}
use Rattle.rules.specs.Sequence.{with_up}
use Rattle.rules.specs.Abort.{leave, is_put_back, put_backs, abort}
use Rattle.rules.specs.Events.{skip_rest}
use Rattle.rules.specs.History.{Account, event_account, note_answers}
use Rattle.rules.specs.Order.{Event, failure_event, restart_event}
use Rattle.rules.specs.World.{sent_for, Message, Device, receives, put_back, put_all_back, drops, drop_reported, devices_after}
use Rattle.rules.specs.World.{devices_after_all}
use Rattle.rules.specs.Attach.{attach_to, settle_restarts, attach_at, attach, one_restart}
use Rattle.rules.proofs.Lists.{by_if, t≠f, this_or_other, same-setting, put_same, put_other, put_keeps, fold_++, each_++, each_right}
use Rattle.rules.proofs.Lists.{each_mid, each_drop, each_swap, NotIn}
use Rattle.rules_promises.proofs.Groups.{Group, members, ids, with, found_at, leaving, attach_event, other_ids}
use Rattle.rules_promises.proofs.Same.{Pairwise, Same, same_leaving, same_attached}
use Rattle.rules_promises.proofs.Steps.{LeftSkipped, flight_on, skip_steps}
use Rattle.rules_promises.proofs.Invariant.{NotBegun, HubOk, NotHalfway, EventsOk, CountedSend, CountedMessage, back_to}
use Rattle.rules_promises.proofs.Invariant.{ReachesSetting}
use Rattle.rules_promises.proofs.Invariant.{has}
use Rattle.rules_promises.proofs.Invariant.{goes-back, NoFlightOn, OneFlightOn, first_has_it, later_has_it, DeviceAt, is_down}
use Rattle.rules_promises.proofs.Invariant.{none_on_it}
use Rattle.rules_promises.proofs.Invariant.{one_on_it, DeviceOk, PremiseOnCall}
use Rattle.rules_promises.proofs.View.{skipped_left, Aborts, by_turn, by_report, by_cancel, Gone, nobody, somebody, loses}
use Rattle.rules_promises.proofs.Runs.{restart-later, one-here, one_other, not-begun_members, events_leaving}
use Rattle.rules_promises.proofs.Fields.{Fixed, gone_fixed, attach_fixed}
use Rattle.rules_promises.proofs.Marks.{in-turn, MarkPlace, at_zero, at_group, mark-place}
use Rattle.rules_promises.proofs.Moved.{hub-leaves, hub_gone, hub-up}
use Rattle.rules_promises.proofs.Kept.{all_no_flight_on}
use Rattle.rules_promises.proofs.Running.{note_++}
use Rattle.rules_promises.proofs.Accounts.{TellsEvent, event-sends}
use Rattle.rules_promises.proofs.Messages.{ok_state, no_flights_on_same, one_same, ok_same, no_flights_on_any, one_any, one_this}
use Rattle.rules_promises.proofs.Messages.{one-drop}
use Rattle.rules_promises.proofs.Messages.{ok_sends, SameForOthers, ended_at, alike_ended, alike_drops, one_alike, AfterCall}
use Rattle.rules_promises.proofs.Devices.{due-steps}

-- ---- what is put back

past_backs : (s : State) (m : Member) (t : State) (d left e : ℕ) (ds : ℕ → Device) → d < e → put_all_back (put_backs s m t e left) ds d ≡ ds d
unfolding put_backs
past_backs s m t d zero e ds n = refl
past_backs s m t d (suc left) e ds n =
    by_if (λ l. put_all_back l ds d ≡ ds d) (is_put_back s m t e)
    (λ _. past_backs s m t d left (suc e) _ (omega arith) ∙ put_other ds e _ d (omega arith))
    (λ _. past_backs s m t d left (suc e) ds (omega arith))

-- d gets one setting at most
backs_at : (s : State) (m : Member) (t : State) (d left e : ℕ) (ds : ℕ → Device) → e ≤ d → d < e + left →
    put_all_back (put_backs s m t e left) ds d ≡ (if is_put_back s m t d then receives (back_to (due t d)) (ds d) else ds d)
unfolding put_backs
backs_at s m t d zero e ds n h = absurd (omega arith)
backs_at s m t d (suc left) e ds n h =
    this_or_other (λ f. put_all_back (put_backs s m t f (suc left)) ds d ≡ to (ds d)) d e (at_d (is_put_back s m t d))
    (λ q. by_if (λ l. put_all_back l ds d ≡ to (ds d)) (is_put_back s m t e)
    (λ _. backs_at s m t d left (suc e) _ (omega arith) (omega arith) ∙ ap to (put_other ds e _ d q))
    (λ _. backs_at s m t d left (suc e) ds (omega arith) (omega arith)))
  where
    to : Device → Device
    to w = if is_put_back s m t d then receives (back_to (due t d)) w else w

    at_d : (q : Bool) →
        put_all_back (if q then record { device = d; setting = due t d } ∷ put_backs s m t (suc d) left else put_backs s m t (suc d) left) ds d
        ≡ (if q then receives (back_to (due t d)) (ds d) else ds d)
    at_d true = past_backs s m t d left (suc d) _ (omega arith) ∙ put_same ds d _
    at_d false = past_backs s m t d left (suc d) ds (omega arith)

-- a part of a device that nothing sent to it changes
backs_keep : {A : Type 0} (f : Device → A) → ((m : Message) (w : Device) → f (receives m w) ≡ f w) →
    (d : ℕ) (l : List Back) (ds : ℕ → Device) → f (put_all_back l ds d) ≡ f (ds d)
backs_keep f r d [] ds = refl
backs_keep f r d (b ∷ l) ds = backs_keep f r d l (put_back b ds) ∙ put_keeps f ds b.device _ (r _ (ds b.device)) d

-- ---- a routine leaves

-- w before, u after the report; b: the accounts after the call
leave_at : (d : ℕ) (s : State) (a b : ℕ → Account) (x : List Group) (g : Group) (y : List Group) (w u : Device) → HubOk s (x ++ (g ∷ y)) →
    SameForOthers g.member.id a b w u →
    DeviceAt d (s.up d) (due s d) a (x ++ (g ∷ y)) w →
    let t = leave s (found_at x g y) in
    DeviceAt d (t.up d) (due t d) b (leaving x g y) (if is_put_back s g.member t d then receives (back_to (due t d)) u else u)
unfolding abort leave attach is_put_back
leave_at d s a b x g y w u h q at = go at
  where
    t : State
    t = leave s (found_at x g y)

    k : List Group
    k = leaving x g y

    hub : HubOk t k
    hub = hub-leaves s x g y h

    no_flights_on : Each (NoFlightOn d) (x ++ y) → Each (NoFlightOn d) k
    no_flights_on = no_flights_on_same d (same_leaving x g y)

    -- the due setting changed, or the routine had a command in flight on d
    touched : Bool
    touched = not (same_setting (due s d) (due t d)) || in_flight_on d g.member

    back_is : (f : Bool) → s.up d ≡ true → any_of (in_flight_on d) (members k) ≡ f → is_put_back s g.member t d ≡ (not f && touched)
    back_is f p n = rw (p, hub.sequence_is, n) refl

    Goal : Bool → Type 0
    Goal r = DeviceAt d (t.up d) (due t d) b k (if r then receives (back_to (due t d)) u else u)

    -- nobody is in flight on d any more
    ends : s.up d ≡ true → Each (NoFlightOn d) (x ++ y) → (r : Bool) → touched ≡ r → Goal r → Goal (is_put_back s g.member t d)
    ends p l r n at = subst Goal (sym (back_is false p (no_flights_on_any d k (no_flights_on l)) ∙ n)) at

    nobody_flies : s.up d ≡ true → Each (NoFlightOn d) (x ++ y) → in_flight_on d g.member ≡ false →
        ReachesSetting w.setting (due s d) w.sent → (r : Bool) → same_setting (due s d) (due t d) ≡ r →
        Goal (is_put_back s g.member t d)
    nobody_flies p l f c true n =
        ends p l false (rw (n, f) refl)
        (none_on_it p (no_flights_on l)
        (subst (λ v. ReachesSetting u.setting v u.sent) (same-setting (due s d) (due t d) n) (q.same_reaches (due s d) c)))
    nobody_flies p l f c false n = ends p l true (rw n refl) (none_on_it p (no_flights_on l) (goes-back u.sent refl))

    -- it is g, or another
    somebody_flies : s.up d ≡ true → OneFlightOn d a w (x ++ (g ∷ y)) → (f : Bool) → in_flight_on d g.member ≡ f →
        Goal (is_put_back s g.member t d)
    somebody_flies p o true f =
        let z = flight_on g.member (in-turn s x g y h) d f in
        let r = one_this d a w x g y z.0 z.1 f o in
        let l = each_++ (NoFlightOn d) x y r.0 r.2 in
        ends p l true (rw f (or-true (not (same_setting (due s d) (due t d))))) (none_on_it p (no_flights_on l) (goes-back u.sent refl))
    somebody_flies p o false f = subst Goal (sym (back_is true p (one_any d b u k hub.turns flies))) (one_on_it p flies)
      where
        flies : OneFlightOn d b u k
        flies = one_same d b u (same_leaving x g y)
            (one_alike d g.member.id a b (x ++ y) w u q (other_ids s.next_id x g y h.ids_ok)
            (one-drop d a w x g y (in-turn s x g y h) (record { no_flight_on = f }) o))

    go : DeviceAt d (s.up d) (due s d) a (x ++ (g ∷ y)) w → Goal (is_put_back s g.member t d)
    go (is_down p n) = subst Goal (sym (ap (λ r. r && not (any_of (in_flight_on d) t.sequence) && touched) p)) (is_down p (q.same_empty n))
    go (none_on_it p l c) =
        nobody_flies p (each_drop (NoFlightOn d) x g y l) (each_mid (NoFlightOn d) x g y l).no_flight_on c
        (same_setting (due s d) (due t d)) refl
    go (one_on_it p o) = somebody_flies p o (in_flight_on d g.member) refl

-- ---- an abort

abort-device : (d : ℕ) (s : State) (a : ℕ → Account) (ds : ℕ → Device) (v : ℤ) (c : Call) (x : List Group) (g : Group) (y : List Group) →
    d < s.devices → HubOk s (x ++ (g ∷ y)) →
    (let b = ended_at g.member.id a in SameForOthers g.member.id a b (ds d) (drop_reported c b ds d)) →
    DeviceOk d s a (x ++ (g ∷ y)) (ds d) → AfterCall d a ds v c (abort s (found_at x g y)) (leaving x g y)
unfolding abort
abort-device d s a ds v c x g y n h q o =
    subst (λ w. DeviceOk d t b (leaving x g y) w)
    (sym (backs_at s g.member t d s.devices 0 (drop_reported c b ds) (omega arith) (omega arith))) (record {
      old_sent = by_if (λ (w : Device). Each (CountedMessage b) w.sent) (is_put_back s g.member t d)
          (λ _. each_++ (CountedMessage b) u.sent (back_to (due t d) ∷ []) (q.same_sent o.old_sent) (tt, tt))
          (λ _. q.same_sent o.old_sent);
      old_took = by_if (λ (w : Device). Each (CountedSend b) w.took) (is_put_back s g.member t d) (λ _. q.same-took o.old_took)
          (λ _. q.same-took o.old_took);
      device_at = leave_at d s a b x g y (ds d) u h q o.device_at;
    })
  where
    t : State
    t = leave s (found_at x g y)

    b : ℕ → Account
    b = ended_at g.member.id a

    u : Device
    u = drop_reported c b ds d

pub device_aborts : (d : ℕ) (s : State) (a : ℕ → Account) (ds : ℕ → Device) (v : ℤ) (c : Call) (x : List Group) (g : Group)
    (y : List Group) → d < s.devices → HubOk s (x ++ (g ∷ y)) →
    DeviceOk d s a (x ++ (g ∷ y)) (ds d) → Aborts g c → AfterCall d a ds v c (abort s (found_at x g y)) (leaving x g y)
device_aborts d s a ds v c x g y n h o q = abort-device d s a ds v c x g y n h (drops_own c q) o
  where
    i : ℕ
    i = g.member.id

    b : ℕ → Account
    b = ended_at i a

    -- a report drops what was sent for its own routine
    drops_own : (c : Call) → Aborts g c → SameForOthers i a b (ds d) (drop_reported c b ds d)
    drops_own c (by_turn j p f) = alike_ended i a (ds d)
    drops_own c (by_report j code z p f m) =
        subst (λ k. SameForOthers i a b (ds d) (drops (sent_for k (b k).sends) (ds d))) p
        (alike_drops i (b i).sends a b (ds d) (ds d) (alike_ended i a (ds d)))
    drops_own c (by_cancel j p) = alike_ended i a (ds d)

-- ---- what comes ahead of an event of e

-- a call that is no report
abbrev Plain : Call → Type 0
Plain c = (b : ℕ → Account) (ds : ℕ → Device) → drop_reported c b ds ≡ ds

-- g loses what is left on e, which is down: nobody else looks at that
module _ (s : State) (e : ℕ) (x : List Group) (g : Group) (y : List Group) (h : HubOk s (x ++ (g ∷ y))) (n : s.up e ≡ false) where
  skips_it : LeftSkipped e g.member (skipped_left e g)
  skips_it = skip_steps e g.member (in-turn s x g y h)

  no_flight_stays : (d : ℕ) → e ≢ d → NoFlightOn d g → NoFlightOn d (with g (skipped_left e g))
  no_flight_stays d o f = record { no_flight_on = skips_it.other_flies d o ∙ f.no_flight_on }

  one_stays : (d : ℕ) (a : ℕ → Account) (w : Device) → e ≢ d → (x : List Group) → OneFlightOn d a w (x ++ (g ∷ y)) →
      OneFlightOn d a w (x ++ (with g (skipped_left e g) ∷ y))
  one_stays d a w o [] (first_has_it f p c k r) = first_has_it f (skips_it.flight_stays f p (λ z. o (sym z ∙ c))) c k r
  one_stays d a w o [] (later_has_it f k) = later_has_it (no_flight_stays d o f) k
  one_stays d a w o (z ∷ x) (first_has_it f p c k r) =
      first_has_it f p c k
      (each_swap (NoFlightOn d) x g (with g (skipped_left e g)) y r (no_flight_stays d o (each_mid (NoFlightOn d) x g y r)))
  one_stays d a w o (z ∷ x) (later_has_it f k) = later_has_it f (one_stays d a w o x k)

  loses_device : (d : ℕ) (a : ℕ → Account) (ds : ℕ → Device) (v : ℤ) → DeviceOk d s a (x ++ (g ∷ y)) (ds d) →
      DeviceOk d (skip_rest e s (found_at x g y)) a (x ++ (with g (skipped_left e g) ∷ y)) (ds d)
  unfolding skip_rest
  loses_device d a ds v o = record { old_sent = o.old_sent; old_took = o.old_took; device_at = go o.device_at }
    where
      t : State
      t = skip_rest e s (found_at x g y)

      k : List Group
      k = x ++ (with g (skipped_left e g) ∷ y)

      same : due t d ≡ due s d
      same = due-steps s a x g y ds v h d (skipped_left e g).steps (skips_it.same_after d)

      other : s.up d ≡ true → e ≢ d
      other u z = t≠f (sym u ∙ ap s.up (sym z) ∙ n)

      go : DeviceAt d (s.up d) (due s d) a (x ++ (g ∷ y)) (ds d) → DeviceAt d (s.up d) (due t d) a k (ds d)
      go (is_down u z) = is_down u z
      go (none_on_it u f c) =
          none_on_it u
          (each_swap (NoFlightOn d) x g (with g (skipped_left e g)) y f (no_flight_stays d (other u) (each_mid (NoFlightOn d) x g y f)))
          (subst (λ z. ReachesSetting (ds d).setting z (ds d).sent) (sym same) c)
      go (one_on_it u f) = one_on_it u (one_stays d a (ds d) (other u) x f)

module _ (s : State) (e : ℕ) (l : List Group) where
  gone_old : (a : ℕ → Account) (c : Call) (w : Device) → Each (CountedSend a) w.took →
      {r : Result} {lead : List Event} {k : List Group} → Gone s e l r lead k →
      Each (CountedSend (note_answers c r.answers a)) w.took
  unfolding abort
  gone_old a c w o (nobody n) = o
  gone_old a c w o (somebody x g y p n) = (alike_ended g.member.id a w).same-took o
  gone_old a c w o (loses x g y p n m) = o

  gone_events : {r : Result} {lead : List Event} {k : List Group} → Each EventsOk l → Gone s e l r lead k → Each EventsOk k
  gone_events h (nobody n) = h
  gone_events h (somebody x g y p n) = events_leaving x g y (subst (Each EventsOk) p h)
  gone_events h (loses x g y p n m) =
      let w = subst (Each EventsOk) p h in
      each_swap EventsOk x g (with g (skipped_left e g)) y w (record { events_ok = (each_mid EventsOk x g y w).events_ok })

  gone_keeps : {A : Type 0} (f : Device → A) → ((m : Message) (w : Device) → f (receives m w) ≡ f w) →
      (d : ℕ) (a : ℕ → Account) (ds : ℕ → Device) (v : ℤ) (c : Call) → Plain c →
      {r : Result} {lead : List Event} {k : List Group} → Gone s e l r lead k → f (devices_after_all c a v r.answers ds d) ≡ f (ds d)
  unfolding abort
  gone_keeps f m d a ds v c q (nobody n) = refl
  gone_keeps f m d a ds v c q (somebody x g y p n) =
      backs_keep f m d (put_backs s g.member (leave s (found_at x g y)) 0 s.devices) (drop_reported c a ds) ∙ ap (λ x. f (x d)) (q a ds)
  gone_keeps f m d a ds v c q (loses x g y p n z) = refl

  -- the devices do not look at the accounts
  gone_alike : (a b : ℕ → Account) (ds : ℕ → Device) (v : ℤ) (c : Call) → Plain c →
      {r : Result} {lead : List Event} {k : List Group} → Gone s e l r lead k →
      devices_after_all c a v r.answers ds ≡ devices_after_all c b v r.answers ds
  unfolding abort
  gone_alike a b ds v c q (nobody n) = refl
  gone_alike a b ds v c q (somebody x g y p n) =
      ap (put_all_back (put_backs s g.member (leave s (found_at x g y)) 0 s.devices)) (q a ds ∙ sym (q b ds))
  gone_alike a b ds v c q (loses x g y p n m) = refl

  gone_device : (d : ℕ) (a : ℕ → Account) (ds : ℕ → Device) (v : ℤ) (c : Call) → Plain c → d < s.devices → HubOk s l →
      s.up e ≡ false → DeviceOk d s a l (ds d) →
      {r : Result} {lead : List Event} {k : List Group} → Gone s e l r lead k → AfterCall d a ds v c r k
  gone_device d a ds v c q n h w o (nobody m) = o
  gone_device d a ds v c q n h w o (somebody x g y p m) =
      let b = ended_at g.member.id a in
      abort-device d s a ds v c x g y n (subst (HubOk s) p h)
      (subst (λ f. SameForOthers g.member.id a b (ds d) (f d)) (sym (q b ds)) (alike_ended g.member.id a (ds d)))
      (subst (λ k. DeviceOk d s a k (ds d)) p o)
  gone_device d a ds v c q n h w o (loses x g y p m z) =
      loses_device s e x g y (subst (HubOk s) p h) w d a ds v (subst (λ k. DeviceOk d s a k (ds d)) p o)

-- ---- an event

-- the event's own answer comes last; neither it nor the abort before it makes the devices look at the accounts
answer-last : (d : ℕ) (a : ℕ → Account) (ds : ℕ → Device) (v : ℤ) (c : Call) (x : List Answer) (y : Answer) (t : State) (k : List Group) →
    (e : ℕ) → TellsEvent e c y →
    ((b f : ℕ → Account) → devices_after_all c b v (x ++ (y ∷ [])) ds ≡ devices_after_all c f v (x ++ (y ∷ [])) ds) →
    (let b = note_answers c x a in DeviceOk d t b k (devices_after_all c b v (x ++ (y ∷ [])) ds d)) →
    AfterCall d a ds v c (record { state = t; answers = x ++ (y ∷ []) }) k
answer-last d a ds v c x y t k e n f o =
    let b = note_answers c x a in
    let z = note_answers c (x ++ (y ∷ [])) a in
    let same : z ≡ (λ i. event_account e (b i)) = note_++ c x (y ∷ []) a ∙ n b in
    ok_sends d t b z k (devices_after_all c z v (x ++ (y ∷ [])) ds d) (λ i. sym (ap (λ g. (g i).sends) same ∙ event-sends e (b i)))
    (subst (λ g. DeviceOk d t b k (g d)) (f b z) o)

-- the devices after the event
last-device : (c : Call) (b : ℕ → Account) (v : ℤ) (x : List Answer) (y : Answer) (ds : ℕ → Device) →
    devices_after_all c b v (x ++ (y ∷ [])) ds ≡ devices_after c b v y (devices_after_all c b v x ds)
last-device c b v x y ds = fold_++ (devices_after_all c b v) (λ w. refl) (λ z l w. refl) x (y ∷ []) ds

due-up : (s : State) (u : ℕ → Bool) (d : ℕ) → due (with_up s u) d ≡ due s d
unfolding due
due-up s u d = refl

pub device-fails : (d : ℕ) (s : State) (a : ℕ → Account) (l : List Group) (ds : ℕ → Device) (v : ℤ) → d < s.devices → HubOk s l →
    DeviceOk d s a l (ds d) →
    (e : ℕ) (r : Result) (lead : List Event) (k : List Group) → Gone (with_up s (put s.up e false)) e l r lead k →
    AfterCall d a ds v (failure e) (record { state = r.state; answers = r.answers ++ (down e (r.state.mark e) ∷ []) })
    (attach_event (r.state.mark e) (failure_event e) k)
device-fails d s a l ds v n h o e r lead k gone =
    answer-last d a ds v (failure e) r.answers y r.state j e (λ b. refl)
    (λ b f. last-device (failure e) b v r.answers y ds
    ∙ ap (λ ws. devices_after (failure e) f v y ws) (gone_alike t e l b f ds v (failure e) (λ b ds. refl) gone)
    ∙ sym (last-device (failure e) f v r.answers y ds))
    (subst (λ ws. DeviceOk d r.state b j (ws d)) (sym (last-device (failure e) b v r.answers y ds))
    (by_if (λ w. DeviceOk d r.state b j w) (eqb d e) this other))
  where
    t : State
    t = with_up s (put s.up e false)

    y : Answer
    y = down e (r.state.mark e)

    b : ℕ → Account
    b = note_answers (failure e) r.answers a

    fs : ℕ → Device
    fs = devices_after_all (failure e) b v r.answers ds

    j : List Group
    j = attach_event (r.state.mark e) (failure_event e) k

    this : eqb d e ≡ true → DeviceOk d r.state b j (record { setting = v; sent = []; took = (fs e).took })
    this i = record {
      old_sent = tt;
      old_took = subst (λ l. Each (CountedSend b) l)
          (sym (gone_keeps t e l (λ (w : Device). w.took) (λ m w. refl) d b ds v (failure e) (λ b ds. refl) gone)
          ∙ ap (λ j. (fs j).took) (eqb-true d e i))
          (gone_old t e l a (failure e) (ds d) o.old_took gone);
      device_at = is_down (ap (λ (x : Fixed). x.up d) (gone_fixed t e l gone) ∙ rw i refl) refl;
    }

    other : eqb d e ≡ false → DeviceOk d r.state b j (fs d)
    other i = ok_same d r.state b k j (fs d) (same_attached (r.state.mark e) (failure_event e) k)
        (gone_device t e l d a ds v (failure e) (λ b ds. refl) n (hub-up s (put s.up e false) l h) (put_same s.up e false)
        (ok_state d s t a l (ds d) (rw i refl) (due-up s (put s.up e false) d) o) gone)

-- ---- a restart is attached

-- what d is due after a routine with more restarts
attached_after : (d : ℕ) (f : ℕ → Option ℤ) (m : Member) (v : ℤ) → after_member d (attach_to f m) v ≡ after_restart (f d) (after_member d m v)
unfolding after_member attach_to
attached_after d f m v = restart-later (m.restarts d) (f d) _

at_other : (d i : ℕ) (f : ℕ → Option ℤ) → f d ≡ None → (l : List Member) (v : ℤ) → after_members d (attach_at i f l) v ≡ after_members d l v
at_other d i f n [] v = refl
at_other d i f n (m ∷ l) v =
    by_if (λ k. after_members d k v ≡ after_members d (m ∷ l) v) (eqb m.id i)
    (λ _. ap (λ u. after_members d l u) (attached_after d f m v ∙ ap (λ x. after_restart x (after_member d m v)) n))
    (λ _. at_other d i f n l (after_member d m v))

-- restarts of other devices change nothing of d
due_other : (d i : ℕ) (f : ℕ → Option ℤ) (s : State) → f d ≡ None → due (attach i f s) d ≡ due s d
unfolding attach due settle_restarts
due_other d i f s n = go (eqb i 0)
  where
    go : (b : Bool) →
        after_members d (if b then s.sequence else attach_at i f s.sequence)
        ((if b then settle_restarts f s.settled_at else s.settled_at) d) ≡ due s d
    go true = ap (λ x. after_members d s.sequence (after_restart x (s.settled_at d))) n
    go false = at_other d i f n s.sequence (s.settled_at d)

-- a restart of e at a routine behind which everyone is quiet
at_this : (e i : ℕ) (f : ℕ → Option ℤ) (w : ℤ) → f e ≡ Some w → (x : List Group) (g : Group) (y : List Group) → NotIn i (ids x) →
    g.member.id ≡ i → Each EventsOk y → Each (NotBegun e) y →
    (v : ℤ) → after_members e (attach_at i f (members (x ++ (g ∷ y)))) v ≡ w
at_this e i f w p [] g y n j k q v =
    rw (eq-eqb g.member.id i j)
    (ap (λ u. after_members e (members y) u) (attached_after e f g.member v ∙ ap (λ o. after_restart o (after_member e g.member v)) p)
    ∙ not-begun_members e y w k q)
at_this e i f w p (h ∷ x) g y n j k q v =
    rw (ne_eqb h.member.id i n.0) (at_this e i f w p x g y n.1 j k q (after_member e h.member v))

due_this : (e : ℕ) (w : ℤ) (s : State) (l : List Group) → HubOk s l → Each EventsOk l → due (attach (s.mark e) (one_restart e w) s) e ≡ w
unfolding attach due settle_restarts
due_this e w s l h k = go (mark-place s l h e)
  where
    i : ℕ
    i = s.mark e

    f : ℕ → Option ℤ
    f = one_restart e w

    go : MarkPlace e i l → due (attach i f s) e ≡ w
    go (at_zero z n q) = rw (eq-eqb i 0 z, h.sequence_is, one-here e w) (not-begun_members e l w k q)
    go (at_group x g y p j z n q) =
        rw (ne_eqb i 0 z, h.sequence_is, p)
        (at_this e i f w (one-here e w) x g y n j (each_right EventsOk x (g ∷ y) (subst (Each EventsOk) p k)).1 q (s.settled_at e))

dead_empty : (d : ℕ) (t : Bool) (v : ℤ) (a : ℕ → Account) (l : List Group) (w : Device) → t ≡ false → DeviceAt d t v a l w → w.sent ≡ []
dead_empty d t v a l w e (is_down p n) = n
dead_empty d t v a l w e (none_on_it p s c) = t≠f (sym p ∙ e)
dead_empty d t v a l w e (one_on_it p o) = t≠f (sym p ∙ e)

pub device-restarts : (d : ℕ) (s : State) (a : ℕ → Account) (l : List Group) (ds : ℕ → Device) (v : ℤ) → d < s.devices → HubOk s l →
    Each EventsOk l → DeviceOk d s a l (ds d) →
    (e : ℕ) (w : ℤ) → PremiseOnCall a ds (restart e w) → (r : Result) (lead : List Event) (k : List Group) → s.up e ≡ false →
    Gone s e l r lead k →
    let t = attach (r.state.mark e) (one_restart e w) r.state in
    AfterCall d a ds v (restart e w)
    (record { state = with_up t (put t.up e true); answers = r.answers ++ (up e (r.state.mark e) ∷ []) })
    (attach_event (r.state.mark e) (restart_event e w) k)
device-restarts d s a l ds v n h p o e w z r lead k q gone =
    answer-last d a ds v (restart e w) r.answers y (with_up t (put t.up e true)) j e (λ b. refl)
    (λ b f. last-device (restart e w) b v r.answers y ds ∙ gone_alike s e l b f ds v (restart e w) (λ b ds. refl) gone
    ∙ sym (last-device (restart e w) f v r.answers y ds))
    (subst (λ ws. DeviceOk d (with_up t (put t.up e true)) b j (ws d)) (sym (last-device (restart e w) b v r.answers y ds))
    (go (eqb d e) refl))
  where
    t : State
    t = attach (r.state.mark e) (one_restart e w) r.state

    y : Answer
    y = up e (r.state.mark e)

    b : ℕ → Account
    b = note_answers (restart e w) r.answers a

    fs : ℕ → Device
    fs = devices_after_all (restart e w) b v r.answers ds

    j : List Group
    j = attach_event (r.state.mark e) (restart_event e w) k

    gone_ok : DeviceOk d r.state b k (fs d)
    gone_ok = gone_device s e l d a ds v (restart e w) (λ b ds. refl) n h q o gone

    gone_hub : HubOk r.state k × Each (NotHalfway e) k
    gone_hub = hub_gone s e l h gone

    as_before : Pairwise Same k j
    as_before = same_attached (r.state.mark e) (restart_event e w) k

    go : (c : Bool) → eqb d e ≡ c → DeviceOk d (with_up t (put t.up e true)) b j (fs d)
    go true i = record {
      old_sent = gone_ok.old_sent;
      old_took = gone_ok.old_took;
      device_at = none_on_it (rw i refl)
          (no_flights_on_same d as_before
          (subst (λ f. Each (NoFlightOn f) k) (sym this)
          (all_no_flight_on e k gone_hub.0.turns gone_hub.0.nothing_left_all gone_hub.1)))
          (has (dead_empty d (r.state.up d) (due r.state d) b k (fs d)
          (ap (λ (x : Fixed). x.up d) (gone_fixed s e l gone) ∙ ap s.up this ∙ q) gone_ok.device_at)
          (gone_keeps s e l (λ (w : Device). w.setting) (λ m w. refl) d b ds v (restart e w) (λ b ds. refl) gone
          ∙ ap (λ f. (ds f).setting) this ∙ sym z ∙ sym due-is));
    }
      where
        this : d ≡ e
        this = eqb-true d e i

        due-is : due (with_up t (put t.up e true)) d ≡ w
        due-is = due-up t (put t.up e true) d ∙ ap (due t) this ∙ due_this e w r.state k gone_hub.0 (gone_events s e l p gone)
    go false i =
        ok_state d r.state (with_up t (put t.up e true)) b j (fs d)
        (rw i (ap (λ (x : Fixed). x.up d) (attach_fixed (r.state.mark e) (one_restart e w) r.state)))
        (due-up t (put t.up e true) d ∙ due_other d (r.state.mark e) (one_restart e w) r.state (one_other d e w i))
        (ok_same d r.state b k j (fs d) as_before gone_ok)
