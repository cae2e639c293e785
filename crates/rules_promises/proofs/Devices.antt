-- A placing, a turn and a report that do not abort: each device still comes to its due setting. Assumes nothing.
use Rattle.std.proofs.Common.{None, Some}
use mathlib.Core.Path.{◌≡◌, refl, sym, ap, ◌∙◌, subst}
use mathlib.Core.Logic.{◌≢◌}
use mathlib.Core.Bool.{true, false}
use mathlib.Core.List.{List, [], ◌∷◌, ◌++◌, map}
use Prim.Native.Nat.{ℕ, suc, ◌<◌}
use native.Mathlib.Omega.{arith}
use borrow.Author.Tests.{eq-eqb, ne_eqb}
use lib.IntN.{ℤ}
use Rattle.std.specs.Prelude.{if◌then◌else◌}
use Rattle.rules_routine.specs.Routine.{is_condition}
use Rattle.rules_routine.specs.declared.Command.{Command}
use Rattle.rules.specs.Tables.{put, same_setting, Each}
use Rattle.rules.specs.State.{Status, Step, Member, State}
use Rattle.rules.specs.Answers.{Call, submit, turn, report, placed, Result}
use Rattle.rules.specs.Progress.{in_flight_on, next, Flight, flight, with_steps}
use Rattle.rules.specs.Due.{after_steps, after_restart, after_member, after_members, due}
use Rattle.rules.specs.Sequence.{last_id_or, change}
use Rattle.rules.specs.Turn.{first_holding, commit, commit_turn, send_turn}
use Rattle.rules.specs.Report.{code_failed, done_report, back_if_changed, skipped_state, skip_report}
use Rattle.rules.specs.Submit.{blocks, up_to_last, past_last, pass, newcomer, place}
use Rattle.rules.specs.History.{reported_done, reported_failed, Account, placed_account, sent_account, answered_account, note_answers}
use Rattle.rules.specs.World.{Origin, sent_for, Message, Device, receives, put_all_back, without, drops, devices_after}
use Rattle.rules.proofs.Lists.{by_if, t≠f, this_or_other, same-setting, put_same, put_other, each_++, each_right, each_mid, each_map}
use Rattle.rules.proofs.Lists.{ids_fresh}
use Rattle.rules_promises.proofs.Groups.{Group, members, ids, alone, with, pass_all, found_at, members_++, other_ids}
use Rattle.rules_promises.proofs.Same.{same-placed}
use Rattle.rules_promises.proofs.Steps.{InTurn, Passing, send-step, skip_step, done-step, done-after, fail_step, fail_after}
use Rattle.rules_promises.proofs.Steps.{grounded}
use Rattle.rules_promises.proofs.Steps.{unbegun_after}
use Rattle.rules_promises.proofs.Steps.{fresh-newcomer}
use Rattle.rules_promises.proofs.Invariant.{NotBegun, HasFinished, HubOk, EventsOk, CountedSend, CountedMessage, back_to}
use Rattle.rules_promises.proofs.Invariant.{ReachesSetting}
use Rattle.rules_promises.proofs.Invariant.{has}
use Rattle.rules_promises.proofs.Invariant.{goes-back, flight_origin, NotOrigin, OnItsWay, arrived, going, NoFlightOn, first_has_it}
use Rattle.rules_promises.proofs.Invariant.{DeviceAt}
use Rattle.rules_promises.proofs.Invariant.{is_down, none_on_it, one_on_it, DeviceOk}
use Rattle.rules_promises.proofs.View.{pass_answer, by_answer, pass_turn, sent_member, passed_member, done_member, failed_member}
use Rattle.rules_promises.proofs.Runs.{last_restart_not-begun, not-begun_members}
use Rattle.rules.proofs.Lists.{members_after_++}
use Rattle.rules_promises.proofs.Running.{pass_outcome, pass-noted}
use Rattle.rules_promises.proofs.Accounts.{put-answered}
use Rattle.rules_promises.proofs.Marks.{ClearOfDevice, in-turn, turn_clear, flight_clear}
use Rattle.rules_promises.proofs.Messages.{origin_self, fresh-origin, none-took, took_last, ok_state, ok_same, flies_there}
use Rattle.rules_promises.proofs.Messages.{finished-it_no_flight_on, not-begun_no_flight_on, no_flights_on_any, one_any, one_this}
use Rattle.rules_promises.proofs.Messages.{this_one}
use Rattle.rules_promises.proofs.Messages.{ok_insert, ok_drop, SameForOthers, alike_put, alike_ended, alike_answered, without-last}
use Rattle.rules_promises.proofs.Messages.{alike_drops, ok_alike, AfterCall}

-- ---- what is due

-- a routine changes, and what it does to d stays
due_swap : (s : State) (d : ℕ) (p : List Group) (g : Group) (q : List Group) (m : Member) → s.sequence ≡ members (p ++ (g ∷ q)) →
    ((u : ℤ) → after_member d m u ≡ after_member d g.member u) →
    due (change s (found_at p g q) m) d ≡ due s d
unfolding due
due_swap s d p g q m e f =
    members_after_++ d (members p) (m ∷ members q) (s.settled_at d) ∙ ap (after_members d (members q)) (f _)
    ∙ sym (members_after_++ d (members p) (g.member ∷ members q) (s.settled_at d))
    ∙ ap (λ l. after_members d l (s.settled_at d)) (sym (e ∙ members_++ p (g ∷ q)))

-- ---- a routine of the sequence changes

module _ (s : State) (a : ℕ → Account) (p : List Group) (g : Group) (q : List Group) (ds : ℕ → Device) (v : ℤ)
    (h : HubOk s (p ++ (g ∷ q))) where
  steps_ok : InTurn g.member.steps
  steps_ok = in-turn s p g q h

  idle_no_flight_on : (d : ℕ) → flight g.member.steps ≡ None → NoFlightOn d g
  idle_no_flight_on d f = record { no_flight_on = grounded g.member d f }

  pub due-steps : (d : ℕ) (l : List Step) → ((u : ℤ) → after_steps d l u ≡ after_steps d g.member.steps u) →
      due (change s (found_at p g q) (with_steps g.member l)) d ≡ due s d
  unfolding after_member
  due-steps d l f = due_swap s d p g q (with_steps g.member l) h.sequence_is (λ u. ap (after_restart (g.member.restarts d)) (f u))

  -- the call c, with the result r, keeps the invariant of d when g becomes m
  abbrev pub Keeps : ℕ → Call → Result → Member → Type 0
  Keeps d c r m = DeviceOk d s a (p ++ (g ∷ q)) (ds d) → AfterCall d a ds v c r (p ++ (with g m ∷ q))

  -- a routine that does not fly there changes
  swaps : (d : ℕ) (m : Member) (t : State) (b : ℕ → Account) (u : Device) → NoFlightOn d g → NoFlightOn d (with g m) → t.up d ≡ s.up d →
      due t d ≡ due s d →
      SameForOthers g.member.id a b (ds d) u → DeviceOk d s a (p ++ (g ∷ q)) (ds d) → DeviceOk d t b (p ++ (with g m ∷ q)) u
  swaps d m t b u n o e f y k =
      ok_state d s t b (p ++ (with g m ∷ q)) u e f
      (ok_insert d s b p (with g m) q u o
      (ok_alike d s g.member.id a b (p ++ q) (ds d) u y (other_ids s.next_id p g q h.ids_ok)
      (ok_drop d s a p g q (ds d) steps_ok n k)))

  pub device_commits : (d j : ℕ) → flight g.member.steps ≡ None → Keeps d (turn j) (commit_turn s (found_at p g q)) (commit g.member)
  unfolding commit_turn commit in_flight_on after_member
  device_commits d j f k =
      let n = idle_no_flight_on d f in
      swaps d (commit g.member) (change s (found_at p g q) (commit g.member)) _ (ds d) n
      (record { no_flight_on = n.no_flight_on }) refl
      (due_swap s d p g q (commit g.member) h.sequence_is (λ u. refl)) (alike_ended g.member.id a (ds d)) k

  pub device_passes : (d j : ℕ) (c : Command) (st : Status) → Passing st → next g.member.steps ≡ Some c →
      flight g.member.steps ≡ None → Keeps d (turn j) (pass_turn s (found_at p g q) c st) (passed_member st g)
  unfolding due
  device_passes d j c st w e f k =
      let r = skip_step g.member steps_ok c st w e f in
      let t = (pass_turn s (found_at p g q) c st).state in
      let l = p ++ (with g (passed_member st g) ∷ q) in
      let b = note_answers (turn j) (pass_answer st g.member.id ∷ []) a in
      subst (λ u. DeviceOk d t b l (u d)) (sym (by_answer (λ x. devices_after (turn j) b v x ds ≡ ds) g.member.id refl refl refl st))
      (subst (λ b. DeviceOk d t b l (ds d)) (sym (pass-noted j st g.member.id a))
      (swaps d (passed_member st g) t _ (ds d) (idle_no_flight_on d f)
      (record { no_flight_on = r.flies d }) refl
      (due-steps d _ (r.same_after d)) (alike_answered (pass_outcome st) g.member.id a (ds d)) k))

  sends_other : (d j : ℕ) (c : Command) → next g.member.steps ≡ Some c → flight g.member.steps ≡ None → c.device ≢ d →
      Keeps d (turn j) (send_turn s (found_at p g q) c) (sent_member s g c)
  unfolding send_turn due
  sends_other d j c e f n k =
      let r = send-step g.member steps_ok c (due s c.device) e f in
      let t = (send_turn s (found_at p g q) c).state in
      let y = sent_account c (a g.member.id) in
      subst (λ u. DeviceOk d t (put a g.member.id y) (p ++ (with g (sent_member s g c) ∷ q)) u)
      (sym (put_other ds c.device _ d (λ z. n (sym z))))
      (swaps d (sent_member s g c) t (put a g.member.id y) (ds d) (idle_no_flight_on d f)
      (record { no_flight_on = r.flies d ∙ ne_eqb c.device d n }) refl
      (due-steps d _ (r.same_after d)) (alike_put g.member.id a y (omega arith) (ds d)) k)

  sends-here : (j : ℕ) (c : Command) → next g.member.steps ≡ Some c → flight g.member.steps ≡ None →
      first_holding c.device (is_condition c) (members p) ≡ None → s.up c.device ≡ true →
      Keeps c.device (turn j) (send_turn s (found_at p g q) c) (sent_member s g c)
  unfolding send_turn
  sends-here j c e f n y k =
      subst (λ u. DeviceOk d t b (p ++ (with g (sent_member s g c) ∷ q)) u) (sym (put_same ds d _))
      (record {
        old_sent = each_++ (CountedMessage b) w.sent (m ∷ []) (told.same_sent k.old_sent) (omega arith, tt);
        old_took = told.same-took k.old_took;
        device_at = go k.device_at;
      })
    where
      d : ℕ
      d = c.device

      i : ℕ
      i = g.member.id

      t : State
      t = (send_turn s (found_at p g q) c).state

      b : ℕ → Account
      b = put a i (sent_account c (a i))

      w : Device
      w = ds d

      m : Message
      m = record { setting = c.setting; origin = flight_origin b i }

      told : SameForOthers i a b w w
      told = alike_put i a (sent_account c (a i)) (omega arith) w

      one_more : (a i).sends < (b i).sends
      one_more = let z : (b i).sends ≡ suc (a i).sends = ap (λ (x : Account). x.sends) (put_same a i (sent_account c (a i))) in omega arith

      clear : ClearOfDevice d p g q
      clear = turn_clear s p g q c h e f n

      ahead : Each (NoFlightOn d) p
      ahead = each_map (HasFinished d) (NoFlightOn d) (finished-it_no_flight_on d) p clear.ahead-finished-it

      behind : Each (NoFlightOn d) q
      behind = each_map (NotBegun d) (NoFlightOn d) (not-begun_no_flight_on d) q clear.behind-not-begun

      go : DeviceAt d (s.up d) (due s d) a (p ++ (g ∷ q)) w →
          DeviceAt d (s.up d) (due t d) b (p ++ (with g (sent_member s g c) ∷ q)) (receives m w)
      go (is_down x r) = t≠f (sym y ∙ x)
      go (none_on_it x r z) = one_on_it x (this_one d b (receives m w) p (with g (sent_member s g c) ∷ q) ahead
          (first_has_it (record { command = c; due_then = due s d }) (send-step g.member steps_ok c (due s d) e f).flight_is refl
          (going w.sent refl
          (each_map (CountedMessage a) (NotOrigin (flight_origin b i))
          (λ o r. record { other = fresh-origin a i (b i).sends one_more o.origin r }) w.sent k.old_sent)
          (none-took a i (b i).sends one_more w.took k.old_took) z) behind))
      go (one_on_it x o) =
          t≠f (sym (one_any d a w (p ++ (g ∷ q)) h.turns o)
          ∙ no_flights_on_any d (p ++ (g ∷ q)) (each_++ (NoFlightOn d) p (g ∷ q) ahead (idle_no_flight_on d f, behind)))

  pub device-sends : (d j : ℕ) (c : Command) → next g.member.steps ≡ Some c → flight g.member.steps ≡ None →
      first_holding c.device (is_condition c) (members p) ≡ None → s.up c.device ≡ true →
      Keeps d (turn j) (send_turn s (found_at p g q) c) (sent_member s g c)
  device-sends d j c e f n y =
      this_or_other (λ d. Keeps d (turn j) (send_turn s (found_at p g q) c) (sent_member s g c)) c.device d
      (sends-here j c e f n y) (sends_other d j c e f)

  -- the command in flight is answered
  module _ (x : Flight) (e : flight g.member.steps ≡ Some x) where
    flew_elsewhere : (d : ℕ) → x.command.device ≢ d → NoFlightOn d g
    flew_elsewhere d n = record { no_flight_on = (done-step g.member steps_ok x e).flew d ∙ ne_eqb x.command.device d n }

    -- its device then comes to what is due
    lands : (m : Member) (t : State) (b : ℕ → Account) (u : Device) →
        let d = x.command.device in
        NoFlightOn d (with g m) → t.up d ≡ s.up d → Each (CountedMessage b) u.sent → Each (CountedSend b) u.took →
        (s.up d ≡ false → (ds d).sent ≡ [] → u.sent ≡ []) →
        (OnItsWay a g.member.id x (ds d) → ReachesSetting u.setting (due t d) u.sent) → DeviceOk d s a (p ++ (g ∷ q)) (ds d) →
        DeviceOk d t b (p ++ (with g m ∷ q)) u
    lands m t b u n y os ot f c k = record { old_sent = os; old_took = ot; device_at = go k.device_at }
      where
        d : ℕ
        d = x.command.device

        flies : in_flight_on d g.member ≡ true
        flies = flies_there d g steps_ok x e refl

        go : DeviceAt d (s.up d) (due s d) a (p ++ (g ∷ q)) (ds d) → DeviceAt d (t.up d) (due t d) b (p ++ (with g m ∷ q)) u
        go (is_down z r) = is_down (y ∙ z) (f z r)
        go (none_on_it z r w) = t≠f (sym flies ∙ (each_mid (NoFlightOn d) p g q r).no_flight_on)
        go (one_on_it z o) = let r = one_this d a (ds d) p g q x e flies o in
            none_on_it (y ∙ z) (each_++ (NoFlightOn d) p (with g m ∷ q) r.0 (n, r.2)) (c r.1)

    -- ---- it is done

    dones_other : (d j code : ℕ) → x.command.device ≢ d → Keeps d (report j code) (done_report s (found_at p g q)) (done_member g)
    unfolding done_report
    dones_other d j code n k =
        swaps d (done_member g) (done_report s (found_at p g q)).state _ (ds d) (flew_elsewhere d n)
        (record { no_flight_on = (done-step g.member steps_ok x e).flies d }) refl
        (due-steps d _
        (λ u. done-after g.member steps_ok x e d u
        ∙ ap (λ t. if t then x.command.setting else after_steps d g.member.steps u) (ne_eqb x.command.device d n)))
        (alike_answered reported_done g.member.id a (ds d)) k

    due-done : Each EventsOk (p ++ (g ∷ q)) → due (done_report s (found_at p g q)).state x.command.device ≡ x.command.setting
    unfolding done_report due after_member
    due-done k =
        members_after_++ d (members p) (done_member g ∷ members q) (s.settled_at d)
        ∙ not-begun_members d q _ (each_right EventsOk p (g ∷ q) k).1 clear.behind-not-begun
        ∙ ap (λ r. after_restart r (after_steps d (done_member g).steps (after_members d (members p) (s.settled_at d))))
        ((each_mid EventsOk p g q k).events_ok d ∙ last_restart_not-begun d g.events clear.no_event)
        ∙ done-after g.member steps_ok x e d _ ∙ rw (eq-eqb d d refl) refl
      where
        d : ℕ
        d = x.command.device

        clear : ClearOfDevice d p g q
        clear = flight_clear s p g q x h e

    dones_here : (j code : ℕ) → Each EventsOk (p ++ (g ∷ q)) → took_last a g.member.id (ds x.command.device) ≡ true →
        Keeps x.command.device (report j code) (done_report s (found_at p g q)) (done_member g)
    unfolding done_report
    dones_here j code k r w =
        let told = alike_answered reported_done g.member.id a (ds d) in
        lands (done_member g) (done_report s (found_at p g q)).state _ (ds d)
        (record { no_flight_on = (done-step g.member steps_ok x e).flies d }) refl
        (told.same_sent w.old_sent) (told.same-took w.old_took) (λ _ z. z) reaches w
      where
        d : ℕ
        d = x.command.device

        reaches : OnItsWay a g.member.id x (ds d) →
            ReachesSetting (ds d).setting (due (done_report s (found_at p g q)).state d) (ds d).sent
        reaches (arrived z y n) = has z (y ∙ sym (due-done k))
        reaches (going l z o n c) = t≠f (sym r ∙ n)

    pub device_dones : (d j code : ℕ) → Each EventsOk (p ++ (g ∷ q)) → took_last a g.member.id (ds x.command.device) ≡ true →
        Keeps d (report j code) (done_report s (found_at p g q)) (done_member g)
    device_dones d j code k r =
        this_or_other (λ d. Keeps d (report j code) (done_report s (found_at p g q)) (done_member g)) x.command.device d
        (dones_here j code k r) (dones_other d j code)

    -- ---- it failed, and is skipped

    due_missed : (d : ℕ) → due (skipped_state s (found_at p g q)) d ≡ due s d
    unfolding skipped_state
    due_missed d = due-steps d _ (fail_after g.member steps_ok x e d)

    abbrev missed_state : State
    missed_state = skipped_state s (found_at p g q)

    abbrev missed_accounts : ℕ → Account
    missed_accounts = put a g.member.id (answered_account reported_failed (a g.member.id))

    abbrev dropped : ℕ → Device
    dropped d = drops (flight_origin missed_accounts g.member.id) (ds d)

    alike_dropped : (d : ℕ) → SameForOthers g.member.id a missed_accounts (ds d) (dropped d)
    alike_dropped d =
        alike_drops g.member.id (missed_accounts g.member.id).sends a missed_accounts (ds d) (ds d)
        (alike_answered reported_failed g.member.id a (ds d))

    misses_other : (d : ℕ) → x.command.device ≢ d →
        Keeps d (report g.member.id code_failed) (skip_report s (found_at p g q) x) (failed_member g)
    unfolding skip_report skipped_state back_if_changed
    misses_other d n k =
        subst (λ u. DeviceOk d missed_state missed_accounts (p ++ (with g (failed_member g) ∷ q)) u) (sym not_back)
        (swaps d (failed_member g) missed_state missed_accounts (dropped d) (flew_elsewhere d n)
        (record { no_flight_on = (fail_step g.member steps_ok x e).flies d }) refl
        (due_missed d) (alike_dropped d) k)
      where
        not_back : put_all_back (back_if_changed x.command.device (due missed_state x.command.device) x.due_then) dropped d ≡ dropped d
        not_back = by_if (λ l. put_all_back l dropped d ≡ dropped d) (same_setting (due missed_state x.command.device) x.due_then)
            (λ _. refl)
            (λ _. put_other dropped x.command.device _ d (λ z. n (sym z)))

    misses_here : s.up x.command.device ≡ true → took_last a g.member.id (ds x.command.device) ≡ false →
        Keeps x.command.device (report g.member.id code_failed) (skip_report s (found_at p g q) x) (failed_member g)
    unfolding skip_report skipped_state back_if_changed
    misses_here y r k =
        by_if (λ l. DeviceOk d missed_state missed_accounts (p ++ (with g (failed_member g) ∷ q)) (put_all_back l dropped d))
        (same_setting (due missed_state d) x.due_then)
        (λ z. reaches (dropped d) old took
        (λ f. subst (λ m. ReachesSetting (ds d).setting m (dropped d).sent) (sym (same-setting (due missed_state d) x.due_then z))
        (left f)))
        (λ z. subst (λ u. DeviceOk d missed_state missed_accounts (p ++ (with g (failed_member g) ∷ q)) u) (sym (put_same dropped d _))
        (reaches (receives (back_to (due missed_state d)) (dropped d))
        (each_++ (CountedMessage missed_accounts) (dropped d).sent (back_to (due missed_state d) ∷ []) old (tt, tt)) took
        (λ f. goes-back (dropped d).sent refl)))
      where
        d : ℕ
        d = x.command.device

        old : Each (CountedMessage missed_accounts) (dropped d).sent
        old = (alike_dropped d).same_sent k.old_sent

        took : Each (CountedSend missed_accounts) (ds d).took
        took = (alike_dropped d).same-took k.old_took

        reaches : (u : Device) → Each (CountedMessage missed_accounts) u.sent → Each (CountedSend missed_accounts) u.took →
            (OnItsWay a g.member.id x (ds d) → ReachesSetting u.setting (due missed_state d) u.sent) →
            DeviceOk d missed_state missed_accounts (p ++ (with g (failed_member g) ∷ q)) u
        reaches u o t f =
            lands (failed_member g) missed_state missed_accounts u
            (record { no_flight_on = (fail_step g.member steps_ok x e).flies d }) refl o t (λ z _. t≠f (sym y ∙ z)) f k

        -- the command that failed is the last on its way
        left : OnItsWay a g.member.id x (ds d) → ReachesSetting (ds d).setting x.due_then (dropped d).sent
        left (arrived z m n) = t≠f (sym n ∙ r)
        left (going l z n m c) =
            subst (λ o. ReachesSetting (ds d).setting x.due_then (without o (ds d).sent)) (sym same)
            (subst (λ b. ReachesSetting (ds d).setting x.due_then b)
            (sym (ap (without own) z ∙ without-last own l _ n (origin_self own))) c)
          where
            own : Origin
            own = flight_origin a g.member.id

            same : flight_origin missed_accounts g.member.id ≡ own
            same = ap (λ n. sent_for g.member.id n) (put-answered a g.member.id reported_failed g.member.id)

    -- the device is up: it may be sent a back, and to one that is down nothing is on its way
    pub device_misses : (d : ℕ) → s.up x.command.device ≡ true → took_last a g.member.id (ds x.command.device) ≡ false →
        Keeps d (report g.member.id code_failed) (skip_report s (found_at p g q) x) (failed_member g)
    device_misses d y r =
        this_or_other (λ d. Keeps d (report g.member.id code_failed) (skip_report s (found_at p g q) x) (failed_member g))
        x.command.device d
        (misses_here y r) (misses_other d)

-- ---- a routine is placed

pass-after : (d : ℕ) (l : List Member) (u : ℤ) → after_members d (map pass l) u ≡ after_members d l u
unfolding pass after_member
pass-after d [] u = refl
pass-after d (m ∷ l) u = pass-after d l (after_member d m u)

newcomer-after : (d i : ℕ) (cs : List Command) (u : ℤ) → after_member d (newcomer i cs) u ≡ u
unfolding after_member newcomer
newcomer-after d i cs u = unbegun_after (newcomer i cs) d u ((fresh-newcomer i cs).unbegun d)

module _ (d : ℕ) (s : State) (cs : List Command) (p q : List Group) (h : HubOk s (p ++ q)) where
  due-placed : up_to_last (blocks s cs) s.sequence ≡ members p → past_last (blocks s cs) s.sequence ≡ members q →
      due (place s cs) d ≡ due s d
  unfolding due place
  due-placed y z =
      members_after_++ d front (newcomer s.next_id cs ∷ map pass back) (s.settled_at d) ∙ pass-after d back _
      ∙ ap (after_members d back) (newcomer-after d s.next_id cs _)
      ∙ sym (members_after_++ d front back (s.settled_at d))
      ∙ ap (λ l. after_members d l (s.settled_at d))
      (ap (λ l. l ++ back) y ∙ ap (λ l. members p ++ l) z ∙ sym (h.sequence_is ∙ members_++ p q))
    where
      front : List Member
      front = up_to_last (blocks s cs) s.sequence

      back : List Member
      back = past_last (blocks s cs) s.sequence

  -- nothing was sent for the id that is given out: its account starts anew
  pub device_places : (a : ℕ → Account) (ds : ℕ → Device) (v : ℤ) → (a s.next_id).sends ≡ 0 →
      up_to_last (blocks s cs) s.sequence ≡ members p → past_last (blocks s cs) s.sequence ≡ members q →
      DeviceOk d s a (p ++ q) (ds d) → AfterCall d a ds v (submit cs)
      (record { state = place s cs; answers = placed s.next_id (last_id_or 0 (up_to_last (blocks s cs) s.sequence)) ∷ [] })
      (p ++ (alone (newcomer s.next_id cs) ∷ pass_all q))
  unfolding place
  device_places a ds v e y z k =
      ok_state d s (place s cs) b (p ++ (new ∷ pass_all q)) (ds d) refl (due-placed y z)
      (ok_same d s b (p ++ (new ∷ q)) (p ++ (new ∷ pass_all q)) (ds d) (same-placed p new q)
      (ok_insert d s b p new q (ds d)
      (record { no_flight_on = grounded (newcomer s.next_id cs) d (fresh-newcomer s.next_id cs).flight_is })
      (ok_alike d s s.next_id a b (p ++ q) (ds d) (ds d) (alike_put s.next_id a (placed_account cs) (omega arith) (ds d))
      (ids_fresh s.next_id (ids (p ++ q)) h.ids_ok) k)))
    where
      b : ℕ → Account
      b = put a s.next_id (placed_account cs)

      new : Group
      new = alone (newcomer s.next_id cs)
