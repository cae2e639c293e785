-- What the calls and answers tell is what the hub holds: of each routine, of the ids not given yet, and of which devices are up. Assumes
-- nothing.
use Rattle.rules_routine.proofs.Options.{none-ne-some, some-injective}
use Rattle.std.proofs.Common.{Option, None, Some}
use mathlib.Core.Path.{◌≡◌, refl, sym, ap, ap₂, ◌∙◌, subst, fun_ext}
use mathlib.Core.Logic.{◌≢◌}
use mathlib.Core.Bool.{Bool, true, false, not, ◌&&◌, ◌||◌}
use mathlib.Core.List.{List, [], ◌∷◌, ◌++◌}
use Prim.Native.Nat.{ℕ, ◌<◌, ◌≤◌}
use native.Mathlib.Omega.{arith}
use borrow.Author.Tests.{eqb-true, eqb-false, not-true, not-false}
use lib.Dec.{eqb}
use Rattle.std.specs.Prelude.{if◌then◌else◌}
use Rattle.rules_routine.specs.Routine.{zero_command}
use Rattle.rules_routine.specs.declared.Command.{Command}
use Rattle.rules.specs.Tables.{any_of, put, Each}
use Rattle.rules.specs.State.{Status, was_done, was_skipped, Member, State}
use Rattle.rules.specs.Answers.{Call, failure, restart, Answer, down, up, Result}
use Rattle.rules.specs.Progress.{is_left_on, begun, finished, in_flight_on, Flight, flight}
use Rattle.rules.specs.Due.{due}
use Rattle.rules.specs.Sequence.{is_running, with_up}
use Rattle.rules.specs.Abort.{leave, abort}
use Rattle.rules.specs.Submit.{newcomer, place}
use Rattle.rules.specs.Turn.{commit, commit_turn, send_turn}
use Rattle.rules.specs.Report.{done_report, skipped_state, skip_report}
use Rattle.rules.specs.Events.{is_halfway}
use Rattle.rules.specs.History.{Outcome, reported_done, reported_failed, Noted, Account, placed_account}
use Rattle.rules.specs.History.{sent_account, note_first, answered_account, ended_account, is_for, has_begun, note_left}
use Rattle.rules.specs.History.{skipped_account, event_account, note_answer, note_answers, working_after, working_after_all}
use Rattle.rules.specs.Order.{Event, failure_event, restart_event, device_of}
use Rattle.rules.specs.HubOrder.{Agree, agree_done, agree_failed, agree_not_sent, agree_held, agree_not_held, AllAgree}
use Rattle.rules.specs.Attach.{attach, one_restart}
use Rattle.rules.proofs.Lists.{by_if, t≠f, or_left, or_right, and_left, and_right, this_or_other, put_same, put_other, put_keeps}
use Rattle.rules.proofs.Lists.{fold_++, each_++, each_mid, each_drop, each_insert, IsNot, NotIn, ids_fresh, ids_right}
use Rattle.rules_promises.proofs.Groups.{Group, ids, alone, with, leaving, attach_event, ids_++, other_ids}
use Rattle.rules_promises.proofs.Same.{Pairwise, Same, same_refl, same-placed, same_leaving, same_attached, same_each}
use Rattle.rules.proofs.Schedules.{has_flight}
use Rattle.rules_promises.proofs.Agree.{left_for, agree_answered, agree_left, agree_new, agree_next, agree_sent, agree_flight}
use Rattle.rules_promises.proofs.Agree.{agree_skip}
use Rattle.rules_promises.proofs.Steps.{InTurn, LeftSkipped, send-step, skip_step, done-step, fail_step}
use Rattle.rules_promises.proofs.Steps.{grounded, finished_grounded, begun-is, skip_steps, Fresh, fresh-newcomer}
use Rattle.rules_promises.proofs.Invariant.{CommandsInTurn, HubOk, NotHalfway, AccountTells}
use Rattle.rules_promises.proofs.View.{Passes, is_down, is_off, does_hold, does_not, by_answer, passing, sent_member, passed_member}
use Rattle.rules_promises.proofs.View.{done_member, failed_member, skipped_left, Gone, nobody, somebody, loses}
use Rattle.rules_promises.proofs.View.{Moves, places, commits, sends, passes, dones, misses, aborts, fails, restarts}
use Rattle.rules_promises.proofs.Fields.{Fixed, gone_fixed, attach_fixed}
use Rattle.rules_promises.proofs.Marks.{in-turn, ids_at, Halfway, halfway_is}
use Rattle.rules_promises.proofs.Moved.{others-not_halfway, hub_gone, hub-up}
use Rattle.rules_promises.proofs.Running.{none_has, note_++, pass_outcome, pass-noted, RunsTold, gone_runs}

-- ---- one routine

-- the same routine under the same account
tells-same : (a b : ℕ → Account) (g h : Group) → Same g h → b g.member.id ≡ a g.member.id → AccountTells a g → AccountTells b h
tells-same a b g h q k t = record {
  runs = ap (λ (x : Account). x.running) e ∙ t.runs ∙ ap not (sym q.same-committed);
  flies_is = ap (λ (x : Account). x.flying) e ∙ t.flies_is ∙ ap (λ l. has_flight (flight l)) (sym q.same-steps);
  sent_is = λ x f. ap (λ (y : Account). y.last_sent) e ∙ t.sent_is x (ap flight (sym q.same-steps) ∙ f);
  agrees = subst (λ l. AllAgree l h.member.steps) (ap (λ (x : Account). x.commands) (sym e))
      (subst (λ k. AllAgree (a g.member.id).commands k) (sym q.same-steps) t.agrees);
}
  where
    e : b h.member.id ≡ a g.member.id
    e = ap b q.same_id ∙ k

same-tells : (a : ℕ → Account) {l k : List Group} → Pairwise Same l k → Each (AccountTells a) l → Each (AccountTells a) k
same-tells a = same_each (AccountTells a) (λ g h q. tells-same a a g h q refl)

-- the account of another id changes
others : (a : ℕ → Account) (i : ℕ) (x : Account) (l : List Group) → NotIn i (ids l) → Each (AccountTells a) l →
    Each (AccountTells (put a i x)) l
others a i x [] n t = tt
others a i x (g ∷ l) n t =
    (tells-same a (put a i x) g g (same_refl g) (put_other a i x g.member.id n.0) t.0, others a i x l n.1 t.1)

-- the account of g changes, and the others'
module _ (s : State) (a : ℕ → Account) (x : Account) (ga : List Group) (g : Group) (gb : List Group) (k : HubOk s (ga ++ (g ∷ gb)))
    (t : Each (AccountTells a) (ga ++ (g ∷ gb))) where
  besides : Each (AccountTells (put a g.member.id x)) (ga ++ gb)
  besides = others a g.member.id x (ga ++ gb) (other_ids s.next_id ga g gb k.ids_ok) (each_drop (AccountTells a) ga g gb t)

  -- g becomes h
  around : (h : Group) → AccountTells (put a g.member.id x) h → Each (AccountTells (put a g.member.id x)) (ga ++ (h ∷ gb))
  around h n = each_insert (AccountTells (put a g.member.id x)) ga h gb besides n

  -- g leaves
  leave-tells : Each (AccountTells (put a g.member.id x)) (leaving ga g gb)
  leave-tells = same-tells (put a g.member.id x) (same_leaving ga g gb) besides

-- the account x tells of the steps of h
record TellsOf (x : Account) (h : Group) : Type 0 where
  runs : x.running ≡ not h.member.committed
  flies : x.flying ≡ has_flight (flight h.member.steps)
  sent : (y : Flight) → flight h.member.steps ≡ Some y → x.last_sent ≡ y.command
  agree : AllAgree x.commands h.member.steps

own_tells : (a : ℕ → Account) (i : ℕ) (x : Account) (h : Group) → h.member.id ≡ i → TellsOf x h → AccountTells (put a i x) h
own_tells a i x h same t = record {
  runs = ap (λ (y : Account). y.running) is ∙ t.runs;
  flies_is = ap (λ (y : Account). y.flying) is ∙ t.flies;
  sent_is = λ y q. ap (λ (z : Account). z.last_sent) is ∙ t.sent y q;
  agrees = subst (λ l. AllAgree l h.member.steps) (ap (λ (y : Account). y.commands) (sym is)) t.agree;
}
  where
    is : put a i x h.member.id ≡ x
    is = ap (put a i x) same ∙ put_same a i x

-- ---- answered commands

-- a command in flight that is none
no_sent : (c : Command) (h : Group) → flight h.member.steps ≡ None → (y : Flight) → flight h.member.steps ≡ Some y → c ≡ y.command
no_sent c h e y q = absurd (none-ne-some y (sym e ∙ q))

-- the first command that is left is answered: g becomes h
answered-tells : (a : ℕ → Account) (g h : Group) (o : Outcome) → h.member.id ≡ g.member.id →
    h.member.committed ≡ g.member.committed → flight h.member.steps ≡ None →
    AllAgree (note_first o (a g.member.id).commands) h.member.steps → AccountTells a g →
    AccountTells (put a g.member.id (answered_account o (a g.member.id))) h
answered-tells a g h o same same-committed grounded agree t =
    own_tells a g.member.id (answered_account o (a g.member.id)) h same (record {
      runs = t.runs ∙ ap not (sym same-committed);
      flies = sym (ap has_flight grounded);
      sent = no_sent (a g.member.id).last_sent h grounded;
      agree = agree;
    })

-- ---- an event of d

nothing_left : (d : ℕ) (m : Member) → finished d m ≡ true → any_of (is_left_on d) m.steps ≡ false
unfolding finished
nothing_left d m e = not-true (any_of (is_left_on d) m.steps) e

-- begun, by the account, is begun
flying_on : (a : ℕ → Account) (g : Group) (d : ℕ) → InTurn g.member.steps → AccountTells a g →
    ((a g.member.id).flying && is_for d (a g.member.id).last_sent) ≡ in_flight_on d g.member
flying_on a g d w t = go (flight g.member.steps) refl
  where
    x : Account
    x = a g.member.id

    go : (o : Option Flight) → flight g.member.steps ≡ o → (x.flying && is_for d x.last_sent) ≡ in_flight_on d g.member
    go None e = ap (λ b. b && is_for d x.last_sent) (t.flies_is ∙ ap has_flight e) ∙ sym (grounded g.member d e)
    go (Some y) e =
        ap₂ (λ b (c : Command). b && is_for d c) (t.flies_is ∙ ap has_flight e) (t.sent_is y e)
        ∙ sym ((done-step g.member w y e).flew d)

begun-told : (a : ℕ → Account) (g : Group) (d : ℕ) → InTurn g.member.steps → AccountTells a g →
    has_begun d (a g.member.id) ≡ begun d g.member
begun-told a g d w t = ap₂ ◌||◌ (agree_answered d t.agrees) (flying_on a g d w t) ∙ sym (begun-is g.member d)

none_on : (d : ℕ) (l : List Noted) → any_of (left_for d) l ≡ false → note_left d l ≡ l
none_on d [] e = refl
none_on d (x ∷ l) e =
    rw (or_left (left_for d x) (any_of (left_for d) l) e) (ap (λ k. x ∷ k) (none_on d l (or_right (left_for d x) (any_of (left_for d) l) e)))

-- nothing is left on d: nothing is skipped
nothing_skipped : (d : ℕ) (x : Account) → any_of (left_for d) x.commands ≡ false → (x.flying && is_for d x.last_sent) ≡ false →
    skipped_account d x ≡ x
nothing_skipped d x e f = λ i. record {
  running = x.running;
  flying = still x.flying (is_for d x.last_sent) f i;
  commands = none_on d x.commands e i;
  last_sent = x.last_sent;
  sends = x.sends;
}
  where
    still : (b t : Bool) → (b && t) ≡ false → (b && not t) ≡ b
    still true true f = t≠f f
    still true false f = refl
    still false t f = refl

-- nor of a routine that is not halfway with d, nor of an id that does not run
not_halfway_told : (d : ℕ) (a : ℕ → Account) (g : Group) → InTurn g.member.steps → NotHalfway d g → AccountTells a g →
    event_account d (a g.member.id) ≡ a g.member.id
unfolding is_halfway is_running
not_halfway_told d a g w n t =
    by_if (λ (y : Account). y ≡ x) (x.running && has_begun d x)
    (λ e. let f : finished d g.member ≡ true =
    finishes (and_left x.running (has_begun d x) e) (and_right x.running (has_begun d x) e)
    in
    nothing_skipped d x (agree_left d t.agrees ∙ nothing_left d g.member f)
    (flying_on a g d w t ∙ finished_grounded g.member d f))
    (λ _. refl)
  where
    x : Account
    x = a g.member.id

    finishes : x.running ≡ true → has_begun d x ≡ true → finished d g.member ≡ true
    finishes r b =
        let k = n.not_halfway in
        not-false (finished d g.member) (rw (sym t.runs ∙ r, sym (begun-told a g d w t) ∙ b) at k)

not-running-told : (d : ℕ) (x : Account) → x.running ≡ false → event_account d x ≡ x
not-running-told d x e = rw e refl

all_told : (d : ℕ) (a : ℕ → Account) (l : List Group) → Each CommandsInTurn l → Each (NotHalfway d) l → Each (AccountTells a) l →
    Each (λ g. event_account d (a g.member.id) ≡ a g.member.id) l
all_told d a [] w n t = tt
all_told d a (g ∷ l) w n t = (not_halfway_told d a g w.0.turns n.0 t.0, all_told d a l w.1 n.1 t.1)

-- an id is one of the list's, or none of them
by-id : (P : ℕ → Type 0) (l : List Group) → Each (λ g. P g.member.id) l → (i : ℕ) → (NotIn i (ids l) → P i) → P i
by-id P [] h i f = f tt
by-id P (g ∷ l) h i f = this_or_other P g.member.id i h.0 (λ n. by-id P l h.1 i (λ m. f (n, m)))

-- what an event of d, with what comes ahead of it, makes of the accounts
abbrev pub event_told : {s : State} {d : ℕ} {l : List Group} {r : Result} {lead : List Event} {k : List Group} → Gone s d l r lead k →
    (ℕ → Account) → ℕ → Account
event_told (nobody q) a = a
event_told (somebody ga g gb e q) a = put a g.member.id (ended_account (a g.member.id))
event_told {d = d} (loses ga g gb e q m) a = put a g.member.id (skipped_account d (a g.member.id))

-- nobody is halfway with d any more
none_lose : (s : State) (d : ℕ) (a : ℕ → Account) (l : List Group) → HubOk s l → RunsTold a l → Each (AccountTells a) l →
    Each (NotHalfway d) l → ◌≡◌ {A = ℕ → Account} (λ i. event_account d (a i)) a
none_lose s d a l h t w n =
    fun_ext (λ i. by-id (λ i. event_account d (a i) ≡ a i) l (all_told d a l h.turns n w) i
    (λ m. not-running-told d (a i) (t i ∙ none_has is_running i l m)))

-- g is, and no other
one_loses : (s : State) (d : ℕ) (a : ℕ → Account) (ga : List Group) (g : Group) (gb : List Group) → HubOk s (ga ++ (g ∷ gb)) →
    RunsTold a (ga ++ (g ∷ gb)) → Each (AccountTells a) (ga ++ (g ∷ gb)) → is_halfway d g.member ≡ true →
    ◌≡◌ {A = ℕ → Account} (λ i. event_account d (a i)) (put a g.member.id (skipped_account d (a g.member.id)))
one_loses s d a ga g gb h t w y =
    fun_ext (λ i. this_or_other (λ i. event_account d (a i) ≡ put a j (skipped_account d (a j)) i) j i (own ∙ sym (put_same a j _))
    (λ n. other i n ∙ sym (put_other a j _ i (λ z. n (sym z)))))
  where
    j : ℕ
    j = g.member.id

    half : Halfway d g.member
    half = halfway_is d g.member y

    tells : AccountTells a g
    tells = each_mid (AccountTells a) ga g gb w

    own : event_account d (a j) ≡ skipped_account d (a j)
    own = rw (tells.runs ∙ ap not half.runs, begun-told a g d (in-turn s ga g gb h) tells ∙ half.has-begun) refl

    other : (i : ℕ) → j ≢ i → event_account d (a i) ≡ a i
    other i n =
        let o = others-not_halfway s d ga g gb h y in
        by-id (λ i. event_account d (a i) ≡ a i) (ga ++ gb)
        (all_told d a (ga ++ gb) (each_drop CommandsInTurn ga g gb h.turns) (each_++ (NotHalfway d) ga gb o.0 o.1)
        (each_drop (AccountTells a) ga g gb w)) i
        (λ m. not-running-told d (a i) (t i ∙ none_has is_running i (ga ++ (g ∷ gb)) (apart i n m)))
      where
        apart : (i : ℕ) → j ≢ i → NotIn i (ids (ga ++ gb)) → NotIn i (ids (ga ++ (g ∷ gb)))
        apart i n m =
            subst (NotIn i) (sym (ids_++ ga (g ∷ gb))) (each_insert (IsNot i) (ids ga) j (ids gb) (subst (NotIn i) (ids_++ ga gb) m) n)

-- the account of the routine that loses what is left on d
loses_tells : (s : State) (d : ℕ) (a : ℕ → Account) (ga : List Group) (g : Group) (gb : List Group) → HubOk s (ga ++ (g ∷ gb)) →
    AccountTells a g → TellsOf (skipped_account d (a g.member.id)) (with g (skipped_left d g))
loses_tells s d a ga g gb h t = record {
  runs = t.runs;
  flies = flies (flight g.member.steps) refl;
  sent = λ z e. t.sent_is z (k.flight_was z e).0;
  agree = agree_skip d t.agrees;
}
  where
    x : Account
    x = a g.member.id

    n : Member
    n = skipped_left d g

    k : LeftSkipped d g.member n
    k = skip_steps d g.member (in-turn s ga g gb h)

    no_flight : (o : Option Flight) → flight n.steps ≡ o → ((z : Flight) → flight n.steps ≡ Some z → ⊥) → has_flight o ≡ false
    no_flight None e f = refl
    no_flight (Some z) e f = absurd (f z e)

    flies : (o : Option Flight) → flight g.member.steps ≡ o →
        (x.flying && not (is_for d x.last_sent)) ≡ has_flight (flight n.steps)
    flies None e =
        ap (λ b. b && not (is_for d x.last_sent)) (t.flies_is ∙ ap has_flight e)
        ∙ sym (no_flight (flight n.steps) refl (λ z f. absurd (none-ne-some z (sym e ∙ (k.flight_was z f).0))))
    flies (Some z) e =
        ap₂ (λ b (c : Command). b && not (is_for d c)) (t.flies_is ∙ ap has_flight e) (t.sent_is z e)
        ∙ go (is_for d z.command) refl
      where
        go : (b : Bool) → is_for d z.command ≡ b → not b ≡ has_flight (flight n.steps)
        go true f =
            sym (no_flight (flight n.steps) refl
            (λ v q. let w = k.flight_was v q in
            w.1 (ap (λ (r : Flight). r.command.device) (some-injective v z (sym w.0 ∙ e))
            ∙ eqb-true z.command.device d f)))
        go false f = sym (ap has_flight (k.flight_stays z e (eqb-false z.command.device d f)))

-- ---- every call

pub gone_tells : (s : State) (d : ℕ) (a : ℕ → Account) (l : List Group) {r : Result} {lead : List Event} {k : List Group} →
    HubOk s l → Each (AccountTells a) l → (w : Gone s d l r lead k) → Each (AccountTells (event_told w a)) k
gone_tells s d a l h t (nobody q) = t
gone_tells s d a l h t (somebody ga g gb e q) =
    leave-tells s a (ended_account (a g.member.id)) ga g gb (subst (HubOk s) e h) (subst (Each (AccountTells a)) e t)
gone_tells s d a l h t (loses ga g gb e q m) =
    let w = subst (HubOk s) e h in
    let v = subst (Each (AccountTells a)) e t in
    around s a (skipped_account d (a g.member.id)) ga g gb w v (with g (skipped_left d g))
    (own_tells a g.member.id _ (with g (skipped_left d g)) refl (loses_tells s d a ga g gb w (each_mid (AccountTells a) ga g gb v)))

-- an answer that tells an event of d
abbrev pub TellsEvent : ℕ → Call → Answer → Type 0
TellsEvent d c y = (b : ℕ → Account) → note_answer c y b ≡ (λ i. event_account d (b i))

-- the accounts after it, and after the abort ahead of it
pub event-accounts : (s : State) (d : ℕ) (c : Call) (y : Answer) (a : ℕ → Account) (l : List Group)
    {r : Result} {lead : List Event} {k : List Group} →
    TellsEvent d c y → HubOk s l → RunsTold a l → Each (AccountTells a) l → (w : Gone s d l r lead k) →
    note_answers c (r.answers ++ (y ∷ [])) a ≡ event_told w a
unfolding abort
event-accounts s d c y a l n h t v (nobody q) = n a ∙ none_lose s d a l h t v q
event-accounts s d c y a l {k = k} n h t v (somebody ga g gb e q) =
    let w = somebody ga g gb e q in
    let b = put a g.member.id (ended_account (a g.member.id)) in
    let j = hub_gone s d l h w in
    n b ∙ none_lose _ d b k j.0 (gone_runs s s c d a l h t w) (gone_tells s d a l h v w) j.1
event-accounts s d c y a l n h t v (loses ga g gb e q m) =
    n a ∙ one_loses s d a ga g gb (subst (HubOk s) e h) (subst (RunsTold a) e t) (subst (Each (AccountTells a)) e v) q

event-tells : (s : State) (x : Event) (j : ℕ) (c : Call) (y : Answer) (a : ℕ → Account) (l : List Group)
    {r : Result} {lead : List Event} {k : List Group} →
    TellsEvent (device_of x) c y → HubOk s l → RunsTold a l → Each (AccountTells a) l → Gone s (device_of x) l r lead k →
    Each (AccountTells (note_answers c (r.answers ++ (y ∷ [])) a)) (attach_event j x k)
event-tells s x j c y a l {k = k} n h t v w =
    subst (λ b. Each (AccountTells b) (attach_event j x k)) (sym (event-accounts s (device_of x) c y a l n h t v w))
    (same-tells _ (same_attached j x k) (gone_tells s (device_of x) a l h v w))

-- the outcome of a command that was not sent is that of its status
pub pass_agrees : {s : State} {g : Group} {c : Command} {st : Status} → Passes s g c st → Agree st (pass_outcome st)
pass_agrees (is_down u m) = agree_not_sent
pass_agrees (is_off u) = agree_not_sent
pass_agrees (does_hold u k h) = agree_held
pass_agrees (does_not u k h) = agree_not_held

pub accounts_moves : (s : State) (a : ℕ → Account) (l : List Group) {c : Call} {r : Result} {lead : List Event} {k : List Group} →
    HubOk s l → RunsTold a l → Each (AccountTells a) l → Moves s l c r lead k → Each (AccountTells (note_answers c r.answers a)) k
unfolding newcomer commit commit_turn send_turn done_report skip_report abort
accounts_moves s a l h w t (places cs ga gb q e u p n) =
    same-tells (put a i x) (same-placed ga (alone new) gb)
    (each_insert (AccountTells (put a i x)) ga (alone new) gb (others a i x (ga ++ gb) fresh (subst (Each (AccountTells a)) e t))
    (own_tells a i x (alone new) refl (record {
      runs = refl;
      flies = sym (ap has_flight f.flight_is);
      sent = no_sent zero_command (alone new) f.flight_is;
      agree = agree_new cs;
    })))
  where
    i : ℕ
    i = s.next_id

    x : Account
    x = placed_account cs

    new : Member
    new = newcomer i cs

    f : Fresh cs new
    f = fresh-newcomer i cs

    fresh : NotIn i (ids (ga ++ gb))
    fresh = ids_fresh i (ids (ga ++ gb)) (subst (HubOk s) e h).ids_ok
accounts_moves s a l h u t (commits i ga g gb e n r f q) =
    let w = subst (HubOk s) e h in
    let v = subst (Each (AccountTells a)) e t in
    let o = each_mid (AccountTells a) ga g gb v in
    around s a (ended_account (a g.member.id)) ga g gb w v (with g (commit g.member))
    (own_tells a g.member.id _ (with g (commit g.member)) refl (record {
      runs = refl;
      flies = sym (ap has_flight f);
      sent = o.sent_is;
      agree = o.agrees;
    }))
accounts_moves s a l h z t (sends i ga g gb c e n r f q w u plain on) =
    let w = subst (HubOk s) e h in
    let v = subst (Each (AccountTells a)) e t in
    let o = each_mid (AccountTells a) ga g gb v in
    let k = send-step g.member (in-turn s ga g gb w) c (due s c.device) q f in
    around s a (sent_account c (a g.member.id)) ga g gb w v (with g (sent_member s g c))
    (own_tells a g.member.id _ (with g (sent_member s g c)) refl (record {
      runs = o.runs;
      flies = sym (ap has_flight k.flight_is);
      sent = λ y z. let p = sym k.flight_is ∙ z in cc;
      agree = agree_sent (due s c.device) o.agrees;
    }))
accounts_moves s a l h z t (passes i ga g gb c e n r f q w st u) =
    let w = subst (HubOk s) e h in
    let v = subst (Each (AccountTells a)) e t in
    let o = each_mid (AccountTells a) ga g gb v in
    let k = skip_step g.member (in-turn s ga g gb w) c st (passing u) q f in
    subst (λ b. Each (AccountTells b) (ga ++ (with g (passed_member st g) ∷ gb))) (sym (pass-noted i st g.member.id a))
    (around s a _ ga g gb w v (with g (passed_member st g))
    (answered-tells a g (with g (passed_member st g)) (pass_outcome st) refl refl k.flight_is
    (agree_next (pass_outcome st) st (pass_agrees u) o.agrees f) o))
accounts_moves s a l h u t (dones i code ga g gb x e n r f q) =
    let w = subst (HubOk s) e h in
    let v = subst (Each (AccountTells a)) e t in
    let o = each_mid (AccountTells a) ga g gb v in
    let y = in-turn s ga g gb w in
    around s a _ ga g gb w v (with g (done_member g))
    (answered-tells a g (with g (done_member g)) reported_done refl refl (done-step g.member y x f).flight_is
    (agree_flight reported_done was_done agree_done x o.agrees y f) o)
accounts_moves s a l h u t (misses i ga g gb x e n r f) =
    let w = subst (HubOk s) e h in
    let v = subst (Each (AccountTells a)) e t in
    let o = each_mid (AccountTells a) ga g gb v in
    let y = in-turn s ga g gb w in
    around s a _ ga g gb w v (with g (failed_member g))
    (answered-tells a g (with g (failed_member g)) reported_failed refl refl (fail_step g.member y x f).flight_is
    (agree_flight reported_failed was_skipped agree_failed x o.agrees y f) o)
accounts_moves s a l h u t (aborts c ga g gb e r k) =
    leave-tells s a (ended_account (a g.member.id)) ga g gb (subst (HubOk s) e h) (subst (Each (AccountTells a)) e t)
accounts_moves s a l h u t (fails d r lead k n p w) =
    event-tells (with_up s (put s.up d false)) (failure_event d) (r.state.mark d) (failure d) (down d (r.state.mark d)) a l (λ b. refl)
    (hub-up s (put s.up d false) l h) u t w
accounts_moves s a l h u t (restarts d v r lead k n p w) =
    event-tells s (restart_event d v) (r.state.mark d) (restart d v) (up d (r.state.mark d)) a l (λ b. refl) h u t w

-- ---- for an id that is not given yet nothing was sent

-- an account that changes in another part
put-sends : (a : ℕ → Account) (j : ℕ) (x : Account) → x.sends ≡ (a j).sends → (i : ℕ) → (put a j x i).sends ≡ (a i).sends
put-sends = put_keeps (λ (x : Account). x.sends)

pub put-answered : (a : ℕ → Account) (j : ℕ) (o : Outcome) (i : ℕ) → (put a j (answered_account o (a j)) i).sends ≡ (a i).sends
put-answered a j o = put-sends a j (answered_account o (a j)) refl

gone_sends : (s : State) (c : Call) (d : ℕ) (a : ℕ → Account) (l : List Group) {r : Result} {lead : List Event} {k : List Group} →
    Gone s d l r lead k → (i : ℕ) →
    (note_answers c r.answers a i).sends ≡ (a i).sends
unfolding abort
gone_sends s c d a l (nobody q) i = refl
gone_sends s c d a l (somebody ga g gb e q) i = put-sends a g.member.id _ refl i
gone_sends s c d a l (loses ga g gb e q m) i = refl

pub event-sends : (d : ℕ) (x : Account) → (event_account d x).sends ≡ x.sends
event-sends d x = by_if (λ (y : Account). y.sends ≡ x.sends) (x.running && has_begun d x) (λ _. refl) (λ _. refl)

-- nor does an event tell of one that was sent
pub happens_sends : (s : State) (c : Call) (d : ℕ) (y : Answer) (a : ℕ → Account) (l : List Group)
    {r : Result} {lead : List Event} {k : List Group} → TellsEvent d c y →
    Gone s d l r lead k → (i : ℕ) → (note_answers c (r.answers ++ (y ∷ [])) a i).sends ≡ (a i).sends
happens_sends s c d y a l {r = r} n g i =
    ap (λ f. (f i).sends) (note_++ c r.answers (y ∷ []) a ∙ n _) ∙ event-sends d (note_answers c r.answers a i)
    ∙ gone_sends s c d a l g i

abbrev pub Unsent : State → (ℕ → Account) → Type 0
Unsent s a = (i : ℕ) → s.next_id ≤ i → (a i).sends ≡ 0

pub unsent_moves : (s : State) (a : ℕ → Account) (l : List Group) {c : Call} {r : Result} {lead : List Event} {k : List Group} → HubOk s l →
    Unsent s a → Moves s l c r lead k →
    Unsent r.state (note_answers c r.answers a)
unfolding place commit_turn send_turn done_report skipped_state skip_report abort leave attach
unsent_moves s a l h u (places cs ga gb q f v p n) i e =
    by_if (λ (x : Account). x.sends ≡ 0) (eqb i s.next_id) (λ _. refl) (λ _. u i (omega arith))
unsent_moves s a l h u (commits j ga g gb f n r k q) i e = put-sends a g.member.id _ refl i ∙ u i e
unsent_moves s a l h u (sends j ga g gb c f n r k q x v plain on) i e =
    ap (λ (y : Account). y.sends) (put_other a g.member.id _ i (λ z. given z)) ∙ u i e
  where
    below : g.member.id < s.next_id
    below = (ids_right s.next_id (ids ga) (g.member.id ∷ ids gb) (ids_at s ga g gb (subst (HubOk s) f h))).1

    given : i ≡ g.member.id → ⊥
    given z = let b = below in omega arith
unsent_moves s a l h u (passes j ga g gb c f n r k q x st v) i e =
    ap (λ b. (b i).sends) (pass-noted j st g.member.id a) ∙ put-answered a g.member.id (pass_outcome st) i ∙ u i e
unsent_moves s a l h u (dones j code ga g gb x f n r k q) i e = put-answered a g.member.id reported_done i ∙ u i e
unsent_moves s a l h u (misses j ga g gb x f n r k) i e = put-answered a g.member.id reported_failed i ∙ u i e
unsent_moves s a l h u (aborts c ga g gb f r k) i e = put-sends a g.member.id _ refl i ∙ u i e
unsent_moves s a l h u (fails d r lead k n v g) i e =
    happens_sends _ (failure d) d (down d (r.state.mark d)) a l (λ b. refl) g i
    ∙ u i (subst (λ (m : Fixed). m.next_id ≤ i) (gone_fixed _ d l g) e)
unsent_moves s a l h u (restarts d v r lead k n w g) i e =
    happens_sends s (restart d v) d (up d (r.state.mark d)) a l (λ b. refl) g i
    ∙ u i (subst (λ (m : Fixed). m.next_id ≤ i) (attach_fixed (r.state.mark d) (one_restart d v) r.state ∙ gone_fixed s d l g) e)

-- ---- a device works exactly if the hub has it up

working_++ : (l k : List Answer) (w : ℕ → Bool) → working_after_all (l ++ k) w ≡ working_after_all k (working_after_all l w)
working_++ = fold_++ working_after_all (λ w. refl) (λ x l w. refl)

gone_working : (s : State) (d : ℕ) (w : ℕ → Bool) (l : List Group) {r : Result} {lead : List Event} {k : List Group} → Gone s d l r lead k →
    working_after_all r.answers w ≡ w
unfolding abort
gone_working s d w l (nobody q) = refl
gone_working s d w l (somebody ga g gb e q) = refl
gone_working s d w l (loses ga g gb e q m) = refl

-- two tables that agree still do when both get the same
put_agree : (f g : ℕ → Bool) (d : ℕ) (b : Bool) (e : ℕ) → f e ≡ g e → put f d b e ≡ put g d b e
put_agree f g d b e p = ap (λ x. if eqb e d then b else x) p

pub working_moves : (s : State) (w : ℕ → Bool) (l : List Group) {c : Call} {r : Result} {lead : List Event} {k : List Group} →
    ((d : ℕ) → w d ≡ s.up d) → Moves s l c r lead k → (d : ℕ) → working_after_all r.answers w d ≡ r.state.up d
unfolding place commit_turn send_turn done_report skipped_state skip_report abort leave attach
working_moves s w l e (places cs ga gb q f u p n) d = e d
working_moves s w l e (commits i ga g gb f n r k q) d = e d
working_moves s w l e (sends i ga g gb c f n r k q x u plain on) d = e d
working_moves s w l e (passes i ga g gb c f n r k q x st u) d =
    by_answer (λ x. working_after x w d ≡ s.up d) g.member.id (e d) (e d) (e d) st
working_moves s w l e (dones i code ga g gb x f n r k q) d = e d
working_moves s w l e (misses i ga g gb x f n r k) d = e d
working_moves s w l e (aborts c ga g gb f r k) d = e d
working_moves s w l e (fails x r lead k n u g) d =
    ap (λ f. f d) (working_++ r.answers (down x (r.state.mark x) ∷ []) w ∙ ap (λ f. put f x false) (gone_working _ x w l g))
    ∙ put_agree w s.up x false d (e d)
    ∙ ap (λ (f : Fixed). f.up d) (sym (gone_fixed _ x l g))
working_moves s w l e (restarts x v r lead k n u g) d =
    ap (λ f. f d) (working_++ r.answers (up x (r.state.mark x) ∷ []) w ∙ ap (λ f. put f x true) (gone_working s x w l g))
    ∙ put_agree w (attach (r.state.mark x) (one_restart x v) r.state).up x true d
    (e d ∙ ap (λ (f : Fixed). f.up d) (sym (attach_fixed (r.state.mark x) (one_restart x v) r.state ∙ gone_fixed s x l g)))
