-- Demand 3, proved: what holds at the opening is kept by every call and by every step of a device, and gives the three parts. Assumes
-- nothing.
use Rattle.std.proofs.Common.{Ok, Err}
use Rattle.rules_routine.specs.declared.refusals.Refusal.TheVariants.{PassLimitOutOfRange, FirstIdZero}
use mathlib.Core.Path.{◌≡◌, refl, sym, ap, ◌∙◌, subst}
use mathlib.Core.Logic.{◌≢◌}
use mathlib.Core.Bool.{Bool, true, false, not, or-true}
use mathlib.Core.List.{List, [], ◌∷◌, ◌++◌, map, append_assoc, append-nil, tail-eq_of_cons-eq, nil≢cons}
use Prim.Native.Nat.{ℕ, ◌<◌, ◌≤◌}
use native.Mathlib.Omega.{arith}
use borrow.Author.Tests.{ltb-false, le-ltb, eqb-true, eqb-false}
use lib.Dec.{ltb, eqb}
use lib.IntN.{ℤ, pos}
use Rattle.rules_routine.specs.Refusals.{refuse◌when◌, ◌and_then◌, Verdict}
use Rattle.rules_routine.proofs.RoutineLaws.{both_accept, not-refused}
use Rattle.rules.specs.Tables.{any_of, Each}
use Rattle.rules_routine.specs.Limits.{highest_pass_limit}
use Rattle.rules.specs.State.{Member, State}
use Rattle.rules.specs.Answers.{Call, submit, turn, report, failure, restart, cancel, limit, Answer, refused, wait, limited, Result}
use Rattle.rules.specs.Answers.{turned_down, unless_refused}
use Rattle.rules.specs.Due.{due}
use Rattle.rules.specs.Limit.{new_limit_check, with_pass_limit, limit_of}
use Rattle.rules.specs.Settle.{settle_from, settle, settling}
use Rattle.rules.specs.Abort.{leave, abort}
use Rattle.rules.specs.Open.{opened, devices_check, limit_check, open_check, new_hub, open_if, open_of}
use Rattle.rules.specs.Submit.{place}
use Rattle.rules.specs.Turn.{commit_turn, send_turn}
use Rattle.rules.specs.Report.{done_report, skipped_state, skip_report}
use Rattle.rules.specs.Calls.{result_of}
use Rattle.rules.specs.History.{Account, note_answer, note_answers, working_after, working_of}
use Rattle.rules.specs.Order.{Event, Entry, routine, event, Order, order_after, order_after_all, before_bar, entries, move_bar}
use Rattle.rules.specs.Serial.{all_up, serial_run}
use Rattle.rules.specs.World.{Message, Device, takes, World, Act, calls, takes_one, accounts, after_call, world_after, world_after_all}
use Rattle.rules.specs.World.{taken, is_accepted, Truthful, Premised, Premise, PremiseAll, new_world}
use Rattle.rules.specs.Demand3.{order_in, NoneRuns, is_back, committed_part, EndState, Begins, CommandsStand, Statement}
use Rattle.rules.specs.Replay.{ReplayStatement}
use Rattle.rules.specs.HubOrder.{CommandsTold, entry_of, routines_in, OrderIsHubs}
use Rattle.rules.specs.Attach.{one_restart, attach}
use Rattle.rules.proofs.Lists.{by_if, t≠f, fold_++, any_of_++}
use Rattle.rules.proofs.LimitLaws.{limit_passes}
use Rattle.rules_promises.proofs.Groups.{Group, members, alone, flat, still_held, each_held}
use Rattle.rules_promises.proofs.Invariant.{unmarked, HubOk, InFlightIsUp, FirstRuns, OrderOk, AccountTells, back_to, ReachesSetting}
use Rattle.rules_promises.proofs.Invariant.{has}
use Rattle.rules_promises.proofs.Invariant.{goes-back, OneFlightOn, DeviceAt, is_down, none_on_it, one_on_it, DeviceOk}
use Rattle.rules_promises.proofs.Invariant.{PremiseOnCall}
use Rattle.rules_promises.proofs.View.{by_answer, Gone, nobody, somebody, loses, Moves, places, commits, sends, passes, dones}
use Rattle.rules_promises.proofs.View.{misses}
use Rattle.rules_promises.proofs.View.{aborts, fails}
use Rattle.rules_promises.proofs.View.{restarts, Seen, is-refused, waits, limits, moves, see}
use Rattle.rules_promises.proofs.Fields.{Fixed, gone_fixed, attach_fixed, settle_fixed}
use Rattle.rules_promises.proofs.Moved.{hub-limit, hub-settles}
use Rattle.rules_promises.proofs.Kept.{hub_moves, no_flight_on_up, flies_moves, flies_settles}
use Rattle.rules_promises.proofs.Serial.{serial_setting, serial_up, order-due, bar_entries, bar_stays, first_runs, order-settles}
use Rattle.rules_promises.proofs.Ordered.{order_moves}
use Rattle.rules_promises.proofs.Running.{RunsTold, runs_moves, runs-held}
use Rattle.rules_promises.proofs.Accounts.{accounts_moves, Unsent, unsent_moves, working_moves}
use Rattle.rules_promises.proofs.Stands.{stands_moves}
use Rattle.rules_promises.proofs.Followed.{noted_in}
use Rattle.rules_promises.proofs.Asked.{AllPairs, pairs_held, Spares, spares_moves, FlightIsPlain, plain_moves}
use Rattle.rules_promises.proofs.Conditions.{TaggedAll, tagged_moves, OnDevice, ReplaysOn, replays_moves}
use Rattle.rules_promises.proofs.Replay.{replays_is, shows_settled}
use Rattle.rules_promises.proofs.Messages.{ok_state, device_takes, device-settles}
use Rattle.rules_promises.proofs.DeviceKept.{device_moves}
use mathlib.Core.List.{map-append}
use Rattle.rules_routine.specs.Causes.{NoneOf}
use Rattle.rules.specs.Causes.{IdsDiffer}
use Rattle.rules.specs.NewLimit.{NothingTold, LimitTellsNothing, NothingToSettle, LimitChangesK}
use Rattle.rules.specs.Sequence.{with_sequence}
use Rattle.rules_routine.specs.declared.refusals.Refusal.{Refusal}
use Rattle.rules.proofs.Lists.{NotIn, IdsOk, ids_other}
use Rattle.rules_promises.proofs.Groups.{ids}

-- what holds between calls of the state, the order, the accounts, which devices work, and the groups
record Known (s : State) (o : Order) (a : ℕ → Account) (k : ℕ → Bool) (l : List Group) : Type 0 where
  hub : HubOk s l
  flies : Each (InFlightIsUp s) l
  order : OrderOk s o [] l
  first : FirstRuns l
  runs : RunsTold a l
  tells : Each (AccountTells a) l
  unsent : Unsent s a
  works : (d : ℕ) → k d ≡ s.up d
  stands : CommandsStand a (entries o) all_up
  plain : Each FlightIsPlain l
  tagged : TaggedAll a
  spared : AllPairs Spares l
  replays : ReplaysOn a (entries o)

-- and of the devices, if the premise so far, P, holds
record Holds (P : Type 0) (w : World) : Type 0 where
  groups : List Group
  known : Known w.state (order_in w) (accounts w) (working_of w.history) groups
  devices : P → (d : ℕ) → d < w.state.devices → DeviceOk d w.state (accounts w) groups (w.devices d)

-- ---- what begins a list

begins_refl : (l : List Entry) → Begins l l
begins_refl l = ([], sym (append-nil l))

begins_trans : (a b c : List Entry) → Begins a b → Begins b c → Begins a c
begins_trans a b c p q = (p.0 ++ q.0, q.1 ∙ ap (λ l. l ++ q.0) p.1 ∙ append_assoc a p.0 q.0)

-- ---- a call

premise_told : (w : World) (c : Call) → Truthful w c → PremiseOnCall (accounts w) w.devices c
unfolding taken
premise_told w (submit cs) t = t
premise_told w (turn i) t = t
premise_told w (report i code) t = t
premise_told w (failure d) t = t
premise_told w (restart d v) t = t
premise_told w (cancel i) t = t
premise_told w (limit k) t = t

gone_accepted : (s : State) (d : ℕ) (l : List Group) (x : Answer) {r : Result} {lead : List Event} {k : List Group} →
    is_accepted (x ∷ []) ≡ true →
    Gone s d l r lead k → is_accepted (r.answers ++ (x ∷ [])) ≡ true
unfolding abort
gone_accepted s d l x e (nobody q) = e
gone_accepted s d l x e (somebody a g b q f) = refl
gone_accepted s d l x e (loses a g b q f m) = e

-- it is accepted, and the devices are as many as before
pub moves_same : (s : State) (l : List Group) {c : Call} {r : Result} {lead : List Event} {k : List Group} → Moves s l c r lead k →
    (is_accepted r.answers ≡ true) × (r.state.devices ≡ s.devices)
unfolding place commit_turn send_turn done_report skipped_state skip_report abort leave attach
moves_same s l (places cs a b q e u p n) = (refl, refl)
moves_same s l (commits i a g b e n r f q) = (refl, refl)
moves_same s l (sends i a g b c e n r f q w u plain on) = (refl, refl)
moves_same s l (passes i a g b c e n r f q w st u) =
    (by_answer (λ x. is_accepted (x ∷ []) ≡ true) g.member.id refl refl refl st, refl)
moves_same s l (dones i code a g b x e n r f q) = (refl, refl)
moves_same s l (misses i a g b x e n r f) = (refl, refl)
moves_same s l (aborts c a g b e r q) = (refl, refl)
moves_same s l (fails d r lead k n u g) = (gone_accepted _ d l _ refl g, ap (λ (x : Fixed). x.devices) (gone_fixed _ d l g))
moves_same s l (restarts d v r lead k n u g) = (
  gone_accepted s d l _ refl g,
  ap (λ (x : Fixed). x.devices)
      (attach_fixed (r.state.mark d) (one_restart d v) r.state ∙ gone_fixed s d l g),
)

members_alone : (l : List Member) → members (map alone l) ≡ l
members_alone [] = refl
members_alone (m ∷ l) = ap (λ k. m ∷ k) (members_alone l)

-- whatever the state
pub see_any : (s : State) (c : Call) → Seen s (map alone s.sequence) c (result_of s c)
see_any s c = see s (map alone s.sequence) (sym (members_alone s.sequence)) c

-- a call keeps the number of devices
pub devices-kept : (s : State) (c : Call) → (result_of s c).state.devices ≡ s.devices
devices-kept s c = go (see_any s c)
  where
    go : {c : Call} {r : Result} → Seen s (map alone s.sequence) c r → r.state.devices ≡ s.devices
    go (is-refused r) = refl
    go (waits i a g b d condition j w n f) = refl
    go (limits k e) = ap (λ (q : Fixed). q.devices) (settle_fixed (with_pass_limit s k))
    go (moves {r = r} m) = ap (λ (q : Fixed). q.devices) (settle_fixed r.state) ∙ (moves_same s (map alone s.sequence) m).1

-- what holds after a call, and the settled part has only grown
record Next (P : Type 0) (w t : World) : Type 0 where
  next : Holds P t
  grows : Begins (order_in w).settled (order_in t).settled
  same_devices : t.state.devices ≡ w.state.devices

-- a call whose answer, x, tells nothing
untold : (P Q : Type 0) (w : World) (c : Call) (x : Answer) → Holds P w → note_answer c x (accounts w) ≡ accounts w →
    working_after x (working_of w.history) ≡ working_of w.history →
    order_after c (accounts w) x (order_in w) ≡ order_in w →
    Next (P × Q) w (record { state = w.state; history = record { call = c; answers = x ∷ [] } ∷ w.history; devices = w.devices })
untold P Q w c x h a k o = record {
  next = record {
    groups = h.groups;
    known = subst (λ q. Known w.state q (note_answer c x (accounts w)) (working_after x (working_of w.history)) h.groups) (sym same)
        (subst (λ q. Known w.state (order_in w) q (working_after x (working_of w.history)) h.groups) (sym a)
        (subst (λ q. Known w.state (order_in w) (accounts w) q h.groups) (sym k) h.known));
    devices = λ p d n. subst (λ q. DeviceOk d w.state q h.groups (w.devices d)) (sym a) (h.devices p.0 d n);
  };
  grows = subst (λ (q : Order). Begins (order_in w).settled q.settled) (sym same) (begins_refl (order_in w).settled);
  same_devices = refl;
}
  where
    same : move_bar (order_after c (accounts w) x (order_in w)) ≡ order_in w
    same = ap move_bar o ∙ bar_stays w.state (order_in w) h.groups h.known.order h.known.first

-- the first of the sequence runs, so that nothing settles
pub settle-none : (s : State) (l : List Group) → s.sequence ≡ members l → FirstRuns l → settle s ≡ s
unfolding settle
settle-none s l e f = ap (settle_from s) e ∙ go l f ∙ ap (with_sequence s) (sym e)
  where
    go : (l : List Group) → FirstRuns l → settle_from s (members l) ≡ with_sequence s (members l)
    go [] f = refl
    go (g ∷ l) f = rw f refl

-- the same world, with another pass limit
abbrev with_limit : World → ℕ → World
with_limit w k = record { state = with_pass_limit w.state k; history = w.history; devices = w.devices }

holds-limit : (P : Type 0) (w : World) (k : ℕ) → Holds P w → Holds P (with_limit w k)
unfolding due
holds-limit P w k h =
    let s = w.state in
    let j = h.known in
    record {
      groups = h.groups;
      known = record {
        hub = hub-limit s k h.groups j.hub;
        flies = no_flight_on_up s (with_pass_limit s k) (λ d e. e) h.groups j.flies;
        order = record {
          unsettled-is = j.order.unsettled-is;
          settled_is = j.order.settled_is;
          up_is = j.order.up_is;
          events_ok = j.order.events_ok;
          ids_ok = j.order.ids_ok;
          barred = j.order.barred;
        };
        first = j.first;
        runs = j.runs;
        tells = j.tells;
        unsent = j.unsent;
        works = j.works;
        stands = j.stands;
        plain = j.plain;
        tagged = j.tagged;
        spared = j.spared;
        replays = j.replays;
      };
      devices = λ p d n. ok_state d s (with_pass_limit s k) (accounts w) h.groups (w.devices d) refl refl (h.devices p d n);
    }

-- a call that changes something
told : (P : Type 0) (w : World) (c : Call) (v : ℤ) (h : Holds P w) {r : Result} {lead : List Event} {k : List Group} →
    Moves w.state h.groups c r lead k →
    Next (P × Premised w c r.answers) w (after_call w c v (settling r))
told P w c v h {r = r} {lead = lead} {k = k} m = record {
  next = record {
    groups = still_held k;
    known = record {
      hub = hub-settles r.state k hub;
      flies = flies_settles r.state k (flies_moves s l j.hub j.flies m);
      order = settled.0;
      first = first_runs k;
      runs = runs-held (note_answers c r.answers a) k (runs_moves s a l j.hub j.runs m);
      tells = each_held (AccountTells (note_answers c r.answers a)) k (accounts_moves s a l j.hub j.runs j.tells m);
      unsent = λ i e. unsent_moves s a l j.hub j.unsent m i (subst (λ (q : Fixed). q.next_id ≤ i) (settle_fixed r.state) e);
      works = λ d. working_moves s (working_of w.history) l j.works m d ∙ ap (λ (q : Fixed). q.up d) (sym (settle_fixed r.state));
      stands = subst (λ q. CommandsStand (note_answers c r.answers a) q all_up)
          (sym (bar_entries (order_after_all c a r.answers (order_in w))))
          (stands_moves s (order_in w) a l j.hub j.flies j.order j.runs j.tells j.stands m);
      plain = each_held FlightIsPlain k (plain_moves s l j.hub j.plain m);
      tagged = tagged_moves s a l j.hub j.runs j.tells j.plain j.tagged m;
      spared = pairs_held Spares k (spares_moves s l j.hub j.spared m);
      replays = subst (ReplaysOn (note_answers c r.answers a)) (sym (bar_entries (order_after_all c a r.answers (order_in w))))
          (replays_moves s (order_in w) a l j.hub j.order j.runs j.tells j.spared j.replays m);
    };
    devices = λ p d n. device-settles d r.state _ k _ hub
        (device_moves d s a l w.devices v (subst (λ q. d < q) same n) j.hub j.order.events_ok j.tells
        (h.devices p.0 d (subst (λ q. d < q) same n)) (j.unsent s.next_id (omega arith)) j.flies
        (premise_told w c (p.1 (moves_same s l m).0)) m);
  };
  grows = subst (λ q. Begins q (move_bar (order_after_all c a r.answers (order_in w))).settled) moved.1 settled.1;
  same_devices = same;
}
  where
    s : State
    s = w.state

    l : List Group
    l = h.groups

    a : ℕ → Account
    a = accounts w

    j : Known s (order_in w) a (working_of w.history) l
    j = h.known

    same : (settle r.state).devices ≡ s.devices
    same = ap (λ (q : Fixed). q.devices) (settle_fixed r.state) ∙ (moves_same s l m).1

    hub : HubOk r.state k
    hub = hub_moves s l j.hub m

    moved : OrderOk r.state (order_after_all c a r.answers (order_in w)) lead k
        × ((order_after_all c a r.answers (order_in w)).settled ≡ (order_in w).settled)
    moved = order_moves s (order_in w) a l j.hub j.order j.tells m

    settled : OrderOk (settle r.state) (move_bar (order_after_all c a r.answers (order_in w))) [] (still_held k)
        × Begins (order_after_all c a r.answers (order_in w)).settled (move_bar (order_after_all c a r.answers (order_in w))).settled
    settled = order-settles r.state (order_after_all c a r.answers (order_in w)) lead k hub moved.0

seen : (P : Type 0) (w : World) (c : Call) (v : ℤ) (h : Holds P w) {r : Result} → Seen w.state h.groups c r →
    Next (P × Premised w c r.answers) w (after_call w c v r)
seen P w c v h (is-refused r) = untold P _ w c (refused r) h refl refl refl
seen P w _ v h (waits i a g b d condition j e n f) = untold P _ w (turn i) (wait g.member.id j) h refl refl refl
seen P w _ v h (limits k e) =
    let n = untold P _ (with_limit w k) (limit k) (limited k) (holds-limit P w k h) refl refl refl in
    let same = settle-none (with_pass_limit w.state k) h.groups h.known.hub.sequence_is h.known.first in
    subst (λ s. Next (P × Premised w (limit k) (limited k ∷ [])) w
    (after_call w (limit k) v (record { state = s; answers = limited k ∷ [] })))
    (sym same) (record { next = n.next; grows = n.grows; same_devices = n.same_devices })
seen P w c v h (moves m) = told P w c v h m

-- ---- any act

acted : (P : Type 0) (w : World) (x : Act) → Holds P w → Next (P × Premise w x) w (world_after w x)
acted P w (calls c v) h = seen P w c v h (see w.state h.groups h.known.hub.sequence_is c)
acted P w (takes_one d k) h = record {
  next = record {
    groups = h.groups;
    known = h.known;
    devices = λ p e n. by_if (DeviceOk e w.state (accounts w) h.groups) (eqb e d)
        (λ t. subst (λ x. DeviceOk x w.state (accounts w) h.groups (takes k (w.devices d).sent (w.devices d)))
        (sym (eqb-true e d t))
        (device_takes d w.state (accounts w) h.groups (w.devices d) k
        (h.devices p.0 d (subst (λ x. x < w.state.devices) (eqb-true e d t) n))))
        (λ _. h.devices p.0 e n);
  };
  grows = begins_refl (order_in w).settled;
  same_devices = refl;
}

-- the premise may be stronger
stronger : (P Q : Type 0) (w : World) → (Q → P) → Holds P w → Holds Q w
stronger P Q w f h = record { groups = h.groups; known = h.known; devices = λ q. h.devices (f q) }

-- a list of acts
acts_hold : (P : Type 0) (w : World) (l : List Act) → Holds P w → Next (P × PremiseAll w l) w (world_after_all w l)
acts_hold P w [] h =
    record { next = stronger P (P × Unit {0}) w (λ q. q.0) h; grows = begins_refl (order_in w).settled; same_devices = refl }
acts_hold P w (x ∷ l) h =
    let n = acted P w x h in
    let m = acts_hold (P × Premise w x) (world_after w x) l n.next in
    record {
      next = stronger ((P × Premise w x) × PremiseAll (world_after w x) l) (P × PremiseAll w (x ∷ l)) (world_after_all (world_after w x) l)
          (λ q. ((q.0, q.1.0), q.1.1)) m.next;
      grows = begins_trans (order_in w).settled (order_in (world_after w x)).settled (order_in (world_after_all (world_after w x) l)).settled
          n.grows m.grows;
      same_devices = m.same_devices ∙ n.same_devices;
    }

-- ---- the opening

-- the hub of an accepted opening
pub opening : (n k first : ℕ) (s : State) → open_of n k first ≡ opened s →
    (new_hub n k first ≡ s) × (0 < first) × (k ≤ highest_pass_limit) × (devices_check n ≡ Ok tt)
unfolding open_check open_of
opening n k first s e = go (open_check n k first) refl e
  where
    positive : (i : ℕ) → i ≢ 0 → 0 < i
    positive i z = omega arith

    go : (v : Verdict) → open_check n k first ≡ v → open_if v (new_hub n k first) ≡ opened s →
        (new_hub n k first ≡ s) × (0 < first) × (k ≤ highest_pass_limit) × (devices_check n ≡ Ok tt)
    go (Ok tt) q f =
        let p = both_accept (devices_check n) _ q in
        let r = both_accept (limit_check k) _ p.1 in (
          cc,
          positive first (eqb-false first 0 (not-refused FirstIdZero (eqb first 0) r.1)),
          ltb-false highest_pass_limit k (not-refused PassLimitOutOfRange (ltb highest_pass_limit k) r.0),
          p.0,
        )
    go (Err r) q f = let z : ◌≡◌ {A = ℕ} 0 1 = cc in absurd (omega arith)

new_holds : (n k first : ℕ) → 0 < first → Holds (Unit {0}) (new_world (new_hub n k first))
unfolding new_hub due
new_holds n k first p = record {
  groups = [];
  known = record {
    hub = record { sequence_is = refl; ids_ok = tt; marks = λ d. unmarked refl tt; nothing_left_all = tt; turns = tt; some_id = p };
    flies = tt;
    order = record { unsettled-is = refl; settled_is = λ d. refl; up_is = λ d. refl; events_ok = tt; ids_ok = tt; barred = refl };
    first = tt;
    runs = λ i. refl;
    tells = tt;
    unsent = λ i e. refl;
    works = λ d. refl;
    stands = tt;
    plain = tt;
    tagged = λ i. tt;
    spared = tt;
    replays = λ d. tt;
  };
  devices = λ q d m. record { old_sent = tt; old_took = tt; device_at = none_on_it refl tt (has refl refl) };
}

-- ---- the three parts

-- the first of the sequence runs, so that if none does there is none
nobody_left : (w : World) (l : List Group) → NoneRuns w → FirstRuns l → Each (AccountTells (accounts w)) l → l ≡ []
nobody_left w [] n f t = refl
nobody_left w (g ∷ l) n f t = t≠f (sym (t.0.runs ∙ ap not f) ∙ n g.member.id)

-- what puts a device back is the last of what was sent to it, and none is left
reaches_to : (u v : ℤ) (l : List Message) → any_of is_back l ≡ false → ReachesSetting u v l → u ≡ v
reaches_to u v l n (has e f) = f
reaches_to u v l n (goes-back k e) = t≠f (sym (ap (any_of is_back) e ∙ any_of_++ is_back k (back_to v ∷ []) ∙ or-true (any_of is_back k)) ∙ n)

settles_at : (d : ℕ) (s : State) (a : ℕ → Account) (w : Device) → s.up d ≡ true → any_of is_back w.sent ≡ false →
    DeviceAt d (s.up d) (due s d) a [] w → due s d ≡ w.setting
settles_at d s a w u n (is_down e f) = t≠f (sym u ∙ e)
settles_at d s a w u n (none_on_it e f k) = sym (reaches_to w.setting (due s d) w.sent n k)
settles_at d s a w u n (one_on_it e f) = absurd (nobody_flies f)
  where
    nobody_flies : OneFlightOn d a w [] → ⊥
    nobody_flies = elim [ ]

-- the serial run gives what the hub has of d
serial_is : (P : Type 0) (w : World) → Holds P w → (d : ℕ) →
    serial_run (entries (order_in w)) all_up d ≡ record { up = w.state.up d; setting = due w.state d }
serial_is P w h d =
    let k = h.known in
    ap (λ u. record { up = u; setting = (serial_run (entries (order_in w)) all_up d).setting })
    (serial_up d (entries (order_in w)) all_up ∙ k.order.up_is d)
    ∙ ap (λ v. record { up = w.state.up d; setting = v })
    (serial_setting d (entries (order_in w)) all_up ∙ order-due w.state (order_in w) h.groups k.hub k.order d)

-- what stands before the bar is committed
all_committed : (l : List Entry) → before_bar l ≡ l → committed_part l ≡ l
all_committed [] e = refl
all_committed (event x ∷ l) e = ap (λ m. event x ∷ m) (all_committed l (tail-eq_of_cons-eq e))
all_committed (routine i cs true ∷ l) e = ap (λ m. routine i cs true ∷ m) (all_committed l (tail-eq_of_cons-eq e))
all_committed (routine i cs false ∷ l) e = absurd (nil≢cons e)

-- if no routine runs, none is held, and the whole order is committed
none-held : (P : Type 0) (w : World) (h : Holds P w) → NoneRuns w → h.groups ≡ []
none-held P w h none_runs = nobody_left w h.groups none_runs h.known.first h.known.tells

whole_committed : (P : Type 0) (w : World) → Holds P w → NoneRuns w → committed_part (entries (order_in w)) ≡ entries (order_in w)
whole_committed P w h none_runs = ap committed_part settled ∙ all_committed (order_in w).settled h.known.order.barred ∙ sym settled
  where
    settled : entries (order_in w) ≡ (order_in w).settled
    settled =
        ap (λ l. (order_in w).settled ++ l) (h.known.order.unsettled-is ∙ ap flat (none-held P w h none_runs))
        ∙ append-nil (order_in w).settled

end_state : (P : Type 0) (w : World) → Holds P w → P → EndState w.state.devices w
end_state P w h p none_runs d n works no-back =
    ap (λ l. serial_run l all_up d) (whole_committed P w h none_runs) ∙ serial_is P w h d
    ∙ ap (λ u. record { up = u; setting = due w.state d }) up
    ∙ ap (λ v. record { up = true; setting = v }) (settles_at d w.state (accounts w) (w.devices d) up no-back
    (subst (λ l. DeviceAt d (w.state.up d) (due w.state d) (accounts w) l (w.devices d)) (none-held P w h none_runs)
    (h.devices p d n).device_at))
  where
    up : w.state.up d ≡ true
    up = sym (h.known.works d) ∙ works

-- what holds after any list, from an accepted opening
started : (n k first : ℕ) (s : State) → open_of n k first ≡ opened s → Holds (Unit {0}) (new_world s)
started n k first s e = let h = opening n k first s e in subst (λ t. Holds (Unit {0}) (new_world t)) h.0 (new_holds n k first h.1)

pub demand_3 : Statement
demand_3 n k first s e acts = record {
  end_state = λ p. subst (λ m. EndState m w) all.same_devices (end_state (Unit {0} × PremiseAll o acts) w all.next (tt, p));
  settled_part = λ before rest q.
      let b = acts_hold (Unit {0}) o before start in
      let t = world_after_all o before in
      let r = acts_hold (Unit {0} × PremiseAll o before) t rest b.next in
      let same : w ≡ world_after_all t rest = ap (world_after_all o) q
      ∙ fold_++ (λ l v. world_after_all v l) (λ v. refl) (λ x l v. refl) before rest o in
      subst (λ z. Begins (order_in t).settled (entries (order_in z))) (sym same)
      (begins_trans (order_in t).settled (order_in (world_after_all t rest)).settled (entries (order_in (world_after_all t rest))) r.grows
      ((order_in (world_after_all t rest)).unsettled, refl));
  commands_stand = all.next.known.stands;
}
  where
    o : World
    o = new_world s

    w : World
    w = world_after_all o acts

    start : Holds (Unit {0}) o
    start = started n k first s e

    all : Next (Unit {0} × PremiseAll o acts) o w
    all = acts_hold (Unit {0}) o acts start

-- the routines behind the bar are those of the groups
routines_flat : (l : List Group) → routines_in (flat l) ≡ map entry_of (members l)
routines_flat [] = refl
routines_flat (g ∷ l) = ap (λ m. entry_of g.member ∷ m) (past g.events ∙ routines_flat l)
  where
    past : (e : List Event) → routines_in (map event e ++ flat l) ≡ routines_in (flat l)
    past [] = refl
    past (x ∷ e) = past e

pub hub-order : OrderIsHubs
hub-order n k first s e acts =
    let h = (acts_hold (Unit {0}) (new_world s) acts (started n k first s e)).next in
    record {
      routines_are = ap routines_in h.known.order.unsettled-is ∙ routines_flat h.groups
          ∙ ap (map entry_of) (sym h.known.hub.sequence_is);
      devices_are = serial_is (Unit {0} × PremiseAll (new_world s) acts) (world_after_all (new_world s) acts) h;
      commands_are = subst (Each (CommandsTold (accounts (world_after_all (new_world s) acts)))) (sym h.known.hub.sequence_is)
          (all_told (accounts (world_after_all (new_world s) acts)) h.groups h.known.tells);
    }
  where
    all_told : (a : ℕ → Account) (l : List Group) → Each (AccountTells a) l → Each (CommandsTold a) (members l)
    all_told a [] t = tt
    all_told a (g ∷ l) t = (t.0.agrees, all_told a l t.1)

-- the replay of conditions
pub replay : ReplayStatement
replay n k first s e acts = record {
  all_routines = replays_is (accounts w) (entries (order_in w)) all_up h.tagged h.replays;
  committed_routines = replays_is (accounts w) (committed_part (entries (order_in w))) all_up h.tagged
      (λ d. subst (λ l. OnDevice d (noted_in (accounts w)) (committed_part l) true (pos 0)) (sym whole)
      (shows_settled d (accounts w) (order_in w).settled l h.order.barred h.tells h.spared true (pos 0)
      (subst (λ l. OnDevice d (noted_in (accounts w)) l true (pos 0)) whole (h.replays d))));
}
  where
    w : World
    w = world_after_all (new_world s) acts

    all : Holds (Unit {0} × PremiseAll (new_world s) acts) w
    all = (acts_hold (Unit {0}) (new_world s) acts (started n k first s e)).next

    l : List Group
    l = all.groups

    h : Known w.state (order_in w) (accounts w) (working_of w.history) l
    h = all.known

    whole : entries (order_in w) ≡ (order_in w).settled ++ flat l
    whole = ap (λ r. (order_in w).settled ++ r) h.order.unsettled-is

-- if no routine runs after the list, what demand 3 has of the committed routines is the whole order
pub order-committed : (n k first : ℕ) (s : State) → open_of n k first ≡ opened s → (acts : List Act) →
    let w = world_after_all (new_world s) acts in
    NoneRuns w → committed_part (entries (order_in w)) ≡ entries (order_in w)
order-committed n k first s e acts =
    whole_committed (Unit {0} × PremiseAll (new_world s) acts) (world_after_all (new_world s) acts)
    (acts_hold (Unit {0}) (new_world s) acts (started n k first s e)).next

-- whatever runs, a device works, by the answers, exactly if it is up at the hub
pub working_up : (n k first : ℕ) (s : State) → open_of n k first ≡ opened s → (acts : List Act) (d : ℕ) →
    let w = world_after_all (new_world s) acts in
    working_of w.history d ≡ w.state.up d
working_up n k first s e acts d = (acts_hold (Unit {0}) (new_world s) acts (started n k first s e)).next.known.works d

-- the ids of the sequence are those of the groups
ids_members : (l : List Group) → ids l ≡ map (λ (m : Member). m.id) (members l)
ids_members [] = refl
ids_members (g ∷ l) = ap (λ k. g.member.id ∷ k) (ids_members l)

-- an id that is not among those of some routines is none of theirs
none_has : (i : ℕ) (l : List Member) → NotIn i (map (λ (m : Member). m.id) l) → NoneOf (λ m. m.id ≡ i) l
none_has i [] h = tt
none_has i (m ∷ l) h = (h.0, none_has i l h.1)

pub ids_differ : IdsDiffer
ids_differ n k first s e acts a m b w =
    let h = (acts_hold (Unit {0}) (new_world s) acts (started n k first s e)).next in
    let id : Member → ℕ = λ x. x.id in
    let same = ids_members h.groups ∙ ap (map id) (sym h.known.hub.sequence_is ∙ w) ∙ map-append id a (m ∷ b) in
    none_has m.id (a ++ b)
    (subst (NotIn m.id) (sym (map-append id a b))
    (ids_other _ (map id a) m.id (map id b) (subst (IdsOk _) same h.known.hub.ids_ok)))

-- ---- new pass limits

pub limit-tells_nothing : LimitTellsNothing
unfolding limit_of
limit-tells_nothing n k first s e acts new v =
    by_verdict (λ (r : Result). NothingTold w (after_call w (limit new) v r)) (new_limit_check w.state.devices new)
    (record { same_order = same; same_accounts = refl; same_working = refl; same_devices = refl })
    (λ r. record { same_order = same; same_accounts = refl; same_working = refl; same_devices = refl })
  where
    w : World
    w = world_after_all (new_world s) acts

    same : move_bar (order_in w) ≡ order_in w
    same =
        let h = (acts_hold (Unit {0}) (new_world s) acts (started n k first s e)).next in
        bar_stays w.state (order_in w) h.groups h.known.order h.known.first

    by_verdict : (P : Result → Type 0) (x : Verdict) {r : Result} → P r → ((y : Refusal) → P (turned_down y w.state)) →
        P (unless_refused x w.state r)
    by_verdict P (Ok tt) a b = a
    by_verdict P (Err y) a b = b y

pub nothing_to_settle : NothingToSettle
nothing_to_settle n k first s e acts =
    let w = world_after_all (new_world s) acts in
    let h = (acts_hold (Unit {0}) (new_world s) acts (started n k first s e)).next in
    settle-none w.state h.groups h.known.hub.sequence_is h.known.first

pub limit_changes_k : LimitChangesK
unfolding new_hub
limit_changes_k n k first s e acts new low =
    let w = world_after_all (new_world s) acts in
    let h = acts_hold (Unit {0}) (new_world s) acts (started n k first s e) in
    let o = opening n k first s e in
    let fine : devices_check w.state.devices ≡ (Ok tt) =
    subst (λ d. devices_check d ≡ Ok tt) (sym (h.same_devices ∙ sym (ap (λ (t : State). t.devices) o.0))) o.3 in
    limit_passes w.state new (ap (λ (v : Verdict). v and_then limit_check new) fine
    ∙ ap (λ b. refuse PassLimitOutOfRange when b) (le-ltb highest_pass_limit new low))
    ∙ ap (λ (t : State). record { state = t; answers = limited new ∷ [] })
    (settle-none (with_pass_limit w.state new) h.next.groups h.next.known.hub.sequence_is h.next.known.first)
