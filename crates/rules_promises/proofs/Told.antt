-- Which routines have a command in flight, told by the answers, is what the hub holds. Assumes nothing.
use Rattle.std.proofs.Common.{None}
use mathlib.Core.Path.{◌≡◌, refl, sym, ap, ◌∙◌, subst}
use mathlib.Core.Bool.{Bool, false, and-false}
use mathlib.Core.List.{List, [], ◌∷◌, ◌++◌}
use Prim.Native.Nat.{ℕ}
use Rattle.rules.specs.Tables.{put, Each}
use Rattle.rules.specs.State.{Member, State}
use Rattle.rules.specs.Answers.{Call, failure, restart, Answer, down, up, Result}
use Rattle.rules.specs.Progress.{flight}
use Rattle.rules.specs.Due.{due}
use Rattle.rules.specs.Sequence.{is_running, with_up}
use Rattle.rules.specs.Abort.{abort}
use Rattle.rules.specs.Submit.{newcomer}
use Rattle.rules.specs.Turn.{commit, commit_turn, send_turn}
use Rattle.rules.specs.Report.{done_report, skip_report}
use Rattle.rules.specs.History.{Outcome, reported_done, reported_failed, Account, placed_account, sent_account}
use Rattle.rules.specs.History.{answered_account, ended_account, skipped_account, note_answers}
use Rattle.rules.specs.Order.{Event, failure_event, restart_event, device_of}
use Rattle.rules.proofs.Schedules.{is_flying}
use Rattle.rules.proofs.Lists.{each_mid, ids_fresh, put_same}
use Rattle.rules_promises.proofs.Groups.{Group, ids, alone, with, leaving, attach_event, still_held, other_ids}
use Rattle.rules_promises.proofs.Same.{Same, same-placed, same_leaving, same_attached}
use Rattle.rules_promises.proofs.Steps.{send-step, skip_step, done-step, fail_step, fresh-newcomer}
use Rattle.rules_promises.proofs.Invariant.{HubOk, AccountTells}
use Rattle.rules_promises.proofs.View.{passing, sent_member, passed_member, done_member, failed_member, skipped_left, Gone, nobody}
use Rattle.rules_promises.proofs.View.{somebody}
use Rattle.rules_promises.proofs.View.{loses}
use Rattle.rules_promises.proofs.View.{Moves, places, commits, sends, passes, dones, misses, aborts, fails, restarts}
use Rattle.rules_promises.proofs.Marks.{in-turn, halfway_is}
use Rattle.rules_promises.proofs.Moved.{hub-up}
use Rattle.rules_promises.proofs.Running.{pass_outcome, pass-noted, Tells, tells-put, tells-drop, tells_new, tells-held, tells-same}
use Rattle.rules_promises.proofs.Running.{put_part}
use Rattle.rules_promises.proofs.Running.{RunsTold}
use Rattle.rules_promises.proofs.Accounts.{event_told, gone_tells, TellsEvent, event-accounts}

abbrev pub flying_in : (ℕ → Account) → ℕ → Bool
flying_in a i = (a i).flying

abbrev pub FliesTold : (ℕ → Account) → List Group → Type 0
FliesTold a l = Tells is_flying (flying_in a) l

same-flying : (g h : Group) → Same g h → is_flying h.member ≡ is_flying g.member
unfolding is_flying is_running
same-flying g h e = rw (e.same-committed, e.same-steps) refl

grounded_flying : (m : Member) → flight m.steps ≡ None → is_flying m ≡ false
unfolding is_flying
grounded_flying m e = rw e (and-false (is_running m))

module _ (s : State) (a : ℕ → Account) (ga : List Group) (g : Group) (gb : List Group) (w : HubOk s (ga ++ (g ∷ gb)))
    (t : FliesTold a (ga ++ (g ∷ gb))) where
  -- g becomes h, and its account x
  now_flies : (x : Account) (h : Group) → h.member.id ≡ g.member.id → is_flying h.member ≡ x.flying →
      FliesTold (put a g.member.id x) (ga ++ (h ∷ gb))
  now_flies x h same is i =
      put_part (λ (y : Account). y.flying) a g.member.id x i
      ∙ tells-put is_flying (flying_in a) x.flying ga g h gb (other_ids s.next_id ga g gb w.ids_ok) same is t i

  -- the first command that is left is answered
  lands : (o : Outcome) (h : Group) → h.member.id ≡ g.member.id → flight h.member.steps ≡ None →
      FliesTold (put a g.member.id (answered_account o (a g.member.id))) (ga ++ (h ∷ gb))
  lands o h same e = now_flies (answered_account o (a g.member.id)) h same (grounded_flying h.member e)

  gone_down : FliesTold (put a g.member.id (ended_account (a g.member.id))) (leaving ga g gb)
  gone_down =
      let x = ended_account (a g.member.id) in
      tells-same is_flying same-flying (flying_in (put a g.member.id x)) (same_leaving ga g gb)
      (λ i. put_part (λ (y : Account). y.flying) a g.member.id x i
      ∙ tells-drop is_flying (flying_in a) ga g gb (other_ids s.next_id ga g gb w.ids_ok) t i)

gone_flies : (s : State) (d : ℕ) (a : ℕ → Account) (l : List Group) {r : Result} {lead : List Event} {k : List Group} →
    HubOk s l → Each (AccountTells a) l → FliesTold a l → (w : Gone s d l r lead k) → FliesTold (event_told w a) k
unfolding is_flying is_running
gone_flies s d a l h u t (nobody q) = t
gone_flies s d a l h u t (somebody ga g gb e q) = gone_down s a ga g gb (subst (HubOk s) e h) (subst (FliesTold a) e t)
gone_flies s d a l h u t (loses ga g gb e q m) =
    let i = g.member.id in
    let x = skipped_account d (a i) in
    let n = with g (skipped_left d g) in
    let k = each_mid (AccountTells (put a i x)) ga n gb (gone_tells s d a l h u (loses ga g gb e q m)) in
    now_flies s a ga g gb (subst (HubOk s) e h) (subst (FliesTold a) e t) x n refl
    (rw (halfway_is d g.member q).runs (sym k.flies_is ∙ ap (λ (y : Account). y.flying) (put_same a i x)))

event_flies : (s : State) (x : Event) (j : ℕ) (c : Call) (y : Answer) (a : ℕ → Account) (l : List Group)
    {r : Result} {lead : List Event} {k : List Group} →
    TellsEvent (device_of x) c y → HubOk s l → RunsTold a l → Each (AccountTells a) l → FliesTold a l → Gone s (device_of x) l r lead k →
    FliesTold (note_answers c (r.answers ++ (y ∷ [])) a) (attach_event j x k)
event_flies s x j c y a l {k = k} n h u v t w =
    subst (λ b. FliesTold b (attach_event j x k)) (sym (event-accounts s (device_of x) c y a l n h u v w))
    (tells-same is_flying same-flying _ (same_attached j x k) (gone_flies s (device_of x) a l h v t w))

pub flies_told : (s : State) (a : ℕ → Account) (l : List Group) {c : Call} {r : Result} {lead : List Event} {k : List Group} → HubOk s l →
    RunsTold a l → Each (AccountTells a) l → FliesTold a l → Moves s l c r lead k →
    FliesTold (note_answers c r.answers a) k
unfolding commit_turn commit send_turn done_report skip_report abort is_flying is_running newcomer
flies_told s a l h u v t (places cs ga gb q e z p n) =
    let new = newcomer s.next_id cs in
    let f = grounded_flying new (fresh-newcomer s.next_id cs).flight_is in
    tells-same is_flying same-flying _ (same-placed ga (alone new) gb)
    (λ i. put_part (λ (y : Account). y.flying) a s.next_id (placed_account cs) i
    ∙ ap (λ b. put (flying_in a) s.next_id b i) (sym f)
    ∙ tells_new is_flying (flying_in a) ga (alone new) gb (ids_fresh s.next_id (ids (ga ++ gb)) (subst (HubOk s) e h).ids_ok)
    (subst (FliesTold a) e t) i)
flies_told s a l h u v t (commits i ga g gb e n r x q) =
    now_flies s a ga g gb (subst (HubOk s) e h) (subst (FliesTold a) e t) (ended_account (a g.member.id)) (with g (commit g.member))
    refl refl
flies_told s a l h u v t (sends i ga g gb c e n r x q w z plain on) =
    let y = subst (HubOk s) e h in
    let k = send-step g.member (in-turn s ga g gb y) c (due s c.device) q x in
    now_flies s a ga g gb y (subst (FliesTold a) e t) (sent_account c (a g.member.id)) (with g (sent_member s g c)) refl
    (rw (r, k.flight_is) refl)
flies_told s a l h u v t (passes i ga g gb c e n r x q w st z) =
    let y = subst (HubOk s) e h in
    subst (λ b. FliesTold b (ga ++ (with g (passed_member st g) ∷ gb))) (sym (pass-noted i st g.member.id a))
    (lands s a ga g gb y (subst (FliesTold a) e t) (pass_outcome st) (with g (passed_member st g)) refl
    (skip_step g.member (in-turn s ga g gb y) c st (passing z) q x).flight_is)
flies_told s a l h u v t (dones i code ga g gb x e n r z q) =
    let y = subst (HubOk s) e h in
    lands s a ga g gb y (subst (FliesTold a) e t) reported_done (with g (done_member g)) refl
    (done-step g.member (in-turn s ga g gb y) x z).flight_is
flies_told s a l h u v t (misses i ga g gb x e n r z) =
    let y = subst (HubOk s) e h in
    lands s a ga g gb y (subst (FliesTold a) e t) reported_failed (with g (failed_member g)) refl
    (fail_step g.member (in-turn s ga g gb y) x z).flight_is
flies_told s a l h u v t (aborts c ga g gb e r k) = gone_down s a ga g gb (subst (HubOk s) e h) (subst (FliesTold a) e t)
flies_told s a l h u v t (fails d r lead k n z w) =
    event_flies (with_up s (put s.up d false)) (failure_event d) (r.state.mark d) (failure d) (down d (r.state.mark d)) a l (λ b. refl)
    (hub-up s (put s.up d false) l h) u v t w
flies_told s a l h u v t (restarts d x r lead k n z w) =
    event_flies s (restart_event d x) (r.state.mark d) (restart d x) (up d (r.state.mark d)) a l (λ b. refl) h u v t w

pub flies_held : (a : ℕ → Account) (k : List Group) → FliesTold a k → FliesTold a (still_held k)
unfolding is_flying is_running
flies_held a k = tells-held is_flying (λ g e. rw e refl) (flying_in a) k
