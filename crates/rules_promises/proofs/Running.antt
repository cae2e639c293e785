-- Which routines run, told by the answers, is what the hub holds. Assumes nothing.
use mathlib.Core.Path.{◌≡◌, refl, sym, ap, ◌∙◌, subst}
use mathlib.Core.Logic.{◌≢◌}
use mathlib.Core.Bool.{Bool, true, false, cond, not, ◌&&◌, ◌||◌, and-false}
use mathlib.Core.List.{List, [], ◌∷◌, ◌++◌}
use Prim.Native.Nat.{ℕ}
use borrow.Author.Tests.{eqb-true, eq-eqb, ne_eqb}
use lib.Dec.{eqb}
use Rattle.rules.specs.Tables.{any_of, put}
use Rattle.rules.specs.State.{Status, to-do, in_flight, was_done, was_skipped, was_held, was_not_held, Member, State}
use Rattle.rules.specs.Answers.{Call, turn, failure, restart, Answer, down, up, Result}
use Rattle.rules.specs.Sequence.{is_running}
use Rattle.rules.specs.Abort.{abort}
use Rattle.rules.specs.Submit.{newcomer}
use Rattle.rules.specs.Turn.{commit, commit_turn, send_turn}
use Rattle.rules.specs.Report.{done_report, skip_report}
use Rattle.rules.specs.History.{Outcome, reported_done, reported_failed, not_sent, found_held, found_not_held, Account}
use Rattle.rules.specs.History.{placed_account, sent_account}
use Rattle.rules.specs.History.{answered_account, ended_account, has_begun, event_account, note_answers}
use Rattle.rules.specs.Order.{Event, failure_event, restart_event}
use Rattle.rules.proofs.Lists.{by_if, t≠f, fold_++, put_keeps, NotIn, ids_fresh}
use Rattle.rules_promises.proofs.Groups.{Group, ids, alone, with, leaving, attach_event, still_held, other_ids}
use Rattle.rules_promises.proofs.Same.{Pairwise, no_pair, pair, Same, same-placed, same_leaving, same_attached}
use Rattle.rules_promises.proofs.Invariant.{HubOk}
use Rattle.rules_promises.proofs.View.{pass_answer, sent_member, passed_member, done_member, failed_member, skipped_left, Gone, nobody}
use Rattle.rules_promises.proofs.View.{somebody}
use Rattle.rules_promises.proofs.View.{loses}
use Rattle.rules_promises.proofs.View.{Moves, places, commits, sends, passes, dones, misses, aborts, fails, restarts}

-- ---- a table over ids that says whether the routine with an id passes a test

abbrev pub has : (Member → Bool) → ℕ → Group → Bool
has q i g = eqb g.member.id i && q g.member

-- the table says of each id whether a routine of the list has it and passes
abbrev pub Tells : (Member → Bool) → (ℕ → Bool) → List Group → Type 0
Tells q t l = (i : ℕ) → t i ≡ any_of (has q i) l

module _ (q : Member → Bool) where
  -- nobody has the id
  pub none_has : (i : ℕ) (l : List Group) → NotIn i (ids l) → any_of (has q i) l ≡ false
  none_has i [] n = refl
  none_has i (g ∷ l) n = rw (ne_eqb g.member.id i n.0, none_has i l n.1) refl

  pub other_has : (i : ℕ) (g : Group) → g.member.id ≢ i → has q i g ≡ false
  other_has i g n = rw (ne_eqb g.member.id i n) refl

  own_has : (i : ℕ) (g : Group) → g.member.id ≡ i → has q i g ≡ q g.member
  own_has i g e = rw (eq-eqb g.member.id i e) refl

  pub idle_has : (i : ℕ) (g : Group) → q g.member ≡ false → has q i g ≡ false
  idle_has i g e = rw e (and-false (eqb g.member.id i))

  -- g becomes h, and nobody else has its id
  any_own : (i : ℕ) (a : List Group) (h : Group) (b : List Group) → NotIn i (ids (a ++ b)) → any_of (has q i) (a ++ (h ∷ b)) ≡ has q i h
  any_own i [] h b n = rw (none_has i b n) (go (has q i h))
    where
      go : (t : Bool) → (t || false) ≡ t
      go true = refl
      go false = refl
  any_own i (g ∷ a) h b n = rw (other_has i g n.0) (any_own i a h b n.1)

  pub any_swap : (i : ℕ) (a : List Group) (g h : Group) (b : List Group) → has q i g ≡ has q i h →
      any_of (has q i) (a ++ (g ∷ b)) ≡ any_of (has q i) (a ++ (h ∷ b))
  any_swap i [] g h b e = ap (λ t. t || any_of (has q i) b) e
  any_swap i (x ∷ a) g h b e = ap (λ t. has q i x || t) (any_swap i a g h b e)

  pub any_drop : (i : ℕ) (a : List Group) (g : Group) (b : List Group) → has q i g ≡ false →
      any_of (has q i) (a ++ (g ∷ b)) ≡ any_of (has q i) (a ++ b)
  any_drop i [] g b e = rw e refl
  any_drop i (x ∷ a) g b e = ap (λ t. has q i x || t) (any_drop i a g b e)

  -- what the table says of a routine of the list
  pub told_of : (t : ℕ → Bool) (a : List Group) (g : Group) (b : List Group) → NotIn g.member.id (ids (a ++ b)) →
      Tells q t (a ++ (g ∷ b)) → t g.member.id ≡ q g.member
  told_of t a g b n e = e g.member.id ∙ any_own g.member.id a g b n ∙ own_has g.member.id g refl

  -- g becomes h, and the table gets what h is
  pub tells-put : (t : ℕ → Bool) (v : Bool) (a : List Group) (g h : Group) (b : List Group) → NotIn g.member.id (ids (a ++ b)) →
      h.member.id ≡ g.member.id → q h.member ≡ v → Tells q t (a ++ (g ∷ b)) →
      Tells q (put t g.member.id v) (a ++ (h ∷ b))
  tells-put t v a g h b n same is e i =
      by_if (λ x. x ≡ any_of (has q i) (a ++ (h ∷ b))) (eqb i g.member.id)
      (λ y. let z = eqb-true i g.member.id y in
      sym (any_own i a h b (subst (λ j. NotIn j (ids (a ++ b))) (sym z) n) ∙ own_has i h (same ∙ sym z) ∙ is))
      (λ y. e i ∙ any_swap i a g h b
      (let z : g.member.id ≢ i = λ w. t≠f (sym (eq-eqb i g.member.id (sym w)) ∙ y) in
      other_has i g z ∙ sym (other_has i h (λ w. z (sym same ∙ w)))))

  -- g becomes h, and the table stays
  pub tells_stay : (t : ℕ → Bool) (a : List Group) (g h : Group) (b : List Group) → h.member.id ≡ g.member.id →
      q h.member ≡ q g.member → Tells q t (a ++ (g ∷ b)) → Tells q t (a ++ (h ∷ b))
  tells_stay t a g h b same is e i =
      e i ∙ any_swap i a g h b (ap (λ j. eqb j i && q g.member) (sym same) ∙ ap (λ x. eqb h.member.id i && x) (sym is))

  -- g leaves
  pub tells-drop : (t : ℕ → Bool) (a : List Group) (g : Group) (b : List Group) → NotIn g.member.id (ids (a ++ b)) →
      Tells q t (a ++ (g ∷ b)) → Tells q (put t g.member.id false) (a ++ b)
  tells-drop t a g b n e i =
      by_if (λ x. x ≡ any_of (has q i) (a ++ b)) (eqb i g.member.id)
      (λ y. sym (none_has i (a ++ b) (subst (λ j. NotIn j (ids (a ++ b))) (sym (eqb-true i g.member.id y)) n)))
      (λ y. e i ∙ any_drop i a g b (other_has i g (λ w. t≠f (sym (eq-eqb i g.member.id (sym w)) ∙ y))))

  -- x comes
  pub tells_new : (t : ℕ → Bool) (a : List Group) (x : Group) (b : List Group) → NotIn x.member.id (ids (a ++ b)) →
      Tells q t (a ++ b) → Tells q (put t x.member.id (q x.member)) (a ++ (x ∷ b))
  tells_new t a x b n e i =
      by_if (λ y. y ≡ any_of (has q i) (a ++ (x ∷ b))) (eqb i x.member.id)
      (λ y. let z = eqb-true i x.member.id y in
      sym (any_own i a x b (subst (λ j. NotIn j (ids (a ++ b))) (sym z) n) ∙ own_has i x (sym z)))
      (λ y. e i ∙ sym (any_drop i a x b (other_has i x (λ w. t≠f (sym (eq-eqb i x.member.id (sym w)) ∙ y)))))

  -- what is committed does not pass
  pub tells-held : ((g : Group) → g.member.committed ≡ true → q g.member ≡ false) → (t : ℕ → Bool) (k : List Group) → Tells q t k →
      Tells q t (still_held k)
  tells-held f t [] e = e
  tells-held f t (g ∷ k) e =
      by_if (Tells q t) g.member.committed (λ y. tells-held f t k (λ i. e i ∙ any_drop i [] g k (idle_has i g (f g y)))) (λ _. e)

  -- the test looks at id, commands and commit alone
  pub any_same : ((g h : Group) → Same g h → q h.member ≡ q g.member) → (i : ℕ) {l k : List Group} → Pairwise Same l k →
      any_of (has q i) l ≡ any_of (has q i) k
  any_same f i no_pair = refl
  any_same f i (pair {g = g} {h = h} {l = l} r p) =
      ap (λ j. (eqb j i && q g.member) || any_of (has q i) l) (sym r.same_id)
      ∙ ap (λ x. (eqb h.member.id i && x) || any_of (has q i) l) (sym (f g h r))
      ∙ ap (λ x. has q i h || x) (any_same f i p)

  pub tells-same : ((g h : Group) → Same g h → q h.member ≡ q g.member) → (t : ℕ → Bool) {l k : List Group} → Pairwise Same l k →
      Tells q t l → Tells q t k
  tells-same f t p e i = e i ∙ any_same f i p

-- a part of what is put
pub put_part {ℓ κ} : {A : Type ℓ} {B : Type κ} (part : A → B) (f : ℕ → A) (j : ℕ) (v : A) (i : ℕ) →
    part (put f j v i) ≡ put (λ k. part (f k)) j (part v) i
put_part part f j v i = go (eqb i j)
  where
    go : (t : Bool) → part (cond t v (f i)) ≡ cond t (part v) (part (f i))
    go true = refl
    go false = refl

-- ---- a command that is answered without being sent

-- how, by its status
abbrev pub pass_outcome : Status → Outcome
pass_outcome to-do = not_sent
pass_outcome (in_flight u) = not_sent
pass_outcome was_done = not_sent
pass_outcome was_skipped = not_sent
pass_outcome was_held = found_held
pass_outcome was_not_held = found_not_held

pub pass-noted : (i : ℕ) (st : Status) (j : ℕ) (a : ℕ → Account) →
    note_answers (turn i) (pass_answer st j ∷ []) a ≡ put a j (answered_account (pass_outcome st) (a j))
pass-noted i to-do j a = refl
pass-noted i (in_flight u) j a = refl
pass-noted i was_done j a = refl
pass-noted i was_skipped j a = refl
pass-noted i was_held j a = refl
pass-noted i was_not_held j a = refl

-- ---- which routines run

abbrev running_in : (ℕ → Account) → ℕ → Bool
running_in a i = (a i).running

abbrev pub RunsTold : (ℕ → Account) → List Group → Type 0
RunsTold a l = Tells is_running (running_in a) l

pub same_runs : (g h : Group) → Same g h → is_running h.member ≡ is_running g.member
unfolding is_running
same_runs g h e = ap not e.same-committed

-- an account changes, and runs as before
keeps_running : (a : ℕ → Account) (j : ℕ) (x : Account) → x.running ≡ (a j).running → (i : ℕ) → (put a j x i).running ≡ (a i).running
keeps_running = put_keeps (λ (x : Account). x.running)

module _ (s : State) (a : ℕ → Account) (ga : List Group) (g : Group) (gb : List Group) (w : HubOk s (ga ++ (g ∷ gb)))
    (t : RunsTold a (ga ++ (g ∷ gb))) where
  stays_running : (x : Account) (h : Group) → x.running ≡ (a g.member.id).running → h.member.id ≡ g.member.id →
      is_running h.member ≡ is_running g.member →
      RunsTold (put a g.member.id x) (ga ++ (h ∷ gb))
  stays_running x h e same is i =
      keeps_running a g.member.id x e i ∙ tells_stay is_running (running_in a) ga g h gb same is t i

  answers-running : (o : Outcome) (h : Group) → h.member.id ≡ g.member.id → is_running h.member ≡ is_running g.member →
      RunsTold (put a g.member.id (answered_account o (a g.member.id))) (ga ++ (h ∷ gb))
  answers-running o h = stays_running (answered_account o (a g.member.id)) h refl

  stops_running : RunsTold (put a g.member.id (ended_account (a g.member.id))) (leaving ga g gb)
  stops_running =
      let x = ended_account (a g.member.id) in
      tells-same is_running same_runs (running_in (put a g.member.id x)) (same_leaving ga g gb)
      (λ i. put_part (λ (y : Account). y.running) a g.member.id x i
      ∙ tells-drop is_running (running_in a) ga g gb (other_ids s.next_id ga g gb w.ids_ok) t i)

pub note_++ : (c : Call) (l k : List Answer) (a : ℕ → Account) → note_answers c (l ++ k) a ≡ note_answers c k (note_answers c l a)
note_++ c = fold_++ (note_answers c) (λ a. refl) (λ x l a. refl)

-- an event tells nothing of who runs
event-runs : (d : ℕ) (x : Account) → (event_account d x).running ≡ x.running
event-runs d x = by_if (λ (y : Account). y.running ≡ x.running) (x.running && has_begun d x) (λ _. refl) (λ _. refl)

pub gone_runs : (s u : State) (c : Call) (d : ℕ) (a : ℕ → Account) (l : List Group) {r : Result} {lead : List Event} {k : List Group} →
    HubOk s l → RunsTold a l → Gone u d l r lead k → RunsTold (note_answers c r.answers a) k
unfolding abort is_running
gone_runs s u c d a l h t (nobody q) = t
gone_runs s u c d a l h t (somebody ga g gb e q) = stops_running s a ga g gb (subst (HubOk s) e h) (subst (RunsTold a) e t)
gone_runs s u c d a l h t (loses ga g gb e q m) =
    tells_stay is_running (running_in a) ga g (with g (skipped_left d g)) gb refl refl (subst (RunsTold a) e t)

pub runs_moves : (s : State) (a : ℕ → Account) (l : List Group) {c : Call} {r : Result} {lead : List Event} {k : List Group} → HubOk s l →
    RunsTold a l → Moves s l c r lead k →
    RunsTold (note_answers c r.answers a) k
unfolding newcomer commit commit_turn send_turn done_report skip_report abort is_running
runs_moves s a l h t (places cs ga gb q e u p n) =
    let new = newcomer s.next_id cs in
    tells-same is_running same_runs _ (same-placed ga (alone new) gb)
    (λ i. put_part (λ (y : Account). y.running) a s.next_id (placed_account cs) i
    ∙ tells_new is_running (running_in a) ga (alone new) gb (ids_fresh s.next_id (ids (ga ++ gb)) (subst (HubOk s) e h).ids_ok)
    (subst (RunsTold a) e t) i)
runs_moves s a l h t (commits i ga g gb e n r f q) =
    let w = subst (HubOk s) e h in
    λ i. put_part (λ (y : Account). y.running) a g.member.id (ended_account (a g.member.id)) i
    ∙ tells-put is_running (running_in a) false ga g (with g (commit g.member)) gb (other_ids s.next_id ga g gb w.ids_ok) refl refl
    (subst (RunsTold a) e t) i
runs_moves s a l h t (sends i ga g gb c e n r f q w u plain on) =
    stays_running s a ga g gb (subst (HubOk s) e h) (subst (RunsTold a) e t) (sent_account c (a g.member.id))
    (with g (sent_member s g c)) refl refl refl
runs_moves s a l h t (passes i ga g gb c e n r f q w st u) =
    subst (λ b. RunsTold b (ga ++ (with g (passed_member st g) ∷ gb))) (sym (pass-noted i st g.member.id a))
    (answers-running s a ga g gb (subst (HubOk s) e h) (subst (RunsTold a) e t) (pass_outcome st) (with g (passed_member st g)) refl refl)
runs_moves s a l h t (dones i code ga g gb x e n r f q) =
    answers-running s a ga g gb (subst (HubOk s) e h) (subst (RunsTold a) e t) reported_done (with g (done_member g)) refl refl
runs_moves s a l h t (misses i ga g gb x e n r f) =
    answers-running s a ga g gb (subst (HubOk s) e h) (subst (RunsTold a) e t) reported_failed (with g (failed_member g)) refl refl
runs_moves s a l h t (aborts c ga g gb e r k) = stops_running s a ga g gb (subst (HubOk s) e h) (subst (RunsTold a) e t)
runs_moves s a l h t (fails d r lead k n u w) =
    subst (λ b. RunsTold b (attach_event (r.state.mark d) (failure_event d) k))
    (sym (note_++ (failure d) r.answers (down d (r.state.mark d) ∷ []) a))
    (tells-same is_running same_runs _ (same_attached (r.state.mark d) (failure_event d) k)
    (λ i. event-runs d (note_answers (failure d) r.answers a i) ∙ gone_runs s _ (failure d) d a l h t w i))
runs_moves s a l h t (restarts d v r lead k n u w) =
    subst (λ b. RunsTold b (attach_event (r.state.mark d) (restart_event d v) k))
    (sym (note_++ (restart d v) r.answers (up d (r.state.mark d) ∷ []) a))
    (tells-same is_running same_runs _ (same_attached (r.state.mark d) (restart_event d v) k)
    (λ i. event-runs d (note_answers (restart d v) r.answers a i) ∙ gone_runs s _ (restart d v) d a l h t w i))

-- those that settle do not run
pub any_held : (i : ℕ) (k : List Group) → any_of (has is_running i) k ≡ any_of (has is_running i) (still_held k)
unfolding is_running
any_held i k = tells-held is_running (λ g e. ap not e) (λ j. any_of (has is_running j) k) k (λ j. refl) i

pub runs-held : (a : ℕ → Account) (k : List Group) → RunsTold a k → RunsTold a (still_held k)
unfolding is_running
runs-held a k = tells-held is_running (λ g e. ap not e) (running_in a) k
