-- Every call keeps the hub's invariant, and a device with a command in flight on it is up. Assumes nothing.
use mathlib.Core.Path.{◌≡◌, refl, sym, ap, ◌∙◌, subst}
use mathlib.Core.Logic.{◌≢◌}
use mathlib.Core.Bool.{Bool, true, false}
use mathlib.Core.List.{List, [], ◌∷◌, ◌++◌}
use Prim.Native.Nat.{ℕ}
use borrow.Author.Tests.{eqb-true}
use lib.Dec.{eqb}
use Rattle.rules.specs.Tables.{put, Each}
use Rattle.rules.specs.State.{Member, State}
use Rattle.rules.specs.Answers.{Call, Result}
use Rattle.rules.specs.Progress.{begun, finished, in_flight_on}
use Rattle.rules.specs.Due.{due}
use Rattle.rules.specs.Sequence.{is_running, with_up}
use Rattle.rules.specs.Settle.{settle}
use Rattle.rules.specs.Abort.{leave, abort}
use Rattle.rules.specs.Submit.{newcomer, place}
use Rattle.rules.specs.Turn.{commit, commit_turn, send_turn}
use Rattle.rules.specs.Report.{done_report, skipped_state, skip_report}
use Rattle.rules.specs.Events.{is_halfway}
use Rattle.rules.specs.Order.{Event, failure_event, restart_event}
use Rattle.rules.specs.Attach.{attach, one_restart}
use Rattle.rules.proofs.Lists.{by_if, t≠f, this_or_other, put_other, each_mid, each_drop, each_insert, each_swap, each_map}
use Rattle.rules_promises.proofs.Groups.{Group, alone, with, pass_all, found_at, leaving, attach_event, still_held, each_held}
use Rattle.rules_promises.proofs.Same.{Same, same-placed, same_leaving, same_attached, same_each}
use Rattle.rules_promises.proofs.Steps.{send-step, skip_step, done-step, fail_step, flight_on, grounded, finished_grounded}
use Rattle.rules_promises.proofs.Steps.{skip_steps}
use Rattle.rules_promises.proofs.Steps.{fresh-newcomer}
use Rattle.rules_promises.proofs.Invariant.{CommittedHasNothingLeft, CommandsInTurn, HubOk, InFlightIsUp, NotHalfway, NoFlightOn}
use Rattle.rules_promises.proofs.View.{passing, pass_turn, sent_member, passed_member, done_member, failed_member, skipped_left, Gone}
use Rattle.rules_promises.proofs.View.{nobody}
use Rattle.rules_promises.proofs.View.{somebody, loses}
use Rattle.rules_promises.proofs.View.{Moves, places}
use Rattle.rules_promises.proofs.View.{commits, sends, passes, dones, misses, aborts, fails, restarts}
use Rattle.rules_promises.proofs.Fields.{Fixed, gone_fixed, attach_fixed, settle_fixed}
use Rattle.rules_promises.proofs.Marks.{flight-runs, in-turn, hub_commits, hub-sends, hub_passes, hub_dones, hub_misses}
use Rattle.rules_promises.proofs.Moved.{hub_places, hub-leaves, hub_gone, hub-fails, hub-restarts, hub-up}

-- a routine that is not halfway with d has no command in flight on it
not_halfway_no_flight_on : (d : ℕ) (g : Group) → CommandsInTurn g → CommittedHasNothingLeft g → NotHalfway d g → NoFlightOn d g
unfolding is_halfway is_running
not_halfway_no_flight_on d g t s c = record { no_flight_on = go (in_flight_on d m) refl }
  where
    m : Member
    m = g.member

    go : (q : Bool) → in_flight_on d m ≡ q → q ≡ false
    go true e =
        let f = flight_on m t.turns d e in
        let x = done-step m t.turns f.0 f.1 in
        let y = ap (λ j. begun j m) (sym f.2) ∙ x.had_begun in
        let n = ap (λ j. finished j m) (sym f.2) ∙ x.unfinished in
        t≠f (sym (rw (y, n, flight-runs g f.0 s f.1) refl) ∙ c.not_halfway)
    go false e = refl

pub all_no_flight_on : (d : ℕ) (l : List Group) → Each CommandsInTurn l → Each CommittedHasNothingLeft l → Each (NotHalfway d) l →
    Each (NoFlightOn d) l
all_no_flight_on d [] t s c = tt
all_no_flight_on d (g ∷ l) t s c = (not_halfway_no_flight_on d g t.0 s.0 c.0, all_no_flight_on d l t.1 s.1 c.1)

-- ---- the hub's invariant

pub hub_moves : (s : State) (l : List Group) {c : Call} {r : Result} {lead : List Event} {k : List Group} → HubOk s l →
    Moves s l c r lead k → HubOk r.state k
hub_moves s l h (places cs a b _ e u p n) = hub_places s cs a b (subst (HubOk s) e h) u p n
hub_moves s l h (commits i a g b e _ _ f x) = hub_commits s a g b (subst (HubOk s) e h) f x
hub_moves s l h (sends i a g b c e _ r f x n _ plain on) = hub-sends s a g b c (subst (HubOk s) e h) r f x n
hub_moves s l h (passes i a g b c e _ r f x n st pass) = hub_passes s a g b c st (passing pass) (subst (HubOk s) e h) r f x n
hub_moves s l h (dones i code a g b x e _ r f _) = hub_dones s a g b x (subst (HubOk s) e h) r f
hub_moves s l h (misses i a g b x e _ r f) = hub_misses s a g b x (subst (HubOk s) e h) r f
hub_moves s l h (aborts c a g b e _ _) = hub-leaves s a g b (subst (HubOk s) e h)
hub_moves s l h (fails d r lead k _ _ g) =
    let j = hub_gone (with_up s (put s.up d false)) d l (hub-up s (put s.up d false) l h) g in
    hub-fails r.state d k j.0 j.1
hub_moves s l h (restarts d v r lead k _ _ g) = let j = hub_gone s d l h g in hub-up _ _ _ (hub-restarts r.state d v k j.0 j.1)

-- ---- commands in flight

-- a change of the state that leaves up what was up
pub no_flight_on_up : (s t : State) → ((d : ℕ) → s.up d ≡ true → t.up d ≡ true) → (l : List Group) → Each (InFlightIsUp s) l →
    Each (InFlightIsUp t) l
no_flight_on_up s t u l f = each_map (InFlightIsUp s) (InFlightIsUp t) (λ g q. record { flies_up = λ d e. u d (q.flies_up d e) }) l f

-- it looks at the commands alone
same_flies : (s : State) (g h : Group) → Same g h → InFlightIsUp s g → InFlightIsUp s h
unfolding in_flight_on
same_flies s g h e f = record { flies_up = λ d y. f.flies_up d (rw e.same-steps at y) }

flies_leaving : (s : State) (a : List Group) (g : Group) (b : List Group) → Each (InFlightIsUp s) (a ++ (g ∷ b)) →
    Each (InFlightIsUp s) (leaving a g b)
flies_leaving s a g b f = same_each (InFlightIsUp s) (same_flies s) (same_leaving a g b) (each_drop (InFlightIsUp s) a g b f)

flies_event : (s : State) (j : ℕ) (x : Event) (l : List Group) → Each (InFlightIsUp s) l → Each (InFlightIsUp s) (attach_event j x l)
flies_event s j x l = same_each (InFlightIsUp s) (same_flies s) (same_attached j x l)

-- what comes ahead of an event
flies_gone : (s t : State) (d : ℕ) (l : List Group) {r : Result} {lead : List Event} {k : List Group} → HubOk s l →
    Each (InFlightIsUp s) l → Gone t d l r lead k → Each (InFlightIsUp s) k
flies_gone s t d l h f (nobody _) = f
flies_gone s t d l h f (somebody a g b e _) = flies_leaving s a g b (subst (Each (InFlightIsUp s)) e f)
flies_gone s t d l h f (loses a g b e _ _) =
    let w = subst (Each (InFlightIsUp s)) e f in
    let n = skipped_left d g in
    let x = skip_steps d g.member (in-turn s a g b (subst (HubOk s) e h)) in
    each_swap (InFlightIsUp s) a g (with g n) b w (record {
      flies_up = λ c y. this_or_other (λ c. in_flight_on c n ≡ true → s.up c ≡ true) d c
          (λ y. t≠f (sym y ∙ finished_grounded n d x.finishes_it))
          (λ o y. (each_mid (InFlightIsUp s) a g b w).flies_up c (sym (x.other_flies c o) ∙ y)) y;
    })

-- where nobody flies on d, d may go down
flies_down : (s t : State) (d : ℕ) → ((e : ℕ) → t.up e ≡ put s.up d false e) → (l : List Group) → Each (InFlightIsUp s) l →
    Each (NoFlightOn d) l → Each (InFlightIsUp t) l
flies_down s t d u [] f c = tt
flies_down s t d u (g ∷ l) f c =
    (record { flies_up = λ e y. u e ∙ put_other s.up d false e (other e y) ∙ f.0.flies_up e y }, flies_down s t d u l f.1 c.1)
  where
    other : (e : ℕ) → in_flight_on e g.member ≡ true → e ≢ d
    other e y q = t≠f (sym y ∙ ap (λ x. in_flight_on x g.member) q ∙ c.0.no_flight_on)

module _ (s : State) (a : List Group) (g : Group) (b : List Group) (f : Each (InFlightIsUp s) (a ++ (g ∷ b))) where
  -- g becomes n
  flies_changes : (t : State) → t.up ≡ s.up → (n : Member) → ((d : ℕ) → in_flight_on d n ≡ true → s.up d ≡ true) →
      Each (InFlightIsUp t) (a ++ (with g n ∷ b))
  flies_changes t u n y =
      no_flight_on_up s t (λ d e. ap (λ p. p d) u ∙ e) (a ++ (with g n ∷ b))
      (each_swap (InFlightIsUp s) a g (with g n) b f (record { flies_up = y }))

  -- and has no command in flight
  lands : (t : State) → t.up ≡ s.up → (n : Member) → ((d : ℕ) → in_flight_on d n ≡ false) → Each (InFlightIsUp t) (a ++ (with g n ∷ b))
  lands t u n q = flies_changes t u n (λ d y. t≠f (sym y ∙ q d))

pub flies_moves : (s : State) (l : List Group) {c : Call} {r : Result} {lead : List Event} {k : List Group} → HubOk s l →
    Each (InFlightIsUp s) l → Moves s l c r lead k →
    Each (InFlightIsUp r.state) k
unfolding place commit_turn commit send_turn done_report skip_report skipped_state abort leave attach in_flight_on
flies_moves s l h f (places cs a b _ e _ _ _) =
    let w = subst (Each (InFlightIsUp s)) e f in
    let n = newcomer s.next_id cs in
    let x : InFlightIsUp s (alone n) = record { flies_up = λ d y. t≠f (sym y ∙ grounded n d (fresh-newcomer s.next_id cs).flight_is) } in
    no_flight_on_up s (place s cs) (λ d y. y) (a ++ (alone n ∷ pass_all b))
    (same_each (InFlightIsUp s) (same_flies s) (same-placed a (alone n) b) (each_insert (InFlightIsUp s) a (alone n) b w x))
flies_moves s l h f (commits i a g b e _ _ _ _) =
    let w = subst (Each (InFlightIsUp s)) e f in
    flies_changes s a g b w (commit_turn s (found_at a g b)).state refl (commit g.member) (each_mid (InFlightIsUp s) a g b w).flies_up
flies_moves s l h f (sends i a g b c e _ _ n x _ u plain on) =
    let y = send-step g.member (in-turn s a g b (subst (HubOk s) e h)) c (due s c.device) x n in
    flies_changes s a g b (subst (Each (InFlightIsUp s)) e f) (send_turn s (found_at a g b) c).state refl (sent_member s g c)
    (λ d q. ap s.up (sym (eqb-true c.device d (sym (y.flies d) ∙ q))) ∙ u)
flies_moves s l h f (passes i a g b c e _ _ n x _ st pass) =
    lands s a g b (subst (Each (InFlightIsUp s)) e f) (pass_turn s (found_at a g b) c st).state refl (passed_member st g)
    (skip_step g.member (in-turn s a g b (subst (HubOk s) e h)) c st (passing pass) x n).flies
flies_moves s l h f (dones i code a g b x e _ _ q _) =
    lands s a g b (subst (Each (InFlightIsUp s)) e f) (done_report s (found_at a g b)).state refl (done_member g)
    (done-step g.member (in-turn s a g b (subst (HubOk s) e h)) x q).flies
flies_moves s l h f (misses i a g b x e _ _ q) =
    lands s a g b (subst (Each (InFlightIsUp s)) e f) (skip_report s (found_at a g b) x).state refl (failed_member g)
    (fail_step g.member (in-turn s a g b (subst (HubOk s) e h)) x q).flies
flies_moves s l h f (aborts c a g b e _ _) =
    no_flight_on_up s (abort s (found_at a g b)).state (λ d y. y) (leaving a g b)
    (flies_leaving s a g b (subst (Each (InFlightIsUp s)) e f))
flies_moves s l h f (fails d r lead k _ _ g) =
    let t = with_up s (put s.up d false) in
    let j = hub_gone t d l (hub-up s (put s.up d false) l h) g in
    flies_event r.state (r.state.mark d) (failure_event d) k
    (flies_down s r.state d (λ e. ap (λ (x : Fixed). x.up e) (gone_fixed t d l g)) k (flies_gone s t d l h f g)
    (all_no_flight_on d k j.0.turns j.0.nothing_left_all j.1))
flies_moves s l h f (restarts d v r lead k _ _ g) =
    let i = r.state.mark d in
    let t = attach i (one_restart d v) r.state in
    no_flight_on_up s (with_up t (put t.up d true))
    (λ e y. by_if (λ p. p ≡ true) (eqb e d) (λ _. refl)
    (λ _. ap (λ (x : Fixed). x.up e) (attach_fixed i (one_restart d v) r.state ∙ gone_fixed s d l g) ∙ y))
    (attach_event i (restart_event d v) k) (flies_event s i (restart_event d v) k (flies_gone s s d l h f g))

pub flies_settles : (s : State) (l : List Group) → Each (InFlightIsUp s) l → Each (InFlightIsUp (settle s)) (still_held l)
flies_settles s l f =
    no_flight_on_up s (settle s) (λ d e. ap (λ (x : Fixed). x.up d) (settle_fixed s) ∙ e) (still_held l) (each_held (InFlightIsUp s) l f)
