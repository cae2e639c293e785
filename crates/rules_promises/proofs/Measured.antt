-- What a call does to the measure of `Measure.antt`: no submission, turn or report raises it; a turn of the first of the sequence, or a
-- report on it, makes it fall or sends a command of the first. Assumes nothing.
use Rattle.std.proofs.Common.{Some}
use mathlib.Core.Path.{◌≡◌, refl, sym, ap, ◌∙◌, subst}
use mathlib.Core.Logic.{◌≢◌}
use mathlib.Core.Bool.{Bool, true, false, ◌||◌, or-true}
use mathlib.Core.List.{List, [], ◌∷◌, ◌++◌}
use Prim.Native.Nat.{ℕ, suc, ◌<◌, ◌≤◌}
use native.Mathlib.Omega.{arith}
use lib.ListN.{length}
use Rattle.rules_routine.specs.declared.Command.{Command}
use Rattle.rules.specs.Tables.{any_of}
use Rattle.rules.specs.State.{Step, State}
use Rattle.rules.specs.Answers.{Call, submit, turn, report, failure, restart, cancel, limit, Result}
use Rattle.rules.specs.Progress.{Flight, flight}
use Rattle.rules.specs.Due.{due}
use Rattle.rules.specs.Sequence.{is_running}
use Rattle.rules.specs.Submit.{newcomer}
use Rattle.rules.specs.Turn.{commit}
use Rattle.rules.specs.Report.{code_failed}
use Rattle.rules.specs.History.{Told}
use Rattle.rules.specs.Order.{Event}
use Rattle.rules.specs.Attach.{attach_to}
use Rattle.rules.proofs.Lists.{by_if, t≠f, any_of_++, NotIn, IdsOk}
use Rattle.rules_promises.proofs.Groups.{Group, ids, alone, with, pass_all, add_events, add_to_last, leaving, still_held, other_ids}
use Rattle.rules_promises.proofs.Same.{same-placed, same_leaving}
use Rattle.rules_promises.proofs.Steps.{left_steps, send-step, skip_step, done-step, fail_step}
use Rattle.rules_promises.proofs.Invariant.{HubOk}
use Rattle.rules_promises.proofs.View.{passing, sent_member, passed_member, done_member, failed_member, by_turn, by_report, by_cancel}
use Rattle.rules_promises.proofs.View.{Moves, places, commits, sends, passes, dones, misses, aborts, fails, restarts}
use Rattle.rules_promises.proofs.Marks.{in-turn}
use Rattle.rules_promises.proofs.Running.{has, none_has, other_has, idle_has, any_swap, any_drop, any_same, same_runs}
use Rattle.rules_promises.proofs.Measure.{weight, measure, Runs, most_weight, swap_at_most, swap_falls, leave_at_most}
use Rattle.rules_promises.proofs.Measure.{leave_falls, place_at_most}
use Rattle.rules_promises.proofs.Ready.{new_few_left, Ready}

-- ---- the measure and a call

-- calls of a schedule by which no measure rises: no failure, restart, cancel or new pass limit
abbrev pub OfSchedule : Call → Type 0
OfSchedule (submit cs) = Unit {0}
OfSchedule (turn i) = Unit {0}
OfSchedule (report i code) = Unit {0}
OfSchedule (failure d) = ⊥
OfSchedule (restart d v) = ⊥
OfSchedule (cancel i) = ⊥
OfSchedule (limit k) = ⊥

-- who runs among some runs among more
runs-more : (i : ℕ) (a : List Group) (g : Group) (b : List Group) → Runs i (a ++ b) → Runs i (a ++ (g ∷ b))
runs-more i a g b r =
    any_of_++ (has is_running i) a (g ∷ b)
    ∙ go (any_of (has is_running i) a) (has is_running i g) (any_of (has is_running i) b) (sym (any_of_++ (has is_running i) a b) ∙ r)
  where
    go : (x y z : Bool) → (x || z) ≡ true → (x || (y || z)) ≡ true
    go true y z e = refl
    go false y z e = rw e (or-true y)

-- what a call does to the routine with id i and its measure
abbrev pub NotRaised : ℕ → ℕ → List Group → List Group → Type 0
NotRaised k i l m = Runs i m → Runs i l × (measure k i m ≤ measure k i l)

pub not_raised_same : (k i : ℕ) (l : List Group) → NotRaised k i l l
not_raised_same k i l r = (r, omega arith)

-- g becomes h, which runs as g does and has no more left
swapped : (k i : ℕ) (a : List Group) (g h : Group) (b : List Group) → h.member.id ≡ g.member.id →
    h.member.passed ≡ g.member.passed → h.member.committed ≡ g.member.committed → weight h.member ≤ weight g.member →
    NotRaised k i (a ++ (g ∷ b)) (a ++ (h ∷ b))
unfolding is_running
swapped k i a g h b e p c w r =
    (any_swap is_running i a g h b (rw (e, c) refl) ∙ r, swap_at_most k i a g h b e p w)

-- g leaves
left_others : (n i : ℕ) (a : List Group) (g : Group) (b : List Group) → IdsOk n (ids (a ++ (g ∷ b))) → Runs i (leaving a g b) →
    Runs i (a ++ b) × (g.member.id ≢ i)
left_others n i a g b d r =
    let q = any_same is_running same_runs i (same_leaving a g b) ∙ r in
    (q, λ e. t≠f (sym q ∙ none_has is_running i (a ++ b) (subst (λ j. NotIn j (ids (a ++ b))) e (other_ids n a g b d))))

left_at_most : (n k i : ℕ) (a : List Group) (g : Group) (b : List Group) → IdsOk n (ids (a ++ (g ∷ b))) →
    NotRaised k i (a ++ (g ∷ b)) (leaving a g b)
left_at_most n k i a g b d r =
    let q = left_others n i a g b d r in
    (runs-more i a g b q.0, leave_at_most k i a g b q.1)

-- a routine with one command less left weighs less
less_weight : (g h : Group) (c : Command) → g.member.committed ≡ false → h.member.committed ≡ false →
    left_steps g.member.steps ≡ c ∷ left_steps h.member.steps → weight h.member < weight g.member
less_weight g h c r q e =
    let n : length (left_steps g.member.steps) ≡ suc (length (left_steps h.member.steps)) = ap length e in
    let x : weight g.member ≡ suc (length (left_steps g.member.steps)) = rw r refl in
    let y : weight h.member ≡ suc (length (left_steps h.member.steps)) = rw q refl in
    omega arith

module _ (k i : ℕ) (s : State) (in-force : s.pass_limit ≡ k) (h : List Told) (l : List Group) (y : Ready s h l)
    (given : i < s.next_id) where
  pub moves_at_most : {c : Call} {r : Result} {lead : List Event} {m : List Group} → Moves s l c r lead m → OfSchedule c → NotRaised k i l m
  unfolding newcomer commit is_running
  moves_at_most (places cs a b q e u p n) of = λ r.
      let w = subst (HubOk s) e y.hub in
      let new = alone (newcomer s.next_id cs) in
      let other : s.next_id ≢ i = λ z. omega arith in
      let runs : Runs i (a ++ b) =
      sym (any_drop is_running i a new b (other_has is_running i new other)) ∙ any_same is_running same_runs i (same-placed a new b) ∙ r in (
        subst (Runs i) (sym e) runs,
        subst (λ z. measure k i (a ++ (new ∷ pass_all b)) ≤ measure k i z) (sym e)
            (place_at_most k i s.next_id s cs in-force a new b w.ids_ok runs n other (most_weight new (new_few_left s cs q))),
      )
  moves_at_most (commits j a g b e n r f q) of =
      subst (λ z. NotRaised k i z (a ++ (with g (commit g.member) ∷ b))) (sym e)
      (λ z. (
        runs-more i a g b (sym (any_drop is_running i a (with g (commit g.member)) b
            (idle_has is_running i (with g (commit g.member)) refl)) ∙ z),
        swap_at_most k i a g (with g (commit g.member)) b refl refl
            (omega arith),
      ))
  moves_at_most (sends j a g b c e n r f q w u plain on) of =
      let x = send-step g.member (in-turn s a g b (subst (HubOk s) e y.hub)) c (due s c.device) q f in
      subst (λ z. NotRaised k i z (a ++ (with g (sent_member s g c) ∷ b))) (sym e)
      (swapped k i a g (with g (sent_member s g c)) b refl refl refl (rw x.same_left (omega arith)))
  moves_at_most (passes j a g b c e n r f q w st u) of =
      let x = skip_step g.member (in-turn s a g b (subst (HubOk s) e y.hub)) c st (passing u) q f in
      let less = less_weight g (with g (passed_member st g)) c r r x.left_is in
      subst (λ z. NotRaised k i z (a ++ (with g (passed_member st g) ∷ b))) (sym e)
      (swapped k i a g (with g (passed_member st g)) b refl refl refl (omega arith))
  moves_at_most (dones j code a g b x e n r f q) of =
      let z = done-step g.member (in-turn s a g b (subst (HubOk s) e y.hub)) x f in
      let less = less_weight g (with g (done_member g)) x.command r r z.left_is in
      subst (λ z. NotRaised k i z (a ++ (with g (done_member g) ∷ b))) (sym e)
      (swapped k i a g (with g (done_member g)) b refl refl refl (omega arith))
  moves_at_most (misses j a g b x e n r f) of =
      let z = fail_step g.member (in-turn s a g b (subst (HubOk s) e y.hub)) x f in
      let less = less_weight g (with g (failed_member g)) x.command r r z.left_is in
      subst (λ z. NotRaised k i z (a ++ (with g (failed_member g) ∷ b))) (sym e)
      (swapped k i a g (with g (failed_member g)) b refl refl refl (omega arith))
  moves_at_most (aborts c a g b e r q) of =
      subst (λ z. NotRaised k i z (leaving a g b)) (sym e)
      (left_at_most s.next_id k i a g b (subst (HubOk s) e y.hub).ids_ok)
  moves_at_most (fails d r lead m n u g) of = absurd of
  moves_at_most (restarts d v r lead m n u g) of = absurd of

-- ---- the first of the sequence

-- the first of the list runs under this id and has these commands
pub data HeadIs (j : ℕ) (steps : List Step) : List Group → Type 0 where
  head-is : (g : Group) (l : List Group) → g.member.id ≡ j → g.member.steps ≡ steps → g.member.committed ≡ false →
      HeadIs j steps (g ∷ l)

module _ (j : ℕ) (steps : List Step) where
  pub head-held : (l : List Group) → HeadIs j steps l → HeadIs j steps (still_held l)
  head-held _ (head-is g l e q c) = by_if (HeadIs j steps) g.member.committed (λ t. t≠f (sym t ∙ c)) (λ _. head-is g l e q c)

  -- another changes, or leaves
  head-kept : (a : List Group) (g h : Group) (b : List Group) → g.member.id ≢ j → HeadIs j steps (a ++ (g ∷ b)) →
      HeadIs j steps (a ++ (h ∷ b))
  head-kept [] g h b n (head-is _ _ e q c) = absurd (n e)
  head-kept (x ∷ a) g h b n (head-is _ _ e q c) = head-is x (a ++ (h ∷ b)) e q c

  head_left : (a : List Group) (g : Group) (b : List Group) → g.member.id ≢ j → HeadIs j steps (a ++ (g ∷ b)) →
      HeadIs j steps (leaving a g b)
  unfolding attach_to
  head_left [] g b n (head-is _ _ e q c) = absurd (n e)
  head_left (x ∷ []) g b n (head-is _ _ e q c) = head-is (add_events g.events g.member.restarts x) b e q c
  head_left (x ∷ (z ∷ a)) g b n (head-is _ _ e q c) = head-is x (add_to_last g.events g.member.restarts (z ∷ a) ++ b) e q c

  -- it is the one with its id
  head_own : (n : ℕ) (a : List Group) (g : Group) (b : List Group) → IdsOk n (ids (a ++ (g ∷ b))) → g.member.id ≡ j →
      HeadIs j steps (a ++ (g ∷ b)) → a ≡ []
  head_own n [] g b d e (head-is _ _ f q c) = refl
  head_own n (x ∷ a) g b d e (head-is _ _ f q c) = absurd ((other_ids n (x ∷ a) g b d).0 (f ∙ sym e))

-- ---- a turn or a report, seen from the first of the sequence

abbrev pub IsTurn : Call → Type 0
IsTurn (submit cs) = ⊥
IsTurn (turn i) = Unit {0}
IsTurn (report i code) = ⊥
IsTurn (failure d) = ⊥
IsTurn (restart d v) = ⊥
IsTurn (cancel i) = ⊥
IsTurn (limit k) = ⊥

-- it is a turn of routine j, or a report on it
abbrev pub Asks : ℕ → Call → Type 0
Asks j (submit cs) = ⊥
Asks j (turn i) = i ≡ j
Asks j (report i code) = i ≡ j
Asks j (failure d) = ⊥
Asks j (restart d v) = ⊥
Asks j (cancel i) = ⊥
Asks j (limit k) = ⊥

pub condition_of_schedule : (j : ℕ) (c : Call) → Asks j c → OfSchedule c
condition_of_schedule j (submit cs) h = tt
condition_of_schedule j (turn i) h = tt
condition_of_schedule j (report i code) h = tt
condition_of_schedule j (failure d) h = h
condition_of_schedule j (restart d v) h = h
condition_of_schedule j (cancel i) h = h
condition_of_schedule j (limit k) h = h

-- a command of these is in flight
abbrev pub Flies : List Step → Type 0
Flies steps = (x : Flight) × (flight steps ≡ Some x)

-- every measure falls; or, by a turn, a command of the first is now in flight
pub data Own (k j : ℕ) (c : Call) (l m : List Group) : Type 0 where
  falls : ((i : ℕ) → Runs i m → measure k i m < measure k i l) → Own k j c l m
  flies : IsTurn c → (steps : List Step) → HeadIs j steps m → Flies steps → Own k j c l m

module _ (k : ℕ) (s : State) (h : List Told) (l : List Group) (y : Ready s h l) where
  module _ (j : ℕ) (steps : List Step) (hd : HeadIs j steps l) where
    -- about another
    pub others_move : {c : Call} {r : Result} {lead : List Event} {m : List Group} (i : ℕ) → Moves s l c r lead m → Asks i c → i ≢ j →
        HeadIs j steps m
    others_move i (places cs a b q e u p n) o w = absurd o
    others_move i (commits _ a g b e n r f q) o w =
        head-kept j steps a g (with g (commit g.member)) b (λ z. w (sym (n ∙ o) ∙ z)) (subst (HeadIs j steps) e hd)
    others_move i (sends _ a g b c e n r f q z u plain on) o w =
        head-kept j steps a g (with g (sent_member s g c)) b (λ z. w (sym (n ∙ o) ∙ z)) (subst (HeadIs j steps) e hd)
    others_move i (passes _ a g b c e n r f q z st u) o w =
        head-kept j steps a g (with g (passed_member st g)) b (λ z. w (sym (n ∙ o) ∙ z)) (subst (HeadIs j steps) e hd)
    others_move i (dones _ code a g b x e n r f q) o w =
        head-kept j steps a g (with g (done_member g)) b (λ z. w (sym (n ∙ o) ∙ z)) (subst (HeadIs j steps) e hd)
    others_move i (misses _ a g b x e n r f) o w =
        head-kept j steps a g (with g (failed_member g)) b (λ z. w (sym (n ∙ o) ∙ z)) (subst (HeadIs j steps) e hd)
    others_move i (aborts _ a g b e r (by_turn _ n f)) o w =
        head_left j steps a g b (λ z. w (sym (n ∙ o) ∙ z)) (subst (HeadIs j steps) e hd)
    others_move i (aborts _ a g b e r (by_report _ code x n f q)) o w =
        head_left j steps a g b (λ z. w (sym (n ∙ o) ∙ z)) (subst (HeadIs j steps) e hd)
    others_move i (aborts _ a g b e r (by_cancel _ n)) o w = absurd o
    others_move i (fails d r lead m n u g) o w = absurd o
    others_move i (restarts d v r lead m n u g) o w = absurd o

    module _ (a : List Group) (g : Group) (b : List Group) (e : l ≡ a ++ (g ∷ b)) (n : g.member.id ≡ j) where
      pub none_ahead : a ≡ []
      none_ahead = head_own j steps s.next_id a g b (subst (HubOk s) e y.hub).ids_ok n (subst (HeadIs j steps) e hd)

      own_less : (c : Call) (x : Group) → x.member.id ≡ g.member.id → x.member.passed ≡ g.member.passed →
          weight x.member < weight g.member → Own k j c l (a ++ (x ∷ b))
      own_less c x same passed w =
          falls (λ i _. subst (λ z. measure k i (a ++ (x ∷ b)) < measure k i z) (sym e)
          (subst (λ p. measure k i (p ++ (x ∷ b)) < measure k i (p ++ (g ∷ b))) (sym none_ahead) (swap_falls k i g x b same passed w)))

      own_gone : (c : Call) → g.member.committed ≡ false → Own k j c l (leaving a g b)
      own_gone c r =
          falls (λ i z. subst (λ q. measure k i (leaving a g b) < measure k i q) (sym e)
          (subst (λ p. measure k i (leaving p g b) < measure k i (p ++ (g ∷ b))) (sym none_ahead)
          (leave_falls k i g b (left_others s.next_id i a g b (subst (HubOk s) e y.hub).ids_ok z).1 r)))

    -- about the first itself
    pub own_moves : {c : Call} {r : Result} {lead : List Event} {m : List Group} → Moves s l c r lead m → Asks j c → Own k j c l m
    unfolding commit
    own_moves (places cs a b q e u p n) o = absurd o
    own_moves (commits i a g b e n r f q) o =
        own_less a g b e (n ∙ o) (turn i) (with g (commit g.member)) refl refl
        (let w : weight g.member ≡ suc (length (left_steps g.member.steps)) = rw r refl in omega arith)
    own_moves (sends i a g b c e n r f q z u plain on) o =
        let x = send-step g.member (in-turn s a g b (subst (HubOk s) e y.hub)) c (due s c.device) q f in
        flies tt (sent_member s g c).steps
        (subst (λ p. HeadIs j (sent_member s g c).steps (p ++ (with g (sent_member s g c) ∷ b))) (sym (none_ahead a g b e (n ∙ o)))
        (head-is (with g (sent_member s g c)) b (n ∙ o) refl r)) (_, x.flight_is)
    own_moves (passes i a g b c e n r f q z st u) o =
        let x = skip_step g.member (in-turn s a g b (subst (HubOk s) e y.hub)) c st (passing u) q f in
        own_less a g b e (n ∙ o) (turn i) (with g (passed_member st g)) refl refl
        (less_weight g (with g (passed_member st g)) c r r x.left_is)
    own_moves (dones i code a g b x e n r f q) o =
        let z = done-step g.member (in-turn s a g b (subst (HubOk s) e y.hub)) x f in
        own_less a g b e (n ∙ o) (report i code) (with g (done_member g)) refl refl
        (less_weight g (with g (done_member g)) x.command r r z.left_is)
    own_moves (misses i a g b x e n r f) o =
        let z = fail_step g.member (in-turn s a g b (subst (HubOk s) e y.hub)) x f in
        own_less a g b e (n ∙ o) (report i code_failed) (with g (failed_member g)) refl refl
        (less_weight g (with g (failed_member g)) x.command r r z.left_is)
    own_moves (aborts _ a g b e r (by_turn i n f)) o = own_gone a g b e (n ∙ o) (turn i) r
    own_moves (aborts _ a g b e r (by_report i code x n f q)) o = own_gone a g b e (n ∙ o) (report i code) r
    own_moves (aborts _ a g b e r (by_cancel i n)) o = absurd o
    own_moves (fails d r lead m n u g) o = absurd o
    own_moves (restarts d v r lead m n u g) o = absurd o
