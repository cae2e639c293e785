-- The waiting promise, proved: in each round the first of the sequence has one command more answered, or ends, and so the measure of
-- `Measure.antt` falls; nothing else raises it. Assumes nothing.
use Rattle.rules_routine.proofs.Options.{none-ne-some}
use Rattle.std.proofs.Common.{Option, None, Some}
use mathlib.Core.Path.{◌≡◌, refl, sym, ap, ◌∙◌, subst}
use mathlib.Core.Logic.{◌≢◌}
use mathlib.Core.Bool.{Bool, true, false, not, ◌&&◌}
use mathlib.Core.List.{List, [], ◌∷◌, ◌++◌, map, nil≢cons, cons≢nil, head-eq_of_cons-eq, tail-eq_of_cons-eq}
use Prim.Native.Nat.{ℕ, suc, ◌-◌, ◌<◌, ◌≤◌}
use native.Mathlib.Omega.{arith}
use borrow.Author.Tests.{eqb-true, eqb-false}
use lib.Dec.{eqb}
use Rattle.std.specs.Prelude.{if◌then◌else◌}
use Rattle.rules_routine.specs.declared.Command.{Command}
use Rattle.rules_routine.proofs.RoutineLaws.{by_test}
use Rattle.rules.specs.State.{Step, State}
use Rattle.rules.specs.Answers.{Call, submit, turn, report, limit, refused, placed, wait, limited, Result}
use Rattle.rules.specs.Progress.{Flight, flight}
use Rattle.rules.specs.Sequence.{is_running}
use Rattle.rules.specs.Settle.{settle}
use Rattle.rules.specs.Limit.{with_pass_limit}
use Rattle.rules.specs.Submit.{place}
use Rattle.rules.specs.Turn.{first_holding}
use Rattle.rules.specs.Calls.{result_of, state_after}
use Rattle.rules.specs.History.{Told, accounts_of}
use Rattle.rules.specs.Order.{Event}
use Rattle.rules.specs.World.{is_accepted}
use Rattle.rules.specs.Rounds.{calls_told, told_then, flying_of, idle_of, Ended, limit_after_all, limit_told, accepted_in, times, EachOnce}
use Rattle.rules.specs.Rounds.{Round}
use Rattle.rules.specs.Rounds.{a_submission}
use Rattle.rules.specs.Rounds.{a_refusal, Schedule, begins, between, a_new_limit, a_round, enough_rounds, EndedInTime}
use Rattle.rules.specs.Rounds.{EndedInTimeAtOneLimit}
use Rattle.rules.proofs.Lists.{t≠f}
use Rattle.rules_promises.proofs.Groups.{Group, members, ids, still_held}
use Rattle.rules_promises.proofs.View.{Aborts}
use Rattle.rules_promises.proofs.View.{Moves, places, aborts}
use Rattle.rules_promises.proofs.View.{Seen, is-refused, waits, limits, moves, see}
use Rattle.rules_promises.proofs.Fields.{Fixed, settle_fixed}
use Rattle.rules_promises.proofs.Kept.{hub_moves}
use Rattle.rules_promises.proofs.Running.{any_held, told_of}
use Rattle.rules.proofs.Schedules.{has_flight, is_flying}
use Rattle.rules_promises.proofs.Measure.{measure, Runs}
use Rattle.rules_promises.proofs.Measure.{settle_at_most, runs-positive, most_measure}
use Rattle.rules_promises.proofs.Theorem.{moves_same}
use Rattle.rules_promises.proofs.Ready.{fixed_moves, Ready, ready_moves, saying, untold, ready_limit, ready_seen, ready_opened}
use Rattle.rules_promises.proofs.Ready.{opened-limit}
use Rattle.rules_promises.proofs.Ready.{limit-call, limit-kept}
use Rattle.rules_promises.proofs.Measured.{OfSchedule, NotRaised, not_raised_same, moves_at_most, HeadIs, head-is, head-held}
use Rattle.rules_promises.proofs.Measured.{IsTurn, Asks}
use Rattle.rules_promises.proofs.Measured.{condition_of_schedule}
use Rattle.rules_promises.proofs.Measured.{Flies}
use Rattle.rules_promises.proofs.Measured.{Own, falls, flies, others_move, none_ahead, own_moves}

-- ---- one call of a schedule

-- the hub after history h, its pass limit being k, in which the id i has been given
record Now (k i : ℕ) (s : State) (h : List Told) : Type 0 where
  groups : List Group
  ready : Ready s h groups
  in-force : s.pass_limit ≡ k
  given : i < s.next_id

-- the same hub, after a call that tells nothing
abbrev same_now : (k i : ℕ) (s : State) (h : List Told) → Now k i s h → (t : Told) → accounts_of (t ∷ h) ≡ accounts_of h →
    Now k i s (t ∷ h)
same_now k i s h now t a =
    record {
      groups = now.groups;
      ready = untold s h now.groups t a now.ready;
      in-force = now.in-force;
      given = now.given;
    }

-- while the routine with id i runs, its measure is at most n
abbrev Bounded : ℕ → ℕ → List Group → ℕ → Type 0
Bounded k i l n = Runs i l → measure k i l ≤ n

bounded_still : (k i n : ℕ) (l m : List Group) → NotRaised k i l m → Bounded k i l n → Bounded k i m n
bounded_still k i n l m w o r =
    let q = w r in
    let p = o q.0 in
    let z = q.1 in
    omega arith

module _ (k i : ℕ) (s : State) (h : List Told) (now : Now k i s h) where
  settled_at_most : {c : Call} {r : Result} {lead : List Event} {m : List Group} → Moves s now.groups c r lead m →
      (Runs i (still_held m) → Runs i m) × (Runs i (still_held m) → measure k i (still_held m) ≤ measure k i m)
  settled_at_most {r = r} {m = m} v = (
    λ q. any_held i m ∙ q,
    settle_at_most k i r.state.next_id m (hub_moves s now.groups now.ready.hub v).ids_ok,
  )

  given_still : {c : Call} {r : Result} {lead : List Event} {m : List Group} → Moves s now.groups c r lead m →
      i < (settle r.state).next_id
  given_still {r = r} v =
      let f = (fixed_moves s now.groups v).1 in
      let g = now.given in
      subst (λ (x : Fixed). i < x.next_id) (sym (settle_fixed r.state)) (omega arith)

  -- a submission, a turn or a report
  of_schedule : {c : Call} {r : Result} → OfSchedule c → Seen s now.groups c r →
      (next : Now k i r.state (saying c r.answers ∷ h)) × NotRaised k i now.groups next.groups
  of_schedule {c = c} of (is-refused r) =
      (same_now k i s h now (saying c (refused r ∷ [])) refl, not_raised_same k i now.groups)
  of_schedule of (waits j a g b d condition w e n f) =
      (same_now k i s h now (saying (turn j) (wait g.member.id w ∷ [])) refl, not_raised_same k i now.groups)
  of_schedule of (limits j e) = absurd of
  of_schedule of (moves {r = r} {k = m} v) = (
    record {
      groups = still_held m;
      ready = ready_moves s h now.groups now.ready v;
      in-force = ap (λ (x : Fixed). x.pass_limit) (settle_fixed r.state) ∙ (fixed_moves s now.groups v).0 ∙ now.in-force;
      given = given_still v;
    },
    λ q.
        let a = moves_at_most k i s now.in-force h now.groups now.ready now.given v of ((settled_at_most v).0 q) in
        let b = a.1 in
        let z = (settled_at_most v).1 q in
        (a.0, omega arith),
  )

-- an accepted turn of routine j, or report on it
record Asked (k i j : ℕ) (c : Call) (l m : List Group) : Type 0 where
  not_raised : NotRaised k i l m
  others : (f : ℕ) (steps : List Step) → j ≢ f → HeadIs f steps l → HeadIs f steps m
  own : (steps : List Step) → HeadIs j steps l → Own k j c l m

asked : (k i : ℕ) (s : State) (h : List Told) (now : Now k i s h) (j : ℕ) {c : Call} {r : Result} → Asks j c → Seen s now.groups c r →
    is_accepted r.answers ≡ true →
    (next : Now k i r.state (saying c r.answers ∷ h)) × Asked k i j c now.groups next.groups
unfolding of_schedule
asked k i s h now j o (is-refused r) e = t≠f (sym e)
asked k i s h now j o (waits w a g b d condition x e n f) _ =
    let v = of_schedule k i s h now {c = turn w} tt (waits w a g b d condition x e n f) in (
      v.0,
      record {
        not_raised = v.1;
        others = λ f steps n hd. hd;
        own = λ steps hd. absurd (none-ne-some x
            (sym (ap (λ p. first_holding d condition (members p)) (none_ahead k s h now.groups now.ready j steps hd a g b e (n ∙ o)))
            ∙ f));
      },
    )
asked k i s h now j o (limits w e) _ = absurd o
asked k i s h now j {c = c} o (moves {r = r} {k = m} v) _ =
    let u = of_schedule k i s h now {c = c} (condition_of_schedule j c o) (moves v) in (
      u.0,
      record {
        not_raised = u.1;
        others = λ f steps n hd. head-held f steps m (others_move k s h now.groups now.ready f steps hd j v o n);
        own = λ steps hd. settles (own_moves k s h now.groups now.ready j steps hd v o);
      },
    )
  where
    settles : Own k j c now.groups m → Own k j c now.groups (still_held m)
    settles (falls f) =
        falls (λ i q.
        let p = f i (any_held i m ∙ q) in
        let z = settle_at_most k i r.state.next_id m (hub_moves s now.groups now.ready.hub v).ids_ok q in
        omega arith)
    settles (flies t steps hd x) = flies t steps (head-held j steps m hd) x

-- ---- what is told, from a state on

-- these are the answers of these calls
abbrev AsAnswered : State → List Told → Type 0
AsAnswered s [] = Unit {0}
AsAnswered s (t ∷ l) = ((result_of s t.call).answers ≡ t.answers) × AsAnswered (result_of s t.call).state l

abbrev state_then : State → List Told → State
state_then s [] = s
state_then s (t ∷ l) = state_then (result_of s t.call).state l

-- there is such a hub, and this holds of its groups
abbrev Reached : ℕ → ℕ → State → List Told → (List Group → Type 0) → Type 0
Reached k i s h P = (now : Now k i s h) × P now.groups

-- a call as it was told
as_told : (k i : ℕ) (s u : State) (h : List Told) (t : Told) (P : List Group → Type 0) → (result_of s t.call).answers ≡ t.answers →
    Reached k i u (saying t.call (result_of s t.call).answers ∷ h) P → Reached k i u (t ∷ h) P
as_told k i s u h t P e = subst (λ a. Reached k i u (saying t.call a ∷ h) P) e

-- a call that was refused changes nothing
refused-same : (k i : ℕ) (s : State) (h : List Told) (now : Now k i s h) {c : Call} {r : Result} → Seen s now.groups c r →
    is_accepted r.answers ≡ false → (P : List Group → Type 0) → P now.groups → Reached k i r.state (saying c r.answers ∷ h) P
refused-same k i s h now {c = c} (is-refused r) e P p = (same_now k i s h now (saying c (refused r ∷ [])) refl, p)
refused-same k i s h now (waits j a g b d condition w x n f) e P p = t≠f e
refused-same k i s h now (limits j x) e P p = t≠f e
refused-same k i s h now (moves v) e P p = t≠f (sym (moves_same s now.groups v).0 ∙ e)

-- every call of this hub, seen
seen : (k i : ℕ) (s : State) (h : List Told) (now : Now k i s h) (c : Call) → Seen s now.groups c (result_of s c)
seen k i s h now c = see s now.groups now.ready.hub.sequence_is c

refused-told : (k i : ℕ) (s : State) (h : List Told) (now : Now k i s h) (t : Told) → (result_of s t.call).answers ≡ t.answers →
    is_accepted t.answers ≡ false → (P : List Group → Type 0) → P now.groups → Reached k i (result_of s t.call).state (t ∷ h) P
refused-told k i s h now t e r P p =
    as_told k i s (result_of s t.call).state h t P e
    (refused-same k i s h now (seen k i s h now t.call) (ap is_accepted e ∙ r) P p)

-- ---- a half of a round: each of some routines is asked once

-- the measure has fallen; or the first, f, is still to be asked; or it was, and stands so
data Stage (k i m f : ℕ) (After : List Step → Type 0) (l : List Group) (ids : List ℕ) : Type 0 where
  fell : Bounded k i l m → Stage k i m f After l ids
  not_yet : (steps : List Step) → HeadIs f steps l → times f ids ≡ 1 → Bounded k i l (suc m) → Stage k i m f After l ids
  was-asked : (steps : List Step) → HeadIs f steps l → After steps → times f ids ≡ 0 → Bounded k i l (suc m) → Stage k i m f After l ids

-- a call that was accepted, or was not
accepted-first : (t : Told) (l : List Told) → is_accepted t.answers ≡ true → accepted_in (t ∷ l) ≡ t.call ∷ accepted_in l
accepted-first t l e = rw e refl

refused-first : (t : Told) (l : List Told) → is_accepted t.answers ≡ false → accepted_in (t ∷ l) ≡ accepted_in l
refused-first t l e = rw e refl

-- f is asked now, or another is
times_now : (f j : ℕ) (ids : List ℕ) (n : ℕ) → eqb j f ≡ true → times f (j ∷ ids) ≡ n → suc (times f ids) ≡ n
times_now f j ids n e t = sym (rw e refl) ∙ t

times-later : (f j : ℕ) (ids : List ℕ) (n : ℕ) → eqb j f ≡ false → times f (j ∷ ids) ≡ n → times f ids ≡ n
times-later f j ids n e t = sym (rw e refl) ∙ t

module _ (k i m f : ℕ) (make : ℕ → Call) (condition : (j : ℕ) → Asks j (make j)) (After : List Step → Type 0)
    (after : (j : ℕ) (steps : List Step) → IsTurn (make j) → Flies steps → After steps) where
  one : (j : ℕ) (ids : List ℕ) (l n : List Group) → Asked k i j (make j) l n → Stage k i m f After l (j ∷ ids) → Stage k i m f After n ids
  one j ids l n a (fell o) = fell (bounded_still k i m l n a.not_raised o)
  one j ids l n a (not_yet steps hd t o) =
      by_test (λ _. Stage k i m f After n ids) (eqb j f)
      (λ e. own (eqb-true j f e) (let z = times_now f j ids 1 e t in omega arith)
      (a.own steps (subst (λ p. HeadIs p steps l) (sym (eqb-true j f e)) hd)))
      (λ e. not_yet steps (a.others f steps (eqb-false j f e) hd) (times-later f j ids 1 e t)
      (bounded_still k i (suc m) l n a.not_raised o))
    where
      own : j ≡ f → times f ids ≡ 0 → Own k j (make j) l n → Stage k i m f After n ids
      own e z (falls w) =
          fell (λ r.
          let q = a.not_raised r in
          let p = o q.0 in
          let v = w i r in
          omega arith)
      own e z (flies y steps' hd' x) =
          was-asked steps' (subst (λ p. HeadIs p steps' n) e hd') (after j steps' y x) z (bounded_still k i (suc m) l n a.not_raised o)
  one j ids l n a (was-asked steps hd q t o) =
      by_test (λ _. Stage k i m f After n ids) (eqb j f) (λ e. absurd (let z = times_now f j ids 0 e t in omega arith))
      (λ e. was-asked steps (a.others f steps (eqb-false j f e) hd) q (times-later f j ids 0 e t)
      (bounded_still k i (suc m) l n a.not_raised o))

  half : (s : State) (h : List Told) (now : Now k i s h) (ts : List Told) (ids : List ℕ) → AsAnswered s ts → accepted_in ts ≡ map make ids →
      Stage k i m f After now.groups ids →
      Reached k i (state_then s ts) (told_then h ts) (λ l. Stage k i m f After l [])
  half s h now [] [] answered e g = (now, g)
  half s h now [] (j ∷ ids) answered e g = absurd (nil≢cons e)
  half s h now (t ∷ ts) [] answered e g =
      by_test (λ _. Reached k i (state_then s (t ∷ ts)) (told_then h (t ∷ ts)) (λ l. Stage k i m f After l [])) (is_accepted t.answers)
      (λ y. absurd (cons≢nil (sym (accepted-first t ts y) ∙ e)))
      (λ y.
      let r = refused-told k i s h now t answered.0 y (λ l. Stage k i m f After l []) g in
      half (result_of s t.call).state (t ∷ h) r.0 ts [] answered.1 (sym (refused-first t ts y) ∙ e) r.1)
  half s h now (t ∷ ts) (j ∷ ids) answered e g =
      by_test (λ _. Reached k i (state_then s (t ∷ ts)) (told_then h (t ∷ ts)) (λ l. Stage k i m f After l [])) (is_accepted t.answers)
      (λ y.
      let q = sym (accepted-first t ts y) ∙ e in
      let is : make j ≡ t.call = sym (head-eq_of_cons-eq q) in
      let u = asked k i s h now j (subst (Asks j) is (condition j)) (seen k i s h now t.call) (ap is_accepted answered.0 ∙ y) in
      let r = as_told k i s (result_of s t.call).state h t (λ l. Stage k i m f After l ids) answered.0
      (u.0, one j ids now.groups u.0.groups (subst (λ c. Asked k i j c now.groups u.0.groups) (sym is) u.1) g) in
      half (result_of s t.call).state (t ∷ h) r.0 ts ids answered.1 (tail-eq_of_cons-eq q) r.1)
      (λ y.
      let r = refused-told k i s h now t answered.0 y (λ l. Stage k i m f After l (j ∷ ids)) g in
      half (result_of s t.call).state (t ∷ h) r.0 ts (j ∷ ids) answered.1 (sym (refused-first t ts y) ∙ e) r.1)

-- ---- a round

-- what is told of the first of the sequence: it runs; is a command of it in flight?
head-runs : (k : ℕ) (s : State) (h : List Told) (l : List Group) → Ready s h l → (f : ℕ) (steps : List Step) → HeadIs f steps l →
    (accounts_of h f).running ≡ true
unfolding is_running
head-runs k s h _ y f steps (head-is g l e q c) =
    ap (λ j. (accounts_of h j).running) (sym e)
    ∙ told_of is_running (λ j. (accounts_of h j).running) [] g l y.hub.ids_ok.2 y.running-told
    ∙ ap not c

head_flies : (k : ℕ) (s : State) (h : List Told) (l : List Group) → Ready s h l → (f : ℕ) (steps : List Step) → HeadIs f steps l →
    flying_of h f ≡ has_flight (flight steps)
unfolding is_flying is_running
head_flies k s h _ y f steps (head-is g l e q c) =
    ap (flying_of h) (sym e) ∙ told_of is_flying (flying_of h) [] g l y.hub.ids_ok.2 y.flying-told
    ∙ ap (λ b. not b && has_flight (flight g.member.steps)) c ∙ ap (λ x. has_flight (flight x)) q

-- before the turns
turns_begin : (k i m : ℕ) (s : State) (h : List Told) (l : List Group) → Ready s h l → (ids : List ℕ) → EachOnce (idle_of h) ids →
    Bounded k i l (suc m) → (f : ℕ) × Stage k i m f Flies l ids
turns_begin k i m s h [] y ids once o = (0, fell (λ r. t≠f (sym r)))
turns_begin k i m s h (g ∷ l) y ids once o = (g.member.id, go (flight g.member.steps) refl)
  where
    f : ℕ
    f = g.member.id

    hd : HeadIs f g.member.steps (g ∷ l)
    hd = head-is g l refl refl y.first

    idle : (x : Option Flight) → flight g.member.steps ≡ x → idle_of h f ≡ not (has_flight x)
    idle x e =
        ap (λ b. b && not (flying_of h f)) (head-runs k s h (g ∷ l) y f g.member.steps hd)
        ∙ ap not (head_flies k s h (g ∷ l) y f g.member.steps hd ∙ ap has_flight e)

    go : (x : Option Flight) → flight g.member.steps ≡ x → Stage k i m f Flies (g ∷ l) ids
    go None e = not_yet g.member.steps hd (once f ∙ ap (λ b. if b then 1 else 0) (idle None e)) o
    go (Some x) e = was-asked g.member.steps hd (x, e) (once f ∙ ap (λ b. if b then 1 else 0) (idle (Some x) e)) o

-- between turns and reports: the first has its command in flight
reports_begin : (k i m : ℕ) (s : State) (h : List Told) (l : List Group) → Ready s h l → (f : ℕ) (ids : List ℕ) →
    EachOnce (flying_of h) ids → Stage k i m f Flies l [] → Stage k i m f (λ steps. ⊥) l ids
reports_begin k i m s h l y f ids once (fell o) = fell o
reports_begin k i m s h l y f ids once (not_yet steps hd t o) = absurd (omega arith)
reports_begin k i m s h l y f ids once (was-asked steps hd x t o) =
    not_yet steps hd (once f ∙ ap (λ b. if b then 1 else 0) (head_flies k s h l y f steps hd ∙ ap has_flight x.1)) o

reports_end : (k i m f : ℕ) (l : List Group) → Stage k i m f (λ steps. ⊥) l [] → Bounded k i l m
reports_end k i m f l (fell o) = o
reports_end k i m f l (not_yet steps hd t o) = absurd (omega arith)
reports_end k i m f l (was-asked steps hd x t o) = absurd x

-- by a round the measure falls
round_falls : (k i m : ℕ) (s : State) (h : List Told) (now : Now k i s h) (turns reports : List Told) → AsAnswered s turns →
    AsAnswered (state_then s turns) reports → Round h turns reports → Bounded k i now.groups (suc m) →
    Reached k i (state_then (state_then s turns) reports) (told_then (told_then h turns) reports) (λ l. Bounded k i l m)
round_falls k i m s h now turns reports p q r o =
    let b = turns_begin k i m s h now.groups now.ready r.turned r.one_turn_each o in
    let f = b.0 in
    let t = half k i m f turn (λ j. refl) Flies (λ j steps _ x. x) s h now turns r.turned p r.turns_are b.1 in
    let make : ℕ → Call = λ j. report j (r.codes j) in
    let u = half k i m f make (λ j. refl) (λ steps. ⊥) (λ j steps x _. x) (state_then s turns) (told_then h turns) t.0 reports
    r.reported q r.reports_are
    (reports_begin k i m (state_then s turns) (told_then h turns) t.0.groups t.0.ready f r.reported r.one_report_each t.1) in
    (u.0, reports_end k i m f u.0.groups u.1)

-- ---- a schedule

-- a measure of at most 0: it is ended
bounded_ended : (k i : ℕ) (s : State) (h : List Told) (now : Now k i s h) → Bounded k i now.groups 0 → Ended i h
bounded_ended k i s h now o = by_test (λ b. b ≡ false) (accounts_of h i).running (λ e. absurd (go e)) (λ e. refl)
  where
    go : (accounts_of h i).running ≡ true → ⊥
    go e =
        let r : Runs i now.groups = sym (now.ready.running-told i) ∙ e in
        let p = runs-positive k i s.next_id now.groups now.ready.hub.ids_ok r in
        let q = o r in
        omega arith

bounded_more : (k i m n : ℕ) (l : List Group) → m ≤ n → Bounded k i l m → Bounded k i l n
bounded_more k i m n l e o r = let p = o r in omega arith

-- ---- a history, the latest first, as the hub s tells it

abbrev pub state_at : State → List Told → State
state_at s [] = s
state_at s (t ∷ h) = (result_of (state_at s h) t.call).state

abbrev pub ToldBy : State → List Told → Type 0
ToldBy s [] = Unit {0}
ToldBy s (t ∷ h) = ToldBy s h × ((result_of (state_at s h) t.call).answers ≡ t.answers)

pub told_by_calls : (s : State) (h : List Told) → ToldBy s h → (calls : List Call) → ToldBy s (told_then h (calls_told (state_at s h) calls))
told_by_calls s h y [] = y
told_by_calls s h y (c ∷ calls) = told_by_calls s (saying c (result_of (state_at s h) c).answers ∷ h) (y, refl) calls

-- a first part of it, and the rest
told_by_first : (s : State) (h l : List Told) → ToldBy s (told_then h l) → ToldBy s h × AsAnswered (state_at s h) l
told_by_first s h [] y = (y, tt)
told_by_first s h (t ∷ l) y = let r = told_by_first s (t ∷ h) l y in (r.0.0, (r.0.1, r.1))

state-at : (s : State) (h l : List Told) → state_at s (told_then h l) ≡ state_then (state_at s h) l
state-at s h [] = refl
state-at s h (t ∷ l) = state-at s (t ∷ h) l

pub state-calls : (s : State) (h : List Told) (calls : List Call) →
    state_at s (told_then h (calls_told (state_at s h) calls)) ≡ state_after (state_at s h) calls
state-calls s h [] = refl
state-calls s h (c ∷ calls) = state-calls s (saying c (result_of (state_at s h) c).answers ∷ h) calls

-- ---- a schedule

-- after history h, n rounds of which count, with the K in force
record Counted (i : ℕ) (s : State) (h : List Told) (n : ℕ) : Type 0 where
  limit_then : ℕ
  now : Now limit_then i s h
  bounded : Bounded limit_then i now.groups (enough_rounds limit_then - n)

-- at any time the measure is at most as high as the promise has rounds, so that the count may begin
counts_anew : (k i : ℕ) (s : State) (h : List Told) → Now k i s h → Counted i s h 0
counts_anew k i s h now = record {
  limit_then = k;
  now = now;
  bounded = λ _.
      let m = most_measure k i now.groups now.ready.few_left in
      let n = now.ready.room in
      omega arith;
}

-- a new pass limit
unaborted : {g : Group} {k : ℕ} → Aborts g (limit k) → ⊥
unaborted = elim [ ]

-- it is in force, and the groups are the same
limited_now : (m i : ℕ) (s : State) (h : List Told) (now : Now m i s h) (k : ℕ) {r : Result} → Seen s now.groups (limit k) r →
    r.answers ≡ limited k ∷ [] → (P : List Group → Type 0) → P now.groups →
    Reached k i r.state (saying (limit k) r.answers ∷ h) P
limited_now m i s h now k (is-refused r) e P p = let z : ◌≡◌ {A = ℕ} 0 1 = cc in absurd (omega arith)
limited_now m i s h now k (limits _ a) e P p = (
  record {
    groups = now.groups;
    ready = ready_limit s h now.groups now.ready k;
    in-force = ap (λ (x : Fixed). x.pass_limit) (settle_fixed (with_pass_limit s k));
    given = subst (λ (x : Fixed). i < x.next_id) (sym (settle_fixed (with_pass_limit s k))) now.given;
  },
  p,
)
limited_now m i s h now k (moves (aborts _ a g b f r q)) e P p = absurd (unaborted q)

-- the K that is told is the hub's
pub limit_is : (k : ℕ) (s : State) (h : List Told) → k ≡ s.pass_limit → ToldBy s h → limit_told k h ≡ (state_at s h).pass_limit
limit_is k s [] e y = e
limit_is k s (t ∷ h) e y =
    ap (limit_after_all t.answers) (limit_is k s h e y.0)
    ∙ ap (λ a. limit_after_all a (state_at s h).pass_limit) (sym y.1) ∙ limit-call (state_at s h) t.call

-- it is the one that was in force, or the count begins anew
limit-counted : (m i : ℕ) (s : State) (h : List Told) (now : Now m i s h) (n k : ℕ) → Bounded m i now.groups (enough_rounds m - n) →
    (result_of s (limit k)).answers ≡ limited k ∷ [] → (t : Bool) → eqb k m ≡ t →
    Counted i (result_of s (limit k)).state (saying (limit k) (limited k ∷ []) ∷ h) (if t then n else 0)
limit-counted m i s h now n k o e true same =
    let b = subst (λ x. Bounded x i now.groups (enough_rounds x - n)) (sym (eqb-true k m same)) o in
    let P : List Group → Type 0 = λ l. Bounded k i l (enough_rounds k - n) in
    let r = as_told k i s (result_of s (limit k)).state h (saying (limit k) (limited k ∷ [])) P e
    (limited_now m i s h now k (seen m i s h now (limit k)) e P b) in
    record { limit_then = k; now = r.0; bounded = r.1 }
limit-counted m i s h now n k o e false other =
    let P : List Group → Type 0 = λ l. Unit {0} in
    let r = as_told k i s (result_of s (limit k)).state h (saying (limit k) (limited k ∷ [])) P e
    (limited_now m i s h now k (seen m i s h now (limit k)) e P tt) in
    counts_anew k i (result_of s (limit k)).state (saying (limit k) (limited k ∷ []) ∷ h) r.0

counted : (k i : ℕ) (s : State) → k ≡ s.pass_limit → (start now : List Told) (n : ℕ) → Schedule k start now n → ToldBy s now →
    (ToldBy s start → Counted i (state_at s start) start 0) → Counted i (state_at s now) now n
counted k₀ i s z start _ _ begins y f = f y
counted k₀ i s z start _ n (between {now = h} w _ (a_submission cs answers)) y f =
    let c = counted k₀ i s z start h n w y.0 f in
    let k = c.limit_then in
    let u = state_at s h in
    let m = enough_rounds k - n in
    let v = of_schedule k i u h c.now {c = submit cs} tt (seen k i u h c.now (submit cs)) in
    let r = as_told k i u (result_of u (submit cs)).state h (saying (submit cs) answers) (λ l. Bounded k i l m) y.1
    (v.0, bounded_still k i m c.now.groups v.0.groups v.1 c.bounded) in
    record { limit_then = k; now = r.0; bounded = r.1 }
counted k₀ i s z start _ n (between {now = h} w _ (a_refusal t e)) y f =
    let c = counted k₀ i s z start h n w y.0 f in
    let k = c.limit_then in
    let r = refused-told k i (state_at s h) h c.now t y.1 e (λ l. Bounded k i l (enough_rounds k - n)) c.bounded in
    record { limit_then = k; now = r.0; bounded = r.1 }
counted k₀ i s z start _ _ (a_new_limit {now = h} {n = n} w k) y f =
    let c = counted k₀ i s z start h n w y.0 f in
    let told : limit_told k₀ h ≡ c.limit_then = limit_is k₀ s h z y.0 ∙ c.now.in-force in
    limit-counted c.limit_then i (state_at s h) h c.now n k c.bounded y.1 (eqb k (limit_told k₀ h)) (ap (eqb k) (sym told))
counted k₀ i s z start _ _ (a_round {now = h} {n = n} w turns reports round) y f =
    let p = told_by_first s (told_then h turns) reports y in
    let q = told_by_first s h turns p.0 in
    let c = counted k₀ i s z start h n w q.0 f in
    let k = c.limit_then in
    let u = state_at s h in
    let m = enough_rounds k - suc n in
    let more : enough_rounds k - n ≤ suc m = omega arith in
    let at : state_at s (told_then h turns) ≡ state_then u turns = state-at s h turns in
    let r = round_falls k i m u h c.now turns reports q.1 (subst (λ x. AsAnswered x reports) at p.1) round
    (bounded_more k i (enough_rounds k - n) (suc m) c.now.groups more c.bounded) in
    subst (λ x. Counted i x (told_then (told_then h turns) reports) (suc n))
    (sym (state-at s (told_then h turns) reports ∙ ap (λ x. state_then x reports) at))
    (record { limit_then = k; now = r.0; bounded = r.1 })

-- ---- the submission

no_abort : {g : Group} {cs : List Command} → Aborts g (submit cs) → ⊥
no_abort = elim [ ]

-- the routine is placed
placed_now : (i j : ℕ) (s : State) (h : List Told) (l : List Group) → Ready s h l → (cs : List Command) {r : Result} →
    Seen s l (submit cs) r → r.answers ≡ placed i j ∷ [] → Now r.state.pass_limit i r.state (saying (submit cs) r.answers ∷ h)
unfolding place
placed_now i j s h l y cs v e =
    let n = ready_seen s h l y v in
    record { groups = n.0; ready = n.1; in-force = refl; given = given v e }
  where
    is_given : {r : Result} {lead : List Event} {m : List Group} → Moves s l (submit cs) r lead m → r.answers ≡ placed i j ∷ [] →
        i < r.state.next_id
    is_given (places _ a b q f u p n) e = let z : s.next_id ≡ i = cc in omega arith
    is_given (aborts _ a g b f r q) e = absurd (no_abort q)

    given : {r : Result} → Seen s l (submit cs) r → r.answers ≡ placed i j ∷ [] → i < r.state.next_id
    given (is-refused r) e = let z : ◌≡◌ {A = ℕ} 0 1 = cc in absurd (omega arith)
    given (moves {r = r} v) e = subst (λ (x : Fixed). i < x.next_id) (sym (settle_fixed r.state)) (is_given v e)

-- after any calls and then its submission
submitted : (i j : ℕ) (s : State) (h : List Told) (l : List Group) → Ready s h l → (before : List Call) (cs : List Command) →
    (result_of (state_after s before) (submit cs)).answers ≡ placed i j ∷ [] →
    let calls = before ++ (submit cs ∷ []) in
    Counted i (state_after s calls) (told_then h (calls_told s calls)) 0
submitted i j s h l y [] cs e =
    let r = result_of s (submit cs) in
    counts_anew r.state.pass_limit i r.state (saying (submit cs) r.answers ∷ h)
    (placed_now i j s h l y cs (see s l y.hub.sequence_is (submit cs)) e)
submitted i j s h l y (c ∷ before) cs e =
    let r = ready_seen s h l y (see s l y.hub.sequence_is c) in
    submitted i j (result_of s c).state (saying c (result_of s c).answers ∷ h) r.0 r.1 before cs e

-- The waiting promise.
pub ended_in_time : EndedInTime
ended_in_time n k first s e before cs i j p later rounds schedule enough =
    let first_part = before ++ (submit cs ∷ []) in
    let all = before ++ (submit cs ∷ later) in
    let start = told_then [] (calls_told s first_part) in
    let now = told_then [] (calls_told s all) in
    let z = opened-limit n k first s e in
    let c = counted k i s z start now rounds schedule (told_by_calls s [] tt all)
    (λ _. subst (λ x. Counted i x start 0) (sym (state-calls s [] first_part))
    (submitted i j s [] [] (ready_opened n k first s e) before cs p)) in
    let m : limit_told k now ≡ c.limit_then = limit_is k s now z (told_by_calls s [] tt all) ∙ c.now.in-force in
    let None : enough_rounds c.limit_then - rounds ≤ 0 = omega arith in
    bounded_ended c.limit_then i (state_at s now) now c.now
    (bounded_more c.limit_then i (enough_rounds c.limit_then - rounds) 0 c.now.groups None c.bounded)

-- Where no change happens.
pub ended_in_time_at_one-limit : EndedInTimeAtOneLimit
ended_in_time_at_one-limit n k first s e before cs i j p later rounds keeps schedule enough =
    ended_in_time n k first s e before cs i j p later rounds schedule
    (subst (λ x. enough_rounds x ≤ rounds) (sym (limit-kept k k s [] refl (before ++ (submit cs ∷ later)) keeps)) enough)
