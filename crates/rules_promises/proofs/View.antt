-- Every call, seen once: it changes nothing; or it changes the pass limit, or does one of nine things to the state and the groups, and
-- settles. Assumes nothing.
use Rattle.rules_routine.specs.declared.refusals.Refusal.TheVariants.{FailureOfDown, RestartOfUp, RestartSetting}
use Rattle.std.proofs.Common.{Option, None, Some, Ok, Err}
use mathlib.Core.Path.{◌≡◌, refl, sym, ap, ◌∙◌, subst}
use mathlib.Core.Bool.{Bool, true, false, not}
use mathlib.Core.List.{List, [], ◌∷◌, ◌++◌}
use Prim.Native.Nat.{ℕ}
use native.Mathlib.Omega.{arith}
use borrow.Author.Tests.{eqb-true, eqb-false, ltb-false, not-true, not-false}
use lib.Dec.{leb, ltb, eqb}
use lib.IntN.{ℤ}
use Rattle.rules_routine.specs.Range.{in_range}
use Rattle.rules_routine.specs.Refusals.{refuse◌when◌, ◌and_then◌, Verdict}
use Rattle.rules_routine.specs.Routine.{is_condition}
use Rattle.rules_routine.specs.declared.Command.{Command}
use Rattle.rules_routine.specs.declared.refusals.Refusal.{Refusal}
use Rattle.rules.specs.Tables.{any_of, put, Each}
use Rattle.rules.specs.State.{Status, to-do, in_flight, was_done, was_skipped, was_held, was_not_held, Member, State}
use Rattle.rules.specs.Answers.{Call, submit, turn, report, failure, restart, cancel, limit, Answer, refused, placed, wait, skipped}
use Rattle.rules.specs.Answers.{held, not_held, down, up, Result, unless_refused}
use Rattle.rules.specs.Progress.{is_must, next, next_counts_as_must, next_is_skipped, Flight, flight, advance, answer_flight, with_steps}
use Rattle.rules.specs.Due.{due}
use Rattle.rules.specs.Sequence.{Found, onto, find, is_running, runs, last_id_or, with_up}
use Rattle.rules.specs.Settle.{settling}
use Rattle.rules.specs.Abort.{abort}
use Rattle.rules.specs.Submit.{submit_check, blocks, up_to_last, past_last, newcomer, place, submit_of}
use Rattle.rules.specs.Turn.{first_holding, commit, commit_turn, next_becomes, send_turn, skip_turn, is_held, held_turn, not_held_turn}
use Rattle.rules.specs.Turn.{wait_or, turn_next}
use Rattle.rules.specs.Turn.{turn_flight, turn_found, turn_of}
use Rattle.rules.specs.Report.{code_done, code_failed, done_report, skip_report, reported, report_flight, report_found, report_of}
use Rattle.rules.specs.Events.{is_halfway, must_left, skip_left, skip_rest, stop_if_any, stop_halfway, failure_result, restart_result}
use Rattle.rules.specs.Events.{failure_of, restart_of}
use Rattle.rules.specs.Cancel.{cancel_found, cancel_of}
use Rattle.rules.specs.Limit.{new_limit_check, limit_of}
use Rattle.rules.specs.Calls.{result_of}
use Rattle.rules.specs.Order.{Event, failure_event, restart_event}
use Rattle.rules.specs.Attach.{attach, one_restart}
use Rattle.rules.proofs.Lists.{by_if, and_left, and_right, each_map}
use Rattle.rules.proofs.LimitLaws.{in_force}
use Rattle.rules_promises.proofs.Groups.{Group, members, alone, with, pass_all, found_at, leaving, lead_of, attach_event, lead_with}
use Rattle.rules_promises.proofs.Steps.{Passing}
use Rattle.rules_promises.proofs.Invariant.{NotHalfway}

-- the changed routine of a turn or a report, from the result's text
abbrev pub sent_member : State → Group → Command → Member
sent_member s g c = with_steps g.member (advance (in_flight (due s c.device)) g.member.steps)

abbrev pub passed_member : Status → Group → Member
passed_member st g = with_steps g.member (advance st g.member.steps)

abbrev pub done_member : Group → Member
done_member g = with_steps g.member (answer_flight was_done g.member.steps)

abbrev pub failed_member : Group → Member
failed_member g = with_steps g.member (answer_flight was_skipped g.member.steps)

-- the routine that an event of d leaves without the commands left on d
abbrev pub skipped_left : ℕ → Group → Member
skipped_left d g = with_steps g.member (skip_left d g.member.steps)

-- why the next command, c, is answered without being sent, and how
pub data Passes (s : State) (g : Group) (c : Command) : Status → Type 0 where
  is_down : s.up c.device ≡ false → next_counts_as_must g.member.steps ≡ false → Passes s g c was_skipped
  is_off : next_is_skipped false g.member.steps ≡ true → Passes s g c was_skipped
  does_hold : s.up c.device ≡ true → is_condition c ≡ true → is_held s c ≡ true → Passes s g c was_held
  does_not : s.up c.device ≡ true → is_condition c ≡ true → is_held s c ≡ false → Passes s g c was_not_held

-- the answer to that, and the result
abbrev pub pass_answer : Status → ℕ → Answer
pass_answer to-do i = skipped i []
pass_answer (in_flight u) i = skipped i []
pass_answer was_done i = skipped i []
pass_answer was_skipped i = skipped i []
pass_answer was_held i = held i
pass_answer was_not_held i = not_held i

-- what holds of each of these answers
pub by_answer : (P : Answer → Type 0) (i : ℕ) → P (skipped i []) → P (held i) → P (not_held i) → (st : Status) → P (pass_answer st i)
by_answer P i s h n to-do = s
by_answer P i s h n (in_flight u) = s
by_answer P i s h n was_done = s
by_answer P i s h n was_skipped = s
by_answer P i s h n was_held = h
by_answer P i s h n was_not_held = n

abbrev pub pass_turn : State → Found → Command → Status → Result
pass_turn s f c st = record { state = next_becomes s f c st; answers = pass_answer st f.it.id ∷ [] }

pub passing : {s : State} {g : Group} {c : Command} {st : Status} → Passes s g c st → Passing st
passing (is_down u m) = record { answers-it = refl; not_done = refl }
passing (is_off u) = record { answers-it = refl; not_done = refl }
passing (does_hold u k h) = record { answers-it = refl; not_done = refl }
passing (does_not u k h) = record { answers-it = refl; not_done = refl }

-- why a routine aborts at a call of its own
pub data Aborts (g : Group) : Call → Type 0 where
  by_turn : (i : ℕ) → g.member.id ≡ i → flight g.member.steps ≡ None → Aborts g (turn i)
  by_report : (i code : ℕ) (x : Flight) → g.member.id ≡ i → flight g.member.steps ≡ Some x → eqb code code_done ≡ false →
      Aborts g (report i code)
  by_cancel : (i : ℕ) → g.member.id ≡ i → Aborts g (cancel i)

-- ahead of an event of d nobody is halfway with it; or somebody aborts; or loses what is left on d
pub data Gone (s : State) (d : ℕ) (l : List Group) : Result → List Event → List Group → Type 0 where
  nobody : Each (NotHalfway d) l → Gone s d l (record { state = s; answers = [] }) [] l
  somebody : (a : List Group) (g : Group) (b : List Group) → l ≡ a ++ (g ∷ b) → is_halfway d g.member ≡ true →
      Gone s d l (abort s (found_at a g b)) (lead_of a g) (leaving a g b)
  loses : (a : List Group) (g : Group) (b : List Group) → l ≡ a ++ (g ∷ b) → is_halfway d g.member ≡ true →
      must_left d g.member ≡ false →
      Gone s d l (record { state = skip_rest d s (found_at a g b); answers = [] }) [] (a ++ (with g (skipped_left d g) ∷ b))

-- a call that changes something, before it settles: the result, the events attached to 0, the groups
pub data Moves (s : State) (l : List Group) : Call → Result → List Event → List Group → Type 0 where
  places : (cs : List Command) (a b : List Group) → submit_check s cs ≡ Ok tt → l ≡ a ++ b →
      up_to_last (blocks s cs) s.sequence ≡ members a → past_last (blocks s cs) s.sequence ≡ members b →
      any_of (blocks s cs) (members b) ≡ false →
      Moves s l (submit cs)
      (record { state = place s cs; answers = placed s.next_id (last_id_or 0 (up_to_last (blocks s cs) s.sequence)) ∷ [] }) []
      (a ++ (alone (newcomer s.next_id cs) ∷ pass_all b))
  commits : (i : ℕ) (a : List Group) (g : Group) (b : List Group) → l ≡ a ++ (g ∷ b) → g.member.id ≡ i → g.member.committed ≡ false →
      flight g.member.steps ≡ None → next g.member.steps ≡ None →
      Moves s l (turn i) (commit_turn s (found_at a g b)) [] (a ++ (with g (commit g.member) ∷ b))
  sends : (i : ℕ) (a : List Group) (g : Group) (b : List Group) (c : Command) → l ≡ a ++ (g ∷ b) → g.member.id ≡ i →
      g.member.committed ≡ false →
      flight g.member.steps ≡ None → next g.member.steps ≡ Some c → first_holding c.device (is_condition c) (members a) ≡ None →
      s.up c.device ≡ true → is_condition c ≡ false → next_is_skipped false g.member.steps ≡ false →
      Moves s l (turn i) (send_turn s (found_at a g b) c) [] (a ++ (with g (sent_member s g c) ∷ b))
  passes : (i : ℕ) (a : List Group) (g : Group) (b : List Group) (c : Command) → l ≡ a ++ (g ∷ b) → g.member.id ≡ i →
      g.member.committed ≡ false →
      flight g.member.steps ≡ None → next g.member.steps ≡ Some c → first_holding c.device (is_condition c) (members a) ≡ None →
      (st : Status) → Passes s g c st →
      Moves s l (turn i) (pass_turn s (found_at a g b) c st) [] (a ++ (with g (passed_member st g) ∷ b))
  dones : (i code : ℕ) (a : List Group) (g : Group) (b : List Group) (x : Flight) → l ≡ a ++ (g ∷ b) → g.member.id ≡ i →
      g.member.committed ≡ false →
      flight g.member.steps ≡ Some x → eqb code code_done ≡ true →
      Moves s l (report i code) (done_report s (found_at a g b)) [] (a ++ (with g (done_member g) ∷ b))
  misses : (i : ℕ) (a : List Group) (g : Group) (b : List Group) (x : Flight) → l ≡ a ++ (g ∷ b) → g.member.id ≡ i →
      g.member.committed ≡ false →
      flight g.member.steps ≡ Some x →
      Moves s l (report i code_failed) (skip_report s (found_at a g b) x) [] (a ++ (with g (failed_member g) ∷ b))
  aborts : (c : Call) (a : List Group) (g : Group) (b : List Group) → l ≡ a ++ (g ∷ b) → g.member.committed ≡ false → Aborts g c →
      Moves s l c (abort s (found_at a g b)) (lead_of a g) (leaving a g b)
  fails : (d : ℕ) (r : Result) (lead : List Event) (k : List Group) → leb s.devices d ≡ false → s.up d ≡ true →
      Gone (with_up s (put s.up d false)) d l r lead k →
      Moves s l (failure d) (record { state = r.state; answers = r.answers ++ (down d (r.state.mark d) ∷ []) })
      (lead_with (r.state.mark d) (failure_event d) lead) (attach_event (r.state.mark d) (failure_event d) k)
  restarts : (d : ℕ) (v : ℤ) (r : Result) (lead : List Event) (k : List Group) → leb s.devices d ≡ false → s.up d ≡ false →
      Gone s d l r lead k →
      Moves s l (restart d v)
      (let t = attach (r.state.mark d) (one_restart d v) r.state in
      record { state = with_up t (put t.up d true); answers = r.answers ++ (up d (r.state.mark d) ∷ []) })
      (lead_with (r.state.mark d) (restart_event d v) lead) (attach_event (r.state.mark d) (restart_event d v) k)

-- a turn waits for a routine ahead of its own; a new pass limit is in force
pub data Seen (s : State) (l : List Group) : Call → Result → Type 0 where
  is-refused : {c : Call} (r : Refusal) → Seen s l c (record { state = s; answers = refused r ∷ [] })
  waits : (i : ℕ) (a : List Group) (g : Group) (b : List Group) (d : ℕ) (condition : Bool) (j : ℕ) → l ≡ a ++ (g ∷ b) →
      g.member.id ≡ i → first_holding d condition (members a) ≡ Some j →
      Seen s l (turn i) (record { state = s; answers = wait g.member.id j ∷ [] })
  limits : (k : ℕ) → new_limit_check s.devices k ≡ Ok tt → Seen s l (limit k) (in_force s k)
  moves : {c : Call} {r : Result} {lead : List Event} {k : List Group} → Moves s l c r lead k → Seen s l c (settling r)

-- ---- the groups that a call is about

-- what a search of the sequence finds: nobody, or one of the groups
data Finding (p : Member → Bool) (l : List Group) : Option Found → Type 0 where
  missing : Each (λ g. p g.member ≡ false) l → Finding p l None
  located : (a : List Group) (g : Group) (b : List Group) → l ≡ a ++ (g ∷ b) → p g.member ≡ true → Finding p l (Some (found_at a g b))

find_members : (p : Member → Bool) (l : List Group) → Finding p l (find p (members l))
find_members p [] = missing tt
find_members p (g ∷ l) = by_if (Finding p (g ∷ l)) (p g.member) (λ t. located [] g l refl t) (λ t. further t (find_members p l))
  where
    further : p g.member ≡ false → {o : Option Found} → Finding p l o → Finding p (g ∷ l) (onto g.member o)
    further t (missing n) = missing (t, n)
    further t (located a x b w u) = located (g ∷ a) x b (ap (λ k. g ∷ k) w) u

find_group : (p : Member → Bool) (s : State) (l : List Group) → s.sequence ≡ members l → Finding p l (find p s.sequence)
find_group p s l e = subst (λ q. Finding p l (find p q)) (sym e) (find_members p l)

-- the running routine with an id, should there be one
running : (i : ℕ) (s : State) (l : List Group) → s.sequence ≡ members l → (P : Option Found → Type 0) → P None →
    ((a : List Group) (g : Group) (b : List Group) → l ≡ a ++ (g ∷ b) → g.member.id ≡ i → g.member.committed ≡ false →
    P (Some (found_at a g b))) →
    P (find (runs i) s.sequence)
unfolding runs is_running
running i s l e P otherwise found = go (find_group (runs i) s l e)
  where
    go : {o : Option Found} → Finding (runs i) l o → P o
    go (missing n) = otherwise
    go (located a g b w t) =
        let m = g.member in
        found a g b w (eqb-true m.id i (and_left (eqb m.id i) (is_running m) t))
        (not-true m.committed (and_right (eqb m.id i) (is_running m) t))

-- the groups up to the last that passes the test, and those behind it
record Divided (p : Member → Bool) (l : List Group) : Type 0 where
  ahead : List Group
  behind : List Group
  whole : l ≡ ahead ++ behind
  ahead-is : up_to_last p (members l) ≡ members ahead
  behind-is : past_last p (members l) ≡ members behind
  none-behind : any_of p (members behind) ≡ false

divide : (p : Member → Bool) (l : List Group) → Divided p l
divide p [] = record { ahead = []; behind = []; whole = refl; ahead-is = refl; behind-is = refl; none-behind = refl }
divide p (g ∷ l) = go (divide p l) (any_of p (members (g ∷ l))) refl
  where
    go : Divided p l → (t : Bool) → any_of p (members (g ∷ l)) ≡ t → Divided p (g ∷ l)
    go h true e = record {
      ahead = g ∷ h.ahead;
      behind = h.behind;
      whole = ap (λ k. g ∷ k) h.whole;
      ahead-is = rw e (ap (λ k. g.member ∷ k) h.ahead-is);
      behind-is = rw e h.behind-is;
      none-behind = h.none-behind;
    }
    go h false e = record { ahead = []; behind = g ∷ l; whole = refl; ahead-is = rw e refl; behind-is = rw e refl; none-behind = e }

-- what comes ahead of an event
abbrev IsGone : State → ℕ → List Group → Result → Type 0
IsGone s d l r = (lead : List Event) × (k : List Group) × Gone s d l r lead k

gone : (d : ℕ) (s : State) (l : List Group) → s.sequence ≡ members l → IsGone s d l (stop_halfway d s)
unfolding stop_halfway
gone d s l e = go (find_group (is_halfway d) s l e)
  where
    go : {o : Option Found} → Finding (is_halfway d) l o → IsGone s d l (stop_if_any d s o)
    go (missing n) = ([], l, nobody (each_map _ _ (λ g t. record { not_halfway = t }) l n))
    go (located a g b w t) =
        by_if (IsGone s d l) (must_left d g.member) (λ _. (lead_of a g, leaving a g b, somebody a g b w t))
        (λ m. ([], a ++ (with g (skipped_left d g) ∷ b), loses a g b w t m))

-- ---- the calls

-- a call is refused, or its checks accept it
unless : (s : State) (l : List Group) (c : Call) (v : Verdict) {r : Result} → (v ≡ Ok tt → Seen s l c r) →
    Seen s l c (unless_refused v s r)
unless s l c (Ok tt) f = f refl
unless s l c (Err x) f = is-refused x

-- a turn of the running routine g, and a report on it
module _ (s : State) {l : List Group} (i : ℕ) (a : List Group) (g : Group) (b : List Group) (w : l ≡ a ++ (g ∷ b)) (n : g.member.id ≡ i)
    (u : g.member.committed ≡ false) where
  idle : flight g.member.steps ≡ None → (o : Option Command) → next g.member.steps ≡ o →
      Seen s l (turn i) (turn_next s (found_at a g b) o)
  unfolding skip_turn held_turn not_held_turn
  idle f None e = moves (commits i a g b w n u f e)
  idle f (Some c) e = unheld (first_holding c.device (is_condition c) (members a)) refl
    where
      Turned : Result → Type 0
      Turned = Seen s l (turn i)

      unheld : (o : Option ℕ) → first_holding c.device (is_condition c) (members a) ≡ o → Turned (wait_or s (found_at a g b) c o)
      unheld (Some j) h = waits i a g b c.device (is_condition c) j w n h
      unheld None h =
          by_if Turned (next_is_skipped false g.member.steps) (λ t. moves (passes i a g b c w n u f e h was_skipped (is_off t)))
          (λ z. by_if Turned (s.up c.device)
          (λ t. by_if Turned (is_condition c)
          (λ k. by_if Turned (is_held s c) (λ y. moves (passes i a g b c w n u f e h was_held (does_hold t k y)))
          (λ y. moves (passes i a g b c w n u f e h was_not_held (does_not t k y))))
          (λ k. moves (sends i a g b c w n u f e h t k z)))
          (λ t. by_if Turned (next_counts_as_must g.member.steps) (λ _. moves (aborts (turn i) a g b w u (by_turn i n f)))
          (λ m. moves (passes i a g b c w n u f e h was_skipped (is_down t m)))))

  turned : (o : Option Flight) → flight g.member.steps ≡ o → Seen s l (turn i) (turn_flight s (found_at a g b) o)
  turned (Some x) f = is-refused _
  turned None f = idle f (next g.member.steps) refl

  told : (code : ℕ) (o : Option Flight) → flight g.member.steps ≡ o → Seen s l (report i code) (report_flight s (found_at a g b) code o)
  told code None e = is-refused _
  told code (Some x) e =
      by_if (λ v. Seen s l (report i code) (unless_refused v s (reported s (found_at a g b) x code))) (ltb code_failed code) (λ _. is-refused _)
      (λ k. by_if (Seen s l (report i code)) (eqb code code_done) (λ t. moves (dones i code a g b x w n u e t))
      (λ t. by_if (Seen s l (report i code)) (is_must x.command) (λ _. moves (aborts (report i code) a g b w u (by_report i code x n e t)))
      (λ _. subst (λ c. Seen s l (report i c) (settling (skip_report s (found_at a g b) x))) (failed k t)
      (moves (misses i a g b x w n u e)))))
    where
      failed : ltb code_failed code ≡ false → eqb code code_done ≡ false → code_failed ≡ code
      failed k t =
          let most = ltb-false code_failed code k in
          let other = eqb-false code code_done t in
          omega arith

module _ (s : State) (l : List Group) (e : s.sequence ≡ members l) where
  see_submit : (cs : List Command) → Seen s l (submit cs) (submit_of s cs)
  unfolding submit_of
  see_submit cs =
      let h = divide (blocks s cs) l in
      unless s l (submit cs) (submit_check s cs)
      (λ v. moves (places cs h.ahead h.behind v h.whole (ap (up_to_last (blocks s cs)) e ∙ h.ahead-is)
      (ap (past_last (blocks s cs)) e ∙ h.behind-is) h.none-behind))

  see_turn : (i : ℕ) → Seen s l (turn i) (turn_of s i)
  unfolding turn_of
  see_turn i =
      running i s l e (λ o. Seen s l (turn i) (turn_found s o)) (is-refused _)
      (λ a g b w n u. turned s i a g b w n u (flight g.member.steps) refl)

  see_report : (i code : ℕ) → Seen s l (report i code) (report_of s i code)
  unfolding report_of
  see_report i code =
      running i s l e (λ o. Seen s l (report i code) (report_found s code o)) (is-refused _)
      (λ a g b w n u. told s i a g b w n u code (flight g.member.steps) refl)

  see_failure : (d : ℕ) → Seen s l (failure d) (failure_of s d)
  unfolding failure_of failure_result
  see_failure d =
      let h = gone d (with_up s (put s.up d false)) l e in
      by_if (λ v. Checked (v and_then refuse FailureOfDown when not (s.up d))) (leb s.devices d) (λ _. is-refused _)
      (λ t. by_if Checked (not (s.up d)) (λ _. is-refused _) (λ u. moves (fails d _ h.0 h.1 t (not-false _ u) h.2)))
    where
      Checked : Verdict → Type 0
      Checked v = Seen s l (failure d) (unless_refused v s (settling (failure_result s d)))

  see_restart : (d : ℕ) (v : ℤ) → Seen s l (restart d v) (restart_of s d v)
  unfolding restart_of restart_result
  see_restart d v =
      let h = gone d s l e in
      let setting = refuse RestartSetting when not (in_range v) in
      by_if (λ x. Checked (x and_then refuse RestartOfUp when s.up d and_then setting)) (leb s.devices d) (λ _. is-refused _)
      (λ t. by_if (λ x. Checked (x and_then setting)) (s.up d) (λ _. is-refused _)
      (λ u. unless s l (restart d v) setting (λ _. moves (restarts d v _ h.0 h.1 t u h.2))))
    where
      Checked : Verdict → Type 0
      Checked x = Seen s l (restart d v) (unless_refused x s (settling (restart_result s d v)))

  see_cancel : (i : ℕ) → Seen s l (cancel i) (cancel_of s i)
  unfolding cancel_of
  see_cancel i =
      running i s l e (λ o. Seen s l (cancel i) (cancel_found s o)) (is-refused _)
      (λ a g b w n u. moves (aborts (cancel i) a g b w u (by_cancel i n)))

-- a new pass limit
see_limit : (s : State) (l : List Group) (k : ℕ) → Seen s l (limit k) (limit_of s k)
unfolding limit_of
see_limit s l k = unless s l (limit k) (new_limit_check s.devices k) (λ v. limits k v)

pub see : (s : State) (l : List Group) → s.sequence ≡ members l → (c : Call) → Seen s l c (result_of s c)
see s l e (submit cs) = see_submit s l e cs
see s l e (turn i) = see_turn s l e i
see s l e (report i code) = see_report s l e i code
see s l e (failure d) = see_failure s l e d
see s l e (restart d v) = see_restart s l e d v
see s l e (cancel i) = see_cancel s l e i
see s l e (limit k) = see_limit s l k
