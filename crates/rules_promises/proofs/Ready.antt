-- What holds between calls of the hub and of what was told: the ground of the waiting promise. It is kept by every call. Assumes nothing.
use Rattle.std.proofs.Common.{Ok}
use Rattle.rules_routine.specs.declared.refusals.Refusal.TheVariants.{SequenceFull}
use mathlib.Core.Path.{◌≡◌, refl, sym, ap, ◌∙◌, subst}
use mathlib.Core.List.{List, [], ◌∷◌, ◌++◌}
use Prim.Native.Nat.{ℕ, suc, ◌<◌, ◌≤◌}
use native.Mathlib.Omega.{arith}
use borrow.Author.Tests.{leb-false}
use lib.Dec.{leb}
use lib.ListN.{length}
use Rattle.rules_routine.specs.Refusals.{refuse◌when◌}
use Rattle.rules_routine.specs.Limits.{max_commands, max_sequence}
use Rattle.rules_routine.specs.Routine.{routine_check}
use Rattle.rules_routine.specs.declared.Command.{Command}
use Rattle.rules_routine.proofs.RoutineLaws.{both_accept, not-refused, check_accepted}
use Rattle.rules.specs.Tables.{Each}
use Rattle.rules.specs.State.{State}
use Rattle.rules.specs.Answers.{Call, turn, limit, Answer, refused, wait, limited, Result}
use Rattle.rules.specs.Due.{due}
use Rattle.rules.specs.Limit.{with_pass_limit}
use Rattle.rules.specs.Settle.{settle}
use Rattle.rules.specs.Abort.{leave, abort}
use Rattle.rules.specs.Open.{opened, new_hub, open_of}
use Rattle.rules.specs.Submit.{submit_check, newcomer, place}
use Rattle.rules.specs.Turn.{commit, commit_turn, send_turn}
use Rattle.rules.specs.Report.{done_report, skipped_state, skip_report}
use Rattle.rules.specs.Calls.{result_of, state_after}
use Rattle.rules.specs.History.{Told, is_for, note_answers, accounts_of}
use Rattle.rules.specs.Order.{Event, failure_event, restart_event}
use Rattle.rules.specs.Attach.{attach, one_restart}
use Rattle.rules.specs.Rounds.{calls_told, told_then, limit_after, limit_after_all, limit_told, KeepsLimit}
use Rattle.rules.proofs.Lists.{by_if, each_mid, each_drop, each_insert, each_swap}
use Rattle.rules_promises.proofs.Groups.{Group, members, alone, with, leaving, attach_event, still_held, each_held}
use Rattle.rules_promises.proofs.Same.{Pairwise, no_pair, pair, Same, same-placed, same_leaving, same_attached, same_each}
use Rattle.rules_promises.proofs.Steps.{left_steps, not_on, skip-left, send-step, skip_step, done-step, fail_step, fresh-newcomer}
use Rattle.rules_promises.proofs.Invariant.{unmarked, HubOk, FirstRuns, AccountTells}
use Rattle.rules_promises.proofs.View.{by_answer, passing, sent_member, passed_member, done_member, failed_member, skipped_left, Gone}
use Rattle.rules_promises.proofs.View.{nobody, somebody, loses, Moves, places, commits, sends, passes, dones, misses, aborts, fails}
use Rattle.rules_promises.proofs.View.{restarts}
use Rattle.rules_promises.proofs.View.{Seen, is-refused, waits, limits, moves, see}
use Rattle.rules_promises.proofs.Fields.{Fixed, gone_fixed, attach_fixed, settle_fixed}
use Rattle.rules_promises.proofs.Marks.{in-turn}
use Rattle.rules_promises.proofs.Moved.{hub-limit, hub-settles}
use Rattle.rules_promises.proofs.Kept.{hub_moves}
use Rattle.rules_promises.proofs.Serial.{first_runs}
use Rattle.rules_promises.proofs.Running.{RunsTold, runs_moves, runs-held}
use Rattle.rules_promises.proofs.Accounts.{accounts_moves}
use Rattle.rules_promises.proofs.Told.{FliesTold, flies_told, flies_held}
use Rattle.rules_promises.proofs.Measure.{FewLeft}
use Rattle.rules_promises.proofs.Theorem.{settle-none, see_any, opening}

-- ---- what holds between calls

same-few_left : (g h : Group) → Same g h → FewLeft g → FewLeft h
same-few_left g h e w = record { few_left = subst (λ l. length (left_steps l) ≤ max_commands) (sym e.same-steps) w.few_left }

-- the routine with one command less left
less_few_left : (g h : Group) (c : Command) → left_steps g.member.steps ≡ c ∷ left_steps h.member.steps → FewLeft g → FewLeft h
less_few_left g h c e w =
    let n : length (left_steps g.member.steps) ≡ suc (length (left_steps h.member.steps)) = ap length e in
    let m = w.few_left in
    record { few_left = omega arith }

fewer_left : (d : ℕ) (l : List Command) → length (not_on d l) ≤ length l
fewer_left d [] = omega arith
fewer_left d (c ∷ l) =
    let h = fewer_left d l in
    by_if (λ k. length k ≤ suc (length l)) (is_for d c) (λ _. omega arith) (λ _. omega arith)

few_left_gone : (s : State) (d : ℕ) (l : List Group) {r : Result} {lead : List Event} {k : List Group} → Each FewLeft l →
    Gone s d l r lead k →
    Each FewLeft k
few_left_gone s d l h (nobody q) = h
few_left_gone s d l h (somebody a g b e q) =
    same_each FewLeft same-few_left (same_leaving a g b) (each_drop FewLeft a g b (subst (Each FewLeft) e h))
few_left_gone s d l h (loses a g b e q m) =
    let w = subst (Each FewLeft) e h in
    let n = fewer_left d (left_steps g.member.steps) in
    let p = (each_mid FewLeft a g b w).few_left in
    each_swap FewLeft a g (with g (skipped_left d g)) b w
    (record { few_left = subst (λ l. length l ≤ max_commands) (sym (skip-left d g.member.steps)) (omega arith) })

pub new_few_left : (s : State) (cs : List Command) → submit_check s cs ≡ Ok tt → FewLeft (alone (newcomer s.next_id cs))
unfolding submit_check
new_few_left s cs e =
    let a = check_accepted s.devices cs (both_accept (routine_check s.devices cs) _ e).0 in
    record { few_left = subst (λ l. length l ≤ max_commands) (sym (fresh-newcomer s.next_id cs).left_is) a.1 }

few_left_moves : (s : State) (l : List Group) {c : Call} {r : Result} {lead : List Event} {k : List Group} → HubOk s l → Each FewLeft l →
    Moves s l c r lead k → Each FewLeft k
unfolding commit
few_left_moves s l h t (places cs a b q e u p n) =
    same_each FewLeft same-few_left (same-placed a _ b) (each_insert FewLeft a _ b (subst (Each FewLeft) e t) (new_few_left s cs q))
few_left_moves s l h t (commits i a g b e n r f q) =
    let w = subst (Each FewLeft) e t in
    each_swap FewLeft a g (with g (commit g.member)) b w (record { few_left = (each_mid FewLeft a g b w).few_left })
few_left_moves s l h t (sends i a g b c e n r f q w u plain on) =
    let z = subst (Each FewLeft) e t in
    let y = send-step g.member (in-turn s a g b (subst (HubOk s) e h)) c (due s c.device) q f in
    each_swap FewLeft a g (with g (sent_member s g c)) b z
    (record { few_left = subst (λ l. length l ≤ max_commands) (sym y.same_left) (each_mid FewLeft a g b z).few_left })
few_left_moves s l h t (passes i a g b c e n r f q w st u) =
    let z = subst (Each FewLeft) e t in
    let y = skip_step g.member (in-turn s a g b (subst (HubOk s) e h)) c st (passing u) q f in
    each_swap FewLeft a g (with g (passed_member st g)) b z (less_few_left g _ c y.left_is (each_mid FewLeft a g b z))
few_left_moves s l h t (dones i code a g b x e n r f q) =
    let z = subst (Each FewLeft) e t in
    let y = done-step g.member (in-turn s a g b (subst (HubOk s) e h)) x f in
    each_swap FewLeft a g (with g (done_member g)) b z (less_few_left g _ x.command y.left_is (each_mid FewLeft a g b z))
few_left_moves s l h t (misses i a g b x e n r f) =
    let z = subst (Each FewLeft) e t in
    let y = fail_step g.member (in-turn s a g b (subst (HubOk s) e h)) x f in
    each_swap FewLeft a g (with g (failed_member g)) b z (less_few_left g _ x.command y.left_is (each_mid FewLeft a g b z))
few_left_moves s l h t (aborts c a g b e r k) =
    same_each FewLeft same-few_left (same_leaving a g b) (each_drop FewLeft a g b (subst (Each FewLeft) e t))
few_left_moves s l h t (fails d r lead k n u w) =
    same_each FewLeft same-few_left (same_attached (r.state.mark d) (failure_event d) k) (few_left_gone _ d l t w)
few_left_moves s l h t (restarts d v r lead k n u w) =
    same_each FewLeft same-few_left (same_attached (r.state.mark d) (restart_event d v) k) (few_left_gone s d l t w)

-- the pass limit stays, and ids are given in turn
pub fixed_moves : (s : State) (l : List Group) {c : Call} {r : Result} {lead : List Event} {k : List Group} → Moves s l c r lead k →
    (r.state.pass_limit ≡ s.pass_limit) × (s.next_id ≤ r.state.next_id)
unfolding place commit_turn send_turn done_report skipped_state skip_report abort leave attach
fixed_moves s l (places cs a b q e u p n) = (refl, omega arith)
fixed_moves s l (commits i a g b e n r f q) = (refl, omega arith)
fixed_moves s l (sends i a g b c e n r f q w u plain on) = (refl, omega arith)
fixed_moves s l (passes i a g b c e n r f q w st u) = (refl, omega arith)
fixed_moves s l (dones i code a g b x e n r f q) = (refl, omega arith)
fixed_moves s l (misses i a g b x e n r f) = (refl, omega arith)
fixed_moves s l (aborts c a g b e r q) = (refl, omega arith)
fixed_moves s l (fails d r lead k n u g) =
    let f = gone_fixed _ d l g in
    (ap (λ (x : Fixed). x.pass_limit) f, subst (λ (x : Fixed). s.next_id ≤ x.next_id) (sym f) (omega arith))
fixed_moves s l (restarts d v r lead k n u g) =
    let f = attach_fixed (r.state.mark d) (one_restart d v) r.state ∙ gone_fixed s d l g in
    (ap (λ (x : Fixed). x.pass_limit) f, subst (λ (x : Fixed). s.next_id ≤ x.next_id) (sym f) (omega arith))

-- ---- how many are held

length_members : (l : List Group) → length (members l) ≡ length l
length_members [] = refl
length_members (g ∷ l) = ap suc (length_members l)

same_length : {l k : List Group} → Pairwise Same l k → length k ≡ length l
same_length no_pair = refl
same_length (pair r q) = ap suc (same_length q)

held_at_most : (n : ℕ) (l : List Group) → length l ≤ n → length (still_held l) ≤ n
held_at_most n [] h = h
held_at_most n (g ∷ l) h = by_if (λ k. length k ≤ n) g.member.committed (λ _. held_at_most n l (omega arith)) (λ _. h)

-- there was room for the newcomer
room_for_one : (s : State) (cs : List Command) (l : List Group) → submit_check s cs ≡ Ok tt → s.sequence ≡ members l →
    length l < max_sequence
unfolding submit_check
room_for_one s cs l e q =
    let f = (both_accept (routine_check s.devices cs) _ e).1 in
    let g = not-refused SequenceFull (leb max_sequence (length s.sequence))
    (both_accept (refuse SequenceFull when leb max_sequence (length s.sequence)) _ f).0 in
    let n = leb-false max_sequence (length s.sequence) g in
    let m : length s.sequence ≡ length l = ap length q ∙ length_members l in
    omega arith

-- one in the middle
length_mid : (a : List Group) (g : Group) (b : List Group) → length (a ++ (g ∷ b)) ≡ suc (length (a ++ b))
length_mid [] g b = refl
length_mid (x ∷ a) g b = ap suc (length_mid a g b)

-- g becomes h; g leaves
swapped_room : (a : List Group) (g h : Group) (b : List Group) {l : List Group} → l ≡ a ++ (g ∷ b) → length l ≤ max_sequence →
    length (a ++ (h ∷ b)) ≤ max_sequence
swapped_room a g h b e n =
    let p = length_mid a g b in
    let q = length_mid a h b in
    let z = ap length e in
    omega arith

left_room : (a : List Group) (g : Group) (b : List Group) {l : List Group} → l ≡ a ++ (g ∷ b) → length l ≤ max_sequence →
    length (leaving a g b) ≤ max_sequence
left_room a g b e n =
    let p = length_mid a g b in
    let q = same_length (same_leaving a g b) in
    let z = ap length e in
    omega arith

gone_room : (s : State) (d : ℕ) (l : List Group) {r : Result} {lead : List Event} {k : List Group} → length l ≤ max_sequence →
    Gone s d l r lead k →
    length k ≤ max_sequence
gone_room s d l n (nobody q) = n
gone_room s d l n (somebody a g b e q) = left_room a g b e n
gone_room s d l n (loses a g b e q m) = swapped_room a g (with g (skipped_left d g)) b e n

event-room : (j : ℕ) (x : Event) (l : List Group) → length l ≤ max_sequence → length (attach_event j x l) ≤ max_sequence
event-room j x l n = let q = same_length (same_attached j x l) in omega arith

-- the sequence holds no more than it may
room_moves : (s : State) (l : List Group) {c : Call} {r : Result} {lead : List Event} {k : List Group} → HubOk s l →
    length l ≤ max_sequence →
    Moves s l c r lead k → length k ≤ max_sequence
room_moves s l h t (places cs a b q e u p n) =
    let new = alone (newcomer s.next_id cs) in
    let w = room_for_one s cs l q h.sequence_is in
    let x = same_length (same-placed a new b) in
    let y = length_mid a new b in
    let z = ap length e in
    omega arith
room_moves s l h t (commits i a g b e n r f q) = swapped_room a g (with g (commit g.member)) b e t
room_moves s l h t (sends i a g b c e n r f q w u plain on) = swapped_room a g (with g (sent_member s g c)) b e t
room_moves s l h t (passes i a g b c e n r f q w st u) = swapped_room a g (with g (passed_member st g)) b e t
room_moves s l h t (dones i code a g b x e n r f q) = swapped_room a g (with g (done_member g)) b e t
room_moves s l h t (misses i a g b x e n r f) = swapped_room a g (with g (failed_member g)) b e t
room_moves s l h t (aborts c a g b e r k) = left_room a g b e t
room_moves s l h t (fails d r lead k n u w) = event-room (r.state.mark d) (failure_event d) k (gone_room _ d l t w)
room_moves s l h t (restarts d v r lead k n u w) = event-room (r.state.mark d) (restart_event d v) k (gone_room s d l t w)

-- ---- between calls

-- the hub in state s after history h
pub record Ready (s : State) (h : List Told) (l : List Group) : Type 0 where
  pub hub : HubOk s l
  pub first : FirstRuns l
  pub running-told : RunsTold (accounts_of h) l
  pub tells : Each (AccountTells (accounts_of h)) l
  pub flying-told : FliesTold (accounts_of h) l
  pub few_left : Each FewLeft l
  pub room : length l ≤ max_sequence

pub ready_moves : (s : State) (h : List Told) (l : List Group) → Ready s h l →
    {c : Call} {r : Result} {lead : List Event} {m : List Group} → Moves s l c r lead m →
    Ready (settle r.state) (record { call = c; answers = r.answers } ∷ h) (still_held m)
ready_moves s h l y {c = c} {r = r} {m = m} v = record {
  hub = hub-settles r.state m (hub_moves s l y.hub v);
  first = first_runs m;
  running-told = runs-held (note_answers c r.answers (accounts_of h)) m (runs_moves s (accounts_of h) l y.hub y.running-told v);
  tells = each_held (AccountTells (note_answers c r.answers (accounts_of h))) m
      (accounts_moves s (accounts_of h) l y.hub y.running-told y.tells v);
  flying-told = flies_held (note_answers c r.answers (accounts_of h)) m
      (flies_told s (accounts_of h) l y.hub y.running-told y.tells y.flying-told v);
  few_left = each_held FewLeft m (few_left_moves s l y.hub y.few_left v);
  room = held_at_most max_sequence m (room_moves s l y.hub y.room v);
}

-- a call told, with these answers
abbrev pub saying : Call → List Answer → Told
saying c answers = record { call = c; answers = answers }

-- a call that tells nothing
pub untold : (s : State) (h : List Told) (l : List Group) (t : Told) → accounts_of (t ∷ h) ≡ accounts_of h → Ready s h l → Ready s (t ∷ h) l
untold s h l t a y = record {
  hub = y.hub;
  first = y.first;
  running-told = subst (λ x. RunsTold x l) (sym a) y.running-told;
  tells = subst (λ x. Each (AccountTells x) l) (sym a) y.tells;
  flying-told = subst (λ x. FliesTold x l) (sym a) y.flying-told;
  few_left = y.few_left;
  room = y.room;
}

-- a new pass limit: nothing settles
pub ready_limit : (s : State) (h : List Told) (l : List Group) → Ready s h l → (k : ℕ) →
    Ready (settle (with_pass_limit s k)) (saying (limit k) (limited k ∷ []) ∷ h) l
ready_limit s h l y k =
    subst (λ t. Ready t (saying (limit k) (limited k ∷ []) ∷ h) l)
    (sym (settle-none (with_pass_limit s k) l y.hub.sequence_is y.first))
    (record {
      hub = hub-limit s k l y.hub;
      first = y.first;
      running-told = y.running-told;
      tells = y.tells;
      flying-told = y.flying-told;
      few_left = y.few_left;
      room = y.room;
    })

pub ready_seen : (s : State) (h : List Told) (l : List Group) → Ready s h l → {c : Call} {r : Result} → Seen s l c r →
    (m : List Group) × Ready r.state (saying c r.answers ∷ h) m
ready_seen s h l y {c = c} (is-refused r) = (l, untold s h l (saying c (refused r ∷ [])) refl y)
ready_seen s h l y (waits i a g b d condition j e n f) = (l, untold s h l (saying (turn i) (wait g.member.id j ∷ [])) refl y)
ready_seen s h l y (limits k e) = (l, ready_limit s h l y k)
ready_seen s h l y (moves {k = m} v) = (still_held m, ready_moves s h l y v)

-- the hub of an accepted opening
ready_new : (n k first : ℕ) → 0 < first → Ready (new_hub n k first) [] []
unfolding new_hub
ready_new n k first p = record {
  hub = record { sequence_is = refl; ids_ok = tt; marks = λ d. unmarked refl tt; nothing_left_all = tt; turns = tt; some_id = p };
  first = tt;
  running-told = λ i. refl;
  tells = tt;
  flying-told = λ i. refl;
  few_left = tt;
  room = omega arith;
}

pub ready_opened : (n k first : ℕ) (s : State) → open_of n k first ≡ opened s → Ready s [] []
ready_opened n k first s e = let o = opening n k first s e in subst (λ x. Ready x [] []) o.0 (ready_new n k first o.1)

-- after any calls
pub ready_calls : (s : State) (h : List Told) (l : List Group) → Ready s h l → (calls : List Call) →
    (m : List Group) × Ready (state_after s calls) (told_then h (calls_told s calls)) m
ready_calls s h l y [] = (l, y)
ready_calls s h l y (c ∷ calls) =
    let r = ready_seen s h l y (see s l y.hub.sequence_is c) in
    ready_calls (result_of s c).state (saying c (result_of s c).answers ∷ h) r.0 r.1 calls

-- ---- the pass limit that is told

gone_limit : (s : State) (d : ℕ) (l : List Group) (x : Answer) (n : ℕ) {r : Result} {lead : List Event} {k : List Group} →
    Gone s d l r lead k →
    limit_after_all (r.answers ++ (x ∷ [])) n ≡ limit_after x n
unfolding abort
gone_limit s d l x n (nobody q) = refl
gone_limit s d l x n (somebody a g b q f) = refl
gone_limit s d l x n (loses a g b q f m) = refl

limit_moves : (s : State) (l : List Group) {c : Call} {r : Result} {lead : List Event} {k : List Group} → Moves s l c r lead k → (n : ℕ) →
    limit_after_all r.answers n ≡ n
unfolding commit_turn send_turn done_report skip_report abort
limit_moves s l (places cs a b q e u p m) n = refl
limit_moves s l (commits i a g b e m r f q) n = refl
limit_moves s l (sends i a g b c e m r f q w u plain on) n = refl
limit_moves s l (passes i a g b c e m r f q w st u) n =
    by_answer (λ x. limit_after x n ≡ n) g.member.id refl refl refl st
limit_moves s l (dones i code a g b x e m r f q) n = refl
limit_moves s l (misses i a g b x e m r f) n = refl
limit_moves s l (aborts c a g b e r q) n = refl
limit_moves s l (fails d r lead k m u g) n = gone_limit _ d l _ n g
limit_moves s l (restarts d v r lead k m u g) n = gone_limit s d l _ n g

-- a call tells of the hub's pass limit, and only a new one changes it
limit_seen : (s : State) (l : List Group) {c : Call} {r : Result} → Seen s l c r →
    (limit_after_all r.answers s.pass_limit ≡ r.state.pass_limit) × (KeepsLimit c → (n : ℕ) → limit_after_all r.answers n ≡ n)
limit_seen s l (is-refused r) = (refl, λ _ n. refl)
limit_seen s l (waits i a g b d condition j e n f) = (refl, λ _ n. refl)
limit_seen s l (limits k e) = (sym (ap (λ (x : Fixed). x.pass_limit) (settle_fixed (with_pass_limit s k))), λ no n. absurd no)
limit_seen s l (moves {r = r} v) = (
  limit_moves s l v s.pass_limit ∙ sym (ap (λ (x : Fixed). x.pass_limit) (settle_fixed r.state) ∙ (fixed_moves s l v).0),
  λ _. limit_moves s l v,
)

pub limit-call : (s : State) (c : Call) → limit_after_all (result_of s c).answers s.pass_limit ≡ (result_of s c).state.pass_limit
limit-call s c = (limit_seen s _ (see_any s c)).0

pub limit-kept : (k m : ℕ) (s : State) (h : List Told) → limit_told k h ≡ m → (calls : List Call) → Each KeepsLimit calls →
    limit_told k (told_then h (calls_told s calls)) ≡ m
limit-kept k m s h e [] keeps = e
limit-kept k m s h e (c ∷ calls) keeps =
    limit-kept k m (result_of s c).state (saying c (result_of s c).answers ∷ h)
    (ap (limit_after_all (result_of s c).answers) e ∙ (limit_seen s _ (see_any s c)).1 keeps.0 m) calls keeps.1

-- the opening's
pub opened-limit : (n k first : ℕ) (s : State) → open_of n k first ≡ opened s → k ≡ s.pass_limit
unfolding new_hub
opened-limit n k first s e = ap (λ (x : State). x.pass_limit) (opening n k first s e).0
