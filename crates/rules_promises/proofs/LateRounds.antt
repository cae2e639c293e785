-- A schedule in which a routine needs all the rounds of the waiting promise, at any capacities: as many routines as may be held stand in a
-- row, each a condition and then best-efforts on one device, and in each round the first of the sequence gets its turn last. Only the first
-- goes on, a command a round and then its commit; the others wait. Proved, not computed. Assumes nothing.
--
-- In the lemmas k is the pass limit and x the next id; a row has n routines, with ids from i or j on, each passed p or q times; b are the
-- settled settings and f the marks; T and N are numbers of rounds.
use Rattle.rules_routine.specs.declared.refusals.Refusal.TheVariants.{PassLimitOutOfRange, SequenceFull, IdsUsedUp}
use Rattle.std.proofs.Common.{Option, None, Some, Ok}
use mathlib.Core.Path.{◌≡◌, refl, ap, ◌∙◌, subst}
use mathlib.Core.Bool.{Bool, true, false, not, ◌&&◌, ◌||◌}
use mathlib.Core.List.{List, [], ◌∷◌, ◌++◌, map}
use Prim.Native.Nat.{ℕ, zero, suc, ◌+◌, ◌-◌, ◌*◌, ◌<◌, ◌≤◌}
use native.Mathlib.Omega.{arith}
use borrow.Author.Tests.{eq-eqb, ne_eqb, eqb-true, eqb-false, le-ltb, lt-leb}
use lib.Dec.{eqb, leb, ltb}
use lib.IntN.{ℤ, pos}
use lib.Signed.{lt_z}
use lib.ListN.{replicate, length}
use Rattle.std.specs.Prelude.{if◌then◌else◌}
use Rattle.rules_routine.specs.Limits.{max_commands, highest_id, highest_pass_limit, max_sequence}
use Rattle.rules_routine.specs.declared.Command.{Command}
use Rattle.rules_routine.specs.Refusals.{refuse◌when◌, ◌and_then◌, Verdict}
use Rattle.rules_promises.proofs.RoundsExist.{state_on, sitting_limit}
use Rattle.rules.specs.Open.{opened, limit_check, open_of}
use Rattle.rules.specs.Limit.{with_pass_limit}
use Rattle.rules.specs.Tables.{any_of, put}
use Rattle.rules.specs.State.{Status, to-do, in_flight, was_done, was_held, Step, Member, State}
use Rattle.rules.specs.Answers.{unless_refused, Call, submit, turn, report, limit, placed}
use Rattle.rules.specs.Progress.{with_steps, is_left_on, next, next_is_skipped, Flight, flight, advance, answer_flight, with_status}
use Rattle.rules.specs.Due.{due, after_member, after_members}
use Rattle.rules.specs.Settle.{settling, settle_from}
use Rattle.rules.specs.Submit.{blocks, up_to_last, past_last, pass, submit_check, place}
use Rattle.rules.specs.Sequence.{last_id_or, Found, find, onto, runs, move_marks, with_sequence}
use Rattle.rules.specs.Turn.{has_set, commit, wait_or, first_holding, turn_found, turn_flight, turn_next, skip_turn}
use Rattle.rules.specs.Turn.{proceed_up, held_turn, not_held_turn, holds_up}
use Rattle.rules.specs.Report.{report_found, report_flight}
use Rattle.rules.specs.Calls.{result_of, state_after}
use Rattle.rules.specs.Rounds.{enough_rounds}
use Rattle.rules.proofs.Schedules.{has_flight, is_idle, is_flying, ids_with, reports_at, all_done, Sitting, opens_at, placed_state, calc_rounds}

-- one round fewer than are promised
abbrev pub all_but_one : ℕ → ℕ
all_but_one k = enough_rounds k - 1

-- ---- a routine: a condition, then best-efforts, all on one device

abbrev pub condition : Command
condition = record { device = 0; tag = 2; setting = pos 0 }

abbrev pub sets : Command
sets = record { device = 0; tag = 1; setting = pos 1 }

abbrev pub asking : List Command
asking = condition ∷ replicate (max_commands - 1) sets

-- the ids with a turn, the first of the sequence last
abbrev pub late_ids : List Member → List ℕ
late_ids [] = []
late_ids (m ∷ l) = ids_with is_idle l ++ ids_with is_idle (m ∷ [])

abbrev pub late_turns : State → List Call
late_turns s = map turn (late_ids s.sequence)

abbrev pub late_round : State → State
late_round s = let u = state_after s (late_turns s) in state_after u (reports_at all_done u)

abbrev pub late_state : ℕ → State → State
late_state zero s = s
late_state (suc n) s = late_state n (late_round s)

-- the calls of n such rounds
abbrev pub late_calls : ℕ → State → List Call
late_calls zero s = []
late_calls (suc n) s =
    let u = state_after s (late_turns s) in
    late_turns s ++ (reports_at all_done u ++ late_calls n (state_after u (reports_at all_done u)))

pub late-state : (n : ℕ) (s : State) → state_after s (late_calls n s) ≡ late_state n s
late-state zero s = refl
late-state (suc n) s =
    let u = state_after s (late_turns s) in
    let v = state_after u (reports_at all_done u) in
    state_on s (late_turns s) (reports_at all_done u ++ late_calls n v) ∙ state_on u (reports_at all_done u) (late_calls n v) ∙ late-state n v

-- the rounds that a routine takes once it is the first
abbrev pub rounds_each : ℕ
rounds_each = max_commands + 1

-- c newcomers, each with the rounds that it takes; then n rounds
abbrev pub refill : ℕ → ℕ → State → List Call
refill zero n s = late_calls n s
refill (suc c) n s =
    let t = (result_of s (submit asking)).state in
    submit asking ∷ (late_calls rounds_each t ++ refill c n (state_after t (late_calls rounds_each t)))

-- ---- its steps: behind the condition a done ones (`part`), then k to do (`left`)

abbrev to_do : Step
to_do = record { command = sets; status = to-do }

abbrev ended : Step
ended = record { command = sets; status = was_done }

abbrev flies : ℤ → Step
flies u = record { command = sets; status = in_flight u }

abbrev part : ℕ → List Step → List Step
part zero r = r
part (suc a) r = ended ∷ part a r

abbrev left : ℕ → List Step
left zero = []
left (suc k) = to_do ∷ left k

abbrev asked_step : Status → Step
asked_step st = record { command = condition; status = st }

part_on : (a : ℕ) (r : List Step) → part a (ended ∷ r) ≡ part (suc a) r
part_on zero r = refl
part_on (suc a) r = ap (λ l. ended ∷ l) (part_on a r)

part_next : (a : ℕ) (r : List Step) → next (part a (to_do ∷ r)) ≡ Some sets
part_next zero r = refl
part_next (suc a) r = part_next a r

part_end : (a : ℕ) → next (part a []) ≡ None
part_end zero = refl
part_end (suc a) = part_end a

part_goes : (a : ℕ) (r : List Step) → next_is_skipped false (part a (to_do ∷ r)) ≡ false
part_goes zero r = refl
part_goes (suc a) r = part_goes a r

left_quiet : (k : ℕ) → flight (left k) ≡ None
left_quiet zero = refl
left_quiet (suc k) = left_quiet k

part_quiet : (a k : ℕ) → flight (part a (left k)) ≡ None
part_quiet zero k = left_quiet k
part_quiet (suc a) k = part_quiet a k

part_left : (a : ℕ) (r : List Step) → any_of (is_left_on 0) (part a (to_do ∷ r)) ≡ true
part_left zero r = refl
part_left (suc a) r = part_left a r

part_sends : (a : ℕ) (st : Status) (r : List Step) → advance st (part a (to_do ∷ r)) ≡ part a (with_status st to_do ∷ r)
part_sends zero st r = refl
part_sends (suc a) st r = ap (λ l. ended ∷ l) (part_sends a st r)

part_flies : (a : ℕ) (u : ℤ) (r : List Step) → flight (part a (flies u ∷ r)) ≡ Some (record { command = sets; due_then = u })
part_flies zero u r = refl
part_flies (suc a) u r = part_flies a u r

part_done : (a : ℕ) (u : ℤ) (r : List Step) → answer_flight was_done (part a (flies u ∷ r)) ≡ part a (ended ∷ r)
part_done zero u r = refl
part_done (suc a) u r = ap (λ l. ended ∷ l) (part_done a u r)

part_none : (a : ℕ) → any_of (is_left_on 0) (part a []) ≡ false
part_none zero = refl
part_none (suc a) = part_none a

-- ---- routines in a row, none of them begun

abbrev member : ℕ → ℕ → List Step → Member
member p i l = record { id = i; steps = l; passed = p; committed = false; restarts = λ d. None }

abbrev pub waiter : ℕ → ℕ → Member
waiter p i = member p i (asked_step to-do ∷ left (max_commands - 1))

abbrev pub row : ℕ → ℕ → ℕ → List Member
row p i zero = []
row p i (suc n) = waiter p i ∷ row p (suc i) n

abbrev ids_from : ℕ → ℕ → List ℕ
ids_from i zero = []
ids_from i (suc n) = i ∷ ids_from (suc i) n

row_idle : (p i n : ℕ) → ids_with is_idle (row p i n) ≡ ids_from i n
unfolding calc_rounds
row_idle p i zero = refl
row_idle p i (suc n) = ap (λ l. i ∷ l) (row_idle p (suc i) n)

row_still : (p i n : ℕ) → ids_with is_flying (row p i n) ≡ []
unfolding calc_rounds
row_still p i zero = refl
row_still p i (suc n) = row_still p (suc i) n

row_due : (p i n : ℕ) (v : ℤ) → after_members 0 (row p i n) v ≡ v
unfolding calc_rounds
row_due p i zero v = refl
row_due p i (suc n) v = row_due p (suc i) n v

row_settles : (s : State) (p i n : ℕ) → settle_from s (row p i n) ≡ with_sequence s (row p i n)
row_settles s p i zero = refl
row_settles s p i (suc n) = refl

find-here : (m : Member) (l : List Member) (i : ℕ) → runs i m ≡ true →
    find (runs i) (m ∷ l) ≡ Some (record { ahead = []; it = m; behind = l })
find-here m l i e = ap (λ (t : Bool). if t then Some (record { ahead = []; it = m; behind = l }) else onto m (find (runs i) l)) e

find-later : (m : Member) (l : List Member) (i : ℕ) → runs i m ≡ false → find (runs i) (m ∷ l) ≡ onto m (find (runs i) l)
find-later m l i e = ap (λ (t : Bool). if t then Some (record { ahead = []; it = m; behind = l }) else onto m (find (runs i) l)) e

runs-it : (m : Member) → m.committed ≡ false → runs m.id m ≡ true
unfolding calc_rounds
runs-it m e = ap (λ (t : Bool). t && not m.committed) (eq-eqb m.id m.id refl) ∙ ap not e

runs-not : (m : Member) (i : ℕ) → eqb m.id i ≡ false → runs i m ≡ false
unfolding calc_rounds
runs-not m i e = ap (λ (t : Bool). t && not m.committed) e

-- it is found in the row
abbrev InRow : ℕ → ℕ → ℕ → ℕ → Type 0
InRow p j n i =
    (a b : List Member) × (find (runs i) (row p j n) ≡ Some (record { ahead = a; it = waiter p i; behind = b }))

row_step : (p j n i : ℕ) (t : Bool) → eqb j i ≡ t → (eqb j i ≡ false → InRow p (suc j) n i) → InRow p j (suc n) i
row_step p j n i true e later =
    subst (λ i. InRow p j (suc n) i) (eqb-true j i e)
    ([], row p (suc j) n, find-here (waiter p j) (row p (suc j) n) j (runs-it (waiter p j) refl))
row_step p j n i false e later =
    let r = later e in (
      waiter p j ∷ r.0,
      r.1,
      find-later (waiter p j) (row p (suc j) n) i (runs-not (waiter p j) i e) ∙ ap (onto (waiter p j)) r.2,
    )

row_finds : (p j n i : ℕ) → j ≤ i → i < j + n → InRow p j n i
row_finds p j zero i x y = absurd (omega arith)
row_finds p j (suc n) i x y =
    row_step p j n i (eqb j i) refl
    (λ e.
    let ne = eqb-false j i e in
    let far : suc j ≤ i = omega (arith, ne) in
    row_finds p (suc j) n i far (omega arith))

-- ---- a hub of one device, up

abbrev pub hub : ℕ → ℕ → List Member → (ℕ → ℤ) → (ℕ → ℕ) → State
hub k x l b f = record { devices = 1; pass_limit = k; next_id = x; sequence = l; settled_at = b; up = λ d. true; mark = f }

-- those behind wait for the first
module _ (k x : ℕ) (m : Member) (p j n : ℕ) (b : ℕ → ℤ) (f : ℕ → ℕ) (apart : (i : ℕ) → j ≤ i → i < j + n → eqb m.id i ≡ false)
    (holding : holds_up 0 true m ≡ true) where
  one-waits : (i : ℕ) → j ≤ i → i < j + n →
      (result_of (hub k x (m ∷ row p j n) b f) (turn i)).state ≡ hub k x (m ∷ row p j n) b f
  unfolding calc_rounds
  one-waits i y z =
      let s = hub k x (m ∷ row p j n) b f in
      let r = row_finds p j n i y z in
      let g : Found = record { ahead = m ∷ r.0; it = waiter p i; behind = r.1 } in
      ap (λ o. (turn_found s o).state) (find-later m (row p j n) i (runs-not m i (apart i y z)) ∙ ap (onto m) r.2)
      ∙ ap (λ (t : Bool). (wait_or s g condition (if t then Some m.id else first_holding 0 true r.0)).state) holding

  all_wait : (i c : ℕ) → j ≤ i → i + c ≤ j + n →
      state_after (hub k x (m ∷ row p j n) b f) (map turn (ids_from i c)) ≡ hub k x (m ∷ row p j n) b f
  all_wait i zero y z = refl
  all_wait i (suc c) y z =
      ap (λ s. state_after s (map turn (ids_from (suc i) c))) (one-waits i y (omega arith)) ∙ all_wait (suc i) c (omega arith) (omega arith)

  -- so a round is a turn of the first, and a report on it
  others-wait : state_after (hub k x (m ∷ row p j n) b f) (map turn (ids_with is_idle (row p j n))) ≡ hub k x (m ∷ row p j n) b f
  others-wait =
      ap (λ l. state_after (hub k x (m ∷ row p j n) b f) (map turn l)) (row_idle p j n) ∙ all_wait j n (omega arith) (omega arith)

state_both : (s : State) (a b : List ℕ) → state_after s (map turn (a ++ b)) ≡ state_after (state_after s (map turn a)) (map turn b)
state_both s [] b = refl
state_both s (i ∷ a) b = state_both (result_of s (turn i)).state a b

-- the half with the turns, and that with the reports
late-turns : (k x : ℕ) (m : Member) (p j n : ℕ) (b : ℕ → ℤ) (f : ℕ → ℕ) → ((i : ℕ) → j ≤ i → i < j + n → eqb m.id i ≡ false) →
    holds_up 0 true m ≡ true → m.committed ≡ false → flight m.steps ≡ None →
    let s = hub k x (m ∷ row p j n) b f in
    state_after s (late_turns s) ≡ (turn_next s (record { ahead = []; it = m; behind = row p j n }) (next m.steps)).state
unfolding calc_rounds
late-turns k x m p j n b f apart holding running quiet =
    let s = hub k x (m ∷ row p j n) b f in
    let g : Found = record { ahead = []; it = m; behind = row p j n } in
    state_both s (ids_with is_idle (row p j n)) (ids_with is_idle (m ∷ []))
    ∙ ap (λ s. state_after s (map turn (ids_with is_idle (m ∷ [])))) (others-wait k x m p j n b f apart holding)
    ∙ ap (λ (t : Bool). state_after s (map turn (if not t && not (has_flight (flight m.steps)) then m.id ∷ [] else []))) running
    ∙ ap (λ (t : Option Flight). state_after s (map turn (if not (has_flight t) then m.id ∷ [] else []))) quiet
    ∙ ap (λ o. (turn_found s o).state) (find-here m (row p j n) m.id (runs-it m running))
    ∙ ap (λ o. (turn_flight s g o).state) quiet

module _ (k x : ℕ) (m : Member) (p j n : ℕ) (b : ℕ → ℤ) (f : ℕ → ℕ) (running : m.committed ≡ false) where
  no_report : flight m.steps ≡ None →
      let u = hub k x (m ∷ row p j n) b f in
      state_after u (reports_at all_done u) ≡ u
  unfolding calc_rounds
  no_report quiet =
      let u = hub k x (m ∷ row p j n) b f in
      let ids = ids_with is_flying (row p j n) in
      ap (λ (t : Bool). state_after u (map (λ i. report i 0) (if not t && has_flight (flight m.steps) then m.id ∷ ids else ids))) running
      ∙ ap (λ (t : Option Flight). state_after u (map (λ i. report i 0) (if has_flight t then m.id ∷ ids else ids))) quiet
      ∙ ap (λ l. state_after u (map (λ i. report i 0) l)) (row_still p j n)

  one-report : (y : Flight) → flight m.steps ≡ Some y →
      let u = hub k x (m ∷ row p j n) b f in
      state_after u (reports_at all_done u)
      ≡ (let l = with_steps m (answer_flight was_done m.steps) ∷ row p j n in settle_from (hub k x l b f) l)
  unfolding calc_rounds
  one-report y flying =
      let u = hub k x (m ∷ row p j n) b f in
      let ids = ids_with is_flying (row p j n) in
      let g : Found = record { ahead = []; it = m; behind = row p j n } in
      ap (λ (t : Bool). state_after u (map (λ i. report i 0) (if not t && has_flight (flight m.steps) then m.id ∷ ids else ids))) running
      ∙ ap (λ (t : Option Flight). state_after u (map (λ i. report i 0) (if has_flight t then m.id ∷ ids else ids))) flying
      ∙ ap (λ l. state_after u (map (λ i. report i 0) (m.id ∷ l))) (row_still p j n)
      ∙ ap (λ o. (report_found u 0 o).state) (find-here m (row p j n) m.id (runs-it m running))
      ∙ ap (λ o. (report_flight u g 0 o).state) flying

-- ---- the rounds of the first: its condition, each command, its commit

module _ (k x p i q j n : ℕ) (apart : (h : ℕ) → j ≤ h → h < j + n → eqb i h ≡ false) where
  abbrev first : List Step → (ℕ → ℤ) → (ℕ → ℕ) → State
  first l b f = hub k x (member p i l ∷ row q j n) b f

  ask_round : (b : ℕ → ℤ) (f : ℕ → ℕ) → lt_z (b 0) (pos 0) ≡ false →
      late_round (first (asked_step to-do ∷ left (max_commands - 1)) b f) ≡ first (asked_step was_held ∷ left (max_commands - 1)) b (put f 0 i)
  unfolding calc_rounds
  ask_round b f e =
      let m = waiter p i in
      let s = first (asked_step to-do ∷ left (max_commands - 1)) b f in
      let g : Found = record { ahead = []; it = m; behind = row q j n } in
      ap (λ u. state_after u (reports_at all_done u)) (late-turns k x m q j n b f apart refl refl refl
      ∙ ap (λ v. (if not (lt_z v (pos 0)) then settling (held_turn s g condition) else settling (not_held_turn s g condition)).state)
      (row_due q j n (b 0))
      ∙ ap (λ (t : Bool). (if not t then settling (held_turn s g condition) else settling (not_held_turn s g condition)).state) e)
      ∙ no_report k x (member p i (asked_step was_held ∷ left (max_commands - 1))) q j n b (put f 0 i) refl refl

  send_round : (a r : ℕ) (b : ℕ → ℤ) (f : ℕ → ℕ) →
      late_round (first (asked_step was_held ∷ part a (left (suc r))) b f) ≡ first (asked_step was_held ∷ part (suc a) (left r)) b f
  unfolding calc_rounds
  send_round a r b f =
      let l = asked_step was_held ∷ part a (left (suc r)) in
      let m = member p i l in
      let s = first l b f in
      let g : Found = record { ahead = []; it = m; behind = row q j n } in
      let u = due s 0 in
      let sent = asked_step was_held ∷ part a (flies u ∷ left r) in
      ap (λ u. state_after u (reports_at all_done u)) (
      late-turns k x m q j n b f apart
      (ap (λ (t : Bool). not (not t) || has_set 0 m) (part_left a (left r))) refl (part_quiet a (suc r))
      ∙ ap (λ o. (turn_next s g o).state) (part_next a (left r))
      ∙ ap (λ (t : Bool). (if t then settling (skip_turn s g sets) else proceed_up s g sets).state) (part_goes a (left r))
      ∙ ap (λ l. first (asked_step was_held ∷ l) b f) (part_sends a (in_flight u) (left r)))
      ∙ one-report k x (member p i sent) q j n b f refl (record { command = sets; due_then = u }) (part_flies a u (left r))
      ∙ ap (λ l. first (asked_step was_held ∷ l) b f) (part_done a u (left r) ∙ part_on a (left r))

  abbrev settled_by : ℕ → (ℕ → ℤ) → ℕ → ℤ
  settled_by a b d = after_member d (commit (member p i (asked_step was_held ∷ part a []))) (b d)

  commit_round : (a : ℕ) (b : ℕ → ℤ) (f : ℕ → ℕ) →
      late_round (first (asked_step was_held ∷ part (suc a) []) b f)
      ≡ hub k x (row q j n) (settled_by (suc a) b) (move_marks i 0 f)
  unfolding calc_rounds
  commit_round a b f =
      let l = asked_step was_held ∷ part (suc a) [] in
      let m = member p i l in
      let s = first l b f in
      let g : Found = record { ahead = []; it = m; behind = row q j n } in
      let end = hub k x (row q j n) (settled_by (suc a) b) (move_marks i 0 f) in
      ap (λ u. state_after u (reports_at all_done u)) (
      late-turns k x m q j n b f apart
      (ap (λ (t : Bool). not (not t) || true) (part_none a)) refl (part_quiet a 0)
      ∙ ap (λ o. (turn_next s g o).state) (part_end a)
      ∙ row_settles (hub k x (commit m ∷ row q j n) (settled_by (suc a) b) (move_marks i 0 f)) q j n)
      ∙ ap (λ l. state_after end (map (λ i. report i 0) l)) (row_still q j n)

  -- r commands, then N rounds
  works : (a r N T c : ℕ) (b : ℕ → ℤ) (f : ℕ → ℕ) → T ≡ r + N → c ≡ r + a →
      late_state T (first (asked_step was_held ∷ part a (left r)) b f)
      ≡ late_state N (first (asked_step was_held ∷ part c []) b f)
  works a zero N T c b f t e =
      let t' : T ≡ N = omega arith in
      let e' : a ≡ c = omega arith in
      ap (λ t. late_state t (first (asked_step was_held ∷ part a []) b f)) t'
      ∙ ap (λ c. late_state N (first (asked_step was_held ∷ part c []) b f)) e'
  works a (suc r) N T c b f t e =
      let t' : T ≡ suc (r + N) = omega arith in
      ap (λ t. late_state t (first (asked_step was_held ∷ part a (left (suc r))) b f)) t'
      ∙ ap (late_state (r + N)) (send_round a r b f) ∙ works (suc a) r N (r + N) c b f refl (omega arith)

  -- it has done all, and is not committed
  all-done : (N T : ℕ) (b : ℕ → ℤ) (f : ℕ → ℕ) → T ≡ max_commands + N → lt_z (b 0) (pos 0) ≡ false →
      late_state T (first (asked_step to-do ∷ left (max_commands - 1)) b f)
      ≡ late_state N (first (asked_step was_held ∷ part (max_commands - 1) []) b (put f 0 i))
  all-done N T b f t e =
      let t' : T ≡ suc (max_commands - 1 + N) = omega arith in
      ap (λ t. late_state t (first (asked_step to-do ∷ left (max_commands - 1)) b f)) t'
      ∙ ap (late_state (max_commands - 1 + N)) (ask_round b f e)
      ∙ works 0 (max_commands - 1) N (max_commands - 1 + N) (max_commands - 1) b (put f 0 i) refl (omega arith)

  -- it is gone
  period : (N T : ℕ) (b : ℕ → ℤ) (f : ℕ → ℕ) → T ≡ max_commands + 1 + N → lt_z (b 0) (pos 0) ≡ false →
      late_state T (first (asked_step to-do ∷ left (max_commands - 1)) b f)
      ≡ late_state N (hub k x (row q j n) (settled_by (max_commands - 1) b) (move_marks i 0 (put f 0 i)))
  period N T b f t e = all-done (suc N) T b f (omega arith) e ∙ ap (late_state N) (commit_round (max_commands - 2) b (put f 0 i))

  set-after : (b : ℕ → ℤ) → lt_z (settled_by (max_commands - 1) b 0) (pos 0) ≡ false
  unfolding calc_rounds
  set-after b = refl

-- ---- one after another

abbrev Reached : ℕ → ℕ → ℕ → ℕ → ℕ → ℕ → State → Type 0
Reached k x p i n N s =
    (b : ℕ → ℤ) × (f : ℕ → ℕ) × (lt_z (b 0) (pos 0) ≡ false) × (s ≡ late_state N (hub k x (row p i n) b f))

ahead_apart : (i n : ℕ) → (h : ℕ) → suc i ≤ h → h < suc i + n → eqb i h ≡ false
ahead_apart i n h y z = ne_eqb i h (λ e. absurd (omega (arith, e)))

-- c of the row are gone
rows : (k x p c i j n r N T : ℕ) (b : ℕ → ℤ) (f : ℕ → ℕ) → lt_z (b 0) (pos 0) ≡ false → j ≡ i + c → r ≡ c + n →
    T ≡ (max_commands + 1) * c + N → Reached k x p j n N (late_state T (hub k x (row p i r) b f))
rows k x p zero i j n r N T b f e y z t =
    let y' : i ≡ j = omega arith in
    let z' : r ≡ n = omega arith in
    let t' : T ≡ N = omega arith in (
      b,
      f,
      e,
      ap (λ t. late_state t (hub k x (row p i r) b f)) t' ∙ ap (λ r. late_state N (hub k x (row p i r) b f)) z'
          ∙ ap (λ i. late_state N (hub k x (row p i n) b f)) y',
    )
rows k x p (suc c) i j n r N T b f e y z t =
    let z' : r ≡ suc (c + n) = omega arith in
    let M = (max_commands + 1) * c + N in
    let b' = settled_by k x p i p (suc i) (c + n) (ahead_apart i (c + n)) (max_commands - 1) b in
    let f' = move_marks i 0 (put f 0 i) in
    let v = rows k x p c (suc i) j n (c + n) N M b' f' (set-after k x p i p (suc i) (c + n) (ahead_apart i (c + n)) b)
    (omega arith) refl refl in (
      v.0,
      v.1,
      v.2,
      ap (λ r. late_state T (hub k x (row p i r) b f)) z'
          ∙ period k x p i p (suc i) (c + n) (ahead_apart i (c + n)) M T b f (omega arith) e ∙ v.3,
    )

-- the last of n + 1 still runs, one round before the end
last_runs : (k x p i j n T : ℕ) (b : ℕ → ℤ) (f : ℕ → ℕ) → lt_z (b 0) (pos 0) ≡ false → j ≡ i + n → T ≡ (max_commands + 1) * n + max_commands →
    any_of (runs j) (late_state T (hub k x (row p i (suc n)) b f)).sequence ≡ true
last_runs k x p i j n T b f e y t =
    let v = rows k x p n i j 1 (suc n) max_commands T b f e y (omega arith) t in
    let apart : (h : ℕ) → suc j ≤ h → h < suc j + 0 → eqb j h ≡ false = λ h y z. absurd (omega arith) in
    let m = member p j (asked_step was_held ∷ part (max_commands - 1) []) in
    ap (λ (s : State). any_of (runs j) s.sequence)
    (v.3 ∙ all-done k x p j p (suc j) 0 apart 0 max_commands v.0 v.1 (omega arith) v.2)
    ∙ ap (λ (t : Bool). t || false) (runs-it m refl)

abbrev pub in_row : Sitting
in_row = record {
  pass_limit = 0;
  before = replicate (max_sequence - 1) (submit asking);
  commands = asking;
  id = max_sequence;
  follows = max_sequence - 1;
  newcomers = [];
}

placed_row : placed_state in_row ≡ hub 0 (suc max_sequence) (row 0 1 max_sequence) (λ d. pos 0) (λ d. 0)
unfolding calc_rounds
placed_row = refl

pub in_row_runs : any_of (runs in_row.id) (late_state (all_but_one 0) (placed_state in_row)).sequence ≡ true
in_row_runs =
    ap (λ s. any_of (runs in_row.id) (late_state (all_but_one 0) s).sequence) placed_row
    ∙ last_runs 0 (suc max_sequence) 0 1 max_sequence (max_sequence - 1) (all_but_one 0) (λ d. pos 0) (λ d. 0) refl (omega arith) (omega arith)

-- ---- newcomers ahead of a row

row_length : (p i n : ℕ) → length (row p i n) ≡ n
row_length p i zero = refl
row_length p i (suc n) = ap suc (row_length p (suc i) n)

row_passed : (p i n : ℕ) → map pass (row p i n) ≡ row (suc p) i n
unfolding calc_rounds
row_passed p i zero = refl
row_passed p i (suc n) = ap (λ l. waiter (suc p) i ∷ l) (row_passed p (suc i) n)

free-past : (q : Member → Bool) (l : List Member) → any_of q l ≡ false → past_last q l ≡ l
free-past q [] e = refl
free-past q (m ∷ l) e = ap (λ (t : Bool). if t then past_last q l else m ∷ l) e

free-up_to : (q : Member → Bool) (l : List Member) → any_of q l ≡ false → up_to_last q l ≡ []
free-up_to q [] e = refl
free-up_to q (m ∷ l) e = ap (λ (t : Bool). if t then m ∷ up_to_last q l else []) e

module _ (k x p : ℕ) (b : ℕ → ℤ) (f : ℕ → ℕ) (mark-0 : f 0 ≡ 0) (fewer : p < k) where
  none-blocks : (whole : List Member) (i n : ℕ) → 1 ≤ i → any_of (blocks (hub k x whole b f) asking) (row p i n) ≡ false
  unfolding calc_rounds
  none-blocks whole i zero y = refl
  none-blocks whole i (suc n) y =
      let no : eqb 0 i ≡ false = ne_eqb 0 i (λ e. absurd (omega (arith, e))) in
      let rest = any_of (blocks (hub k x whole b f) asking) (row p (suc i) n) in
      ap (λ (t : Bool). (any_of (λ c. t) asking || leb k p) || rest) (ap (λ h. eqb h i) mark-0 ∙ no)
      ∙ ap (λ (t : Bool). t || rest) (lt-leb k p fewer) ∙ none-blocks whole (suc i) n (omega arith)

  -- it is placed first
  goes_first : (i n : ℕ) → 1 ≤ i → n < max_sequence → x ≤ highest_id →
      (result_of (hub k x (row p i n) b f) (submit asking)).state ≡ hub k (suc x) (waiter 0 x ∷ row (suc p) i n) b f
  unfolding calc_rounds
  goes_first i n y z w =
      let l = row p i n in
      let s = hub k x l b f in
      let free = none-blocks l i n y in
      let check : submit_check s asking ≡ (Ok tt) =
      ap (λ c. refuse SequenceFull when leb max_sequence c and_then refuse IdsUsedUp when ltb highest_id x) (row_length p i n)
      ∙ ap (λ (t : Bool). refuse SequenceFull when t and_then refuse IdsUsedUp when ltb highest_id x) (lt-leb max_sequence n z)
      ∙ ap (λ (t : Bool). refuse IdsUsedUp when t) (le-ltb highest_id x w) in
      let at : place s asking ≡ hub k (suc x) (waiter 0 x ∷ row (suc p) i n) b f =
      ap (λ a. hub k (suc x) (a ++ (waiter 0 x ∷ map pass (past_last (blocks s asking) l))) b f) (free-up_to (blocks s asking) l free)
      ∙ ap (λ a. hub k (suc x) (waiter 0 x ∷ map pass a) b f) (free-past (blocks s asking) l free)
      ∙ ap (λ a. hub k (suc x) (waiter 0 x ∷ a) b f) (row_passed p i n) in
      ap (λ (v : Verdict). (unless_refused v s
      (settling (record { state = place s asking; answers = placed x (last_id_or 0 (up_to_last (blocks s asking) l)) ∷ [] }))).state) check
      ∙ ap (λ s. settle_from s s.sequence) at

mark_gone : (i : ℕ) (f : ℕ → ℕ) → move_marks i 0 (put f 0 i) 0 ≡ 0
unfolding calc_rounds
mark_gone i f = ap (λ (t : Bool). if t then 0 else i) (eq-eqb i i refl)

-- with c newcomers ahead of a row that has been passed p times, the last of the row still runs, one round before the end
refill_runs : (k c p x r j T : ℕ) (b : ℕ → ℤ) (f : ℕ → ℕ) → f 0 ≡ 0 → lt_z (b 0) (pos 0) ≡ false → p + c ≡ k → 3 + r ≤ x →
    suc r < max_sequence → x + c ≤ highest_id → j ≡ 2 + r → T ≡ (max_commands + 1) * r + max_commands →
    let s = hub k x (row p 2 (suc r)) b f in
    any_of (runs j) (state_after s (refill c T s)).sequence ≡ true
refill_runs k zero p x r j T b f z e u v w h y t =
    ap (λ (s : State). any_of (runs j) s.sequence) (late-state T (hub k x (row p 2 (suc r)) b f))
    ∙ last_runs k x p 2 j r T b f e y t
refill_runs k (suc c) p x r j T b f z e u v w h y t =
    let s = hub k x (row p 2 (suc r)) b f in
    let n = (result_of s (submit asking)).state in
    let far : (h : ℕ) → 2 ≤ h → h < 2 + suc r → eqb x h ≡ false = λ h y z. ne_eqb x h (λ e. absurd (omega (arith, e))) in
    let b' = settled_by k (suc x) 0 x (suc p) 2 (suc r) far (max_commands - 1) b in
    let f' = move_marks x 0 (put f 0 x) in
    let gone : state_after n (late_calls rounds_each n) ≡ hub k (suc x) (row (suc p) 2 (suc r)) b' f' =
    late-state rounds_each n ∙ ap (late_state rounds_each) (goes_first k x p b f z (omega arith) 2 (suc r) (omega arith) w (omega arith))
    ∙ period k (suc x) 0 x (suc p) 2 (suc r) far 0 rounds_each b f (omega arith) e in
    ap (λ (s : State). any_of (runs j) s.sequence)
    (state_on n (late_calls rounds_each n) (refill c T (state_after n (late_calls rounds_each n))))
    ∙ ap (λ s. any_of (runs j) (state_after s (refill c T s)).sequence) gone
    ∙ refill_runs k c (suc p) (suc x) r j T b' f' (mark_gone x f) (set-after k (suc x) 0 x (suc p) 2 (suc r) far b) (omega arith)
    (omega arith)
    w (omega arith) y t

-- ---- with any pass limit

-- K becomes k; the first of the row goes; k newcomers, which pass the others; then these
abbrev pub filled : ℕ → ℕ → State → List Call
filled k n s = late_calls rounds_each s ++ refill k n (state_after s (late_calls rounds_each s))

abbrev pub raised_row : ℕ → State
raised_row k = (result_of (placed_state in_row) (limit k)).state

-- how many rounds are left when the newcomers are gone, but one
abbrev pub last_rounds : ℕ
last_rounds = (max_commands + 1) * (max_sequence - 1) - 1

pub limit_ok : (k : ℕ) → k ≤ highest_pass_limit → limit_check k ≡ Ok tt
unfolding calc_rounds
limit_ok k y = ap (λ (t : Bool). refuse PassLimitOutOfRange when t) (le-ltb highest_pass_limit k y)

pub in_row_opens : open_of 1 in_row.pass_limit 1 ≡ opened (opens_at in_row)
unfolding calc_rounds
in_row_opens = refl

pub filled_runs : (k : ℕ) → k ≤ highest_pass_limit →
    any_of (runs in_row.id) (state_after (raised_row k) (filled k last_rounds (raised_row k))).sequence ≡ true
filled_runs k y =
    let b : ℕ → ℤ = λ d. pos 0 in
    let f : ℕ → ℕ = λ d. 0 in
    let x = suc max_sequence in
    let far = ahead_apart 1 (max_sequence - 1) in
    let is : raised_row k ≡ hub k x (row 0 1 max_sequence) b f =
    sitting_limit in_row in_row_opens [] k (limit_ok k y) ∙ ap (λ s. with_pass_limit s k) placed_row in
    let b' = settled_by k x 0 1 0 2 (max_sequence - 1) far (max_commands - 1) b in
    let f' = move_marks 1 0 (put f 0 1) in
    let gone : state_after (raised_row k) (late_calls rounds_each (raised_row k)) ≡ hub k x (row 0 2 (max_sequence - 1)) b' f' =
    late-state rounds_each (raised_row k) ∙ ap (late_state rounds_each) is
    ∙ period k x 0 1 0 2 (max_sequence - 1) far 0 rounds_each b f (omega arith) refl in
    ap (λ (s : State). any_of (runs in_row.id) s.sequence)
    (state_on (raised_row k) (late_calls rounds_each (raised_row k))
    (refill k last_rounds (state_after (raised_row k) (late_calls rounds_each (raised_row k)))))
    ∙ ap (λ s. any_of (runs in_row.id) (state_after s (refill k last_rounds s)).sequence) gone
    ∙ refill_runs k k 0 x (max_sequence - 2) in_row.id last_rounds b' f' (mark_gone 1 f) (set-after k x 0 1 0 2 (max_sequence - 1) far b)
    (omega arith)
    (omega arith) (omega arith) (omega arith) (omega arith) (omega arith)
