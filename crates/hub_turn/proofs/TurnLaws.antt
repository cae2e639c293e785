-- Laws that the proofs of this crate cite. Assumes nothing.
use Rattle.rules_routine.specs.declared.refusals.Refusal.TheVariants.{NotRunning, TurnInFlight}
use Rattle.std.proofs.Common.{Option, None, Some}
use mathlib.Core.Path.{◌≡◌, refl, sym, ap, ◌∙◌, subst}
use mathlib.Core.Logic.{◌≢◌}
use mathlib.Core.Bool.{Bool, true, false, cond, not, ◌&&◌, and-false}
use mathlib.Core.List.{List, [], ◌∷◌}
use Prim.Native.Nat.{ℕ, suc, ◌+◌, ◌-◌, ◌*◌, ◌<◌, ◌≤◌}
use native.Mathlib.Omega.{arith}
use borrow.Author.Tests.{eq-eqb, ne_eqb, lt-ltb, le-ltb}
use lib.Dec.{eqb, ltb}
use lib.IntN.{ℤ, pos}
use lib.ListN.{get_or}
use lib.Signed.{lt_z}
use Rattle.std.specs.Prelude.{if◌then◌else◌}
use Rattle.rules_routine.specs.Limits.{max_devices, max_commands}
use Rattle.rules_routine.specs.Routine.{must_tag, condition_tag, is_condition}
use Rattle.rules_routine.specs.declared.Command.{Command}
use Rattle.rules.specs.State.{Status, in_flight, was_skipped, was_held, was_not_held, Member, State}
use Rattle.rules.specs.Tables.{put}
use Rattle.rules.specs.Answers.{Answer as Told, Result, wait, send, skipped, held, not_held, committed}
use Rattle.rules.specs.Progress.{is_to_do, begun, next, commands_in, counts_as_must, next_counts_as_must, counts_as_not_held, skips_next, next_is_skipped}
use Rattle.rules.specs.Progress.{flight, Flight, advance, with_steps}
use Rattle.rules.specs.Due.{due}
use Rattle.rules.specs.Sequence.{Found, runs, with_mark, change}
use Rattle.rules.specs.Abort.{abort}
use Rattle.rules.specs.Settle.{settling}
use Rattle.rules.specs.Turn.{first_holding, mark_begun, commit_turn, next_becomes, send_turn, skip_turn, is_held, held_turn, not_held_turn}
use Rattle.rules.specs.Turn.{proceed_up, proceed, wait_or, turn_next, turn_flight, turn_found, turn_of}
use Rattle.hub_sequence.specs.Links.{Stands}
use Rattle.hub_sequence.proofs.Tables.{by_eq, by_less}
use Rattle.hub_state.specs.View.{in_flight_code, done_code, skipped_code, held_code, not_held_code, status_of, rows_of, step_at, steps_from, steps_at}
use Rattle.hub_state.specs.View.{member_at, state_of, there}
use Rattle.hub_state.specs.Unanswered.{answered_at, due_then_at, command_at, skips_after, AllAnswered, NextToDo, NextInFlight}
use Rattle.hub_state.specs.Contract.{set_status, staged, committed_at, StageOk, plainly, Decides}
use Rattle.hub_state.specs.declared.HubState.{HubState}
use Rattle.hub_state.specs.declared.Staged.{Staged}
use Rattle.hub_state.specs.declared.Change.{Change}
use Rattle.hub_state.specs.declared.Change.TheVariants.{Nothing, Stage, Commit, Abort}
use Rattle.hub_state.specs.declared.Decision.{Decision}
use Rattle.hub_answers.specs.View.{answer_of, changes_nothing}
use Rattle.hub_answers.specs.declared.Answer.{Answer}
use Rattle.hub_answers.specs.declared.Answer.TheVariants.{Refused, Wait, Sent as ToSend, Skipped, Committed, Aborted, Held, NotHeld}
use Rattle.hub_state.proofs.Rows.{status-sent, status-skipped, status-held, status-not-held, status_counts, status_counts_not}
use Rattle.hub_state.proofs.Members.{there-it, member_steps}
use Rattle.hub_state.proofs.DecisionLaws.{refused-decides, wait-decides, stage_decides, commit-decides, abort-decides}
use Rattle.hub_search.specs.Contract.{Finds, counting_tag}
use Rattle.hub_search.proofs.Commands.{counts_must}
use Rattle.hub_search.proofs.Found.{found_as, stands_at, found-id}
use Rattle.hub_turn.specs.Contract.{skipped_at}

-- what the code reads at the place of the next command is the command
module _ (h : HubState) (k : ℕ) where
  pub device-read : (row : List ℕ) → row ≡ h.device → get_or row k 0 ≡ (command_at h k).device
  unfolding step_at
  device-read row e = ap (λ (l : List ℕ). get_or l k 0) e

  pub tag_read : (row : List ℕ) → row ≡ h.tag → get_or row k 0 ≡ (command_at h k).tag
  unfolding step_at
  tag_read row e = ap (λ (l : List ℕ). get_or l k 0) e

  pub condition-read : (row : List ℕ) → row ≡ h.tag → eqb (get_or row k 0) condition_tag ≡ is_condition (command_at h k)
  condition-read row e = ap (λ (t : ℕ). eqb t condition_tag) (tag_read row e)

  pub setting-read : get_or h.setting k (pos 0) ≡ (command_at h k).setting
  unfolding step_at
  setting-read = refl

-- the routine found there
module _ (h : HubState) (x : ℕ) where
  id-there : (i : ℕ) → i ≡ (member_at h x).id → i ≡ (there h x).it.id
  id-there i e = e ∙ ap (λ (m : Member). m.id) (sym (there-it h x))

  steps-there : (there h x).it.steps ≡ steps_at h x
  steps-there = ap (λ (m : Member). m.steps) (there-it h x) ∙ member_steps h x

-- ---- the next command gets a status

not_if {ℓ} : {A : Type ℓ} (t : Bool) (a b : A) → cond (not t) a b ≡ cond t b a
not_if true a b = refl
not_if false a b = refl

module _ (h : HubState) (x k : ℕ) (s : Stands h.links x) (o : NextToDo h x k) where
  -- its device
  abbrev wanted : ℕ
  wanted = (command_at h k).device

  -- what the code has of the command, and whether its routine begins the device by it
  module _ (d i : ℕ) (b : Bool) (p : d ≡ wanted) (q : b ≡ begun wanted (member_at h x)) (r : i ≡ (member_at h x).id) where
    marked : (if not b then put (state_of h).mark d i else (state_of h).mark)
        ≡ mark_begun (member_at h x) (command_at h k).device (state_of h).mark
    unfolding mark_begun
    marked =
        not_if b (put (state_of h).mark d i) (state_of h).mark
        ∙ (λ j. if q j then (state_of h).mark else put (state_of h).mark (p j) (r j))

    module _ (code : ℕ) (u : ℤ) where
      abbrev becomes : Staged
      becomes = record { at = x; stage = code; due_then = u; begins = not b; device = d; id = i }

      staged-next : (st : Status) → status_of code u ≡ st → staged h becomes ≡ next_becomes (state_of h) (there h x) (command_at h k) st
      unfolding staged there member_at
      staged-next st e =
          let l : set_status (answered_at h x) (status_of code u) (steps_at h x) ≡ advance st (steps_at h x)
          = ap (λ (z : Status). set_status (answered_at h x) z (steps_at h x)) e ∙ sym (o.advances st) in
          λ j. with_mark (change (state_of h) (there h x) (with_steps (member_at h x) (l j))) (marked j)

      -- the appliers can carry it out
      next_ok : is_to_do (status_of code u) ≡ false → StageOk h becomes
      next_ok e = record {
        stands = s;
        not_all = o.not_all;
        device_fits = subst (λ (e : ℕ). e < max_devices) (sym p) o.device_fits;
        sent_or_answered = e;
      }

    -- "Otherwise the command is sent and is in flight."
    pub send-decides : (t : ℕ) (v u : ℤ) → t ≡ (command_at h k).tag → v ≡ (command_at h k).setting → u ≡ due (state_of h) d →
        (y : Decision) (g : Change) →
        y ≡ plainly (ToSend (record { id = i; command = record { device = d; tag = t; setting = v } })) g →
        g ≡ Stage (becomes in_flight_code u) →
        Decides h [] y (settling (send_turn (state_of h) (there h x) (command_at h k)))
    unfolding send_turn
    send-decides t v u a b e y g z j =
        let c : Command = record { device = d; tag = t; setting = v } in
        let q = status-sent in_flight_code u refl in
        let f : u ≡ due (state_of h) (command_at h k).device = e ∙ ap (due (state_of h)) p in
        let w = staged-next in_flight_code u (in_flight (due (state_of h) (command_at h k).device)) (q ∙ ap in_flight f) in
        let n = id-there h x i r in
        let m : c ≡ command_at h k = λ j. record { device = p j; tag = a j; setting = b j } in
        subst (λ (o : Decision). Decides h [] o (settling (send_turn (state_of h) (there h x) (command_at h k))))
        (sym (z ∙ ap (plainly (ToSend (record { id = i; command = c }))) j))
        (stage_decides h [] _ (ToSend (record { id = i; command = c })) refl (becomes in_flight_code u) (next_ok in_flight_code u (ap is_to_do q))
        (λ j. settling (record { state = w j; answers = send (n j) (m j) ∷ [] })))

    -- it is answered: one answer, with the id
    answered-decides : (code : ℕ) (u : ℤ) (st : Status) → status_of code u ≡ st → is_to_do st ≡ false → (a : Answer) →
        changes_nothing a ≡ false → (told : ℕ → Told) → answer_of a [] ≡ told i → (y : Decision) (g : Change) → y ≡ plainly a g →
        g ≡ Stage (becomes code u) →
        Decides h [] y
        (settling (record {
          state = next_becomes (state_of h) (there h x) (command_at h k) st;
          answers = told (there h x).it.id ∷ [];
        }))
    answered-decides code u st e t a c told f y g z j =
        let w = staged-next code u st e in
        let n : answer_of a [] ≡ told (there h x).it.id = f ∙ ap told (id-there h x i r) in
        let after : Result = settling (record {
          state = next_becomes (state_of h) (there h x) (command_at h k) st;
          answers = told (there h x).it.id ∷ [];
        }) in
        subst (λ (o : Decision). Decides h [] o after) (sym (z ∙ ap (plainly a) j))
        (stage_decides h [] after a c (becomes code u) (next_ok code u (ap is_to_do e ∙ t))
        (λ j. settling (record { state = w j; answers = n j ∷ [] })))

    -- "a best-effort is skipped"
    pub skip_decides : (u : ℤ) (y : Decision) (g : Change) → y ≡ plainly (Skipped i) g → g ≡ Stage (becomes skipped_code u) →
        Decides h [] y (settling (skip_turn (state_of h) (there h x) (command_at h k)))
    unfolding skip_turn
    skip_decides u y g z j =
        answered-decides skipped_code u was_skipped (status-skipped skipped_code u (omega arith)) refl (Skipped i) refl
        (λ j. skipped j []) refl y g z j

    -- a condition: "if its device's due setting is below the given number, it doesn't hold"
    module _ (now number : ℤ) (e : now ≡ due (state_of h) d) (f : number ≡ (command_at h k).setting) where
      abbrev ask_turn : Result
      ask_turn =
          if is_held (state_of h) (command_at h k) then settling (held_turn (state_of h) (there h x) (command_at h k))
          else settling (not_held_turn (state_of h) (there h x) (command_at h k))

      held_by : is_held (state_of h) (command_at h k) ≡ not (lt_z now number)
      unfolding is_held
      held_by = let g : due (state_of h) (command_at h k).device ≡ now = ap (due (state_of h)) (sym p) ∙ sym e in
          λ j. not (lt_z (g j) (sym f j))

      pub held-decides : lt_z now number ≡ false → (u : ℤ) (y : Decision) (g : Change) → y ≡ plainly (Held i) g →
          g ≡ Stage (becomes held_code u) →
          Decides h [] y ask_turn
      unfolding held_turn
      held-decides t u y g z j =
          rw (held_by ∙ ap not t)
          (answered-decides held_code u was_held (status-held held_code u refl) refl (Held i) refl held refl y g z j)

      pub not-held-decides : lt_z now number ≡ true → (u : ℤ) (y : Decision) (g : Change) → y ≡ plainly (NotHeld i) g →
          g ≡ Stage (becomes not_held_code u) →
          Decides h [] y ask_turn
      unfolding not_held_turn
      not-held-decides t u y g z j =
          rw (held_by ∙ ap not t)
          (answered-decides not_held_code u was_not_held (status-not-held not_held_code u refl) refl (NotHeld i) refl not_held refl y g z j)

  -- "a must aborts R"
  pub must-decides : (i : ℕ) → i ≡ (member_at h x).id → (y : Decision) → y ≡ plainly (Aborted i) (Abort x) →
      Decides h [] y (settling (abort (state_of h) (there h x)))
  must-decides i r y z =
      subst (λ (f : Decision). Decides h [] f (settling (abort (state_of h) (there h x)))) (sym z)
      (abort-decides h [] _ i x s (id-there h x i r) refl)

  -- ---- the wait search: wait, or go on

  module _ (d : ℕ) (p : d ≡ (command_at h k).device) (condition : Bool) (a : condition ≡ is_condition (command_at h k)) (w : Option ℕ)
      (e : w ≡ first_holding d condition (there h x).ahead) where
    holder_tells : (o : Option ℕ) → w ≡ o →
        wait_or (state_of h) (there h x) (command_at h k) o ≡ turn_next (state_of h) (there h x) (next (steps_at h x))
    holder_tells v q =
        ap (wait_or (state_of h) (there h x) (command_at h k))
        (sym q ∙ e ∙ (λ j. first_holding (p j) (a j) (there h x).ahead))
        ∙ ap (turn_next (state_of h) (there h x)) (sym o.next_is)

    pub goes_on : (y : Decision) → w ≡ None → Decides h [] y (proceed (state_of h) (there h x) (command_at h k)) →
        Decides h [] y (turn_next (state_of h) (there h x) (next (steps_at h x)))
    goes_on y q = subst (Decides h [] y) (holder_tells None q)

    -- "the answer is wait, with the first such id in the sequence, and no change"
    pub waits : (i j : ℕ) (y : Decision) → i ≡ (member_at h x).id → w ≡ Some j → y ≡ plainly (Wait i j) Nothing →
        Decides h [] y (turn_next (state_of h) (there h x) (next (steps_at h x)))
    waits i j y r q z =
        let n = id-there h x i r in
        subst (λ (f : Decision). Decides h [] f (turn_next (state_of h) (there h x) (next (steps_at h x)))) (sym z)
        (wait-decides h [] _ i j ((λ a. record { state = state_of h; answers = wait (n a) j ∷ [] }) ∙ holder_tells (Some j) q))

-- ---- does the condition before the next command skip it?

-- the due setting of then does not matter to that
counts_due : (code : ℕ) (u v : ℤ) → counts_as_not_held (status_of code u) ≡ counts_as_not_held (status_of code v)
counts_due code u v =
    by_less done_code code
    (λ a. by_eq code held_code
    (λ e. rw (status-held code u e, status-held code v e))
    (λ n. status_counts code u a n ∙ sym (status_counts code v a n)))
    (λ a. status_counts_not code u a ∙ sym (status_counts_not code v a))

-- as the code tests it
module _ (tags stages : List ℕ) (from k : ℕ) where
  abbrev tag_before : ℕ
  tag_before = get_or tags (k - 1) 0

  abbrev stage_before : ℕ
  stage_before = get_or stages (k - 1) 0

  pub none_before : k ≤ from → false ≡ skipped_at tags stages from k
  unfolding skipped_at
  none_before i = rw (le-ltb from k i)

  pub before-command : (tag_before ≡ condition_tag → ⊥) → false ≡ skipped_at tags stages from k
  unfolding skipped_at
  before-command n = rw (ne_eqb tag_before condition_tag n, and-false (ltb from k))

  pub before-held : stage_before ≡ held_code → false ≡ skipped_at tags stages from k
  unfolding skipped_at
  before-held e = rw (status-held stage_before (pos 0) e) (sym (and-false (ltb from k && eqb tag_before condition_tag)))

  pub before-condition : from < k → tag_before ≡ condition_tag → (stage_before ≡ held_code → ⊥) →
      ltb done_code stage_before ≡ skipped_at tags stages from k
  unfolding skipped_at
  before-condition i e n =
      rw (lt-ltb from k i, eq-eqb tag_before condition_tag e)
      (by_less done_code stage_before
      (λ a. rw (lt-ltb done_code stage_before a, status_counts stage_before (pos 0) a n))
      (λ a. rw (le-ltb done_code stage_before a, status_counts_not stage_before (pos 0) a)))

-- by the rows of the state
pub skipped-is : (h : HubState) (x k : ℕ) → NextToDo h x k → (tags stages : List ℕ) → tags ≡ h.tag → stages ≡ h.stage → {t : Bool} →
    t ≡ skipped_at tags stages (x * max_commands) k → t ≡ next_is_skipped false (steps_at h x)
unfolding step_at skipped_at
skipped-is h x k o tags stages e f g =
    g ∙ sym (o.next_skipped ∙ by_less (x * max_commands) k
    (λ i.
    let n = k - 1 - x * max_commands in
    let a : answered_at h x ≡ suc n = omega (arith, o.place) in
    let j : x * max_commands + n ≡ k - 1 = omega arith in
    ap (skips_after h x) a
    ∙ ap (λ (m : ℕ). skips_next (step_at (rows_of h) (due_then_at h x) m)) j
    ∙ rw (e, f, lt-ltb (x * max_commands) k i, counts_due (get_or h.stage (k - 1) 0) (due_then_at h x) (pos 0)))
    (λ i.
    let a : answered_at h x ≡ 0 = omega (arith, o.place) in
    ap (skips_after h x) a ∙ none_before tags stages (x * max_commands) k i))

-- ---- what the next command counts as

pub counts_as : (h : HubState) (x k : ℕ) → NextToDo h x k → (tags : List ℕ) → tags ≡ h.tag → (t : ℕ) →
    t ≡ counting_tag tags k (x * max_commands + get_or h.counts x 0 - k) → next_counts_as_must (steps_at h x) ≡ eqb t must_tag
unfolding step_at
counts_as h x k o tags e t c =
    let n = get_or h.counts x 0 - suc (answered_at h x) in
    let i : x * max_commands + suc (answered_at h x) ≡ suc k = omega (arith, o.place) in
    let j : suc n ≡ x * max_commands + get_or h.counts x 0 - k = omega (arith, o.place, o.not_all) in
    o.next_must
    ∙ ap (λ (m : ℕ). counts_as_must (command_at h k) (commands_in (steps_from (rows_of h) (due_then_at h x) m n))) i
    ∙ counts_must (rows_of h) (due_then_at h x) k n
    ∙ ap (λ (m : ℕ). eqb (counting_tag h.tag k m) must_tag) j
    ∙ ap (λ (l : List ℕ). eqb (counting_tag l k (x * max_commands + get_or h.counts x 0 - k)) must_tag) (sym e)
    ∙ ap (λ (m : ℕ). eqb m must_tag) (sym c)

-- ---- "its device up or down"

module _ (h : HubState) (x : ℕ) (c : Command) (skips : Bool) (a : skips ≡ next_is_skipped false (steps_at h x)) where
  skips_is : next_is_skipped false (there h x).it.steps ≡ skips
  skips_is = ap (next_is_skipped false) (steps-there h x) ∙ sym a

  pub proceed-skipped : skips ≡ true → settling (skip_turn (state_of h) (there h x) c) ≡ proceed (state_of h) (there h x) c
  proceed-skipped s = rw (skips_is ∙ s)

  module _ (s : skips ≡ false) (d : ℕ) (p : d ≡ c.device) (t : Bool) (e : t ≡ (state_of h).up d) where
    up_is : (state_of h).up c.device ≡ t
    up_is = ap (state_of h).up (sym p) ∙ sym e

    pub proceed-up : t ≡ true → proceed_up (state_of h) (there h x) c ≡ proceed (state_of h) (there h x) c
    proceed-up u = rw (skips_is ∙ s, up_is ∙ u)

    -- "If D is down"
    module _ (u : t ≡ false) (tag : ℕ) (m : next_counts_as_must (steps_at h x) ≡ eqb tag must_tag) where
      must-is : next_counts_as_must (there h x).it.steps ≡ eqb tag must_tag
      must-is = ap next_counts_as_must (steps-there h x) ∙ m

      pub proceed-must : tag ≡ must_tag → settling (abort (state_of h) (there h x)) ≡ proceed (state_of h) (there h x) c
      proceed-must q = rw (skips_is ∙ s, up_is ∙ u, must-is ∙ eq-eqb tag must_tag q)

      pub proceed_skip : tag ≢ must_tag → settling (skip_turn (state_of h) (there h x) c) ≡ proceed (state_of h) (there h x) c
      proceed_skip n = rw (skips_is ∙ s, up_is ∙ u, must-is ∙ ne_eqb tag must_tag n)

-- "Otherwise the command is sent and is in flight"; a condition is asked.
module _ (s : State) (f : Found) (c : Command) where
  pub up-condition : c.tag ≡ condition_tag →
      (if is_held s c then settling (held_turn s f c) else settling (not_held_turn s f c)) ≡ proceed_up s f c
  up-condition e = rw (eq-eqb c.tag condition_tag e)

  pub up-sends : c.tag ≢ condition_tag → settling (send_turn s f c) ≡ proceed_up s f c
  up-sends n = rw (ne_eqb c.tag condition_tag n)

-- ---- the ways of a turn

module _ (h : HubState) (i : ℕ) (p : Option ℕ) (f : Finds h (runs i) p) (y : Decision) where
  -- 10: no running routine has this id
  pub turn_nowhere : p ≡ None → y ≡ plainly (Refused NotRunning) Nothing → Decides h [] y (turn_of (state_of h) i)
  unfolding turn_of
  turn_nowhere e z =
      subst (λ (d : Decision). Decides h [] d (turn_of (state_of h) i)) (sym z)
      (refused-decides h [] _ NotRunning (sym (ap (turn_found (state_of h)) (found_as h (runs i) p f None e))))

  module _ (x : ℕ) (e : p ≡ Some x) where
    -- the command in flight decides
    turn_at : (o : Option Flight) → flight (steps_at h x) ≡ o → turn_flight (state_of h) (there h x) o ≡ turn_of (state_of h) i
    unfolding turn_of
    turn_at o q =
        sym (ap (turn_found (state_of h)) (found_as h (runs i) p f (Some x) e)
        ∙ ap (turn_flight (state_of h) (there h x)) (ap flight (steps-there h x) ∙ q))

    -- 11: turn with a command in flight
    pub turn-sent : (k : ℕ) → NextInFlight h x k → y ≡ plainly (Refused TurnInFlight) Nothing → Decides h [] y (turn_of (state_of h) i)
    turn-sent k o z =
        subst (λ (d : Decision). Decides h [] d (turn_of (state_of h) i)) (sym z)
        (refused-decides h [] _ TurnInFlight (turn_at _ o.flight_is))

    -- no command is in flight: the next one
    turn-next : (o : Option Command) → flight (steps_at h x) ≡ None → next (steps_at h x) ≡ o →
        turn_next (state_of h) (there h x) o ≡ turn_of (state_of h) i
    turn-next o q n =
        ap (turn_next (state_of h) (there h x)) (sym (ap next (steps-there h x) ∙ n)) ∙ turn_at None q

    pub turn_on : (k : ℕ) → NextToDo h x k → Decides h [] y (turn_next (state_of h) (there h x) (next (steps_at h x))) →
        Decides h [] y (turn_of (state_of h) i)
    turn_on k o = subst (Decides h [] y) (turn-next (next (steps_at h x)) o.no_flight refl)

    -- "No command left: committed."
    pub turn_commits : AllAnswered h x → y ≡ plainly (Committed i) (Commit x) → Decides h [] y (turn_of (state_of h) i)
    unfolding commit_turn committed_at
    turn_commits o z =
        let n = id-there h x i (found-id h i p f x e) in
        subst (λ (d : Decision). Decides h [] d (turn_of (state_of h) i)) (sym z)
        (commit-decides h [] _ (Committed i) refl x (stands_at h (runs i) p f x e)
        ((λ j. settling (record { state = committed_at h x; answers = committed (n j) ∷ [] })) ∙ turn-next None o.no_flight o.no_next))
