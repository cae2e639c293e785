-- What one line does: for each way that a line can go, what the line program does of it, and the hub afterwards. Assumes nothing.
use Rattle.rules_routine.specs.declared.refusals.Refusal.TheVariants.{CommandCount, DevicesOutOfRange, PassLimitOutOfRange, FirstIdZero}
use Rattle.std.proofs.Common.{Option, None, Some, Ok, Err}
use mathlib.Core.Path.{◌≡◌, refl, sym, ap, ◌∙◌, subst}
use mathlib.Core.Logic.{◌≢◌}
use mathlib.Core.Bool.{Bool, true, false, ◌||◌}
use mathlib.Core.List.{List, [], ◌∷◌, ◌++◌, append-nil, append_assoc}
use Prim.Native.Nat.{ℕ, ◌+◌, ◌-◌, ◌≤◌, ◌<◌, ◌^◌}
use native.Mathlib.Omega.{arith}
use borrow.Author.Tests.{ltb-true, ltb-false, ne_eqb, eqb-false}
use lib.Dec.{ltb, eqb}
use lib.ListN.{length, length-append}
use Rattle.std.specs.Prelude.{if◌then◌else◌}
use Rattle.rules_routine.specs.Refusals.{refuse◌when◌, Verdict}
use Rattle.rules_routine.specs.Refusals.{◌and_then◌}
use Rattle.rules_routine.specs.Limits.{max_devices, max_commands, highest_pass_limit}
use Rattle.rules_routine.specs.Routine.{commands_of, routine_of, no_routine, with_command}
use Rattle.rules_routine.specs.declared.Command.{Command}
use Rattle.rules_routine.specs.declared.Routine.{Routine}
use Rattle.rules_routine.proofs.RoutineLaws.{by_test, both_accept, not-refused, or-false, length-commands_of, routine_of-commands}
use Rattle.rules_routine.proofs.RoutineLaws.{routine_of-count}
use Rattle.rules_routine.proofs.RoutineLaws.{with_more, check_long}
use Rattle.rules.specs.State.{State}
use Rattle.rules.specs.Answers.{Answer, placed, Result}
use Rattle.rules.specs.Answers.{unless_refused, turned_down}
use Rattle.rules.specs.Open.{opened, not_opened, open_check, new_hub, closed_hub, open_if, open_of}
use Rattle.rules.specs.Settle.{settle, settling}
use Rattle.rules.specs.Submit.{blocks, up_to_last, place, submit_of}
use Rattle.rules.specs.Sequence.{last_id_or}
use Rattle.rules.specs.Calls.{result_of}
use Rattle.rules.specs.Rounds.{KeepsLimit}
use Rattle.rules.proofs.Lists.{t≠f}
use Rattle.rules_promises.proofs.Theorem.{devices-kept}
use Rattle.hub_submit.proofs.SubmitLaws.{check_routine}
use Rattle.hub_answers.specs.View.{changes_nothing}
use Rattle.hub_state.specs.View.{first_committed}
use Rattle.hub_state.specs.Contract.{applied_to, told_by, settled_unless_nothing, Decides}
use Rattle.hub_state.specs.declared.Change.{Change}
use Rattle.hub_state.specs.declared.Change.TheVariants.{Nothing, Stage, Commit, Join, Abort, Fail, Restart}
use Rattle.hub_state.specs.declared.Decision.{Decision}
use Rattle.hub_state.proofs.DecisionLaws.{settle-idle}
use Rattle.hub.specs.View.{view}
use Rattle.hub.specs.Valid.{InOrder, Valid}
use Rattle.hub.specs.Contract.{Opens}
use Rattle.hub.specs.Carrying.{MovesNobody, Carries}
use Rattle.hub.specs.Decided.{DecidedOn}
use Rattle.hub.proofs.CallLaws.{itself_moves}
use Rattle.hub.specs.declared.Hub.{Hub}
use Rattle.hub.specs.declared.Opened.{Opened}
use Rattle.line_rules.specs.Text.{bytes}
use Rattle.line_rules.specs.Reading.{LineCall, submits, turns, reports, fails, restarts, cancels, as_call, Line as Said, opening, calling}
use Rattle.line_rules.specs.Reading.{unread}
use Rattle.line_rules.specs.Printing.{as_line, answers_text}
use Rattle.line_rules.specs.Program.{prints_unread, prints_opening, prints_result, prints_call, step}
use Rattle.line_print.specs.Texts.{opening_text}
use Rattle.line_read.specs.View.{together, call_as, read_as}
use Rattle.line_read.specs.declared.Call.{Call}
use Rattle.line_read.specs.declared.Call.TheVariants.{Submit, Turn, Report, Cancel, Fail as Failure, Restart as Restarted}
use Rattle.line_read.specs.declared.Line.{Line}
use Rattle.line_read.specs.declared.Line.TheVariants.{Open, Calling, Unread}
use Rattle.line.specs.View.{hub_in, heard_of, call_in, commands_in}
use Rattle.std.specs.Prelude.{is_ok}

-- ---- a submission's commands, put together one by one

-- up to eight of them it is the same list
together-held : (held cs : List Command) → length held + length cs ≤ max_commands → together (routine_of held) cs ≡ routine_of (held ++ cs)
unfolding together
together-held held [] h = ap routine_of (sym (append-nil held))
together-held held (c ∷ cs) h =
    ap (λ (r : Routine). together r cs) (with_more held c (omega arith))
    ∙ together-held (held ++ (c ∷ [])) cs (omega (arith, length-append held (c ∷ [])))
    ∙ ap routine_of (append_assoc held (c ∷ []) cs)

-- above, the count says so
together_many : (r : Routine) (cs : List Command) → max_commands < r.count + length cs → max_commands < (together r cs).count
unfolding together with_command
together_many r [] h = omega arith
together_many r (c ∷ cs) h =
    together_many (with_command r c) cs
    (by_test (λ (t : Bool). max_commands < (if t then r.count + 1 else r.count) + length cs) (ltb r.count (2 ^ 64 - 1))
    (λ _. omega arith)
    (λ e. omega (arith, ltb-false r.count (2 ^ 64 - 1) e)))

-- a routine of more than eight commands is turned down for its count
submit_long : (s : State) (cs : List Command) → max_commands < length cs → submit_of s cs ≡ turned_down CommandCount s
unfolding submit_of
submit_long s cs h =
    ap
    (λ (v : Verdict). unless_refused v s
    (settling
    (record { state = place s cs; answers = placed s.next_id (last_id_or 0 (up_to_last (blocks s cs) s.sequence)) ∷ [] })))
    (check_routine s cs _ (check_long s.devices cs h))

-- so that the rules give the same
submit-together : (s : State) (cs : List Command) → submit_of s (commands_of (together no_routine cs)) ≡ submit_of s cs
submit-together s cs =
    by_test (λ (_ : Bool). submit_of s (commands_of (together no_routine cs)) ≡ submit_of s cs) (ltb max_commands (length cs))
    (λ e.
    let h = ltb-true max_commands (length cs) e in
    let r = together no_routine cs in
    submit_long s (commands_of r) (omega (arith, together_many no_routine cs (omega (arith, routine_of-count [])), length-commands_of r))
    ∙ sym (submit_long s cs h))
    (λ e.
    let h = ltb-false max_commands (length cs) e in
    ap (λ (r : Routine). submit_of s (commands_of r)) (together-held [] cs (omega arith)) ∙ ap (submit_of s) (routine_of-commands cs h))

same-call : (s : State) (c : LineCall) → result_of s (call_in (call_as c)) ≡ result_of s (as_call c)
same-call s (submits cs) = submit-together s cs
same-call s (turns i) = refl
same-call s (reports i code) = refl
same-call s (fails d) = refl
same-call s (restarts d v) = refl
same-call s (cancels i) = refl

-- ---- what the program does of a line that was read and heard

-- the hub, if it has devices
abbrev hub_if : Bool → Hub → Option State
hub_if t h = if t then None else Some (view h)

abbrev heard_if : Bool → LineCall → Line
heard_if t c = if t then Unread else Calling (call_as c)

pub line-unread : (h : Hub) (q : Said) → heard_of (read_as q) (view h).devices ≡ Unread → step (hub_in h) q ≡ prints_unread (hub_in h)
unfolding step hub_in
line-unread h (opening n k first) e = let z : ◌≡◌ {A = ℕ} 0 1 = cc in absurd (omega arith)
line-unread h (calling c) e =
    by_test (λ (t : Bool). heard_if t c ≡ Unread → prints_call (hub_if t h) (as_call c) ≡ prints_unread (hub_if t h))
    (eqb (view h).devices 0)
    (λ _ _. refl)
    (λ _ f. let z : ◌≡◌ {A = ℕ} 0 1 = cc in absurd (omega arith))
    e
line-unread h unread e = refl

pub line-opening : (h : Hub) (q : Said) (n k first : ℕ) → heard_of (read_as q) (view h).devices ≡ Open n k first →
    step (hub_in h) q ≡ prints_opening (hub_in h) (open_of n k first)
unfolding step
line-opening h (opening m l i) n k first e =
    let a : m ≡ n = cc in
    let b : l ≡ k = cc in
    let d : i ≡ first = cc in
    rw (a, b, d)
line-opening h (calling c) n k first e =
    by_test (λ (t : Bool). heard_if t c ≡ Open n k first → step (hub_in h) (calling c) ≡ prints_opening (hub_in h) (open_of n k first))
    (eqb (view h).devices 0)
    (λ _ f. let z : ◌≡◌ {A = ℕ} 0 1 = cc in absurd (omega arith))
    (λ _ f. let z : ◌≡◌ {A = ℕ} 0 1 = cc in absurd (omega arith))
    e
line-opening h unread n k first e = let z : ◌≡◌ {A = ℕ} 0 1 = cc in absurd (omega arith)

-- a call is heard by a hub that has devices
pub line-calling : (h : Hub) (q : Said) (call : Call) → heard_of (read_as q) (view h).devices ≡ Calling call →
    ((view h).devices ≢ 0) × (step (hub_in h) q ≡ prints_result (result_of (view h) (call_in call)))
unfolding step hub_in
line-calling h (opening n k first) call e = let z : ◌≡◌ {A = ℕ} 0 1 = cc in absurd (omega arith)
line-calling h (calling c) call e =
    by_test
    (λ (t : Bool). heard_if t c ≡ Calling call →
    ((view h).devices ≢ 0) × (prints_call (hub_if t h) (as_call c) ≡ prints_result (result_of (view h) (call_in call))))
    (eqb (view h).devices 0)
    (λ _ f. let z : ◌≡◌ {A = ℕ} 0 1 = cc in absurd (omega arith))
    (λ t f.
    let same : call_as c ≡ call = cc in (
      eqb-false (view h).devices 0 t,
      ap prints_result
          (sym (same-call (view h) c) ∙ ap (λ (x : Call). result_of (view h) (call_in x)) same),
    ))
    e
line-calling h unread call e = let z : ◌≡◌ {A = ℕ} 0 1 = cc in absurd (omega arith)

-- ---- the hub

pub hub-none : (h : Hub) → view h ≡ closed_hub → hub_in h ≡ None
unfolding hub_in new_hub
hub-none h e = ap (λ (s : State). if eqb s.devices 0 then None else Some s) e

pub hub_some : (h : Hub) → (view h).devices ≢ 0 → hub_in h ≡ Some (view h)
unfolding hub_in
hub_some h e = ap (λ (t : Bool). if t then None else Some (view h)) (ne_eqb (view h).devices 0 e)

-- a hub with devices is not none
not_none : {h : Option State} {s : State} {P : Type 0} → h ≡ Some s → h ≡ None → P
not_none there z = let w : ◌≡◌ {A = ℕ} 0 1 = cc in absurd (omega arith)

-- an accepted opening has devices
open_some : (n k first : ℕ) → open_check n k first ≡ Ok tt → n ≢ 0
unfolding open_check
open_some n k first e =
    let rest = refuse PassLimitOutOfRange when ltb highest_pass_limit k and_then refuse FirstIdZero when eqb first 0 in
    let a = (both_accept (refuse DevicesOutOfRange when (eqb n 0 || ltb max_devices n)) rest e).0 in
    eqb-false n 0 (or-false (eqb n 0) (ltb max_devices n) (not-refused DevicesOutOfRange _ a)).0

opened_as : (v : Verdict) (s : State) {t : State} → open_if v s ≡ opened t → opened s ≡ opened t
opened_as (Ok tt) s e = e
opened_as (Err r) s e = let z : ◌≡◌ {A = ℕ} 0 1 = cc in absurd (omega arith)

opened_some : (n k first : ℕ) (s : State) → open_of n k first ≡ opened s → s.devices ≢ 0
unfolding open_of new_hub
opened_some n k first s = go (open_check n k first) refl
  where
    go : (v : Verdict) → open_check n k first ≡ v → open_if v (new_hub n k first) ≡ opened s → s.devices ≢ 0
    go (Ok tt) a e = let same : new_hub n k first ≡ s = cc in subst (λ (t : State). t.devices ≢ 0) same (open_some n k first a)
    go (Err r) a e = let z : ◌≡◌ {A = ℕ} 0 1 = cc in absurd (omega arith)

-- ---- what the call that a line makes comes to

-- nobody joins by a call that is no submission
pub none_joins : (c : Call) → ((r : Routine) → c ≡ Submit r → ⊥) → commands_of no_routine ≡ commands_in c
unfolding commands_of routine_of
none_joins (Submit r) n = absurd (n r refl)
none_joins (Turn i) n = refl
none_joins (Report i code) n = refl
none_joins (Cancel i) n = refl
none_joins (Failure d) n = refl
none_joins (Restarted d v) n = refl

-- which call it is
pub as-call : (h : Hub) {d : Decision} {c x : Call} → c ≡ x → Decides h.state.rows (commands_in x) d (result_of (view h) (call_in x)) →
    Decides h.state.rows (commands_in c) d (result_of (view h) (call_in c))
as-call h {d} {c} {x} e w = subst (λ (y : Call). Decides h.state.rows (commands_in y) d (result_of (view h) (call_in y))) (sym e) w

-- ---- one line done: its text, and the hub that it leaves

pub record Does (h : Hub) (q : Said) (next : Hub) (text : List ℕ) : Type 0 where
  pub valid : Valid next
  pub is : step (hub_in h) q ≡ record { hub = hub_in next; text = text }
  pub unopened : hub_in next ≡ None → next ≡ h

pub does_unread : (h : Hub) (q : Said) → Valid h → heard_of (read_as q) (view h).devices ≡ Unread →
    Does h q h (as_line (bytes "unread"))
does_unread h q v e = record { valid = v; is = line-unread h q e; unopened = λ _. refl }

-- an opening: the verdict is the rules'
module _ (h : Hub) (q : Said) (n k first : ℕ) (e : heard_of (read_as q) (view h).devices ≡ Open n k first) (v : Verdict)
    (same : v ≡ open_check n k first) where
  pub does_open : (o : Opened) → Opens n k first o → is_ok v ≡ true → Does h q o.hub (opening_text v)
  unfolding open_of
  does_open o w t = go v same t
    where
      go : (u : Verdict) → u ≡ open_check n k first → is_ok u ≡ true → Does h q o.hub (opening_text u)
      go (Ok tt) a _ =
          let accepted : open_of n k first ≡ opened (new_hub n k first) = ap (λ (x : Verdict). open_if x (new_hub n k first)) (sym a) in
          let f = accepted ∙ sym (opened_as o.verdict (view o.hub) (w.gives ∙ accepted)) in
          let there = hub_some o.hub (opened_some n k first (view o.hub) f) in
          record {
            valid = w.valid;
            is = line-opening h q n k first e ∙ ap (prints_opening (hub_in h)) f
                ∙ ap (λ (s : Option State). record { hub = s; text = as_line (bytes "opened") }) (sym there);
            unopened = λ z. not_none there z;
          }
      go (Err r) a u = t≠f (sym u)

  pub does_not_open : Valid h → is_ok v ≡ false → Does h q h (opening_text v)
  unfolding open_of
  does_not_open valid t = go v same t
    where
      go : (u : Verdict) → u ≡ open_check n k first → is_ok u ≡ false → Does h q h (opening_text u)
      go (Ok tt) a u = t≠f u
      go (Err r) a _ =
          let f : open_of n k first ≡ not_opened r = ap (λ (x : Verdict). open_if x (new_hub n k first)) (sym a) in
          record { valid = valid; is = line-opening h q n k first e ∙ ap (prints_opening (hub_in h)) f; unopened = λ _. refl }

-- ---- a call: its change is made, and then the hub settles

-- no line makes a new pass limit
keeps_limit : (c : Call) → KeepsLimit (call_in c)
keeps_limit (Submit r) = tt
keeps_limit (Turn i) = tt
keeps_limit (Report i code) = tt
keeps_limit (Cancel i) = tt
keeps_limit (Failure d) = tt
keeps_limit (Restarted d v) = tt

-- what was decided on the hub, for those who ask
pub decided_on : (h : Hub) (c : Call) {d : Decision} → Decides h.state.rows (commands_in c) d (result_of (view h) (call_in c)) →
    DecidedOn h (commands_in c) d
decided_on h c k = record { call = call_in c; no_limit = keeps_limit c; decides = k }

-- an applier makes the change
pub carries_nothing : (h : Hub) (cs : List Command) {c : Change} → Valid h → c ≡ Nothing → Carries h cs c h
carries_nothing h cs v e =
    record {
      in_order = v.in_order;
      gives = ap (λ (y : Change). applied_to h.state.rows cs y) (sym e);
      moves_nobody = itself_moves h.state.rows v.in_order;
      same_hub = λ _. refl;
    }

abbrev is_change : Change → Bool
is_change Nothing = false
is_change (Stage c) = true
is_change (Commit x) = true
is_change (Join after) = true
is_change (Abort x) = true
is_change (Fail d x) = true
is_change (Restart d v x) = true

pub carries : (h : Hub) (cs : List Command) {c : Change} (x : Change) {next : Hub} → c ≡ x → is_change x ≡ true →
    (InOrder next) × (view next ≡ applied_to h.state.rows cs x) × (MovesNobody h.state.rows next.state.rows) → Carries h cs c next
carries h cs x e t k = record {
  in_order = k.0;
  gives = k.1 ∙ ap (λ (y : Change). applied_to h.state.rows cs y) (sym e);
  moves_nobody = k.2;
  same_hub = λ z. t≠f (sym t ∙ ap is_change (sym e ∙ z));
}

pub carries_as : {h : Hub} {cs : List Command} {c : Change} {next next' : Hub} → next' ≡ next → Carries h cs c next → Carries h cs c next'
carries_as {h} {cs} {c} e k = subst (λ (x : Hub). Carries h cs c x) (sym e) k

-- after a change the hub settles
settled_unless : (c : Change) (r : Result) → (c ≡ Nothing → ⊥) → settled_unless_nothing c r ≡ settling r
settled_unless Nothing r n = absurd (n refl)
settled_unless (Stage c) r n = refl
settled_unless (Commit x) r n = refl
settled_unless (Join after) r n = refl
settled_unless (Abort x) r n = refl
settled_unless (Fail d x) r n = refl
settled_unless (Restart d v x) r n = refl

module _ (h : Hub) (q : Said) (call : Call) (e : heard_of (read_as q) (view h).devices ≡ Calling call) (d : Decision)
    (w : Decides h.state.rows (commands_in call) d (result_of (view h) (call_in call))) (made : Hub)
    (m : Carries h (commands_in call) d.change made) where
  abbrev told : List Answer
  told = told_by h.state.rows d

  does_call : (next : Hub) → Valid next → record { state = view next; answers = told } ≡ result_of (view h) (call_in call) →
      Does h q next (answers_text told)
  does_call next valid gives =
      let l = line-calling h q call e in
      let same : (view next).devices ≡ (view h).devices =
      ap (λ (x : Result). x.state.devices) gives ∙ devices-kept (view h) (call_in call) in
      let there = hub_some next (subst (λ (n : ℕ). n ≢ 0) (sym same) l.0) in
      record {
        valid = valid;
        is = l.1 ∙ ap prints_result (sym gives) ∙ ap (λ (s : Option State). record { hub = s; text = answers_text told }) (sym there);
        unopened = λ z. not_none there z;
      }

  settles_by : changes_nothing d.answer ≡ false →
      record { state = settle (view made); answers = told } ≡ result_of (view h) (call_in call)
  settles_by t =
      ap (λ (s : State). record { state = settle s; answers = told }) m.gives
      ∙ sym (settled_unless d.change _ (w.something_told t))
      ∙ w.gives

  -- the first is committed
  pub does_settle : changes_nothing d.answer ≡ false → (next : Hub) → (Valid next) × (view next ≡ settle (view made)) →
      Does h q next (answers_text told)
  does_settle t next k =
      does_call next k.0 (ap (λ (s : State). record { state = s; answers = told }) k.1 ∙ settles_by t)

  -- it is not
  pub does_change : changes_nothing d.answer ≡ false → first_committed (view made).sequence ≡ false →
      Does h q made (answers_text told)
  does_change t idle =
      does_call made (record { in_order = m.in_order; at_rest = idle })
      (ap (λ (s : State). record { state = s; answers = told }) (sym (settle-idle (view made) idle)) ∙ settles_by t)

  -- a refusal or a wait
  pub does_same : Valid h → changes_nothing d.answer ≡ true → Does h q made (answers_text told)
  does_same valid t =
      let still = w.nothing_told t in
      does_call made (subst Valid (sym (m.same_hub still)) valid)
      (ap (λ (s : State). record { state = s; answers = told }) m.gives
      ∙ sym (ap (λ (c : Change). settled_unless_nothing c
      (record { state = applied_to h.state.rows (commands_in call) d.change; answers = told })) still)
      ∙ w.gives)
