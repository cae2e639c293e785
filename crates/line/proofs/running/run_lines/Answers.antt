-- `line::running::run_lines` meets its contract. The loop's invariant: the lines up to a place are done, and what is left gives the rest.
-- Assumes nothing.
use mathlib.Core.Path.{◌≡◌, refl, sym, ap, subst, ◌∙◌}
use mathlib.Core.Bool.{Bool}
use mathlib.Core.List.{List}
use Prim.Native.Nat.{ℕ, ◌-◌, ◌<◌}
use native.Mathlib.Omega.{arith}
use borrow.Author.Tests.{ne_eqb}
use mir.Syntax.{w16}
use mir.Val.{to_z, of_z}
use lib.IntN.{ℤ}
use lib.ListN.{length, take, drop}
use Rattle.std.specs.Prelude.{if◌then◌else◌}
use Rattle.rules_routine.specs.declared.Command.{Command}
use Rattle.rules.specs.Calls.{result_of}
use Rattle.hub_state.specs.Contract.{Decides}
use Rattle.hub_state.specs.declared.Change.{Change}
use Rattle.hub_state.specs.declared.Change.TheVariants.{Stage, Commit, Join, Abort, Fail, Restart}
use Rattle.hub_state.specs.declared.Decision.{Decision}
use Rattle.line_rules.specs.Reading.{Line as Said, read_line}
use Rattle.line_read.specs.View.{read_as}
use Rattle.line_read.specs.declared.Line.{Line}
use Rattle.line_read.specs.declared.Line.TheVariants.{Open, Calling, Unread}
use Rattle.line_read.specs.declared.Call.{Call}
use Rattle.line_print.specs.Put.{max_text}
use Rattle.hub.specs.View.{view}
use Rattle.hub.specs.Valid.{Valid}
use Rattle.hub.specs.Carrying.{Carries}
use Rattle.hub.specs.Decided.{DecidedOn, Decided}
use Rattle.hub.specs.declared.Hub.{Hub}
use Rattle.line.specs.View.{heard_of, call_in, commands_in}
use Rattle.line.proofs.LineLaws.{does_unread, does_open, does_not_open, does_settle, does_change, does_same}
use Rattle.line.proofs.LineLaws.{decided_on, carries_nothing, carries, carries_as}
use Rattle.line.proofs.Loops.{Prints, prints, printed_fits, printed_long, goes}
use Rattle.line.proofs.Loops.{ran_none, ran_more, ran_length, ran_past, ran_all, end_within}
use borrow.Author.Rules.{rules}
use Rattle.line.proofs.running.run_lines.Goals.{After-next_line-next, After-decided-decision, Joined-change, Joined-said}
use Rattle.line.proofs.running.run_lines.Goals.{in-Open+then-is_ok, in-Open+else-is_ok, in_default, in_default-via-in_default}
use Rattle.line.proofs.running.run_lines.Goals.{in-Calling+then-not-changes_nothing+then-settles, in-Calling+else-not-changes_nothing}
use Rattle.line.proofs.running.run_lines.Goals.{in-Nothing, in-Stage, in-Commit, in-Join, in-Abort, in-Fail, in-Restart}
use Rattle.line.proofs.running.run_lines.Goals.{else-not-changes_nothing-via-then-not-changes_nothing+else-settles}
use Rattle.line.proofs.running.run_lines.Goals.{else-not-changes_nothing-via-else-not-changes_nothing}
use Rattle.line.proofs.running.run_lines.Goals.{in_default-via-in-Calling+else-device_count-gt0}
use Rattle.line.proofs.running.run_lines.Goals as goal

-- ---- the line

-- what it says
abbrev says : List ℕ → ℕ → ℕ → Said
says input from end = read_line (take (end - from) (drop from input))

-- what is known of it: how it is read, and that the hub is as it may be
record Heard (h : Hub) (q : Said) (line : Line) : Type 0 where
  reads : read_as q ≡ line
  valid : Valid h

heard : (c : After-next_line-next) →
    Heard c.loop-from.now (says c.args.input.now c.loop-from.from c.next_line-next.result.end) c.next_line-next.result.said
heard c = record {
  reads = sym c.next_line-next.ensures.says;
  valid = c.loop-from.invariant.1.valid;
}

-- an opening is heard
opening_heard : {h : Hub} {q : Said} {line : Line} {n k first : ℕ} → Heard h q line → line ≡ Open n k first →
    heard_of (read_as q) (view h).devices ≡ Open n k first
opening_heard {h} x e = ap (λ (l : Line). heard_of l (view h).devices) (x.reads ∙ e)

-- a call is heard by a hub that has devices
call_heard : {h : Hub} {q : Said} {line : Line} {call : Call} {n : ℕ} → Heard h q line → line ≡ Calling call → n ≡ (view h).devices → 0 < n →
    heard_of (read_as q) (view h).devices ≡ Calling call
call_heard {h} {call = call} x e counted some =
    ap (λ (l : Line). heard_of l (view h).devices) (x.reads ∙ e)
    ∙ ap (λ (t : Bool). if t then Unread else Calling call) (ne_eqb (view h).devices 0 (λ z. absurd (omega arith)))

-- and by no hub of no devices
call_unheard : {h : Hub} {q : Said} {line : Line} {call : Call} → Heard h q line → line ≡ Calling call → (view h).devices ≡ 0 →
    heard_of (read_as q) (view h).devices ≡ Unread
call_unheard {h} {call = call} x e none =
    ap (λ (l : Line). heard_of l (view h).devices) (x.reads ∙ e) ∙ ap (λ (n : ℕ). heard_of (Calling call) n) none

-- nor is anything else
neither : (line : Line) (devices : ℕ) → ((n k first : ℕ) → line ≡ Open n k first → ⊥) → ((call : Call) → line ≡ Calling call → ⊥) →
    heard_of line devices ≡ Unread
neither (Open n k first) devices o c = absurd (o n k first refl)
neither (Calling call) devices o c = absurd (c call refl)
neither Unread devices o c = refl

unread_heard : {h : Hub} {q : Said} {line : Line} → Heard h q line → ((n k first : ℕ) → line ≡ Open n k first → ⊥) →
    ((call : Call) → line ≡ Calling call → ⊥) → heard_of (read_as q) (view h).devices ≡ Unread
unread_heard {h} {line = line} x o c = ap (λ (l : Line). heard_of l (view h).devices) x.reads ∙ neither line (view h).devices o c

-- ---- a call

-- what is known of what it comes to
record Comes (h : Hub) (q : Said) (call : Call) (d : Decision) : Type 0 where
  calls : heard_of (read_as q) (view h).devices ≡ Calling call
  valid : Valid h
  decides : Decides h.state.rows (commands_in call) d (result_of (view h) (call_in call))

comes : {h : Hub} {q : Said} {line : Line} {n : ℕ} → Heard h q line → (call : Call) → line ≡ Calling call → n ≡ (view h).devices →
    0 < n → {d : Decision} → Decides h.state.rows (commands_in call) d (result_of (view h) (call_in call)) → Comes h q call d
comes x call e counted some w = record { calls = call_heard x e counted some; valid = x.valid; decides = w }

-- it was decided on the hub, and its change can be made
decided_now : {h : Hub} {q : Said} {call : Call} {d : Decision} → Comes h q call d →
    DecidedOn h (commands_in call) d
decided_now x = decided_on _ _ x.decides

change_is : {h : Hub} {q : Said} {call : Call} {d : Decision} → Comes h q call d → (c : Change) →
    d.change ≡ c → Decided h (commands_in call) c
change_is x c e = record { decision = _; made = decided_now x; change_is = e }

came : (c : After-decided-decision) →
    Heard c.loop-from.now (says c.args.input.now c.loop-from.from c.next_line-next.result.end) c.next_line-next.result.said →
    Comes c.loop-from.now (says c.args.input.now c.loop-from.from c.next_line-next.result.end) c.in-Calling.call c.decided-decision.result
came c x = comes x _ c.in-Calling.is c.device_count.ensures c.if-device_count-gt0.true c.decided-decision.ensures

-- and is made
made : (c : Joined-change) → Valid c.loop-from.now →
    Carries c.loop-from.now (commands_in c.in-Calling.call) c.decided-decision.result.change c.match-change.now
made c h =
    elim c.match-change.branch [
      | in-Nothing v ↦ carries_as v.now-is (carries_nothing _ _ h v.in-Nothing.is)
      | in-Stage v ↦ carries_as v.now-is (carries _ _ (Stage _) v.in-Stage.is refl v.with_stage-now.ensures)
      | in-Commit v ↦ carries_as v.now-is (carries _ _ (Commit _) v.in-Commit.is refl v.with_commit-now.ensures)
      | in-Join v ↦ carries_as v.now-is
          (carries _ _ (Join _) v.in-Join.is refl (rw v.routine_in-routine.ensures at v.with_routine-now.ensures))
      | in-Abort v ↦ carries_as v.now-is (carries _ _ (Abort _) v.in-Abort.is refl v.with_abort-now.ensures)
      | in-Fail v ↦ carries_as v.now-is (carries _ _ (Fail _ _) v.in-Fail.is refl v.with_failure-now.ensures)
      | in-Restart v ↦
          let held : to_z w16 (of_z w16 v.in-Restart.setting) ≡ v.in-Restart.setting = search rules in
          carries_as v.now-is (carries _ _ (Restart _ _ _) v.in-Restart.is refl (rw held at v.with_restart-now.ensures))
    ]

-- ---- each way that the line can go

line-prints : (c : Joined-said) →
    Heard c.loop-from.now (says c.args.input.now c.loop-from.from c.next_line-next.result.end) c.next_line-next.result.said →
    length c.loop-from.text ≡ max_text →
    Prints c.loop-from.now (says c.args.input.now c.loop-from.from c.next_line-next.result.end) c.match-said.now c.match-said.text
    c.match-said.printed
line-prints c x room =
    elim c.match-said.branch [
      | in-Open+then-is_ok w ↦
          prints
          (does_open _ _ _ _ _ (opening_heard x w.in-Open.is) w.check_opening-verdict.result w.check_opening-verdict.ensures
          w.open-opened.result w.open-opened.ensures (sym w.is_ok.ensures.value ∙ w.if-is_ok.true))
          w.put_opening-printed.ensures room w.now-is w.text-is w.printed-is
      | in-Open+else-is_ok w ↦
          prints
          (does_not_open _ _ _ _ _ (opening_heard x w.in-Open.is) w.check_opening-verdict.result w.check_opening-verdict.ensures x.valid
          (sym w.is_ok.ensures.value ∙ w.if-is_ok.false))
          w.put_opening-printed.ensures room w.now-is w.text-is w.printed-is
      | in-Calling+then-not-changes_nothing+then-settles w ↦
          let y = comes x _ w.in-Calling.is w.device_count.ensures w.if-device_count-gt0.true w.decided-decision.ensures in
          let m : Carries c.loop-from.now (commands_in w.in-Calling.call) w.decided-decision.result.change w.match-change.now =
          elim w.match-change.branch [
            | in-Nothing v ↦ carries_as v.now-is (carries_nothing _ _ x.valid v.in-Nothing.is)
            | in-Stage v ↦ carries_as v.now-is (carries _ _ (Stage _) v.in-Stage.is refl v.with_stage-now.ensures)
            | in-Commit v ↦ carries_as v.now-is (carries _ _ (Commit _) v.in-Commit.is refl v.with_commit-now.ensures)
            | in-Join v ↦ carries_as v.now-is
                (carries _ _ (Join _) v.in-Join.is refl (rw v.routine_in-routine.ensures at v.with_routine-now.ensures))
            | in-Abort v ↦ carries_as v.now-is (carries _ _ (Abort _) v.in-Abort.is refl v.with_abort-now.ensures)
            | in-Fail v ↦ carries_as v.now-is (carries _ _ (Fail _ _) v.in-Fail.is refl v.with_failure-now.ensures)
            | in-Restart v ↦
                let held : to_z w16 (of_z w16 v.in-Restart.setting) ≡ v.in-Restart.setting = search rules in
                carries_as v.now-is (carries _ _ (Restart _ _ _) v.in-Restart.is refl (rw held at v.with_restart-now.ensures))
          ] in
          prints
          (does_settle _ _ _ y.calls _ y.decides _ m (sym w.changes_nothing.ensures ∙ w.if-not-changes_nothing.true) w.settle-now.result
          (w.settle-now.ensures.0, w.settle-now.ensures.1))
          w.put_answers-printed.ensures room w.now-is w.text-is w.printed-is
      | in-Calling+else-not-changes_nothing w ↦
          let y = comes x _ w.in-Calling.is w.device_count.ensures w.if-device_count-gt0.true w.decided-decision.ensures in
          let m : Carries c.loop-from.now (commands_in w.in-Calling.call) w.decided-decision.result.change w.match-change.now =
          elim w.match-change.branch [
            | in-Nothing v ↦ carries_as v.now-is (carries_nothing _ _ x.valid v.in-Nothing.is)
            | in-Stage v ↦ carries_as v.now-is (carries _ _ (Stage _) v.in-Stage.is refl v.with_stage-now.ensures)
            | in-Commit v ↦ carries_as v.now-is (carries _ _ (Commit _) v.in-Commit.is refl v.with_commit-now.ensures)
            | in-Join v ↦ carries_as v.now-is
                (carries _ _ (Join _) v.in-Join.is refl (rw v.routine_in-routine.ensures at v.with_routine-now.ensures))
            | in-Abort v ↦ carries_as v.now-is (carries _ _ (Abort _) v.in-Abort.is refl v.with_abort-now.ensures)
            | in-Fail v ↦ carries_as v.now-is (carries _ _ (Fail _ _) v.in-Fail.is refl v.with_failure-now.ensures)
            | in-Restart v ↦
                let held : to_z w16 (of_z w16 v.in-Restart.setting) ≡ v.in-Restart.setting = search rules in
                carries_as v.now-is (carries _ _ (Restart _ _ _) v.in-Restart.is refl (rw held at v.with_restart-now.ensures))
          ] in
          prints
          (elim w.else-not-changes_nothing.branch [
            | else-not-changes_nothing-via-then-not-changes_nothing+else-settles v ↦
                does_change _ _ _ y.calls _ y.decides _ m (sym w.changes_nothing.ensures ∙ v.if-not-changes_nothing.true)
                (sym v.settles.ensures ∙ v.if-settles.false)
            | else-not-changes_nothing-via-else-not-changes_nothing v ↦
                does_same _ _ _ y.calls _ y.decides _ m x.valid (sym w.changes_nothing.ensures ∙ v.if-not-changes_nothing.false)
          ])
          w.put_answers-printed.ensures room w.now-is w.text-is w.printed-is
      | in_default w ↦
          let e : heard_of (read_as (says c.args.input.now c.loop-from.from c.next_line-next.result.end)) (view c.loop-from.now).devices
          ≡ Unread =
          elim w.in_default.branch [
            | in_default-via-in-Calling+else-device_count-gt0 v ↦
                call_unheard x v.in-Calling.is (omega (arith, v.device_count.ensures, v.if-device_count-gt0.false))
            | in_default-via-in_default v ↦ unread_heard x v.in_default.not-Open v.in_default.not-Calling
          ] in
          prints (does_unread _ _ x.valid e) w.put_unread-printed.ensures room w.now-is w.text-is w.printed-is
    ]

-- ---- the goals

pub loop-from-init : goal.loop-from-init
loop-from-init c = (refl, ran_none _ _ _ _ c.requires.0)

pub shape_of-out-then-room-at : goal.shape_of-out-then-room-at
shape_of-out-then-room-at c = ran_length c.loop-from.invariant.1

pub returns-then-room-at : goal.returns-then-room-at
returns-then-room-at c = ran_past c.loop-from.invariant.1 c.if-room-at.true

pub slice_bounds-put_opening-end : goal.slice_bounds-put_opening-end
slice_bounds-put_opening-end c = sym c.loop-from.invariant.0

pub put_opening-printed-requires : goal.put_opening-printed-requires
put_opening-printed-requires c = omega (arith, c.loop-from.invariant.0)

pub decided-decision-requires : goal.decided-decision-requires
decided-decision-requires c = (heard (goal.at.decided-decision-requires c).After-next_line-next).valid

pub slice_bounds-put_answers-end : goal.slice_bounds-put_answers-end
slice_bounds-put_answers-end c = sym c.loop-from.invariant.0

pub put_answers-printed-requires : goal.put_answers-printed-requires
put_answers-printed-requires c = let x = heard (goal.at.put_answers-printed-requires c).After-next_line-next in (
  x.valid,
  (_, decided_now (came (goal.at.put_answers-printed-requires c).After-decided-decision x)),
  omega
      (arith, c.loop-from.invariant.0),
)

pub with_stage-now-requires : goal.with_stage-now-requires
with_stage-now-requires c = let x = heard (goal.at.with_stage-now-requires c).After-next_line-next in
    (x.valid, (_, change_is (came (goal.at.with_stage-now-requires c).After-decided-decision x) (Stage _) c.in-Stage.is))

pub with_commit-now-requires : goal.with_commit-now-requires
with_commit-now-requires c = let x = heard (goal.at.with_commit-now-requires c).After-next_line-next in
    (x.valid, (_, change_is (came (goal.at.with_commit-now-requires c).After-decided-decision x) (Commit _) c.in-Commit.is))

pub with_abort-now-requires : goal.with_abort-now-requires
with_abort-now-requires c = let x = heard (goal.at.with_abort-now-requires c).After-next_line-next in
    (x.valid, (_, change_is (came (goal.at.with_abort-now-requires c).After-decided-decision x) (Abort _) c.in-Abort.is))

pub with_failure-now-requires : goal.with_failure-now-requires
with_failure-now-requires c = let x = heard (goal.at.with_failure-now-requires c).After-next_line-next in
    (x.valid, (_, change_is (came (goal.at.with_failure-now-requires c).After-decided-decision x) (Fail _ _) c.in-Fail.is))

pub with_routine-now-requires : goal.with_routine-now-requires
with_routine-now-requires c = let x = heard (goal.at.with_routine-now-requires c).After-next_line-next in (
  x.valid,
  subst (λ (cs : List Command). Decided c.loop-from.now cs (Join c.in-Join.after)) (sym c.routine_in-routine.ensures)
      (change_is (came (goal.at.with_routine-now-requires c).After-decided-decision x) (Join _) c.in-Join.is),
)

pub with_restart-now-requires : goal.with_restart-now-requires
with_restart-now-requires c = let x = heard (goal.at.with_restart-now-requires c).After-next_line-next in
    let r = c.in-Restart in
    let held : to_z w16 (of_z w16 r.setting) ≡ r.setting = search rules in
    let e = r.is ∙ ap (λ (z : ℤ). Restart r.device z r.slot) (sym held) in
    (x.valid, (_, change_is (came (goal.at.with_restart-now-requires c).After-decided-decision x) (Restart _ _ _) e))

pub slice_bounds-put_unread-end : goal.slice_bounds-put_unread-end
slice_bounds-put_unread-end c = sym c.loop-from.invariant.0

pub put_unread-printed-requires : goal.put_unread-printed-requires
put_unread-printed-requires c = omega (arith, c.loop-from.invariant.0)

pub slice_bounds-text-end : goal.slice_bounds-text-end
slice_bounds-text-end c =
    printed_fits (line-prints (goal.at.slice_bounds-text-end c).Joined-said
    (heard (goal.at.slice_bounds-text-end c).After-next_line-next) c.loop-from.invariant.0)

pub slice_bounds-put_text-end : goal.slice_bounds-put_text-end
slice_bounds-put_text-end c =
    sym (printed_long
    (line-prints (goal.at.slice_bounds-put_text-end c).Joined-said
    (heard (goal.at.slice_bounds-put_text-end c).After-next_line-next) c.loop-from.invariant.0))

pub put_text-at-requires : goal.put_text-at-requires
put_text-at-requires c = let p =
    line-prints (goal.at.put_text-at-requires c).Joined-said
    (heard (goal.at.put_text-at-requires c).After-next_line-next) c.loop-from.invariant.0 in
    omega (arith, printed_long p, p.short, c.if-room-at.false, c.requires)

pub overflow_add-from : goal.overflow_add-from
overflow_add-from c = let h = end_within c.args.input.now c.loop-from.from c.loop-from-test.true in
    let e = c.next_line-next.ensures.ends in search rules

pub loop-from-smaller : goal.loop-from-smaller
loop-from-smaller c = omega (arith, c.next_line-next.ensures.ends, c.loop-from-test.true)

pub loop-from-preserved : goal.loop-from-preserved
loop-from-preserved c = let p =
    line-prints (goal.at.loop-from-preserved c).Joined-said
    (heard (goal.at.loop-from-preserved c).After-next_line-next) c.loop-from.invariant.0 in (
      p.long,
      ran_more c.next_line-next.result.end c.loop-from.invariant.1 c.loop-from-test.true c.if-room-at.false c.next_line-next.ensures.ends
          (goes p c.put_text-at.ensures),
    )

pub shape_of-out : goal.shape_of-out
shape_of-out c = ran_length c.loop-from.invariant.1

pub returns : goal.returns
returns c = ran_all c.loop-from.invariant.1 c.loop-from-test.false
