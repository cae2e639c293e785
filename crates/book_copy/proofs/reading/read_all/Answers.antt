-- `book_copy::reading::read_all` meets its contract. The loop's invariant: after so many turns the rows are those of the first so many
-- routines, and the others are still to be handed out. Assumes nothing.
use Rattle.std.proofs.Common.{◌≡◌, ◌+◌, List, length, drop, sym, ap, ap₂, subst, ◌∙◌, arith, ℕ, Ok, Some}
use lib.Seq.{take_all}
use Rattle.rules_routine.specs.declared.Command.{Command}
use Rattle.rules_routine.specs.declared.Routine.{Routine}
use Rattle.rules_routine.proofs.RoutineLaws.{length-commands_of}
use Rattle.book_layout.specs.Claims.{Hands, Bytes}
use Rattle.book_layout.specs.declared.Next.{Next}
use Rattle.book_layout.proofs.RoundTrip.{hands_make}
use Rattle.book_layout.proofs.Theorems.{read_then_write}
use Rattle.book_copy.specs.Rows.{rows_of, RowsHanded, with_routine}
use Rattle.book_copy.proofs.CopyLaws.{rows_more, routines-short, CopyStep, step_handed, step_ended}
use Rattle.book_copy.proofs.reading.read_all.Goals.{After-next-next, In-Ok-Some}
use Rattle.book_copy.proofs.reading.read_all.Goals as goal

-- the step that handed a routine out
step : (c : In-Ok-Some) → (rs : List (List Command)) → Hands c.args.book.now 0 rs →
    CopyStep c.args.book.now c.loop.position c.loop.counter rs c.in-Ok-Some.routine
step c rs h =
    let n = ap (λ (x : Next). x.item) c.next-next.ensures in
    let f = rw c.in-Ok-Some.is at c.in-Ok-Some.field-0-is in
    step_handed _ _ _ rs _ (c.loop.invariant rs h).0 (sym n ∙ c.in-Ok-Some.is ∙ ap Ok f)

-- a step that hands no routine out ends the reading
ended : (c : After-next-next) → ((q : Routine) → c.next-next.result.item ≡ Ok (Some q) → ⊥) → RowsHanded c.args.book.now c.loop.rows
ended c h rs w =
    let k = c.loop.invariant rs w in
    let over = step_ended _ _ c.loop.counter rs k.0 (λ q e. h q (ap (λ (x : Next). x.item) c.next-next.ensures ∙ e)) in
    k.1 ∙ ap rows_of (take_all _ rs over)

pub returns-in-Ok-None : goal.returns-in-Ok-None
returns-in-Ok-None c = ended (goal.at.returns-in-Ok-None c).After-next-next
    (λ q e. let f = rw c.in-Ok-None.is at c.in-Ok-None.field-0-is in cc)

pub returns-in-Err : goal.returns-in-Err
returns-in-Err c = ended (goal.at.returns-in-Err c).After-next-next (λ q e. cc)

pub with_routine-rows-requires : goal.with_routine-rows-requires
with_routine-rows-requires c = let b = c.args.book.now in
    let bytes : Bytes b = λ i. (c.type_inv.book i).fits in
    let w = (read_then_write b bytes).0 c.requires in
    let m = hands_make b bytes w.0 w.1 in
    let t = step (goal.at.with_routine-rows-requires c).In-Ok-Some w.0 w.1 in
    omega (arith, routines-short w.0 c.loop.counter m.fine, ap length t.same, length-commands_of c.in-Ok-Some.routine)

pub loop-preserved : goal.loop-preserved
loop-preserved c = let b = c.args.book.now in
    λ rs h.
    let k = c.loop.invariant rs h in
    let m = hands_make b (λ i. (c.type_inv.book i).fits) rs h in
    let t = step (goal.at.loop-preserved c).In-Ok-Some rs h in (
      subst (λ (p : ℕ). Hands b p (drop (c.loop.counter + 1) rs)) (sym (ap (λ (x : Next). x.position) c.next-next.ensures)) t.left,
      c.with_routine-rows.ensures ∙ ap₂ with_routine k.1 t.same
          ∙ rows_more rs c.loop.counter m.fine t.there (omega (arith, c.loop-test.true)),
    )

pub returns : goal.returns
returns c = λ rs h.
    let m = hands_make c.args.book.now (λ i. (c.type_inv.book i).fits) rs h in
    (c.loop.invariant rs h).1 ∙ ap rows_of (take_all c.loop.counter rs (omega (arith, m.few, c.loop-test.false)))
