-- `line_read::calls::id_line` meets its contract. Assumes nothing.
use mathlib.Core.Path.{refl, sym, ap, ◌∙◌}
use native.Mathlib.Omega.{arith}
use Rattle.line_rules.specs.Reading.{highest32, number_up_to}
use Rattle.line_read.specs.View.{id_call_with}
use Rattle.line_read.specs.Places.{behind_letter}
use Rattle.line_read.proofs.WordLaws.{WordSays, no_number, number_says, number_bound}
use Rattle.line_read.specs.View.{read_as}
use Rattle.line_read.proofs.Forms.{one_none, one_more, one_found}
use Rattle.line_read.proofs.calls.id_line.Goals.{In_ok-id}
use Rattle.line_read.proofs.calls.id_line.Goals as goal

-- the id's word
id : (c : In_ok-id) →
    WordSays (number_up_to highest32) c.args.line.now behind_letter c.in_ok-id.id c.in_ok-id.end
id c = number_says highest32 _ _ _ _ (sym c.number_at.ensures ∙ c.in_ok-id.was)

pub returns-in_err-id : goal.returns-in_err-id
returns-in_err-id c = let letter = c.args.letter in
    rw c.from_residual.ensures (sym (ap read_as
    (one_none highest32 (id_call_with letter) refl _ _ (no_number highest32 _ _ (sym c.number_at.ensures ∙ c.in_err-id.was)))))

pub returns-then-end-line : goal.returns-then-end-line
returns-then-end-line c = let letter = c.args.letter in
    sym (ap read_as (one_more highest32 (id_call_with letter) refl _ _ (id (goal.at.returns-then-end-line c).In_ok-id) c.if-end-line.true))

pub overflow_cast-id : goal.overflow_cast-id
overflow_cast-id c = omega (arith, number_bound highest32 _ _ _ _ (sym c.number_at.ensures ∙ c.in_ok-id.was))

pub returns : goal.returns
returns c = let letter = c.args.letter in
    c.id_call.ensures ∙ sym (ap read_as (one_found highest32 (id_call_with letter) refl _ _ (id (goal.at.returns c).In_ok-id) c.if-end-line.false))
