-- `line_read::calls::fail_line` meets its contract. Assumes nothing.
use mathlib.Core.Path.{refl, sym, ap, ◌∙◌}
use native.Mathlib.Omega.{arith}
use Rattle.line_rules.specs.Reading.{fails}
use Rattle.line_rules.specs.Reading.{highest8, call_with, number_up_to}
use Rattle.line_read.specs.Places.{behind_letter}
use Rattle.line_read.proofs.WordLaws.{WordSays, no_number, number_says, number_bound}
use Rattle.line_read.specs.View.{read_as}
use Rattle.line_read.proofs.Forms.{one_none, one_more, one_found}
use Rattle.line_read.proofs.calls.fail_line.Goals.{In_ok-device}
use Rattle.line_read.proofs.calls.fail_line.Goals as goal

-- the device's word
device : (c : In_ok-device) →
    WordSays (number_up_to highest8) c.args.line.now behind_letter c.in_ok-device.device c.in_ok-device.end
device c = number_says highest8 _ _ _ _ (sym c.number_at.ensures ∙ c.in_ok-device.was)

pub returns-in_err-device : goal.returns-in_err-device
returns-in_err-device c = rw c.from_residual.ensures (sym (ap read_as
    (one_none highest8 (call_with fails) refl _ _
    (no_number highest8 _ _ (sym c.number_at.ensures ∙ c.in_err-device.was)))))

pub returns-then-end-line : goal.returns-then-end-line
returns-then-end-line c = sym (ap read_as (one_more highest8 (call_with fails) refl _ _ (device (goal.at.returns-then-end-line c).In_ok-device) c.if-end-line.true))

pub overflow_cast-result : goal.overflow_cast-result
overflow_cast-result c = omega (arith, number_bound highest8 _ _ _ _ (sym c.number_at.ensures ∙ c.in_ok-device.was))

pub returns : goal.returns
returns c = sym (ap read_as (one_found highest8 (call_with fails) refl _ _ (device (goal.at.returns c).In_ok-device) c.if-end-line.false))
