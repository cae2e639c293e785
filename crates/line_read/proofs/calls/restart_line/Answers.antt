-- `line_read::calls::restart_line` meets its contract. Assumes nothing.
use Prim.Native.Nat.{◌+◌}
use mathlib.Core.Path.{◌≡◌, sym, ap, ◌∙◌}
use native.Mathlib.Omega.{arith}
use mir.Syntax.{w16}
use mir.Val.{to_z, of_z}
use Rattle.line_rules.specs.Reading.{highest8, number_up_to, setting}
use Rattle.line_read.specs.Places.{behind_letter}
use Rattle.line_read.proofs.WordLaws.{WordSays, no_number, number_says, number_bound, no_setting, setting_says}
use Rattle.line_read.specs.View.{read_as}
use Rattle.line_read.proofs.Forms.{restart-none, restart-one, restart-more, restart_all}
use borrow.Author.Rules.{rules}
use Rattle.line_read.proofs.calls.restart_line.Goals.{In_ok-device, In_ok-setting}
use Rattle.line_read.proofs.calls.restart_line.Goals as goal

-- the words, as they are found
device : (c : In_ok-device) →
    WordSays (number_up_to highest8) c.args.line.now behind_letter c.in_ok-device.device c.in_ok-device.device_end
device c = number_says highest8 _ _ _ _ (sym c.number_at.ensures ∙ c.in_ok-device.was)

value : (c : In_ok-setting) →
    WordSays setting c.args.line.now (c.in_ok-device.device_end + 1) c.in_ok-setting.setting c.in_ok-setting.end
value c = setting_says _ _ _ _ (sym c.setting_at.ensures ∙ c.in_ok-setting.was)

pub returns-in_err-device : goal.returns-in_err-device
returns-in_err-device c = rw c.from_residual.ensures (sym
    (ap read_as (restart-none _ _ (no_number highest8 _ _ (sym c.number_at.ensures ∙ c.in_err-device.was)))))

pub overflow_add-device_end : goal.overflow_add-device_end
overflow_add-device_end c = let d = device (goal.at.overflow_add-device_end c).In_ok-device in search rules

pub returns-in_err-setting : goal.returns-in_err-setting
returns-in_err-setting c = rw c.from_residual-in_err-setting.ensures (sym (ap read_as (restart-one _ _ (device (goal.at.returns-in_err-setting c).In_ok-device) (no_setting _ _ (sym c.setting_at.ensures ∙ c.in_err-setting.was)))))

pub returns-then-end-line : goal.returns-then-end-line
returns-then-end-line c = sym (ap read_as (restart-more _ _ (device (goal.at.returns-then-end-line c).In_ok-device) (value (goal.at.returns-then-end-line c).In_ok-setting) c.if-end-line.true))

pub overflow_cast-result : goal.overflow_cast-result
overflow_cast-result c = omega (arith, number_bound highest8 _ _ _ _ (sym c.number_at.ensures ∙ c.in_ok-device.was))

pub returns : goal.returns
returns c = let v = c.in_ok-setting.setting in
    let e : to_z w16 (of_z w16 v) ≡ v = search rules in
    rw e (sym (ap read_as (restart_all _ _ (device (goal.at.returns c).In_ok-device) (value (goal.at.returns c).In_ok-setting) c.if-end-line.false)))
