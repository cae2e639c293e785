-- `line_read::calls::command_at` meets its contract. Assumes nothing.
use Prim.Native.Nat.{◌+◌}
use mathlib.Core.Path.{◌≡◌, sym, ◌∙◌}
use native.Mathlib.Omega.{arith}
use mir.Syntax.{w16}
use mir.Val.{to_z, of_z}
use Rattle.line_rules.specs.Reading.{highest8, number_up_to, setting}
use Rattle.line_read.proofs.WordLaws.{WordSays, no_number, number_says, number_bound, no_setting, setting_says}
use Rattle.line_read.proofs.Forms.{command-none, command-one, command-two, command_all}
use borrow.Author.Rules.{rules}
use Rattle.line_read.proofs.calls.command_at.Goals.{In_ok-device, In_ok-setting, In_ok-tag}
use Rattle.line_read.proofs.calls.command_at.Goals as goal

-- the words, as they are found
device : (c : In_ok-device) →
    WordSays (number_up_to highest8) c.args.line.now c.args.from c.in_ok-device.device c.in_ok-device.device_end
device c = number_says highest8 _ _ _ _ (sym c.number_at.ensures ∙ c.in_ok-device.was)

tag : (c : In_ok-tag) →
    WordSays (number_up_to highest8) c.args.line.now (c.in_ok-device.device_end + 1)
    c.in_ok-tag.tag c.in_ok-tag.tag_end
tag c = number_says highest8 _ _ _ _ (sym c.number_at-2.ensures ∙ c.in_ok-tag.was)

value : (c : In_ok-setting) →
    WordSays setting c.args.line.now (c.in_ok-tag.tag_end + 1) c.in_ok-setting.setting c.in_ok-setting.end
value c = setting_says _ _ _ _ (sym c.setting_at.ensures ∙ c.in_ok-setting.was)

pub returns-in_err-device : goal.returns-in_err-device
returns-in_err-device c = rw c.from_residual.ensures
    (λ h. command-none _ _ h (no_number highest8 _ _ (sym c.number_at.ensures ∙ c.in_err-device.was)))

pub overflow_add-device_end : goal.overflow_add-device_end
overflow_add-device_end c = let d = device (goal.at.overflow_add-device_end c).In_ok-device in search rules

pub returns-in_err-tag : goal.returns-in_err-tag
returns-in_err-tag c = let none = no_number highest8 _ _ (sym c.number_at-2.ensures ∙ c.in_err-tag.was) in
    rw c.from_residual-in_err-tag.ensures (λ _. command-one _ _ (device (goal.at.returns-in_err-tag c).In_ok-device) none)

pub overflow_add-tag_end : goal.overflow_add-tag_end
overflow_add-tag_end c = let t = tag (goal.at.overflow_add-tag_end c).In_ok-tag in search rules

pub returns-in_err-setting : goal.returns-in_err-setting
returns-in_err-setting c =
    let p = goal.at.returns-in_err-setting c in
    let none = no_setting _ _ (sym c.setting_at.ensures ∙ c.in_err-setting.was) in
    rw c.from_residual-in_err-setting.ensures (λ _. command-two _ _ (device p.In_ok-device) (tag p.In_ok-tag) none)

pub overflow_cast-command : goal.overflow_cast-command
overflow_cast-command c = omega (arith, number_bound highest8 _ _ _ _ (sym c.number_at.ensures ∙ c.in_ok-device.was))

pub overflow_cast-command-2 : goal.overflow_cast-command-2
overflow_cast-command-2 c = omega (arith, number_bound highest8 _ _ _ _ (sym c.number_at-2.ensures ∙ c.in_ok-tag.was))

pub returns : goal.returns
returns c =
    let p = goal.at.returns c in
    let d = device p.In_ok-device in
    let t = tag p.In_ok-tag in
    let v = value p.In_ok-setting in
    let z = c.in_ok-setting.setting in
    let e : to_z w16 (of_z w16 z) ≡ z = search rules in
    rw e (omega (arith, d.begins, t.begins, v.begins), v.ends, command_all _ _ d t v)
