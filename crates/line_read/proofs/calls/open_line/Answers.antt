-- `line_read::calls::open_line` meets its contract. Assumes nothing.
use Prim.Native.Nat.{◌+◌}
use mathlib.Core.Path.{sym, ap, ◌∙◌}
use native.Mathlib.Omega.{arith}
use Rattle.line_rules.specs.Reading.{highest8, highest32, number_up_to}
use Rattle.line_read.specs.Places.{behind_letter}
use Rattle.line_read.proofs.WordLaws.{WordSays, no_number, number_says, number_bound}
use Rattle.line_read.specs.View.{read_as}
use Rattle.line_read.proofs.Forms.{open_none, open_one, open_two, open_more, open_all}
use borrow.Author.Rules.{rules}
use Rattle.line_read.proofs.calls.open_line.Goals.{In_ok-devices, In_ok-first, In_ok-pass_limit}
use Rattle.line_read.proofs.calls.open_line.Goals as goal

-- the words, as they are found
devices : (c : In_ok-devices) →
    WordSays (number_up_to highest8) c.args.line.now behind_letter c.in_ok-devices.devices c.in_ok-devices.devices_end
devices c = number_says highest8 _ _ _ _ (sym c.number_at.ensures ∙ c.in_ok-devices.was)

limit : (c : In_ok-pass_limit) →
    WordSays (number_up_to highest8) c.args.line.now (c.in_ok-devices.devices_end + 1)
    c.in_ok-pass_limit.pass_limit c.in_ok-pass_limit.limit_end
limit c = number_says highest8 _ _ _ _ (sym c.number_at-2.ensures ∙ c.in_ok-pass_limit.was)

first : (c : In_ok-first) →
    WordSays (number_up_to highest32) c.args.line.now (c.in_ok-pass_limit.limit_end + 1)
    c.in_ok-first.first c.in_ok-first.end
first c = number_says highest32 _ _ _ _ (sym c.number_at-3.ensures ∙ c.in_ok-first.was)

pub returns-in_err-devices : goal.returns-in_err-devices
returns-in_err-devices c =
    let none = no_number highest8 _ _ (sym c.number_at.ensures ∙ c.in_err-devices.was) in
    rw c.from_residual.ensures (sym (ap read_as (open_none _ _ none)))

pub overflow_add-devices_end : goal.overflow_add-devices_end
overflow_add-devices_end c = let d = devices (goal.at.overflow_add-devices_end c).In_ok-devices in search rules

pub returns-in_err-pass_limit : goal.returns-in_err-pass_limit
returns-in_err-pass_limit c =
    let p = goal.at.returns-in_err-pass_limit c in
    let none = no_number highest8 _ _ (sym c.number_at-2.ensures ∙ c.in_err-pass_limit.was) in
    rw c.from_residual-in_err-pass_limit.ensures (sym (ap read_as (open_one _ _ (devices p.In_ok-devices) none)))

pub overflow_add-limit_end : goal.overflow_add-limit_end
overflow_add-limit_end c = let k = limit (goal.at.overflow_add-limit_end c).In_ok-pass_limit in search rules

pub returns-in_err-first : goal.returns-in_err-first
returns-in_err-first c =
    let p = goal.at.returns-in_err-first c in
    let none = no_number highest32 _ _ (sym c.number_at-3.ensures ∙ c.in_err-first.was) in
    rw c.from_residual-in_err-first.ensures (sym (ap read_as (open_two _ _ (devices p.In_ok-devices) (limit p.In_ok-pass_limit) none)))

pub returns-then-end-line : goal.returns-then-end-line
returns-then-end-line c =
    let p = goal.at.returns-then-end-line c in
    sym (ap read_as (open_more _ _ (devices p.In_ok-devices) (limit p.In_ok-pass_limit) (first p.In_ok-first) c.if-end-line.true))

pub overflow_cast-result : goal.overflow_cast-result
overflow_cast-result c = omega (arith, number_bound highest8 _ _ _ _ (sym c.number_at.ensures ∙ c.in_ok-devices.was))

pub overflow_cast-result-2 : goal.overflow_cast-result-2
overflow_cast-result-2 c = omega (arith, number_bound highest8 _ _ _ _ (sym c.number_at-2.ensures ∙ c.in_ok-pass_limit.was))

pub overflow_cast-result-3 : goal.overflow_cast-result-3
overflow_cast-result-3 c = omega (arith, number_bound highest32 _ _ _ _ (sym c.number_at-3.ensures ∙ c.in_ok-first.was))

pub returns : goal.returns
returns c =
    let p = goal.at.returns c in
    sym (ap read_as (open_all _ _ (devices p.In_ok-devices) (limit p.In_ok-pass_limit) (first p.In_ok-first) c.if-end-line.false))
