-- `line_read::numbers::setting_at` meets its contract. Assumes nothing.
use Prim.Native.Nat.{◌<◌}
use mathlib.Core.Path.{◌≡◌, sym, ap, ◌∙◌}
use mathlib.Core.Logic.{◌≢◌}
use native.Mathlib.Omega.{arith}
use lib.ListN.{length, get_or}
use mir.Syntax.{w16}
use mir.Val.{to_z, of_z}
use mir.Facts.{to_z_pos}
use Rattle.line_rules.specs.Text.{minus}
use Rattle.line_rules.specs.Reading.{lowest16, highest16}
use Rattle.line_read.specs.Places.{setting_at}
use Rattle.line_read.proofs.WordLaws.{minus_held, plain_held, setting-minus, setting_plain, number_bound}
use borrow.Author.Rules.{rules}
use Rattle.line_read.proofs.numbers.setting_at.Goals.{After-number_at, After-number_at-2, then-from-line+else-line-from-eq-MINUS, else-from-line}
use Rattle.line_read.proofs.numbers.setting_at.Goals as goal

-- the setting by the number behind its minus
behind : (c : After-number_at) → let a = c.args in
    setting_at a.line.now a.from ≡ minus_held c.number_at.result
behind c = let a = c.args in
    setting-minus a.line.now a.from c.if-from-line.true c.if-line-from-eq-MINUS.true
    ∙ ap minus_held (sym c.number_at.ensures)

pub returns-in_err-size : goal.returns-in_err-size
returns-in_err-size c =
    rw c.from_residual.ensures (sym (behind (goal.at.returns-in_err-size c).After-number_at ∙ ap minus_held c.in_err-size.was))

pub negated-requires : goal.negated-requires
negated-requires c = number_bound lowest16 _ _ _ _ (sym c.number_at.ensures ∙ c.in_ok-size.was)

pub returns-then-line-from-eq-MINUS : goal.returns-then-line-from-eq-MINUS
returns-then-line-from-eq-MINUS c = let e : to_z w16 (of_z w16 c.negated.result) ≡ c.negated.result = search rules in
    rw (e, c.negated.ensures) (sym (behind (goal.at.returns-then-line-from-eq-MINUS c).After-number_at ∙ ap minus_held c.in_ok-size.was))

-- the setting by its number, with no minus
plain : (c : After-number_at-2) → let a = c.args in
    setting_at a.line.now a.from ≡ plain_held c.number_at-2.result
plain c = let a = c.args in
    let n : a.from < length a.line.now → get_or a.line.now a.from 0 ≢ minus =
    elim c.if-from-line.branch [ then-from-line+else-line-from-eq-MINUS w ↦ λ _. w.if-line-from-eq-MINUS.false | else-from-line w ↦ λ h. absurd (omega (arith, w.if-from-line.false)) ] in
    setting_plain a.line.now a.from n ∙ ap plain_held (sym c.number_at-2.ensures)

pub returns-in_err-value : goal.returns-in_err-value
returns-in_err-value c =
    rw c.from_residual-in_err-value.ensures (sym (plain (goal.at.returns-in_err-value c).After-number_at-2 ∙ ap plain_held c.in_err-value.was))

-- the number fits 16 bits
pub overflow_cast-result : goal.overflow_cast-result
overflow_cast-result c = let h = number_bound highest16 _ _ _ _ (sym c.number_at-2.ensures ∙ c.in_ok-value.was) in
    record { sfits = omega arith }

pub returns : goal.returns
returns c = let h = number_bound highest16 _ _ _ _ (sym c.number_at-2.ensures ∙ c.in_ok-value.was) in
    rw (to_z_pos w16 {n = c.in_ok-value.value} (omega arith)) (sym (plain (goal.at.returns c).After-number_at-2 ∙ ap plain_held c.in_ok-value.was))
