-- `line_read::numbers::number_at` meets its contract: what is left of the word, behind the digits read. Assumes nothing.
use Prim.Native.Nat.{suc, ◌+◌, ◌-◌, ◌*◌}
use mathlib.Core.Path.{◌≡◌, sym, ap, ◌∙◌}
use native.Mathlib.Numerals.{add-one}
use native.Mathlib.Omega.{arith}
use lib.ListN.{get_or}
use Rattle.line_rules.specs.Reading.{within}
use Rattle.line_read.specs.Places.{found_from}
use Rattle.line_read.proofs.WordLaws.{Left, word_past, word_none, digits_large, number_ended, number_missing, left_other, left_more}
use Rattle.line_read.proofs.numbers.number_at.Goals.{Else-not-is_ascii_digit}
use Rattle.line_read.proofs.numbers.number_at.Goals as goal

pub returns-then-byte-eq-SPACE : goal.returns-then-byte-eq-SPACE
returns-then-byte-eq-SPACE c = let ended = word_none _ _ c.loop-at-test.true c.if-byte-eq-SPACE.true in
    c.found.ensures ∙ number_ended _ _ _ _ _ c.loop-at.invariant.0 c.loop-at.invariant.1 ended

-- the word with the digit at this place
read-on : (c : Else-not-is_ascii_digit) →
    Left c.args.line.now c.args.from (suc c.loop-at.at) (10 * c.loop-at.value + (get_or c.args.line.now c.loop-at.at 0 - 48))
read-on c =
    let d = c.if-not-is_ascii_digit.ensures.cases in
    left_more _ _ _ c.loop-at-test.true c.if-byte-eq-SPACE.false _ c.loop-at.invariant.0 (omega (arith, d)) (omega (arith, d))

pub returns-then-not-is_ascii_digit : goal.returns-then-not-is_ascii_digit
returns-then-not-is_ascii_digit c =
    sym (number_missing _ _ _ _ _ c.loop-at.invariant.0
    (ap (within c.args.highest) (left_other _ _ _ c.loop-at-test.true c.if-byte-eq-SPACE.false c.if-not-is_ascii_digit.ensures.cases)))

pub returns-then-highest-value : goal.returns-then-highest-value
returns-then-highest-value c =
    let on = rw (sym c.from.ensures) at (read-on (goal.at.returns-then-highest-value c).Else-not-is_ascii_digit) in
    sym (number_missing c.args.highest _ _ _ _ on (digits_large _ _ _ c.if-highest-value.true))

pub loop-at-preserved : goal.loop-at-preserved
loop-at-preserved c =
    let on = read-on (goal.at.loop-at-preserved c).Else-not-is_ascii_digit in
    (rw (add-one c.loop-at.at, c.from.ensures) on, c.if-highest-value.false, omega arith)

pub returns : goal.returns
returns c =
    let e : c.max.result ≡ c.loop-at.at = omega (arith, c.max.ensures) in
    c.found-2.ensures
    ∙ ap (found_from c.loop-at.value c.args.from) e
    ∙ number_ended _ _ _ _ _ c.loop-at.invariant.0 c.loop-at.invariant.1 (word_past _ _ c.loop-at-test.false)
