-- `line_read::calls::submit_line` meets its contract. Assumes nothing.
use Prim.Native.Nat.{◌+◌}
use mathlib.Core.Path.{sym, ap, ◌∙◌}
use native.Mathlib.Omega.{arith}
use Rattle.rules_routine.specs.declared.Routine.{Routine}
use Rattle.line_rules.specs.Reading.{commands}
use Rattle.line_read.specs.Places.{words_from}
use Rattle.line_read.proofs.Forms.{submit_from, submit-more, submit_end}
use Rattle.line_read.proofs.calls.submit_line.Goals as goal

pub loop-at-preserved : goal.loop-at-preserved
loop-at-preserved c =
    let rest = commands (words_from c.args.line.now (c.in_ok-command.end + 1)) in
    ap (λ (r : Routine). submit_from r rest) c.with_command-routine.ensures
    ∙ sym (submit-more c.loop-at.routine c.in_ok-command.command rest)
    ∙ sym (ap (submit_from c.loop-at.routine) c.in_ok-command.ensures.2)
    ∙ c.loop-at.invariant

pub returns : goal.returns
returns c = sym (submit_end c.args.line.now c.loop-at.at c.loop-at.routine (omega arith)) ∙ c.loop-at.invariant
