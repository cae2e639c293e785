-- `line_print::words::put_sent` meets its contract. Assumes nothing.
use mathlib.Core.Path.{◌≡◌}
use native.Mathlib.Omega.{arith}
use mir.Syntax.{w16}
use mir.Val.{to_z, of_z}
use Rattle.line_rules.specs.Printing.{answer_text}
use Rattle.line_print.proofs.PutLaws.{short_then, exactly, within}
use borrow.Author.Rules.{rules}
use Rattle.line_print.proofs.words.put_sent.Goals.{Start}
use Rattle.line_print.proofs.words.put_sent.Goals as goal

held : (c : Start) → to_z w16 (of_z w16 c.args.sent.command.setting) ≡ c.args.sent.command.setting
held c = search rules

pub returns : goal.returns
unfolding answer_text
returns c = let e : to_z w16 (of_z w16 c.args.sent.command.setting) ≡ c.args.sent.command.setting = held (goal.at.returns c).Start in
    within (omega arith)
    (short_then (short_then c.put_two-named.ensures (exactly c.put_word-from.ensures)) (rw e at c.put_setting.ensures))
