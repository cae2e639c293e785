-- `line_print::words::put_back` meets its contract. Assumes nothing.
use mathlib.Core.Path.{◌≡◌, sym}
use Prim.Native.Nat.{◌≤◌}
use native.Mathlib.Omega.{arith}
use lib.ListN.{length}
use mir.Syntax.{w8, w16}
use mir.Val.{Fits, to_z, of_z}
use Rattle.hub_answers.specs.View.{back_of}
use Rattle.line_rules.specs.Text.{bytes, decimal}
use Rattle.line_rules.proofs.TextLaws.{decimal-short}
use Rattle.line_print.proofs.PutLaws.{short_then, exactly, shorter, as_text, back_one}
use borrow.Author.Rules.{rules}
use Rattle.line_print.proofs.words.put_back.Goals.{Start}
use Rattle.line_print.proofs.words.put_back.Goals as goal

-- a device has at most three digits
few : (c : Start) → length (decimal c.args.back.device) ≤ 3
few c = let h : Fits w8 c.args.back.device = search rules in
    decimal-short 3 c.args.back.device (omega arith) (omega (arith, h.fits))

pub put_word-from-requires : goal.put_word-from-requires
put_word-from-requires c = omega (arith, c.requires, c.put_one-named.ensures.put.ends, few (goal.at.put_word-from-requires c).Start)

pub put_setting-requires : goal.put_setting-requires
put_setting-requires c = omega (arith, c.requires, c.put_one-named.ensures.put.ends, c.put_word-from.ensures.ends, few (goal.at.put_setting-requires c).Start)

pub returns : goal.returns
returns c = let e : to_z w16 (of_z w16 c.args.back.setting) ≡ c.args.back.setting = search rules in
    as_text (sym (back_one (back_of c.args.back)))
    (short_then (short_then (shorter (bytes " ") (decimal c.args.back.device) c.put_one-named.ensures.put (few (goal.at.returns c).Start))
    (exactly c.put_word-from.ensures))
    (rw e at c.put_setting.ensures))
