-- `line_print::put_device` meets its contract. Assumes nothing.
use Prim.Native.Nat.{◌≤◌, ◌<◌}
use mathlib.Core.Path.{◌≡◌, sym, ap, ◌∙◌}
use mathlib.Core.Bool.{Bool}
use mathlib.Core.List.{[], ◌∷◌, ◌++◌, append_assoc}
use native.Mathlib.Omega.{arith}
use lib.ListN.{length}
use mir.Syntax.{w16}
use mir.Val.{to_z, of_z}
use Rattle.std.specs.Prelude.{if◌then◌else◌}
use Rattle.line_rules.specs.Text.{line_end, bytes, decimal, signed}
use Rattle.line_rules.specs.Printing.{as_line}
use Rattle.line_rules.proofs.TextLaws.{decimal-short}
use Rattle.line_print.specs.Put.{PutShort}
use Rattle.line_print.proofs.PutLaws.{short_then, exactly, within, as_text, reaches}
use borrow.Author.Rules.{rules}
use Rattle.line_print.proofs.put_device.Goals.{After-put_number-named, Start}
use Rattle.line_print.proofs.put_device.Goals as goal

held : (c : Start) → to_z w16 (of_z w16 c.args.due) ≡ c.args.due
held c = search rules

-- a device has at most three digits
digits-fit : (c : Start) → length (decimal c.args.device) ≤ 3
digits-fit c = let h : c.args.device < 1000 = omega (arith, c.ranges.device) in decimal-short 3 c.args.device (omega arith) h

named : (c : After-put_number-named) →
    PutShort 10 c.args.out.now c.put_number-named.new.out c.args.at c.put_number-named.result
    (bytes "device " ++ decimal c.args.device)
named c =
    within (omega (arith, digits-fit c.before.before.before.before.before.before.before.before.before)) (short_then (exactly c.put_word-word.ensures) (exactly c.put_number-named.ensures))

pub put_number-named-requires : goal.put_number-named-requires
put_number-named-requires c = omega (arith, c.requires, digits-fit (goal.at.put_number-named-requires c).Start, c.put_word-word.ensures.ends)

pub put_word-told-requires : goal.put_word-told-requires
put_word-told-requires c = omega (arith, c.requires, reaches (named (goal.at.put_word-told-requires c).After-put_number-named))

pub put_setting-end-requires : goal.put_setting-end-requires
put_setting-end-requires c = omega (arith, c.requires, reaches (named (goal.at.put_setting-end-requires c).After-put_number-named), c.put_word-told.ensures.ends)

pub put_end-requires : goal.put_end-requires
put_end-requires c = omega (
  arith,
  c.requires,
  reaches (named (goal.at.put_end-requires c).After-put_number-named),
  c.put_word-told.ensures.ends,
  reaches c.put_setting-end.ensures,
)

pub returns-then-up : goal.returns-then-up
returns-then-up c = let d = bytes "device " ++ decimal c.args.device in
    as_text
    (ap as_line (append_assoc d (bytes " up ") (signed c.args.due))
    ∙ ap (λ (t : Bool). as_line (d ++ (if t then bytes " up " ++ signed c.args.due else bytes " down"))) (sym c.if-up.true))
    (within (omega arith)
    (short_then (short_then (short_then (named (goal.at.returns-then-up c).After-put_number-named) (exactly c.put_word-told.ensures)) (rw (held (goal.at.returns-then-up c).Start) at c.put_setting-end.ensures))
    (exactly c.put_end.ensures)))

pub put_word-requires : goal.put_word-requires
put_word-requires c = omega (arith, c.requires, reaches (named (goal.at.put_word-requires c).After-put_number-named))

pub returns : goal.returns
returns c = let d = bytes "device " ++ decimal c.args.device in
    as_text
    (sym (append_assoc d (bytes " down") (line_end ∷ []))
    ∙ ap (λ (t : Bool). as_line (d ++ (if t then bytes " up " ++ signed c.args.due else bytes " down"))) (sym c.if-up.false))
    (within (omega arith) (short_then (named (goal.at.returns c).After-put_number-named) (exactly c.put_word.ensures)))
