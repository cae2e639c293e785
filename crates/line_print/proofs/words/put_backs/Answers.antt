-- `line_print::words::put_backs` meets its contract. The loop's invariant: the first i are put behind the count. Assumes nothing.
use mathlib.Core.Path.{◌≡◌, refl, sym, ap₂, ◌∙◌}
use mathlib.Core.List.{◌++◌, map}
use Prim.Native.Nat.{ℕ, ◌≤◌, ◌<◌}
use native.Mathlib.Omega.{arith}
use borrow.Author.Rules.{rules}
use lib.ListN.{length, take}
use Rattle.rules_routine.specs.Limits.{max_devices}
use Rattle.rules_routine.proofs.RoutineLaws.{length_mapped}
use Rattle.hub_answers.specs.View.{back_of}
use Rattle.line_rules.specs.Text.{bytes, decimal}
use Rattle.line_rules.specs.Printing.{back_list, back_text}
use Rattle.line_rules.proofs.TextLaws.{decimal-short}
use Rattle.line_print.specs.Put.{PutShort}
use Rattle.line_print.proofs.PutLaws.{put-none, short_then, shorter, within, as_text, reaches, backs_next, backs_count}
use Rattle.line_print.proofs.words.put_backs.Goals.{After-put_one-to, Start}
use Rattle.line_print.proofs.words.put_backs.Goals as goal

long : (c : Start) → length c.args.backs.items ≡ max_devices
long c = search (rules, length_mapped)

-- the word and the count, of two digits at most
first : (c : After-put_one-to) →
    PutShort 8 c.args.out.now c.put_one-to.new.out c.args.at c.put_one-to.result (bytes " back " ++ decimal c.args.backs.count)
first c =
    shorter (bytes " back ") (decimal c.args.backs.count) c.put_one-to.ensures.put
    (decimal-short 2 c.args.backs.count (omega arith) (omega (arith, c.requires.1)))

pub loop-i-init : goal.loop-i-init
unfolding back_list
loop-i-init c = (
  refl,
  record { put = put-none c.put_one-to.new.out c.put_one-to.result; short = omega arith },
)

pub put_back-to-requires : goal.put_back-to-requires
put_back-to-requires c = omega (arith, c.requires, reaches (first (goal.at.put_back-to-requires c).After-put_one-to), reaches c.loop-i.invariant.1)

pub loop-i-preserved : goal.loop-i-preserved
loop-i-preserved c = let h : c.loop-i.i < length c.args.backs.items = omega (arith, long (goal.at.loop-i-preserved c).Start) in (
  c.put_back-to.auto.out ∙ c.loop-i.invariant.0,
  as_text (sym (backs_next c.args.backs.items c.loop-i.i _ h))
      (within (omega arith) (short_then c.loop-i.invariant.1 c.put_back-to.ensures)),
)

pub returns : goal.returns
unfolding back_text
returns c = let b = c.args.backs in
    let h : b.count ≤ length b.items = omega (arith, long (goal.at.returns c).Start, c.requires.1) in
    let e : c.loop-i.i ≡ b.count = omega arith in
    as_text
    (ap₂ (λ (n i : ℕ). (bytes " back " ++ decimal n) ++ back_list (map back_of (take i b.items))) (sym (backs_count b h)) e)
    (within (omega arith) (short_then (first (goal.at.returns c).After-put_one-to) c.loop-i.invariant.1))
