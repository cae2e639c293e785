-- `line_print::put_text` meets its contract. Assumes nothing.
use Prim.Native.Nat.{◌-◌, min}
use mathlib.Core.Path.{◌≡◌, refl, ◌∙◌}
use native.Mathlib.Omega.{arith}
use lib.ListN.{length, take}
use lib.Seq.{sets, length-take-le}
use Rattle.line_print.proofs.Stores.{pasted, copied_all}
use Rattle.line_print.proofs.put_text.Goals.{Joined-at-out, then-at-out, else-at-out}
use Rattle.line_print.proofs.put_text.Goals as goal

-- what fits is copied
copied : (c : Joined-at-out) → c.if-at-out.out ≡ sets c.args.out.now c.args.at c.args.text.now
copied c =
    let out = c.args.out.now in
    let text = c.args.text.now in
    let at = c.args.at in
    elim c.if-at-out.branch [
      | then-at-out w ↦
          let fit = w.min-fit.result in
          let n = length-take-le fit text (omega (arith, w.min-fit.ensures)) in
          w.out-is
          ∙ pasted out _ (take fit text) at _ (omega (arith, n, w.min-fit.ensures, w.if-at-out.true)) (omega (arith, n))
          w.copy_from_slice.ensures.after
          ∙ copied_all text out at fit w.min-fit.ensures
      | else-at-out w ↦
          let none : 0 ≡ min (length text) (length out - at) = omega (arith, w.if-at-out.false) in
          w.out-is ∙ copied_all text out at 0 none
    ]

pub returns : goal.returns
returns c = record { is = copied (goal.at.returns c).Joined-at-out; ends = refl }
