-- `hub_abort::put_backs` meets its contract. The loop's invariant: what is put back so far, with the devices from d on, is what is put back
-- of all devices. Assumes nothing.
use borrow.Author.Rules.{rules}
use native.Mathlib.Omega.{arith}
use mathlib.Core.Path.{◌≡◌, sym, ap, ◌∙◌}
use mathlib.Core.List.{List, [], ◌∷◌, ◌++◌}
use Prim.Native.Nat.{◌+◌, ◌-◌, ◌<◌}
use mir.Val.{to_z, of_z}
use mir.Syntax.{w16}
use Rattle.rules.specs.Answers.{Back}
use Rattle.hub_state.specs.View.{settings_of}
use Rattle.hub_answers.specs.View.{put_backs_of}
use Rattle.hub_answers.specs.declared.PutBacks.{PutBacks}
use Rattle.hub_abort.specs.PutBacks.{is_back_by, put_backs_from}
use Rattle.hub_abort.proofs.PutBackLaws.{backs_more, backs_same}
use Rattle.hub_abort.proofs.put_backs.Goals.{then-is_put_back, else-is_put_back}
use Rattle.hub_abort.proofs.put_backs.Goals as goal

pub loop-d-preserved : goal.loop-d-preserved
loop-d-preserved c = let t = c.args.tables in
    let b = c.loop-d.backs in
    let d = c.loop-d.d in
    let v = c.loop-d.invariant in
    let k : d < c.args.devices = c.loop-d-test.true in
    let f = settings_of t.after in
    let e = c.is_put_back.ensures in
    let rest = put_backs_from (is_back_by t) f (d + 1) (c.args.devices - (d + 1)) in
    elim c.if-is_put_back.branch [
      | then-is_put_back w ↦ let y : to_z w16 (of_z w16 (f d)) ≡ f d = search rules in (
        omega (arith, ap (λ (r : PutBacks). r.count) w.backs-is, w.with_put_back-backs.ensures.0, v.0),
        ap (λ (r : PutBacks). put_backs_of r ++ rest) w.backs-is
            ∙ ap (λ (r : List Back). r ++ rest) w.with_put_back-backs.ensures.1
            ∙ (λ i. (put_backs_of b ++ (record { device = d; setting = y i } ∷ [])) ++ rest)
            ∙ backs_more (is_back_by t) f (put_backs_of b) d c.args.devices k (sym e ∙ w.if-is_put_back.true)
            ∙ v.1,
      )
      | else-is_put_back w ↦ (
        omega (arith, ap (λ (r : PutBacks). r.count) w.backs-is, v.0),
        ap (λ (r : PutBacks). put_backs_of r ++ rest) w.backs-is
            ∙ backs_same (is_back_by t) f (put_backs_of b) d c.args.devices k (sym e ∙ w.if-is_put_back.false)
            ∙ v.1,
      )
    ]
