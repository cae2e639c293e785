-- `hub_sequence::order::free_row` meets its contract. Assumes nothing.
use lib.Seq.{get_or-set_same, get_or-set_other}
use borrow.Author.Rules.{rules}
use native.Mathlib.Omega.{arith}
use mathlib.Core.Path.{◌∙◌}
use Prim.Native.Nat.{◌<◌}
use lib.ListN.{length, length-set, get_or-replicate}
use Rattle.rules_routine.specs.Limits.{max_sequence}
use Rattle.hub_sequence.specs.Links.{none}
use Rattle.hub_sequence.proofs.Tables.{by_eq}
use Rattle.hub_sequence.proofs.order.free_row.Goals as goal

pub loop-i-init : goal.loop-i-init
loop-i-init c = (search rules, λ x h. absurd (omega arith), λ x h k. get_or-replicate max_sequence x none 0 k)

pub loop-i-preserved : goal.loop-i-preserved
loop-i-preserved c = let v = c.loop-i.invariant in
    let a = c.loop-i.row in
    let i = c.loop-i.i in
    let h : i < length a = omega arith in (
      simp length-set v.0,
      λ x k. by_eq x i
          (λ e. rw e (get_or-set_same a i _ 0 h))
          (λ n. get_or-set_other a i x _ 0 n ∙ v.1 x (omega arith)),
      λ x k m. get_or-set_other a i x _ 0 (λ e. omega arith) ∙ v.2 x (omega arith) m,
    )

pub returns : goal.returns
returns c = let v = c.loop-i.invariant in
    record { along = λ x h. v.1 x (omega arith); ends = λ x h. v.2 x (omega arith) (omega arith) }
