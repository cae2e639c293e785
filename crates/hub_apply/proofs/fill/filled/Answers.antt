-- `hub_apply::fill::filled` meets its contract: with each round one entry more is filled in. Assumes nothing.
use Rattle.std.proofs.Common.{arith, refl}
use lib.ListN.{length-set}
use Rattle.hub_apply.proofs.FillLaws.{fills_more, fills_all}
use Rattle.hub_apply.proofs.fill.filled.Goals as goal

pub loop-j-preserved : goal.loop-j-preserved
loop-j-preserved g c = let v = c.loop-j.invariant in
    (simp length-set v.0, λ m. fills_more m _ _ _ _ _ _ (v.1 m) (omega arith) refl)

pub returns : goal.returns
returns g c = λ m. fills_all m _ _ _ _ _ _ c.loop-j.auto.j-end c.loop-j-test.false (c.loop-j.invariant.1 m)
