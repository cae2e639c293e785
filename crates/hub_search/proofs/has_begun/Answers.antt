-- `hub_search::has_begun` meets its contract. Assumes nothing.
use borrow.Author.Rules.{rules}
use native.Mathlib.Omega.{arith}
use Prim.Native.Nat.{ℕ, ◌≤◌}
use lib.ListN.{get_or}
use mir.Syntax.{w8}
use mir.Val.{Fits}
use Rattle.hub_search.specs.Contract.{highest_stage}
use Rattle.hub_search.proofs.SearchLaws.{begun-is}
use Rattle.hub_search.proofs.has_begun.Goals.{Start}
use Rattle.hub_search.proofs.has_begun.Goals as goal

-- a stage has 8 bits
stages-fit : (c : Start) (j : ℕ) → get_or c.args.state.rows.stage j 0 ≤ highest_stage
stages-fit c j = let f : Fits w8 (get_or c.args.state.rows.stage j 0) = search rules in omega (arith, f.fits)

pub returns : goal.returns
returns c = begun-is _ c.args.state.ok _ c.requires.0 _ _ _ c.requires.1 c.requires.2
    (stages-fit (goal.at.returns c).Start) c.is_staged.ensures
