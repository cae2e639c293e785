-- `hub_search::halfway` meets its contract. The loop seeks along the links. Assumes nothing.
use borrow.Author.Rules.{rules}
use Prim.Native.Nat.{ℕ, ◌≤◌, ◌<◌}
use native.Mathlib.Omega.{arith}
use lib.ListN.{get_or}
use mir.Syntax.{w8}
use mir.Val.{Fits}
use Rattle.rules_routine.specs.Limits.{max_commands, max_sequence}
use Rattle.hub_sequence.proofs.ReadLaws.{walks-behind}
use Rattle.hub_search.specs.Contract.{highest_stage}
use Rattle.hub_search.proofs.Slots.{seeks_start, seeks_there, seeks_on, seeks_less}
use Rattle.hub_search.proofs.SearchLaws.{halfway_committed, halfway_unbegun, halfway_finished, commands_fit, halfway_at}
use Rattle.hub_search.proofs.SearchLaws.{halfway_nowhere}
use Rattle.hub_search.proofs.halfway.Goals.{In-loop-i, Start, else-not-committed-i, then-not-committed-i+else-is_staged}
use Rattle.hub_search.proofs.halfway.Goals.{else-is_staged-via-then-is_staged+else-is_staged-2, else-is_staged-via-else-is_staged}
use Rattle.hub_search.proofs.halfway.Goals as goal

-- the slot, and how many commands it has
fits : (c : In-loop-i) →
    let h = c.args.state.rows in
    let x = c.loop-i.i in
    (x < max_sequence) × (get_or h.counts x 0 ≤ max_commands)
fits c =
    commands_fit _ c.args.state.ok _ (seeks_there c.loop-i.invariant c.loop-i-test.true)

-- a stage has 8 bits
stages-fit : (c : Start) (j : ℕ) → get_or c.args.state.rows.stage j 0 ≤ highest_stage
stages-fit c j = let f : Fits w8 (get_or c.args.state.rows.stage j 0) = search rules in omega (arith, f.fits)

pub loop-i-init : goal.loop-i-init
loop-i-init c = seeks_start _ _ _ (walks-behind _ c.args.state.ok.links_ok)

pub is_staged-requires : goal.is_staged-requires
is_staged-requires c = let f = fits (goal.at.is_staged-requires c).In-loop-i in (omega arith, omega arith)

pub is_staged-requires-then-is_staged : goal.is_staged-requires-then-is_staged
is_staged-requires-then-is_staged c = let f = fits (goal.at.is_staged-requires-then-is_staged c).In-loop-i in (omega arith, omega arith)

pub returns-then-is_staged-2 : goal.returns-then-is_staged-2
returns-then-is_staged-2 c =
    halfway_at _ c.args.state.ok _
    (stages-fit (goal.at.returns-then-is_staged-2 c).Start) c.loop-i.invariant c.loop-i-test.true c.if-not-committed-i.true-raw
    c.is_staged.ensures
    c.is_staged-then-is_staged.ensures c.if-is_staged.true c.if-is_staged-2.true

pub loop-i-smaller : goal.loop-i-smaller
loop-i-smaller c = seeks_less c.loop-i.invariant c.loop-i-test.true

pub loop-i-preserved : goal.loop-i-preserved
loop-i-preserved c = seeks_on c.loop-i.invariant c.loop-i-test.true
    (elim c.if-not-committed-i.branch [
      | then-not-committed-i+else-is_staged v ↦ elim v.else-is_staged.branch [
        | else-is_staged-via-then-is_staged+else-is_staged-2 w ↦
            halfway_unbegun _ _ _ _ _ _ w.is_staged-then-is_staged.ensures w.if-is_staged-2.false
        | else-is_staged-via-else-is_staged w ↦ halfway_finished _ _ _ _ _ _ v.is_staged.ensures w.if-is_staged.false
      ]
      | else-not-committed-i w ↦ halfway_committed _ _ _ _ _ _ w.if-not-committed-i.false-raw
    ])

pub returns : goal.returns
returns c = halfway_nowhere _ c.args.state.ok _ (stages-fit (goal.at.returns c).Start) c.loop-i.invariant c.loop-i-test.false
