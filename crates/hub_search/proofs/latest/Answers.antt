-- `hub_search::latest` meets its contract. The loop seeks along the links from the last on. Assumes nothing.
use native.Mathlib.Omega.{arith}
use mathlib.Core.Path.{sym, ◌∙◌}
use Rattle.rules_routine.proofs.RoutineLaws.{length-commands_of}
use Rattle.hub_sequence.proofs.ReadLaws.{walks-ahead}
use Rattle.hub_search.proofs.Slots.{seeks_start, seeks_on, seeks_less}
use Rattle.hub_search.proofs.SearchLaws.{blocks-committed, blocks-few, latest_marked, latest_passed, latest_none}
use Rattle.hub_search.proofs.latest.Goals.{else-not-committed-x-via-else-not-committed-x}
use Rattle.hub_search.proofs.latest.Goals.{else-not-committed-x-via-then-not-committed-x+else-limit-passed}
use Rattle.hub_search.proofs.latest.Goals as goal

pub loop-i-init : goal.loop-i-init
loop-i-init c = seeks_start _ _ _ (walks-ahead _ c.args.state.ok.links_ok)

pub returns-then-limit-passed : goal.returns-then-limit-passed
returns-then-limit-passed c =
    latest_passed _ c.args.state.ok _ _ _ (length-commands_of _) c.marks_of-wanted.ensures c.loop-i.invariant c.loop-i-test.true
    c.if-not-committed-x.true-raw
    (omega (arith, c.if-limit-passed.true))

pub returns-then-has_id : goal.returns-then-has_id
returns-then-has_id c =
    latest_marked _ c.args.state.ok _ _ _ (length-commands_of _) c.marks_of-wanted.ensures c.loop-i.invariant c.loop-i-test.true
    (sym c.has_id.ensures ∙ c.if-has_id.true)

pub loop-i-smaller : goal.loop-i-smaller
loop-i-smaller c = seeks_less c.loop-i.invariant c.loop-i-test.true

pub loop-i-preserved : goal.loop-i-preserved
loop-i-preserved c = let o = sym c.has_id.ensures ∙ c.if-has_id.false in
    seeks_on c.loop-i.invariant c.loop-i-test.true
    (elim c.else-not-committed-x.branch [
      | else-not-committed-x-via-then-not-committed-x+else-limit-passed w ↦ blocks-few _ _ _ _ _ _ _ o w.if-limit-passed.false
      | else-not-committed-x-via-else-not-committed-x w ↦ blocks-committed _ _ _ _ _ _ _ o w.if-not-committed-x.false-raw
    ])

pub returns : goal.returns
returns c = latest_none _ c.args.state.ok _ _ _ (length-commands_of _) c.marks_of-wanted.ensures c.loop-i.invariant c.loop-i-test.false
