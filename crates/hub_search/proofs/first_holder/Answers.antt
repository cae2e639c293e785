-- `hub_search::first_holder` meets its contract. The outer loop seeks along the links, up to `at`; the inner one: what is left gives what
-- the whole gives; for a command it begins past those that are answered. Assumes nothing.
use Prim.Native.Nat.{◌≤◌, ◌<◌}
use native.Mathlib.Omega.{arith}
use mathlib.Core.Bool.{false}
use mathlib.Core.Path.{◌≡◌, refl, sym, ap, ◌∙◌}
use lib.ListN.{get_or}
use Rattle.rules_routine.specs.Limits.{max_commands, max_sequence}
use Rattle.hub_sequence.specs.Links.{Stands}
use Rattle.hub_sequence.proofs.ReadLaws.{walks-behind}
use Rattle.hub_state.proofs.Members.{answered_most}
use Rattle.hub_search.proofs.Slots.{seeks_start, seeks_there, seeks_on, seeks_less}
use Rattle.hub_search.proofs.Commands.{bound_of, below_at, at_hit, at_on, at_end, below_here, below_other, below_bound}
use Rattle.hub_search.proofs.SearchLaws.{below_start, below_left, holds-committed, holds_off, commands_fit}
use Rattle.hub_search.proofs.SearchLaws.{holder_slot}
use Rattle.hub_search.proofs.SearchLaws.{holder_nobody, holder_found}
use Rattle.hub_search.proofs.first_holder.Goals.{In-ahead, Joined-condition, Joined-condition-2, else-condition, else-condition-2}
use Rattle.hub_search.proofs.first_holder.Goals.{else-device-k-via-else-device-k, else-device-k-via-then-device-k+else-stage-k}
use Rattle.hub_search.proofs.first_holder.Goals.{else-not-committed-i, then-condition, then-condition-2}
use Rattle.hub_search.proofs.first_holder.Goals.{then-not-committed-i+else-loop-k-test}
use Rattle.hub_search.proofs.first_holder.Goals as goal

-- whom a command waits for, and whom a condition
bound-is : (c : Joined-condition) → c.if-condition.bound ≡ bound_of c.args.condition
bound-is c = (elim c.if-condition.branch [
  | then-condition w ↦ w.bound-is
      ∙ sym (ap bound_of w.if-condition.true)
  | else-condition w ↦ w.bound-is ∙ sym (ap bound_of w.if-condition.false)
])

-- the walk is at a slot that stands
at_slot : (c : In-ahead) → Stands c.args.state.rows.links c.ahead.i
at_slot c =
    let s = c.ahead.invariant.1 in
    seeks_there s
    (holder_slot _ c.args.state.ok _ _ c.requires.1 c.requires.2 c.args.condition (bound-is c.before.before.before) _ _ c.requires.0 s)

-- the slot, how many commands it has, and how many of them are answered
fits : (c : In-ahead) →
    let h = c.args.state.rows in
    let x = c.ahead.i in
    (x < max_sequence) × (get_or h.counts x 0 ≤ max_commands) × (get_or h.answered x 0 ≤ get_or h.counts x 0)
fits c =
    let v = c.args.state.ok in
    let s = at_slot c in
    let f = commands_fit _ v _ s in
    (f.0, f.1, answered_most _ _ v s)

pub ahead-init : goal.ahead-init
ahead-init c = (refl, seeks_start _ _ _ (walks-behind _ c.args.state.ok.links_ok))

pub bounds-committed-i : goal.bounds-committed-i
bounds-committed-i c = (fits (goal.at.bounds-committed-i c).In-ahead).0

pub overflow_mul-start : goal.overflow_mul-start
overflow_mul-start c = let f = fits (goal.at.overflow_mul-start c).In-ahead in omega (arith, f.0)

pub bounds-counts-i : goal.bounds-counts-i
bounds-counts-i c = (fits (goal.at.bounds-counts-i c).In-ahead).0

pub overflow_add-end : goal.overflow_add-end
overflow_add-end c = let f = fits (goal.at.overflow_add-end c).In-ahead in omega arith

pub bounds-answered-i : goal.bounds-answered-i
bounds-answered-i c = (fits (goal.at.bounds-answered-i c).In-ahead).0

-- where the commands of a slot are searched from
from-fits : (c : Joined-condition-2) → c.if-condition-2.from ≤ max_commands
from-fits c = let f = fits c.before.before in
    (elim c.if-condition-2.branch [
      | then-condition-2 w ↦ let e = w.from-is in omega (arith, e)
      | else-condition-2 w ↦ let e = w.from-is in
          omega (arith, e)
    ])

pub overflow_step-k : goal.overflow_step-k
overflow_step-k c = let f = fits (goal.at.overflow_step-k c).In-ahead in let g = from-fits (goal.at.overflow_step-k c).Joined-condition-2 in
    omega (arith, f.0, g)

pub loop-k-init : goal.loop-k-init
loop-k-init c = let f = fits (goal.at.loop-k-init c).In-ahead in (
  c.ahead.invariant.0,
  omega arith,
  (elim c.if-condition-2.branch [
    | then-condition-2 w ↦ below_start _ _ _ _ _ _ w.from-is
    | else-condition-2 w ↦ below_left _ c.args.state.ok _
        (at_slot (goal.at.loop-k-init c).In-ahead) _ _ _ c.requires.2
        (bound-is (goal.at.loop-k-init c).Joined-condition ∙ ap bound_of w.if-condition-2.false) w.from-is
  ]),
)

pub loop-k-preserved : goal.loop-k-preserved
loop-k-preserved c = let v = c.loop-k.invariant in
    let o : below_at c.args.device.now c.args.stage.now c.if-condition.bound c.args.wanted c.loop-k.k ≡ false =
    (elim c.else-device-k.branch [
      | else-device-k-via-then-device-k+else-stage-k w ↦ below_bound _ _ _ _ _ w.if-stage-k.false
      | else-device-k-via-else-device-k w ↦
          below_other _ _ _ _ _ w.if-device-k.false
    ]) in
    (v.0, v.1, at_on _ _ _ c.loop-k-test.true o ∙ v.2)

pub bounds-behind-i : goal.bounds-behind-i
bounds-behind-i c = (fits (goal.at.bounds-behind-i c).In-ahead).0

pub ahead-smaller : goal.ahead-smaller
ahead-smaller c = seeks_less c.ahead.invariant.1 (fits (goal.at.ahead-smaller c).In-ahead).0

pub ahead-preserved : goal.ahead-preserved
ahead-preserved c = let w = c.ahead.invariant in
    let n = c.ahead-test.true in (
      (elim c.if-not-committed-i.branch [
        | then-not-committed-i+else-loop-k-test p ↦ p.holder-is
            ∙ p.loop-k.invariant.0
        | else-not-committed-i p ↦ p.holder-is ∙ w.0
      ]),
      seeks_on w.1 (fits (goal.at.ahead-preserved c).In-ahead).0
          (elim c.if-not-committed-i.branch [
            | then-not-committed-i+else-loop-k-test p ↦ holds_off _ _ _ _ _ _ _ _ n
                (sym p.loop-k.invariant.2 ∙ at_end _ _ _ p.loop-k-test.false)
            | else-not-committed-i p ↦ holds-committed _ _ _ _ _ _ _ _ n
                p.if-not-committed-i.false-raw
          ]),
    )

pub returns-after-ahead : goal.returns-after-ahead
returns-after-ahead c = let w = c.ahead.invariant in
    w.0
    ∙ holder_nobody _ c.args.state.ok _ _ c.requires.1 c.requires.2 c.args.condition
    (bound-is (goal.at.returns-after-ahead c).Joined-condition) _ _ c.requires.0 w.1 c.ahead-test.false

pub returns-then-stage-k : goal.returns-then-stage-k
returns-then-stage-k c = let v = c.loop-k.invariant in
    holder_found _ c.args.state.ok _ _ c.requires.1 c.requires.2 c.args.condition
    (bound-is (goal.at.returns-then-stage-k c).Joined-condition) _ _ c.requires.0 c.ahead.invariant.1
    c.ahead-test.true
    c.if-not-committed-i.true-raw
    (sym v.2 ∙ at_hit _ _ _ c.loop-k-test.true (below_here _ _ _ _ _ c.if-device-k.true c.if-stage-k.true))
