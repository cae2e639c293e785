-- `hub_limit::with_limit` meets its contract. Assumes nothing.
use mathlib.Core.Path.{ap, ◌∙◌}
use Rattle.rules.specs.Settle.{settle}
use Rattle.hub_limit.proofs.LimitLaws.{limited-state, limited-unmoved}
use Rattle.hub_limit.proofs.with_limit.Goals as goal

pub invariant_of-changed : goal.invariant_of-changed
invariant_of-changed c = record { ok = (limited-state _ _ c.args.state.ok).0 }

pub returns : goal.returns
returns c = let e = c.settle.ensures in
    (e.valid, e.gives ∙ ap settle (limited-state _ _ c.args.state.ok).1, limited-unmoved _ _ _ e.only_leave.unmoved)
