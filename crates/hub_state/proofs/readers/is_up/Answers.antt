-- `hub_state::is_up` meets its contract. Assumes nothing.
use native.Mathlib.Omega.{arith}
use mathlib.Core.Path.{ap, ◌∙◌}
use mathlib.Core.Bool.{true}
use lib.ListN.{get_or}
use Rattle.std.specs.Option.{unwrap_or}
use Rattle.hub_state.specs.View.{state_of}
use Rattle.hub_state.proofs.readers.is_up.Goals as goal

pub returns : goal.returns
unfolding state_of
returns c = c.unwrap_or.ensures
    ∙ ap (λ o. unwrap_or o true) c.copied.ensures
    ∙ c.get.ensures.lookup.4 (omega arith) true
    ∙ ap (λ d. get_or c.args.state.up d true) c.from.ensures
