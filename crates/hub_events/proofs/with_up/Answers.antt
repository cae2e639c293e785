-- `hub_events::with_up` meets its contract. Assumes nothing.
use borrow.Author.Rules.{rules}
use mathlib.Core.Path.{◌≡◌, refl}
use lib.ListN.{length}
use native.Mathlib.Omega.{arith}
use Rattle.rules_routine.specs.Limits.{max_devices}
use Rattle.rules_routine.proofs.RoutineLaws.{length_mapped}
use Rattle.hub_settle.proofs.StateLaws.{valid_tables, up-gives, up-there}
use Rattle.hub_events.proofs.with_up.Goals as goal

pub invariant_of-changed : goal.invariant_of-changed
invariant_of-changed c = record { ok = valid_tables c.args.state.rows _ _ _ _ c.args.state.ok }

pub returns : goal.returns
returns c = let a = c.args in
    let n : length a.state.rows.up ≡ max_devices = search (rules, length_mapped) in
    let d = c.requires in (
      valid_tables a.state.rows _ _ _ _ c.args.state.ok,
      up-gives a.state.rows a.device a.is_up (omega arith),
      refl,
      up-there a.state.rows
          a.device a.is_up (omega arith),
    )
