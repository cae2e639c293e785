-- `hub_apply::with_routine` meets its contract. Assumes nothing.
use borrow.Author.Rules.{rules}
use native.Mathlib.Omega.{arith}
use Rattle.rules_routine.proofs.RoutineLaws.{length_mapped}
use Rattle.hub_apply.proofs.PlaceLaws.{Long, count_fits, can_fill, can_pass, join_places}
use Rattle.hub_apply.proofs.with_routine.Goals.{Start}
use Rattle.hub_state.specs.View.{no_restart}
use Rattle.hub_apply.proofs.with_routine.Goals as goal

long : (c : Start) → Long c.args.state.rows c.args.routine
long c =
    record {
      ids = search (rules, length_mapped);
      committed = search (rules, length_mapped);
      counts = search (rules, length_mapped);
      answered = search (rules, length_mapped);
      commands = search (rules, length_mapped);
    }

pub passed_behind-passed-requires : goal.passed_behind-passed-requires
passed_behind-passed-requires c = can_pass _ _ _ c.args.state.ok c.requires c.join-joined.result c.join-joined.ensures

pub overflow_cast-counts : goal.overflow_cast-counts
overflow_cast-counts c = let h = count_fits _ _ _ c.args.state.ok c.requires in omega arith

pub with_commands-filled-requires : goal.with_commands-filled-requires
with_commands-filled-requires c = can_fill _ _ _ c.args.state.ok c.requires c.join-joined.result c.join-joined.ensures

pub invariant_of-result : goal.invariant_of-result
invariant_of-result c = record {
  ok = (join_places _ _ _ c.args.state.ok c.requires c.join-joined.result c.join-joined.ensures _
      (record {
        passes = c.passed_behind-passed.ensures;
        devices = c.with_commands-filled.ensures.devices;
        tags = c.with_commands-filled.ensures.tags;
        settings = c.with_commands-filled.ensures.settings;
        stages = c.filled-stage.ensures 0;
        no-restart = c.filled-restarts.ensures no_restart;
      })
      (long (goal.at.invariant_of-result c).Start)).valid;
}

pub returns : goal.returns
returns c = join_places _ _ _ c.args.state.ok c.requires c.join-joined.result c.join-joined.ensures _
    (record {
      passes = c.passed_behind-passed.ensures;
      devices = c.with_commands-filled.ensures.devices;
      tags = c.with_commands-filled.ensures.tags;
      settings = c.with_commands-filled.ensures.settings;
      stages = c.filled-stage.ensures 0;
      no-restart = c.filled-restarts.ensures no_restart;
    })
    (long (goal.at.returns c).Start)
