-- `hub_apply::fill::with_commands` meets its contract: with each round one entry more is filled in. Assumes nothing.
use Prim.Native.Nat.{◌*◌}
use mathlib.Core.Path.{◌≡◌}
use lib.IntN.{pos}
use lib.ListN.{length, get_or}
use Rattle.rules_routine.specs.Limits.{max_commands, max_sequence}
use Rattle.rules_routine.specs.Routine.{zero_command}
use Rattle.hub_apply.specs.Fill.{Fills}
use Rattle.hub_apply.proofs.fill.with_commands.Given as goal

abbrev pub invariant-loop-j : goal.invariant-loop-j
invariant-loop-j l = (length l.device ≡ max_sequence * max_commands) × (length l.tag ≡ max_sequence * max_commands) × (length l.setting ≡ max_sequence * max_commands)
    × (Fills 0 l.initial.device (l.slot * max_commands) l.j (λ i. (get_or l.commands i zero_command).device) l.device)
    × (Fills 0 l.initial.tag (l.slot * max_commands) l.j (λ i. (get_or l.commands i zero_command).tag) l.tag)
    × (Fills (pos 0) l.initial.setting (l.slot * max_commands) l.j (λ i. (get_or l.commands i zero_command).setting) l.setting)
