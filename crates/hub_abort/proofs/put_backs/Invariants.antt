-- `hub_abort::put_backs` meets its contract. The loop's invariant: what is put back so far, with the devices from d on, is what is put back
-- of all devices. Assumes nothing.
use mathlib.Core.Path.{◌≡◌}
use mathlib.Core.List.{◌++◌}
use Prim.Native.Nat.{◌-◌, ◌≤◌}
use Rattle.hub_state.specs.View.{settings_of}
use Rattle.hub_answers.specs.View.{put_backs_of}
use Rattle.hub_abort.specs.PutBacks.{is_back_by, put_backs_from}
use Rattle.hub_abort.proofs.put_backs.Given as goal

abbrev pub invariant-loop-d : goal.invariant-loop-d
invariant-loop-d l = let all = put_backs_from (is_back_by l.tables) (settings_of l.tables.after) in
    (l.backs.count ≤ l.d) × (put_backs_of l.backs ++ all l.d (l.count - l.d) ≡ all 0 l.count)
