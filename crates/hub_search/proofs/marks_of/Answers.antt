-- `hub_search::marks_of` meets its contract. The loop: the marks of the first j commands are there. Assumes nothing.
use borrow.Author.Rules.{rules}
use Prim.Native.Nat.{◌<◌}
use native.Mathlib.Omega.{arith}
use mathlib.Core.Path.{◌≡◌, refl}
use lib.ListN.{length, get_or, length-set}
use Rattle.rules_routine.specs.Limits.{max_devices, max_commands}
use Rattle.rules_routine.specs.Routine.{zero_command}
use Rattle.rules_routine.proofs.RoutineLaws.{length_mapped}
use Rattle.hub_search.proofs.SearchLaws.{mark-none, mark-more, mark_all, device_fits}
use Rattle.hub_search.proofs.marks_of.Goals.{In-loop-j, Start}
use Rattle.hub_search.proofs.marks_of.Goals as goal

-- the array's length
long : (c : Start) → length c.args.routine.commands ≡ max_commands
long c = search (rules, length_mapped)

-- the index, and the device that stands there
below : (c : In-loop-j) → c.loop-j.j < max_commands
below c = omega (arith, c.loop-j-test.true, c.requires.0)

fits : (c : In-loop-j) →
    (get_or c.args.routine.commands c.loop-j.j zero_command).device < max_devices
fits c = device_fits _ (long c.before.before.before) c.requires.0 c.requires.1 _ c.loop-j-test.true

pub loop-j-init : goal.loop-j-init
loop-j-init c = (refl, mark-none _)

pub bounds-marks-d : goal.bounds-marks-d
bounds-marks-d c = fits (goal.at.bounds-marks-d c).In-loop-j

pub loop-j-preserved : goal.loop-j-preserved
loop-j-preserved c = let v = c.loop-j.invariant in
    let h = below (goal.at.loop-j-preserved c).In-loop-j in
    let room : c.loop-j.j < length c.loop-j.wanted = omega (arith, v.0) in
    let held : c.loop-j.j < length c.args.routine.commands =
    omega (arith, long (goal.at.loop-j-preserved c).Start) in
    (simp length-set v.0, mark-more _ _ _ _ room held v.1)

pub returns : goal.returns
returns c = let v = c.loop-j.invariant in
    mark_all _ (long (goal.at.returns c).Start) c.requires.0 _ _ _ (omega arith) c.loop-j-test.false v.1
