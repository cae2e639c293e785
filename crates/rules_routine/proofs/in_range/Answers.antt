-- `rules_routine::in_range` meets its contract. Assumes nothing.
use mir.Facts.{to_z-of_z}
use Rattle.rules_routine.specs.Range.{in_range}
use Rattle.rules_routine.proofs.in_range.Goals as goal

pub returns-then-setting-ge-LOWEST_SETTING : goal.returns-then-setting-ge-LOWEST_SETTING
unfolding in_range
returns-then-setting-ge-LOWEST_SETTING c = let t = rw (to_z-of_z c.ranges.setting) at c.if-setting-ge-LOWEST_SETTING.true in rw (to_z-of_z c.ranges.setting, t)

pub returns-else-setting-ge-LOWEST_SETTING : goal.returns-else-setting-ge-LOWEST_SETTING
unfolding in_range
returns-else-setting-ge-LOWEST_SETTING c = let t = rw (to_z-of_z c.ranges.setting) at c.if-setting-ge-LOWEST_SETTING.false in rw (to_z-of_z c.ranges.setting, t)
