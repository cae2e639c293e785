-- What is proved of the rules without walking through calls. Demand 3, the replay of conditions and the waiting promise are proved in crate
-- `rules_promises`, which builds on this; here a wrong rule shows in seconds.

-- Laws of lists and tables, which many crates use.
pub mod Lists
-- The hub of no devices; a new pass limit; all due settings in one list; each number under its cause alone.
pub mod Closed
pub mod LimitLaws
pub mod AllDue
pub mod Exact
-- By computation: all worlds; those that meet the premise; those in which a wrong rule shows; schedules of the waiting promise.
pub mod Passages
pub mod Worlds
pub mod Controls
pub mod Schedules
-- And what the statements exclude, so that none of them can say less.
pub mod Refuted
