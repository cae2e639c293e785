-- The proof of demand 3 over the rules, in the order in which it is read. Each file's first lines say more; `docs/DEMAND-3.md` walks
-- through the statement. A reader who wants the argument alone reads `Invariant` (what is kept), `View` (the ways a call can go) and
-- `Theorem`.

-- Ground: a routine with its events (a list that only the proofs keep); groups that differ in little; the commands of one routine; what is
-- told of them.
pub mod Groups
pub mod Same
pub mod Steps
pub mod Agree
-- What holds between calls, and every call seen once.
pub mod Invariant
pub mod View
-- What a call leaves alone, and what entries and groups do to one device.
pub mod Runs
pub mod Fields
-- The hub's own invariant is kept: where routines stand to a mark; a placing, a leaving, an attachment, settling; all calls.
pub mod Marks
pub mod Moved
pub mod Kept
-- The order, built from answers, stays that of the hub; who runs, and the accounts, stay true; part 3 is kept: the events behind commands
-- that they skip, and the rest.
pub mod Serial
pub mod Ordered
pub mod Running
pub mod Accounts
pub mod Followed
pub mod Fits
pub mod Stands
pub mod Asked
pub mod Conditions
pub mod Replay
-- Each device comes to its due setting: what was sent; placings, turns and reports; aborts and events; all calls.
pub mod Messages
pub mod Devices
pub mod DeviceAborts
pub mod DeviceKept
-- Demand 3.
pub mod Theorem
-- The waiting promise (document 02, items 1 and 13): what is told is what the hub holds; the measure that falls; what holds between calls;
-- what a call does to the measure; the promise; rounds exist; a row in which only the first goes on; no fewer rounds are enough. Schedules
-- in which wrong rules show stand in crate `rules`.
pub mod Told
pub mod Measure
pub mod Ready
pub mod Measured
pub mod Waiting
pub mod RoundsExist
pub mod LateRounds
pub mod NoFewer
-- New pass limits (document 02, item 13): the counts stay in range.
pub mod Passes
