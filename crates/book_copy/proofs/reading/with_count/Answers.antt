-- `book_copy::reading::with_count` meets its contract. Assumes nothing.
use mathlib.Core.Path.{◌≡◌}
use native.Mathlib.Omega.{arith}
use borrow.Author.Tests.{lt-ltb, le-ltb}
use lib.ListN.{length}
use lib.Seq.{set_out}
use Rattle.rules_routine.proofs.RoutineLaws.{length_mapped}
use Rattle.rules_routine.specs.Limits.{max_routines}
use Rattle.book_copy.specs.Rows.{with_count}
use borrow.Author.Rules.{rules}
use Rattle.book_copy.proofs.reading.with_count.Goals as goal

pub returns-then-at-lt-MAX_ROUTINES : goal.returns-then-at-lt-MAX_ROUTINES
unfolding with_count
returns-then-at-lt-MAX_ROUTINES c = rw (lt-ltb c.args.rows.routines max_routines c.if-at-lt-MAX_ROUTINES.true)

pub returns-else-at-lt-MAX_ROUTINES : goal.returns-else-at-lt-MAX_ROUTINES
unfolding with_count
returns-else-at-lt-MAX_ROUTINES c = let r = c.args.rows in
    let x : length r.counts ≡ max_routines = search (rules, length_mapped) in
    rw (le-ltb r.routines max_routines c.if-at-lt-MAX_ROUTINES.false, set_out r.counts r.routines c.args.count (omega arith))
