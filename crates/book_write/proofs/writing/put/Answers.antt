-- `book_write::writing::put` meets its contract. Assumes nothing.
use Rattle.std.proofs.Common.{◌≡◌, length, rules, arith}
use Rattle.rules_routine.proofs.RoutineLaws.{length_mapped}
use Rattle.book_write.proofs.Row.{bytes-put}
use Rattle.book_write.proofs.writing.put.Goals as goal

pub returns : goal.returns
returns g c =
    let n : length c.args.bytes ≡ g.row.N = search (rules, length_mapped) in
    bytes-put _ _ c.args.bytes _ _ c.copy_from_slice.ensures.after (omega arith) (omega arith)
