-- `book_read::bytes::four_at` meets its contract. Assumes nothing.
use Rattle.std.proofs.Common.{◌≡◌, ◌+◌, arith, ap, ◌∙◌}
use Rattle.book_layout.specs.Numbers.{byte_at, two_at, four_at}
use Rattle.book_read.proofs.bytes.four_at.Goals as goal

pub returns : goal.returns
unfolding four_at two_at
returns c = let s = c.args.s.now in
    let e : c.args.at + 3 ≡ c.args.at + 2 + 1 = omega arith in
    let f = c.byte_at-4.ensures ∙ ap (byte_at s) e in
    (omega (arith, c.byte_at.ensures, c.byte_at-2.ensures, c.byte_at-3.ensures, f), omega arith)
