-- `book_read::bytes::two_at` meets its contract. Assumes nothing.
use Rattle.std.proofs.Common.{arith}
use Rattle.book_layout.specs.Numbers.{two_at}
use Rattle.book_read.proofs.bytes.two_at.Goals as goal

pub returns : goal.returns
unfolding two_at
returns c = (omega (arith, c.byte_at.ensures, c.byte_at-2.ensures), omega arith)
