-- The theorems of the routine book, by name. What each says stands in specs/Claims.antt, WritingCauses.antt and Sign.antt. Assumes nothing.
use Rattle.book_layout.specs.Claims.{WriteThenRead, ReadThenWrite, LentAgain, WrittenWhole, ExactRefusals, JudgedByFirstBytes}
use Rattle.book_layout.specs.WritingCauses.{ExactWriting}
use Rattle.book_layout.specs.Sign.{SignByCases, SignAsBefore}
use Rattle.book_layout.proofs.RoundTrip as RoundTrip
use Rattle.book_layout.proofs.Lending as Lending
use Rattle.book_layout.proofs.Exact as Exact
use Rattle.book_layout.proofs.WritingExact as WritingExact
use Rattle.book_layout.proofs.FirstBytes as FirstBytes
use Rattle.book_layout.proofs.Sign as Sign

-- (a) What is written is read as the same routines.
pub write_then_read : WriteThenRead
write_then_read = RoundTrip.write_then_read

-- (b) What is read of an accepted book, written again, is the same bytes.
pub read_then_write : ReadThenWrite
read_then_write = RoundTrip.read_then_write

-- (c) Each refusal is given exactly under its cause.
pub exact_refusals : ExactRefusals
exact_refusals = Exact.exact_refusals

-- And so is each refusal of writing.
pub exact_writing : ExactWriting
exact_writing = WritingExact.exact_writing

-- (d) A book is judged by its first bytes.
pub judged_by_first-bytes : JudgedByFirstBytes
judged_by_first-bytes = FirstBytes.judged_by_first-bytes

-- What is lent of routines is those routines again.
pub lent_again : LentAgain
lent_again = Lending.lent_again

-- What is written was lent whole.
pub written_whole : WrittenWhole
written_whole = Lending.written_whole

-- For every pair of bytes: upper byte below 128, the two bytes' number; 128 or above, that less 65,536.
pub sign_by_cases : SignByCases
sign_by_cases = Sign.sign_by_cases

-- Every result is as before.
pub sign_as_before : SignAsBefore
sign_as_before = Sign.sign_as_before
