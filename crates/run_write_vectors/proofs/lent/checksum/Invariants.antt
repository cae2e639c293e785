-- `run_write_vectors::lent::checksum` is safe: the sum stays below the prime. Assumes nothing.
use Rattle.std.proofs.Common.{◌<◌}
use Rattle.run_write_vectors.proofs.lent.checksum.Given as goal

abbrev pub invariant-loop-byte : goal.invariant-loop-byte
invariant-loop-byte l = l.sum < 4294967291
