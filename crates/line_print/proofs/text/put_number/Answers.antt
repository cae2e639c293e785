-- `line_print::text::put_number` meets its contract. Assumes nothing.
use mathlib.Core.Path.{ap}
use Prim.Native.Nat.{◌<◌}
use native.Mathlib.Omega.{arith}
use lib.ListN.{length}
use Rattle.line_rules.proofs.TextLaws.{decimal_small}
use Rattle.line_print.proofs.text.put_number.Goals as goal

pub put_byte-requires : goal.put_byte-requires
put_byte-requires c = let a = c.args in
    let h : a.n < 10 = omega arith in
    omega (arith, c.requires, ap length (decimal_small a.n h))

pub returns-then-n-lt10 : goal.returns-then-n-lt10
returns-then-n-lt10 c = let a = c.args in
    let h : a.n < 10 = omega arith in
    rw (decimal_small a.n h) c.put_byte.ensures
