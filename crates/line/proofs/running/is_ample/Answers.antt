-- `line::running::is_ample` meets its contract. The loop's invariant: the lines counted and those left are all. Assumes nothing.
use Rattle.std.proofs.Common.{arith, ◌∙◌}
use Rattle.std.specs.Slice.Iter.{chunks_rest}
use borrow.Author.Tests.{ltb-true}
use Rattle.line_rules.specs.Text.{line_end}
use Rattle.line_print.specs.Put.{max_text}
use Rattle.line.proofs.Loops.{count_part, count-last, lines_counted}
use Rattle.line.proofs.running.is_ample.Goals as goal
use Prim.Native.Nat.{◌/◌}

pub loop-chunk-preserved : goal.loop-chunk-preserved
loop-chunk-preserved c = let inv = c.loop-chunk.invariant in
    let s = c.in-Some.ensures.steps in
    let part = count_part line_end c.in-Some.chunk.now (chunks_rest c.next.new.self) s.1.0 in
    let n = c.from-count.ensures ∙ c.ends_in.ensures in (
      omega (arith, s.0, inv.2),
      tt,
      s.0 ∙ inv.2,
      omega (arith, inv.3, part.0, n),
      omega (arith, inv.4, part.1, n),
    )

pub returns : goal.returns
returns c = let inv = c.loop-chunk.invariant in
    λ e.
    let less = ltb-true c.loop-chunk.count (c.args.room / max_text) e in
    omega (arith, inv.4, count-last line_end _ c.in-None.ensures.steps.1.0, lines_counted c.args.input.now)
