-- `line_parts::take_part` meets its contract. Assumes nothing.
use mathlib.Core.Path.{ap, subst, ◌∙◌}
use mathlib.Core.List.{List}
use Prim.Native.Nat.{ℕ, ◌≤◌}
use native.Mathlib.Omega.{arith}
use lib.ListN.{length, take, drop, length-take}
use Rattle.line_rules.specs.Pieces.{lines_of}
use Rattle.line_rules.specs.Program.{steps}
use Rattle.line_rules.specs.Claims.{cut}
use Rattle.line.specs.View.{hub_in}
use Rattle.line.specs.Contract.{Ample, Runs}
use Rattle.line_parts.specs.Parts.{whole_lines}
use Rattle.line_parts.proofs.Steps.{filled, ran, ample, length-written, whole_near, whole_taken, takes_part}
use borrow.Author.Rules.{rules}
use Rattle.line_parts.proofs.take_part.Goals.{After-run_part-written, After-whole_length-whole}
use Rattle.line_parts.proofs.take_part.Goals as goal

-- the whole lines end within the input
whole_inside : (c : After-whole_length-whole) → c.whole_length-whole.result ≤ length c.args.input.now
whole_inside c =
    omega (arith, c.whole_length-whole.ensures, whole_near c.args.hub c.args.pending c.args.got c.args.input.now, c.requires.1)

-- what was run are the whole lines
whole_ran : (c : After-run_part-written) →
    let a = c.args in
    let r = c.run_part-written.result in
    let whole = whole_lines (filled a.hub a.pending a.got a.input.now) in
    Runs (ran a.hub a.pending a.got a.input.now) whole a.hub r.hub a.out.now c.run_part-written.new.out r.length
whole_ran c =
    let a = c.args in
    let r = c.run_part-written.result in
    let w = c.whole_length-whole in
    let are = ap (λ (n : ℕ). take n a.input.now) w.ensures ∙ whole_taken a.hub a.pending a.got a.input.now in
    subst
    (λ (l : List ℕ). Runs (steps (hub_in a.hub) (lines_of l)) l a.hub r.hub a.out.now c.run_part-written.new.out r.length)
    are c.run_part-written.ensures

-- the buffer has ample room
room : (c : After-run_part-written) →
    let a = c.args in
    Ample (whole_lines (filled a.hub a.pending a.got a.input.now)) (length a.out.now)
room c =
    let a = c.args in
    ample a.input.now (whole_lines (filled a.hub a.pending a.got a.input.now)) a.out.now
    (omega (arith, whole_near a.hub a.pending a.got a.input.now, c.requires.1)) c.requires.2

pub slice_bounds-whole_length-end-2 : goal.slice_bounds-whole_length-end-2
slice_bounds-whole_length-end-2 c = simp length-take (omega arith)

pub slice_bounds-run_part-end : goal.slice_bounds-run_part-end
slice_bounds-run_part-end c = let h = whole_inside (goal.at.slice_bounds-run_part-end c).After-whole_length-whole in search rules

pub slice_bounds-run_part-end-2 : goal.slice_bounds-run_part-end-2
slice_bounds-run_part-end-2 c = let h = whole_inside (goal.at.slice_bounds-run_part-end-2 c).After-whole_length-whole in simp length-take (omega arith)

pub keep-kept-requires : goal.keep-kept-requires
keep-kept-requires c = (omega (arith, c.whole_length-whole.ensures, whole_near c.args.hub c.args.pending c.args.got c.args.input.now), c.requires.1)

pub returns : goal.returns
returns c = let k = c.keep-kept.ensures in
    let a = c.args in
    let bytes = filled a.hub a.pending a.got a.input.now in
    let w = length-written (whole_ran (goal.at.returns c).After-run_part-written) (room (goal.at.returns c).After-run_part-written) in
    rw (c.unwrap_or-length.ensures, w)
    (takes_part a.hub a.pending a.got a.input.now (whole_ran (goal.at.returns c).After-run_part-written) (room (goal.at.returns c).After-run_part-written) c.keep-kept.result k.0
    (k.1 ∙ ap (λ (n : ℕ). cut (drop n bytes)) c.whole_length-whole.ensures))
