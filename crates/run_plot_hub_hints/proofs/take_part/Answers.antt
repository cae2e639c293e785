-- `run_plot_hub_hints::take_part` is safe and ends, and leaves a valid hub: the whole lines end within what was read. Assumes nothing.
use Rattle.std.proofs.Common.{ℕ, ◌≡◌, ◌≤◌, List, length, take, arith, length-take}
use Rattle.line_parts.specs.Parts.{whole_lines}
use Rattle.line_parts.proofs.PartLaws.{whole_within}
use Rattle.run_plot_hub_hints.proofs.take_part.Goals as goal

near : (filled whole : ℕ) (input : List ℕ) → whole ≡ length (whole_lines (take filled input)) → filled ≤ length input → whole ≤ filled
near filled whole input e fits = omega (arith, whole_within (take filled input), length-take filled input)

pub slice_bounds-take_lines-end : goal.slice_bounds-take_lines-end
slice_bounds-take_lines-end g c =
    let n = near c.args.filled _ c.args.input.now c.whole_length-whole.ensures c.requires.1 in
    omega (arith, c.requires.1)

pub slice_bounds-take_lines-end-2 : goal.slice_bounds-take_lines-end-2
slice_bounds-take_lines-end-2 g c =
    let n = near c.args.filled _ c.args.input.now c.whole_length-whole.ensures c.requires.1 in
    simp length-take (omega (arith, c.requires.1))

pub keep-requires : goal.keep-requires
keep-requires g c = (near c.args.filled _ c.args.input.now c.whole_length-whole.ensures c.requires.1, c.requires.1)
