-- The steps' contracts, out of what their parts give. Assumes nothing.
use Rattle.std.proofs.Common.{Option, None, Some}
use mathlib.Core.Path.{◌≡◌, sym, ap, ap₂, ◌∙◌}
use mathlib.Core.List.{List, ◌++◌}
use Prim.Native.Nat.{ℕ, suc, ◌+◌, ◌≤◌}
use native.Mathlib.Omega.{arith}
use borrow.Author.Tests.{le-ltb}
use lib.IntN.{ℤ, pos, negsuc, nat_abs}
use lib.ListN.{length, take, drop, length-take}
use lib.Seq.{take-append_seam, take-take, take-add}
use Rattle.rules.specs.State.{State}
use Rattle.line_rules.specs.Pieces.{lines_of}
use Rattle.rules_routine.specs.Limits.{max_line}
use Rattle.line_rules.specs.Program.{Printed, before, steps, run_from, length_or21, buffer_with, hub_with}
use Rattle.line_rules.specs.Claims.{cut}
use Rattle.hub.specs.declared.Hub.{Hub}
use Rattle.line.specs.View.{hub_in}
use Rattle.line.specs.Contract.{Ample, Runs, written_as}
use Rattle.line_parts.specs.Parts.{unended, whole_lines, after, printed_after, pending_after}
use Rattle.line_parts.specs.Contract.{room_for, Holds, part_of, TakesPart, TakesEnd}
use Rattle.line_parts.proofs.PartLaws.{whole_first, unended-others, whole_within, after_more, pending_more, whole_text, lines_few}

-- ---- what is written into ample room

-- the buffers give a part of the input ample room
pub ample : (input part out : List ℕ) → length part ≤ length input → room_for (length input) ≤ length out → Ample part (length out)
ample input part out h room = omega (arith, lines_few part)

module _ {p : Printed} {input : List ℕ} {h next : Hub} {out out' : List ℕ} {written : Option ℕ}
    (r : Runs p input h next out out' written) (room : Ample input (length out)) where
  pub length-written : written ≡ Some (length p.text)
  unfolding length_or21
  length-written = go written r.wrote.answers
    where
      fits : length_or21 p.text (length out) ≡ pos (length p.text)
      fits = rw (le-ltb (length out) (length p.text) (r.enough room))

      go : (o : Option ℕ) → written_as o ≡ length_or21 p.text (length out) → o ≡ Some (length p.text)
      go None e = let z : negsuc 20 ≡ pos (length p.text) = e ∙ fits in cc
      go (Some n) e = let z : pos n ≡ pos (length p.text) = e ∙ fits in ap (λ (k : ℤ). Some (nat_abs k)) z

  pub hub-written : hub_in next ≡ p.hub
  unfolding hub_with
  hub-written = r.wrote.hub ∙ rw (le-ltb (length out) (length p.text) (r.enough room))

  pub text-written : take (length p.text) out' ≡ p.text
  unfolding buffer_with
  text-written =
      ap (take (length p.text)) r.wrote.leaves
      ∙ rw (le-ltb (length out) (length p.text) (r.enough room)) (take-append_seam p.text (drop (length p.text) out))

  pub text-within : length p.text ≤ length out'
  text-within = omega (arith, ap length text-written, length-take (length p.text) out')

-- ---- a part

module _ (h : Hub) (pending got : ℕ) (input : List ℕ) where
  -- the pending bytes and the part
  abbrev pub filled : List ℕ
  filled = take (pending + got) input

  abbrev part : List ℕ
  part = part_of pending got input

  -- what its whole lines leave and print
  abbrev pub ran : Printed
  ran = steps (hub_in h) (lines_of (whole_lines filled))

  pub whole_near : length (whole_lines filled) ≤ pending + got
  whole_near = omega (arith, whole_within filled, length-take (pending + got) input)

  pub whole_taken : take (length (whole_lines filled)) input ≡ whole_lines filled
  whole_taken = sym (take-take (length (whole_lines filled)) (pending + got) input whole_near) ∙ whole_first filled

  module _ (read : List ℕ) (k : Holds read h pending input) where
    filled_is : filled ≡ pending_after read ++ part
    filled_is = take-add pending got input ∙ ap (λ (l : List ℕ). l ++ part) k.bytes

    after_is : after (read ++ part) ≡ before (printed_after read) ran
    after_is =
        after_more read part
        ∙ sym (ap₂ (λ (g : Option State) (l : List ℕ). before (printed_after read) (steps g (lines_of (whole_lines l)))) k.hub filled_is)

    pending_is : pending_after (read ++ part) ≡ cut (unended filled)
    pending_is = pending_more read part ∙ sym (ap (λ (l : List ℕ). cut (unended l)) filled_is)

  module _ {out out' input' : List ℕ} {next : Hub} {written : Option ℕ} (r : Runs ran (whole_lines filled) h next out out' written)
      (room : Ample (whole_lines filled) (length out)) (kept : ℕ) (within : kept ≤ length input')
      (keeps : take kept input' ≡ cut (drop (length (whole_lines filled)) filled)) where
    pub takes_part : TakesPart h pending got input input' out' (record { hub = next; pending = kept; length = length ran.text })
    takes_part = record {
      valid = r.wrote.valid;
      short =
          let behind = drop (length (whole_lines filled)) filled in
          omega (arith, ap length keeps, length-take kept input', length-take (suc max_line) behind);
      within = text-within r room;
      holds = λ read k. record {
        hub = hub-written r room ∙ sym (ap (λ (p : Printed). p.hub) (after_is read k));
        bytes = keeps ∙ ap cut (unended-others filled) ∙ sym (pending_is read k);
      };
      prints = λ read k.
          ap (λ (p : Printed). p.text) (after_is read k) ∙ sym (ap (λ (t : List ℕ). printed_after read ++ t) (text-written r room));
    }

-- ---- the end

module _ (h : Hub) (pending : ℕ) (input : List ℕ) {out out' : List ℕ} {next : Hub} {written : Option ℕ}
    (r : Runs (run_from (hub_in h) (take pending input)) (take pending input) h next out out' written)
    (room : Ample (take pending input) (length out)) where
  pub takes_end : TakesEnd h pending input out' (length (run_from (hub_in h) (take pending input)).text)
  takes_end = record {
    within = text-within r room;
    prints = λ read k.
        whole_text read
        ∙ sym (ap₂ (λ (g : Option State) (l : List ℕ). printed_after read ++ (run_from g l).text) k.hub k.bytes)
        ∙ sym (ap (λ (t : List ℕ). printed_after read ++ t) (text-written r room));
  }
