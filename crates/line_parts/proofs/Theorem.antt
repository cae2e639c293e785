-- The steps in turn print what the line program prints of the whole input: the theorem of specs/Claims.antt. Assumes nothing.
use Rattle.std.proofs.Common.{None}
use mathlib.Core.Path.{◌≡◌, refl, sym, ap, subst, ◌∙◌}
use mathlib.Core.List.{List, [], ◌++◌}
use Prim.Native.Nat.{ℕ}
use native.Mathlib.Omega.{arith}
use lib.ListN.{take}
use Rattle.line_rules.specs.Pieces.{pieces_from, pieces, without_empty_last, lines_of}
use Rattle.line_rules.specs.Program.{steps}
use Rattle.hub.specs.Valid.{Valid}
use Rattle.hub.specs.declared.Hub.{Hub}
use Rattle.line.specs.View.{hub_in}
use Rattle.line_parts.specs.declared.AfterPart.{AfterPart}
use Rattle.line_parts.specs.Parts.{unended_from, unended, whole_lines, after, hub_after, printed_after, pending_after}
use Rattle.line_parts.specs.Contract.{Holds, TakesPart, TakesEnd, Taken, start, next, Reached, Adds, by_part, by_end}
use Rattle.line_parts.specs.Claims.{PrintsTheWhole}

taken-holds : {read text : List ℕ} {h : Hub} {bytes : List ℕ} → Taken read text h bytes →
    (hub_in h ≡ hub_after read) × (bytes ≡ pending_after read) × (text ≡ printed_after read)
unfolding unended_from unended whole_lines after pieces_from pieces without_empty_last lines_of steps
taken-holds (start e) = (e, refl, refl)
taken-holds (next {read = read} {pending = pending} {input = input} {out' = out'} {s = s} t p) =
    let k = taken-holds t in
    let is : Holds read _ pending input = record { hub = k.0; bytes = k.1 } in
    let then = p.holds read is in
    (then.hub, then.bytes, ap (λ (l : List ℕ). l ++ take s.length out') k.2 ∙ sym (p.prints read is))

pub prints_the_whole : PrintsTheWhole
prints_the_whole read text h pending input out' long t e =
    let k = taken-holds t in
    e.prints read (record { hub = k.0; bytes = k.1 }) ∙ sym (ap (λ (l : List ℕ). l ++ take long out') k.2)

-- ---- for a loop over the steps

pub reached_none : {h : Hub} {input : List ℕ} → Valid h → hub_in h ≡ None → Reached h 0 input
reached_none v e = record { read = []; text = []; taken = start e; valid = v; short = omega arith }

-- what is read behind the pending bytes leaves them as they are
pub reached_still : {h : Hub} {pending : ℕ} {input input' : List ℕ} → Reached h pending input → take pending input' ≡ take pending input →
    Reached h pending input'
reached_still {h} r same = record {
  read = r.read;
  text = r.text;
  taken = subst (λ (l : List ℕ). Taken r.read r.text h l) (sym same) r.taken;
  valid = r.valid;
  short = r.short;
}

-- what some input read so far leaves
reached_holds : {h : Hub} {pending : ℕ} {input : List ℕ} (r : Reached h pending input) → Holds r.read h pending input
reached_holds r = let k = taken-holds r.taken in record { hub = k.0; bytes = k.1 }

pub reached_more : {h : Hub} {pending got : ℕ} {input input' out' : List ℕ} {s : AfterPart} →
    Reached h pending input → TakesPart h pending got input input' out' s → Reached s.hub s.pending input'
reached_more r p = record { read = _; text = _; taken = next r.taken p; valid = p.valid; short = p.short }

pub adds_part : {h : Hub} {pending got : ℕ} {input input' out' : List ℕ} {s : AfterPart} →
    Reached h pending input → TakesPart h pending got input input' out' s → Adds (take s.length out')
adds_part r p = by_part r.read _ _ (p.prints r.read (reached_holds r))

pub adds_end : {h : Hub} {pending : ℕ} {input out' : List ℕ} {long : ℕ} → Reached h pending input → TakesEnd h pending input out' long →
    Adds (take long out')
adds_end r e = by_end r.read _ (e.prints r.read (reached_holds r))
