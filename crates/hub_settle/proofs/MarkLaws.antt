-- Marks that are moved from one id to another, device by device. Assumes nothing.
use mathlib.Core.Path.{◌≡◌, sym, ap, ◌∙◌, fun_ext}
use mathlib.Core.Bool.{Bool}
use mathlib.Core.List.{List, ◌++◌, map, append-nil}
use Prim.Native.Nat.{ℕ, ◌≤◌, ◌<◌}
use native.Mathlib.Omega.{arith}
use borrow.Author.Tests.{ne_eqb}
use lib.Dec.{eqb}
use lib.ListN.{length, take, drop, get_or, drop_of_length-le, get_or-map}
use lib.Seq.{take_all}
use Rattle.std.specs.Prelude.{if◌then◌else◌}
use Rattle.rules.specs.Sequence.{move_marks}
use Rattle.hub_state.specs.View.{marks_of}

-- a mark moved
abbrev pub remark : ℕ → ℕ → ℕ → ℕ
remark from to x = if eqb x from then to else x

-- the marks up to d are moved, the rest are still to move
abbrev pub remarked : ℕ → ℕ → ℕ → List ℕ → List ℕ
remarked from to d l = take d l ++ map (remark from to) (drop d l)

module _ (from to : ℕ) where
  -- none is left
  pub remark_end : (d : ℕ) (l : List ℕ) → length l ≤ d → remarked from to d l ≡ l
  remark_end d l h = rw (take_all d l h, drop_of_length-le l {i = d} h) (append-nil l)

  -- all marks moved, as a table
  pub marks_moved : (l : List ℕ) → 0 < from → marks_of (map (remark from to) l) ≡ move_marks from to (marks_of l)
  unfolding move_marks
  marks_moved l h =
      fun_ext (λ d. ap (λ (z : ℕ). get_or (map (remark from to) l) d z) (sym zero_stays) ∙ get_or-map (remark from to) l d 0)
    where
      zero_stays : remark from to 0 ≡ 0
      zero_stays = ap (λ (t : Bool). if t then to else 0) (ne_eqb 0 from (λ e. omega arith))
