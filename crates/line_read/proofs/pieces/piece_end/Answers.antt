-- `line_read::pieces::piece_end` meets its contract: as far as the piece reaches from each place, it ends where it did. Assumes nothing.
use Prim.Native.Nat.{suc, ◌+◌}
use mathlib.Core.Path.{◌≡◌}
use native.Mathlib.Omega.{arith}
use Rattle.line_read.proofs.WordLaws.{ends_at, ends_next}
use Rattle.line_read.proofs.pieces.piece_end.Invariants.{Same}
use Rattle.line_read.proofs.pieces.piece_end.Goals.{Else-bytes-at, Else-bytes-at-2, Else-bytes-at-3}
use Rattle.line_read.proofs.pieces.piece_end.Goals as goal

-- none of the first is such a byte
next-1 : (c : Else-bytes-at) → Same c.args.bytes.now c.args.byte c.args.from (c.loop-at.at + 1)
next-1 c =
    let e : c.loop-at.at + 1 ≡ suc c.loop-at.at = omega arith in
    ends_next _ _ _ _ _ e c.loop-at.invariant (omega arith) c.if-bytes-at.false

next-2 : (c : Else-bytes-at-2) → Same c.args.bytes.now c.args.byte c.args.from (c.loop-at.at + 1) →
    Same c.args.bytes.now c.args.byte c.args.from (c.loop-at.at + 2)
next-2 c n =
    let e : c.loop-at.at + 2 ≡ suc (c.loop-at.at + 1) = omega arith in
    ends_next _ _ _ _ _ e n (omega arith) c.if-bytes-at-2.false

next-3 : (c : Else-bytes-at-3) → Same c.args.bytes.now c.args.byte c.args.from (c.loop-at.at + 2) →
    Same c.args.bytes.now c.args.byte c.args.from (c.loop-at.at + 3)
next-3 c n =
    let e : c.loop-at.at + 3 ≡ suc (c.loop-at.at + 2) = omega arith in
    ends_next _ _ _ _ _ e n (omega arith) c.if-bytes-at-3.false

pub returns-then-bytes-at : goal.returns-then-bytes-at
returns-then-bytes-at c = ends_at _ _ _ _ c.loop-at.invariant (omega arith) c.if-bytes-at.true

pub returns-then-bytes-at-2 : goal.returns-then-bytes-at-2
returns-then-bytes-at-2 c = ends_at _ _ _ _ (next-1 (goal.at.returns-then-bytes-at-2 c).Else-bytes-at) (omega arith) c.if-bytes-at-2.true

pub returns-then-bytes-at-3 : goal.returns-then-bytes-at-3
returns-then-bytes-at-3 c =
    let p = goal.at.returns-then-bytes-at-3 c in
    ends_at _ _ _ _ (next-2 p.Else-bytes-at-2 (next-1 p.Else-bytes-at)) (omega arith) c.if-bytes-at-3.true

pub returns-then-bytes-at-4 : goal.returns-then-bytes-at-4
returns-then-bytes-at-4 c =
    let p = goal.at.returns-then-bytes-at-4 c in
    ends_at _ _ _ _ (next-3 p.Else-bytes-at-3 (next-2 p.Else-bytes-at-2 (next-1 p.Else-bytes-at))) (omega arith) c.if-bytes-at-4.true

pub loop-at-preserved : goal.loop-at-preserved
loop-at-preserved c =
    let p = goal.at.loop-at-preserved c in
    let e : c.loop-at.at + 4 ≡ suc (c.loop-at.at + 3) = omega arith in
    ends_next _ _ _ _ _ e (next-3 p.Else-bytes-at-3 (next-2 p.Else-bytes-at-2 (next-1 p.Else-bytes-at))) (omega arith) c.if-bytes-at-4.false
