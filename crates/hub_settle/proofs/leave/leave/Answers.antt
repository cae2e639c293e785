-- `hub_settle::leave::leave` meets its contract: the routine leaves, and its events go to the one before it. Assumes nothing.
use mathlib.Core.Path.{refl, sym, ap, subst, ◌∙◌}
use lib.ListN.{get_or}
use Rattle.hub_sequence.proofs.ReadLaws.{stands-slot}
use Rattle.hub_state.specs.View.{settings_of}
use Rattle.hub_settle.specs.Contract.{MovesRestarts}
use Rattle.hub_settle.proofs.LeaveLaws.{before_other, leaves-behind, leaves-first}
use Rattle.hub_settle.proofs.leave.leave.Goals.{then-before-lt-MAX_SEQUENCE, else-before-lt-MAX_SEQUENCE}
use Rattle.hub_settle.proofs.leave.leave.Goals as goal

pub moved_restarts-moved-requires : goal.moved_restarts-moved-requires
moved_restarts-moved-requires c = let f = c.if-before-lt-MAX_SEQUENCE.true in
    (stands-slot _ _ c.args.state.ok.links_ok c.requires, f, before_other c.args.state.rows c.args.at c.args.state.ok c.requires _ refl f)

pub invariant_of-result : goal.invariant_of-result
invariant_of-result c = let h = c.args.state.rows in
    let at = c.args.at in
    let b = get_or h.links.ahead at 0 in
    record {
      ok = elim c.if-before-lt-MAX_SEQUENCE.branch [
        | then-before-lt-MAX_SEQUENCE w ↦
            (leaves-behind h at c.leave-links.result c.if-before-lt-MAX_SEQUENCE.restarts c.if-before-lt-MAX_SEQUENCE.settled_at
            c.moved_marks-mark.result c.args.state.ok c.requires
            c.leave-links.ensures b refl c.if-before-lt-MAX_SEQUENCE.to c.moved_marks-mark.ensures w.if-before-lt-MAX_SEQUENCE.true
            w.to-is w.settled_at-is
            (subst (MovesRestarts h.restarts at b) (sym w.restarts-is) w.moved_restarts-moved.ensures)).valid
        | else-before-lt-MAX_SEQUENCE w ↦
            (leaves-first h at c.leave-links.result c.if-before-lt-MAX_SEQUENCE.restarts c.if-before-lt-MAX_SEQUENCE.settled_at
            c.moved_marks-mark.result c.args.state.ok c.requires
            c.leave-links.ensures b refl c.if-before-lt-MAX_SEQUENCE.to c.moved_marks-mark.ensures w.if-before-lt-MAX_SEQUENCE.false
            w.to-is
            (ap settings_of w.settled_at-is ∙ w.after_restarts-after.ensures) w.restarts-is).valid
      ];
    }

pub returns : goal.returns
returns c = let h = c.args.state.rows in
    let at = c.args.at in
    let b = get_or h.links.ahead at 0 in
    elim c.if-before-lt-MAX_SEQUENCE.branch [
      | then-before-lt-MAX_SEQUENCE w ↦
          leaves-behind h at c.leave-links.result c.if-before-lt-MAX_SEQUENCE.restarts c.if-before-lt-MAX_SEQUENCE.settled_at
          c.moved_marks-mark.result c.args.state.ok c.requires
          c.leave-links.ensures b refl c.if-before-lt-MAX_SEQUENCE.to c.moved_marks-mark.ensures w.if-before-lt-MAX_SEQUENCE.true w.to-is
          w.settled_at-is
          (subst (MovesRestarts h.restarts at b) (sym w.restarts-is) w.moved_restarts-moved.ensures)
      | else-before-lt-MAX_SEQUENCE w ↦
          leaves-first h at c.leave-links.result c.if-before-lt-MAX_SEQUENCE.restarts c.if-before-lt-MAX_SEQUENCE.settled_at
          c.moved_marks-mark.result c.args.state.ok c.requires
          c.leave-links.ensures b refl c.if-before-lt-MAX_SEQUENCE.to c.moved_marks-mark.ensures w.if-before-lt-MAX_SEQUENCE.false w.to-is
          (ap settings_of w.settled_at-is ∙ w.after_restarts-after.ensures) w.restarts-is
    ]
