-- Worlds of `Passages.antt` in which a wrong rule shows: each is computed, and one of the three parts of demand 3 fails in it as soon as
-- the rule is changed as the edit of the same name in `must-fail/` does. (`failed_never_puts_back` shows in `failed_after-change` of
-- `Worlds.antt`; `event_ahead` has no edit of its own: `event_to_old_mark` is one of the same place.) At the end: answers that the
-- statements exclude, so that a weaker statement shows. Assumes nothing.
use mathlib.Core.Path.{refl, sym}
use mathlib.Core.Logic.{◌⊎◌, inl, inr}
use mathlib.Core.List.{List, [], ◌∷◌}
use lib.IntN.{pos}
use Rattle.rules.specs.Answers.{Call, submit, turn, report, failure, Answer, placed, send, skipped, not_held, down}
use Rattle.rules.specs.History.{Told, accounts_of}
use Rattle.rules.specs.Order.{failure_event, event, entries, order_of}
use Rattle.rules.specs.Serial.{all_up}
use Rattle.rules.specs.World.{takes_one, accounts, Truthful}
use Rattle.rules.specs.Demand3.{order_in, Begins, CommandsStand}
use Rattle.rules.specs.Replay.{Replays}
use Rattle.rules.specs.Examples.{must, best, condition}
use Rattle.rules.proofs.Lists.{t≠f}
use Rattle.rules.proofs.Passages.{Passage, after, end_of, committed_stays, later_stands, event_after_abort, mark_goes_back, events_stay}
use Rattle.rules.proofs.Passages.{restart_aborts, skip_begins, fails_settled, must_aborts, all_left_skipped, flight_ends, event_behind}
use Rattle.rules.proofs.Passages.{unbegun_keeps, lamp_late, set_goes, equal_holds, skipped_in_turn, skipped_skips}
use Rattle.rules.proofs.Worlds.{calc_world, Passes, none_run, ReplaysIn}

-- commit_leaves_at_once: 2 is committed behind 1, which runs; 3 follows 2. If 2 were gone, 3 would be placed ahead of both, and the serial
-- run would end with 2's 70.
pub committed-stays : Passes committed_stays (pos 9 ∷ pos 0 ∷ [])
unfolding calc_world
committed-stays = record {
  accepted = refl;
  premise = (
    (λ _. tt),
    (
      (λ _. tt),
      (
        tt,
        (
          (λ _. refl),
          (
            (λ _. tt),
            (
              (λ _. tt),
              (tt, ((λ _. refl), ((λ _. tt), ((λ _. tt), ((λ _. tt), (tt, ((λ _. refl), ((λ _. tt), ((λ _. tt), (tt, tt)))))))))),
            ),
          ),
        ),
      ),
    ),
  );
  none_runs = none_run (end_of committed_stays) (refl, (refl, (refl, tt)));
  ready = refl;
  settings_are = refl;
  serial_is = refl;
  stands = (refl, (refl, tt), (refl, (refl, tt), tt));
}

-- event_to_old_mark: the failure of 0 aborts 1 and stands where 1 stood, ahead of 2. Attached to 1, it would come last, behind the restart.
pub event-after-abort : Passes event_after_abort (pos 33 ∷ pos 5 ∷ [])
unfolding calc_world
event-after-abort = record {
  accepted = refl;
  premise = (
    (λ _. tt),
    ((λ _. tt), (tt, ((λ _. refl), ((λ _. tt), ((λ _. tt), ((λ _. refl), ((λ _. tt), (tt, ((λ _. refl), ((λ _. tt), tt)))))))))),
  );
  none_runs = none_run (end_of event_after_abort) (refl, (refl, tt));
  ready = refl;
  settings_are = refl;
  serial_is = refl;
  stands = (refl, (refl, tt), tt);
}

-- back_to_before_the_routine: 2's 70 stands behind 1, which is cancelled: nothing is put back.
pub later-stands : Passes later_stands (pos 70 ∷ pos 0 ∷ [])
unfolding calc_world
later-stands = record {
  accepted = refl;
  premise = (
    (λ _. tt),
    ((λ _. tt), (tt, ((λ _. refl), ((λ _. tt), ((λ _. tt), (tt, ((λ _. refl), ((λ _. tt), ((λ _. tt), (tt, tt)))))))))),
  );
  none_runs = none_run (end_of later_stands) (refl, (refl, tt));
  ready = refl;
  settings_are = refl;
  serial_is = refl;
  stands = (refl, (refl, tt), tt);
}

-- mark_becomes_zero: 2 is cancelled and the mark of 0 goes back to 1, which did 0: the failure and the restart stand behind it.
pub mark-goes-back : Passes mark_goes_back (pos 33 ∷ pos 1 ∷ [])
unfolding calc_world
mark-goes-back = record {
  accepted = refl;
  premise = (
    (λ _. tt),
    (
      (λ _. tt),
      (
        tt,
        (
          (λ _. refl),
          (
            (λ _. tt),
            (
              (λ _. tt),
              (tt, ((λ _. refl), ((λ _. tt), (tt, ((λ _. tt), ((λ _. refl), ((λ _. tt), (tt, ((λ _. refl), ((λ _. tt), tt)))))))))),
            ),
          ),
        ),
      ),
    ),
  );
  none_runs = none_run (end_of mark_goes_back) (refl, (refl, tt));
  ready = refl;
  settings_are = refl;
  serial_is = refl;
  stands = (refl, (refl, (refl, tt)), tt);
}

-- events_dropped: the restart of 0 is attached to 2, which is cancelled: it moves to 1, and 0 stays at 33.
pub events-stay : Passes events_stay (pos 33 ∷ pos 1 ∷ [])
unfolding calc_world
events-stay = record {
  accepted = refl;
  premise = (
    (λ _. tt),
    (
      (λ _. tt),
      (
        tt,
        (
          (λ _. refl),
          (
            (λ _. tt),
            (
              (λ _. tt),
              (tt, ((λ _. refl), ((λ _. tt), ((λ _. refl), ((λ _. tt), (tt, ((λ _. tt), (tt, ((λ _. refl), ((λ _. tt), tt)))))))))),
            ),
          ),
        ),
      ),
    ),
  );
  none_runs = none_run (end_of events_stay) (refl, (refl, tt));
  ready = refl;
  settings_are = refl;
  serial_is = refl;
  stands = (refl, (refl, (refl, tt)), tt);
}

-- where the commands stand in it
abbrev pub Stands : Passage → Type 0
Stands p = CommandsStand (accounts (end_of p)) (entries (order_in (end_of p))) all_up

-- restart_stops_nobody: 1 has skipped 0 as down and has a must on 0 left: the restart aborts it. Else it would do 0 ahead of the restart,
-- where 0 is down.
pub restart-aborts : Stands restart_aborts
unfolding calc_world
restart-aborts = tt

-- skip_sets_no_mark: 1 has skipped 0 as down: the restart stands behind it. Ahead of it, the skipped command would find 0 up.
pub skip-begins : Stands skip_begins
unfolding calc_world
skip-begins = (refl, (inr (refl, refl), tt), tt)

-- marks_stay_settled: 1 has settled and the mark of 0 is 0, so the failure of 0 comes last in the settled part. Attached to 1, it would get
-- in ahead of 2, which has settled too.
pub settled-stands : Begins (order_in (after 8 fails_settled)).settled (entries (order_in (end_of fails_settled)))
unfolding calc_world
settled-stands = (event (failure_event 0) ∷ [], refl)

-- ---- a lamp, device 0, that dies after its work (document 02, item 3)

-- must_skipped: a must is left on the lamp behind a best-effort command: it aborts. Skipped, it would be a must that an event skipped.
pub must-aborts : Stands must_aborts
unfolding calc_world
must-aborts = tt

-- first_left_skipped: three commands are left on the lamp, and all are skipped. If the failure skipped the first and the restart the next,
-- the last would be done ahead of both; the account has skipped it.
pub all_left-skipped : Stands all_left_skipped
unfolding calc_world
all_left-skipped = (refl, (refl, ((refl, refl), ((refl, refl), ((refl, refl), tt)))), tt)

-- flight_stays: the lamp is in flight when it fails, and nothing is in flight then: the late report is refused. Taken for a command in
-- flight, it would be a done one that the account does not have.
pub flight-ends : Stands flight_ends
unfolding calc_world
flight-ends = (refl, ((refl, refl), (tt, tt)), tt)

-- event_ahead: the lamp was done: its failure stands behind the routine. Ahead of it, the done command would find the lamp down.
pub event-behind : Stands event_behind
unfolding calc_world
event-behind = (refl, (refl, (tt, ((refl, refl), tt))), tt)

-- unbegun_skipped: the routine has not begun the lamp, and loses nothing. Else the account would have another command done than the order.
pub unbegun-keeps : Stands unbegun_keeps
unfolding calc_world
unbegun-keeps = (refl, (refl, (inr (refl, refl), (refl, tt))), tt)

-- late_report_counts: the lamp has failed, and the routine has sent the shelter's second command, which is not taken. A late done report
-- on the lamp's, which was, would be accepted for the shelter's, and breaks the premise: the server must drop it. So would a late failed
-- one, on a lamp that took nothing, once the shelter has taken its own.
pub late_reports :
    (Truthful (end_of (lamp_late (takes_one 0 0 ∷ []) [])) (report 1 0) → ⊥)
    × (Truthful (end_of (lamp_late [] (takes_one 1 0 ∷ []))) (report 1 1) → ⊥)
unfolding calc_world
late_reports = ((λ e. t≠f (sym e)), (λ e. t≠f e))

-- ---- water only if dry (document 02, item 4): device 0 is the soil's

-- second_cause_dropped: 1 runs and has done device 0: the condition of 2 waits, and 1 is cancelled. Else it would hold by the 30 that goes
-- with 1, and along the order not.
pub set_waited_for : ReplaysIn set_goes
unfolding calc_world
set_waited_for = ((tt, (tt, tt)), tt)

-- equal_does_not_hold: 20 is not below 20. Answered `not held`, it would be held along the order.
pub equal-holds : ReplaysIn equal_holds
unfolding calc_world
equal-holds = (((refl, refl), tt), (((refl, refl, refl), (tt, tt)), tt))

-- skipped_at_once: the command after the condition that does not hold is skipped at its own turn. Skipped with the condition, where no
-- answer tells it, the account would have it done, and not the one that was.
pub skipped_in-turn : Stands skipped_in_turn
unfolding calc_world
skipped_in-turn = (refl, (refl, (inl refl, (refl, tt))), tt)

-- skipped_counts_as_held: device 0 is down, and the condition on it is skipped: so is the command after it, though its device is up. Sent,
-- it would be done, which is no replay.
pub skipped-skips : ReplaysIn skipped_skips
unfolding calc_world
skipped-skips = ((tt, (tt, tt)), tt)

-- ---- what the statements exclude: answers that no hub of these rules gives, the latest first

-- neither ground holds
neither : {A B : Type 0} → A ⊎ B → (A → ⊥) → (B → ⊥) → ⊥
neither (inl a) f g = f a
neither (inr b) f g = g b

abbrev answering : Call → Answer → Told
answering c x = record { call = c; answers = x ∷ [] }

abbrev StandsIn : List Told → Type 0
StandsIn h = CommandsStand (accounts_of h) (entries (order_of h)) all_up

-- must_skipped_as_down: a must on a device that is down is skipped by its turn, and its routine goes on
pub must-not-skipped :
    StandsIn (answering (turn 1) (skipped 1 []) ∷ answering (submit (must 0 (pos 5) ∷ [])) (placed 1 0)
    ∷ answering (failure 0) (down 0 0) ∷ []) →
    ⊥
unfolding calc_world
must-not-skipped h = neither h.1.0 (λ skips. t≠f (sym skips)) (λ is. t≠f is.1)

-- skipped_though_done: a command is skipped that was reported done, and whose device is up
pub done-not-skipped :
    StandsIn (answering (report 1 0) (skipped 1 []) ∷ answering (turn 1) (send 1 (best 0 (pos 5)))
    ∷ answering (submit (best 0 (pos 5) ∷ [])) (placed 1 0) ∷ []) →
    ⊥
unfolding calc_world
done-not-skipped h = neither h.1.0 (λ skips. t≠f (sym skips)) (λ is. t≠f is.0)

-- a command is sent after a condition that did not hold, and reported failed
pub not-held-not-sent :
    (let h = answering (report 1 1) (skipped 1 []) ∷ answering (turn 1) (send 1 (best 1 (pos 5))) ∷ answering (turn 1) (not_held 1)
    ∷ answering (submit (condition 0 (pos 20) ∷ best 1 (pos 5) ∷ [])) (placed 1 0) ∷ [] in
    Replays (accounts_of h) (entries (order_of h)) all_up) →
    ⊥
unfolding calc_world
not-held-not-sent h = t≠f h.0.1.0.1
