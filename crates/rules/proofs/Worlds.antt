-- The theorem is not empty: worlds of `Passages.antt` that meet the premise, end with no routine running and nothing left to put back, and
-- pass through what is hard. Each is computed; the theorem is not used. Assumes nothing.
use Rattle.rules_routine.specs.Refusals.{numbered}
use mathlib.Core.Path.{◌≡◌, refl, sym, ap, ◌∙◌}
use mathlib.Core.Logic.{inl, inr}
use mathlib.Core.Bool.{Bool, true, false, not, ◌&&◌}
use mathlib.Core.List.{List, [], ◌∷◌, ◌++◌}
use Prim.Native.Nat.{ℕ, zero, suc}
use lib.Dec.{eqb}
use lib.IntN.{ℤ, pos, negsuc}
use Rattle.rules.specs.Tables.{any_of, Each}
use Rattle.rules.specs.Answers.{Call, Answer, refused, placed, wait, send}
use Rattle.rules.specs.Answers.{done, skipped, held, not_held, committed, aborted, down, up, limited}
use Rattle.rules.specs.Open.{opened, new_hub, open_of}
use Rattle.rules.specs.History.{reported_done, found_held, found_not_held, Told, Account, skipped_by, sent_account, answered_account}
use Rattle.rules.specs.History.{has_begun, note_answer, note_answers, accounts_of, working_of}
use Rattle.rules.specs.Order.{put_after, entries, move_bar}
use Rattle.rules.specs.Serial.{DeviceState, all_up, serial_run}
use Rattle.rules.specs.World.{putting_back, sent_for, World, accounts, taken, PremiseAll, new_world}
use Rattle.rules.specs.Demand3.{order_in, NoneRuns, is_back, committed_part, CommandsStand}
use Rattle.rules.specs.Replay.{Replays}
use Rattle.rules.specs.Examples.{calc, back}
use Rattle.rules.proofs.Passages.{Passage, after, end_of, taken_late, overtaken, failed_in_flight, restarted_elsewhere, failed_after_change}
use Rattle.rules.proofs.Passages.{limited_anew, lamp_fails, lamp_restarts, waits_for_set, holds_by_restart, ahead_aborts, skipped_by_event}
use Rattle.rules.proofs.Lists.{by_if, t≠f, this_or_other, put_other, put_keeps, each_left, each_right, IsNot, NotIn}

-- all that a computation with worlds opens
unfoldable pub calc_world : Unit {0}
unfolding calc put_after move_bar taken
calc_world = tt

-- of the `left` devices from d on: does it work, with nothing left that puts it back? its setting; what the serial run gives it
abbrev pub ready_from : World → ℕ → ℕ → Bool
ready_from w d zero = true
ready_from w d (suc left) = working_of w.history d && not (any_of is_back (w.devices d).sent) && ready_from w (suc d) left

abbrev pub settings_from : World → ℕ → ℕ → List ℤ
settings_from w d zero = []
settings_from w d (suc left) = (w.devices d).setting ∷ settings_from w (suc d) left

abbrev pub states_from : World → ℕ → ℕ → List DeviceState
states_from w d zero = []
states_from w d (suc left) = serial_run (committed_part (entries (order_in w))) all_up d ∷ states_from w (suc d) left

abbrev pub up_at : List ℤ → List DeviceState
up_at [] = []
up_at (v ∷ l) = record { up = true; setting = v } ∷ up_at l

-- everything that the theorem asks of it holds, and what the theorem says of it: these settings in the end
pub record Passes (p : Passage) (settings : List ℤ) : Type 0 where
  pub accepted : open_of p.devices p.pass_limit 1 ≡ opened (new_hub p.devices p.pass_limit 1)
  pub premise : PremiseAll (new_world (new_hub p.devices p.pass_limit 1)) p.acts
  pub none_runs : NoneRuns (end_of p)
  pub ready : ready_from (end_of p) 0 p.devices ≡ true
  pub settings_are : settings_from (end_of p) 0 p.devices ≡ settings
  pub serial_is : states_from (end_of p) 0 p.devices ≡ up_at settings
  pub stands : CommandsStand (accounts (end_of p)) (entries (order_in (end_of p))) all_up

-- ---- no routine runs: told of the ids that were placed

abbrev placed_by : Answer → List ℕ
placed_by (refused r) = []
placed_by (placed i j) = i ∷ []
placed_by (wait i j) = []
placed_by (send i c) = []
placed_by (done i) = []
placed_by (skipped i l) = []
placed_by (held i) = []
placed_by (not_held i) = []
placed_by (committed i) = []
placed_by (aborted i l) = []
placed_by (down d j) = []
placed_by (up d j) = []
placed_by (limited k) = []

abbrev placed_among : List Answer → List ℕ
placed_among [] = []
placed_among (x ∷ l) = placed_by x ++ placed_among l

abbrev pub placed_in : List Told → List ℕ
placed_in [] = []
placed_in (t ∷ earlier) = placed_among t.answers ++ placed_in earlier

-- no other runs
module _ (i : ℕ) where
  one_answer : (c : Call) (x : Answer) (a : ℕ → Account) → NotIn i (placed_by x) → (a i).running ≡ false → (note_answer c x a i).running ≡ false
  one_answer c (refused r) a n e = e
  one_answer c (placed j k) a n e = ap (λ (z : Account). z.running) (put_other a j _ i (λ z. n.0 (sym z))) ∙ e
  one_answer c (wait j k) a n e = e
  one_answer c (send j y) a n e = put_keeps (λ (z : Account). z.running) a j (sent_account y (a j)) refl i ∙ e
  one_answer c (done j) a n e = put_keeps (λ (z : Account). z.running) a j (answered_account reported_done (a j)) refl i ∙ e
  one_answer c (skipped j l) a n e = put_keeps (λ (z : Account). z.running) a j (answered_account (skipped_by c) (a j)) refl i ∙ e
  one_answer c (held j) a n e = put_keeps (λ (z : Account). z.running) a j (answered_account found_held (a j)) refl i ∙ e
  one_answer c (not_held j) a n e = put_keeps (λ (z : Account). z.running) a j (answered_account found_not_held (a j)) refl i ∙ e
  one_answer c (committed j) a n e = by_if (λ (z : Account). z.running ≡ false) (eqb i j) (λ _. refl) (λ _. e)
  one_answer c (aborted j l) a n e = by_if (λ (z : Account). z.running ≡ false) (eqb i j) (λ _. refl) (λ _. e)
  one_answer c (down d j) a n e =
      by_if (λ (z : Account). z.running ≡ false) ((a i).running && has_begun d (a i)) (λ _. e) (λ _. e)
  one_answer c (up d j) a n e =
      by_if (λ (z : Account). z.running ≡ false) ((a i).running && has_begun d (a i)) (λ _. e) (λ _. e)
  one_answer c (limited k) a n e = e

  all_answers : (c : Call) (l : List Answer) (a : ℕ → Account) → NotIn i (placed_among l) → (a i).running ≡ false →
      (note_answers c l a i).running ≡ false
  all_answers c [] a n e = e
  all_answers c (x ∷ l) a n e =
      all_answers c l (note_answer c x a) (each_right (IsNot i) (placed_by x) (placed_among l) n)
      (one_answer c x a (each_left (IsNot i) (placed_by x) (placed_among l) n) e)

  never_placed : (h : List Told) → NotIn i (placed_in h) → (accounts_of h i).running ≡ false
  never_placed [] n = refl
  never_placed (t ∷ h) n =
      all_answers t.call t.answers (accounts_of h) (each_left (IsNot i) (placed_among t.answers) (placed_in h) n)
      (never_placed h (each_right (IsNot i) (placed_among t.answers) (placed_in h) n))

pub none_run : (w : World) → Each (λ j. (accounts w j).running ≡ false) (placed_in w.history) → NoneRuns w
none_run w h i = go (placed_in w.history) h (never_placed i w.history)
  where
    go : (l : List ℕ) → Each (λ j. (accounts w j).running ≡ false) l → (NotIn i l → (accounts w i).running ≡ false) →
        (accounts w i).running ≡ false
    go [] h k = k tt
    go (j ∷ l) h k = this_or_other (λ i. (accounts w i).running ≡ false) j i h.0 (λ n. go l h.1 (λ m. k (n, m)))

-- ---- worlds that end

pub taken-late : Passes taken_late (pos 0 ∷ [])
unfolding calc_world
taken-late = record {
  accepted = refl;
  premise = ((λ _. tt), ((λ _. tt), ((λ _. tt), (tt, (tt, tt)))));
  none_runs = none_run (end_of taken_late) (refl, tt);
  ready = refl;
  settings_are = refl;
  serial_is = refl;
  stands = tt;
}

pub overtaken_passes : Passes overtaken (pos 70 ∷ pos 0 ∷ [])
unfolding calc_world
overtaken_passes = record {
  accepted = refl;
  premise = ((λ _. tt), ((λ _. tt), (tt, ((λ _. refl), ((λ _. tt), ((λ _. tt), ((λ _. tt), (tt, ((λ _. refl), ((λ _. tt), tt))))))))));
  none_runs = none_run (end_of overtaken) (refl, (refl, tt));
  ready = refl;
  settings_are = refl;
  serial_is = refl;
  stands = (refl, (refl, tt), tt);
}

pub failed_in-flight : Passes failed_in_flight (pos 33 ∷ [])
unfolding calc_world
failed_in-flight = record {
  accepted = refl;
  premise = ((λ _. tt), ((λ _. tt), ((λ _. tt), ((λ _. refl), tt))));
  none_runs = none_run (end_of failed_in_flight) (refl, tt);
  ready = refl;
  settings_are = refl;
  serial_is = refl;
  stands = tt;
}

pub restarted-elsewhere : Passes restarted_elsewhere (negsuc 6 ∷ [])
unfolding calc_world
restarted-elsewhere = record {
  accepted = refl;
  premise = (
    (λ _. tt),
    (
      (λ _. tt),
      (
        tt,
        ((λ _. refl), ((λ e. t≠f (sym e)), ((λ e. t≠f (sym e)), ((λ _. tt), ((λ _. tt), ((λ _. tt), ((λ _. refl), tt))))))),
      ),
    ),
  );
  none_runs = none_run (end_of restarted_elsewhere) (refl, tt);
  ready = refl;
  settings_are = refl;
  serial_is = refl;
  stands = (refl, (refl, tt), tt);
}

pub failed_after-change : Passes failed_after_change (pos 0 ∷ pos 0 ∷ [])
unfolding calc_world
failed_after-change = record {
  accepted = refl;
  premise = ((λ _. tt), ((λ _. tt), (tt, ((λ _. refl), ((λ _. tt), ((λ _. tt), ((λ _. tt), ((λ _. refl), (tt, ((λ _. tt), tt))))))))));
  none_runs = none_run (end_of failed_after_change) (refl, (refl, tt));
  ready = refl;
  settings_are = refl;
  serial_is = refl;
  stands = (refl, (tt, tt), tt);
}

pub limited-anew : Passes limited_anew (pos 50 ∷ [])
unfolding calc_world
limited-anew = record {
  accepted = refl;
  premise = (
    (λ _. tt),
    (
      (λ _. tt),
      (
        (λ _. tt),
        (
          (λ _. tt),
          (
            (λ _. tt),
            (tt, ((λ _. refl), ((λ _. tt), ((λ _. tt), ((λ _. tt), (tt, ((λ _. refl), ((λ _. tt), tt)))))))),
          ),
        ),
      ),
    ),
  );
  none_runs = none_run (end_of limited_anew) (refl, (refl, tt));
  ready = refl;
  settings_are = refl;
  serial_is = refl;
  stands = (refl, (refl, tt), (refl, (refl, tt), tt));
}

pub lamp-fails : Passes lamp_fails (pos 33 ∷ pos 20 ∷ [])
unfolding calc_world
lamp-fails = record {
  accepted = refl;
  premise = (
    (λ _. tt),
    (
      (λ _. tt),
      (
        tt,
        (
          (λ _. tt),
          ((λ e. t≠f (sym e)), ((λ _. tt), (tt, ((λ _. refl), ((λ _. tt), ((λ e. t≠f (sym e)), ((λ _. refl), tt))))))),
        ),
      ),
    ),
  );
  none_runs = none_run (end_of lamp_fails) (refl, tt);
  ready = refl;
  settings_are = refl;
  serial_is = refl;
  stands = (refl, ((refl, refl), (refl, ((refl, refl), tt))), tt);
}

pub lamp-restarts : Passes lamp_restarts (pos 33 ∷ pos 20 ∷ [])
unfolding calc_world
lamp-restarts = record {
  accepted = refl;
  premise = ((λ _. tt), ((λ _. tt), ((λ _. tt), ((λ _. refl), ((λ _. tt), (tt, ((λ _. refl), ((λ _. tt), tt))))))));
  none_runs = none_run (end_of lamp_restarts) (refl, tt);
  ready = refl;
  settings_are = refl;
  serial_is = refl;
  stands = (refl, (inr (refl, refl), (refl, ((refl, refl), tt))), tt);
}

-- ---- water only if dry (document 02, item 4)

-- along the order every condition that was not skipped finds its device up, and has the outcome that it had live
abbrev pub ReplaysIn : Passage → Type 0
ReplaysIn p = Replays (accounts (end_of p)) (entries (order_in (end_of p))) all_up

pub waits_for-set : Passes waits_for_set (pos 30 ∷ pos 5 ∷ []) × ReplaysIn waits_for_set
unfolding calc_world
waits_for-set = (
  record {
    accepted = refl;
    premise = (
      (λ _. tt),
      (
        (λ _. tt),
        (
          tt,
          (
            (λ _. refl),
            (
              (λ _. tt),
              (
                (λ _. tt),
                ((λ _. tt), (tt, ((λ _. refl), ((λ _. tt), ((λ _. tt), ((λ _. tt), ((λ _. tt), (tt, ((λ _. refl), ((λ _. tt), tt)))))))))),
              ),
            ),
          ),
        ),
      ),
    );
    none_runs = none_run (end_of waits_for_set) (refl, (refl, tt));
    ready = refl;
    settings_are = refl;
    serial_is = refl;
    stands = (refl, (refl, (refl, tt)), (refl, (refl, (refl, tt)), tt));
  },
  (((refl, refl), ((refl, refl), tt)), (((refl, refl, refl), ((refl, refl), tt)), tt)),
)

pub holds_by-restart : Passes holds_by_restart (pos 25 ∷ pos 7 ∷ []) × ReplaysIn holds_by_restart
unfolding calc_world
holds_by-restart = (
  record {
    accepted = refl;
    premise = (
      (λ _. tt),
      (
        (λ _. tt),
        (
          (λ _. tt),
          (
            (λ _. refl),
            ((λ _. tt), ((λ _. tt), ((λ _. tt), (tt, ((λ _. refl), ((λ _. tt), ((λ _. tt), (tt, ((λ _. refl), ((λ _. tt), tt)))))))))),
          ),
        ),
      ),
    );
    none_runs = none_run (end_of holds_by_restart) (refl, (refl, tt));
    ready = refl;
    settings_are = refl;
    serial_is = refl;
    stands = (refl, (inr (refl, refl), (refl, tt)), (refl, (refl, (refl, tt)), tt));
  },
  ((tt, ((refl, refl), tt)), (((refl, refl, refl), ((refl, refl), tt)), tt)),
)

pub ahead-aborts : Passes ahead_aborts (pos 7 ∷ pos 0 ∷ []) × ReplaysIn ahead_aborts
unfolding calc_world
ahead-aborts = (
  record {
    accepted = refl;
    premise = (
      (λ _. tt),
      ((λ _. tt), ((λ _. tt), ((λ _. refl), ((λ _. tt), ((λ _. tt), ((λ _. tt), ((λ _. tt), (tt, ((λ _. refl), ((λ _. tt), tt)))))))))),
    );
    none_runs = none_run (end_of ahead_aborts) (refl, (refl, tt));
    ready = refl;
    settings_are = refl;
    serial_is = refl;
    stands = (refl, (refl, (refl, tt)), tt);
  },
  (((refl, refl, refl), ((refl, refl), tt)), tt),
)

pub skipped_by-event : Passes skipped_by_event (pos 33 ∷ pos 6 ∷ []) × ReplaysIn skipped_by_event
unfolding calc_world
skipped_by-event = (
  record {
    accepted = refl;
    premise = (
      (λ _. tt),
      ((λ _. tt), (tt, ((λ _. refl), ((λ _. tt), ((λ _. tt), ((λ _. tt), (tt, ((λ _. refl), ((λ _. tt), ((λ _. refl), tt)))))))))),
    );
    none_runs = none_run (end_of skipped_by_event) (refl, tt);
    ready = refl;
    settings_are = refl;
    serial_is = refl;
    stands = (refl, (refl, ((refl, refl), (inl refl, (refl, tt)))), tt);
  },
  (((refl, refl), (tt, (tt, ((refl, refl), tt)))), tt),
)

-- ---- on their way

abbrev last_answers : List Told → List Answer
last_answers [] = []
last_answers (t ∷ l) = t.answers

-- What is claimed of them on their way: 50 is taken after `aborted`, with the put-back behind it; 70 is taken past a put-back; 50 is on
-- its way when the failure leaves 33; the restart reports −7; the report finds the due setting changed; 2 passes 1, by a K of 1, and 9 is
-- refused; the lamp has taken 50 when it fails, the answer names the failure alone, and late reports are 12 and 10; the
-- condition waits when 1 has only done device 0, holds by the restart, and is skipped by the failure, its command at its turn.
pub midways :
    (last_answers (after 3 taken_late).history ≡ aborted 1 (back 0 (pos 0) ∷ []) ∷ []) × (((after 4 taken_late).devices 0).setting ≡ pos 50)
    × (((after 4 taken_late).devices 0).sent ≡ record { setting = pos 0; origin = putting_back } ∷ [])
    × (((after 7 overtaken).devices 0).sent ≡ record { setting = pos 0; origin = putting_back }
    ∷ record { setting = pos 70; origin = sent_for 2 1 } ∷ [])
    × (((after 8 overtaken).devices 0).sent ≡ []) × (last_answers (after 9 overtaken).history ≡ done 2 ∷ [])
    × (((after 2 failed_in_flight).devices 0).sent ≡ record { setting = pos 50; origin = sent_for 1 1 } ∷ [])
    × (last_answers (after 3 failed_in_flight).history ≡ aborted 1 [] ∷ down 0 0 ∷ []) × (((after 3 failed_in_flight).devices 0).setting ≡ pos 33)
    × (last_answers (after 10 restarted_elsewhere).history ≡ up 0 0 ∷ [])
    × (last_answers (after 8 failed_after_change).history ≡ skipped 2 (back 0 (pos 0) ∷ []) ∷ [])
    × (last_answers (after 3 limited_anew).history ≡ placed 2 0 ∷ []) × (last_answers (after 5 limited_anew).history ≡ limited 0 ∷ [])
    × (last_answers (after 8 limited_anew).history ≡ refused (numbered 2) ∷ [])
    × (((after 3 lamp_fails).devices 0).setting ≡ pos 50) × (last_answers (after 4 lamp_fails).history ≡ down 0 1 ∷ [])
    × (last_answers (after 5 lamp_fails).history ≡ refused (numbered 12) ∷ [])
    × (last_answers (after 10 lamp_fails).history ≡ refused (numbered 10) ∷ [])
    × (last_answers (after 4 lamp_restarts).history ≡ up 0 1 ∷ [])
    × (last_answers (after 6 waits_for_set).history ≡ wait 2 1 ∷ []) × (last_answers (after 10 waits_for_set).history ≡ wait 2 1 ∷ [])
    × (last_answers (after 12 waits_for_set).history ≡ held 2 ∷ []) × (last_answers (after 6 holds_by_restart).history ≡ held 2 ∷ [])
    × (last_answers (after 7 ahead_aborts).history ≡ aborted 1 [] ∷ []) × (last_answers (after 5 skipped_by_event).history ≡ down 0 1 ∷ [])
    × (last_answers (after 6 skipped_by_event).history ≡ skipped 1 [] ∷ []) × ((after 6 skipped_by_event).state.up 1 ≡ true)
unfolding calc_world
midways = (
  refl,
  refl,
  refl,
  refl,
  refl,
  refl,
  refl,
  refl,
  refl,
  refl,
  refl,
  refl,
  refl,
  refl,
  refl,
  refl,
  refl,
  refl,
  refl,
  refl,
  refl,
  refl,
  refl,
  refl,
  refl,
  refl,
  refl,
)
