-- The worlds that are computed, each once: an opening, and what then happens. Of those that end, `Worlds.antt` has what demand 3 says of
-- them; in those behind them wrong rules and wrong statements show, by the facts of `Controls.antt`. Assumes nothing.
use mathlib.Core.List.{List, [], ◌∷◌, ◌++◌}
use Prim.Native.Nat.{ℕ}
use lib.IntN.{pos, negsuc}
use lib.ListN.{take}
use Rattle.rules_routine.specs.declared.Command.{Command}
use Rattle.rules.specs.Answers.{Call, submit, turn, report, failure, restart, cancel, limit}
use Rattle.rules.specs.Open.{new_hub}
use Rattle.rules.specs.World.{World, Act, calls, takes_one, world_after_all, new_world}
use Rattle.rules.specs.Examples.{must, best, condition}

pub record Passage : Type 0 where
  pub devices : ℕ
  pub pass_limit : ℕ
  pub acts : List Act

-- the world after the first n acts, and after all
abbrev pub after : ℕ → Passage → World
after n p = world_after_all (new_world (new_hub p.devices p.pass_limit 1)) (take n p.acts)

abbrev pub end_of : Passage → World
end_of p = world_after_all (new_world (new_hub p.devices p.pass_limit 1)) p.acts

-- ---- in short

-- one device, nobody may be passed; two devices, nobody; two devices, with passes
abbrev one_device : List Act → Passage
one_device acts = record { devices = 1; pass_limit = 0; acts = acts }

abbrev two_devices : List Act → Passage
two_devices acts = record { devices = 2; pass_limit = 0; acts = acts }

abbrev with_passes : List Act → Passage
with_passes acts = record { devices = 2; pass_limit = 8; acts = acts }

-- a call that leaves no device at another setting
abbrev pub call : Call → Act
call c = calls c (pos 0)

abbrev submits : List Command → Act
submits cs = call (submit cs)

abbrev turns : ℕ → Act
turns i = call (turn i)

-- the next command of i goes to device d, which takes it; it is reported done
abbrev does : ℕ → ℕ → List Act
does i d = turns i ∷ takes_one d 0 ∷ call (report i 0) ∷ []

-- ---- worlds that end: no routine runs

-- a send is taken only after its routine was cancelled; then what puts the device back is taken
abbrev pub taken_late : Passage
taken_late = one_device (submits (must 0 (pos 50) ∷ []) ∷ turns 1 ∷ call (cancel 1) ∷ takes_one 0 0 ∷ takes_one 0 0 ∷ [])

-- what puts a device back is overtaken by a later send, which was done
abbrev pub overtaken : Passage
overtaken = with_passes (
    submits (must 0 (pos 50) ∷ must 1 (pos 20) ∷ []) ∷ (does 1 0 ++ (call (cancel 1) ∷ submits (must 0 (pos 70) ∷ []) ∷ turns 2
    ∷ takes_one 0 1 ∷ call (report 2 0) ∷ turns 2 ∷ [])))

-- a failure with a command in flight leaves another setting, 33, which no command gave; the restart reports it
abbrev pub failed_in_flight : Passage
failed_in_flight = one_device (submits (must 0 (pos 50) ∷ []) ∷ turns 1 ∷ calls (failure 0) (pos 33) ∷ call (restart 0 (pos 33)) ∷ [])

-- a failure before the commit, and a restart behind it at a setting that no command gave; refused calls between, whatever they say
abbrev pub restarted_elsewhere : Passage
restarted_elsewhere = one_device (
    submits (must 0 (pos 50) ∷ []) ∷ (does 1 0 ++ (call (report 1 0) ∷ call (restart 0 (pos 9)) ∷ calls (failure 0) (negsuc 6) ∷ turns 1
    ∷ call (failure 0) ∷ call (restart 0 (negsuc 6)) ∷ [])))

-- a best-effort command is reported failed after the due setting changed under it
abbrev pub failed_after_change : Passage
failed_after_change = with_passes (
    submits (must 0 (pos 50) ∷ must 1 (pos 20) ∷ []) ∷ (does 1 0 ++ (submits (best 0 (pos 70) ∷ []) ∷ turns 2 ∷ call (cancel 1)
    ∷ call (report 2 1) ∷ takes_one 0 0 ∷ turns 2 ∷ [])))

-- new pass limits, before a placement and with a command in flight, and a refused one: 2 passes 1, whose setting stands last
abbrev pub limited_anew : Passage
limited_anew = one_device (
    submits (must 0 (pos 50) ∷ []) ∷ call (limit 1) ∷ submits (must 0 (pos 70) ∷ []) ∷ turns 2 ∷ call (limit 0) ∷ takes_one 0 0
    ∷ call (report 2 0) ∷ call (limit 9) ∷ turns 2 ∷ (does 1 0 ++ (turns 1 ∷ [])))

-- a lamp, device 0, fails in flight, its setting taken: what is left on it is skipped; late reports, a done and a failed one, are refused
abbrev pub lamp_fails : Passage
lamp_fails = two_devices (
    submits (best 0 (pos 50) ∷ must 1 (pos 20) ∷ best 0 (pos 60) ∷ []) ∷ turns 1 ∷ takes_one 0 0 ∷ calls (failure 0) (pos 33)
    ∷ call (report 1 0) ∷ (does 1 1 ++ (turns 1 ∷ call (report 1 1) ∷ call (restart 0 (pos 33)) ∷ [])))

-- a lamp that is down is skipped, and restarts: what is left on it is skipped, too, with the restart behind its routine
abbrev pub lamp_restarts : Passage
lamp_restarts = two_devices (
    calls (failure 0) (pos 33) ∷ submits (best 0 (pos 5) ∷ must 1 (pos 20) ∷ best 0 (pos 6) ∷ []) ∷ turns 1 ∷ call (restart 0 (pos 33))
    ∷ (does 1 1 ++ (turns 1 ∷ [])))

-- 1 has done device 0 and finished it, and 2 asks about it
abbrev set_ahead : List Act
set_ahead = submits (must 0 (pos 30) ∷ must 1 (pos 1) ∷ []) ∷ (does 1 0 ++ (submits (condition 0 (pos 20) ∷ must 1 (pos 5) ∷ [])
    ∷ turns 2 ∷ []))

-- the condition of 2 waits for 1, by the second cause alone, until 1 is committed; then it holds
abbrev pub waits_for_set : Passage
waits_for_set = two_devices (set_ahead ++ (does 1 1 ++ (turns 2 ∷ turns 1 ∷ turns 2 ∷ (does 2 1 ++ (turns 2 ∷ [])))))

-- device 0 is down for 1, and restarts at 25 behind it: the condition of 2 holds because of that, while 1 runs
abbrev pub holds_by_restart : Passage
holds_by_restart = two_devices (
    calls (failure 0) (pos 25) ∷ submits (best 0 (pos 3) ∷ must 1 (pos 1) ∷ []) ∷ turns 1 ∷ call (restart 0 (pos 25))
    ∷ submits (condition 0 (pos 20) ∷ must 1 (pos 7) ∷ []) ∷ turns 2 ∷ (does 1 1 ++ (turns 1 ∷ (does 2 1 ++ (turns 2 ∷ [])))))

-- the same, but 1 is cancelled once the condition held: the restart behind it stays, and the condition holds still
abbrev pub ahead_aborts : Passage
ahead_aborts = two_devices (
    calls (failure 0) (pos 25) ∷ submits (best 0 (pos 3) ∷ must 1 (pos 1) ∷ []) ∷ turns 1 ∷ call (restart 0 (pos 25))
    ∷ submits (condition 0 (pos 20) ∷ must 0 (pos 7) ∷ []) ∷ turns 2 ∷ call (cancel 1) ∷ (does 2 0 ++ (turns 2 ∷ [])))

-- device 0 fails when a condition on it is left: the failure skips it, and its turn the command after it, whose device, 1, is up
abbrev pub skipped_by_event : Passage
skipped_by_event = two_devices (
    submits (must 0 (pos 9) ∷ condition 0 (pos 5) ∷ best 1 (pos 5) ∷ must 1 (pos 6) ∷ []) ∷ (does 1 0 ++ (calls (failure 0) (pos 33)
    ∷ turns 1 ∷ (does 1 1 ++ (turns 1 ∷ call (restart 0 (pos 33)) ∷ [])))))

-- ---- worlds that end, and in which a wrong rule shows

-- 2 is committed behind 1, which runs and has done device 0
abbrev committed_behind : List Act
committed_behind = submits (must 0 (pos 50) ∷ must 1 (pos 20) ∷ []) ∷ (does 1 0 ++ (submits (must 0 (pos 70) ∷ [])
    ∷ (does 2 0 ++ (turns 2 ∷ []))))

-- 3 follows 2; then 1 is cancelled
abbrev pub committed_stays : Passage
committed_stays = with_passes (
    committed_behind ++ (submits (must 0 (pos 9) ∷ []) ∷ (does 3 0 ++ (turns 3 ∷ call (cancel 1) ∷ takes_one 0 0 ∷ []))))

-- 1 is cancelled, and 2's 70 stands
abbrev pub later_stands : Passage
later_stands = with_passes (committed_behind ++ (call (cancel 1) ∷ takes_one 0 0 ∷ []))

-- the failure of 0 aborts 1 and stands where 1 stood, ahead of 2
abbrev pub event_after_abort : Passage
event_after_abort = two_devices (
    submits (must 0 (pos 50) ∷ must 0 (pos 60) ∷ []) ∷ (does 1 0 ++ (submits (must 1 (pos 5) ∷ []) ∷ calls (failure 0) (pos 33)
    ∷ call (restart 0 (pos 33)) ∷ (does 2 1 ++ (turns 2 ∷ [])))))

-- 2 is cancelled and the mark of 0 goes back to 1; then 0 fails and restarts
abbrev pub mark_goes_back : Passage
mark_goes_back = with_passes (
    submits (must 0 (pos 50) ∷ must 1 (pos 1) ∷ []) ∷ (does 1 0 ++ (submits (must 0 (pos 60) ∷ must 0 (pos 61) ∷ []) ∷ (does 2 0
    ++ (call (cancel 2) ∷ takes_one 0 0 ∷ calls (failure 0) (pos 33) ∷ call (restart 0 (pos 33)) ∷ (does 1 1 ++ (turns 1 ∷ [])))))))

-- the restart of 0 is attached to 2, which is cancelled
abbrev pub events_stay : Passage
events_stay = with_passes (
    submits (must 0 (pos 50) ∷ must 1 (pos 1) ∷ []) ∷ (does 1 0 ++ (submits (must 0 (pos 60) ∷ must 1 (pos 2) ∷ []) ∷ (does 2 0
    ++ (calls (failure 0) (pos 33) ∷ call (restart 0 (pos 33)) ∷ call (cancel 2) ∷ takes_one 0 0 ∷ (does 1 1 ++ (turns 1 ∷ [])))))))

-- ---- worlds in which a wrong rule shows

-- 1 has skipped 0 as down and has a must on 0 left when 0 restarts
abbrev pub restart_aborts : Passage
restart_aborts = two_devices (
    call (failure 0) ∷ submits (best 0 (pos 5) ∷ must 0 (pos 6) ∷ []) ∷ turns 1 ∷ call (restart 0 (pos 0)) ∷ does 1 0)

-- 1 has skipped 0 as down when 0 restarts
abbrev pub skip_begins : Passage
skip_begins = two_devices (call (failure 0) ∷ submits (best 0 (pos 5) ∷ []) ∷ turns 1 ∷ call (restart 0 (pos 0)) ∷ [])

-- 1 has settled, which did 0, and 2; then 0 fails, the ninth act
abbrev pub fails_settled : Passage
fails_settled = two_devices (
    submits (must 0 (pos 5) ∷ []) ∷ turns 1 ∷ call (report 1 0) ∷ turns 1 ∷ submits (must 1 (pos 6) ∷ []) ∷ turns 2 ∷ call (report 2 0)
    ∷ turns 2 ∷ call (failure 0) ∷ [])

-- a lamp, device 0, fails with a must left on it
abbrev pub must_aborts : Passage
must_aborts = two_devices (submits (best 0 (pos 5) ∷ must 0 (pos 6) ∷ must 1 (pos 7) ∷ []) ∷ turns 1 ∷ call (failure 0) ∷ [])

-- a lamp fails and restarts, and three commands are left on it
abbrev pub all_left_skipped : Passage
all_left_skipped = two_devices (
    submits (best 0 (pos 5) ∷ best 0 (pos 6) ∷ best 0 (pos 7) ∷ best 0 (pos 8) ∷ []) ∷ (does 1 0 ++ (call (failure 0)
    ∷ call (restart 0 (pos 0)) ∷ does 1 0)))

-- a lamp is in flight when it fails; then a late report
abbrev pub flight_ends : Passage
flight_ends = two_devices (
    submits (best 0 (pos 5) ∷ must 1 (pos 6) ∷ []) ∷ turns 1 ∷ takes_one 0 0 ∷ call (failure 0) ∷ call (report 1 0) ∷ [])

-- a lamp was done when it fails
abbrev pub event_behind : Passage
event_behind = two_devices (submits (best 0 (pos 5) ∷ must 1 (pos 6) ∷ best 0 (pos 7) ∷ []) ∷ (does 1 0 ++ (call (failure 0) ∷ [])))

-- a lamp fails that the routine has not begun
abbrev pub unbegun_keeps : Passage
unbegun_keeps = two_devices (
    submits (must 1 (pos 5) ∷ best 0 (pos 6) ∷ must 1 (pos 7) ∷ []) ∷ (does 1 1 ++ (call (failure 0) ∷ turns 1 ∷ does 1 1)))

-- a lamp fails in flight, these acts before; then the shelter, device 1, has its second command sent; these acts behind
abbrev pub lamp_late : List Act → List Act → Passage
lamp_late before behind = two_devices (
    submits (best 1 (pos 5) ∷ best 0 (pos 6) ∷ best 1 (pos 7) ∷ []) ∷ (does 1 1 ++ (turns 1
    ∷ (before ++ (call (failure 0) ∷ turns 1 ∷ behind)))))

-- 1 is cancelled where the condition of 2 waits for it
abbrev pub set_goes : Passage
set_goes = two_devices (set_ahead ++ (call (cancel 1) ∷ []))

-- a condition asks for 20 where 20 is due
abbrev pub equal_holds : Passage
equal_holds = two_devices (
    submits (must 0 (pos 20) ∷ []) ∷ (does 1 0 ++ (turns 1 ∷ submits (condition 0 (pos 20) ∷ must 1 (pos 5) ∷ []) ∷ turns 2 ∷ [])))

-- a condition does not hold: the command after it, and one more
abbrev pub skipped_in_turn : Passage
skipped_in_turn = two_devices (
    submits (condition 0 (pos 5) ∷ must 1 (pos 6) ∷ must 1 (pos 7) ∷ []) ∷ turns 1 ∷ (does 1 1 ++ does 1 1))

-- a condition is skipped as its device is down: the command after it, whose device is up
abbrev pub skipped_skips : Passage
skipped_skips = two_devices (call (failure 0) ∷ submits (condition 0 (pos 0) ∷ best 1 (pos 5) ∷ []) ∷ turns 1 ∷ does 1 1)

-- ---- worlds in which a wrong statement shows

-- 1 is reported done and committed, and device 1, the last, has not taken its command: a report that is not true
abbrev pub reported_untaken : Passage
reported_untaken = two_devices (submits (must 1 (pos 5) ∷ []) ∷ turns 1 ∷ call (report 1 0) ∷ turns 1 ∷ [])
