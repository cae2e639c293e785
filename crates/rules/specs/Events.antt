-- Document 01, "Failure or restart of D", with document 02, item 3, "A lamp that dies after its work", and the conditions of item 4.
-- Refusals: failure 14, 15; restart 14, 16, 17. Assumes nothing.
use Rattle.rules_routine.specs.declared.refusals.Refusal.TheVariants.{EventDevice, FailureOfDown, RestartOfUp, RestartSetting}
use Rattle.std.specs.Prelude.{Bool, true, false, not, ◌&&◌, ◌||◌, List, [], ◌∷◌, ◌++◌, ℕ, leb, ℤ, if◌then◌else◌, Option, None, Some}
use Rattle.rules_routine.specs.Range.{in_range}
use Rattle.rules_routine.specs.Refusals.{refuse◌when◌, ◌and_then◌}
use Rattle.rules.specs.Tables.{put}
use Rattle.rules.specs.State.{was_skipped, Step, Member, State}
use Rattle.rules.specs.Answers.{Result, down, up, unless_refused}
use Rattle.rules.specs.Progress.{is_left_on, begun, finished, commands_in, counts_as_must, with_status, with_steps}
use Rattle.rules.specs.Sequence.{Found, find, is_running, with_up, change}
use Rattle.rules.specs.Attach.{one_restart, attach}
use Rattle.rules.specs.Abort.{abort}
use Rattle.rules.specs.Settle.{settling}

-- "A running routine that has begun D and not finished it"
unfoldable pub is_halfway : ℕ → Member → Bool
is_halfway d m = is_running m && begun d m && not (finished d m)

-- Is a must left on D? "On a failure or restart the condition has the tag of the command after it".
abbrev pub must_among : ℕ → List Step → Bool
must_among d [] = false
must_among d (x ∷ l) = (is_left_on d x && counts_as_must x.command (commands_in l)) || must_among d l

unfoldable pub must_left : ℕ → Member → Bool
must_left d m = must_among d m.steps

-- Document 02, item 3: "Its remaining commands on D are skipped, one in flight included".
abbrev pub skip_left : ℕ → List Step → List Step
skip_left d [] = []
skip_left d (x ∷ l) = (if is_left_on d x then with_status was_skipped x else x) ∷ skip_left d l

unfoldable pub skip_rest : ℕ → State → Found → State
skip_rest d s f = change s f (with_steps f.it (skip_left d f.it.steps))

-- "a must left on D aborts as it did"; one that "has only best-effort commands left on D does not abort", and "the event's answer doesn't
-- name them". There is at most one such routine.
abbrev pub stop_if_any : ℕ → State → Option Found → Result
stop_if_any d s None = record { state = s; answers = [] }
stop_if_any d s (Some f) = if must_left d f.it then abort s f else record { state = skip_rest d s f; answers = [] }

unfoldable pub stop_halfway : ℕ → State → Result
stop_halfway d s = stop_if_any d s (find (is_halfway d) s.sequence)

-- "On a failure D first becomes down." The abort, or the skips; "Then the event is attached to D's mark": it changes no due setting, so the
-- state keeps nothing of it but that D is down; the answer has the mark.
unfoldable pub failure_result : State → ℕ → Result
failure_result s d =
    let r = stop_halfway d (with_up s (put s.up d false)) in
    record { state = r.state; answers = r.answers ++ (down d (r.state.mark d) ∷ []) }

-- The abort, or the skips; the event is attached to D's mark; "On a restart D then becomes up at the setting it reports."
unfoldable pub restart_result : State → ℕ → ℤ → Result
restart_result s d v =
    let r = stop_halfway d s in
    let t = attach (r.state.mark d) (one_restart d v) r.state in
    record { state = with_up t (put t.up d true); answers = r.answers ++ (up d (r.state.mark d) ∷ []) }

unfoldable pub failure_of : State → ℕ → Result
failure_of s d =
    unless_refused (refuse EventDevice when leb s.devices d and_then refuse FailureOfDown when not (s.up d)) s
    (settling (failure_result s d))

unfoldable pub restart_of : State → ℕ → ℤ → Result
restart_of s d v =
    unless_refused
    (refuse EventDevice when leb s.devices d and_then refuse RestartOfUp when s.up d and_then refuse RestartSetting when not
    (in_range v)) s
    (settling (restart_result s d v))
