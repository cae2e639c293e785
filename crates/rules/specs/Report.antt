-- Document 01, "Report on R". Refusals: 10, 12, 13. Assumes nothing.
use Rattle.rules_routine.specs.declared.refusals.Refusal.TheVariants.{NotRunning, NothingInFlight, ReportCodeOutOfRange}
use Rattle.std.specs.Prelude.{List, [], ◌∷◌, ℕ, ltb, eqb, ℤ, if◌then◌else◌, Option, None, Some}
use Rattle.rules_routine.specs.Refusals.{refuse◌when◌}
use Rattle.rules.specs.Tables.{same_setting}
use Rattle.rules.specs.State.{was_done, was_skipped, State}
use Rattle.rules.specs.Answers.{Back, Result, done, skipped, refused_for, unless_refused}
use Rattle.rules.specs.Progress.{is_must, Flight, flight, answer_flight, with_steps}
use Rattle.rules.specs.Due.{due}
use Rattle.rules.specs.Sequence.{Found, find, runs, change}
use Rattle.rules.specs.Abort.{abort}
use Rattle.rules.specs.Settle.{settling}

-- Codes: 0, done; 1, failed.
abbrev pub code_done : ℕ
code_done = 0

abbrev pub code_failed : ℕ
code_failed = 1

-- "Code 0, done: the setting stands."
unfoldable pub done_report : State → Found → Result
done_report s f = record { state = change s f (with_steps f.it (answer_flight was_done f.it.steps)); answers = done f.it.id ∷ [] }

-- "its device is then sent its due setting if that is another than when the command was sent"
unfoldable pub back_if_changed : ℕ → ℤ → ℤ → List Back
back_if_changed d now before = if same_setting now before then [] else record { device = d; setting = now } ∷ []

-- "a best-effort is skipped"
unfoldable pub skipped_state : State → Found → State
skipped_state s f = change s f (with_steps f.it (answer_flight was_skipped f.it.steps))

unfoldable pub skip_report : State → Found → Flight → Result
skip_report s f x = record {
  state = skipped_state s f;
  answers = skipped f.it.id (back_if_changed x.command.device (due (skipped_state s f) x.command.device) x.due_then) ∷ [];
}

-- "Code 1, failed: a must aborts R, a best-effort is skipped"
abbrev pub reported : State → Found → Flight → ℕ → Result
reported s f x code =
    if eqb code code_done then settling (done_report s f)
    else if is_must x.command then settling (abort s f)
    else settling (skip_report s f x)

abbrev pub report_flight : State → Found → ℕ → Option Flight → Result
report_flight s f code None = refused_for NothingInFlight s
report_flight s f code (Some x) = unless_refused (refuse ReportCodeOutOfRange when ltb code_failed code) s (reported s f x code)

abbrev pub report_found : State → ℕ → Option Found → Result
report_found s code None = refused_for NotRunning s
report_found s code (Some f) = report_flight s f code (flight f.it.steps)

unfoldable pub report_of : State → ℕ → ℕ → Result
report_of s i code = report_found s code (find (runs i) s.sequence)
