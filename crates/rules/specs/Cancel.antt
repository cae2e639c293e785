-- Document 01, "Cancel aborts R". Refusal: 10. Assumes nothing.
use Rattle.rules_routine.specs.declared.refusals.Refusal.TheVariants.{NotRunning}
use Rattle.std.specs.Prelude.{ℕ, Option, None, Some}
use Rattle.rules.specs.State.{State}
use Rattle.rules.specs.Answers.{Result, refused_for}
use Rattle.rules.specs.Sequence.{Found, find, runs}
use Rattle.rules.specs.Abort.{abort}
use Rattle.rules.specs.Settle.{settling}

abbrev pub cancel_found : State → Option Found → Result
cancel_found s None = refused_for NotRunning s
cancel_found s (Some f) = settling (abort s f)

unfoldable pub cancel_of : State → ℕ → Result
cancel_of s i = cancel_found s (find (runs i) s.sequence)
