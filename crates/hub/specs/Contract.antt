-- The contracts of the public calls. Assumes nothing.
use Rattle.std.specs.Prelude.{◌≡◌, true, ℕ, ℤ, Err}
use Rattle.rules_routine.specs.Routine.{commands_of}
use Rattle.rules_routine.specs.declared.refusals.Refusal.{Refusal}
use Rattle.rules_routine.specs.declared.Routine.{Routine}
use Rattle.rules.specs.Answers.{Result}
use Rattle.rules.specs.Open.{closed_hub, open_if, open_of}
use Rattle.rules.specs.Calls.{StaysClosed}
use Rattle.rules.specs.Submit.{submit_of}
use Rattle.rules.specs.Turn.{turn_of}
use Rattle.rules.specs.Report.{report_of}
use Rattle.rules.specs.Events.{failure_of, restart_of}
use Rattle.rules.specs.Cancel.{cancel_of}
use Rattle.rules.specs.Limit.{limit_of}
use Rattle.hub_answers.specs.View.{put_backs_of, put_backs_in, PutBacksOk, changes_nothing}
use Rattle.hub_state.specs.Unmoved.{Unmoved}
use Rattle.hub.specs.View.{view, answers_in, result_in}
use Rattle.hub.specs.Valid.{Valid}
use Rattle.hub.specs.declared.Hub.{Hub}
use Rattle.hub.specs.declared.Opened.{Opened}
use Rattle.hub.specs.declared.Outcome.{Outcome}

-- The opening is accepted, with the hub that the rules give, or turned down as they say. "no hub made": beside a refusal stands the hub of
-- no devices, on which every call is turned down.
pub record Opens (n k first : ℕ) (o : Opened) : Type 0 where
  pub valid : Valid o.hub
  pub gives : open_if o.verdict (view o.hub) ≡ open_of n k first
  pub no_hub : (r : Refusal) → o.verdict ≡ Err r → (view o.hub ≡ closed_hub) × StaysClosed (view o.hub)

-- A call on the hub h gives what the rules give: the answers and, as the rules see it, the next hub, which is valid again. Its list of
-- put-backs fits its array and is that of the answers. No routine is moved (document 02, item 8). Where nothing changes, it is the same
-- hub, whole.
pub record Gives (h : Hub) (o : Outcome) (result : Result) : Type 0 where
  pub valid : Valid o.hub
  pub gives : result_in o ≡ result
  pub put_backs_fit : PutBacksOk o.put_backs
  pub put_backs_told : put_backs_of o.put_backs ≡ put_backs_in (answers_in o)
  pub unmoved : Unmoved h.state.rows o.hub.state.rows
  pub same_hub : changes_nothing o.answer ≡ true → o.hub ≡ h

abbrev pub Submitted : Hub → Routine → Outcome → Type 0
Submitted h routine o = Gives h o (submit_of (view h) (commands_of routine))

abbrev pub Turned : Hub → ℕ → Outcome → Type 0
Turned h id o = Gives h o (turn_of (view h) id)

abbrev pub Reported : Hub → ℕ → ℕ → Outcome → Type 0
Reported h id code o = Gives h o (report_of (view h) id code)

abbrev pub Cancelled : Hub → ℕ → Outcome → Type 0
Cancelled h id o = Gives h o (cancel_of (view h) id)

abbrev pub Failed : Hub → ℕ → Outcome → Type 0
Failed h device o = Gives h o (failure_of (view h) device)

abbrev pub Restarted : Hub → ℕ → ℤ → Outcome → Type 0
Restarted h device setting o = Gives h o (restart_of (view h) device setting)

abbrev pub Limited : Hub → ℕ → Outcome → Type 0
Limited h k o = Gives h o (limit_of (view h) k)
