-- What was decided on a hub: what the appliers ask for. Assumes nothing.
use Rattle.std.specs.Prelude.{◌≡◌, List}
use Rattle.rules_routine.specs.declared.Command.{Command}
use Rattle.rules.specs.Answers.{Call}
use Rattle.rules.specs.Calls.{result_of}
use Rattle.rules.specs.Rounds.{KeepsLimit}
use Rattle.hub_state.specs.Contract.{Decides}
use Rattle.hub_state.specs.declared.Change.{Change}
use Rattle.hub_state.specs.declared.Decision.{Decision}
use Rattle.hub.specs.View.{view}
use Rattle.hub.specs.declared.Hub.{Hub}

-- The decision was made on this hub: some call of the rules, carried out on it, comes to it. The commands are those of a routine that
-- joins. A new pass limit is made at once, so that it is no decision.
pub record DecidedOn (h : Hub) (cs : List Command) (d : Decision) : Type 0 where
  pub call : Call
  pub no_limit : KeepsLimit call
  pub decides : Decides h.state.rows cs d (result_of (view h) call)

-- The change was decided on this hub: it is that of a decision made on it.
pub record Decided (h : Hub) (cs : List Command) (c : Change) : Type 0 where
  pub decision : Decision
  pub made : DecidedOn h cs decision
  pub change_is : decision.change ≡ c

-- The same where no routine is handed over: with some commands.
abbrev pub WasDecidedOn : Hub → Decision → Type 0
WasDecidedOn h d = (cs : List Command) × DecidedOn h cs d

abbrev pub WasDecided : Hub → Change → Type 0
WasDecided h c = (cs : List Command) × Decided h cs c
