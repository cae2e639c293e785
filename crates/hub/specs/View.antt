-- A hub read as the state of the rules, and an outcome as their answers. `specs/View.antt` of crate `hub_answers` sets out, for each case
-- of each enum, which answer of document 01 it is, and with which values. Assumes nothing.
use Rattle.std.specs.Prelude.{List}
use Rattle.rules.specs.State.{State}
use Rattle.rules.specs.Answers.{Answer as Told, Result}
use Rattle.hub_answers.specs.View.{answers_of}
use Rattle.hub_state.specs.View.{state_of}
use Rattle.hub.specs.declared.Hub.{Hub}
use Rattle.hub.specs.declared.Outcome.{Outcome}

abbrev pub view : Hub → State
view h = state_of h.state.rows

abbrev pub answers_in : Outcome → List Told
answers_in o = answers_of o.first o.answer o.put_backs

abbrev pub result_in : Outcome → Result
result_in o = record { state = view o.hub; answers = answers_in o }
