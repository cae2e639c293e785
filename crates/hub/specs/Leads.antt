-- Nobody leaves the chain: from a hub on, whatever public functions are called, each as its contract asks and gives, by the calls or in two
-- steps, in whatever order, every valid hub is one that the rules reach by some calls; so demand 3 speaks of it. The proof is
-- `stays_on_chain` of `proofs/Leads.antt`. Assumes nothing.
use Rattle.std.specs.Prelude.{◌≡◌, List}
use Rattle.rules_routine.specs.declared.Command.{Command}
use Rattle.rules.specs.Answers.{Call}
use Rattle.rules.specs.Calls.{state_after}
use Rattle.rules.specs.Settle.{settle}
use Rattle.hub_state.specs.Contract.{applied_to}
use Rattle.hub_state.specs.declared.Change.{Change}
use Rattle.hub.specs.View.{view}
use Rattle.hub.specs.Valid.{InOrder, Valid}
use Rattle.hub.specs.Decided.{Decided}
use Rattle.hub.specs.Demand3.{HubCall, Meets}
use Rattle.hub.specs.declared.Hub.{Hub}
use Rattle.hub.specs.declared.Outcome.{Outcome}

-- The functions that make a hub of a hub: a public call; an applier (`applied_to` has for each change what the contract of its applier
-- says); and settling.
pub data Leads (from : Hub) : Hub → Type 0 where
  here : Leads from from
  by_call : {h : Hub} → Leads from h → Valid h → (c : HubCall) (o : Outcome) → Meets h c o → Leads from o.hub
  by_applier : {h : Hub} → Leads from h → Valid h → (cs : List Command) (c : Change) → Decided h cs c → (m : Hub) → InOrder m →
      view m ≡ applied_to h.state.rows cs c → Leads from m
  by_settling : {h : Hub} → Leads from h → InOrder h → (r : Hub) → Valid r → view r ≡ settle (view h) → Leads from r

abbrev pub StaysOnChain : Type 0
StaysOnChain = (from h : Hub) → Valid from → Leads from h → Valid h → (calls : List Call) × (view h ≡ state_after (view from) calls)
