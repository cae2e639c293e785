-- Document 01, "When a call is turned down": each number under its cause alone, of the running hub: of every outcome that the contract of
-- `hub::open` or of a call gives. The causes and their order stand in `specs/Causes.antt` of crates `rules` and `rules_routine`. The
-- theorems are `hub-opening-exact` and `hub-calls-exact` of `proofs/Exact.antt`. Assumes nothing.
use Rattle.std.specs.Prelude.{◌≡◌, ℕ, Ok, Err}
use Rattle.rules_routine.specs.Causes.{Exactly, itself}
use Rattle.rules_routine.specs.declared.refusals.Refusal.{Refusal}
use Rattle.rules.specs.Causes.{OpeningCause, CallCause, opening_causes, call_causes}
use Rattle.hub_answers.specs.declared.Answer.{Answer}
use Rattle.hub_answers.specs.declared.Answer.TheVariants.{Refused}
use Rattle.hub.specs.View.{view}
use Rattle.hub.specs.Contract.{Opens}
use Rattle.hub.specs.Demand3.{HubCall, call_of, Meets}
use Rattle.hub.specs.declared.Hub.{Hub}
use Rattle.hub.specs.declared.Opened.{Opened}
use Rattle.hub.specs.declared.Outcome.{Outcome}

-- `hub::open` is refused with r exactly if the first cause that holds has r, and accepted exactly if none holds.
abbrev pub HubOpeningExact : Type 0
HubOpeningExact =
    (n k first : ℕ) (o : Opened) → Opens n k first o →
    Exactly (OpeningCause n k first) itself opening_causes (λ r. o.verdict ≡ Err r) (o.verdict ≡ Ok tt)

abbrev pub NotRefused : Answer → Type 0
NotRefused a = (r : Refusal) → ¬ (a ≡ Refused r)

-- A call on hub h with outcome o: the answer is the refusal r exactly if the first cause that holds of hub and call has r, and no refusal
-- exactly if none holds. After a refusal it is the same hub.
pub record HubCallExact (h : Hub) (c : HubCall) (o : Outcome) : Type 0 where
  pub exact :
      Exactly (CallCause (view h) (call_of c)) itself (call_causes (call_of c)) (λ r. o.answer ≡ Refused r) (NotRefused o.answer)
  pub left_as_it_was : (r : Refusal) → o.answer ≡ Refused r → o.hub ≡ h

abbrev pub HubCallsExact : Type 0
HubCallsExact = (h : Hub) (c : HubCall) (o : Outcome) → Meets h c o → HubCallExact h c o
