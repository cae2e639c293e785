-- Calls in two steps give what the calls give, and demand 3 holds along chains of them. Assumes nothing.
use mathlib.Core.Path.{refl, subst}
use mathlib.Core.Bool.{Bool}
use mathlib.Core.List.{[], ◌∷◌}
use mathlib.Core.Logic.{⊎_elim}
use Rattle.rules_routine.proofs.RoutineLaws.{by_test}
use Rattle.rules.specs.Calls.{result_of}
use Rattle.hub_answers.specs.View.{changes_nothing}
use Rattle.hub_state.specs.View.{first_committed}
use Rattle.hub_state.specs.Contract.{result_by}
use Rattle.hub.specs.View.{view}
use Rattle.hub.specs.Contract.{Gives}
use Rattle.hub.specs.Demand3.{HubCall, submits, turns, reports, fails, restarts, cancels, limits, call_of, Meets, called}
use Rattle.hub.specs.Demand3.{device_takes}
use Rattle.hub.specs.TwoSteps.{AppliedMeets, AppliedChains, AppliedDemand3}
use Rattle.hub.specs.declared.Hub.{Hub}
use Rattle.hub.specs.declared.Outcome.{Outcome}
use Rattle.hub.proofs.CallLaws.{decides-itself, settled-gives, idle-gives, same_gives}
use Rattle.hub.proofs.Theorem.{met, hub_demand_3, hub-replay, hub-readers, hub-list}
use Rattle.hub.proofs.Links.{links_are_the_sequence}

-- the contract of a call is that it gives what the rules give
meets : (h : Hub) (c : HubCall) (o : Outcome) → Gives h o (result_of (view h) (call_of c)) → Meets h c o
meets h (submits r) o g = g
meets h (turns i) o g = g
meets h (reports i code) o g = g
meets h (fails d) o g = g
meets h (restarts d v) o g = g
meets h (cancels i) o g = g
meets h (limits k) o g = g

-- Deciding, applying and settling.
pub applied_meets : AppliedMeets
applied_meets h c o v a =
    let k = decides-itself a.decides in
    let answer = a.decision.answer in
    let P = Gives h o (result_by h.state.rows a.commands a.decision) in
    meets h c o
    (subst (Gives h o) a.decides.gives
    (by_test (λ (_ : Bool). P) (changes_nothing answer)
    (λ t. same_gives h a.commands a.decision o.put_backs a.made v k a.put_backs_are a.carries o
    (a.settles.same t, a.first_is, a.answer_is, refl) t)
    (λ f.
    by_test (λ (_ : Bool). P) (first_committed (view a.made).sequence)
    (λ t.
    let s = a.settles.settled f t in
    settled-gives h a.commands a.decision o.put_backs a.made v k a.put_backs_are a.carries o.hub o
    (refl, a.first_is, a.answer_is, refl) f s.0 s.1 s.2)
    (λ e. idle-gives h a.commands a.decision o.put_backs a.made v k a.put_backs_are a.carries o
    (a.settles.idle f e, a.first_is, a.answer_is, refl) f e))))

pub applied_chains : AppliedChains
applied_chains h [] v ch = tt
applied_chains h (called c o x ∷ l) v ch =
    let m = ⊎_elim (λ z. z) (applied_meets h c o v) ch.0 in
    (m, applied_chains o.hub l (met h c o m).valid ch.1)
applied_chains h (device_takes d k ∷ l) v ch = applied_chains h l v ch

-- Demand 3, the replay, the readers and the links along such chains.
pub applied_demand_3 : AppliedDemand3
applied_demand_3 n k first o op accepted acts any =
    let ch = applied_chains o.hub acts op.valid any in record {
      demand_3 = hub_demand_3 n k first o op accepted acts ch;
      replay = hub-replay n k first o op accepted acts ch;
      readers = hub-readers n k first o op accepted acts ch;
      list = hub-list n k first o op accepted acts ch;
      links = links_are_the_sequence n k first o op accepted acts ch;
    }
