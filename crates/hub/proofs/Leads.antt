-- Whatever public functions are called, a valid hub is one that the rules reach. Assumes nothing.
use mathlib.Core.Path.{◌≡◌, refl, sym, ap, ◌∙◌}
use mathlib.Core.List.{List, [], ◌∷◌, ◌++◌}
use Rattle.rules_routine.specs.declared.Command.{Command}
use Rattle.rules.specs.State.{State}
use Rattle.rules.specs.Answers.{Call, Answer as Told, Result}
use Rattle.rules.specs.Calls.{result_of, state_after}
use Rattle.rules.specs.Settle.{settle}
use Rattle.hub_state.specs.View.{state_of}
use Rattle.hub_state.specs.Contract.{applied_to, told_by, settled_unless_nothing}
use Rattle.hub_state.specs.declared.HubState.{HubState}
use Rattle.hub_state.specs.declared.Change.{Change}
use Rattle.hub_state.specs.declared.Change.TheVariants.{Nothing, Stage, Commit, Join, Abort, Fail, Restart}
use Rattle.hub_state.proofs.DecisionLaws.{settle-idle}
use Rattle.hub.specs.View.{view}
use Rattle.hub.specs.Valid.{Valid}
use Rattle.hub.specs.Decided.{Decided}
use Rattle.hub.specs.Demand3.{call_of}
use Rattle.hub.specs.Leads.{Leads, here, by_call, by_applier, by_settling, StaysOnChain}
use Rattle.hub.specs.declared.Hub.{Hub}
use Rattle.hub.proofs.Theorem.{met}

-- one call more
one_more : (s : State) (l : List Call) (c : Call) → state_after s (l ++ (c ∷ [])) ≡ (result_of (state_after s l) c).state
one_more s [] c = refl
one_more s (x ∷ l) c = one_more (result_of s x).state l c

-- nothing settles on a valid hub
idles : (h : Hub) → Valid h → settle (view h) ≡ view h
idles h v = settle-idle (view h) v.at_rest

-- what an applier gives settles to what the decision gives
settles_as : (h : HubState) (cs : List Command) (c : Change) (l : List Told) → settle (state_of h) ≡ state_of h →
    settle (applied_to h cs c) ≡ (settled_unless_nothing c (record { state = applied_to h cs c; answers = l })).state
settles_as h cs Nothing l e = e
settles_as h cs (Stage x) l e = refl
settles_as h cs (Commit x) l e = refl
settles_as h cs (Join after) l e = refl
settles_as h cs (Abort x) l e = refl
settles_as h cs (Fail d x) l e = refl
settles_as h cs (Restart d v x) l e = refl

decided_state : (h : Hub) (cs : List Command) (c : Change) → Valid h → (k : Decided h cs c) →
    settle (applied_to h.state.rows cs c) ≡ (result_of (view h) k.made.call).state
decided_state h cs c v k =
    let d = k.decision in
    ap (λ (x : Change). settle (applied_to h.state.rows cs x)) (sym k.change_is)
    ∙ settles_as h.state.rows cs d.change (told_by h.state.rows d) (idles h v)
    ∙ ap (λ (r : Result). r.state) k.made.decides.gives

-- a call on a hub that the rules reach
reaches : (from h : Hub) → Valid h → (l : List Call) (c : Call) → settle (view h) ≡ state_after (view from) l →
    (result_of (view h) c).state ≡ state_after (view from) (l ++ (c ∷ []))
reaches from h v l c e = ap (λ (s : State). (result_of s c).state) (sym (idles h v) ∙ e) ∙ sym (one_more (view from) l c)

-- each hub settles to one that the rules reach
reached : (from h : Hub) → Valid from → Leads from h → (calls : List Call) × (settle (view h) ≡ state_after (view from) calls)
reached from _ v here = ([], idles from v)
reached from _ v (by_call {h} l w c o m) =
    let r = reached from h v l in
    let g = met h c o m in (
      r.0 ++ (call_of c ∷ []),
      idles o.hub g.valid ∙ ap (λ (x : Result). x.state) g.gives ∙ reaches from h w r.0 (call_of c) r.1,
    )
reached from _ v (by_applier {h} l w cs c k m ok e) =
    let r = reached from h v l in
    (r.0 ++ (k.made.call ∷ []), ap settle e ∙ decided_state h cs c w k ∙ reaches from h w r.0 k.made.call r.1)
reached from _ v (by_settling {h} l ok s w e) =
    let r = reached from h v l in
    (r.0, idles s w ∙ e ∙ r.1)

pub stays_on_chain : StaysOnChain
stays_on_chain from h v l w =
    let r = reached from h v l in
    (r.0, sym (idles h w) ∙ r.1)
