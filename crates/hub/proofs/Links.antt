-- The links are the sequence: document 02, item 8, along every chain of the hub's calls. Assumes nothing.
use Rattle.std.proofs.Common.{Ok, Err}
use Rattle.rules_routine.specs.Refusals.{Verdict}
use mathlib.Core.Path.{◌≡◌, refl, sym, ap, ap₂, ◌∙◌}
use mathlib.Core.List.{List, [], ◌∷◌, ◌++◌, map, reverse, reverse_aux}
use Prim.Native.Nat.{ℕ}
use native.Mathlib.Omega.{arith}
use lib.IntN.{ℤ}
use Rattle.rules.specs.State.{Member, State}
use Rattle.rules.specs.Answers.{Answer as Told, Result}
use Rattle.rules.specs.Open.{opened, open_check, new_hub, open_if, open_of}
use Rattle.rules.specs.Calls.{result_of, state_after}
use Rattle.hub_sequence.specs.Lists.{count}
use Rattle.hub_sequence.specs.Links.{slots_of}
use Rattle.hub_sequence.proofs.Lists.{count-reverse-onto}
use Rattle.hub_sequence.proofs.ReadLaws.{back_reversed}
use Rattle.hub_state.specs.View.{member_at, members_of, state_of}
use Rattle.hub_state.specs.Unmoved.{Unmoved}
use Rattle.hub.specs.View.{view}
use Rattle.hub.specs.Valid.{Valid}
use Rattle.hub.specs.Demand3.{HubCall, HubAct, called, device_takes, call_of, Chain, hub_after}
use Rattle.hub.specs.Links.{calls_in, answers_along, packed_answers, KeepsPacked, LinksAreTheSequence, NothingMoves}
use Rattle.hub.specs.declared.Hub.{Hub}
use Rattle.hub.specs.declared.Outcome.{Outcome}
use Rattle.hub.proofs.Theorem.{met, chain-valid, opens_as}

-- ---- the other way

map-onto : (f : ℕ → Member) (l m : List ℕ) → map f (reverse_aux l m) ≡ reverse_aux (map f l) (map f m)
map-onto f [] m = refl
map-onto f (x ∷ l) m = map-onto f l (x ∷ m)

keeps : (h : Hub) (s : State) → Valid h → view h ≡ s → KeepsPacked h s.sequence
unfolding state_of members_of
keeps h s v e =
    let k = h.state.rows.links in
    let l = slots_of k in
    let back = back_reversed k v.in_order.links_ok in
    let read : map (member_at h.state.rows) l ≡ s.sequence = ap (λ (t : State). t.sequence) e in
    record {
      read = read;
      read_back = ap (map (member_at h.state.rows)) back ∙ map-onto (member_at h.state.rows) l [] ∙ ap reverse read;
      once = v.in_order.links_ok.once;
      once_back = λ x. ap (count x) back
          ∙ (let i = count-reverse-onto x l [] in let z : count x (reverse_aux l []) ≡ count x l = omega arith in z);
    }

-- ---- along a chain

along : (h : Hub) (s : State) (acts : List HubAct) → view h ≡ s → Chain h acts →
    (answers_along acts ≡ packed_answers s (calls_in acts)) × (view (hub_after h acts) ≡ state_after s (calls_in acts))
along h s [] e ch = (refl, e)
along h s (called c o v ∷ l) e ch =
    let g = (met h c o ch.0).gives ∙ ap (λ (t : State). result_of t (call_of c)) e in
    let r = along o.hub (result_of s (call_of c)).state l (ap (λ (x : Result). x.state) g) ch.1 in
    (ap₂ (λ (a : List Told) (m : List (List Told)). a ∷ m) (ap (λ (x : Result). x.answers) g) r.0, r.1)
along h s (device_takes d k ∷ l) e ch = along h s l e ch

-- the hub that an accepted opening gives
opened_as : (n k first : ℕ) (s : State) → open_of n k first ≡ opened s → s ≡ new_hub n k first
unfolding open_of
opened_as n k first s = go (open_check n k first)
  where
    go : (v : Verdict) → open_if v (new_hub n k first) ≡ opened s → s ≡ new_hub n k first
    go (Ok tt) e = let same : new_hub n k first ≡ s = cc in sym same
    go (Err r) e = let z : ◌≡◌ {A = ℕ} 0 1 = cc in absurd (omega arith)

pub links_are_the_sequence : LinksAreTheSequence
links_are_the_sequence n k first o op accepted acts ch =
    let e = opened_as n k first (view o.hub) (opens_as n k first o op accepted) in
    let r = along o.hub (new_hub n k first) acts e ch in
    (r.0, keeps (hub_after o.hub acts) (state_after (new_hub n k first) (calls_in acts)) (chain-valid o.hub acts op.valid ch) r.1)

-- ---- nobody is moved

unmoved_at : (h : Hub) (before later : List HubAct) (c : HubCall) (p : Outcome) (v : ℤ) → Chain h (before ++ (called c p v ∷ later)) →
    Unmoved (hub_after h before).state.rows p.hub.state.rows
unmoved_at h [] later c p v ch = (met h c p ch.0).unmoved
unmoved_at h (called d q w ∷ l) later c p v ch = unmoved_at q.hub l later c p v ch.1
unmoved_at h (device_takes d j ∷ l) later c p v ch = unmoved_at h l later c p v ch

pub nothing_moves : NothingMoves
nothing_moves n k first o op accepted before later c p v ch = unmoved_at o.hub before later c p v ch
