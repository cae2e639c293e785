-- Document 02, item 8, "Links for the sequence": from an opening on, along every chain of calls, the answers and the sequence read along
-- the links are those of a packed list, which is how the rules keep it; along the other links it is the same list from its end; and the
-- links run through each held routine a single time. The proof is `links_are_the_sequence` of `proofs/Links.antt`. "A single placement or
-- leaving changes no links but its own and its neighbours', and moves no other routine": of one placement and one leaving that is a
-- contract, `Joins` and `Leaves` of crate `hub_sequence`, `Places` of crate `hub_apply`, `LeavesHub` of crate `hub_settle`; of each call of
-- a chain, with the settling that follows, it is `NothingMoves`, proved as `nothing_moves`. Assumes nothing.
use Rattle.std.specs.Prelude.{◌≡◌, List, [], ◌∷◌, ◌++◌, map, reverse, ℕ, ◌+◌, ℤ, Ok}
use Rattle.rules.specs.State.{Member, State}
use Rattle.rules.specs.Answers.{Call, Answer as Told}
use Rattle.rules.specs.Open.{new_hub}
use Rattle.rules.specs.Calls.{result_of, state_after}
use Rattle.hub_sequence.specs.Lists.{count}
use Rattle.hub_sequence.specs.Links.{slots_of, back_of, free_of, within}
use Rattle.hub_state.specs.View.{member_at}
use Rattle.hub_state.specs.Unmoved.{Unmoved}
use Rattle.hub.specs.View.{answers_in}
use Rattle.hub.specs.Contract.{Opens}
use Rattle.hub.specs.Demand3.{HubCall, HubAct, called, device_takes, call_of, Chain, hub_after}
use Rattle.hub.specs.declared.Hub.{Hub}
use Rattle.hub.specs.declared.Opened.{Opened}
use Rattle.hub.specs.declared.Outcome.{Outcome}

-- The calls of a chain, and what their outcomes answer.
abbrev pub calls_in : List HubAct → List Call
calls_in [] = []
calls_in (called c o v ∷ l) = call_of c ∷ calls_in l
calls_in (device_takes d k ∷ l) = calls_in l

abbrev pub answers_along : List HubAct → List (List Told)
answers_along [] = []
answers_along (called c o v ∷ l) = answers_in o ∷ answers_along l
answers_along (device_takes d k ∷ l) = answers_along l

-- What the rules answer to the calls, with the sequence as a packed list.
abbrev pub packed_answers : State → List Call → List (List Told)
packed_answers s [] = []
packed_answers s (c ∷ l) = (result_of s c).answers ∷ packed_answers (result_of s c).state l

-- The routine in each slot, in the order in which the slots are met along the links, from the first on and from the last on.
abbrev pub along_links : Hub → List Member
along_links h = map (member_at h.state.rows) (slots_of h.state.rows.links)

abbrev pub back_links : Hub → List Member
back_links h = map (member_at h.state.rows) (back_of h.state.rows.links)

-- The links of the hub keep this packed list. `once`: each slot is met along the links or is free, just one of the two and that once, and
-- no other number is.
pub record KeepsPacked (h : Hub) (packed : List Member) : Type 0 where
  pub read : along_links h ≡ packed
  pub read_back : back_links h ≡ reverse packed
  pub once : (x : ℕ) → count x (slots_of h.state.rows.links) + count x (free_of h.state.rows.links) ≡ within x
  pub once_back : (x : ℕ) → count x (back_of h.state.rows.links) ≡ count x (slots_of h.state.rows.links)

-- From the opening's hub h on, the answers and the links are those of the packed list.
abbrev pub LinksKeep : ℕ → ℕ → ℕ → Hub → List HubAct → Type 0
LinksKeep n k first h acts =
    (answers_along acts ≡ packed_answers (new_hub n k first) (calls_in acts))
    × KeepsPacked (hub_after h acts) (state_after (new_hub n k first) (calls_in acts)).sequence

-- For every accepted opening and every chain of calls.
abbrev pub LinksAreTheSequence : Type 0
LinksAreTheSequence =
    (n k first : ℕ) (o : Opened) → Opens n k first o → o.verdict ≡ Ok tt → (acts : List HubAct) → Chain o.hub acts →
    LinksKeep n k first o.hub acts

-- For every accepted opening, every chain of calls and each call in it, from the hub before that call to the hub after it: a routine that
-- is in the sequence before and after is in the same slot, and a link is the same unless its slot, or one at its other end, has joined or
-- left.
abbrev pub NothingMoves : Type 0
NothingMoves =
    (n k first : ℕ) (o : Opened) → Opens n k first o → o.verdict ≡ Ok tt →
    (before later : List HubAct) (c : HubCall) (p : Outcome) (v : ℤ) → Chain o.hub (before ++ (called c p v ∷ later)) →
    Unmoved (hub_after o.hub before).state.rows p.hub.state.rows
