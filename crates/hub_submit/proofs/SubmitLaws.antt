-- Laws that the proofs of this crate cite. Assumes nothing.
use Rattle.std.proofs.Common.{Ok, Err}
use Rattle.rules_routine.specs.declared.refusals.Refusal.TheVariants.{SequenceFull, IdsUsedUp, CommandCount}
use mathlib.Core.Path.{◌≡◌, refl, sym, ap, ◌∙◌, subst}
use mathlib.Core.Bool.{Bool, false, ◌&&◌}
use mathlib.Core.List.{List, [], ◌∷◌, ◌++◌, map}
use Prim.Native.Nat.{ℕ, suc, ◌<◌, ◌≤◌}
use native.Mathlib.Omega.{arith}
use borrow.Author.Tests.{lt-leb, le-leb, lt-ltb, le-ltb, leb-false, ltb-false}
use lib.Dec.{leb, ltb, eqb}
use lib.ListN.{length, get_or, length-map}
use Rattle.std.specs.Prelude.{if◌then◌else◌}
use Rattle.rules_routine.specs.Refusals.{refuse◌when◌}
use Rattle.rules_routine.specs.Limits.{max_devices, max_commands, max_sequence, highest_id}
use Rattle.rules_routine.specs.Routine.{commands_check, routine_check}
use Rattle.rules_routine.specs.declared.Command.{Command}
use Rattle.rules_routine.specs.declared.refusals.Refusal.{Refusal}
use Rattle.rules_routine.proofs.RoutineLaws.{both_accept, not-refused, by_test, command-accepted, commands-accepted}
use Rattle.rules.specs.Tables.{any_of, Each}
use Rattle.rules.specs.State.{Member, State}
use Rattle.rules.specs.Answers.{placed, turned_down}
use Rattle.rules.specs.Sequence.{is_running, last_id_or}
use Rattle.rules.specs.Settle.{settling}
use Rattle.rules.specs.Submit.{submit_check, blocks, up_to_last, past_last, pass, newcomer, place, submit_of}
use Rattle.rules.proofs.Lists.{each_map, or_left, or_right}
use Rattle.hub_sequence.specs.Lists.{ahead_of_place, last_or}
use Rattle.hub_sequence.specs.Links.{none, slots_of, Stands, StandsOrNone}
use Rattle.hub_sequence.proofs.Lists.{same_other, through_last}
use Rattle.hub_sequence.proofs.ReadLaws.{taken-length}
use Rattle.hub_answers.specs.declared.Answer.TheVariants.{Refused as TurnedDown, Placed}
use Rattle.hub_state.specs.View.{member_at, members_of, state_of}
use Rattle.hub_state.specs.Valid.{CommandsOk, highest_passed, CanPass, RoomToPass, StateOk}
use Rattle.hub_state.specs.Contract.{JoinOk, joined_behind, plainly, Decides}
use Rattle.hub_state.specs.declared.HubState.{HubState}
use Rattle.hub_state.specs.declared.Change.TheVariants.{Nothing, Join}
use Rattle.hub_state.specs.declared.Decision.{Decision}
use Rattle.hub_state.proofs.Members.{stands_below, last_id}
use Rattle.hub_state.proofs.DecisionLaws.{refused-decides, join_decides}
use Rattle.hub_search.specs.Contract.{Latest}

-- ---- the check of a submit, by its tests

module _ (s : State) (cs : List Command) where
  pub check_routine : (r : Refusal) → routine_check s.devices cs ≡ Err r → submit_check s cs ≡ Err r
  unfolding submit_check
  check_routine r e = rw e

  pub check_full : routine_check s.devices cs ≡ Ok tt → max_sequence ≤ length s.sequence →
      submit_check s cs ≡ Err SequenceFull
  unfolding submit_check
  check_full e h = rw (e, le-leb max_sequence (length s.sequence) h)

  pub check_ids : routine_check s.devices cs ≡ Ok tt → length s.sequence < max_sequence → highest_id < s.next_id →
      submit_check s cs ≡ Err IdsUsedUp
  unfolding submit_check
  check_ids e h k = rw (e, lt-leb max_sequence (length s.sequence) h, lt-ltb highest_id s.next_id k)

  pub check_fine : routine_check s.devices cs ≡ Ok tt → length s.sequence < max_sequence → s.next_id ≤ highest_id →
      submit_check s cs ≡ Ok tt
  unfolding submit_check
  check_fine e h k = rw (e, lt-leb max_sequence (length s.sequence) h, le-ltb highest_id s.next_id k)

-- the links know how many are taken
pub taken_is : (h : HubState) → StateOk h → h.links.taken ≡ length (state_of h).sequence
unfolding state_of members_of
taken_is h v = taken-length h.links v.links_ok ∙ sym (length-map (slots_of h.links) (member_at h))

-- ---- what an accepted check says

-- the commands' devices
commands_below : (limit i : ℕ) (cs : List Command) → commands_check limit i cs ≡ Ok tt → Each (λ (c : Command). c.device < limit) cs
commands_below limit i [] e = tt
commands_below limit i (c ∷ cs) e =
    let a = commands-accepted limit i c cs e in ((command-accepted limit i c a.0).0, commands_below limit (suc i) cs a.2)

-- and their count
routine_below : (limit : ℕ) (cs : List Command) → routine_check limit cs ≡ Ok tt →
    (length cs ≤ max_commands) × Each (λ (c : Command). c.device < limit) cs
unfolding routine_check
routine_below limit cs e =
    let b = both_accept _ (commands_check limit 0 cs) e in (
      ltb-false max_commands (length cs) (or_right (eqb (length cs) 0) (ltb max_commands (length cs)) (not-refused CommandCount _ b.0)),
      commands_below limit 0 cs b.1,
    )

-- the three parts of the check
accepted : (s : State) (cs : List Command) → submit_check s cs ≡ Ok tt →
    (routine_check s.devices cs ≡ Ok tt) × (length s.sequence < max_sequence) × (s.next_id ≤ highest_id)
unfolding submit_check
accepted s cs e =
    let b = both_accept (routine_check s.devices cs) _ e in
    let full = refuse SequenceFull when leb max_sequence (length s.sequence) in
    let k = both_accept full (refuse IdsUsedUp when ltb highest_id s.next_id) b.1 in (
      b.0,
      leb-false max_sequence (length s.sequence) (not-refused SequenceFull _ k.0),
      ltb-false highest_id s.next_id (not-refused IdsUsedUp _ k.1),
    )

module _ (h : HubState) (cs : List Command) (e : submit_check (state_of h) cs ≡ Ok tt) (v : StateOk h) where
  -- the routine can be held
  pub fine_routine : (length cs ≤ max_commands) × CommandsOk cs
  unfolding state_of
  fine_routine =
      let b = routine_below h.devices cs (accepted (state_of h) cs e).0 in
      let d = v.devices_fit in
      (b.0, each_map (λ (c : Command). c.device < h.devices) (λ (c : Command). c.device < max_devices) (λ c k. omega arith) cs b.1)

  -- there is room for it
  fine_room : h.links.taken < max_sequence
  fine_room = let i = (accepted (state_of h) cs e).1 in omega (arith, i, taken_is h v)

  -- and an id
  pub fine_id : h.next_id ≤ highest_id
  unfolding state_of
  fine_id = (accepted (state_of h) cs e).2

-- ---- the routines behind the newcomer

-- it need not follow any of them
past-none : (p : Member → Bool) (l : List Member) → any_of p (past_last p l) ≡ false
past-none p [] = refl
past-none p (m ∷ l) =
    by_test (λ (t : Bool). any_of p (if t then past_last p l else m ∷ l) ≡ false) (any_of p (m ∷ l)) (λ _. past-none p l) (λ e. e)

-- so that each running one can be passed once more
module _ (s : State) (cs : List Command) (k : s.pass_limit ≤ highest_passed) where
  can_pass : (m : Member) → blocks s cs m ≡ false → CanPass m
  unfolding blocks
  can_pass m e r =
      let f : leb s.pass_limit m.passed ≡ false
      = rw r at (or_right (any_of (λ c. eqb (s.mark c.device) m.id) cs) (is_running m && leb s.pass_limit m.passed) e) in
      let h = leb-false s.pass_limit m.passed f in
      omega arith

  all_pass : (l : List Member) → any_of (blocks s cs) l ≡ false → RoomToPass l
  all_pass [] e = tt
  all_pass (m ∷ l) e =
      (can_pass m (or_left (blocks s cs m) (any_of (blocks s cs) l) e), all_pass l (or_right (blocks s cs m) (any_of (blocks s cs) l) e))

  past-pass : (l : List Member) → RoomToPass (past_last (blocks s cs) l)
  past-pass l = all_pass (past_last (blocks s cs) l) (past-none (blocks s cs) l)

-- ---- the id that the newcomer follows

last-slot : (h : HubState) (x : ℕ) (l : List ℕ) → last_or none l ≡ x → (x ≡ none → ⊥) → get_or h.ids x 0 ≡ last_id_or 0 (map (member_at h) l)
last-slot h x [] e n = absurd (n (sym e))
last-slot h x (y ∷ l) e n = ap (λ (z : ℕ). get_or h.ids z 0) (sym e) ∙ last_id h y l

module _ (h : HubState) (x : ℕ) (n : x ≡ none → ⊥) (p : StandsOrNone h.links x) where
  -- a routine, in its slot
  stands : Stands h.links x
  stands = let o = same_other x none n in omega (arith, p, o)

  pub slot_below : StateOk h → x < max_sequence
  slot_below v = stands_below h x v stands

  pub id-slot : get_or h.ids x 0 ≡ last_id_or 0 (map (member_at h) (ahead_of_place x none (slots_of h.links)))
  id-slot = last-slot h x (ahead_of_place x none (slots_of h.links)) (through_last x (slots_of h.links) p) n

-- ---- the submit

-- turned down, or accepted
submit-refused : (s : State) (cs : List Command) (r : Refusal) → submit_check s cs ≡ Err r → turned_down r s ≡ submit_of s cs
unfolding submit_of
submit-refused s cs r e = rw e

submit-accepted : (s : State) (cs : List Command) → submit_check s cs ≡ Ok tt →
    settling (record { state = place s cs; answers = placed s.next_id (last_id_or 0 (up_to_last (blocks s cs) s.sequence)) ∷ [] })
    ≡ submit_of s cs
unfolding submit_of
submit-accepted s cs e = rw e

module _ (h : HubState) (cs : List Command) (y : Decision) where
  pub submit-turned-down : (r : Refusal) → submit_check (state_of h) cs ≡ Err r → y ≡ plainly (TurnedDown r) Nothing →
      Decides h cs y (submit_of (state_of h) cs)
  submit-turned-down r e z =
      subst (λ (d : Decision). Decides h cs d (submit_of (state_of h) cs)) (sym z)
      (refused-decides h cs _ r (submit-refused (state_of h) cs r e))

  module _ (x : ℕ) (e : submit_check (state_of h) cs ≡ Ok tt) (v : StateOk h) (l : Latest h cs x) where
    -- the appliers can carry it out
    join_ok : h.pass_limit ≤ highest_passed → JoinOk h cs x
    unfolding state_of
    join_ok k = record {
      few = (fine_routine h cs e v).0;
      devices_fit = (fine_routine h cs e v).1;
      room = fine_room h cs e v;
      place = l.place;
      id_left = fine_id h cs e v;
      room_to_pass = subst RoomToPass (sym l.behind) (past-pass (state_of h) cs k (state_of h).sequence);
    }

    joined : joined_behind h cs x ≡ place (state_of h) cs
    unfolding joined_behind place
    joined = λ i. record {
      devices = (state_of h).devices;
      pass_limit = (state_of h).pass_limit;
      next_id = suc (state_of h).next_id;
      sequence = l.ahead i ++ (newcomer (state_of h).next_id cs ∷ map pass (l.behind i));
      settled_at = (state_of h).settled_at;
      up = (state_of h).up;
      mark = (state_of h).mark;
    }

    pub submit_places : h.pass_limit ≤ highest_passed → (after : ℕ) →
        after ≡ last_id_or 0 (map (member_at h) (ahead_of_place x none (slots_of h.links))) →
        y ≡ plainly (Placed (record { id = h.next_id; after = after })) (Join x) → Decides h cs y (submit_of (state_of h) cs)
    unfolding state_of
    submit_places k after a z =
        let j = a ∙ ap (last_id_or 0) l.ahead in
        subst (λ (d : Decision). Decides h cs d (submit_of (state_of h) cs)) (sym z)
        (join_decides h cs _ (Placed (record { id = h.next_id; after = after })) refl x (join_ok k)
        ((λ i. settling (record { state = joined i; answers = placed h.next_id (j i) ∷ [] })) ∙ submit-accepted (state_of h) cs e))
