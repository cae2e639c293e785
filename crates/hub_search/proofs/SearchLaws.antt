-- What a search along the links of a state finds, for each way out of it. Assumes nothing.
use Rattle.std.proofs.Common.{None, Some}
use Prim.Native.Nat.{ℕ, zero, suc, ◌+◌, ◌-◌, ◌*◌, ◌≤◌, ◌<◌}
use native.Mathlib.Omega.{arith}
use borrow.Author.Tests.{eq-eqb, ne_eqb, le-leb, lt-leb}
use mathlib.Core.Path.{◌≡◌, refl, sym, ap, ◌∙◌, subst}
use mathlib.Core.Bool.{Bool, true, false, not, ◌&&◌, ◌||◌, and-false, or-true}
use mathlib.Core.List.{List, [], ◌∷◌, ◌++◌, map-append, reverse}
use lib.Dec.{eqb, leb}
use native.Mathlib.Numerals.{add-one}
use lib.IntN.{pos}
use lib.ListN.{length, take, get_or, set, length-map}
use lib.Seq.{take-suc, take-suc-set, get_or-take}
use Rattle.rules_routine.specs.Limits.{max_devices, max_commands, max_sequence}
use Rattle.rules_routine.specs.Routine.{zero_command, commands_of}
use Rattle.rules_routine.specs.declared.Command.{Command}
use Rattle.rules_routine.specs.declared.Routine.{Routine}
use Rattle.rules_routine.proofs.RoutineLaws.{length-commands_of, commands_of-held}
use Rattle.rules.specs.Tables.{any_of}
use Rattle.rules.specs.State.{Member}
use Rattle.rules.specs.Sequence.{is_running, runs}
use Rattle.rules.specs.Progress.{begun}
use Rattle.rules.specs.Turn.{holds_up, first_holding}
use Rattle.rules.specs.Events.{is_halfway, must_left}
use Rattle.rules.specs.Submit.{blocks}
use Rattle.hub_sequence.specs.Lists.{count}
use Rattle.hub_sequence.specs.Links.{none, along, slots_of, Stands}
use Rattle.hub_sequence.proofs.Lists.{same_self, same_other, past-within}
use Rattle.hub_sequence.proofs.Tables.{by_eq, by_less}
use Rattle.hub_sequence.proofs.ReadLaws.{once-taken, stands-slot, back_reversed}
use Rattle.hub_state.specs.View.{to_do_code, in_flight_code, done_code, rows_of, steps_at, member_at, members_of, state_of, there}
use Rattle.hub_state.specs.Valid.{CommandOk, CommandsOk, AnsweredUpTo, StateOk}
use Rattle.hub_state.proofs.Steps.{each_at}
use Rattle.hub_state.proofs.Codes.{upto_codes}
use Rattle.hub_state.proofs.Members.{member_committed}
use Rattle.hub_state.specs.declared.HubState.{HubState}
use Rattle.hub_search.specs.Contract.{has_id, Finds, any_on, any_staged, highest_stage, any_must, marks_for, Latest}
use Rattle.hub_search.proofs.Slots.{first_slot, Seeks, stop_at, seeks_there, seeks_found, seeks_end, first-same, first_some, find-slot}
use Rattle.hub_search.proofs.Slots.{find_nowhere, holding_none, holding_some}
use Rattle.hub_search.proofs.Back.{back_around, back-place}
use Rattle.hub_search.proofs.Commands.{any_at, at_past, bound_of, below_at, below_bound, among_at, holds-up-slot, begun-slot, left_slot}
use Rattle.hub_search.proofs.Commands.{must-slot}

-- ---- the tests of a slot, as the rows have them

unfoldable pub id_in : List ℕ → ℕ → ℕ → Bool
id_in ids i x = eqb (get_or ids x 0) i

unfoldable pub runs_in : List ℕ → List Bool → ℕ → ℕ → Bool
runs_in ids committed i x = id_in ids i x && not (get_or committed x false)

-- one of its commands is on the device and at a stage below `bound`
unfoldable pub below_in : List ℕ → List ℕ → List ℕ → ℕ → ℕ → ℕ → Bool
below_in counts device stage bound d x = any_at (below_at device stage bound d) (x * max_commands) (get_or counts x 0)

-- the commands of a slot, from its first to past its last
slot_places : (at n : ℕ) → at * max_commands + n - at * max_commands ≡ n
slot_places at n = omega arith

-- where a search through its commands starts
pub below_start : (counts device stage : List ℕ) (bound d x : ℕ) {n : ℕ} → n ≡ 0 →
    any_at (below_at device stage bound d) (x * max_commands + n) (x * max_commands + get_or counts x 0 - (x * max_commands + n))
    ≡ below_in counts device stage bound d x
unfolding below_in
below_start counts device stage bound d x {n} e =
    let k : x * max_commands + n ≡ x * max_commands = omega arith in rw (k, slot_places x (get_or counts x 0))

unfoldable pub holds_in : List Bool → List ℕ → List ℕ → List ℕ → ℕ → ℕ → ℕ → Bool
holds_in committed counts device stage bound d x = not (get_or committed x false) && below_in counts device stage bound d x

-- it has begun the device; a command on it is left
abbrev pub begun_in : List ℕ → List ℕ → List ℕ → ℕ → ℕ → Bool
begun_in counts device stage d x = any_staged device stage d in_flight_code highest_stage (x * max_commands) (get_or counts x 0)

abbrev pub left_in : List ℕ → List ℕ → List ℕ → ℕ → ℕ → Bool
left_in counts device stage d x = any_staged device stage d to_do_code in_flight_code (x * max_commands) (get_or counts x 0)

unfoldable pub halfway_in : List Bool → List ℕ → List ℕ → List ℕ → ℕ → ℕ → Bool
halfway_in committed counts device stage d x =
    not (get_or committed x false) && begun_in counts device stage d x && left_in counts device stage d x

-- its id is one of the first n of these, or it runs and was passed often enough
unfoldable pub blocks_in : List ℕ → ℕ → ℕ → List ℕ → List ℕ → List Bool → ℕ → Bool
blocks_in marks n limit ids passed committed x =
    any_on marks (get_or ids x 0) 0 n || (not (get_or committed x false) && leb limit (get_or passed x 0))

-- ---- a slot that does not pass

module _ (ids : List ℕ) (committed : List Bool) (i x : ℕ) where
  pub runs_other : (get_or ids x 0 ≡ i → ⊥) → runs_in ids committed i x ≡ false
  unfolding runs_in id_in
  runs_other n = rw (ne_eqb (get_or ids x 0) i n)

  pub runs-committed : not (get_or committed x false) ≡ false → runs_in ids committed i x ≡ false
  unfolding runs_in
  runs-committed e = rw e (and-false (id_in ids i x))

pub id_other : (ids : List ℕ) (i x : ℕ) → (get_or ids x 0 ≡ i → ⊥) → id_in ids i x ≡ false
unfolding id_in
id_other ids i x n = ne_eqb (get_or ids x 0) i n

module _ (committed : List Bool) (counts device stage : List ℕ) (d x : ℕ) where
  pub halfway_committed : not (get_or committed x false) ≡ false → halfway_in committed counts device stage d x ≡ false
  unfolding halfway_in
  halfway_committed e = rw e

  module _ {t : Bool} where
    pub halfway_unbegun :
        t ≡ any_staged device stage d in_flight_code highest_stage (x * max_commands) (x * max_commands + get_or counts x 0 - x * max_commands) →
        t ≡ false → halfway_in committed counts device stage d x ≡ false
    unfolding halfway_in
    halfway_unbegun e f =
        let b : begun_in counts device stage d x ≡ false = rw (slot_places x (get_or counts x 0)) at (sym e ∙ f) in
        rw (b, and-false (not (get_or committed x false)))

    pub halfway_finished :
        t ≡ any_staged device stage d to_do_code in_flight_code (x * max_commands) (x * max_commands + get_or counts x 0 - x * max_commands) →
        t ≡ false → halfway_in committed counts device stage d x ≡ false
    unfolding halfway_in
    halfway_finished e f =
        let b : left_in counts device stage d x ≡ false = rw (slot_places x (get_or counts x 0)) at (sym e ∙ f) in
        rw b (and-false (not (get_or committed x false) && begun_in counts device stage d x))

module _ (committed : List Bool) (counts device stage : List ℕ) (bound d x at : ℕ) (n : x ≡ at → ⊥) where
  pub holds-committed : not (get_or committed x false) ≡ false → stop_at at (holds_in committed counts device stage bound d) x ≡ false
  unfolding stop_at holds_in
  holds-committed e = rw (ne_eqb x at n, e)

  pub holds_off : below_in counts device stage bound d x ≡ false → stop_at at (holds_in committed counts device stage bound d) x ≡ false
  unfolding stop_at holds_in
  holds_off e = rw (ne_eqb x at n, e) (and-false (not (get_or committed x false)))

module _ (marks : List ℕ) (n limit : ℕ) (ids passed : List ℕ) (committed : List Bool) (x : ℕ)
    (o : any_on marks (get_or ids x 0) 0 n ≡ false) where
  pub blocks-committed : not (get_or committed x false) ≡ false → blocks_in marks n limit ids passed committed x ≡ false
  unfolding blocks_in
  blocks-committed e = rw (o, e)

  pub blocks-few : get_or passed x 0 < limit → blocks_in marks n limit ids passed committed x ≡ false
  unfolding blocks_in
  blocks-few h = rw (o, lt-leb limit (get_or passed x 0) h) (and-false (not (get_or committed x false)))

-- a list that has n entries in front has n
take-held : {A : Type 0} (n : ℕ) (l : List A) → length (take n l) ≡ n → n ≤ length l
take-held zero l e = omega arith
take-held (suc n) [] e = absurd (omega arith)
take-held (suc n) (x ∷ l) e = let i = take-held n l (omega arith) in omega arith

-- ---- the marks of a routine's devices

pub mark-none : (row : List ℕ) → [] ≡ marks_for row []
unfolding marks_for
mark-none row = refl

-- one command more
pub mark-more : (row marks : List ℕ) (cs : List Command) (j : ℕ) → j < length marks → j < length cs →
    take j marks ≡ marks_for row (take j cs) →
    take (j + 1) (set marks j (get_or row (get_or cs j zero_command).device 0)) ≡ marks_for row (take (j + 1) cs)
unfolding marks_for
mark-more row marks cs j h k e =
    rw (add-one j, take-suc-set marks j (get_or row (get_or cs j zero_command).device 0) h, take-suc cs j zero_command k)
    (ap (λ (l : List ℕ). l ++ (get_or row (get_or cs j zero_command).device 0 ∷ [])) e
    ∙ sym (map-append (λ c. get_or row c.device 0) (take j cs) (get_or cs j zero_command ∷ [])))

module _ (r : Routine) (l : length r.commands ≡ max_commands) (k : r.count ≤ max_commands) where
  pub mark_all : (row marks : List ℕ) (j : ℕ) → j ≤ r.count → r.count ≤ j → take j marks ≡ marks_for row (take j r.commands) →
      take r.count marks ≡ marks_for row (commands_of r)
  mark_all row marks j h i e =
      let n : r.count ≡ j = omega arith in
      ap (λ (m : ℕ). take m marks) n ∙ e ∙ ap (λ (m : ℕ). marks_for row (take m r.commands)) (sym n)
      ∙ ap (marks_for row) (sym (commands_of-held r (omega arith)))

  pub device_fits : CommandsOk (commands_of r) → (j : ℕ) → j < r.count → (get_or r.commands j zero_command).device < max_devices
  device_fits ok j h =
      let held = commands_of-held r (omega arith) in
      let many = length-commands_of r in
      subst CommandOk (ap (λ (cs : List Command). get_or cs j zero_command) held ∙ get_or-take r.count r.commands j zero_command h)
      (each_at CommandOk (commands_of r) j zero_command (omega arith) ok)

-- ---- what a search in a state finds

module _ (h : HubState) (v : StateOk h) where
  none_apart : count none (slots_of h.links) ≡ 0
  none_apart = omega (arith, v.links_ok.once none, past-within none (omega arith))

  not_none : (x : ℕ) → x < max_sequence → x ≡ none → ⊥
  not_none x i e = omega arith

  -- ---- a slot that stands

  module _ (at : ℕ) (st : Stands h.links at) where
    pub commands_fit : (at < max_sequence) × (get_or h.counts at 0 ≤ max_commands)
    commands_fit = (stands-slot h.links at v.links_ok st, (v.slots_ok at st).fits)

    -- no answered command holds up a command: a search for one that does may start at the first that is not answered
    pub below_left : (device stage : List ℕ) (d : ℕ) → stage ≡ h.stage → {bound : ℕ} → bound ≡ done_code →
        {n : ℕ} → n ≡ get_or h.answered at 0 →
        any_at (below_at device stage bound d) (at * max_commands + n) (at * max_commands + get_or h.counts at 0 - (at * max_commands + n))
        ≡ below_in h.counts device stage bound d at
    unfolding steps_at below_in
    below_left device stage d e {bound} p {n} i =
        let u = get_or h.due_then at (pos 0) in
        let from = at * max_commands in
        let many = get_or h.counts at 0 in
        let come : AnsweredUpTo n (steps_at h at) = subst (λ (m : ℕ). AnsweredUpTo m (steps_at h at)) (sym i) (v.slots_ok at st).come_so_far
        in
        let a = upto_codes (rows_of h) u from n many (from + n) (from + many) refl refl come in
        at_past (below_at device stage bound d) from n (from + n) (from + many) refl a.within.1
        (λ j l r.
        let o : done_code ≤ get_or stage j 0 = subst (λ (row : List ℕ). done_code ≤ get_or row j 0) (sym e) (a.answered_before j l r) in
        below_bound device stage d j bound (omega (arith, p)))
        ∙ ap (any_at (below_at device stage bound d) from) (slot_places at many)

    pub begun-is : (device stage : List ℕ) (d : ℕ) → device ≡ h.device → stage ≡ h.stage →
        ((j : ℕ) → get_or h.stage j 0 ≤ highest_stage) → {t : Bool} →
        t ≡ any_staged device stage d in_flight_code highest_stage (at * max_commands)
        (at * max_commands + get_or h.counts at 0 - at * max_commands) →
        t ≡ begun d (member_at h at)
    begun-is device stage d e f b g = g ∙ rw (slot_places at (get_or h.counts at 0), e, f) (sym (begun-slot h at d b))

    pub must-is : (d : ℕ) {t : Bool} →
        t ≡ any_must h.device h.tag h.stage d (at * max_commands)
        (at * max_commands + get_or h.counts at 0 - at * max_commands) →
        t ≡ must_left d (member_at h at)
    must-is d g = g ∙ rw (slot_places at (get_or h.counts at 0)) (sym (must-slot h at d))

  -- ---- the first that passes

  module _ (p : Member → Bool) (t : ℕ → Bool) (e : (x : ℕ) → Stands h.links x → t x ≡ p (member_at h x)) {x : ℕ}
      (s : Seeks t h.links.behind h.links.first x)
    where
      first_is : first_slot (λ y. p (member_at h y)) (slots_of h.links) ≡ first_slot t (slots_of h.links)
      first_is = sym (first-same t (λ y. p (member_at h y)) (slots_of h.links) e)

      finds_at : x < max_sequence → t x ≡ true → Finds h p (Some x)
      unfolding state_of members_of there
      finds_at i a =
          record {
            place_ok = seeks_there s i;
            found =
                sym (find-slot p (member_at h) (slots_of h.links) x (first_is ∙ seeks_found s i a) (not_none x i));
          }

      finds_nowhere : max_sequence ≤ x → Finds h p None
      unfolding state_of members_of
      finds_nowhere i =
          record { place_ok = tt; found = sym (find_nowhere p (member_at h) (slots_of h.links) (first_is ∙ seeks_end s i) none_apart) }

  -- ---- by the id

  module _ (i : ℕ) {x : ℕ} where
    module _ (s : Seeks (runs_in h.ids h.committed i) h.links.behind h.links.first x) where
      pub running_at : x < max_sequence → get_or h.ids x 0 ≡ i → not (get_or h.committed x false) ≡ true → Finds h (runs i) (Some x)
      unfolding runs is_running member_at runs_in id_in
      running_at k e n = finds_at (runs i) _ (λ y _. refl) s k (rw (eq-eqb (get_or h.ids x 0) i e, n))

      pub running_nowhere : max_sequence ≤ x → Finds h (runs i) None
      unfolding runs is_running member_at runs_in id_in
      running_nowhere k = finds_nowhere (runs i) _ (λ y _. refl) s k

    module _ (s : Seeks (id_in h.ids i) h.links.behind h.links.first x) where
      pub id_at : x < max_sequence → get_or h.ids x 0 ≡ i → Finds h (has_id i) (Some x)
      unfolding member_at id_in
      id_at k e = finds_at (has_id i) _ (λ y _. refl) s k (eq-eqb (get_or h.ids x 0) i e)

      pub id_nowhere : max_sequence ≤ x → Finds h (has_id i) None
      unfolding member_at id_in
      id_nowhere k = finds_nowhere (has_id i) _ (λ y _. refl) s k

  -- ---- on the device

  module _ (d : ℕ) (b : (j : ℕ) → get_or h.stage j 0 ≤ highest_stage) where
    halfway_is : (y : ℕ) → Stands h.links y →
        halfway_in h.committed h.counts h.device h.stage d y ≡ is_halfway d (member_at h y)
    unfolding halfway_in is_halfway is_running
    halfway_is y k =
        let n = sym (member_committed h y) in
        let p = sym (begun-slot h y d b) in
        let q = sym (left_slot h y d) in
        λ i. not (n i) && p i && q i

    module _ {x : ℕ}
        (s : Seeks (halfway_in h.committed h.counts h.device h.stage d) h.links.behind h.links.first x)
      where
        pub halfway_at : x < max_sequence → not (get_or h.committed x false) ≡ true → {t u : Bool} →
            t ≡ any_staged h.device h.stage d to_do_code in_flight_code (x * max_commands)
            (x * max_commands + get_or h.counts x 0 - x * max_commands) →
            u ≡ any_staged h.device h.stage d in_flight_code highest_stage (x * max_commands)
            (x * max_commands + get_or h.counts x 0 - x * max_commands) →
            t ≡ true → u ≡ true → Finds h (is_halfway d) (Some x)
        unfolding halfway_in
        halfway_at k n e f p q =
            let z = slot_places x (get_or h.counts x 0) in
            let a : left_in h.counts h.device h.stage d x ≡ true = rw z at (sym e ∙ p) in
            let c : begun_in h.counts h.device h.stage d x ≡ true = rw z at (sym f ∙ q) in
            finds_at (is_halfway d) _ halfway_is s k (rw (n, c, a))

        pub halfway_nowhere : max_sequence ≤ x → Finds h (is_halfway d) None
        halfway_nowhere k = finds_nowhere (is_halfway d) _ halfway_is s k

  -- ---- the wait search, whose long rows are lent

  module _ (device stage : List ℕ) (same-device : device ≡ h.device) (same-stage : stage ≡ h.stage) (condition : Bool) {bound : ℕ}
      (p : bound ≡ bound_of condition) (d at : ℕ) (st : Stands h.links at) {x : ℕ}
      (s : Seeks (stop_at at (holds_in h.committed h.counts device stage bound d)) h.links.behind h.links.first x)
    where
      abbrev stops : ℕ → Bool
      stops y = stop_at at (holds_in h.committed h.counts device stage bound d) y

      -- the walk does not come to its end
      pub holder_slot : x < max_sequence
      unfolding stop_at
      holder_slot =
          by_less x max_sequence (λ i. i)
          (λ i.
          let a : stops at ≡ true = rw (eq-eqb at at refl) in
          let k : 1 ≤ count (first_slot stops (slots_of h.links)) (slots_of h.links) = first_some stops (slots_of h.links) at st a in
          let z : count (first_slot stops (slots_of h.links)) (slots_of h.links) ≡ 0 =
          ap (λ (y : ℕ). count y (slots_of h.links)) (seeks_end s i) ∙ none_apart in
          absurd (omega arith))

      holds-is : (y : ℕ) → holds_up d condition (member_at h y) ≡ holds_in h.committed h.counts device stage bound d y
      unfolding holds_in below_in
      holds-is y = holds-up-slot h y d condition ∙ rw (same-device, same-stage, p)

      stops_is : first_slot (stop_at at (λ y. holds_up d condition (member_at h y))) (slots_of h.links) ≡ first_slot stops (slots_of h.links)
      unfolding stop_at
      stops_is = first-same _ stops (slots_of h.links) (λ y k. ap (λ (u : Bool). eqb y at || u) (holds-is y))

      pub holder_nobody : x ≡ at → None ≡ first_holding d condition (there h at).ahead
      unfolding there stop_at
      holder_nobody e =
          sym
          (holding_none d condition (member_at h) at (slots_of h.links) (stops_is ∙ seeks_found s holder_slot (rw (eq-eqb x at e)) ∙ e))

      pub holder_found : (x ≡ at → ⊥) → not (get_or h.committed x false) ≡ true → below_in h.counts device stage bound d x ≡ true →
          Some (get_or h.ids x 0) ≡ first_holding d condition (there h at).ahead
      unfolding there member_at stop_at holds_in
      holder_found n c o =
          sym
          (holding_some d condition (member_at h) at (slots_of h.links) x
          (stops_is ∙ seeks_found s holder_slot (rw (ne_eqb x at n, c, o))) n
          (not_none x holder_slot))

  -- ---- the last that a newcomer follows

  module _ (cs : List Command) (marks : List ℕ) (n : ℕ) (k : length cs ≡ n) (m : take n marks ≡ marks_for h.mark cs) {x : ℕ}
      (s : Seeks (blocks_in marks n h.pass_limit h.ids h.passed h.committed) h.links.ahead h.links.last x)
    where
      abbrev follows : ℕ → Bool
      follows y = blocks_in marks n h.pass_limit h.ids h.passed h.committed y

      among_marks : (i : ℕ) (l : List Command) →
          any_of (λ j. eqb j i) (marks_for h.mark l) ≡ any_of (λ c. eqb (get_or h.mark c.device 0) i) l
      unfolding marks_for
      among_marks i [] = refl
      among_marks i (c ∷ l) = rw (among_marks i l)

      marked_is : (i : ℕ) → any_on marks i 0 n ≡ any_of (λ c. eqb (get_or h.mark c.device 0) i) cs
      unfolding marks_for
      marked_is i =
          let l : length (take n marks) ≡ n = ap length m ∙ length-map cs _ ∙ k in
          among_at marks i n (take-held n marks l) ∙ ap (any_of (λ j. eqb j i)) m ∙ among_marks i cs

      follows_is : (y : ℕ) → follows y ≡ blocks (state_of h) cs (member_at h y)
      unfolding blocks is_running state_of member_at blocks_in
      follows_is y = rw (marked_is (get_or h.ids y 0))

      once : (w : ℕ) → count w (none ∷ slots_of h.links) ≤ 1
      once w =
          by_eq w none
          (λ e. subst (λ (z : ℕ). count z (none ∷ slots_of h.links) ≤ 1) (sym e) (omega (arith, none_apart, same_self none)))
          (λ o. omega (arith, same_other w none o, once-taken h.links w v.links_ok))

      latest_is : (after : ℕ) → first_slot follows (along h.links.ahead h.links.last) ≡ after → Latest h cs after
      unfolding state_of members_of
      latest_is after e =
          let p = blocks (state_of h) cs in
          let l = slots_of h.links in
          let b : first_slot (λ y. p (member_at h y)) (reverse l) ≡ after =
          ap (first_slot (λ y. p (member_at h y))) (sym (back_reversed h.links v.links_ok))
          ∙ sym (first-same _ (λ y. p (member_at h y)) (along h.links.ahead h.links.last) (λ y _. follows_is y))
          ∙ e in
          let a = back_around p (member_at h) l after once b in
          record { place = back-place p (member_at h) l after b; ahead = a.0; behind = a.1 }

      -- it has the mark of a device of the newcomer's
      pub latest_marked : x < max_sequence → any_on marks (get_or h.ids x 0) 0 n ≡ true → Latest h cs x
      unfolding blocks_in
      latest_marked i e = latest_is x (seeks_found s i (rw e))

      -- it runs and was passed often enough
      pub latest_passed : x < max_sequence → not (get_or h.committed x false) ≡ true → h.pass_limit ≤ get_or h.passed x 0 →
          Latest h cs x
      unfolding blocks_in
      latest_passed i o e =
          latest_is x
          (seeks_found s i (rw (o, le-leb h.pass_limit (get_or h.passed x 0) e) (or-true (any_on marks (get_or h.ids x 0) 0 n))))

      pub latest_none : max_sequence ≤ x → Latest h cs none
      latest_none i = latest_is none (seeks_end s i)
