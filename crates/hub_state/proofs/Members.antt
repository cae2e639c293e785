-- The routines in their slots, and the sequence around one of them. Assumes nothing.
use mathlib.Core.Path.{◌≡◌, refl, sym, ap, subst, ◌∙◌}
use mathlib.Core.Bool.{false}
use mathlib.Core.List.{List, [], ◌∷◌, ◌++◌, map, map-append}
use Prim.Native.Nat.{ℕ, ◌+◌, ◌*◌, ◌≤◌, ◌<◌}
use native.Mathlib.Omega.{arith}
use lib.IntN.{pos}
use lib.ListN.{length, get_or}
use Rattle.rules_routine.specs.Limits.{max_devices, max_commands, max_sequence}
use Rattle.rules.specs.State.{Step, Member}
use Rattle.rules.specs.Sequence.{last_id_or}
use Rattle.hub_sequence.specs.Lists.{count, without, up_to, rest, last_or}
use Rattle.hub_sequence.specs.Links.{none, ahead_of, slots_of, Stands}
use Rattle.hub_sequence.specs.declared.Links.{Links}
use Rattle.hub_sequence.proofs.Lists.{same_self, count-append, slots_around, without_around, off_up_to, off_rest}
use Rattle.hub_sequence.proofs.ReadLaws.{once-taken, stands-slot, ahead-last, ahead_row}
use Rattle.hub_state.specs.View.{settings_of, marks_of, rows_of, step_at, steps_from, steps_at, restarts_at, member_at, members_of}
use Rattle.hub_state.specs.View.{state_of}
use Rattle.hub_state.specs.View.{there}
use Rattle.hub_state.specs.Valid.{StepOk, StateOk}
use Rattle.hub_state.specs.declared.HubState.{HubState}
use Rattle.hub_state.proofs.Steps.{each_at, upto_length}
use Rattle.hub_state.proofs.Rows.{length-steps_from, steps-read, step-device}

-- ---- the parts of the state

module _ (h : HubState) where
  pub state-sequence : (state_of h).sequence ≡ members_of h
  unfolding state_of
  state-sequence = refl

  pub state-settled : (state_of h).settled_at ≡ settings_of h.settled_at
  unfolding state_of
  state-settled = refl

  -- whether a device is up, in the row and past it
  pub state-mark : (state_of h).mark ≡ marks_of h.mark
  unfolding state_of
  state-mark = refl

-- ---- a slot's routine

module _ (h : HubState) (x : ℕ) where
  pub member_id : (member_at h x).id ≡ get_or h.ids x 0
  unfolding member_at
  member_id = refl

  pub member_steps : (member_at h x).steps ≡ steps_at h x
  unfolding member_at
  member_steps = refl

  pub member_passed : (member_at h x).passed ≡ get_or h.passed x 0
  unfolding member_at
  member_passed = refl

  pub member_committed : (member_at h x).committed ≡ get_or h.committed x false
  unfolding member_at
  member_committed = refl

  pub member_restarts : (member_at h x).restarts ≡ restarts_at h.restarts x
  unfolding member_at
  member_restarts = refl

  pub steps_are : steps_at h x ≡ steps_from (rows_of h) (get_or h.due_then x (pos 0)) (x * max_commands) (get_or h.counts x 0)
  unfolding steps_at
  steps_are = refl

  pub there-it : (there h x).it ≡ member_at h x
  unfolding there
  there-it = refl

  pub length-steps : length (steps_at h x) ≡ get_or h.counts x 0
  length-steps = ap length steps_are ∙ length-steps_from (rows_of h) (get_or h.due_then x (pos 0)) (x * max_commands) (get_or h.counts x 0)

-- the same parts make the same routine
pub member_same : (h r : HubState) (x : ℕ) → get_or r.ids x 0 ≡ get_or h.ids x 0 → steps_at r x ≡ steps_at h x →
    get_or r.passed x 0 ≡ get_or h.passed x 0 → get_or r.committed x false ≡ get_or h.committed x false →
    restarts_at r.restarts x ≡ restarts_at h.restarts x → member_at r x ≡ member_at h x
unfolding member_at
member_same h r x a b c d e = λ i. record { id = a i; steps = b i; passed = c i; committed = d i; restarts = e i }

-- ---- what is known of a routine that stands

module _ (h : HubState) (x : ℕ) (v : StateOk h) (s : Stands h.links x) where
  pub stands_below : x < max_sequence
  stands_below = stands-slot h.links x v.links_ok s

  pub answered_most : get_or h.answered x 0 ≤ get_or h.counts x 0
  answered_most =
      let i = upto_length (get_or h.answered x 0) (steps_at h x) (v.slots_ok x s).come_so_far in omega (arith, i, length-steps h x)

  pub counts_most : get_or h.counts x 0 ≤ max_commands
  counts_most = (v.slots_ok x s).fits

  -- the place of one of its commands is in the rows, and its device fits
  pub place-within : (j : ℕ) → j < get_or h.counts x 0 → x * max_commands + j < max_sequence * max_commands
  place-within j i = let a = stands_below in let b = counts_most in omega arith

  pub device-within : (j : ℕ) → j < get_or h.counts x 0 → get_or h.device (x * max_commands + j) 0 < max_devices
  device-within j i =
      let u = get_or h.due_then x (pos 0) in
      let k = x * max_commands in
      let z = step_at (rows_of h) u k in
      let f = each_at StepOk (steps_at h x) j z (omega (arith, i, length-steps h x)) (v.slots_ok x s).devices_fit in
      let e : (get_or (steps_at h x) j z).command.device ≡ get_or h.device (k + j) 0
      = ap (λ (l : List Step). (get_or l j z).command.device) (steps_are h x)
      ∙ ap (λ (y : Step). y.command.device) (steps-read (rows_of h) u k j (get_or h.counts x 0) z i)
      ∙ step-device (rows_of h) u (k + j) in
      subst (λ (d : ℕ). d < max_devices) e f

  -- ---- the sequence around it

  pub members_whole : members_of h ≡ (there h x).ahead ++ ((there h x).it ∷ (there h x).behind)
  unfolding members_of there
  members_whole =
      ap (map (member_at h)) (slots_around x (slots_of h.links) s)
      ∙ map-append (member_at h) (up_to x (slots_of h.links)) (x ∷ rest x (slots_of h.links))

  pub there_whole : (state_of h).sequence ≡ (there h x).ahead ++ ((there h x).it ∷ (there h x).behind)
  there_whole = state-sequence h ∙ members_whole

  pub there_left : map (member_at h) (without x (slots_of h.links)) ≡ (there h x).ahead ++ (there h x).behind
  unfolding there
  there_left =
      ap (map (member_at h)) (without_around x (slots_of h.links) s)
      ∙ map-append (member_at h) (up_to x (slots_of h.links)) (rest x (slots_of h.links))

-- ---- the id of the last

pub last_id : (h : HubState) (y : ℕ) (l : List ℕ) → get_or h.ids (last_or y l) 0 ≡ last_id_or (member_at h y).id (map (member_at h) l)
last_id h y [] = sym (member_id h y)
last_id h y (z ∷ l) = last_id h z l

-- the last of a list is one of it
pub last_in : (y : ℕ) (l : List ℕ) → 1 ≤ count (last_or y l) (y ∷ l)
last_in y [] = omega (arith, same_self y)
last_in y (z ∷ l) = let i = last_in z l in omega arith

last-slot : (h : HubState) (a : ℕ) (l : List ℕ) → last_or none l ≡ a → a < max_sequence → get_or h.ids a 0 ≡ last_id_or 0 (map (member_at h) l)
last-slot h a [] e i = absurd (omega arith)
last-slot h a (y ∷ l) e i = ap (λ (b : ℕ). get_or h.ids b 0) (sym e) ∙ last_id h y l

last_none : (h : HubState) (a : ℕ) (l : List ℕ) → ((w : ℕ) → 1 ≤ count w l → w < max_sequence) → last_or none l ≡ a → max_sequence ≤ a →
    0 ≡ last_id_or 0 (map (member_at h) l)
last_none h a [] s e i = refl
last_none h a (y ∷ l) s e i = let j = s (last_or y l) (last_in y l) in absurd (omega arith)

module _ (h : HubState) (x : ℕ) (v : StateOk h) (s : Stands h.links x) where
  ahead-slots : (w : ℕ) → 1 ≤ count w (up_to x (slots_of h.links)) → w < max_sequence
  ahead-slots w i =
      let a = up_to x (slots_of h.links) in
      let b = x ∷ rest x (slots_of h.links) in
      let e : count w (slots_of h.links) ≡ count w a + count w b
      = ap (count w) (slots_around x (slots_of h.links) s) ∙ count-append w a b in
      stands-slot h.links w v.links_ok (omega (arith, i, e))

  -- the id of the routine ahead of it; 0 if there is none
  pub ahead-id : ahead_of h.links x < max_sequence → get_or h.ids (ahead_of h.links x) 0 ≡ last_id_or 0 (there h x).ahead
  unfolding there
  ahead-id i = last-slot h (ahead_of h.links x) (up_to x (slots_of h.links)) (ahead-last h.links x v.links_ok s) i

  pub ahead_none : max_sequence ≤ ahead_of h.links x → 0 ≡ last_id_or 0 (there h x).ahead
  unfolding there
  ahead_none i = last_none h (ahead_of h.links x) (up_to x (slots_of h.links)) ahead-slots (ahead-last h.links x v.links_ok s) i

  -- the slot ahead of it, as the row has it
  pub id_in_row : get_or h.links.ahead x 0 < max_sequence → get_or h.ids (get_or h.links.ahead x 0) 0 ≡ last_id_or 0 (there h x).ahead
  id_in_row i =
      let e = ahead_row h.links x v.links_ok s in ap (λ (a : ℕ). get_or h.ids a 0) (sym e) ∙ ahead-id (omega arith)

  pub id-not_in_row : max_sequence ≤ get_or h.links.ahead x 0 → 0 ≡ last_id_or 0 (there h x).ahead
  id-not_in_row i = let e = ahead_row h.links x v.links_ok s in ahead_none (omega arith)

-- ---- another state

-- the same routine in each slot of a list
pub map_same : (f g : ℕ → Member) (l : List ℕ) → ((y : ℕ) → 1 ≤ count y l → f y ≡ g y) → map f l ≡ map g l
map_same f g [] e = refl
map_same f g (y ∷ l) e =
    let a = e y (omega (arith, same_self y)) in
    let b = map_same f g l (λ z i. e z (omega arith)) in
    λ i. a i ∷ b i

-- Of the other slots it is enough to know those that are taken: a free one may hold any numbers.
module _ (h r : HubState) (x : ℕ) (v : StateOk h) (s : Stands h.links x)
    (o : (y : ℕ) → Stands h.links y → (y ≡ x → ⊥) → member_at r y ≡ member_at h y)
  where
    -- a list of taken slots without this one
    same_off : (l : List ℕ) → ((y : ℕ) → count y l ≤ count y (slots_of h.links)) → count x l ≡ 0 → map (member_at r) l ≡ map (member_at h) l
    same_off l i z =
        map_same (member_at r) (member_at h) l
        (λ y j. o y (omega (arith, i y))
        (λ e. let k : 1 ≤ count x l = subst (λ (w : ℕ). 1 ≤ count w l) e j in omega arith))

    abbrev slots_ahead : List ℕ
    slots_ahead = up_to x (slots_of h.links)

    abbrev slots_behind : List ℕ
    slots_behind = rest x (slots_of h.links)

    counts : (y : ℕ) → count y (slots_of h.links) ≡ count y slots_ahead + count y (x ∷ slots_behind)
    counts y = ap (count y) (slots_around x (slots_of h.links) s) ∙ count-append y slots_ahead (x ∷ slots_behind)

    same_ahead : map (member_at r) slots_ahead ≡ map (member_at h) slots_ahead
    same_ahead = same_off slots_ahead (λ y. omega (arith, counts y)) (off_up_to x (slots_of h.links))

    same-behind : map (member_at r) slots_behind ≡ map (member_at h) slots_behind
    same-behind =
        same_off slots_behind (λ y. omega (arith, counts y)) (off_rest x (slots_of h.links) (once-taken h.links x v.links_ok))

    -- the same links, and the routine in one slot another
    pub changed_taken : (m : Member) → r.links ≡ h.links → member_at r x ≡ m → members_of r ≡ (there h x).ahead ++ (m ∷ (there h x).behind)
    unfolding members_of there
    changed_taken m k e =
        ap (λ (l : Links). map (member_at r) (slots_of l)) k
        ∙ ap (map (member_at r)) (slots_around x (slots_of h.links) s)
        ∙ map-append (member_at r) slots_ahead (x ∷ slots_behind)
        ∙ (λ i. same_ahead i ++ (e i ∷ same-behind i))

-- the same where every other slot is known
pub changed_slot : (h r : HubState) (x : ℕ) (m : Member) → StateOk h → Stands h.links x → r.links ≡ h.links → member_at r x ≡ m →
    ((y : ℕ) → (y ≡ x → ⊥) → member_at r y ≡ member_at h y) → members_of r ≡ (there h x).ahead ++ (m ∷ (there h x).behind)
changed_slot h r x m v s k e o = changed_taken h r x v s (λ y _ n. o y n) m k e
