-- Each routine of the sequence together with all events attached to it: the hub's sequence and the order behind the bar are read off this
-- list, which only the proofs keep. What the calls do to the list, and what is then read off it. Assumes nothing.
use Rattle.std.proofs.Common.{Option, None}
use mathlib.Core.Path.{◌≡◌, refl, sym, ap, ◌∙◌, subst}
use mathlib.Core.Bool.{Bool, false}
use mathlib.Core.List.{List, [], ◌∷◌, ◌++◌, map, append_assoc, append-nil, map-append}
use mathlib.Core.Logic.{inl, inr}
use Prim.Native.Nat.{ℕ}
use borrow.Author.Tests.{eq-eqb, ne_eqb}
use lib.Dec.{eqb}
use lib.IntN.{ℤ}
use Rattle.std.specs.Prelude.{if◌then◌else◌}
use Rattle.rules.specs.State.{Step, Member}
use Rattle.rules.specs.Sequence.{Found, last_id_or}
use Rattle.rules.specs.Submit.{pass}
use Rattle.rules.specs.Order.{Event, failure_event, restart_event, Entry, routine, event}
use Rattle.rules.specs.HubOrder.{entry_of}
use Rattle.rules.specs.Attach.{later, attach_to, one_restart}
use Rattle.rules.specs.Tables.{Each}
use Rattle.rules.proofs.Lists.{by_if, NotIn, In, IdsOk, ids_other, ids_not_zero, in_other}

pub record Group : Type 0 where
  pub member : Member
  pub events : List Event

abbrev pub members : List Group → List Member
members [] = []
members (g ∷ l) = g.member ∷ members l

abbrev pub ids : List Group → List ℕ
ids [] = []
ids (g ∷ l) = g.member.id ∷ ids l

-- the order's entries of a list of groups
abbrev pub flat : List Group → List Entry
flat [] = []
flat (g ∷ l) = entry_of g.member ∷ (map event g.events ++ flat l)

-- the ids of the routines of an order
abbrev pub entry_ids : List Entry → List ℕ
entry_ids [] = []
entry_ids (routine i cs b ∷ l) = i ∷ entry_ids l
entry_ids (event e ∷ l) = entry_ids l

-- the last restart of d
abbrev pub last_restart : ℕ → List Event → Option ℤ
last_restart d [] = None
last_restart d (failure_event e ∷ l) = last_restart d l
last_restart d (restart_event e v ∷ l) = later (one_restart e v d) (last_restart d l)

-- ---- what the calls do to the groups

abbrev pub alone : Member → Group
alone m = record { member = m; events = [] }

abbrev pub with : Group → Member → Group
with g m = record { member = m; events = g.events }

-- the routine with other steps, or committed
abbrev pub changed : Group → List Step → Bool → Group
changed g l c = with g (record { id = g.member.id; steps = l; passed = g.member.passed; committed = c; restarts = g.member.restarts })

abbrev pub pass_all : List Group → List Group
pass_all [] = []
pass_all (g ∷ l) = with g (pass g.member) ∷ pass_all l

abbrev pub found_at : List Group → Group → List Group → Found
found_at a g b = record { ahead = members a; it = g.member; behind = members b }

-- events f, whose last restarts are e, behind those of the group
abbrev pub add_events : List Event → (ℕ → Option ℤ) → Group → Group
add_events f e g = record { member = attach_to e g.member; events = g.events ++ f }

abbrev pub add_to_last : List Event → (ℕ → Option ℤ) → List Group → List Group
add_to_last f e [] = []
add_to_last f e (g ∷ []) = add_events f e g ∷ []
add_to_last f e (g ∷ (h ∷ l)) = g ∷ add_to_last f e (h ∷ l)

-- g leaves; its events move to the last ahead of it
abbrev pub leaving : List Group → Group → List Group → List Group
leaving a g b = add_to_last g.events g.member.restarts a ++ b

-- or, if none is ahead, to the settled part: they then stand first behind the bar, until it moves
abbrev pub lead_of : List Group → Group → List Event
lead_of [] g = g.events
lead_of (x ∷ a) g = []

abbrev pub add_event : Event → Group → Group
add_event (failure_event d) g = record { member = g.member; events = g.events ++ (failure_event d ∷ []) }
add_event (restart_event d v) g = add_events (restart_event d v ∷ []) (one_restart d v) g

-- an event attached to the routine j
abbrev pub attach_event : ℕ → Event → List Group → List Group
attach_event j e [] = []
attach_event j e (g ∷ l) = if eqb g.member.id j then add_event e g ∷ l else g ∷ attach_event j e l

-- or to 0
abbrev pub lead_with : ℕ → Event → List Event → List Event
lead_with j e lead = if eqb j 0 then lead ++ (e ∷ []) else lead

-- the committed ones at the front settle
abbrev pub still_held : List Group → List Group
still_held [] = []
still_held (g ∷ l) = if g.member.committed then still_held l else g ∷ l

-- ---- parts of lists

pub members_++ : (a b : List Group) → members (a ++ b) ≡ members a ++ members b
members_++ [] b = refl
members_++ (g ∷ a) b = ap (λ l. g.member ∷ l) (members_++ a b)

pub ids_++ : (a b : List Group) → ids (a ++ b) ≡ ids a ++ ids b
ids_++ [] b = refl
ids_++ (g ∷ a) b = ap (λ l. g.member.id ∷ l) (ids_++ a b)

pub flat_++ : (a b : List Group) → flat (a ++ b) ≡ flat a ++ flat b
flat_++ [] b = refl
flat_++ (g ∷ a) b = ap (λ l. entry_of g.member ∷ l) (rw (flat_++ a b) (sym (append_assoc (map event g.events) (flat a) (flat b))))

pub entry_ids_++ : (a b : List Entry) → entry_ids (a ++ b) ≡ entry_ids a ++ entry_ids b
entry_ids_++ [] b = refl
entry_ids_++ (routine i cs c ∷ a) b = ap (λ l. i ∷ l) (entry_ids_++ a b)
entry_ids_++ (event e ∷ a) b = entry_ids_++ a b

pub entry_ids_events : (l : List Event) → entry_ids (map event l) ≡ []
entry_ids_events [] = refl
entry_ids_events (e ∷ l) = entry_ids_events l

pub entry_ids_flat : (l : List Group) → entry_ids (flat l) ≡ ids l
entry_ids_flat [] = refl
entry_ids_flat (g ∷ l) =
    ap (λ m. g.member.id ∷ m)
    (entry_ids_++ (map event g.events) (flat l) ∙ ap (λ m. m ++ entry_ids (flat l)) (entry_ids_events g.events) ∙ entry_ids_flat l)

-- ---- ids

-- a routine keeps its id when it changes
pub ids_swap : (a : List Group) (g h : Group) (b : List Group) → h.member.id ≡ g.member.id → ids (a ++ (h ∷ b)) ≡ ids (a ++ (g ∷ b))
ids_swap a g h b e = ids_++ a (h ∷ b) ∙ ap (λ i. ids a ++ (i ∷ ids b)) e ∙ sym (ids_++ a (g ∷ b))

-- the ids of all but g are others than g's
pub other_ids : (n : ℕ) (a : List Group) (g : Group) (b : List Group) → IdsOk n (ids (a ++ (g ∷ b))) → NotIn g.member.id (ids (a ++ b))
other_ids n a g b h =
    subst (NotIn g.member.id) (sym (ids_++ a b)) (ids_other n (ids a) g.member.id (ids b) (subst (IdsOk n) (ids_++ a (g ∷ b)) h))

-- ---- a routine is placed

pub members_pass : (l : List Group) → members (pass_all l) ≡ map pass (members l)
members_pass [] = refl
members_pass (g ∷ l) = ap (λ m. pass g.member ∷ m) (members_pass l)

pub flat_pass : (l : List Group) → flat (pass_all l) ≡ flat l
unfolding pass
flat_pass [] = refl
flat_pass (g ∷ l) = ap (λ m. entry_of g.member ∷ (map event g.events ++ m)) (flat_pass l)

-- ---- a routine leaves, or an event is attached

pub events_++ : (f h : List Event) (l : List Entry) → map event (f ++ h) ++ l ≡ map event f ++ (map event h ++ l)
events_++ f h l = ap (λ m. m ++ l) (map-append event f h) ∙ append_assoc (map event f) (map event h) l

flat_last : (f : List Event) (e : ℕ → Option ℤ) (g : Group) (a b : List Group) → flat (add_to_last f e (g ∷ a) ++ b) ≡ flat (g ∷ a)
    ++ (map event f ++ flat b)
unfolding attach_to
flat_last f e g [] b =
    ap (λ m. entry_of g.member ∷ m)
    (events_++ g.events f (flat b) ∙ ap (λ m. m ++ (map event f ++ flat b)) (sym (append-nil (map event g.events))))
flat_last f e g (h ∷ a) b =
    ap (λ m. entry_of g.member ∷ m)
    (ap (λ m. map event g.events ++ m) (flat_last f e h a b)
    ∙ sym (append_assoc (map event g.events) (flat (h ∷ a)) (map event f ++ flat b)))

-- the routine goes, its events stay
pub flat_leaving : (a : List Group) (g : Group) (b : List Group) → map event (lead_of a g) ++ flat (leaving a g b) ≡ flat a
    ++ (map event g.events ++ flat b)
flat_leaving [] g b = refl
flat_leaving (x ∷ a) g b = flat_last g.events g.member.restarts x a b

-- the entries up to the events of g, and those behind them
pub flat_cut : (a : List Group) (g : Group) (b : List Group) → flat (a ++ (g ∷ b)) ≡ flat (a ++ (g ∷ [])) ++ flat b
flat_cut a g b = ap flat (sym (append_assoc a (g ∷ []) b)) ∙ flat_++ (a ++ (g ∷ [])) b

pub added_is : (x : Event) (g : Group) → add_event x g ≡ add_events (x ∷ []) (λ d. last_restart d (x ∷ [])) g
unfolding attach_to
added_is (failure_event d) g = refl
added_is (restart_event d v) g = refl

pub flat_added : (x : Event) (a : List Group) (g : Group) (b : List Group) → flat (a ++ (add_event x g ∷ b)) ≡ flat (a ++ (g ∷ []))
    ++ (event x ∷ flat b)
unfolding attach_to
flat_added x [] g b =
    ap (λ h. flat (h ∷ b)) (added_is x g)
    ∙ ap (λ m. entry_of g.member ∷ m) (rw (append-nil (map event g.events)) (events_++ g.events (x ∷ []) (flat b)))
flat_added x (y ∷ a) g b =
    ap (λ m. entry_of y.member ∷ m)
    (rw (flat_added x a g b) (sym (append_assoc (map event y.events) (flat (a ++ (g ∷ []))) (event x ∷ flat b))))

-- nobody has the id, or g has
pub attach_miss : (j : ℕ) (x : Event) (l : List Group) → NotIn j (ids l) → attach_event j x l ≡ l
attach_miss j x [] h = refl
attach_miss j x (g ∷ l) h = rw (ne_eqb g.member.id j h.0, attach_miss j x l h.1) refl

pub attach_hit : (j : ℕ) (x : Event) (a : List Group) (g : Group) (b : List Group) → NotIn j (ids a) → g.member.id ≡ j →
    attach_event j x (a ++ (g ∷ b)) ≡ a ++ (add_event x g ∷ b)
attach_hit j x [] g b n e = rw (eq-eqb g.member.id j e) refl
attach_hit j x (y ∷ a) g b n e = rw (ne_eqb y.member.id j n.0, attach_hit j x a g b n.1 e) refl

-- ---- routines settle

pub each_held : (P : Group → Type 0) (l : List Group) → Each P l → Each P (still_held l)
each_held P [] h = tt
each_held P (g ∷ l) h = by_if (Each P) g.member.committed (λ _. each_held P l h.1) (λ _. h)

-- ---- the last of a list

pub last_in : (x : Group) (l : List Group) → In (last_id_or x.member.id (members l)) (ids (x ∷ l))
last_in x [] = inl refl
last_in x (y ∷ l) = inr (last_in y l)

pub last-not_zero : (n : ℕ) (x : Group) (l : List Group) → IdsOk n (ids (x ∷ l)) → eqb (last_id_or x.member.id (members l)) 0 ≡ false
last-not_zero n x l k = ne_eqb _ 0 (in_other 0 _ (ids (x ∷ l)) (ids_not_zero n (ids (x ∷ l)) k) (last_in x l))
