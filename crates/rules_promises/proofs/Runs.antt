-- What entries, events and groups do to one device: the setting that they leave it at, and whether it is up. Assumes nothing.
use Rattle.std.proofs.Common.{Option, None, Some}
use mathlib.Core.Path.{◌≡◌, refl, sym, ap, ◌∙◌, subst}
use mathlib.Core.Bool.{Bool, true, false, ◌&&◌, and-true, and-false}
use mathlib.Core.List.{List, [], ◌∷◌, ◌++◌, map, append-nil}
use Prim.Native.Nat.{ℕ}
use borrow.Author.Tests.{eq-eqb}
use lib.Dec.{eqb}
use lib.IntN.{ℤ, pos}
use Rattle.std.specs.Prelude.{if◌then◌else◌}
use Rattle.rules.specs.Tables.{any_of, Each}
use Rattle.rules.specs.State.{Step, State}
use Rattle.rules.specs.Progress.{is_on, is_done}
use Rattle.rules.specs.Due.{after_steps, after_restart, after_member, after_members}
use Rattle.rules.specs.Order.{is_of}
use Rattle.rules.specs.Order.{Event, failure_event, restart_event, Entry, routine, event, Order}
use Rattle.rules.specs.Submit.{pass}
use Rattle.rules.specs.HubOrder.{done_steps}
use Rattle.rules.specs.Attach.{later, attach_to, one_restart}
use Rattle.rules.proofs.Lists.{or_left, or_right, eqb_sym, each_mid, each_drop}
use Rattle.rules_promises.proofs.Groups.{Group, members, flat, last_restart, pass_all, add_events, leaving, add_event, attach_event}
use Rattle.rules_promises.proofs.Groups.{added_is}
use Rattle.rules_promises.proofs.Same.{Pairwise, pairs_each, pairs_placed, pairs_last, pairs_attached}
use Rattle.rules_promises.proofs.Steps.{unbegun_after}
use Rattle.rules_promises.proofs.Invariant.{NotBegun, set_event, set_commands, set_after, up_event, up_after, EventsOk, OrderOk}

-- ---- parts of lists

pub set_++ : (d : ℕ) (a b : List Entry) (v : ℤ) → set_after d (a ++ b) v ≡ set_after d b (set_after d a v)
set_++ d [] b v = refl
set_++ d (routine i cs c ∷ a) b v = set_++ d a b (set_commands d cs v)
set_++ d (event e ∷ a) b v = set_++ d a b (set_event d e v)

pub up_++ : (d : ℕ) (a b : List Entry) (u : Bool) → up_after d (a ++ b) u ≡ up_after d b (up_after d a u)
up_++ d [] b u = refl
up_++ d (routine i cs c ∷ a) b u = up_++ d a b u
up_++ d (event e ∷ a) b u = up_++ d a b (up_event d e u)

-- ---- events

pub restart-later : (x y : Option ℤ) (v : ℤ) → after_restart (later x y) v ≡ after_restart y (after_restart x v)
restart-later x None v = refl
restart-later x (Some w) v = refl

later_assoc : (x y z : Option ℤ) → later x (later y z) ≡ later (later x y) z
later_assoc x y None = refl
later_assoc x y (Some v) = refl

later-none : (x : Option ℤ) → later None x ≡ x
later-none None = refl
later-none (Some v) = refl

last_restart_++ : (d : ℕ) (a b : List Event) → last_restart d (a ++ b) ≡ later (last_restart d a) (last_restart d b)
last_restart_++ d [] b = sym (later-none (last_restart d b))
last_restart_++ d (failure_event e ∷ a) b = last_restart_++ d a b
last_restart_++ d (restart_event e v ∷ a) b = ap (λ x. later (one_restart e v d) x) (last_restart_++ d a b)
    ∙ later_assoc (one_restart e v d) (last_restart d a) (last_restart d b)

set-one : (d e : ℕ) (w v : ℤ) → set_event d (restart_event e w) v ≡ after_restart (one_restart e w d) v
unfolding one_restart
set-one d e w v = ap (λ t. if t then w else v) (eqb_sym e d) ∙ go (eqb d e)
  where
    go : (t : Bool) → (if t then w else v) ≡ after_restart (if t then Some w else None) v
    go true = refl
    go false = refl

-- what events leave d at is their last restart of it
pub set_events : (d : ℕ) (l : List Event) (v : ℤ) → set_after d (map event l) v ≡ after_restart (last_restart d l) v
set_events d [] v = refl
set_events d (failure_event e ∷ l) v = set_events d l v
set_events d (restart_event e w ∷ l) v =
    set_events d l (set_event d (restart_event e w) v) ∙ ap (λ x. after_restart (last_restart d l) x) (set-one d e w v)
    ∙ sym (restart-later (one_restart e w d) (last_restart d l) v)

-- one restart, of its own device and of others
pub one-here : (e : ℕ) (w : ℤ) → one_restart e w e ≡ Some w
unfolding one_restart
one-here e w = ap (λ t. if t then Some w else None) (eq-eqb e e refl)

pub one_other : (d e : ℕ) (w : ℤ) → eqb d e ≡ false → one_restart e w d ≡ None
unfolding one_restart
one_other d e w n = ap (λ t. if t then Some w else None) n

pub last_restart_not-begun : (d : ℕ) (l : List Event) → any_of (is_of d) l ≡ false → last_restart d l ≡ None
last_restart_not-begun d [] n = refl
last_restart_not-begun d (failure_event e ∷ l) n = last_restart_not-begun d l (or_right (eqb e d) (any_of (is_of d) l) n)
last_restart_not-begun d (restart_event e w ∷ l) n =
    ap (λ x. later x (last_restart d l)) (one_other d e w (eqb_sym d e ∙ or_left (eqb e d) (any_of (is_of d) l) n))
    ∙ later-none (last_restart d l)
    ∙ last_restart_not-begun d l (or_right (eqb e d) (any_of (is_of d) l) n)

abbrev pub brings_up : Event → Bool
brings_up (failure_event d) = false
brings_up (restart_event d v) = true

pub up-event : (d : ℕ) (x : Event) (u : Bool) → up_event d x u ≡ (if is_of d x then brings_up x else u)
up-event d (failure_event e) u = refl
up-event d (restart_event e v) u = refl

pub up-not-begun : (d : ℕ) (l : List Event) (u : Bool) → any_of (is_of d) l ≡ false → up_after d (map event l) u ≡ u
up-not-begun d [] u n = refl
up-not-begun d (e ∷ l) u n =
    ap (up_after d (map event l)) (up-event d e u ∙ ap (λ t. if t then brings_up e else u) (or_left (is_of d e) (any_of (is_of d) l) n))
    ∙ up-not-begun d l u (or_right (is_of d e) (any_of (is_of d) l) n)

-- ---- groups

pub up_flat_not-begun : (d : ℕ) (l : List Group) (u : Bool) → Each (NotBegun d) l → up_after d (flat l) u ≡ u
up_flat_not-begun d [] u q = refl
up_flat_not-begun d (g ∷ l) u q = up_++ d (map event g.events) (flat l) u
    ∙ ap (λ x. up_after d (flat l) x) (up-not-begun d g.events u q.0.bare) ∙ up_flat_not-begun d l u q.1

pub set-done : (d : ℕ) (l : List Step) (v : ℤ) → set_commands d (done_steps l) v ≡ after_steps d l v
set-done d [] v = refl
set-done d (x ∷ l) v = go (λ w. set-done d l w) (is_done x.status)
  where
    go : ((w : ℤ) → set_commands d (done_steps l) w ≡ after_steps d l w) → (t : Bool) →
        set_commands d (if t then x.command ∷ done_steps l else done_steps l) v ≡ after_steps d l
        (if is_on d x && t then x.command.setting else v)
    go ih true = ih _ ∙ ap (λ t. after_steps d l (if t then x.command.setting else v)) (sym (and-true (is_on d x)))
    go ih false = ih v ∙ ap (λ t. after_steps d l (if t then x.command.setting else v)) (sym (and-false (is_on d x)))

-- the groups' entries leave d at what is due after their members
pub set_flat : (d : ℕ) (l : List Group) (v : ℤ) → Each EventsOk l → set_after d (flat l) v ≡ after_members d (members l) v
unfolding after_member
set_flat d [] v h = refl
set_flat d (g ∷ l) v h =
    let u = set_commands d (done_steps g.member.steps) v in
    set_++ d (map event g.events) (flat l) u
    ∙ ap (λ x. set_after d (flat l) x)
    (set_events d g.events u ∙ ap (λ x. after_restart x u) (sym (h.0.events_ok d))
    ∙ ap (λ x. after_restart (g.member.restarts d) x) (set-done d g.member.steps v))
    ∙ set_flat d l _ h.1

-- with no lead, the settled part alone leaves what the hub keeps of it
pub settled_alone : (s : State) (o : Order) (l : List Group) → OrderOk s o [] l → (d : ℕ) → set_after d o.settled (pos 0) ≡ s.settled_at d
settled_alone s o l k d = ap (λ q. set_after d q (pos 0)) (sym (append-nil o.settled)) ∙ k.settled_is d

-- a quiet routine leaves d as it was
not-begun-after : (d : ℕ) (g : Group) (v : ℤ) → EventsOk g → NotBegun d g → after_member d g.member v ≡ v
unfolding after_member
not-begun-after d g v h q =
    ap (λ x. after_restart x (after_steps d g.member.steps v)) (h.events_ok d ∙ last_restart_not-begun d g.events q.bare)
    ∙ unbegun_after g.member d v q.idle

pub not-begun_members : (d : ℕ) (l : List Group) (v : ℤ) → Each EventsOk l → Each (NotBegun d) l → after_members d (members l) v ≡ v
not-begun_members d [] v h q = refl
not-begun_members d (g ∷ l) v h q = ap (λ x. after_members d (members l) x) (not-begun-after d g v h.0 q.0)
    ∙ not-begun_members d l v h.1 q.1

-- ---- the restarts that routines keep stay the last ones among their events

abbrev EventsStay : Group → Group → Type 0
EventsStay g h = EventsOk g → EventsOk h

events-stay : {l k : List Group} → Pairwise EventsStay l k → Each EventsOk l → Each EventsOk k
events-stay = pairs_each EventsStay EventsOk (λ g h f. f)

events_moved : (f : List Event) (e : ℕ → Option ℤ) → ((d : ℕ) → e d ≡ last_restart d f) → (g : Group) → EventsStay g (add_events f e g)
unfolding attach_to
events_moved f e c g h =
    record {
      events_ok = λ d. ap (λ x. later x (e d)) (h.events_ok d) ∙ ap (λ x. later (last_restart d g.events) x) (c d)
          ∙ sym (last_restart_++ d g.events f);
    }

events_added : (x : Event) (g : Group) → EventsStay g (add_event x g)
events_added x g h = subst EventsOk (sym (added_is x g)) (events_moved (x ∷ []) (λ d. last_restart d (x ∷ [])) (λ d. refl) g h)

pub events_placed : (a : List Group) (x : Group) (b : List Group) → Each EventsOk (a ++ (x ∷ b)) → Each EventsOk (a ++ (x ∷ pass_all b))
unfolding pass
events_placed a x b = events-stay (pairs_placed EventsStay (λ g h. h) (λ g h. record { events_ok = h.events_ok }) a x b)

pub events_leaving : (a : List Group) (g : Group) (b : List Group) → Each EventsOk (a ++ (g ∷ b)) → Each EventsOk (leaving a g b)
events_leaving a g b h =
    events-stay (pairs_last EventsStay (λ x k. k) g.events g.member.restarts
    (events_moved g.events g.member.restarts (each_mid EventsOk a g b h).events_ok) a b)
    (each_drop EventsOk a g b h)

pub events_attached : (j : ℕ) (x : Event) (l : List Group) → Each EventsOk l → Each EventsOk (attach_event j x l)
events_attached j x l = events-stay (pairs_attached EventsStay (λ g h. h) j x (events_added x) l)
