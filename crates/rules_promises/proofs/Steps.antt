-- The commands of a routine: they are answered in turn, but for those that an event skips; at most one is in flight, and those behind it
-- are to do or were skipped so. Assumes nothing.
use Rattle.rules_routine.proofs.Options.{none-ne-some, some-ne-none, some-injective}
use Rattle.std.proofs.Common.{None, Some}
use mathlib.Core.Path.{◌≡◌, refl, sym, ap, ◌∙◌, subst}
use mathlib.Core.Logic.{◌≢◌}
use mathlib.Core.Bool.{Bool, true, false, not, ◌&&◌, ◌||◌, and-true, and-false, or-true, or-false}
use mathlib.Core.List.{List, [], ◌∷◌, ◌++◌, map, append-nil, cons≢nil}
use Prim.Native.Nat.{ℕ}
use borrow.Author.Tests.{eqb-true, eq-eqb, ne_eqb, not-true, not-false}
use lib.Dec.{eqb}
use lib.IntN.{ℤ}
use Rattle.std.specs.Prelude.{if◌then◌else◌}
use Rattle.rules_routine.specs.declared.Command.{Command}
use Rattle.rules.specs.Tables.{any_of}
use Rattle.rules.specs.State.{Status, to-do, in_flight, was_done, was_skipped, was_held, was_not_held, Step, Member}
use Rattle.rules.specs.Progress.{is_on, is_to_do, is_in_flight, is_done, is_answered, begun, finished, in_flight_on, next}
use Rattle.rules.specs.Progress.{skips_next, next_is_skipped, Flight, flight_or, flight, advance, answer_flight, with_steps}
use Rattle.rules.specs.Due.{after_steps}
use Rattle.rules.specs.Submit.{step_of, newcomer}
use Rattle.rules.specs.Events.{skip_left}
use Rattle.rules.specs.History.{is_for}
use Rattle.rules.specs.HubOrder.{done_steps}
use Rattle.rules.proofs.Lists.{by_if, t≠f, this_or_other, or_left, or_right, and_left, and_right, fold_++, any_of_++}

-- to do, or skipped by an event
abbrev pub is_behind : Status → Bool
is_behind to-do = true
is_behind (in_flight u) = false
is_behind was_done = false
is_behind was_skipped = true
is_behind was_held = false
is_behind was_not_held = false

abbrev pub AllBehind : List Step → Type 0
AllBehind [] = Unit {0}
AllBehind (x ∷ l) = (is_behind x.status ≡ true) × AllBehind l

abbrev pub InTurnAt : Status → List Step → Type 0 → Type 0
InTurnAt to-do l rest = AllBehind l
InTurnAt (in_flight u) l rest = AllBehind l
InTurnAt was_done l rest = rest
InTurnAt was_skipped l rest = rest
InTurnAt was_held l rest = rest
InTurnAt was_not_held l rest = rest

-- answered ones; then perhaps one in flight or to do, and behind it some that are to do or skipped
abbrev pub InTurn : List Step → Type 0
InTurn [] = Unit {0}
InTurn (x ∷ l) = InTurnAt x.status l (InTurn l)

-- the commands that are not answered, in turn
abbrev pub left_steps : List Step → List Command
left_steps [] = []
left_steps (x ∷ l) = if is_answered x.status then left_steps l else x.command ∷ left_steps l

-- those of these commands that are not on d
abbrev pub not_on : ℕ → List Command → List Command
not_on d [] = []
not_on d (c ∷ l) = if is_for d c then not_on d l else c ∷ not_on d l

-- is one on d answered?
abbrev pub answered_on : ℕ → List Step → Bool
answered_on d l = any_of (λ x. is_on d x && is_answered x.status) l

-- a condition that was found to hold or not
abbrev pub was_asked : Status → Bool
was_asked to-do = false
was_asked (in_flight u) = false
was_asked was_done = false
was_asked was_skipped = false
was_asked was_held = true
was_asked was_not_held = true

-- is there one on d?
abbrev pub asked_on : ℕ → List Step → Bool
asked_on d l = any_of (λ x. is_on d x && was_asked x.status) l

-- is the command in flight one that the condition before it skips? `before`: whether the command before these skips the first of them
abbrev pub flight_is_skipped : Bool → List Step → Bool
flight_is_skipped before [] = false
flight_is_skipped before (x ∷ l) = if is_in_flight x.status then before else flight_is_skipped (skips_next x) l

-- ---- what a change of the commands does

-- the next command, c, is sent, its device being due u
pub record Sent (c : Command) (u : ℤ) (m n : Member) : Type 0 where
  pub in-turn : InTurn n.steps
  pub unfinished : finished c.device m ≡ false
  pub finishes : (d : ℕ) → finished d n ≡ finished d m
  pub begins : begun c.device n ≡ true
  pub other_begun : (d : ℕ) → c.device ≢ d → begun d n ≡ begun d m
  pub flies : (d : ℕ) → in_flight_on d n ≡ eqb c.device d
  pub flight_is : flight n.steps ≡ Some (record { command = c; due_then = u })
  pub same_after : (d : ℕ) (v : ℤ) → after_steps d n.steps v ≡ after_steps d m.steps v
  pub same-done : done_steps n.steps ≡ done_steps m.steps
  pub same_left : left_steps n.steps ≡ left_steps m.steps
  pub same_asked : (d : ℕ) → asked_on d n.steps ≡ asked_on d m.steps

-- a status that answers a command which was not sent: skipped, held, not held
pub record Passing (s : Status) : Type 0 where
  pub answers-it : is_answered s ≡ true
  pub not_done : is_done s ≡ false

pub skipping : Passing was_skipped
skipping = record { answers-it = refl; not_done = refl }

-- the next command, c, is answered so
pub record Skipped (c : Command) (s : Status) (m n : Member) : Type 0 where
  pub in-turn : InTurn n.steps
  pub unfinished : finished c.device m ≡ false
  pub finishes : (d : ℕ) → finished d m ≡ true → finished d n ≡ true
  pub begins : begun c.device n ≡ true
  pub other_begun : (d : ℕ) → c.device ≢ d → begun d n ≡ begun d m
  pub flies : (d : ℕ) → in_flight_on d n ≡ false
  pub flight_is : flight n.steps ≡ None
  pub same_after : (d : ℕ) (v : ℤ) → after_steps d n.steps v ≡ after_steps d m.steps v
  pub same-done : done_steps n.steps ≡ done_steps m.steps
  pub left_is : left_steps m.steps ≡ c ∷ left_steps n.steps
  pub same_asked : was_asked s ≡ false → (d : ℕ) → asked_on d n.steps ≡ asked_on d m.steps
  pub other_asked : (d : ℕ) → c.device ≢ d → asked_on d n.steps ≡ asked_on d m.steps

-- the command in flight, c, is answered
pub record AnsweredOne (c : Command) (m n : Member) : Type 0 where
  pub in-turn : InTurn n.steps
  pub unfinished : finished c.device m ≡ false
  pub had_begun : begun c.device m ≡ true
  pub flew : (d : ℕ) → in_flight_on d m ≡ eqb c.device d
  pub finishes : (d : ℕ) → finished d m ≡ true → finished d n ≡ true
  pub same-begun : (d : ℕ) → begun d n ≡ begun d m
  pub flies : (d : ℕ) → in_flight_on d n ≡ false
  pub flight_is : flight n.steps ≡ None
  pub left_is : left_steps m.steps ≡ c ∷ left_steps n.steps
  pub same_asked : (d : ℕ) → asked_on d n.steps ≡ asked_on d m.steps

-- an event of d: the commands left on d are skipped
pub record LeftSkipped (d : ℕ) (m n : Member) : Type 0 where
  pub in-turn : InTurn n.steps
  pub finishes_it : finished d n ≡ true
  pub finishes : (e : ℕ) → finished e m ≡ true → finished e n ≡ true
  pub same-begun : begun d m ≡ true → (e : ℕ) → begun e n ≡ begun e m
  pub other_flies : (e : ℕ) → d ≢ e → in_flight_on e n ≡ in_flight_on e m
  pub flight_was : (x : Flight) → flight n.steps ≡ Some x → (flight m.steps ≡ Some x) × (x.command.device ≢ d)
  pub flight_stays : (x : Flight) → flight m.steps ≡ Some x → x.command.device ≢ d → flight n.steps ≡ Some x
  pub same_after : (e : ℕ) (v : ℤ) → after_steps e n.steps v ≡ after_steps e m.steps v
  pub same-done : done_steps n.steps ≡ done_steps m.steps
  pub left_is : left_steps n.steps ≡ not_on d (left_steps m.steps)
  pub same_asked : (e : ℕ) → asked_on e n.steps ≡ asked_on e m.steps

-- ---- the commands taken apart: answered ones, then one in flight or to do, and those behind it

abbrev step : Command → Status → Step
step c s = record { command = c; status = s }

-- a law of every list of steps, from what each status adds to it
by_status : (P : List Step → Type 0) → P [] →
    ((c : Command) (l : List Step) → P l → P (step c to-do ∷ l)) →
    ((c : Command) (u : ℤ) (l : List Step) → P l → P (step c (in_flight u) ∷ l)) →
    ((c : Command) (l : List Step) → P l → P (step c was_done ∷ l)) → ((c : Command) (l : List Step) → P l → P (step c was_skipped ∷ l)) →
    ((c : Command) (l : List Step) → P l → P (step c was_held ∷ l)) → ((c : Command) (l : List Step) → P l → P (step c was_not_held ∷ l)) →
    (l : List Step) → P l
by_status P nil td fl dn sk hd nh [] = nil
by_status P nil td fl dn sk hd nh (x ∷ l) = go x.status (by_status P nil td fl dn sk hd nh l)
  where
    go : (s : Status) → P l → P (step x.command s ∷ l)
    go to-do h = td x.command l h
    go (in_flight u) h = fl x.command u l h
    go was_done h = dn x.command l h
    go was_skipped h = sk x.command l h
    go was_held h = hd x.command l h
    go was_not_held h = nh x.command l h

data AllAnswered : List Step → Type 0 where
  none_yet : AllAnswered []
  then_done : (c : Command) (l : List Step) → AllAnswered l → AllAnswered (step c was_done ∷ l)
  then_skipped : (c : Command) (l : List Step) → AllAnswered l → AllAnswered (step c was_skipped ∷ l)
  then_held : (c : Command) (l : List Step) → AllAnswered l → AllAnswered (step c was_held ∷ l)
  then_not-held : (c : Command) (l : List Step) → AllAnswered l → AllAnswered (step c was_not_held ∷ l)

-- p is answered, c has status s, q is behind it
abbrev at : List Step → Command → List Step → Status → List Step
at p c q s = p ++ (step c s ∷ q)

-- P holds of the commands before and after c goes from status r to s
abbrev Goes : Command → Status → Status → (List Step → List Step → Type 0) → Type 0
Goes c r s P = (p : List Step) → AllAnswered p → (q : List Step) → AllBehind q → P (at p c q r) (at p c q s)

data Parts : List Step → Type 0 where
  ends : (p : List Step) → AllAnswered p → Parts p
  rests : (p : List Step) → AllAnswered p → (c : Command) (q : List Step) → AllBehind q → Parts (at p c q to-do)
  flies : (p : List Step) → AllAnswered p → (c : Command) (u : ℤ) (q : List Step) → AllBehind q → Parts (at p c q (in_flight u))

apart : (l : List Step) → InTurn l → Parts l
apart =
    by_status (λ l. InTurn l → Parts l) (λ t. ends [] none_yet) (λ c l h t. rests [] none_yet c l t)
    (λ c u l h t. flies [] none_yet c u l t)
    (λ c l h t. longer was_done c l (then_done c) (h t)) (λ c l h t. longer was_skipped c l (then_skipped c) (h t))
    (λ c l h t. longer was_held c l (then_held c) (h t)) (λ c l h t. longer was_not_held c l (then_not-held c) (h t))
  where
    longer : (s : Status) (c : Command) (l : List Step) → ((p : List Step) → AllAnswered p → AllAnswered (step c s ∷ p)) → Parts l →
        Parts (step c s ∷ l)
    longer s c _ f (ends p a) = ends (step c s ∷ p) (f p a)
    longer s c _ f (rests p a b q w) = rests (step c s ∷ p) (f p a) b q w
    longer s c _ f (flies p a b u q w) = flies (step c s ∷ p) (f p a) b u q w

-- what holds of l holds behind answered commands, if each of them keeps it
over : (R : List Step → List Step → Type 0) (l : List Step) → R [] l →
    ((c : Command) (p k : List Step) → R p k → R (step c was_done ∷ p) (step c was_done ∷ k)) →
    ((c : Command) (p k : List Step) → R p k → R (step c was_skipped ∷ p) (step c was_skipped ∷ k)) →
    ((c : Command) (p k : List Step) → R p k → R (step c was_held ∷ p) (step c was_held ∷ k)) →
    ((c : Command) (p k : List Step) → R p k → R (step c was_not_held ∷ p) (step c was_not_held ∷ k)) →
    (p : List Step) → AllAnswered p → R p (p ++ l)
over R l h dn sk hd nh _ none_yet = h
over R l h dn sk hd nh _ (then_done c p a) = dn c p (p ++ l) (over R l h dn sk hd nh p a)
over R l h dn sk hd nh _ (then_skipped c p a) = sk c p (p ++ l) (over R l h dn sk hd nh p a)
over R l h dn sk hd nh _ (then_held c p a) = hd c p (p ++ l) (over R l h dn sk hd nh p a)
over R l h dn sk hd nh _ (then_not-held c p a) = nh c p (p ++ l) (over R l h dn sk hd nh p a)

-- what holds of answered commands alone
all_over : (R : List Step → Type 0) → R [] → ((c : Command) (k : List Step) → R k → R (step c was_done ∷ k)) →
    ((c : Command) (k : List Step) → R k → R (step c was_skipped ∷ k)) → ((c : Command) (k : List Step) → R k → R (step c was_held ∷ k)) →
    ((c : Command) (k : List Step) → R k → R (step c was_not_held ∷ k)) → (p : List Step) → AllAnswered p →
    R p
all_over R h dn sk hd nh _ none_yet = h
all_over R h dn sk hd nh _ (then_done c p a) = dn c p (all_over R h dn sk hd nh p a)
all_over R h dn sk hd nh _ (then_skipped c p a) = sk c p (all_over R h dn sk hd nh p a)
all_over R h dn sk hd nh _ (then_held c p a) = hd c p (all_over R h dn sk hd nh p a)
all_over R h dn sk hd nh _ (then_not-held c p a) = nh c p (all_over R h dn sk hd nh p a)

-- what counts neither a command to do nor a skipped one
pub behind_over : {A : Type 0} (f : List Step → A) → ((c : Command) (l : List Step) → f (step c to-do ∷ l) ≡ f l) →
    ((c : Command) (l : List Step) → f (step c was_skipped ∷ l) ≡ f l) →
    (q : List Step) → AllBehind q → f q ≡ f []
behind_over f h k =
    by_status (λ q. AllBehind q → f q ≡ f []) (λ w. refl) (λ c l e w. h c l ∙ e w.1) (λ c u l e w. t≠f (sym w.0))
    (λ c l e w. t≠f (sym w.0)) (λ c l e w. k c l ∙ e w.1) (λ c l e w. t≠f (sym w.0)) (λ c l e w. t≠f (sym w.0))

pub behind-turn : (q : List Step) → AllBehind q → InTurn q
behind-turn =
    by_status (λ q. AllBehind q → InTurn q) (λ w. tt) (λ c l h w. w.1) (λ c u l h w. t≠f (sym w.0)) (λ c l h w. t≠f (sym w.0))
    (λ c l h w. h w.1) (λ c l h w. t≠f (sym w.0)) (λ c l h w. t≠f (sym w.0))

pub behind_grounded : (q : List Step) → AllBehind q → flight q ≡ None
behind_grounded = behind_over flight (λ b l. refl) (λ b l. refl)

new-behind : (cs : List Command) → AllBehind (map step_of cs)
new-behind [] = tt
new-behind (c ∷ cs) = (refl, new-behind cs)

-- ---- tests of the commands

abbrev is_open : Status → Bool
is_open s = not (is_answered s)

abbrev is_begun : Status → Bool
is_begun s = not (is_to_do s)

-- a command on d, in a status that passes k
abbrev on : ℕ → (Status → Bool) → Step → Bool
on d k x = is_on d x && k x.status

unpassed : (d : ℕ) (k : Status → Bool) (x : Step) → k x.status ≡ false → on d k x ≡ false
unpassed d k x e = rw e (and-false (is_on d x))

behind-pass : (d : ℕ) (k : Status → Bool) → k to-do ≡ false → k was_skipped ≡ false → (q : List Step) → AllBehind q →
    any_of (on d k) q ≡ false
behind-pass d k e f =
    behind_over (any_of (on d k)) (λ c l. rw (unpassed d k (step c to-do) e) refl) (λ c l. rw (unpassed d k (step c was_skipped) f) refl)

past_flies : (d : ℕ) (l p : List Step) → AllAnswered p → any_of (on d is_in_flight) (p ++ l) ≡ any_of (on d is_in_flight) l
past_flies d l =
    over (λ p k. any_of (on d is_in_flight) k ≡ any_of (on d is_in_flight) l) l refl
    (λ c p k h. rw (unpassed d is_in_flight (step c was_done) refl) h) (λ c p k h. rw (unpassed d is_in_flight (step c was_skipped) refl) h)
    (λ c p k h. rw (unpassed d is_in_flight (step c was_held) refl) h) (λ c p k h. rw (unpassed d is_in_flight (step c was_not_held) refl) h)

-- what fails j fails k
fewer : (j k : Step → Bool) → ((x : Step) → j x ≡ false → k x ≡ false) → (l : List Step) → any_of j l ≡ false → any_of k l ≡ false
fewer j k h [] e = refl
fewer j k h (x ∷ l) e = rw (h x (or_left (j x) (any_of j l) e), fewer j k h l (or_right (j x) (any_of j l) e)) refl

fewer_on : (d : ℕ) (j k : Status → Bool) → ((s : Status) → j s ≡ false → k s ≡ false) → (l : List Step) → any_of (on d j) l ≡ false →
    any_of (on d k) l ≡ false
fewer_on d j k h = fewer (on d j) (on d k) (λ x. go (is_on d x) (j x.status) (k x.status) (h x.status))
  where
    go : (t a b : Bool) → (a ≡ false → b ≡ false) → t && a ≡ false → t && b ≡ false
    go true a b f e = f e
    go false a b f e = refl

-- a list with x in it, or with y in its place
module _ (t : Step → Bool) (p : List Step) (x : Step) (q : List Step) where
  any_here : t x ≡ true → any_of t (p ++ (x ∷ q)) ≡ true
  any_here e = rw (any_of_++ t p (x ∷ q), e) (or-true (any_of t p))

  any_same : (y : Step) → t x ≡ t y → any_of t (p ++ (x ∷ q)) ≡ any_of t (p ++ (y ∷ q))
  any_same y e = rw (any_of_++ t p (x ∷ q), any_of_++ t p (y ∷ q), e) refl

  any_less : (y : Step) → t y ≡ false → any_of t (p ++ (x ∷ q)) ≡ false → any_of t (p ++ (y ∷ q)) ≡ false
  any_less y e h =
      let f = sym (any_of_++ t p (x ∷ q)) ∙ h in
      rw (any_of_++ t p (y ∷ q), or_left (any_of t p) (t x || any_of t q) f, e)
      (or_right (t x) (any_of t q) (or_right (any_of t p) (t x || any_of t q) f))

-- ---- one command goes from status to status

after_++ : (d : ℕ) (a b : List Step) (v : ℤ) → after_steps d (a ++ b) v ≡ after_steps d b (after_steps d a v)
after_++ d = fold_++ (after_steps d) (λ v. refl) (λ x l v. refl)

undone_after : (d : ℕ) (l : List Step) (v : ℤ) → any_of (on d is_done) l ≡ false → after_steps d l v ≡ v
undone_after d [] v e = refl
undone_after d (x ∷ l) v e =
    rw (or_left (on d is_done x) (any_of (on d is_done) l) e) (undone_after d l v (or_right (on d is_done x) (any_of (on d is_done) l) e))

-- what an answered status is not
landed : (s : Status) → is_answered s ≡ true → (is_in_flight s ≡ false) × (is_to_do s ≡ false) × ((x : Step) → flight_or x s None ≡ None)
landed to-do e = t≠f (sym e)
landed (in_flight u) e = t≠f (sym e)
landed was_done e = (refl, refl, λ x. refl)
landed was_skipped e = (refl, refl, λ x. refl)
landed was_held e = (refl, refl, λ x. refl)
landed was_not_held e = (refl, refl, λ x. refl)

-- what is said of the list where c has status s
module _ (p : List Step) (a : AllAnswered p) (c : Command) (q : List Step) (w : AllBehind q) where
  turn_at : (s : Status) → InTurn (at p c q s)
  turn_at s = over (λ p k. InTurn k) (step c s ∷ q) (go s) (λ b p k h. h) (λ b p k h. h) (λ b p k h. h) (λ b p k h. h) p a
    where
      go : (s : Status) → InTurnAt s q (InTurn q)
      go to-do = w
      go (in_flight u) = w
      go was_done = behind-turn q w
      go was_skipped = behind-turn q w
      go was_held = behind-turn q w
      go was_not_held = behind-turn q w

  flight-at : (s : Status) → flight (at p c q s) ≡ flight_or (step c s) s None
  flight-at s =
      over (λ p k. flight k ≡ flight_or (step c s) s None) (step c s ∷ q)
      (ap (λ o. flight_or (step c s) s o) (behind_over flight (λ b l. refl) (λ b l. refl) q w))
      (λ b p k e. e) (λ b p k e. e) (λ b p k e. e) (λ b p k e. e) p a

  flies-at : (d : ℕ) (s : Status) → any_of (on d is_in_flight) (at p c q s) ≡ on d is_in_flight (step c s)
  flies-at d s = rw (past_flies d (step c s ∷ q) p a, behind-pass d is_in_flight refl refl q w) (or-false (on d is_in_flight (step c s)))

  left_at : (s : Status) → left_steps (at p c q s) ≡ (let l = left_steps q in if is_answered s then l else c ∷ l)
  left_at s = over (λ p k. left_steps k ≡ left_steps (step c s ∷ q)) (step c s ∷ q) refl (λ b p k e. e)
      (λ b p k e. e) (λ b p k e. e) (λ b p k e. e) p a

  done_at : (s : Status) → done_steps (at p c q s) ≡ done_steps p ++ (if is_done s then c ∷ [] else [])
  done_at s =
      over (λ p k. done_steps k ≡ done_steps p ++ (if is_done s then c ∷ [] else [])) (step c s ∷ q)
      (ap (λ l. if is_done s then c ∷ l else l) (behind_over done_steps (λ b l. refl) (λ b l. refl) q w)) (λ b p k e. ap (λ l. b ∷ l) e)
      (λ b p k e. e) (λ b p k e. e) (λ b p k e. e) p a

  after_at : (d : ℕ) (v : ℤ) (s : Status) → after_steps d (at p c q s) v ≡ (if on d is_done (step c s) then c.setting else after_steps d p v)
  after_at d v s =
      after_++ d p (step c s ∷ q) v
      ∙ undone_after d q (if on d is_done (step c s) then c.setting else after_steps d p v) (behind-pass d is_done refl refl q w)

  -- tests on its own device
  own_at : (k : Status → Bool) (s : Status) → k s ≡ true → any_of (on c.device k) (at p c q s) ≡ true
  own_at k s e = any_here (on c.device k) p (step c s) q (rw (eq-eqb c.device c.device refl) e)

  -- on another device
  other_at : (k : Status → Bool) (s r : Status) (d : ℕ) → c.device ≢ d → any_of (on d k) (at p c q s) ≡ any_of (on d k) (at p c q r)
  other_at k s r d n = any_same (on d k) p (step c s) q (step c r) (rw (ne_eqb c.device d n) refl)

  -- and those that say the same of both statuses
  same_at : (k : Status → Bool) (s r : Status) → k s ≡ k r → (d : ℕ) → any_of (on d k) (at p c q s) ≡ any_of (on d k) (at p c q r)
  same_at k s r e d = any_same (on d k) p (step c s) q (step c r) (rw e refl)

  sent_at : (m : Member) (u : ℤ) → Sent c u (with_steps m (at p c q to-do)) (with_steps m (at p c q (in_flight u)))
  unfolding begun finished in_flight_on
  sent_at m u = record {
    in-turn = turn_at (in_flight u);
    unfinished = ap not (own_at is_open to-do refl);
    finishes = λ d. ap not (same_at is_open (in_flight u) to-do refl d);
    begins = own_at is_begun (in_flight u) refl;
    other_begun = other_at is_begun (in_flight u) to-do;
    flies = λ d. flies-at d (in_flight u) ∙ and-true (eqb c.device d);
    flight_is = flight-at (in_flight u);
    same_after = λ d v. after_at d v (in_flight u) ∙ sym (after_at d v to-do);
    same-done = done_at (in_flight u) ∙ sym (done_at to-do);
    same_left = left_at (in_flight u) ∙ sym (left_at to-do);
    same_asked = same_at was_asked (in_flight u) to-do refl;
  }

  -- it had status r, and s answers it
  lands_at : (s : Status) → is_answered s ≡ true → (d : ℕ) → any_of (on d is_in_flight) (at p c q s) ≡ false
  lands_at s e d = flies-at d s ∙ unpassed d is_in_flight (step c s) (landed s e).0

  ends_at : (r s : Status) → is_answered s ≡ true → (d : ℕ) → not (any_of (on d is_open) (at p c q r)) ≡ true →
      not (any_of (on d is_open) (at p c q s)) ≡ true
  ends_at r s e d h =
      ap not (any_less (on d is_open) p (step c r) q (step c s) (unpassed d is_open (step c s) (ap not e))
      (not-true (any_of (on d is_open) (at p c q r)) h))

  leaves_at : (r s : Status) → is_answered r ≡ false → is_answered s ≡ true → left_steps (at p c q r) ≡ c ∷ left_steps (at p c q s)
  leaves_at r s f e = rw (left_at s, left_at r, e, f) refl

  -- done: it is one more, and its device is due its setting
  done-gains_at : (u : ℤ) → done_steps (at p c q was_done) ≡ done_steps (at p c q (in_flight u)) ++ (c ∷ [])
  done-gains_at u = rw (done_at was_done, done_at (in_flight u), append-nil (done_steps p)) refl

  done-after_at : (u : ℤ) (d : ℕ) (v : ℤ) →
      after_steps d (at p c q was_done) v ≡ (if eqb c.device d then c.setting else after_steps d (at p c q (in_flight u)) v)
  done-after_at u d v =
      rw (after_at d v was_done, after_at d v (in_flight u), and-true (eqb c.device d), and-false (eqb c.device d)) refl

  skipped-at : (m : Member) (s : Status) → Passing s → Skipped c s (with_steps m (at p c q to-do)) (with_steps m (at p c q s))
  unfolding begun finished in_flight_on
  skipped-at m s e = record {
    in-turn = turn_at s;
    unfinished = ap not (own_at is_open to-do refl);
    finishes = ends_at to-do s e.answers-it;
    begins = own_at is_begun s (ap not (landed s e.answers-it).1);
    other_begun = other_at is_begun s to-do;
    flies = lands_at s e.answers-it;
    flight_is = flight-at s ∙ (landed s e.answers-it).2 (step c s);
    same_after = λ d v. after_at d v s ∙ ap (λ b. if b then c.setting else after_steps d p v) (unpassed d is_done (step c s) e.not_done)
        ∙ sym (after_at d v to-do ∙ ap (λ b. if b then c.setting else after_steps d p v) (unpassed d is_done (step c to-do) refl));
    same-done = done_at s ∙ ap (λ b. done_steps p ++ (if b then c ∷ [] else [])) e.not_done ∙ sym (done_at to-do);
    left_is = leaves_at to-do s refl e.answers-it;
    same_asked = same_at was_asked s to-do;
    other_asked = other_at was_asked s to-do;
  }

  answer_at : (m : Member) (u : ℤ) (s : Status) → is_answered s ≡ true → was_asked s ≡ false →
      AnsweredOne c (with_steps m (at p c q (in_flight u))) (with_steps m (at p c q s))
  unfolding begun finished in_flight_on
  answer_at m u s e f = record {
    in-turn = turn_at s;
    unfinished = ap not (own_at is_open (in_flight u) refl);
    had_begun = own_at is_begun (in_flight u) refl;
    flew = λ d. flies-at d (in_flight u) ∙ and-true (eqb c.device d);
    finishes = ends_at (in_flight u) s e;
    same-begun = same_at is_begun s (in_flight u) (ap not (landed s e).1);
    flies = lands_at s e;
    flight_is = flight-at s ∙ (landed s e).2 (step c s);
    left_is = leaves_at (in_flight u) s refl e;
    same_asked = same_at was_asked s (in_flight u) f;
  }

-- the next command is sent or skipped
at_next : (P : List Step → List Step → Type 0) (c : Command) (s : Status) → Goes c to-do s P →
    (l : List Step) → Parts l → next l ≡ Some c → flight l ≡ None → P l (advance s l)
at_next P c s h _ (ends p a) e f =
    absurd (none-ne-some c (sym (all_over (λ k. next k ≡ None) refl (λ b k n. n) (λ b k n. n) (λ b k n. n) (λ b k n. n) p a) ∙ e))
at_next P c s h _ (rests p a b q w) e f =
    let same : b ≡ c =
    some-injective b c
    (sym (over (λ p k. next k ≡ Some b) (step b to-do ∷ q) refl (λ b p k n. n) (λ b p k n. n) (λ b p k n. n) (λ b p k n. n) p a)
    ∙ e) in
    subst (λ k. P (at p b q to-do) k)
    (sym (over (λ p k. advance s k ≡ p ++ (step b s ∷ q)) (step b to-do ∷ q) refl (λ b p k. ap (λ n. step b was_done ∷ n))
    (λ b p k. ap (λ n. step b was_skipped ∷ n)) (λ b p k. ap (λ n. step b was_held ∷ n)) (λ b p k. ap (λ n. step b was_not_held ∷ n)) p a))
    (subst (λ b. P (at p b q to-do) (at p b q s)) (sym same) (h p a q w))
at_next P c s h _ (flies p a b u q w) e f =
    absurd (some-ne-none (record { command = b; due_then = u }) (sym (flight-at p a b q w (in_flight u)) ∙ f))

-- the command in flight is answered
at_flight : (P : List Step → List Step → Type 0) (x : Flight) (s : Status) → Goes x.command (in_flight x.due_then) s P →
    (l : List Step) → Parts l → flight l ≡ Some x → P l (answer_flight s l)
at_flight P x s h _ (ends p a) e =
    absurd (none-ne-some x (sym (all_over (λ k. flight k ≡ None) refl (λ b k n. n) (λ b k n. n) (λ b k n. n) (λ b k n. n) p a) ∙ e))
at_flight P x s h _ (rests p a c q w) e = absurd (none-ne-some x (sym (flight-at p a c q w to-do) ∙ e))
at_flight P x s h _ (flies p a c u q w) e =
    let same : record { command = c; due_then = u } ≡ x =
    some-injective (record { command = c; due_then = u }) x (sym (flight-at p a c q w (in_flight u)) ∙ e) in
    subst (λ k. P (at p c q (in_flight u)) k)
    (sym (over (λ p k. answer_flight s k ≡ p ++ (step c s ∷ q)) (step c (in_flight u) ∷ q) refl (λ b p k. ap (λ n. step b was_done ∷ n))
    (λ b p k. ap (λ n. step b was_skipped ∷ n)) (λ b p k. ap (λ n. step b was_held ∷ n)) (λ b p k. ap (λ n. step b was_not_held ∷ n)) p a))
    (subst (λ y. P (at p y.command q (in_flight y.due_then)) (at p y.command q s)) (sym same) (h p a q w))

module _ (m : Member) (t : InTurn m.steps) where
  pub send-step : (c : Command) (u : ℤ) → next m.steps ≡ Some c → flight m.steps ≡ None →
      Sent c u m (with_steps m (advance (in_flight u) m.steps))
  send-step c u e f =
      at_next (λ k l. Sent c u (with_steps m k) (with_steps m l)) c (in_flight u) (λ p a q w. sent_at p a c q w m u) m.steps
      (apart m.steps t) e f

  pub skip_step : (c : Command) (s : Status) → Passing s → next m.steps ≡ Some c → flight m.steps ≡ None →
      Skipped c s m (with_steps m (advance s m.steps))
  skip_step c s h e f =
      at_next (λ k l. Skipped c s (with_steps m k) (with_steps m l)) c s (λ p a q w. skipped-at p a c q w m s h) m.steps
      (apart m.steps t) e f

  answers : (P : List Step → List Step → Type 0) (x : Flight) (s : Status) → Goes x.command (in_flight x.due_then) s P →
      flight m.steps ≡ Some x → P m.steps (answer_flight s m.steps)
  answers P x s h = at_flight P x s h m.steps (apart m.steps t)

  pub done-step : (x : Flight) → flight m.steps ≡ Some x → AnsweredOne x.command m (with_steps m (answer_flight was_done m.steps))
  done-step x e =
      answers (λ k l. AnsweredOne x.command (with_steps m k) (with_steps m l)) x was_done
      (λ p a q w. answer_at p a x.command q w m x.due_then was_done refl refl) e

  pub done-after : (x : Flight) → flight m.steps ≡ Some x → (d : ℕ) (v : ℤ) →
      after_steps d (answer_flight was_done m.steps) v ≡
      (if eqb x.command.device d then x.command.setting else after_steps d m.steps v)
  done-after x e d v =
      answers (λ k l. after_steps d l v ≡ (if eqb x.command.device d then x.command.setting else after_steps d k v)) x was_done
      (λ p a q w. done-after_at p a x.command q w x.due_then d v) e

  pub done-gains : (x : Flight) → flight m.steps ≡ Some x → done_steps (answer_flight was_done m.steps) ≡ done_steps m.steps
      ++ (x.command ∷ [])
  done-gains x e =
      answers (λ k l. done_steps l ≡ done_steps k ++ (x.command ∷ [])) x was_done
      (λ p a q w. done-gains_at p a x.command q w x.due_then) e

  pub fail_step : (x : Flight) → flight m.steps ≡ Some x → AnsweredOne x.command m (with_steps m (answer_flight was_skipped m.steps))
  fail_step x e =
      answers (λ k l. AnsweredOne x.command (with_steps m k) (with_steps m l)) x was_skipped
      (λ p a q w. answer_at p a x.command q w m x.due_then was_skipped refl refl) e

  pub fail_after : (x : Flight) → flight m.steps ≡ Some x → (d : ℕ) (v : ℤ) →
      after_steps d (answer_flight was_skipped m.steps) v ≡ after_steps d m.steps v
  fail_after x e d v =
      answers (λ k l. after_steps d l v ≡ after_steps d k v) x was_skipped
      (λ p a q w. after_at p a x.command q w d v was_skipped ∙ sym (after_at p a x.command q w d v (in_flight x.due_then))) e

  pub fail_done : (x : Flight) → flight m.steps ≡ Some x → done_steps (answer_flight was_skipped m.steps) ≡ done_steps m.steps
  fail_done x e =
      answers (λ k l. done_steps l ≡ done_steps k) x was_skipped
      (λ p a q w. done_at p a x.command q w was_skipped ∙ sym (done_at p a x.command q w (in_flight x.due_then))) e

  -- a command in flight on d is the one in flight
  pub flight_on : (d : ℕ) → in_flight_on d m ≡ true → (x : Flight) × (flight m.steps ≡ Some x) × (x.command.device ≡ d)
  unfolding in_flight_on
  flight_on d e = go m.steps (apart m.steps t) e
    where
      go : (l : List Step) → Parts l → any_of (on d is_in_flight) l ≡ true → (x : Flight) × (flight l ≡ Some x) × (x.command.device ≡ d)
      go _ (ends p a) h =
          t≠f (sym h ∙ ap (any_of (on d is_in_flight)) (sym (append-nil p)) ∙ past_flies d [] p a)
      go _ (rests p a c q w) h = t≠f (sym h ∙ flies-at p a c q w d to-do ∙ unpassed d is_in_flight (step c to-do) refl)
      go _ (flies p a c u q w) h = (
        record { command = c; due_then = u },
        flight-at p a c q w (in_flight u),
        eqb-true c.device d
            (and_left (eqb c.device d) true (sym (flies-at p a c q w d (in_flight u)) ∙ h)),
      )

-- ---- laws of one routine

-- nothing is left: all is answered
pub none_left : (m : Member) → next m.steps ≡ None → flight m.steps ≡ None → left_steps m.steps ≡ []
none_left m e f =
    by_status (λ l. next l ≡ None → flight l ≡ None → left_steps l ≡ []) (λ e f. refl)
    (λ c l h e f. absurd (some-ne-none c e)) (λ c u l h e f. absurd (some-ne-none (record { command = c; due_then = u }) f))
    (λ c l h. h) (λ c l h. h) (λ c l h. h) (λ c l h. h) m.steps e f

no_flight : (l : List Step) → flight l ≡ None → any_of (λ x. is_in_flight x.status) l ≡ false
no_flight =
    by_status (λ l. flight l ≡ None → any_of (λ x. is_in_flight x.status) l ≡ false) (λ e. refl)
    (λ c l h. h) (λ c u l h e. absurd (some-ne-none (record { command = c; due_then = u }) e)) (λ c l h. h) (λ c l h. h)
    (λ c l h. h) (λ c l h. h)

left_answered : (l : List Step) → left_steps l ≡ [] → any_of (λ x. is_open x.status) l ≡ false
left_answered =
    by_status (λ l. left_steps l ≡ [] → any_of (λ x. is_open x.status) l ≡ false) (λ e. refl)
    (λ c l h e. absurd (cons≢nil e)) (λ c u l h e. absurd (cons≢nil e)) (λ c l h. h) (λ c l h. h) (λ c l h. h) (λ c l h. h)

pub left_finished : (m : Member) (d : ℕ) → left_steps m.steps ≡ [] → finished d m ≡ true
unfolding finished
left_finished m d e = ap not (fewer (λ x. is_open x.status) (on d is_open) (unpassed d is_open) m.steps (left_answered m.steps e))

pub left_grounded : (m : Member) → left_steps m.steps ≡ [] → flight m.steps ≡ None
left_grounded m e =
    by_status (λ l. left_steps l ≡ [] → flight l ≡ None) (λ e. refl) (λ c l h e. absurd (cons≢nil e)) (λ c u l h e. absurd (cons≢nil e))
    (λ c l h. h) (λ c l h. h) (λ c l h. h) (λ c l h. h) m.steps e

pub grounded : (m : Member) (d : ℕ) → flight m.steps ≡ None → in_flight_on d m ≡ false
unfolding in_flight_on
grounded m d e = fewer (λ x. is_in_flight x.status) (on d is_in_flight) (unpassed d is_in_flight) m.steps (no_flight m.steps e)

pub finished_grounded : (m : Member) (d : ℕ) → finished d m ≡ true → in_flight_on d m ≡ false
unfolding finished in_flight_on
finished_grounded m d e =
    fewer_on d is_open is_in_flight (λ s f. (landed s (not-false (is_answered s) f)).0) m.steps (not-true (any_of (on d is_open) m.steps) e)

unbegun : (k : Status → Bool) → k to-do ≡ false → (s : Status) → is_begun s ≡ false → k s ≡ false
unbegun k f to-do e = f
unbegun k f (in_flight u) e = t≠f e
unbegun k f was_done e = t≠f e
unbegun k f was_skipped e = t≠f e
unbegun k f was_held e = t≠f e
unbegun k f was_not_held e = t≠f e

-- what has not begun d has not flown there, and changes nothing of it
pub unbegun_grounded : (m : Member) (d : ℕ) → begun d m ≡ false → in_flight_on d m ≡ false
unfolding begun in_flight_on
unbegun_grounded m d e = fewer_on d is_begun is_in_flight (unbegun is_in_flight refl) m.steps e

pub unbegun_after : (m : Member) (d : ℕ) (v : ℤ) → begun d m ≡ false → after_steps d m.steps v ≡ v
unfolding begun
unbegun_after m d v e = undone_after d m.steps v (fewer_on d is_begun is_done (unbegun is_done refl) m.steps e)

pub unbegun_answered : (m : Member) (d : ℕ) → begun d m ≡ false → answered_on d m.steps ≡ false
unfolding begun
unbegun_answered m d e = fewer_on d is_begun is_answered (unbegun is_answered refl) m.steps e

pub unbegun_asked : (m : Member) (d : ℕ) → begun d m ≡ false → asked_on d m.steps ≡ false
unfolding begun
unbegun_asked m d e = fewer_on d is_begun was_asked (unbegun was_asked refl) m.steps e

-- begun: one on d is answered, or in flight
pub begun-is : (m : Member) (d : ℕ) → begun d m ≡ (answered_on d m.steps || in_flight_on d m)
unfolding begun in_flight_on
begun-is m d = go m.steps
  where
    four : (a b x y : Bool) → ((a || b) || (x || y)) ≡ ((a || x) || (b || y))
    four true b x y = refl
    four false true true y = refl
    four false true false y = refl
    four false false x y = refl

    one : (t : Bool) (s : Status) → (t && is_begun s) ≡ ((t && is_answered s) || (t && is_in_flight s))
    one true to-do = refl
    one true (in_flight u) = refl
    one true was_done = refl
    one true was_skipped = refl
    one true was_held = refl
    one true was_not_held = refl
    one false s = refl

    go : (l : List Step) → any_of (on d is_begun) l ≡ (any_of (on d is_answered) l || any_of (on d is_in_flight) l)
    go [] = refl
    go (x ∷ l) =
        rw (one (is_on d x) x.status, go l)
        (four (on d is_answered x) (on d is_in_flight x) (any_of (on d is_answered) l) (any_of (on d is_in_flight) l))

-- ---- an event skips what is left on d

-- a law of a list of steps and what an event of d makes of it: a command stays, or is skipped
by_skip : (d : ℕ) (P : List Step → List Step → Type 0) → P [] [] →
    ((c : Command) (s : Status) (l : List Step) → (eqb c.device d && is_open s) ≡ false → P l (skip_left d l) →
    P (step c s ∷ l) (step c s ∷ skip_left d l)) →
    ((c : Command) (s : Status) (l : List Step) → c.device ≡ d → is_answered s ≡ false → P l (skip_left d l) →
    P (step c s ∷ l) (step c was_skipped ∷ skip_left d l)) →
    (l : List Step) → P l (skip_left d l)
by_skip d P nil stays goes [] = nil
by_skip d P nil stays goes (x ∷ l) =
    by_if (λ (y : Step). P (x ∷ l) (y ∷ skip_left d l)) (on d is_open x)
    (λ t. goes x.command x.status l (eqb-true x.command.device d (and_left (is_on d x) (is_open x.status) t))
    (not-true (is_answered x.status) (and_right (is_on d x) (is_open x.status) t)) (by_skip d P nil stays goes l))
    (λ t. stays x.command x.status l t (by_skip d P nil stays goes l))

module _ (d : ℕ) where
  -- tests on another device
  skip_other : (k : Status → Bool) (e : ℕ) → d ≢ e → (l : List Step) → any_of (on e k) (skip_left d l) ≡ any_of (on e k) l
  skip_other k e n =
      by_skip d (λ l m. any_of (on e k) m ≡ any_of (on e k) l) refl (λ c s l t h. ap (λ b. on e k (step c s) || b) h)
      (λ c s l t u h. rw (ne_eqb c.device e (λ z. n (sym t ∙ z))) h)

  -- what holds of a skipped command
  skip_own : (k : Status → Bool) → k was_skipped ≡ true → (l : List Step) → any_of (on d k) l ≡ true → any_of (on d k) (skip_left d l) ≡ true
  skip_own k y =
      by_skip d (λ l m. any_of (on d k) l ≡ true → any_of (on d k) m ≡ true) (λ e. e) (λ c s l t h. either (on d k (step c s)) h)
      (λ c s l t u h e. rw (eq-eqb c.device d t, y) refl)
    where
      either : {x y : Bool} (b : Bool) → (x ≡ true → y ≡ true) → b || x ≡ true → b || y ≡ true
      either true f e = refl
      either false f e = f e

  -- none is left on d
  skip_closes : (l : List Step) → any_of (on d is_open) (skip_left d l) ≡ false
  skip_closes =
      by_skip d (λ l m. any_of (on d is_open) m ≡ false) refl (λ c s l t h. rw t h)
      (λ c s l t u h. rw (unpassed d is_open (step c was_skipped) refl) h)

  skip_open : (e : ℕ) (l : List Step) → any_of (on e is_open) l ≡ false → any_of (on e is_open) (skip_left d l) ≡ false
  skip_open e =
      by_skip d (λ l m. any_of (on e is_open) l ≡ false → any_of (on e is_open) m ≡ false) (λ f. f)
      (λ c s l t h f. rw (or_left (on e is_open (step c s)) (any_of (on e is_open) l) f)
      (h (or_right (on e is_open (step c s)) (any_of (on e is_open) l) f)))
      (λ c s l t u h f. rw (unpassed e is_open (step c was_skipped) refl) (h (or_right (on e is_open (step c s)) (any_of (on e is_open) l) f)))

  skip_behind : (l : List Step) → AllBehind l → AllBehind (skip_left d l)
  skip_behind =
      by_skip d (λ l m. AllBehind l → AllBehind m) (λ w. w) (λ c s l t h w. (w.0, h w.1)) (λ c s l t u h w. (refl, h w.1))

  skip-turn : (l : List Step) → InTurn l → InTurn (skip_left d l)
  skip-turn = by_skip d (λ l m. InTurn l → InTurn m) (λ w. w) stays goes
    where
      stays : (c : Command) (s : Status) (l : List Step) → (eqb c.device d && is_open s) ≡ false → (InTurn l → InTurn (skip_left d l)) →
          InTurnAt s l (InTurn l) → InTurnAt s (skip_left d l) (InTurn (skip_left d l))
      stays c to-do l t h w = skip_behind l w
      stays c (in_flight u) l t h w = skip_behind l w
      stays c was_done l t h w = h w
      stays c was_skipped l t h w = h w
      stays c was_held l t h w = h w
      stays c was_not_held l t h w = h w

      goes : (c : Command) (s : Status) (l : List Step) → c.device ≡ d → is_answered s ≡ false → (InTurn l → InTurn (skip_left d l)) →
          InTurnAt s l (InTurn l) → InTurn (skip_left d l)
      goes c to-do l t u h w = behind-turn (skip_left d l) (skip_behind l w)
      goes c (in_flight v) l t u h w = behind-turn (skip_left d l) (skip_behind l w)
      goes c was_done l t u h w = t≠f u
      goes c was_skipped l t u h w = t≠f u
      goes c was_held l t u h w = t≠f u
      goes c was_not_held l t u h w = t≠f u

  skip_after : (e : ℕ) (l : List Step) (v : ℤ) → after_steps e (skip_left d l) v ≡ after_steps e l v
  skip_after e =
      by_skip d (λ l m. (v : ℤ) → after_steps e m v ≡ after_steps e l v) (λ v. refl) (λ c s l t h v. h _)
      (λ c s l t u h v. ap (λ b. after_steps e (skip_left d l) (if b then c.setting else v)) (unpassed e is_done (step c was_skipped) refl)
      ∙ h v ∙ sym (ap (λ b. after_steps e l (if b then c.setting else v)) (unpassed e is_done (step c s) (undone s u))))
    where
      undone : (s : Status) → is_answered s ≡ false → is_done s ≡ false
      undone to-do e = refl
      undone (in_flight u) e = refl
      undone was_done e = t≠f e
      undone was_skipped e = t≠f e
      undone was_held e = t≠f e
      undone was_not_held e = t≠f e

  skip_asked : (e : ℕ) (l : List Step) → asked_on e (skip_left d l) ≡ asked_on e l
  skip_asked e =
      by_skip d (λ l m. asked_on e m ≡ asked_on e l) refl (λ c s l t h. ap (λ b. on e was_asked (step c s) || b) h)
      (λ c s l t u h. rw (unpassed e was_asked (step c was_skipped) refl, unpassed e was_asked (step c s) (unasked s u)) h)
    where
      unasked : (s : Status) → is_answered s ≡ false → was_asked s ≡ false
      unasked to-do e = refl
      unasked (in_flight u) e = refl
      unasked was_done e = t≠f e
      unasked was_skipped e = t≠f e
      unasked was_held e = t≠f e
      unasked was_not_held e = t≠f e

  skip_done : (l : List Step) → done_steps (skip_left d l) ≡ done_steps l
  skip_done =
      by_skip d (λ l m. done_steps m ≡ done_steps l) refl (λ c s l t h. ap (λ m. if is_done s then c ∷ m else m) h) goes
    where
      goes : (c : Command) (s : Status) (l : List Step) → c.device ≡ d → is_answered s ≡ false → done_steps (skip_left d l) ≡ done_steps l →
          done_steps (skip_left d l) ≡ done_steps (step c s ∷ l)
      goes c to-do l t u h = h
      goes c (in_flight v) l t u h = h
      goes c was_done l t u h = t≠f u
      goes c was_skipped l t u h = t≠f u
      goes c was_held l t u h = t≠f u
      goes c was_not_held l t u h = t≠f u

  pub skip-left : (l : List Step) → left_steps (skip_left d l) ≡ not_on d (left_steps l)
  skip-left =
      by_skip d (λ l m. left_steps m ≡ not_on d (left_steps l)) refl stays
      (λ c s l t u h. rw u (rw (eq-eqb c.device d t) h))
    where
      stays : (c : Command) (s : Status) (l : List Step) → (eqb c.device d && is_open s) ≡ false →
          left_steps (skip_left d l) ≡ not_on d (left_steps l) →
          left_steps (step c s ∷ skip_left d l) ≡ not_on d (left_steps (step c s ∷ l))
      stays c to-do l t h = rw (sym (and-true (eqb c.device d)) ∙ t) (ap (λ m. c ∷ m) h)
      stays c (in_flight u) l t h = rw (sym (and-true (eqb c.device d)) ∙ t) (ap (λ m. c ∷ m) h)
      stays c was_done l t h = h
      stays c was_skipped l t h = h
      stays c was_held l t h = h
      stays c was_not_held l t h = h

  -- the command in flight, if it is on another device, stays in flight
  skip_flight_was : (x : Flight) (l : List Step) → InTurn l → flight (skip_left d l) ≡ Some x →
      (flight l ≡ Some x) × (x.command.device ≢ d)
  skip_flight_was x =
      by_skip d (λ l m. InTurn l → flight m ≡ Some x → (flight l ≡ Some x) × (x.command.device ≢ d))
      (λ w e. absurd (none-ne-some x e)) stays goes
    where
      none-behind : (l : List Step) → AllBehind l → flight (skip_left d l) ≡ None
      none-behind l w = behind_over flight (λ b l. refl) (λ b l. refl) (skip_left d l) (skip_behind l w)

      stays : (c : Command) (s : Status) (l : List Step) → (eqb c.device d && is_open s) ≡ false →
          (InTurn l → flight (skip_left d l) ≡ Some x → (flight l ≡ Some x) × (x.command.device ≢ d)) →
          InTurnAt s l (InTurn l) → flight (step c s ∷ skip_left d l) ≡ Some x →
          (flight (step c s ∷ l) ≡ Some x) × (x.command.device ≢ d)
      stays c to-do l t h w e = absurd (none-ne-some x (sym (none-behind l w) ∙ e))
      stays c (in_flight u) l t h w e =
          let y : record { command = c; due_then = u } ≡ x = some-injective (record { command = c; due_then = u }) x e in (
            e,
            λ z. t≠f (sym (eq-eqb c.device d (ap (λ (f : Flight). f.command.device) y ∙ z))
                ∙ sym (and-true (eqb c.device d)) ∙ t),
          )
      stays c was_done l t h w e = h w e
      stays c was_skipped l t h w e = h w e
      stays c was_held l t h w e = h w e
      stays c was_not_held l t h w e = h w e

      goes : (c : Command) (s : Status) (l : List Step) → c.device ≡ d → is_answered s ≡ false →
          (InTurn l → flight (skip_left d l) ≡ Some x → (flight l ≡ Some x) × (x.command.device ≢ d)) →
          InTurnAt s l (InTurn l) → flight (skip_left d l) ≡ Some x →
          (flight (step c s ∷ l) ≡ Some x) × (x.command.device ≢ d)
      goes c to-do l t u h w e = absurd (none-ne-some x (sym (none-behind l w) ∙ e))
      goes c (in_flight v) l t u h w e = absurd (none-ne-some x (sym (none-behind l w) ∙ e))
      goes c was_done l t u h w e = t≠f u
      goes c was_skipped l t u h w e = t≠f u
      goes c was_held l t u h w e = t≠f u
      goes c was_not_held l t u h w e = t≠f u

  skip_flight_stays : (x : Flight) (l : List Step) → flight l ≡ Some x → x.command.device ≢ d → flight (skip_left d l) ≡ Some x
  skip_flight_stays x =
      by_skip d (λ l m. flight l ≡ Some x → x.command.device ≢ d → flight m ≡ Some x) (λ e n. e) stays goes
    where
      stays : (c : Command) (s : Status) (l : List Step) → (eqb c.device d && is_open s) ≡ false →
          (flight l ≡ Some x → x.command.device ≢ d → flight (skip_left d l) ≡ Some x) →
          flight (step c s ∷ l) ≡ Some x → x.command.device ≢ d → flight (step c s ∷ skip_left d l) ≡ Some x
      stays c to-do l t h e n = h e n
      stays c (in_flight u) l t h e n = e
      stays c was_done l t h e n = h e n
      stays c was_skipped l t h e n = h e n
      stays c was_held l t h e n = h e n
      stays c was_not_held l t h e n = h e n

      goes : (c : Command) (s : Status) (l : List Step) → c.device ≡ d → is_answered s ≡ false →
          (flight l ≡ Some x → x.command.device ≢ d → flight (skip_left d l) ≡ Some x) →
          flight (step c s ∷ l) ≡ Some x → x.command.device ≢ d → flight (skip_left d l) ≡ Some x
      goes c to-do l t u h e n = h e n
      goes c (in_flight v) l t u h e n =
          absurd (n (ap (λ (f : Flight). f.command.device) (sym (some-injective (record { command = c; due_then = v }) x e)) ∙ t))
      goes c was_done l t u h e n = t≠f u
      goes c was_skipped l t u h e n = t≠f u
      goes c was_held l t u h e n = t≠f u
      goes c was_not_held l t u h e n = t≠f u

pub skip_steps : (d : ℕ) (m : Member) → InTurn m.steps → LeftSkipped d m (with_steps m (skip_left d m.steps))
unfolding begun finished in_flight_on
skip_steps d m t = record {
  in-turn = skip-turn d l t;
  finishes_it = ap not (skip_closes d l);
  finishes = λ e f. ap not (skip_open d e l (not-true (any_of (on e is_open) l) f));
  same-begun = λ b e. this_or_other (λ e. any_of (on e is_begun) (skip_left d l) ≡ any_of (on e is_begun) l) d e
      (skip_own d is_begun refl l b ∙ sym b) (λ n. skip_other d is_begun e n l);
  other_flies = λ e n. skip_other d is_in_flight e n l;
  flight_was = λ x. skip_flight_was d x l t;
  flight_stays = λ x. skip_flight_stays d x l;
  same_after = λ e. skip_after d e l;
  same-done = skip_done d l;
  left_is = skip-left d l;
  same_asked = λ e. skip_asked d e l;
}
  where
    l : List Step
    l = m.steps

-- ---- the command in flight, behind its condition

-- one that is sent is skipped if it was before
pub sent-skipped : (u : ℤ) (before : Bool) (l : List Step) → flight l ≡ None → next_is_skipped before l ≡ false →
    flight_is_skipped before (advance (in_flight u) l) ≡ false
sent-skipped u before l =
    by_status (λ l. (before : Bool) → flight l ≡ None → next_is_skipped before l ≡ false →
    flight_is_skipped before (advance (in_flight u) l) ≡ false) (λ b f e. refl) (λ c l h b f e. e)
    (λ c v l h b f. absurd (some-ne-none (record { command = c; due_then = v }) f)) (λ c l h b. h _) (λ c l h b. h _)
    (λ c l h b. h _) (λ c l h b. h _) l before

none-skipped : (l : List Step) (before : Bool) → flight l ≡ None → flight_is_skipped before l ≡ false
none-skipped =
    by_status (λ l. (before : Bool) → flight l ≡ None → flight_is_skipped before l ≡ false) (λ b f. refl) (λ c l h b. h _)
    (λ c v l h b f. absurd (some-ne-none (record { command = c; due_then = v }) f)) (λ c l h b. h _) (λ c l h b. h _)
    (λ c l h b. h _) (λ c l h b. h _)

pub grounded_skipped : (l : List Step) → flight l ≡ None → flight_is_skipped false l ≡ false
grounded_skipped l = none-skipped l false

-- an event of d skips what is left; what stands ahead of the command in flight is answered
pub left_skipped : (d : ℕ) (l : List Step) → InTurn l → (before : Bool) → flight_is_skipped before l ≡ false →
    flight_is_skipped before (skip_left d l) ≡ false
left_skipped d = by_skip d (λ l m. InTurn l → (before : Bool) → flight_is_skipped before l ≡ false → flight_is_skipped before m ≡ false)
    (λ t b e. refl) stays goes
  where
    stays : (c : Command) (s : Status) (l : List Step) → (eqb c.device d && is_open s) ≡ false →
        (InTurn l → (before : Bool) → flight_is_skipped before l ≡ false → flight_is_skipped before (skip_left d l) ≡ false) →
        InTurnAt s l (InTurn l) → (before : Bool) → flight_is_skipped before (step c s ∷ l) ≡ false →
        flight_is_skipped before (step c s ∷ skip_left d l) ≡ false
    stays c to-do l t h w b e = h (behind-turn l w) _ e
    stays c (in_flight u) l t h w b e = e
    stays c was_done l t h w b e = h w _ e
    stays c was_skipped l t h w b e = h w _ e
    stays c was_held l t h w b e = h w _ e
    stays c was_not_held l t h w b e = h w _ e

    goes : (c : Command) (s : Status) (l : List Step) → c.device ≡ d → is_answered s ≡ false →
        (InTurn l → (before : Bool) → flight_is_skipped before l ≡ false → flight_is_skipped before (skip_left d l) ≡ false) →
        InTurnAt s l (InTurn l) → (before : Bool) → flight_is_skipped before (step c s ∷ l) ≡ false →
        flight_is_skipped before (step c was_skipped ∷ skip_left d l) ≡ false
    goes c to-do l t u h w b e = none-skipped (skip_left d l) _ (behind_grounded (skip_left d l) (skip_behind d l w))
    goes c (in_flight v) l t u h w b e = none-skipped (skip_left d l) _ (behind_grounded (skip_left d l) (skip_behind d l w))
    goes c was_done l t u h w b e = t≠f u
    goes c was_skipped l t u h w b e = t≠f u
    goes c was_held l t u h w b e = t≠f u
    goes c was_not_held l t u h w b e = t≠f u

-- ---- a newcomer

pub record Fresh (cs : List Command) (m : Member) : Type 0 where
  pub in-turn : InTurn m.steps
  pub unbegun : (d : ℕ) → begun d m ≡ false
  pub flight_is : flight m.steps ≡ None
  pub done-is : done_steps m.steps ≡ []
  pub left_is : left_steps m.steps ≡ cs

pub fresh-newcomer : (i : ℕ) (cs : List Command) → Fresh cs (newcomer i cs)
unfolding newcomer begun
fresh-newcomer i cs = record {
  in-turn = behind-turn (map step_of cs) (new-behind cs);
  unbegun = unbegun_new cs;
  flight_is = behind_over flight (λ c l. refl) (λ c l. refl) (map step_of cs) (new-behind cs);
  done-is = behind_over done_steps (λ c l. refl) (λ c l. refl) (map step_of cs) (new-behind cs);
  left_is = all_left cs;
}
  where
    unbegun_new : (cs : List Command) (d : ℕ) → any_of (on d is_begun) (map step_of cs) ≡ false
    unbegun_new [] d = refl
    unbegun_new (c ∷ cs) d = rw (unpassed d is_begun (step_of c) refl) (unbegun_new cs d)

    all_left : (cs : List Command) → left_steps (map step_of cs) ≡ cs
    all_left [] = refl
    all_left (c ∷ cs) = ap (λ l. c ∷ l) (all_left cs)
