-- The commands of a routine, of which the first so many are answered: what the tests along them come to, and what a changed status keeps.
-- Assumes nothing.
use Rattle.std.proofs.Common.{Option, None, Some}
use mathlib.Core.Path.{◌≡◌, refl, sym, ap, ◌∙◌}
use mathlib.Core.Bool.{Bool, true, false, not, ◌&&◌, and-true, and-false, or-false}
use mathlib.Core.List.{List, [], ◌∷◌, map}
use Prim.Native.Nat.{ℕ, zero, suc, ◌≤◌, ◌<◌}
use native.Mathlib.Omega.{arith}
use lib.Dec.{eqb}
use lib.IntN.{ℤ}
use lib.ListN.{length, take, drop, get_or}
use Rattle.rules_routine.specs.declared.Command.{Command}
use Rattle.rules.specs.State.{Status, to-do, in_flight, was_done, was_skipped, was_held, was_not_held, Step}
use Rattle.rules.specs.Tables.{any_of, Each}
use Rattle.rules.specs.Progress.{is_on, is_to_do, is_in_flight, is_done, is_answered, next, commands_in, counts_as_must, next_counts_as_must, skips_next}
use Rattle.rules.specs.Progress.{next_is_skipped, Flight, flight_or, flight, advance, answer_flight}
use Rattle.rules.specs.Due.{after_steps}
use Rattle.rules.specs.Submit.{step_of}
use Rattle.rules.proofs.Lists.{t≠f}
use Rattle.hub_state.specs.Valid.{CommandsOk, StepOk, is_behind, IsBehind, AnsweredUpTo}
use Rattle.hub_state.specs.Contract.{set_status}

-- the tests of `begun` and `in_flight_on`
abbrev pub begins : ℕ → Step → Bool
begins d x = is_on d x && not (is_to_do x.status)

abbrev pub flies : ℕ → Step → Bool
flies d x = is_on d x && is_in_flight x.status

-- ---- a changed status

-- the devices stay
pub each_set_status : (i : ℕ) (st : Status) (l : List Step) → Each StepOk l → Each StepOk (set_status i st l)
each_set_status i st [] h = h
each_set_status zero st (x ∷ l) h = h
each_set_status (suc i) st (x ∷ l) h = (h.0, each_set_status i st l h.1)

-- ---- lists

-- what holds of each holds at an index
pub each_at : {A : Type 0} (P : A → Type 0) (l : List A) (i : ℕ) (z : A) → i < length l → Each P l → P (get_or l i z)
each_at P [] i z h k = absurd (omega (arith, h))
each_at P (x ∷ l) zero z h k = k.0
each_at P (x ∷ l) (suc i) z h k = each_at P l i z (omega arith) k.1

same_first : (x y : Step) (l m : List Step) → x ∷ l ≡ y ∷ m → x ≡ y
same_first x y l m e = cc

not_none : {A : Type 0} {C : Type 0} (x : A) → None ≡ Some x → C
not_none x e = let z : ◌≡◌ {A = ℕ} 0 1 = cc in absurd (omega arith)

no_steps : {C : Type 0} (x : Step) (l : List Step) → [] ≡ x ∷ l → C
no_steps x l e = let z : ◌≡◌ {A = ℕ} 0 1 = cc in absurd (omega arith)

abbrev command_or : Command → Option Flight → Command
command_or c None = c
command_or c (Some f) = f.command

-- ---- one status

pub answered-is : (st : Status) → is_answered st ≡ true → (is_to_do st ≡ false) × (is_in_flight st ≡ false)
answered-is to-do e = t≠f (sym e)
answered-is (in_flight u) e = t≠f (sym e)
answered-is was_done e = (refl, refl)
answered-is was_skipped e = (refl, refl)
answered-is was_held e = (refl, refl)
answered-is was_not_held e = (refl, refl)

pub to_do_is : (st : Status) → is_to_do st ≡ true → (is_answered st ≡ false) × (is_in_flight st ≡ false)
to_do_is to-do e = (refl, refl)
to_do_is (in_flight u) e = t≠f (sym e)
to_do_is was_done e = t≠f (sym e)
to_do_is was_skipped e = t≠f (sym e)
to_do_is was_held e = t≠f (sym e)
to_do_is was_not_held e = t≠f (sym e)

pub behind-is : (st : Status) → is_behind st ≡ true → (is_in_flight st ≡ false) × (is_done st ≡ false)
behind-is to-do e = (refl, refl)
behind-is (in_flight u) e = t≠f (sym e)
behind-is was_done e = t≠f (sym e)
behind-is was_skipped e = (refl, refl)
behind-is was_held e = t≠f (sym e)
behind-is was_not_held e = t≠f (sym e)

open_not-done : (st : Status) → is_answered st ≡ false → is_done st ≡ false
open_not-done to-do e = refl
open_not-done (in_flight u) e = refl
open_not-done was_done e = t≠f e
open_not-done was_skipped e = t≠f e
open_not-done was_held e = refl
open_not-done was_not_held e = refl

open_to_do : (st : Status) → is_answered st ≡ false → is_in_flight st ≡ false → is_to_do st ≡ true
open_to_do to-do e f = refl
open_to_do (in_flight u) e f = t≠f f
open_to_do was_done e f = t≠f e
open_to_do was_skipped e f = t≠f e
open_to_do was_held e f = t≠f e
open_to_do was_not_held e f = t≠f e

-- a step that is not in flight adds no flight
flight-past : (x : Step) (st : Status) (other : Option Flight) → is_in_flight st ≡ false → flight_or x st other ≡ other
flight-past x to-do other e = refl
flight-past x (in_flight u) other e = t≠f e
flight-past x was_done other e = refl
flight-past x was_skipped other e = refl
flight-past x was_held other e = refl
flight-past x was_not_held other e = refl

-- there is no flight: this is none, nor is one behind it
pub flight-not : (x : Step) (st : Status) (other : Option Flight) → flight_or x st other ≡ None → (is_in_flight st ≡ false) × (other ≡ None)
flight-not x to-do other e = (refl, e)
flight-not x (in_flight u) other e = not_none _ (sym e)
flight-not x was_done other e = (refl, e)
flight-not x was_skipped other e = (refl, e)
flight-not x was_held other e = (refl, e)
flight-not x was_not_held other e = (refl, e)

-- there is one, and not behind this
flight_this : (x : Step) (st : Status) (other : Option Flight) (f : Flight) → other ≡ None → flight_or x st other ≡ Some f →
    (is_to_do st ≡ false) × (is_in_flight st ≡ true) × (x.command ≡ f.command)
flight_this x to-do other f n e = not_none f (sym n ∙ e)
flight_this x (in_flight u) other f n e = let c : x.command ≡ f.command = flown x.command u f e in (refl, refl, c)
  where
    flown : (c : Command) (u : ℤ) (f : Flight) → Some (record { command = c; due_then = u }) ≡ Some f → c ≡ f.command
    flown c u f e = ap (λ (o : Option Flight). command_or c o) e
flight_this x was_done other f n e = not_none f (sym n ∙ e)
flight_this x was_skipped other f n e = not_none f (sym n ∙ e)
flight_this x was_held other f n e = not_none f (sym n ∙ e)
flight_this x was_not_held other f n e = not_none f (sym n ∙ e)

-- ---- none is in flight or done

behind_flies : (d : ℕ) (l : List Step) → Each IsBehind l → any_of (flies d) l ≡ false
behind_flies d [] h = refl
behind_flies d (x ∷ l) h = rw ((behind-is x.status h.0).0, and-false (is_on d x)) (behind_flies d l h.1)

pub behind-flight : (l : List Step) → Each IsBehind l → flight l ≡ None
behind-flight [] h = refl
behind-flight (x ∷ l) h = flight-past x x.status (flight l) (behind-is x.status h.0).0 ∙ behind-flight l h.1

behind_after : (d : ℕ) (l : List Step) (v : ℤ) → Each IsBehind l → after_steps d l v ≡ v
behind_after d [] v h = refl
behind_after d (x ∷ l) v h = rw ((behind-is x.status h.0).1, and-false (is_on d x)) (behind_after d l v h.1)

-- ---- a newcomer

new-behind : (cs : List Command) → Each IsBehind (map step_of cs)
new-behind [] = tt
new-behind (c ∷ cs) = (refl, new-behind cs)

pub new_upto : (cs : List Command) → AnsweredUpTo 0 (map step_of cs)
new_upto [] = tt
new_upto (c ∷ cs) = (refl, new-behind cs)

pub new_fit : (cs : List Command) → CommandsOk cs → Each StepOk (map step_of cs)
new_fit [] h = tt
new_fit (c ∷ cs) h = (h.0, new_fit cs h.1)

-- ---- the first n are answered

pub upto_length : (n : ℕ) (l : List Step) → AnsweredUpTo n l → n ≤ length l
upto_length zero l a = omega arith
upto_length (suc n) [] a = absurd a
upto_length (suc n) (x ∷ l) a = let i = upto_length n l a.1 in omega arith

-- those that are done are among the first n
pub done_upto : (n : ℕ) (l : List Step) → AnsweredUpTo n l → (d : ℕ) (v : ℤ) → after_steps d l v ≡ after_steps d (take n l) v
done_upto zero [] a d v = refl
done_upto zero (x ∷ l) a d v = rw (open_not-done x.status a.0, and-false (is_on d x)) (behind_after d l v a.1)
done_upto (suc n) [] a d v = absurd a
done_upto (suc n) (x ∷ l) a d v = done_upto n l a.1 d _

-- the one in flight, if there is one
pub flights_none : (n : ℕ) (l : List Step) → AnsweredUpTo n l → flight l ≡ None → (d : ℕ) → any_of (flies d) l ≡ false
flights_none zero [] a e d = refl
flights_none zero (x ∷ l) a e d = rw ((flight-not x x.status (flight l) e).0, and-false (is_on d x)) (behind_flies d l a.1)
flights_none (suc n) [] a e d = absurd a
flights_none (suc n) (x ∷ l) a e d =
    let t = flight-not x x.status (flight l) e in rw (t.0, and-false (is_on d x)) (flights_none n l a.1 t.1 d)

pub flights_some : (n : ℕ) (l : List Step) → AnsweredUpTo n l → (f : Flight) → flight l ≡ Some f → (d : ℕ) →
    any_of (flies d) l ≡ eqb f.command.device d
flights_some zero [] a f e d = not_none f e
flights_some zero (x ∷ l) a f e d =
    let t = flight_this x x.status (flight l) f (behind-flight l a.1) e in
    rw (t.1, and-true (is_on d x), behind_flies d l a.1) (or-false (is_on d x)) ∙ ap (λ (c : Command). eqb c.device d) t.2
flights_some (suc n) [] a f e d = absurd a
flights_some (suc n) (x ∷ l) a f e d =
    let t = (answered-is x.status a.0).1 in
    rw (t, and-false (is_on d x)) (flights_some n l a.1 f (sym (flight-past x x.status (flight l) t) ∙ e) d)

-- ---- all are answered

pub flight_all : (n : ℕ) (l : List Step) → AnsweredUpTo n l → length l ≤ n → flight l ≡ None
flight_all zero [] a h = refl
flight_all zero (x ∷ l) a h = absurd (omega arith)
flight_all (suc n) [] a h = absurd a
flight_all (suc n) (x ∷ l) a h =
    flight-past x x.status (flight l) (answered-is x.status a.0).1 ∙ flight_all n l a.1 (omega arith)

pub next_all : (n : ℕ) (l : List Step) → AnsweredUpTo n l → length l ≤ n → next l ≡ None
next_all zero [] a h = refl
next_all zero (x ∷ l) a h = absurd (omega arith)
next_all (suc n) [] a h = absurd a
next_all (suc n) (x ∷ l) a h = rw (answered-is x.status a.0).0 (next_all n l a.1 (omega arith))

pub flights_all : (n : ℕ) (l : List Step) → AnsweredUpTo n l → length l ≤ n → (d : ℕ) → any_of (flies d) l ≡ false
flights_all n l a h d = flights_none n l a (flight_all n l a h) d

-- ---- the first that is not answered

pub flights_open : (n : ℕ) (l : List Step) → AnsweredUpTo n l → (x : Step) (r : List Step) → drop n l ≡ x ∷ r → (d : ℕ) →
    any_of (flies d) l ≡ flies d x
flights_open zero [] a x r e d = no_steps x r e
flights_open zero (y ∷ l) a x r e d = rw (behind_flies d l a.1) (or-false (flies d y)) ∙ ap (flies d) (same_first y x l r e)
flights_open (suc n) [] a x r e d = absurd a
flights_open (suc n) (y ∷ l) a x r e d = rw ((answered-is y.status a.0).1, and-false (is_on d y)) (flights_open n l a.1 x r e d)

-- it is to do
first_to_do : (y x : Step) → y ≡ x → is_answered y.status ≡ false → is_in_flight x.status ≡ false → is_to_do y.status ≡ true
first_to_do y x e a t = open_to_do y.status a (ap (λ (z : Step). is_in_flight z.status) e ∙ t)

pub flight_to_do : (n : ℕ) (l : List Step) → AnsweredUpTo n l → (x : Step) (r : List Step) → drop n l ≡ x ∷ r →
    is_in_flight x.status ≡ false → flight l ≡ None
flight_to_do zero [] a x r e t = no_steps x r e
flight_to_do zero (y ∷ l) a x r e t =
    flight-past y y.status (flight l) (to_do_is y.status (first_to_do y x (same_first y x l r e) a.0 t)).1
    ∙ behind-flight l a.1
flight_to_do (suc n) [] a x r e t = absurd a
flight_to_do (suc n) (y ∷ l) a x r e t =
    flight-past y y.status (flight l) (answered-is y.status a.0).1 ∙ flight_to_do n l a.1 x r e t

pub next_to_do : (n : ℕ) (l : List Step) → AnsweredUpTo n l → (x : Step) (r : List Step) → drop n l ≡ x ∷ r →
    is_in_flight x.status ≡ false → next l ≡ Some x.command
next_to_do zero [] a x r e t = no_steps x r e
next_to_do zero (y ∷ l) a x r e t =
    let i = same_first y x l r e in rw (first_to_do y x i a.0 t) (ap (λ (z : Step). Some z.command) i)
next_to_do (suc n) [] a x r e t = absurd a
next_to_do (suc n) (y ∷ l) a x r e t = rw (answered-is y.status a.0).0 (next_to_do n l a.1 x r e t)

pub advance_to_do : (n : ℕ) (l : List Step) → AnsweredUpTo n l → (x : Step) (r : List Step) → drop n l ≡ x ∷ r →
    is_in_flight x.status ≡ false → (st : Status) → advance st l ≡ set_status n st l
advance_to_do zero [] a x r e t st = no_steps x r e
advance_to_do zero (y ∷ l) a x r e t st = rw (first_to_do y x (same_first y x l r e) a.0 t)
advance_to_do (suc n) [] a x r e t st = absurd a
advance_to_do (suc n) (y ∷ l) a x r e t st =
    rw (answered-is y.status a.0).0 (ap (λ (m : List Step). y ∷ m) (advance_to_do n l a.1 x r e t st))

-- it is skipped if the one before it, the last that is answered, skips it
abbrev pub last_skips : Bool → List Step → Bool
last_skips before [] = before
last_skips before (x ∷ l) = last_skips (skips_next x) l

pub skipped_to_do : (before : Bool) (n : ℕ) (l : List Step) → AnsweredUpTo n l → (x : Step) (r : List Step) → drop n l ≡ x ∷ r →
    is_in_flight x.status ≡ false → next_is_skipped before l ≡ last_skips before (take n l)
skipped_to_do before zero [] a x r e t = no_steps x r e
skipped_to_do before zero (y ∷ l) a x r e t = rw (first_to_do y x (same_first y x l r e) a.0 t)
skipped_to_do before (suc n) [] a x r e t = absurd a
skipped_to_do before (suc n) (y ∷ l) a x r e t =
    rw (answered-is y.status a.0).0 (skipped_to_do (skips_next y) n l a.1 x r e t)

-- and counts with the commands behind it
pub must_to_do : (n : ℕ) (l : List Step) → AnsweredUpTo n l → (x : Step) (r : List Step) → drop n l ≡ x ∷ r →
    is_in_flight x.status ≡ false → next_counts_as_must l ≡ counts_as_must x.command (commands_in r)
must_to_do zero [] a x r e t = no_steps x r e
must_to_do zero (y ∷ l) a x r e t =
    rw (first_to_do y x (same_first y x l r e) a.0 t) (ap counts e)
  where
    counts : List Step → Bool
    counts [] = false
    counts (z ∷ m) = counts_as_must z.command (commands_in m)
must_to_do (suc n) [] a x r e t = absurd a
must_to_do (suc n) (y ∷ l) a x r e t = rw (answered-is y.status a.0).0 (must_to_do n l a.1 x r e t)

-- it is in flight
first-sent : (y x : Step) (u : ℤ) → y ≡ x → x.status ≡ in_flight u → y.status ≡ in_flight u
first-sent y x u e t = ap (λ (z : Step). z.status) e ∙ t

pub flight-sent : (n : ℕ) (l : List Step) → AnsweredUpTo n l → (x : Step) (r : List Step) → drop n l ≡ x ∷ r → (u : ℤ) →
    x.status ≡ in_flight u →
    flight l ≡ Some (record { command = x.command; due_then = u })
flight-sent zero [] a x r e u t = no_steps x r e
flight-sent zero (y ∷ l) a x r e u t =
    let i = same_first y x l r e in
    ap (λ (st : Status). flight_or y st (flight l)) (first-sent y x u i t)
    ∙ ap (λ (z : Step). Some (record { command = z.command; due_then = u })) i
flight-sent (suc n) [] a x r e u t = absurd a
flight-sent (suc n) (y ∷ l) a x r e u t =
    flight-past y y.status (flight l) (answered-is y.status a.0).1 ∙ flight-sent n l a.1 x r e u t

pub answer-sent : (n : ℕ) (l : List Step) → AnsweredUpTo n l → (x : Step) (r : List Step) → drop n l ≡ x ∷ r → (u : ℤ) →
    x.status ≡ in_flight u →
    (st : Status) → answer_flight st l ≡ set_status n st l
answer-sent zero [] a x r e u t st = no_steps x r e
answer-sent zero (y ∷ l) a x r e u t st =
    let i : is_in_flight y.status ≡ true = ap is_in_flight (first-sent y x u (same_first y x l r e) t) in rw i
answer-sent (suc n) [] a x r e u t st = absurd a
answer-sent (suc n) (y ∷ l) a x r e u t st =
    rw (answered-is y.status a.0).1 (ap (λ (m : List Step). y ∷ m) (answer-sent n l a.1 x r e u t st))

-- ---- it comes to another status

pub sent_stays : (n : ℕ) (l : List Step) → AnsweredUpTo n l → (st : Status) → is_answered st ≡ false → n < length l →
    AnsweredUpTo n (set_status n st l)
sent_stays zero [] a st t h = a
sent_stays zero (x ∷ l) a st t h = (t, a.1)
sent_stays (suc n) [] a st t h = absurd a
sent_stays (suc n) (x ∷ l) a st t h = (a.0, sent_stays n l a.1 st t (omega arith))
