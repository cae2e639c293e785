-- The grounds of a routine's commands that no event behind it gives: whether its device is up, the condition before it, the tag that
-- counts. Every change of its commands keeps them. Assumes nothing.
use Rattle.rules_routine.proofs.Options.{none-ne-some, some-ne-none, some-injective}
use Rattle.std.proofs.Common.{None, Some}
use mathlib.Core.Path.{◌≡◌, refl, sym, ap, ap₂, ◌∙◌, subst}
use mathlib.Core.Logic.{◌≢◌, ◌⊎◌, inl, inr}
use mathlib.Core.Bool.{Bool, true, false, cond, not, ◌&&◌, ◌||◌, and-true, and-false}
use mathlib.Core.List.{List, [], ◌∷◌, map}
use Prim.Native.Nat.{ℕ}
use borrow.Author.Tests.{eqb-false}
use Rattle.std.specs.Prelude.{if◌then◌else◌}
use Rattle.rules_routine.specs.Routine.{is_condition}
use Rattle.rules_routine.specs.declared.Command.{Command}
use Rattle.rules.specs.Tables.{any_of}
use Rattle.rules.specs.State.{Step}
use Rattle.rules.specs.Progress.{next, counts_as_must, next_counts_as_must, next_is_skipped, Flight, flight}
use Rattle.rules.specs.Events.{must_among}
use Rattle.rules.specs.History.{Outcome, not_yet, reported_done, reported_failed, not_sent, by_event, found_held, found_not_held}
use Rattle.rules.specs.History.{is_left, Noted, noted_as, note_first, is_for, note_left}
use Rattle.rules.specs.Demand3.{skips_following}
use Rattle.rules.specs.HubOrder.{agree_to_do, agree_in_flight, agree_done, agree_failed, agree_not_sent, agree_by_event, agree_held, agree_not_held}
use Rattle.rules.specs.HubOrder.{AllAgree, no_command, one_more}
use Rattle.rules.proofs.Lists.{by_if, t≠f, or_left, or_right, and_right}
use Rattle.rules_promises.proofs.Steps.{InTurn, flight_is_skipped, behind_grounded}
use Rattle.rules_promises.proofs.Agree.{answered_for, left_for, agree_commands}

-- is the device up; does the condition before it skip it; is the tag that counts must
abbrev pub FindsUp : Bool → Bool → Bool → Outcome → Type 0
FindsUp isUp skipping must not_yet = Unit {0}
FindsUp isUp skipping must reported_done = isUp ≡ true
FindsUp isUp skipping must reported_failed = Unit {0}
FindsUp isUp skipping must not_sent = (skipping ≡ true) ⊎ ((isUp ≡ false) × (must ≡ false))
FindsUp isUp skipping must by_event = must ≡ false
FindsUp isUp skipping must found_held = isUp ≡ true
FindsUp isUp skipping must found_not_held = isUp ≡ true

abbrev pub names_of : List Noted → List Command
names_of = map (λ (x : Noted). x.command)

-- `u`: is the device up? `skipping`: does the command before these skip the first of them?
abbrev pub Fit : (ℕ → Bool) → Bool → List Noted → Type 0
Fit u skipping [] = Unit {0}
Fit u skipping (x ∷ l) =
    FindsUp (u x.command.device) skipping (counts_as_must x.command (names_of l)) x.outcome × Fit u (skips_following x) l

-- ---- what the grounds look at

-- one that is not skipped by a condition has its ground whatever stands before it
finds_more : (isUp skipping must : Bool) (o : Outcome) → FindsUp isUp false must o → FindsUp isUp skipping must o
finds_more isUp skipping must not_yet h = tt
finds_more isUp skipping must reported_done h = h
finds_more isUp skipping must reported_failed h = tt
finds_more isUp skipping must not_sent (inl e) = t≠f (sym e)
finds_more isUp skipping must not_sent (inr e) = inr e
finds_more isUp skipping must by_event h = h
finds_more isUp skipping must found_held h = h
finds_more isUp skipping must found_not_held h = h

fit_more : (u : ℕ → Bool) (skipping : Bool) (l : List Noted) → Fit u false l → Fit u skipping l
fit_more u skipping [] h = tt
fit_more u skipping (x ∷ l) h = (finds_more (u x.command.device) skipping _ x.outcome h.0, h.1)

-- a command that is left has no ground
finds_same : (a b skipping must : Bool) (o : Outcome) → (is_left o ≡ false → a ≡ b) → FindsUp a skipping must o → FindsUp b skipping must o
finds_same a b skipping must not_yet e h = tt
finds_same a b skipping must reported_done e h = sym (e refl) ∙ h
finds_same a b skipping must reported_failed e h = tt
finds_same a b skipping must not_sent e (inl h) = inl h
finds_same a b skipping must not_sent e (inr h) = inr (sym (e refl) ∙ h.0, h.1)
finds_same a b skipping must by_event e h = h
finds_same a b skipping must found_held e h = sym (e refl) ∙ h
finds_same a b skipping must found_not_held e h = sym (e refl) ∙ h

-- two tables that differ at d alone, on which no command is answered
pub fit_spared : (d : ℕ) (u w : ℕ → Bool) → ((x : ℕ) → x ≢ d → u x ≡ w x) → (skipping : Bool) (l : List Noted) →
    any_of (answered_for d) l ≡ false → Fit u skipping l → Fit w skipping l
fit_spared d u w e skipping [] n h = tt
fit_spared d u w e skipping (x ∷ l) n h = (
  finds_same (u x.command.device) (w x.command.device) skipping _ x.outcome
      (λ k. e x.command.device (eqb-false x.command.device d (other k))) h.0,
  fit_spared d u w e (skips_following x) l (or_right (answered_for d x) (any_of (answered_for d) l) n) h.1,
)
  where
    other : is_left x.outcome ≡ false → is_for d x.command ≡ false
    other k =
        sym (and-true (is_for d x.command)) ∙ ap (λ b. is_for d x.command && not b) (sym k)
        ∙ or_left (answered_for d x) (any_of (answered_for d) l) n

pub fit_new : (u : ℕ → Bool) (skipping : Bool) (cs : List Command) → Fit u skipping (map (noted_as not_yet) cs)
fit_new u skipping [] = tt
fit_new u skipping (c ∷ cs) = (tt, fit_more u _ (map (noted_as not_yet) cs) (fit_new u false cs))

-- one that is left skips nothing
left_skips_none : (x : Noted) → is_left x.outcome ≡ true → skips_following x ≡ false
left_skips_none x = go x.outcome
  where
    go : (o : Outcome) → is_left o ≡ true → skips_following (noted_as o x.command) ≡ false
    go not_yet e = and-false (is_condition x.command)
    go reported_done e = t≠f (sym e)
    go reported_failed e = t≠f (sym e)
    go not_sent e = t≠f (sym e)
    go by_event e = t≠f (sym e)
    go found_held e = t≠f (sym e)
    go found_not_held e = t≠f (sym e)

-- ---- the first command that is left is answered

-- what is said of it, of whether the condition before it skips it, and of the tag that counts
abbrev pub AtFirst : (Command → Bool → Bool → Type 0) → Bool → List Noted → Type 0
AtFirst P skipping [] = Unit {0}
AtFirst P skipping (x ∷ l) =
    cond (is_left x.outcome) (P x.command skipping (counts_as_must x.command (names_of l))) (AtFirst P (skips_following x) l)

names_first : (o : Outcome) (l : List Noted) → names_of (note_first o l) ≡ names_of l
names_first o [] = refl
names_first o (x ∷ l) =
    by_if (λ k. names_of k ≡ names_of (x ∷ l)) (is_left x.outcome) (λ _. refl) (λ _. ap (λ k. x.command ∷ k) (names_first o l))

fit_first : (u : ℕ → Bool) (o : Outcome) (skipping : Bool) (l : List Noted) → Fit u skipping l →
    AtFirst (λ c skipping must. FindsUp (u c.device) skipping must o) skipping l → Fit u skipping (note_first o l)
fit_first u o skipping [] h k = tt
fit_first u o skipping (x ∷ l) h k = go (fit_first u o (skips_following x) l h.1) (is_left x.outcome) refl k
  where
    Rest : Type 0
    Rest = AtFirst (λ c skipping must. FindsUp (u c.device) skipping must o) (skips_following x) l

    go : (Rest → Fit u (skips_following x) (note_first o l)) → (b : Bool) → is_left x.outcome ≡ b →
        cond b (FindsUp (u x.command.device) skipping (counts_as_must x.command (names_of l)) o) Rest →
        Fit u skipping (if b then noted_as o x.command ∷ l else x ∷ note_first o l)
    go ih true e k = (k, fit_more u _ l (subst (λ b. Fit u b l) (left_skips_none x e) h.1))
    go ih false e k = (
      subst (λ cs. FindsUp (u x.command.device) skipping (counts_as_must x.command cs) x.outcome) (sym (names_first o l)) h.0,
      ih k,
    )

-- it is the next, or the one in flight
module _ (P : Command → Bool → Bool → Type 0) where
  pub at_next : (skipping : Bool) (c : Command) {l : List Noted} {k : List Step} → AllAgree l k → flight k ≡ None → next k ≡ Some c →
      P c (next_is_skipped skipping k) (next_counts_as_must k) → AtFirst P skipping l
  at_next skipping c no_command f e p = tt
  at_next skipping c (one_more b {l = l} agree_to_do h) f e p =
      subst (λ x. P x skipping (counts_as_must b (names_of l))) (sym (some-injective b c e))
      (subst (λ cs. P c skipping (counts_as_must b cs)) (sym (agree_commands h)) p)
  at_next skipping c (one_more b agree_in_flight h) f e p = absurd (some-ne-none _ f)
  at_next skipping c (one_more b agree_done h) f e p = at_next (is_condition b && false) c h f e p
  at_next skipping c (one_more b agree_failed h) f e p = at_next (is_condition b && true) c h f e p
  at_next skipping c (one_more b agree_not_sent h) f e p = at_next (is_condition b && true) c h f e p
  at_next skipping c (one_more b agree_by_event h) f e p = at_next (is_condition b && true) c h f e p
  at_next skipping c (one_more b agree_held h) f e p = at_next (is_condition b && false) c h f e p
  at_next skipping c (one_more b agree_not_held h) f e p = at_next (is_condition b && true) c h f e p

  pub at_flight : (skipping : Bool) (x : Flight) {l : List Noted} {k : List Step} → AllAgree l k → InTurn k → flight k ≡ Some x →
      ((must : Bool) → P x.command (flight_is_skipped skipping k) must) → AtFirst P skipping l
  at_flight skipping x no_command t f p = tt
  at_flight skipping x (one_more b {k = k} agree_to_do h) t f p = absurd (none-ne-some x (sym (behind_grounded k t) ∙ f))
  at_flight skipping x (one_more b {l = l} agree_in_flight h) t f p =
      subst (λ (y : Flight). P y.command skipping (counts_as_must b (names_of l))) (sym (some-injective _ x f)) (p _)
  at_flight skipping x (one_more b agree_done h) t f p = at_flight (is_condition b && false) x h t f p
  at_flight skipping x (one_more b agree_failed h) t f p = at_flight (is_condition b && true) x h t f p
  at_flight skipping x (one_more b agree_not_sent h) t f p = at_flight (is_condition b && true) x h t f p
  at_flight skipping x (one_more b agree_by_event h) t f p = at_flight (is_condition b && true) x h t f p
  at_flight skipping x (one_more b agree_held h) t f p = at_flight (is_condition b && false) x h t f p
  at_flight skipping x (one_more b agree_not_held h) t f p = at_flight (is_condition b && true) x h t f p

pub fit_next : (u : ℕ → Bool) (o : Outcome) (c : Command) {l : List Noted} {k : List Step} → AllAgree l k → flight k ≡ None →
    next k ≡ Some c → FindsUp (u c.device) (next_is_skipped false k) (next_counts_as_must k) o → Fit u false l → Fit u false (note_first o l)
fit_next u o c {l = l} a f e p h =
    fit_first u o false l h (at_next (λ c skipping must. FindsUp (u c.device) skipping must o) false c a f e p)

pub fit_flight : (u : ℕ → Bool) (o : Outcome) (x : Flight) {l : List Noted} {k : List Step} → AllAgree l k → InTurn k →
    flight k ≡ Some x → ((skipping must : Bool) → FindsUp (u x.command.device) skipping must o) → Fit u false l →
    Fit u false (note_first o l)
fit_flight u o x {l = l} a t f p h =
    fit_first u o false l h (at_flight (λ c skipping must. FindsUp (u c.device) skipping must o) false x a t f (p _))

-- ---- an event of d skips what is left on it

-- a must left on d, by the account
abbrev must_noted : ℕ → List Noted → Bool
must_noted d [] = false
must_noted d (x ∷ l) = (left_for d x && counts_as_must x.command (names_of l)) || must_noted d l

must-noted : (d : ℕ) {l : List Noted} {k : List Step} → AllAgree l k → must_noted d l ≡ must_among d k
must-noted d no_command = refl
must-noted d (one_more c agree_to_do h) =
    ap₂ (λ cs b. ((is_for d c && true) && counts_as_must c cs) || b) (agree_commands h) (must-noted d h)
must-noted d (one_more c agree_in_flight h) =
    ap₂ (λ cs b. ((is_for d c && true) && counts_as_must c cs) || b) (agree_commands h) (must-noted d h)
must-noted d (one_more c agree_done h) =
    ap₂ (λ cs b. ((is_for d c && false) && counts_as_must c cs) || b) (agree_commands h) (must-noted d h)
must-noted d (one_more c agree_failed h) =
    ap₂ (λ cs b. ((is_for d c && false) && counts_as_must c cs) || b) (agree_commands h) (must-noted d h)
must-noted d (one_more c agree_not_sent h) =
    ap₂ (λ cs b. ((is_for d c && false) && counts_as_must c cs) || b) (agree_commands h) (must-noted d h)
must-noted d (one_more c agree_by_event h) =
    ap₂ (λ cs b. ((is_for d c && false) && counts_as_must c cs) || b) (agree_commands h) (must-noted d h)
must-noted d (one_more c agree_held h) =
    ap₂ (λ cs b. ((is_for d c && false) && counts_as_must c cs) || b) (agree_commands h) (must-noted d h)
must-noted d (one_more c agree_not_held h) =
    ap₂ (λ cs b. ((is_for d c && false) && counts_as_must c cs) || b) (agree_commands h) (must-noted d h)

names_left : (d : ℕ) (l : List Noted) → names_of (note_left d l) ≡ names_of l
names_left d [] = refl
names_left d (x ∷ l) =
    ap₂ (λ c k. c ∷ k) (by_if (λ (y : Noted). y.command ≡ x.command) (left_for d x) (λ _. refl) (λ _. refl)) (names_left d l)

left_fit : (u : ℕ → Bool) (d : ℕ) (skipping : Bool) (l : List Noted) → must_noted d l ≡ false → Fit u skipping l →
    Fit u skipping (note_left d l)
left_fit u d skipping [] m h = tt
left_fit u d skipping (x ∷ l) m h =
    subst (λ cs. FindsUp (u (y (left_for d x)).command.device) skipping (counts_as_must (y (left_for d x)).command cs)
    (y (left_for d x)).outcome × Fit u (skips_following (y (left_for d x))) (note_left d l)) (sym (names_left d l))
    (go (λ b. left_fit u d b l rest) (left_for d x) refl)
  where
    y : Bool → Noted
    y b = if b then noted_as by_event x.command else x

    here : (left_for d x && counts_as_must x.command (names_of l)) ≡ false
    here = or_left (left_for d x && counts_as_must x.command (names_of l)) (must_noted d l) m

    rest : must_noted d l ≡ false
    rest = or_right (left_for d x && counts_as_must x.command (names_of l)) (must_noted d l) m

    go : ((b : Bool) → Fit u b l → Fit u b (note_left d l)) → (b : Bool) → left_for d x ≡ b →
        FindsUp (u (y b).command.device) skipping (counts_as_must (y b).command (names_of l)) (y b).outcome
        × Fit u (skips_following (y b)) (note_left d l)
    go ih true e = (
      ap (λ b. b && counts_as_must x.command (names_of l)) (sym e) ∙ here,
      ih _
          (fit_more u _ l (subst (λ b. Fit u b l) (left_skips_none x (and_right (is_for d x.command) (is_left x.outcome) e)) h.1)),
    )
    go ih false e = (h.0, ih (skips_following x) h.1)

pub fit_left : (u : ℕ → Bool) (d : ℕ) {l : List Noted} {k : List Step} → AllAgree l k → must_among d k ≡ false → Fit u false l →
    Fit u false (note_left d l)
fit_left u d {l = l} a m = left_fit u d false l (must-noted d a ∙ m)
