-- What is told of a routine's commands is what the hub has of them: laws of that, and that every change of the commands keeps it. Assumes
-- nothing.
use Rattle.rules_routine.proofs.Options.{none-ne-some, some-ne-none}
use Rattle.std.proofs.Common.{None, Some}
use mathlib.Core.Path.{◌≡◌, refl, sym, ap, ◌∙◌}
use mathlib.Core.Bool.{Bool, true, false, not, ◌&&◌, ◌||◌}
use mathlib.Core.List.{List, [], ◌∷◌, map}
use Prim.Native.Nat.{ℕ}
use lib.IntN.{ℤ}
use Rattle.std.specs.Prelude.{if◌then◌else◌}
use Rattle.rules_routine.specs.declared.Command.{Command}
use Rattle.rules.specs.Tables.{any_of}
use Rattle.rules.specs.State.{Status, in_flight, was_skipped, Step}
use Rattle.rules.specs.Progress.{is_left_on, commands_in, Flight, flight, advance, answer_flight}
use Rattle.rules.specs.Submit.{step_of}
use Rattle.rules.specs.Events.{skip_left}
use Rattle.rules.specs.History.{Outcome, not_yet, by_event, is_left, Noted, noted_as, note_first, is_for, note_left}
use Rattle.rules.specs.Demand3.{done_ones}
use Rattle.rules.specs.HubOrder.{done_steps, Agree, agree_to_do, agree_in_flight, agree_done, agree_failed, agree_not_sent, agree_by_event, agree_held}
use Rattle.rules.specs.HubOrder.{agree_not_held, AllAgree, no_command, one_more}
use Rattle.rules_promises.proofs.Steps.{InTurn, answered_on, behind_grounded}

-- ---- of one command

-- answered on d, by the account
abbrev pub answered_for : ℕ → Noted → Bool
answered_for d x = is_for d x.command && not (is_left x.outcome)

-- left on d, by the account
abbrev pub left_for : ℕ → Noted → Bool
left_for d x = is_for d x.command && is_left x.outcome

-- ---- of all commands

pub agree-done : {l : List Noted} {k : List Step} → AllAgree l k → done_ones l ≡ done_steps k
agree-done no_command = refl
agree-done (one_more c agree_to_do h) = agree-done h
agree-done (one_more c agree_in_flight h) = agree-done h
agree-done (one_more c agree_done h) = ap (λ l. c ∷ l) (agree-done h)
agree-done (one_more c agree_failed h) = agree-done h
agree-done (one_more c agree_not_sent h) = agree-done h
agree-done (one_more c agree_by_event h) = agree-done h
agree-done (one_more c agree_held h) = agree-done h
agree-done (one_more c agree_not_held h) = agree-done h

pub agree_commands : {l : List Noted} {k : List Step} → AllAgree l k → map (λ (x : Noted). x.command) l ≡ commands_in k
agree_commands no_command = refl
agree_commands (one_more c q h) = ap (λ l. c ∷ l) (agree_commands h)

pub agree_answered : (d : ℕ) {l : List Noted} {k : List Step} → AllAgree l k → any_of (answered_for d) l ≡ answered_on d k
agree_answered d no_command = refl
agree_answered d (one_more c agree_to_do h) = ap (λ b. (is_for d c && false) || b) (agree_answered d h)
agree_answered d (one_more c agree_in_flight h) = ap (λ b. (is_for d c && false) || b) (agree_answered d h)
agree_answered d (one_more c agree_done h) = ap (λ b. (is_for d c && true) || b) (agree_answered d h)
agree_answered d (one_more c agree_failed h) = ap (λ b. (is_for d c && true) || b) (agree_answered d h)
agree_answered d (one_more c agree_not_sent h) = ap (λ b. (is_for d c && true) || b) (agree_answered d h)
agree_answered d (one_more c agree_by_event h) = ap (λ b. (is_for d c && true) || b) (agree_answered d h)
agree_answered d (one_more c agree_held h) = ap (λ b. (is_for d c && true) || b) (agree_answered d h)
agree_answered d (one_more c agree_not_held h) = ap (λ b. (is_for d c && true) || b) (agree_answered d h)

pub agree_left : (d : ℕ) {l : List Noted} {k : List Step} → AllAgree l k → any_of (left_for d) l ≡ any_of (is_left_on d) k
agree_left d no_command = refl
agree_left d (one_more c agree_to_do h) = ap (λ b. (is_for d c && true) || b) (agree_left d h)
agree_left d (one_more c agree_in_flight h) = ap (λ b. (is_for d c && true) || b) (agree_left d h)
agree_left d (one_more c agree_done h) = ap (λ b. (is_for d c && false) || b) (agree_left d h)
agree_left d (one_more c agree_failed h) = ap (λ b. (is_for d c && false) || b) (agree_left d h)
agree_left d (one_more c agree_not_sent h) = ap (λ b. (is_for d c && false) || b) (agree_left d h)
agree_left d (one_more c agree_by_event h) = ap (λ b. (is_for d c && false) || b) (agree_left d h)
agree_left d (one_more c agree_held h) = ap (λ b. (is_for d c && false) || b) (agree_left d h)
agree_left d (one_more c agree_not_held h) = ap (λ b. (is_for d c && false) || b) (agree_left d h)

-- ---- they change

pub agree_new : (cs : List Command) → AllAgree (map (noted_as not_yet) cs) (map step_of cs)
agree_new [] = no_command
agree_new (c ∷ cs) = one_more c agree_to_do (agree_new cs)

-- the next command comes to a status
pub agree_next : (o : Outcome) (s : Status) → Agree s o → {l : List Noted} {k : List Step} → AllAgree l k → flight k ≡ None →
    AllAgree (note_first o l) (advance s k)
agree_next o s q no_command f = no_command
agree_next o s q (one_more c agree_to_do h) f = one_more c q h
agree_next o s q (one_more c agree_in_flight h) f = absurd (some-ne-none _ f)
agree_next o s q (one_more c agree_done h) f = one_more c agree_done (agree_next o s q h f)
agree_next o s q (one_more c agree_failed h) f = one_more c agree_failed (agree_next o s q h f)
agree_next o s q (one_more c agree_not_sent h) f = one_more c agree_not_sent (agree_next o s q h f)
agree_next o s q (one_more c agree_by_event h) f = one_more c agree_by_event (agree_next o s q h f)
agree_next o s q (one_more c agree_held h) f = one_more c agree_held (agree_next o s q h f)
agree_next o s q (one_more c agree_not_held h) f = one_more c agree_not_held (agree_next o s q h f)

-- it is sent
pub agree_sent : (u : ℤ) {l : List Noted} {k : List Step} → AllAgree l k → AllAgree l (advance (in_flight u) k)
agree_sent u no_command = no_command
agree_sent u (one_more c agree_to_do h) = one_more c agree_in_flight h
agree_sent u (one_more c agree_in_flight h) = one_more c agree_in_flight (agree_sent u h)
agree_sent u (one_more c agree_done h) = one_more c agree_done (agree_sent u h)
agree_sent u (one_more c agree_failed h) = one_more c agree_failed (agree_sent u h)
agree_sent u (one_more c agree_not_sent h) = one_more c agree_not_sent (agree_sent u h)
agree_sent u (one_more c agree_by_event h) = one_more c agree_by_event (agree_sent u h)
agree_sent u (one_more c agree_held h) = one_more c agree_held (agree_sent u h)
agree_sent u (one_more c agree_not_held h) = one_more c agree_not_held (agree_sent u h)

-- the command in flight is answered
pub agree_flight : (o : Outcome) (s : Status) → Agree s o → (x : Flight) {l : List Noted} {k : List Step} → AllAgree l k → InTurn k →
    flight k ≡ Some x → AllAgree (note_first o l) (answer_flight s k)
agree_flight o s q x no_command t f = absurd (none-ne-some x f)
agree_flight o s q x (one_more c {k = k} agree_to_do h) t f = absurd (none-ne-some x (sym (behind_grounded k t) ∙ f))
agree_flight o s q x (one_more c agree_in_flight h) t f = one_more c q h
agree_flight o s q x (one_more c agree_done h) t f = one_more c agree_done (agree_flight o s q x h t f)
agree_flight o s q x (one_more c agree_failed h) t f = one_more c agree_failed (agree_flight o s q x h t f)
agree_flight o s q x (one_more c agree_not_sent h) t f = one_more c agree_not_sent (agree_flight o s q x h t f)
agree_flight o s q x (one_more c agree_by_event h) t f = one_more c agree_by_event (agree_flight o s q x h t f)
agree_flight o s q x (one_more c agree_held h) t f = one_more c agree_held (agree_flight o s q x h t f)
agree_flight o s q x (one_more c agree_not_held h) t f = one_more c agree_not_held (agree_flight o s q x h t f)

-- an event of d skips what is left on it
module _ (d : ℕ) where
  skip_or_stay : (b : Bool) (c : Command) {o : Outcome} {s : Status} {l : List Noted} {k : List Step} → Agree s o → AllAgree l k →
      AllAgree ((if b then noted_as by_event c else noted_as o c) ∷ l)
      ((if b then record { command = c; status = was_skipped } else record { command = c; status = s }) ∷ k)
  skip_or_stay true c q h = one_more c agree_by_event h
  skip_or_stay false c q h = one_more c q h

  pub agree_skip : {l : List Noted} {k : List Step} → AllAgree l k → AllAgree (note_left d l) (skip_left d k)
  agree_skip no_command = no_command
  agree_skip (one_more c agree_to_do h) = skip_or_stay (is_for d c && true) c agree_to_do (agree_skip h)
  agree_skip (one_more c agree_in_flight h) = skip_or_stay (is_for d c && true) c agree_in_flight (agree_skip h)
  agree_skip (one_more c agree_done h) = skip_or_stay (is_for d c && false) c agree_done (agree_skip h)
  agree_skip (one_more c agree_failed h) = skip_or_stay (is_for d c && false) c agree_failed (agree_skip h)
  agree_skip (one_more c agree_not_sent h) = skip_or_stay (is_for d c && false) c agree_not_sent (agree_skip h)
  agree_skip (one_more c agree_by_event h) = skip_or_stay (is_for d c && false) c agree_by_event (agree_skip h)
  agree_skip (one_more c agree_held h) = skip_or_stay (is_for d c && false) c agree_held (agree_skip h)
  agree_skip (one_more c agree_not_held h) = skip_or_stay (is_for d c && false) c agree_not_held (agree_skip h)
