-- What is known of an answer that is none of some cases. Assumes nothing.
use mathlib.Core.Path.{◌≡◌, refl}
use mathlib.Core.Bool.{false}
use Prim.Native.Nat.{ℕ}
use Rattle.rules_routine.specs.declared.refusals.Refusal.{Refusal}
use Rattle.hub_answers.specs.View.{changes_nothing}
use Rattle.hub_answers.specs.declared.Answer.{Answer}
use Rattle.hub_answers.specs.declared.Answer.TheVariants.{Refused, Placed, Wait, Sent, Done, Skipped, Committed, Aborted, Down, Up}
use Rattle.hub_answers.specs.declared.Answer.TheVariants.{Limited, Held, NotHeld}

-- an answer that is neither refusal nor wait tells of a change
pub changes : (a : Answer) → ((x : Refusal) → a ≡ Refused x → ⊥) → ((i j : ℕ) → a ≡ Wait i j → ⊥) → changes_nothing a ≡ false
changes (Refused x) h k = absurd (h x refl)
changes (Placed x) h k = refl
changes (Wait i j) h k = absurd (k i j refl)
changes (Sent x) h k = refl
changes (Done i) h k = refl
changes (Skipped i) h k = refl
changes (Committed i) h k = refl
changes (Aborted i) h k = refl
changes (Down d i) h k = refl
changes (Up d i) h k = refl
changes (Limited j) h k = refl
changes (Held i) h k = refl
changes (NotHeld i) h k = refl
