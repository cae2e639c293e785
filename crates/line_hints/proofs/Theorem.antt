-- A reason is told exactly of the lines that print `unread`. Assumes nothing.
use Rattle.std.proofs.Common.{Option, None, Some}
use mathlib.Core.Path.{◌≡◌, refl}
use mathlib.Core.Logic.{◌≢◌}
use mathlib.Core.List.{List}
use Prim.Native.Nat.{ℕ}
use Rattle.rules.specs.State.{State}
use Rattle.line_rules.specs.Reading.{Line, opening, calling, unread, read_line}
use Rattle.line_rules.specs.Program.{step, prints_unread}
use Rattle.line_hints.specs.Why.{hint_by, hint_of}
use Rattle.line_hints.specs.Claims.{is_opened, Answered, an_opening, a_call, ToldExactly}

exactly : (h : Option State) (q : Line) (line : List ℕ) →
    (hint_by (is_opened h) q line ≢ None → step h q ≡ prints_unread h) × (hint_by (is_opened h) q line ≡ None → Answered h q)
unfolding step
exactly h (opening n k first) line = (λ e. absurd (e refl), λ e. an_opening h n k first)
exactly (Some s) (calling c) line = (λ e. absurd (e refl), λ e. a_call s c)
exactly None (calling c) line = (λ e. refl, λ e. cc)
exactly h unread line = (λ e. refl, λ e. cc)

pub told_exactly : (h : Option State) (line : List ℕ) → ToldExactly h line
unfolding hint_of
told_exactly h line = let e = exactly h (read_line line) line in record { told_of_unread = e.0; answered_else = e.1 }
