-- A law that proofs of reading cite. Assumes nothing.
use Prim.Native.Nat.{ℕ, zero, suc, ◌+◌, ◌*◌}
use mathlib.Core.Path.{◌≡◌, ap, ◌∙◌}
use mathlib.Core.List.{List, [], ◌∷◌, ◌++◌}
use native.Mathlib.Omega.{arith}
use Rattle.rules_routine.specs.declared.Command.{Command}
use Rattle.book_layout.specs.Layout.{command_size, command_at, commands_at}

-- commands in a row, one more behind
pub commands_at-more : (b : List ℕ) (at n : ℕ) → commands_at b at (suc n) ≡ commands_at b at n ++ (command_at b (at + command_size * n) ∷ [])
commands_at-more b at zero = ap (λ (k : ℕ). command_at b k ∷ []) (omega arith)
commands_at-more b at (suc n) =
    ap (λ (l : List Command). command_at b at ∷ l)
    (commands_at-more b (at + command_size) n ∙ ap (λ (k : ℕ). commands_at b (at + command_size) n ++ (command_at b k ∷ [])) (omega arith))
