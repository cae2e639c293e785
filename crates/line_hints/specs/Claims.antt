-- What is proved of the reasons: one is told exactly of the lines that print `unread`. Assumes nothing.
use Rattle.std.specs.Prelude.{◌≡◌, ◌≢◌, Bool, true, false, List, ℕ, Option, None, Some}
use Rattle.rules.specs.State.{State}
use Rattle.line_rules.specs.Reading.{Line, LineCall, opening, calling, read_line}
use Rattle.line_rules.specs.Program.{step, prints_unread}
use Rattle.line_hints.specs.Why.{hint_of}

-- Was a hub opened?
abbrev pub is_opened : Option State → Bool
is_opened None = false
is_opened (Some s) = true

-- The program answers the line by a rule: an opening, or a call on the hub that was opened.
pub data Answered : Option State → Line → Type 0 where
  an_opening : (h : Option State) (n k first : ℕ) → Answered h (opening n k first)
  a_call : (s : State) (c : LineCall) → Answered (Some s) (calling c)

-- Of every line: with a reason it prints `unread` and changes nothing; without one it is answered by a rule.
pub record ToldExactly (h : Option State) (line : List ℕ) : Type 0 where
  pub told_of_unread : hint_of (is_opened h) line ≢ None → step h (read_line line) ≡ prints_unread h
  pub answered_else : hint_of (is_opened h) line ≡ None → Answered h (read_line line)
