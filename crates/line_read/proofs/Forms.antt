-- The forms of lines by the words of a line: one law for each way out. Assumes nothing.
use Rattle.std.proofs.Common.{Option, None, Some}
use mathlib.Core.Path.{◌≡◌, refl, sym, ap, ap₂, ◌∙◌}
use mathlib.Core.Logic.{◌≢◌}
use mathlib.Core.Bool.{Bool, true, false, and-true, and-false}
use mathlib.Core.List.{List, [], ◌∷◌}
use Prim.Native.Nat.{ℕ, suc, ◌+◌, ◌≤◌, ◌<◌}
use native.Mathlib.Omega.{arith}
use borrow.Author.Tests.{le-ltb, eqb-true, eqb-false, ne_eqb}
use lib.Dec.{eqb}
use lib.IntN.{ℤ}
use lib.ListN.{length, get_or}
use Rattle.std.specs.Prelude.{if◌then◌else◌}
use Rattle.rules_routine.specs.Routine.{with_command}
use Rattle.rules_routine.specs.declared.Command.{Command}
use Rattle.rules_routine.specs.declared.Routine.{Routine}
use Rattle.line_rules.specs.Reading.{LineCall, turns, reports, fails, restarts, cancels}
use Rattle.rules.specs.Report.{code_done, code_failed}
use Rattle.line_rules.specs.Text.{space, same}
use Rattle.line_rules.specs.Pieces.{words_of}
use Rattle.rules_routine.specs.Limits.{max_line}
use Rattle.line_rules.specs.Reading.{Line as Said, opening, calling, unread, highest8, highest32, number_up_to, setting}
use Rattle.line_rules.specs.Reading.{opening_line, command_before, commands, submit_line, call_with, one_number}
use Rattle.line_rules.specs.Reading.{restart_line, line_with, line_by, read_line}
use Rattle.line_read.specs.Places.{behind_letter, word_at, word_end, words_from, command_behind}
use Rattle.line_read.specs.declared.Call.TheVariants.{Submit}
use Rattle.line_read.specs.declared.Line.{Line}
use Rattle.line_read.specs.declared.Line.TheVariants.{Calling, Unread}
use Rattle.line_read.specs.View.{together, letter_of, id_call_with, id_line}
use Rattle.line_read.proofs.WordLaws.{word_past, word_none, word_more, words_none, words_first, words_all, WordSays, NotFirst}

-- ---- words behind one that was read

module _ (line : List ℕ) (end : ℕ) where
  -- no more
  last_word : length line ≤ end → words_from line (end + 1) ≡ []
  last_word h = words_none line (end + 1) (omega arith)

  -- some more
  more_words : end < length line → words_from line (end + 1) ≡ word_at line (end + 1) ∷ words_from line (suc (word_end line (end + 1)))
  more_words h = words_first line (end + 1) (omega arith)

-- ---- one number

one-not : (highest : ℕ) (says : Option ℕ → Said) → says None ≡ unread → (ws : List (List ℕ)) → NotFirst (number_up_to highest) ws →
    one_number highest says ws ≡ unread
unfolding one_number
one-not highest says u [] e = refl
one-not highest says u (w ∷ []) e = ap says e ∙ u
one-not highest says u (w ∷ v ∷ ws) e = refl

module _ (highest : ℕ) (says : Option ℕ → Said) (u : says None ≡ unread) (line : List ℕ) (at : ℕ) where
  pub one_none : NotFirst (number_up_to highest) (words_from line at) → one_number highest says (words_from line at) ≡ unread
  one_none e = one-not highest says u (words_from line at) e

  pub one_more : {n end : ℕ} → WordSays (number_up_to highest) line at n end → end < length line →
      one_number highest says (words_from line at) ≡ unread
  unfolding one_number
  one_more {n} {end} a h = rw (a.words, more_words line end h)

  pub one_found : {n end : ℕ} → WordSays (number_up_to highest) line at n end → length line ≤ end →
      one_number highest says (words_from line at) ≡ says (Some n)
  unfolding one_number
  one_found {n} {end} a h = rw (a.words, last_word line end h, a.says)

-- ---- "`O` N K first"

opens_1 : (ws : List (List ℕ)) → NotFirst (number_up_to highest8) ws → opening_line ws ≡ unread
unfolding opening_line
opens_1 [] e = refl
opens_1 (n ∷ []) e = refl
opens_1 (n ∷ k ∷ []) e = refl
opens_1 (n ∷ k ∷ first ∷ []) e = rw e
opens_1 (n ∷ k ∷ first ∷ w ∷ ws) e = refl

opens_2 : (n : List ℕ) (ws : List (List ℕ)) (d : ℕ) → number_up_to highest8 n ≡ Some d → NotFirst (number_up_to highest8) ws →
    opening_line (n ∷ ws) ≡ unread
unfolding opening_line
opens_2 n [] d s e = refl
opens_2 n (k ∷ []) d s e = refl
opens_2 n (k ∷ first ∷ []) d s e = rw (s, e)
opens_2 n (k ∷ first ∷ w ∷ ws) d s e = refl

opens_3 : (n k : List ℕ) (ws : List (List ℕ)) (d p : ℕ) → number_up_to highest8 n ≡ Some d → number_up_to highest8 k ≡ Some p →
    NotFirst (number_up_to highest32) ws →
    opening_line (n ∷ k ∷ ws) ≡ unread
unfolding opening_line
opens_3 n k [] d p s t e = refl
opens_3 n k (first ∷ []) d p s t e = rw (s, t, e)
opens_3 n k (first ∷ w ∷ ws) d p s t e = refl

module _ (line : List ℕ) (at : ℕ) where
  pub open_none : NotFirst (number_up_to highest8) (words_from line at) → opening_line (words_from line at) ≡ unread
  open_none e = opens_1 (words_from line at) e

  pub open_one : {n end : ℕ} → WordSays (number_up_to highest8) line at n end → NotFirst (number_up_to highest8) (words_from line (end + 1)) →
      opening_line (words_from line at) ≡ unread
  open_one {n} {end} a e = rw a.words (opens_2 (word_at line at) (words_from line (end + 1)) n a.says e)

  module _ {n k stop end : ℕ} (a : WordSays (number_up_to highest8) line at n stop)
      (b : WordSays (number_up_to highest8) line (stop + 1) k end) where
    pub open_two : NotFirst (number_up_to highest32) (words_from line (end + 1)) → opening_line (words_from line at) ≡ unread
    open_two e = rw (a.words, b.words)
        (opens_3 (word_at line at) (word_at line (stop + 1)) (words_from line (end + 1)) n k a.says b.says e)

    module _ {first last : ℕ} (c : WordSays (number_up_to highest32) line (end + 1) first last) where
      pub open_more : last < length line → opening_line (words_from line at) ≡ unread
      unfolding opening_line
      open_more h = rw (a.words, b.words, c.words, more_words line last h)

      pub open_all : length line ≤ last → opening_line (words_from line at) ≡ opening n k first
      unfolding opening_line
      open_all h = rw (a.words, b.words, c.words, last_word line last h, a.says, b.says, c.says)

-- ---- "`R` device setting"

restarts_1 : (ws : List (List ℕ)) → NotFirst (number_up_to highest8) ws → restart_line ws ≡ unread
unfolding restart_line
restarts_1 [] e = refl
restarts_1 (d ∷ []) e = refl
restarts_1 (d ∷ v ∷ []) e = rw e
restarts_1 (d ∷ v ∷ w ∷ ws) e = refl

restarts_2 : (w : List ℕ) (ws : List (List ℕ)) (d : ℕ) → number_up_to highest8 w ≡ Some d → NotFirst setting ws →
    restart_line (w ∷ ws) ≡ unread
unfolding restart_line
restarts_2 w [] d s e = refl
restarts_2 w (v ∷ []) d s e = rw (s, e)
restarts_2 w (v ∷ u ∷ ws) d s e = refl

module _ (line : List ℕ) (at : ℕ) where
  pub restart-none : NotFirst (number_up_to highest8) (words_from line at) → restart_line (words_from line at) ≡ unread
  restart-none e = restarts_1 (words_from line at) e

  module _ {d stop : ℕ} (a : WordSays (number_up_to highest8) line at d stop) where
    pub restart-one : NotFirst setting (words_from line (stop + 1)) → restart_line (words_from line at) ≡ unread
    restart-one e = rw a.words (restarts_2 (word_at line at) (words_from line (stop + 1)) d a.says e)

    module _ {v : ℤ} {end : ℕ} (b : WordSays setting line (stop + 1) v end) where
      pub restart-more : end < length line → restart_line (words_from line at) ≡ unread
      unfolding restart_line
      restart-more h = rw (a.words, b.words, more_words line end h)

      pub restart_all : length line ≤ end → restart_line (words_from line at) ≡ calling (restarts d v)
      unfolding restart_line
      restart_all h = rw (a.words, b.words, last_word line end h, a.says, b.says)

-- ---- "`S` device tag setting repeated"

before-behind : (d t : ℕ) (v : ℤ) (o : Option (List Command)) →
    command_before (Some d) (Some t) (Some v) o ≡ command_behind (record { device = d; tag = t; setting = v }) o
before-behind d t v None = refl
before-behind d t v (Some cs) = refl

commands_1 : (w : List ℕ) (ws : List (List ℕ)) → number_up_to highest8 w ≡ None → commands (w ∷ ws) ≡ None
unfolding commands
commands_1 w [] e = refl
commands_1 w (t ∷ []) e = refl
commands_1 w (t ∷ v ∷ ws) e = rw e

commands_2 : (w : List ℕ) (ws : List (List ℕ)) (d : ℕ) → number_up_to highest8 w ≡ Some d → NotFirst (number_up_to highest8) ws →
    commands (w ∷ ws) ≡ None
unfolding commands
commands_2 w [] d s e = refl
commands_2 w (t ∷ []) d s e = refl
commands_2 w (t ∷ v ∷ ws) d s e = rw (s, e)

commands_3 : (w u : List ℕ) (ws : List (List ℕ)) (d t : ℕ) → number_up_to highest8 w ≡ Some d → number_up_to highest8 u ≡ Some t →
    NotFirst setting ws →
    commands (w ∷ u ∷ ws) ≡ None
unfolding commands
commands_3 w u [] d t s r e = refl
commands_3 w u (v ∷ ws) d t s r e = rw (s, r, e)

module _ (line : List ℕ) (at : ℕ) where
  pub command-none : at ≤ length line → NotFirst (number_up_to highest8) (words_from line at) → commands (words_from line at) ≡ None
  command-none h e =
      let words = words_first line at h in
      rw words (commands_1 (word_at line at) (words_from line (suc (word_end line at))) (rw words at e))

  module _ {d stop : ℕ} (a : WordSays (number_up_to highest8) line at d stop) where
    pub command-one : NotFirst (number_up_to highest8) (words_from line (stop + 1)) → commands (words_from line at) ≡ None
    command-one e = rw a.words (commands_2 (word_at line at) (words_from line (stop + 1)) d a.says e)

    module _ {t end : ℕ} (b : WordSays (number_up_to highest8) line (stop + 1) t end) where
      pub command-two : NotFirst setting (words_from line (end + 1)) → commands (words_from line at) ≡ None
      command-two e =
          rw (a.words, b.words)
          (commands_3 (word_at line at) (word_at line (stop + 1)) (words_from line (end + 1)) d t a.says b.says e)

      pub command_all : {v : ℤ} {last : ℕ} → WordSays setting line (end + 1) v last →
          commands (words_from line at) ≡ command_behind (record { device = d; tag = t; setting = v }) (commands (words_from line (last + 1)))
      unfolding commands
      command_all {v} {last} c =
          rw (a.words, b.words, c.words, a.says, b.says, c.says) (before-behind d t v (commands (words_from line (last + 1))))

-- a submission whose commands behind those of a routine are these
abbrev pub submit_from : Routine → Option (List Command) → Line
submit_from r None = Unread
submit_from r (Some cs) = Calling (Submit (together r cs))

pub submit-more : (r : Routine) (c : Command) (o : Option (List Command)) →
    submit_from r (command_behind c o) ≡ submit_from (with_command r c) o
unfolding together
submit-more r c None = refl
submit-more r c (Some cs) = refl

pub submit_end : (line : List ℕ) (at : ℕ) (r : Routine) → length line < at →
    submit_from r (commands (words_from line at)) ≡ Calling (Submit r)
unfolding commands together
submit_end line at r h = rw (words_none line at h)

-- ---- by the first word

-- a first word that is no letter alone
no_letter : (ws : List (List ℕ)) → line_with [] ws ≡ unread
unfolding line_with same
no_letter ws = refl

two_letters : (a b : ℕ) (word : List ℕ) (ws : List (List ℕ)) → line_with (a ∷ b ∷ word) ws ≡ unread
unfolding line_with same
two_letters a b word ws = simp and-false

pub letter_open : (letter : ℕ) (ws : List (List ℕ)) → letter ≡ letter_of "O" → line_with (letter ∷ []) ws ≡ opening_line ws
unfolding line_with same
letter_open letter ws e = rw e

pub letter_submit : (letter : ℕ) (ws : List (List ℕ)) → letter ≡ letter_of "S" → line_with (letter ∷ []) ws ≡ submit_line ws
unfolding line_with same
letter_submit letter ws e = rw e

pub letter_fail : (letter : ℕ) (ws : List (List ℕ)) → letter ≡ letter_of "F" →
    line_with (letter ∷ []) ws ≡ one_number highest8 (call_with fails) ws
unfolding line_with same
letter_fail letter ws e = rw e

pub letter_restart : (letter : ℕ) (ws : List (List ℕ)) → letter ≡ letter_of "R" → line_with (letter ∷ []) ws ≡ restart_line ws
unfolding line_with same
letter_restart letter ws e = rw e

-- the letters that an id follows
either : (t : Bool) (said : Said) → (if t then said else said) ≡ said
either true said = refl
either false said = refl

-- a form for each, or none
abbrev by_id : ℕ → ((ℕ → LineCall) → Said) → Said
by_id letter form =
    if eqb letter (letter_of "N") then form turns
    else if eqb letter (letter_of "D") then form (λ i. reports i code_done)
    else if eqb letter (letter_of "B") then form (λ i. reports i code_failed)
    else if eqb letter (letter_of "C") then form cancels
    else unread

id_says : (letter : ℕ) (o : Option ℕ) → by_id letter (λ call. call_with call o) ≡ id_call_with letter o
id_says letter None = simp either
id_says letter (Some i) = refl

id_forms : (letter : ℕ) (ws : List (List ℕ)) → by_id letter (λ call. one_number highest32 (call_with call) ws) ≡ id_line letter ws
unfolding one_number
id_forms letter [] = simp either
id_forms letter (w ∷ []) = id_says letter (number_up_to highest32 w)
id_forms letter (w ∷ v ∷ ws) = simp either

pub letter_other : (letter : ℕ) (ws : List (List ℕ)) → letter ≢ letter_of "O" → letter ≢ letter_of "S" → letter ≢ letter_of "F" →
    letter ≢ letter_of "R" → line_with (letter ∷ []) ws ≡ id_line letter ws
unfolding line_with same
letter_other letter ws a b c d =
    simp (
      and-true,
      ne_eqb letter (letter_of "O") a,
      ne_eqb letter (letter_of "S") b,
      ne_eqb letter (letter_of "F") c,
      ne_eqb letter
          (letter_of "R") d,
    ) (id_forms letter ws)

-- ---- the first word of a line

blank : (letter : ℕ) (ws : List (List ℕ)) → letter ≡ space → line_with (letter ∷ []) ws ≡ unread
unfolding line_with same
blank letter ws e = rw e

module _ (line : List ℕ) where
  first_word : line_by (words_of line) ≡ line_with (word_at line 0) (words_from line (suc (word_end line 0)))
  unfolding line_by
  first_word = ap line_by (words_all line ∙ words_first line 0 (omega arith))

  first_empty : word_at line 0 ≡ [] → line_by (words_of line) ≡ unread
  first_empty e = first_word ∙ ap (λ (w : List ℕ). line_with w (words_from line (suc (word_end line 0)))) e
      ∙ no_letter (words_from line (suc (word_end line 0)))

  first_letter : 0 < length line → get_or line 0 0 ≢ space →
      line_by (words_of line) ≡ line_with (get_or line 0 0 ∷ word_at line 1) (words_from line (suc (word_end line 1)))
  first_letter h n =
      let more = word_more line 0 h n in
      first_word ∙ ap₂ (λ (w : List ℕ) (k : ℕ). line_with w (words_from line (suc k))) more.0 more.1

  pub no_words : length line ≡ 0 → line_by (words_of line) ≡ unread
  no_words h = first_empty (word_past line 0 (omega arith)).0

  -- the second byte belongs to the first word
  pub letter_and_more : 1 < length line → get_or line 1 0 ≢ space → line_by (words_of line) ≡ unread
  letter_and_more h n = go (eqb (get_or line 0 0) space) refl
    where
      go : (t : Bool) → eqb (get_or line 0 0) space ≡ t → line_by (words_of line) ≡ unread
      go true t = first_empty (word_none line 0 (omega arith) (eqb-true (get_or line 0 0) space t)).0
      go false t =
          first_letter (omega arith) (eqb-false (get_or line 0 0) space t)
          ∙ ap (λ (w : List ℕ). line_with (get_or line 0 0 ∷ w) (words_from line (suc (word_end line 1)))) (word_more line 1 h n).0
          ∙ two_letters (get_or line 0 0) (get_or line 1 0) (word_at line 2) (words_from line (suc (word_end line 1)))

  -- a byte alone is the first word, or a space, which makes an empty one
  byte_alone : 0 < length line → (word_at line 1 ≡ []) × (word_end line 1 ≡ 1) →
      line_by (words_of line) ≡ line_with (get_or line 0 0 ∷ []) (words_from line behind_letter)
  byte_alone h e = go (eqb (get_or line 0 0) space) refl
    where
      go : (t : Bool) → eqb (get_or line 0 0) space ≡ t → line_by (words_of line) ≡ line_with (get_or line 0 0 ∷ []) (words_from line behind_letter)
      go true t =
          let s = eqb-true (get_or line 0 0) space t in
          first_empty (word_none line 0 h s).0 ∙ sym (blank (get_or line 0 0) (words_from line behind_letter) s)
      go false t =
          first_letter h (eqb-false (get_or line 0 0) space t)
          ∙ ap₂ (λ (w : List ℕ) (k : ℕ). line_with (get_or line 0 0 ∷ w) (words_from line (suc k))) e.0 e.1

  pub one_byte : length line ≡ 1 → line_by (words_of line) ≡ line_with (get_or line 0 0 ∷ []) (words_from line behind_letter)
  one_byte h = byte_alone (omega arith) (word_past line 1 (omega arith))

  pub letter_alone : 1 < length line → get_or line 1 0 ≡ space →
      line_by (words_of line) ≡ line_with (get_or line 0 0 ∷ []) (words_from line behind_letter)
  letter_alone h s = byte_alone (omega arith) (word_none line 1 h s)

-- ---- a line that is not too long

pub line-short : (line : List ℕ) → length line ≤ max_line → read_line line ≡ line_by (words_of line)
unfolding read_line
line-short line h = rw (le-ltb max_line (length line) h)
