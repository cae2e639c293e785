-- Laws of the reasons: of the words by their places, of the first word, and of what a line says. Assumes nothing.
use Rattle.std.proofs.Common.{None, Some}
use Rattle.line_read.specs.View.{read_as}
use Rattle.line_read.specs.declared.Call.{Call}
use Rattle.line_read.specs.declared.Line.TheVariants.{Open, Calling, Unread}
use Rattle.line_read.specs.declared.Line.{Line}
use Rattle.line_rules.specs.Reading.{Line as Said, opening, calling, unread, read_line}
use Rattle.line_hints.specs.Why.{why, hint_by, hint_of}
use Rattle.line_hints.specs.declared.Hint.TheVariants.{NoHub}
use mathlib.Core.Path.{◌≡◌, refl, sym, ap, ◌∙◌}
use mathlib.Core.Logic.{◌≢◌}
use mathlib.Core.Bool.{Bool, true, false}
use mathlib.Core.List.{List, [], ◌∷◌}
use Prim.Native.Nat.{ℕ, suc, ◌-◌, ◌≤◌, ◌<◌}
use native.Mathlib.Omega.{arith}
use lib.ListN.{length, take, drop, get_or}
use Rattle.std.specs.Prelude.{if◌then◌else◌}
use Rattle.line_rules.specs.Text.{space}
use Rattle.line_rules.specs.Pieces.{words_of, reach}
use Rattle.line_read.specs.Places.{behind_letter, word_at, word_end, words_from}
use Rattle.line_read.proofs.WordLaws.{word_ends, word_inside, word_past, word_none, word_more, words_first, words_all}
use Rattle.line_hints.specs.Why.{is_number, all_numbers}
use Rattle.line_hints.specs.Why.{by_letter, by_words, why, hint_by, hint_of}
use Rattle.line_hints.specs.declared.Hint.TheVariants.{NoCall}

-- ---- the words from a place on

module _ (line : List ℕ) (at : ℕ) where
  -- where the word at a place ends
  pub word_stands : (end : ℕ) → end ≡ word_end line at → at ≤ length line → (at ≤ end) × (end ≤ length line)
  word_stands end e h = (omega (arith, word_ends line at), omega (arith, word_inside line at h))

  -- and the word, as a part of the line
  pub word_taken : (end : ℕ) → end ≡ word_end line at → take (end - at) (drop at line) ≡ word_at line at
  unfolding word_at word_end
  word_taken end e =
      let far : end - at ≡ reach space (drop at line) = omega arith in
      ap (λ (k : ℕ). take k (drop at line)) far

  pub one_word : at ≤ length line → length (words_from line at) ≡ suc (length (words_from line (suc (word_end line at))))
  one_word h = rw (words_first line at h)

  pub numbers_not : at ≤ length line → is_number (word_at line at) ≡ false → all_numbers (words_from line at) ≡ false
  numbers_not h e = rw (words_first line at h, e)

  pub numbers_on : at ≤ length line → is_number (word_at line at) ≡ true →
      all_numbers (words_from line at) ≡ all_numbers (words_from line (suc (word_end line at)))
  numbers_on h e = rw (words_first line at h, e)

pub numbers_none : (ws : List (List ℕ)) → ws ≡ [] → all_numbers ws ≡ true
numbers_none ws e = rw e

-- ---- the first word of a line

module _ (line : List ℕ) where
  first_word : words_of line ≡ word_at line 0 ∷ words_from line (suc (word_end line 0))
  first_word = words_all line ∙ words_first line 0 (omega arith)

  pub first_empty : word_at line 0 ≡ [] → by_words (words_of line) ≡ NoCall
  unfolding by_words
  first_empty e = rw (first_word, e)

  pub no_bytes : length line ≡ 0 → by_words (words_of line) ≡ NoCall
  no_bytes h = first_empty (word_past line 0 (omega arith)).0

  pub a_space : 0 < length line → get_or line 0 0 ≡ space → by_words (words_of line) ≡ NoCall
  a_space h e = first_empty (word_none line 0 h e).0

  module _ (h : 0 < length line) (n : get_or line 0 0 ≢ space) where
    pub longer_word : 1 < length line → get_or line 1 0 ≢ space → by_words (words_of line) ≡ NoCall
    unfolding by_words
    longer_word k m = rw (first_word, (word_more line 0 h n).0, (word_more line 1 k m).0)

    alone : (word_at line 1 ≡ []) × (word_end line 1 ≡ 1) → by_words (words_of line) ≡ by_letter (get_or line 0 0) (words_from line behind_letter)
    unfolding by_words
    alone e = rw (first_word, (word_more line 0 h n).0, (word_more line 0 h n).1, e.0, e.1)

    pub one_byte : length line ≤ 1 → by_words (words_of line) ≡ by_letter (get_or line 0 0) (words_from line behind_letter)
    one_byte k = alone (word_past line 1 k)

    pub letter_alone : 1 < length line → get_or line 1 0 ≡ space →
        by_words (words_of line) ≡ by_letter (get_or line 0 0) (words_from line behind_letter)
    letter_alone k s = alone (word_none line 1 k s)

-- ---- what a line says, as it is held

module _ (opened : Bool) (said : Said) (line : List ℕ) where
  says_unread : read_as said ≡ Unread → hint_by opened said line ≡ Some (why line)
  says_unread e = go said e
    where
      go : (q : Said) → read_as q ≡ Unread → hint_by opened q line ≡ Some (why line)
      go (opening n k first) e = cc
      go (calling c) e = cc
      go unread e = refl

  says_call : (c : Call) → read_as said ≡ Calling c → hint_by opened said line ≡ (if opened then None else Some NoHub)
  says_call c e = go opened said e
    where
      go : (o : Bool) (q : Said) → read_as q ≡ Calling c → hint_by o q line ≡ (if o then None else Some NoHub)
      go o (opening n k first) e = cc
      go true (calling x) e = refl
      go false (calling x) e = refl
      go o unread e = cc

  says_opening : (n k first : ℕ) → read_as said ≡ Open n k first → hint_by opened said line ≡ None
  says_opening n k first e = go said e
    where
      go : (q : Said) → read_as q ≡ Open n k first → hint_by opened q line ≡ None
      go (opening m j i) e = refl
      go (calling c) e = cc
      go unread e = cc

module _ (opened : Bool) (line : List ℕ) (read : Line) (is : read ≡ read_as (read_line line)) where
  pub told-unread : read ≡ Unread → hint_of opened line ≡ Some (why line)
  unfolding hint_of
  told-unread e = says_unread opened (read_line line) line (sym is ∙ e)

  pub told-call : (c : Call) → read ≡ Calling c → hint_of opened line ≡ (if opened then None else Some NoHub)
  unfolding hint_of
  told-call c e = says_call opened (read_line line) line c (sym is ∙ e)

  pub told-opening : (n k first : ℕ) → read ≡ Open n k first → hint_of opened line ≡ None
  unfolding hint_of
  told-opening n k first e = says_opening opened (read_line line) line n k first (sym is ∙ e)
