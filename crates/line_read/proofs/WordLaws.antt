-- Laws of words by their places, and of the numbers in them. Assumes nothing.
use Rattle.std.proofs.Common.{Option, None, Some}
use mathlib.Core.Path.{◌≡◌, refl, sym, ap, ◌∙◌}
use mathlib.Core.Logic.{◌≢◌, ◌⊎◌, inl, inr}
use mathlib.Core.Bool.{Bool, true, false}
use mathlib.Core.List.{List, [], ◌∷◌}
use Prim.Native.Nat.{ℕ, suc, ◌+◌, ◌-◌, ◌*◌, ◌≤◌, ◌<◌}
use native.Mathlib.Numerals.{add-one}
use native.Mathlib.Omega.{arith}
use borrow.Author.Tests.{ltb-true, ltb-false, lt-ltb, le-ltb, le-leb, lt-leb, leb-true, leb-false, eqb-true, eqb-false, eq-eqb, ne_eqb}
use lib.Dec.{ltb, leb, eqb}
use lib.IntN.{ℤ, pos}
use lib.ListN.{length, take, drop, get_or, length-drop, drop_of_length-le}
use lib.Seq.{drop-cons, take_all, length-take-le}
use Rattle.std.specs.Prelude.{if◌then◌else◌}
use Rattle.rules_routine.proofs.RoutineLaws.{by_test}
use Rattle.line_rules.specs.Text.{space, minus, digit0}
use Rattle.line_rules.specs.Pieces.{pieces, reach, words_of}
use Rattle.line_rules.specs.Reading.{highest16, lowest16, is_digit, digits_from, number, within, number_up_to, positive, minus_of, negative}
use Rattle.line_rules.specs.Reading.{setting}
use Rattle.line_rules.proofs.LineLaws.{drop-behind, reach-within, pieces_parted, pieces-one}
use Rattle.line_read.specs.Places.{word_at, word_end, words_from, ending, found_from, number_at, setting_at}

-- ---- how far a piece reaches from a place

reach-past : (byte : ℕ) (bs : List ℕ) (at : ℕ) → length bs ≤ at → reach byte (drop at bs) ≡ 0
unfolding reach
reach-past byte bs at h = rw (drop_of_length-le bs h)

reach_here : (byte : ℕ) (bs : List ℕ) (at : ℕ) → at < length bs → get_or bs at 0 ≡ byte → reach byte (drop at bs) ≡ 0
unfolding reach
reach_here byte bs at h e = rw (drop-cons bs at 0 h, eq-eqb (get_or bs at 0) byte e)

reach_on : (byte : ℕ) (bs : List ℕ) (at : ℕ) → at < length bs → get_or bs at 0 ≢ byte →
    reach byte (drop at bs) ≡ suc (reach byte (drop (suc at) bs))
unfolding reach
reach_on byte bs at h n = rw (drop-cons bs at 0 h, ne_eqb (get_or bs at 0) byte n)

-- where the piece ends

pub ends-past : (byte : ℕ) (bs : List ℕ) (at : ℕ) → length bs ≤ at → at + reach byte (drop at bs) ≡ at
ends-past byte bs at h = omega (arith, reach-past byte bs at h)

pub ends-here : (byte : ℕ) (bs : List ℕ) (at : ℕ) → at < length bs → get_or bs at 0 ≡ byte → at + reach byte (drop at bs) ≡ at
ends-here byte bs at h e = omega (arith, reach_here byte bs at h e)

pub ends_on : (byte : ℕ) (bs : List ℕ) (at : ℕ) → at < length bs → get_or bs at 0 ≢ byte →
    at + reach byte (drop at bs) ≡ suc at + reach byte (drop (suc at) bs)
ends_on byte bs at h n = omega (arith, reach_on byte bs at h n)

-- from a place where it ends as it did: there, or the next place is one too
pub ends_at : (byte : ℕ) (bs : List ℕ) (at end : ℕ) → at + reach byte (drop at bs) ≡ end → at < length bs → get_or bs at 0 ≡ byte → at ≡ end
ends_at byte bs at end i h e = sym (ends-here byte bs at h e) ∙ i

pub ends_next : (byte : ℕ) (bs : List ℕ) (at next end : ℕ) → next ≡ suc at → at + reach byte (drop at bs) ≡ end → at < length bs →
    get_or bs at 0 ≢ byte → next + reach byte (drop next bs) ≡ end
ends_next byte bs at next end e i h n = rw e (sym (ends_on byte bs at h n) ∙ i)

-- ---- the word at a place

module _ (line : List ℕ) (at : ℕ) where
  -- one of no bytes
  pub word_past : length line ≤ at → (word_at line at ≡ []) × (word_end line at ≡ at)
  unfolding word_at word_end
  word_past h = (rw (reach-past space line at h), ends-past space line at h)

  pub word_none : at < length line → get_or line at 0 ≡ space → (word_at line at ≡ []) × (word_end line at ≡ at)
  unfolding word_at word_end
  word_none h e = (rw (reach_here space line at h e), ends-here space line at h e)

  pub word_more : at < length line → get_or line at 0 ≢ space →
      (word_at line at ≡ get_or line at 0 ∷ word_at line (suc at)) × (word_end line at ≡ word_end line (suc at))
  unfolding word_at word_end
  word_more h n = (rw (reach_on space line at h n, drop-cons line at 0 h), ends_on space line at h n)

  -- a word ends as many bytes further as it has
  word_length : word_end line at ≡ at + length (word_at line at)
  unfolding word_at word_end
  word_length = rw (length-take-le (reach space (drop at line)) (drop at line) (reach-within space (drop at line)))

  -- where it ends, as bytes are parted
  pub word_ends : word_end line at ≡ at + reach space (drop at line)
  unfolding word_end
  word_ends = refl

  pub word_inside : at ≤ length line → word_end line at ≤ length line
  unfolding word_end
  word_inside h = omega (arith, reach-within space (drop at line), length-drop at line)

  -- ---- the words from a place on

  pub words_none : length line < at → words_from line at ≡ []
  unfolding words_from
  words_none h = rw (lt-leb at (length line) h)

  pub words_first : at ≤ length line → words_from line at ≡ word_at line at ∷ words_from line (suc (word_end line at))
  unfolding words_from word_at word_end
  words_first h = rw (le-leb at (length line) h) (go (ltb r (length bs)) refl)
    where
      bs : List ℕ
      bs = drop at line

      r : ℕ
      r = reach space bs

      left : length bs ≡ length line - at
      left = length-drop at line

      go : (t : Bool) → ltb r (length bs) ≡ t →
          pieces space bs ≡ take r bs ∷ (if leb (suc (at + r)) (length line) then pieces space (drop (suc (at + r)) line) else [])
      go true e =
          let more = ltb-true r (length bs) e in
          rw (le-leb (suc (at + r)) (length line) (omega (arith, left)))
          (pieces_parted space bs more ∙ ap (λ (l : List ℕ). take r bs ∷ pieces space l) (drop-behind line at r))
      go false e =
          let past = ltb-false r (length bs) e in
          rw (lt-leb (suc (at + r)) (length line) (omega (arith, left)), take_all r bs past) (pieces-one space bs past)

pub words_all : (line : List ℕ) → words_of line ≡ words_from line 0
unfolding words_of words_from
words_all line = rw (le-leb 0 (length line) (omega arith))

-- ---- numbers

digits_more : (n b : ℕ) (bs : List ℕ) → digit0 ≤ b → b < digit0 + 10 → digits_from n (b ∷ bs) ≡ digits_from (10 * n + (b - digit0)) bs
unfolding digits_from
digits_more n b bs h k = rw (le-leb digit0 b h, lt-ltb b (digit0 + 10) k)

digits_below : (n b : ℕ) (bs : List ℕ) → b < digit0 → digits_from n (b ∷ bs) ≡ None
unfolding digits_from
digits_below n b bs h = rw (lt-leb digit0 b h)

digits_above : (n b : ℕ) (bs : List ℕ) → digit0 + 10 ≤ b → digits_from n (b ∷ bs) ≡ None
unfolding digits_from
digits_above n b bs h = rw (le-leb digit0 b (omega arith), le-ltb b (digit0 + 10) h)

-- a number too large gets no smaller
pub digits_large : (highest n : ℕ) (bs : List ℕ) → highest < n → within highest (digits_from n bs) ≡ None
unfolding digits_from
digits_large highest n [] h = rw (lt-leb n highest h)
digits_large highest n (b ∷ bs) h =
    by_test (λ (t : Bool). within highest (if t then digits_from (10 * n + (b - digit0)) bs else None) ≡ None) (is_digit b)
    (λ _. digits_large highest (10 * n + (b - digit0)) bs (omega arith)) (λ _. refl)

-- what the digits of a word say, but for the word of no bytes
number-none : (highest : ℕ) (word : List ℕ) → within highest (digits_from 0 word) ≡ None → number_up_to highest word ≡ None
unfolding number_up_to number
number-none highest [] e = refl
number-none highest (b ∷ bs) e = e

number_digits : (highest : ℕ) (word : List ℕ) → 0 < length word → number_up_to highest word ≡ within highest (digits_from 0 word)
unfolding number_up_to number
number_digits highest [] h = absurd (omega arith)
number_digits highest (b ∷ bs) h = refl

number_empty : (highest : ℕ) → number_up_to highest [] ≡ None
unfolding number_up_to number
number_empty highest = refl

within_some : (highest n : ℕ) → n ≤ highest → within highest (Some n) ≡ Some n
within_some highest n h = rw (le-leb n highest h)

within_bound : (highest : ℕ) (o : Option ℕ) (n : ℕ) → within highest o ≡ Some n → n ≤ highest
within_bound highest None n e = let z : ◌≡◌ {A = ℕ} 0 1 = cc in absurd (omega arith)
within_bound highest (Some m) n e = go (leb m highest) refl e
  where
    go : (t : Bool) → leb m highest ≡ t → (if t then Some m else None) ≡ Some n → n ≤ highest
    go true t f = let same : m ≡ n = cc in omega (arith, leb-true m highest t)
    go false t f = let z : ◌≡◌ {A = ℕ} 0 1 = cc in absurd (omega arith)

-- one that was read to the end of its word
read_whole : (highest : ℕ) (word : List ℕ) (value from at : ℕ) → digits_from 0 word ≡ Some value → value ≤ highest →
    at ≡ from + length word →
    found_from value from at ≡ ending (number_up_to highest word) at
read_whole highest [] value from at d h e = rw (number_empty highest, eq-eqb from at (omega arith))
read_whole highest (b ∷ bs) value from at d h e =
    rw (number_digits highest (b ∷ bs) (omega arith), d, ne_eqb from at (λ f. omega arith), within_some highest value h)

-- ---- the number at a place

-- what is left of a word at a place within it, behind the digits of a value
pub record Left (line : List ℕ) (from at value : ℕ) : Type 0 where
  pub digits : digits_from value (word_at line at) ≡ digits_from 0 (word_at line from)
  pub ends : word_end line at ≡ word_end line from

module _ (highest : ℕ) (line : List ℕ) (from : ℕ) where
  pub number_ended : (at value : ℕ) → Left line from at value → value ≤ highest → (word_at line at ≡ []) × (word_end line at ≡ at) →
      found_from value from at ≡ number_at highest line from
  unfolding number_at digits_from
  number_ended at value left h e =
      let ends : at ≡ word_end line from = sym e.1 ∙ left.ends in
      let digits : digits_from 0 (word_at line from) ≡ Some value = sym left.digits ∙ ap (digits_from value) e.0 in
      read_whole highest (word_at line from) value from at digits h (ends ∙ word_length line from)
      ∙ ap (ending (number_up_to highest (word_at line from))) ends

  -- the digits left say that there is none
  pub number_missing : (at value : ℕ) → Left line from at value → within highest (digits_from value (word_at line at)) ≡ None →
      number_at highest line from ≡ None
  unfolding number_at
  number_missing at value left e = rw (number-none highest (word_at line from) (ap (within highest) (sym left.digits) ∙ e))

module _ (line : List ℕ) (at value : ℕ) (h : at < length line) (n : get_or line at 0 ≢ space) where
  -- no digit
  pub left_other : (get_or line at 0 < digit0) ⊎ (digit0 + 9 < get_or line at 0) → digits_from value (word_at line at) ≡ None
  left_other (inl k) = rw (word_more line at h n).0 (digits_below value (get_or line at 0) (word_at line (suc at)) k)
  left_other (inr k) = rw (word_more line at h n).0 (digits_above value (get_or line at 0) (word_at line (suc at)) (omega arith))

  -- one digit more
  pub left_more : (from : ℕ) → Left line from at value → digit0 ≤ get_or line at 0 → get_or line at 0 < digit0 + 10 →
      Left line from (suc at) (10 * value + (get_or line at 0 - digit0))
  left_more from left k l = record {
    digits = sym (digits_more value (get_or line at 0) (word_at line (suc at)) k l) ∙ ap (digits_from value) (sym (word_more line at h n).0)
        ∙ left.digits;
    ends = sym (word_more line at h n).1 ∙ left.ends;
  }

-- ---- settings

-- a setting held, of the number behind a minus and of one without
abbrev pub minus_held : Option (ℕ × ℕ) → Option (ℤ × ℕ)
minus_held (Some (n, end)) = Some (minus_of n, end)
minus_held None = None

abbrev pub plain_held : Option (ℕ × ℕ) → Option (ℤ × ℕ)
plain_held (Some (n, end)) = Some (pos n, end)
plain_held None = None

minus-held : (o : Option ℕ) (end : ℕ) → ending (negative o) end ≡ minus_held (ending o end)
minus-held None end = refl
minus-held (Some n) end = refl

plain-held : (o : Option ℕ) (end : ℕ) → ending (positive o) end ≡ plain_held (ending o end)
plain-held None end = refl
plain-held (Some n) end = refl

word_minus : (word rest : List ℕ) → word ≡ minus ∷ rest → setting word ≡ negative (number_up_to lowest16 rest)
unfolding setting
word_minus word rest e = rw e

word_plain : (b : ℕ) (bs : List ℕ) → b ≢ minus → setting (b ∷ bs) ≡ positive (number_up_to highest16 (b ∷ bs))
unfolding setting
word_plain b bs n = rw (ne_eqb b minus n)

word_empty : setting [] ≡ positive (number_up_to highest16 [])
unfolding setting number_up_to number
word_empty = refl

module _ (line : List ℕ) (from : ℕ) where
  pub setting-minus : from < length line → get_or line from 0 ≡ minus → setting_at line from ≡ minus_held (number_at lowest16 line (from + 1))
  unfolding setting_at number_at
  setting-minus h e =
      let more = word_more line from h (λ f. omega arith) in
      rw (
        add-one from,
        word_minus (word_at line from) (word_at line (suc from)) (more.0 ∙ ap (λ (b : ℕ). b ∷ word_at line (suc from)) e),
        more.1,
      )
      (minus-held (number_up_to lowest16 (word_at line (suc from))) (word_end line (suc from)))

  -- the word at a place has no minus before it if there is none at that place
  plain_word : (from < length line → get_or line from 0 ≢ minus) →
      setting (word_at line from) ≡ positive (number_up_to highest16 (word_at line from))
  plain_word n = go (ltb from (length line)) (eqb (get_or line from 0) space) refl refl
    where
      go : (s t : Bool) → ltb from (length line) ≡ s → eqb (get_or line from 0) space ≡ t →
          setting (word_at line from) ≡ positive (number_up_to highest16 (word_at line from))
      go false t e f = rw (word_past line from (ltb-false from (length line) e)).0 word_empty
      go true true e f = rw (word_none line from (ltb-true from (length line) e) (eqb-true (get_or line from 0) space f)).0 word_empty
      go true false e f =
          let h = ltb-true from (length line) e in
          rw (word_more line from h (eqb-false (get_or line from 0) space f)).0
          (word_plain (get_or line from 0) (word_at line (suc from)) (n h))

  pub setting_plain : (from < length line → get_or line from 0 ≢ minus) → setting_at line from ≡ plain_held (number_at highest16 line from)
  unfolding setting_at number_at
  setting_plain n = rw (plain_word n) (plain-held (number_up_to highest16 (word_at line from)) (word_end line from))

-- ---- what a thing looked for in the word at a place tells of the words from there on

-- It was found: the word stands within the line, and the others begin behind its end.
pub record WordSays {A : Type 0} (reads : List ℕ → Option A) (line : List ℕ) (at : ℕ) (a : A) (end : ℕ) : Type 0 where
  pub says : reads (word_at line at) ≡ Some a
  pub begins : at ≤ end
  pub ends : end ≤ length line
  pub words : words_from line at ≡ word_at line at ∷ words_from line (end + 1)

-- It was not: the first of the words, if there is one, does not say it.
abbrev pub NotFirst : {A : Type 0} → (List ℕ → Option A) → List (List ℕ) → Type 0
NotFirst reads [] = Unit {0}
NotFirst reads (w ∷ ws) = reads w ≡ None

module _ {A : Type 0} (reads : List ℕ → Option A) (line : List ℕ) (at : ℕ) where
  not_first : reads (word_at line at) ≡ None → NotFirst reads (words_from line at)
  not_first e = go (leb at (length line)) refl
    where
      go : (t : Bool) → leb at (length line) ≡ t → NotFirst reads (words_from line at)
      go true t = rw (words_first line at (leb-true at (length line) t)) e
      go false t = rw (words_none line at (leb-false at (length line) t)) tt

  word_says : reads [] ≡ None → (a : A) (end : ℕ) → (reads (word_at line at) ≡ Some a) × (word_end line at ≡ end) →
      WordSays reads line at a end
  word_says none' a end e = record {
    says = e.0;
    begins = omega (arith, word_length line at, e.1);
    ends = omega (arith, word_inside line at inside, e.1);
    words = words_first line at inside ∙ ap (λ (k : ℕ). word_at line at ∷ words_from line k) behind;
  }
    where
      go : (t : Bool) → leb at (length line) ≡ t → at ≤ length line
      go true t = leb-true at (length line) t
      go false t =
          let past = leb-false at (length line) t in
          let f : reads (word_at line at) ≡ None = ap reads (word_past line at (omega arith)).0 ∙ none' in
          let z : ◌≡◌ {A = ℕ} 0 1 = cc in
          absurd (omega arith)

      inside : at ≤ length line
      inside = go (leb at (length line)) refl

      behind : suc (word_end line at) ≡ end + 1
      behind = omega (arith, e.1)

ending_none : {A : Type 0} (o : Option A) (end : ℕ) → ending o end ≡ None → o ≡ None
ending_none None end e = refl
ending_none (Some a) end e = cc

ending_some : {A : Type 0} (o : Option A) (end : ℕ) (a : A) (e : ℕ) → ending o end ≡ Some (a, e) → (o ≡ Some a) × (end ≡ e)
ending_some None end a e f = (cc, cc)
ending_some {A} (Some b) end a e f =
    let p : ◌≡◌ {A = A × ℕ} (b, end) (a, e) = cc in
    (ap (λ (q : A × ℕ). Some q.0) p, ap (λ (q : A × ℕ). q.1) p)

module _ (highest : ℕ) (line : List ℕ) (at : ℕ) where
  pub no_number : number_at highest line at ≡ None → NotFirst (number_up_to highest) (words_from line at)
  unfolding number_at
  no_number e = not_first (number_up_to highest) line at (ending_none (number_up_to highest (word_at line at)) (word_end line at) e)

  pub number_says : (n end : ℕ) → number_at highest line at ≡ Some (n, end) → WordSays (number_up_to highest) line at n end
  unfolding number_at
  number_says n end e =
      word_says (number_up_to highest) line at (number_empty highest) n end
      (ending_some (number_up_to highest (word_at line at)) (word_end line at) n end e)

  -- "with a number outside its width": none
  pub number_bound : (n end : ℕ) → number_at highest line at ≡ Some (n, end) → n ≤ highest
  unfolding number_up_to
  number_bound n end e = within_bound highest (number (word_at line at)) n (number_says n end e).says

module _ (line : List ℕ) (at : ℕ) where
  pub no_setting : setting_at line at ≡ None → NotFirst setting (words_from line at)
  unfolding setting_at
  no_setting e = not_first setting line at (ending_none (setting (word_at line at)) (word_end line at) e)

  pub setting_says : (v : ℤ) (end : ℕ) → setting_at line at ≡ Some (v, end) → WordSays setting line at v end
  unfolding setting_at setting
  setting_says v end e = word_says setting line at refl v end (ending_some (setting (word_at line at)) (word_end line at) v end e)
