-- Texts put one behind another, and the texts of answers. Assumes nothing.
use Rattle.std.proofs.Common.{Option, None, Some}
use mathlib.Core.Path.{◌≡◌, refl, sym, ap, ap₂, ◌∙◌, subst}
use mathlib.Core.Bool.{true, false}
use mathlib.Core.List.{List, [], ◌∷◌, ◌++◌, append-nil, append_assoc, map, map-append}
use Prim.Native.Nat.{ℕ, zero, suc, ◌+◌, ◌≤◌, ◌<◌}
use native.Mathlib.Nat.{add-zero, zero-add}
use native.Mathlib.Numerals.{add-one}
use native.Mathlib.Omega.{arith}
use borrow.Author.Tests.{ltb-true}
use lib.IntN.{ℤ, pos, negsuc, nat_abs}
use lib.ListN.{length, take, drop, get_or, length-append, length-map}
use lib.Seq.{sets, sets-eq, length-sets, take_at, take-suc, length-take-le}
use lib.Signed.{lt_z}
use mir.Syntax.{w16}
use mir.Val.{SFits, to_z, of_z}
use mir.Facts.{to_z-of_z}
use Rattle.rules_routine.proofs.RoutineLaws.{sets_append}
use Rattle.rules.specs.Answers.{Back, Answer as Said, aborted}
use Rattle.hub_answers.specs.View.{back_of, put_backs_of, answer_of, answers_of}
use Rattle.hub_answers.specs.declared.Answer.{Answer}
use Rattle.hub_answers.specs.declared.Answer.TheVariants.{Aborted}
use Rattle.hub_answers.specs.declared.PutBack.{PutBack}
use Rattle.hub_answers.specs.declared.PutBacks.{PutBacks}
use Rattle.line_rules.specs.Text.{minus, bytes, decimal, signed}
use Rattle.line_rules.specs.Printing.{as_line, back_list, answer_text, answers_text}
use Rattle.line_print.specs.Put.{half_text, max_text, Put, PutShort}
use Rattle.line_print.specs.Texts.{PutBacksOnce, line_of, lines_from}
use Rattle.line_print.specs.declared.Devices.{Devices}

-- ---- one behind another

pub put-none : (a : List ℕ) (at : ℕ) → Put a a at at []
put-none a at = record { is = refl; ends = omega arith }

pub put_then : {a b c : List ℕ} {at m e : ℕ} {t u : List ℕ} → Put a b at m t → Put b c m e u → Put a c at e (t ++ u)
put_then {a} {b} {c} {at} {m} {e} {t} {u} p q = record {
  is = q.is ∙ ap₂ (λ (l : List ℕ) (k : ℕ). sets l k u) p.is p.ends ∙ sym (sets_append t u a at);
  ends = omega (arith, p.ends, q.ends, length-append t u);
}

pub short_then : {j k : ℕ} {a b c : List ℕ} {at m e : ℕ} {t u : List ℕ} → PutShort j a b at m t → PutShort k b c m e u →
    PutShort (j + k) a c at e (t ++ u)
short_then {t = t} {u = u} p q = record { put = put_then p.put q.put; short = omega (arith, p.short, q.short, length-append t u) }

-- as much room as this text takes
pub exactly : {a b : List ℕ} {at e : ℕ} {t : List ℕ} → Put a b at e t → PutShort (length t) a b at e t
exactly p = record { put = p; short = omega arith }

pub within : {j k : ℕ} {a b : List ℕ} {at e : ℕ} {t : List ℕ} → j ≤ k → PutShort j a b at e t → PutShort k a b at e t
within h p = record { put = p.put; short = omega (arith, p.short) }

-- a word and a text behind it
pub shorter : (t u : List ℕ) {k : ℕ} {a b : List ℕ} {at e : ℕ} → Put a b at e (t ++ u) → length u ≤ k →
    PutShort (length t + k) a b at e (t ++ u)
shorter t u p h = record { put = p; short = omega (arith, length-append t u) }

pub as_text : {k : ℕ} {a b : List ℕ} {at e : ℕ} {t u : List ℕ} → t ≡ u → PutShort k a b at e t → PutShort k a b at e u
as_text {k} {a} {b} {at} {e} h p = subst (λ (l : List ℕ). PutShort k a b at e l) h p

-- where the next begins
pub reaches : {k : ℕ} {a b : List ℕ} {at e : ℕ} {t : List ℕ} → PutShort k a b at e t → e ≤ at + k
reaches p = omega (arith, p.put.ends, p.short)

-- ---- a text in a buffer in which it fits

module _ {most : ℕ} {before after : List ℕ} {end : ℕ} {text : List ℕ} (p : PutShort most before after 0 end text) where
  pub same-room : length after ≡ length before
  same-room = ap length p.put.is ∙ length-sets before 0 text

  pub end_is : end ≡ length text
  end_is = p.put.ends ∙ zero-add (length text)

  -- what stands there is the text
  pub stands-there : most ≤ length before → take end after ≡ text
  stands-there fits =
      ap (take end) (p.put.is ∙ sets-eq text before 0 (omega (arith, p.short)))
      ∙ take_at text (drop (0 + length text) before) end (sym end_is)

  -- and so it is put where it is copied to
  pub copied : {out out' : List ℕ} {at at' : ℕ} → most ≤ length before → Put out out' at at' (take end after) →
      PutShort most out out' at at' text
  copied {out} {out'} {at} {at'} fits q =
      record { put = subst (λ (t : List ℕ). Put out out' at at' t) (stands-there fits) q; short = p.short }

-- ---- the texts of answers

abbrev pub one_back : Back → List ℕ
one_back b = bytes " " ++ decimal b.device ++ bytes " " ++ signed b.setting

pub back_one : (b : Back) → back_list (b ∷ []) ≡ one_back b
unfolding back_list
back_one b = append-nil (one_back b)

pub back_more : (l : List Back) (b : Back) → back_list (l ++ (b ∷ [])) ≡ back_list l ++ back_list (b ∷ [])
unfolding back_list
back_more [] b = refl
back_more (c ∷ l) b = ap (λ (k : List ℕ). one_back c ++ k) (back_more l b) ∙ sym (append_assoc (one_back c) (back_list l) (back_list (b ∷ [])))

-- one put-back more
pub backs_next : (l : List PutBack) (i : ℕ) (z : PutBack) → i < length l →
    back_list (map back_of (take (i + 1) l)) ≡ back_list (map back_of (take i l)) ++ back_list (back_of (get_or l i z) ∷ [])
backs_next l i z h =
    ap (λ (k : ℕ). back_list (map back_of (take k l))) (add-one i)
    ∙ ap (λ (k : List PutBack). back_list (map back_of k)) (take-suc l i z h)
    ∙ ap back_list (map-append back_of (take i l) (get_or l i z ∷ []))
    ∙ back_more (map back_of (take i l)) (back_of (get_or l i z))

-- there are as many as are counted
pub backs_count : (b : PutBacks) → b.count ≤ length b.items → length (put_backs_of b) ≡ b.count
backs_count b h = length-map (take b.count b.items) back_of ∙ length-take-le b.count b.items h

-- the answers of a call, for who prints them one by one
pub answers_one : (a : Said) → answers_text (a ∷ []) ≡ as_line (answer_text a)
unfolding answers_text
answers_one a = append-nil (as_line (answer_text a))

pub answers-append : (k l : List Said) → answers_text (k ++ l) ≡ answers_text k ++ answers_text l
unfolding answers_text
answers-append [] l = refl
answers-append (a ∷ k) l =
    ap (λ (t : List ℕ). as_line (answer_text a) ++ t) (answers-append k l)
    ∙ sym (append_assoc (as_line (answer_text a)) (answers_text k) (answers_text l))

-- ---- the answers of an abort

module _ {first : Option ℕ} (answer : Answer) (backs : PutBacks) {a b : List ℕ} {at m : ℕ} where
  -- the call's own
  pub put_own : (i : ℕ) → first ≡ None → answer ≡ Aborted i →
      PutShort half_text a b at m (as_line (answer_text (aborted i (put_backs_of backs)))) →
      PutShort max_text a b at m (answers_text (answers_of first answer backs))
  put_own i e k p =
      as_text
      (sym (answers_one (aborted i (put_backs_of backs))) ∙ (λ j. answers_text (answers_of (sym e j) (sym k j) backs)))
      (within (omega arith) p)

  -- one before the answer
  pub put_both : {c : List ℕ} {end : ℕ} (i : ℕ) → first ≡ Some i → PutBacksOnce first answer (put_backs_of backs) →
      PutShort half_text a b at m (as_line (answer_text (aborted i (put_backs_of backs)))) →
      PutShort half_text b c m end (as_line (answer_text (answer_of answer []))) →
      PutShort max_text a c at end (answers_text (answers_of first answer backs))
  put_both i e k p q =
      let l = put_backs_of backs in
      let once = subst (λ (f : Option ℕ). PutBacksOnce f answer l) e k in
      as_text
      (sym
      (ap (λ (f : Option ℕ). answers_text (answers_of f answer backs)) e
      ∙ answers-append (aborted i l ∷ []) (answer_of answer l ∷ [])
      ∙ (λ j. answers_one (aborted i l) j ++ answers_one (sym once j) j)))
      (short_then p q)

-- ---- the device lines

lines_more : (t : Devices) (d n : ℕ) → lines_from t d (suc n) ≡ lines_from t d n ++ line_of t (d + n)
unfolding lines_from
lines_more t d zero = append-nil (line_of t d) ∙ ap (line_of t) (sym (add-zero d))
lines_more t d (suc n) =
    let e : suc d + n ≡ d + suc n = omega arith in
    ap (λ (l : List ℕ). line_of t d ++ l) (lines_more t (suc d) n)
    ∙ sym (append_assoc (line_of t d) (lines_from t (suc d) n) (line_of t (suc d + n)))
    ∙ ap (λ (k : ℕ). lines_from t d (suc n) ++ line_of t k) e

pub lines_next : (t : Devices) (n : ℕ) → lines_from t 0 (n + 1) ≡ lines_from t 0 n ++ line_of t n
lines_next t n = ap (lines_from t 0) (add-one n) ∙ lines_more t 0 n ∙ ap (λ (k : ℕ). lines_from t 0 n ++ line_of t k) (zero-add n)

-- ---- a setting, as the code has it

pub kept : (v : ℤ) → SFits w16 v → to_z w16 (of_z w16 v) ≡ v
kept v h = to_z-of_z h

-- below 0 a minus stands before its size
pub signed_below : (v : ℤ) → lt_z v (pos 0) ≡ true → signed v ≡ minus ∷ decimal (nat_abs v)
unfolding signed
signed_below (pos n) h = absurd (omega (arith, ltb-true n 0 h))
signed_below (negsuc n) h = refl

pub signed_above : (v : ℤ) → lt_z v (pos 0) ≡ false → signed v ≡ decimal (nat_abs v)
unfolding signed
signed_above (pos n) h = refl
signed_above (negsuc n) h = let z : ◌≡◌ {A = ℕ} 0 1 = cc in absurd (omega arith)
