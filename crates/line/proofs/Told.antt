-- What a line prints: the answers of a call, one behind another, as its decision tells them. Assumes nothing.
use Rattle.std.proofs.Common.{Option, None, Some}
use mathlib.Core.Path.{◌≡◌, refl, sym, ap, ◌∙◌, subst}
use mathlib.Core.Bool.{true, false}
use mathlib.Core.List.{List, [], ◌∷◌, ◌++◌}
use Prim.Native.Nat.{ℕ}
use native.Mathlib.Omega.{arith}
use Rattle.rules.specs.Answers.{Back, Answer as Said}
use Rattle.rules.proofs.Lists.{t≠f}
use Rattle.hub_answers.specs.View.{put_backs_of, one_of, event_abort_of, answer_of, answers_of}
use Rattle.hub_answers.specs.declared.Answer.{Answer}
use Rattle.hub_answers.specs.declared.Answer.TheVariants.{Refused, Placed, Wait, Sent, Done, Skipped, Committed, Aborted, Down, Up}
use Rattle.hub_answers.specs.declared.Answer.TheVariants.{Limited}
use Rattle.hub_answers.specs.declared.Answer.TheVariants.{Held, NotHeld}
use Rattle.hub_answers.specs.declared.PutBacks.{PutBacks}
use Rattle.hub_state.specs.Contract.{put_backs_by, put_backs_of_decision, told_by, WellTold}
use Rattle.hub_state.specs.declared.HubState.{HubState}
use Rattle.hub_state.specs.declared.Change.{Change}
use Rattle.hub_state.specs.declared.Change.TheVariants.{Nothing, Stage, Commit, Join, Abort, Fail, Restart}
use Rattle.hub_state.specs.declared.Decision.{Decision}
use Rattle.line_rules.specs.Printing.{as_line, answer_text, answers_text}
use Rattle.line_print.specs.Put.{half_text, max_text, PutShort}
use Rattle.line_print.specs.Texts.{PutBacksOnce}
use Rattle.line_print.proofs.PutLaws.{within, as_text, answers_one}
use Rattle.line.specs.Contract.{is_abort}

-- ---- the answers of a decision

-- where a routine aborts, what is put back stands beside that alone
once_plain : (f : Option ℕ) (a : Answer) (l : List Back) → f ≡ None → is_abort f a ≡ true → PutBacksOnce f a l
once_plain (Some i) a l e t = let z : ◌≡◌ {A = ℕ} 0 1 = cc in absurd (omega arith)
once_plain None (Refused x) l e t = t≠f (sym t)
once_plain None (Placed x) l e t = t≠f (sym t)
once_plain None (Wait i j) l e t = t≠f (sym t)
once_plain None (Sent x) l e t = t≠f (sym t)
once_plain None (Done i) l e t = t≠f (sym t)
once_plain None (Skipped i) l e t = t≠f (sym t)
once_plain None (Committed i) l e t = t≠f (sym t)
once_plain None (Aborted i) l e t = (i, refl)
once_plain None (Down d i) l e t = t≠f (sym t)
once_plain None (Up d i) l e t = t≠f (sym t)
once_plain None (Limited k) l e t = t≠f (sym t)
once_plain None (Held i) l e t = t≠f (sym t)
once_plain None (NotHeld i) l e t = t≠f (sym t)

-- the answer of an event puts nothing back
once-event : (f : Option ℕ) (a : Answer) (l : List Back) → is_abort None a ≡ false → answer_of a [] ≡ answer_of a l → is_abort f a ≡ true →
    PutBacksOnce f a l
once-event None a l n e t = t≠f (sym t ∙ n)
once-event (Some i) a l n e t = e

no_put_backs : {a : Answer} (x : Answer) (l m : List Back) → a ≡ x → answer_of x l ≡ answer_of x m → answer_of a l ≡ answer_of a m
no_put_backs x l m e k = subst (λ (y : Answer). answer_of y l ≡ answer_of y m) (sym e) k

pub backs_once : (f : Option ℕ) (a : Answer) (c : Change) (l : List Back) → WellTold f a c → is_abort f a ≡ true → PutBacksOnce f a l
backs_once f a Nothing l w t = once_plain f a l w t
backs_once f a (Stage c) l w t = once_plain f a l w t
backs_once f a (Commit x) l w t = once_plain f a l w t
backs_once f a (Join after) l w t = once_plain f a l w t
backs_once f a (Abort x) l w t = once_plain f a l w.0 t
backs_once f a (Fail d x) l w t = once-event f a l (ap (is_abort None) w.1) (no_put_backs (Down d w.0) [] l w.1 refl) t
backs_once f a (Restart d v x) l w t = once-event f a l (ap (is_abort None) w.1) (no_put_backs (Up d w.0) [] l w.1 refl) t

-- no abort: one answer, with what the decision has
told_plain : (f : Option ℕ) (a : Answer) (l m : List Back) → is_abort f a ≡ false → answer_of a m ≡ answer_of a l →
    event_abort_of f m ++ (answer_of a m ∷ []) ≡ answer_of a l ∷ []
told_plain None a l m t e = ap (λ (x : Said). x ∷ []) e
told_plain (Some i) a l m t e = t≠f t

told-one : (h : HubState) (f : Option ℕ) (a : Answer) (c : Change) (l : List Back) → WellTold f a c → is_abort f a ≡ false →
    event_abort_of f (put_backs_by h l c) ++ (answer_of a (put_backs_by h l c) ∷ []) ≡ answer_of a l ∷ []
told-one h f a Nothing l w t = told_plain f a l l t refl
told-one h f a (Stage c) l w t = told_plain f a l l t refl
told-one h f a (Commit x) l w t = told_plain f a l l t refl
told-one h f a (Join after) l w t = told_plain f a l l t refl
told-one h f a (Abort x) l w t =
    let yes : is_abort f a ≡ true = λ j. is_abort (w.0 j) (w.1.1 j) in
    t≠f (sym yes ∙ t)
told-one h f a (Fail d x) l w t =
    let m = put_backs_by h l (Fail d x) in
    told_plain f a l m t (no_put_backs (Down d w.0) m l w.1 refl)
told-one h f a (Restart d v x) l w t =
    let m = put_backs_by h l (Restart d v x) in
    told_plain f a l m t (no_put_backs (Up d w.0) m l w.1 refl)

pub put-told : (h : HubState) (d : Decision) {a b : List ℕ} {end : ℕ} → WellTold d.first d.answer d.change →
    is_abort d.first d.answer ≡ false →
    PutShort half_text a b 0 end (as_line (answer_text (answer_of d.answer (one_of d.back)))) →
    PutShort max_text a b 0 end (answers_text (told_by h d))
put-told h d w t p =
    as_text
    (sym (answers_one (answer_of d.answer (one_of d.back)))
    ∙ ap answers_text (sym (told-one h d.first d.answer d.change (one_of d.back) w t)))
    (within (omega arith) p)

-- an abort, with what it puts back
pub put_left : (h : HubState) (d : Decision) (backs : PutBacks) {a b : List ℕ} {end : ℕ} → put_backs_of backs ≡ put_backs_of_decision h d →
    PutShort max_text a b 0 end (answers_text (answers_of d.first d.answer backs)) →
    PutShort max_text a b 0 end (answers_text (told_by h d))
put_left h d backs e p = as_text (ap (λ (l : List Back). answers_text (event_abort_of d.first l ++ (answer_of d.answer l ∷ []))) e) p
