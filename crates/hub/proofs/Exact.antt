-- Each number under its cause alone, of the running hub: the theorems of the rules, carried over by the contracts. Assumes nothing.
use Rattle.std.proofs.Common.{Option, None, Some}
use Rattle.rules_routine.specs.Refusals.{Verdict}
use mathlib.Core.Path.{◌≡◌, sym, ap, subst, ◌∙◌}
use mathlib.Core.Logic.{inl, inr}
use mathlib.Core.List.{List, [], ◌∷◌, ◌++◌}
use Prim.Native.Nat.{ℕ}
use native.Mathlib.Omega.{arith}
use Rattle.rules_routine.specs.Causes.{NoneOf}
use Rattle.rules_routine.specs.declared.refusals.Refusal.{Refusal}
use Rattle.rules.specs.Answers.{Back, refused, Result}
use Rattle.rules.specs.Open.{new_hub, open_if}
use Rattle.rules.specs.Calls.{result_of}
use Rattle.rules.specs.Causes.{IsRefusal}
use Rattle.rules_routine.proofs.Exact.{reworded}
use Rattle.rules.proofs.Exact.{exact-opening, exact-calls, refused-opening, accepted-opening, opened_new, RefusedOrNot, refused_or_not}
use Rattle.hub_answers.specs.View.{put_backs_of, answer_of, event_abort_of, changes_nothing}
use Rattle.hub_answers.specs.declared.Answer.{Answer}
use Rattle.hub_answers.specs.declared.Answer.TheVariants.{Refused, Placed, Wait, Sent, Done, Skipped, Committed, Aborted, Down, Up}
use Rattle.hub_answers.specs.declared.Answer.TheVariants.{Limited}
use Rattle.hub_answers.specs.declared.Answer.TheVariants.{Held, NotHeld}
use Rattle.hub.specs.View.{view, answers_in}
use Rattle.hub.specs.Demand3.{HubCall, call_of, Meets}
use Rattle.hub.specs.Exact.{HubOpeningExact, NotRefused, HubCallsExact}
use Rattle.hub.specs.declared.Hub.{Hub}
use Rattle.hub.specs.declared.Outcome.{Outcome}
use Rattle.hub.proofs.Theorem.{met}

-- ---- the opening

pub hub-opening-exact : HubOpeningExact
hub-opening-exact n k first o g =
    let new = new_hub n k first in
    reworded (exact-opening n k first)
    (λ r e. refused-opening o.verdict (view o.hub) r (g.gives ∙ e))
    (λ r e. sym g.gives ∙ ap (λ (v : Verdict). open_if v (view o.hub)) e)
    (λ e. accepted-opening o.verdict (view o.hub) new (g.gives ∙ e))
    (λ e. opened_new n k first (view o.hub) (sym g.gives ∙ ap (λ (v : Verdict). open_if v (view o.hub)) e))

-- ---- a call

-- an answer that the rules read as a refusal is that refusal
refusal_read : (a : Answer) (l : List Back) (r : Refusal) → answer_of a l ≡ refused r → a ≡ Refused r
refusal_read (Refused x) l r e = let f : x ≡ r = cc in ap Refused f
refusal_read (Placed x) l r e = let z : ◌≡◌ {A = ℕ} 0 1 = cc in absurd (omega arith)
refusal_read (Wait i j) l r e = let z : ◌≡◌ {A = ℕ} 0 1 = cc in absurd (omega arith)
refusal_read (Sent x) l r e = let z : ◌≡◌ {A = ℕ} 0 1 = cc in absurd (omega arith)
refusal_read (Done i) l r e = let z : ◌≡◌ {A = ℕ} 0 1 = cc in absurd (omega arith)
refusal_read (Skipped i) l r e = let z : ◌≡◌ {A = ℕ} 0 1 = cc in absurd (omega arith)
refusal_read (Committed i) l r e = let z : ◌≡◌ {A = ℕ} 0 1 = cc in absurd (omega arith)
refusal_read (Aborted i) l r e = let z : ◌≡◌ {A = ℕ} 0 1 = cc in absurd (omega arith)
refusal_read (Down d i) l r e = let z : ◌≡◌ {A = ℕ} 0 1 = cc in absurd (omega arith)
refusal_read (Up d i) l r e = let z : ◌≡◌ {A = ℕ} 0 1 = cc in absurd (omega arith)
refusal_read (Limited k) l r e = let z : ◌≡◌ {A = ℕ} 0 1 = cc in absurd (omega arith)
refusal_read (Held i) l r e = let z : ◌≡◌ {A = ℕ} 0 1 = cc in absurd (omega arith)
refusal_read (NotHeld i) l r e = let z : ◌≡◌ {A = ℕ} 0 1 = cc in absurd (omega arith)

-- so if a refusal is all that the rules read, it is the answer
alone_read : (first : Option ℕ) (a : Answer) (l : List Back) (r : Refusal) →
    event_abort_of first l ++ (answer_of a l ∷ []) ≡ refused r ∷ [] → a ≡ Refused r
alone_read None a l r e = refusal_read a l r (let f : answer_of a l ≡ refused r = cc in f)
alone_read (Some i) a l r e = let z : ◌≡◌ {A = ℕ} 0 1 = cc in absurd (omega arith)

-- and if no refusal is among what they read, it is not
none_read : (first : Option ℕ) (a : Answer) (l : List Back) (r : Refusal) →
    NoneOf IsRefusal (event_abort_of first l ++ (answer_of a l ∷ [])) → ¬ (a ≡ Refused r)
none_read None a l r n e = n.0 (r, ap (λ (x : Answer). answer_of x l) e)
none_read (Some i) a l r n e = n.1.0 (r, ap (λ (x : Answer). answer_of x l) e)

module _ (h : Hub) (c : HubCall) (o : Outcome) (m : Meets h c o) where
  answers_are : answers_in o ≡ (result_of (view h) (call_of c)).answers
  answers_are = ap (λ (r : Result). r.answers) (met h c o m).gives

  answer_alone : (r : Refusal) → (result_of (view h) (call_of c)).answers ≡ refused r ∷ [] → o.answer ≡ Refused r
  answer_alone r e = alone_read o.first o.answer (put_backs_of o.put_backs) r (answers_are ∙ e)

  answer-none : NoneOf IsRefusal (result_of (view h) (call_of c)).answers → NotRefused o.answer
  answer-none n r = none_read o.first o.answer (put_backs_of o.put_backs) r (subst (NoneOf IsRefusal) (sym answers_are) n)

  alone_answer : (r : Refusal) → o.answer ≡ Refused r → (result_of (view h) (call_of c)).answers ≡ refused r ∷ []
  alone_answer r e = go (refused_or_not (view h) (call_of c))
    where
      told : (x y : Refusal) → Refused x ≡ Refused y → x ≡ y
      told x y p = cc

      go : RefusedOrNot (result_of (view h) (call_of c)).answers → (result_of (view h) (call_of c)).answers ≡ refused r ∷ []
      go (inl x) = let f : x.0 ≡ r = told x.0 r (sym (answer_alone x.0 x.1) ∙ e) in x.1 ∙ ap (λ (y : Refusal). refused y ∷ []) f
      go (inr n) = absurd (answer-none n r e)

  none-answer : NotRefused o.answer → NoneOf IsRefusal (result_of (view h) (call_of c)).answers
  none-answer f = go (refused_or_not (view h) (call_of c))
    where
      go : RefusedOrNot (result_of (view h) (call_of c)).answers → NoneOf IsRefusal (result_of (view h) (call_of c)).answers
      go (inl x) = absurd (f x.0 (answer_alone x.0 x.1))
      go (inr n) = n

pub hub-calls-exact : HubCallsExact
hub-calls-exact h c o m = record {
  exact =
      reworded (exact-calls (view h) (call_of c)).exact
      (answer_alone h c o m) (alone_answer h c o m) (answer-none h c o m) (none-answer h c o m);
  left_as_it_was = λ r e. (met h c o m).same_hub (ap changes_nothing e);
}
