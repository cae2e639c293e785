-- Tests in turn, and what comes of them: how `Exactly` (specs/Causes.antt) is proved of a call; and `exact-routine`, `numbers_differ`.
-- Assumes nothing.
use Rattle.std.proofs.Common.{Ok, Err, Option, None, Some}
use Rattle.rules_routine.specs.declared.refusals.Refusal.TheVariants.{DevicesOutOfRange, PassLimitOutOfRange, FirstIdZero, CommandCount}
use Rattle.rules_routine.specs.declared.refusals.Refusal.TheVariants.{DeviceNotBelow, SettingOutOfRange, TagOutOfRange, SequenceFull}
use Rattle.rules_routine.specs.declared.refusals.Refusal.TheVariants.{IdsUsedUp, NotRunning, TurnInFlight, NothingInFlight}
use Rattle.rules_routine.specs.declared.refusals.Refusal.TheVariants.{ReportCodeOutOfRange, EventDevice, FailureOfDown, RestartOfUp}
use Rattle.rules_routine.specs.declared.refusals.Refusal.TheVariants.{RestartSetting, BookCutShort, BookMisplaced, BookLength, NoRoom}
use Rattle.rules_routine.specs.declared.refusals.Refusal.TheVariants.{ConditionAlone}
use Prim.Native.Nat.{ℕ, zero, suc, ◌+◌, ◌≤◌, ◌<◌}
use mathlib.Core.Path.{◌≡◌, refl, sym, ap, subst, ◌∙◌}
use mathlib.Core.Bool.{Bool, true, false, not, ◌&&◌, ◌||◌}
use mathlib.Core.Logic.{◌⊎◌, inl, inr, ◌↔◌}
use mathlib.Core.List.{List, [], ◌∷◌, ◌++◌, map}
use native.Mathlib.Omega.{arith}
use borrow.Author.Tests.{ltb-true, ltb-false, leb-true, leb-false, eqb-true, eqb-false, not-true, not-false}
use lib.Dec.{leb, ltb, eqb, lt→ltb, ltb→lt}
use lib.IntN.{ℤ, pos, negsuc}
use lib.Signed.{◌<ℤ◌, le_z}
use lib.ListN.{length}
use Rattle.rules_routine.specs.Limits.{lowest_setting, highest_setting, max_commands}
use Rattle.rules_routine.specs.Range.{in_range}
use Rattle.rules_routine.specs.Refusals.{number_of, index_of, refuse◌when◌, ◌and_then◌, numbered, indexed, Verdict}
use Rattle.rules_routine.specs.Routine.{condition_tag, highest_tag, command_check, stands_alone, commands_check, routine_check}
use Rattle.rules_routine.specs.Causes.{NoneOf, FirstIn, Exactly, RefusedAs, ByNumber, itself, NumbersDiffer, OutOfRange, command_no}
use Rattle.rules_routine.specs.Causes.{command_causes}
use Rattle.rules_routine.specs.Causes.{routine_causes}
use Rattle.rules_routine.specs.Causes.{ExactRoutine}
use Rattle.rules_routine.specs.Causes.{RoutineCause, count_is_out, device_is_out, setting_is_out, tag_is_out, condition_is_last}
use Rattle.rules_routine.specs.Causes.{conditions_follow}
use Rattle.rules_routine.specs.declared.Command.{Command}
use Rattle.rules_routine.specs.declared.refusals.Refusal.{Refusal}

-- ---- Boolean tests and what they decide

-- the test is met exactly if P holds
pub record Decides (test : Bool) (P : Type 0) : Type 0 where
  pub met : test ≡ true → P
  pub unmet : test ≡ false → ¬ P

-- the tests of order and of equality
pub less : (m n : ℕ) → Decides (ltb m n) (m < n)
less m n = record { met = ltb-true m n; unmet = λ e h. let k = ltb-false m n e in omega arith }

pub at_most : (m n : ℕ) → Decides (leb m n) (m ≤ n)
at_most m n = record { met = leb-true m n; unmet = λ e h. let k = leb-false m n e in omega arith }

pub same : (m n : ℕ) → Decides (eqb m n) (m ≡ n)
same m n = record { met = eqb-true m n; unmet = eqb-false m n }

-- a flag, and a test turned round
pub flag : (t : Bool) → Decides t (t ≡ true)
flag true = record { met = λ e. e; unmet = λ e h. let z : ◌≡◌ {A = ℕ} 0 1 = cc in absurd (omega arith) }
flag false = record { met = λ e. e; unmet = λ e h. let z : ◌≡◌ {A = ℕ} 0 1 = cc in absurd (omega arith) }

pub otherwise : {P : Type 0} (t : Bool) → Decides t P → Decides (not t) (¬ P)
otherwise t d = record { met = λ e. d.unmet (not-true t e); unmet = λ e h. h (d.met (not-false t e)) }

-- one test or the other, and both
pub either : {P Q : Type 0} (s t : Bool) → Decides s P → Decides t Q → Decides (s || t) (P ⊎ Q)
either true t d f = record { met = λ e. inl (d.met refl); unmet = λ e. let z : ◌≡◌ {A = ℕ} 0 1 = cc in absurd (omega arith) }
either false t d f = record { met = λ e. inr (f.met e); unmet = λ e. elim [ inl p ↦ d.unmet refl p | inr q ↦ f.unmet e q ] }

pub both : {P Q : Type 0} (s t : Bool) → Decides s P → Decides t Q → Decides (s && t) (P × Q)
both true t d f = record { met = λ e. (d.met refl, f.met e); unmet = λ e h. f.unmet e h.1 }
both false t d f = record { met = λ e. let z : ◌≡◌ {A = ℕ} 0 1 = cc in absurd (omega arith); unmet = λ e h. d.unmet refl h.0 }

-- what is left where the first of two is not so
pub second : {P Q : Type 0} → P ⊎ Q → ¬ P → Q
second (inl p) n = absurd (n p)
second (inr q) n = q

-- the same said in other words
pub agree : {P Q : Type 0} {t : Bool} → Decides t P → (P → Q) → (Q → P) → Decides t Q
agree d to from = record { met = λ e. to (d.met e); unmet = λ e q. d.unmet e (from q) }

-- the test of order on settings
not_at_most : (x y : ℤ) → Decides (not (le_z x y)) (y <ℤ x)
not_at_most (pos m) (pos n) = record {
  met = λ e. record { lt = lt→ltb n m (leb-false m n (not-true _ e)) };
  unmet = λ e h. let l = leb-true m n (not-false _ e) in let k = ltb→lt n m h.lt in omega arith;
}
not_at_most (pos m) (negsuc n) = record {
  met = λ e. record { lt = tt };
  unmet = λ e. let z : ◌≡◌ {A = ℕ} 0 1 = cc in absurd (omega arith);
}
not_at_most (negsuc m) (pos n) = record { met = λ e. let z : ◌≡◌ {A = ℕ} 0 1 = cc in absurd (omega arith); unmet = λ e h. h.lt }
not_at_most (negsuc m) (negsuc n) = record {
  met = λ e. record { lt = lt→ltb m n (leb-false n m (not-true _ e)) };
  unmet = λ e h. let l = leb-true n m (not-false _ e) in let k = ltb→lt m n h.lt in omega arith;
}

-- a setting is out of range: below the lowest or above the highest
not_both : (s t : Bool) → not (s && t) ≡ not s || not t
not_both true t = refl
not_both false t = refl

pub out_of_range : (z : ℤ) → Decides (not (in_range z)) (OutOfRange z)
unfolding in_range
out_of_range z =
    subst (λ (t : Bool). Decides t (OutOfRange z)) (sym (not_both (le_z lowest_setting z) (le_z z highest_setting)))
    (either _ _ (not_at_most lowest_setting z) (not_at_most z highest_setting))

-- ---- tests in turn, and what comes of them

-- Made in turn, these tests come to this verdict: that of the first whose cause is there, or acceptance.
pub data Outcome {T : Type 0} (Holds : T → Type 0) (cause_of : T → Refusal) : List T → Verdict → Type 0 where
  none : Outcome Holds cause_of [] (Ok tt)
  passed : {t : T} {ts : List T} {v : Verdict} → ¬ (Holds t) → Outcome Holds cause_of ts v → Outcome Holds cause_of (t ∷ ts) v
  broken : {t : T} {ts : List T} → Holds t → Outcome Holds cause_of (t ∷ ts) (Err (cause_of t))

module _ {T : Type 0} (Holds : T → Type 0) (cause_of : T → Refusal) where
  -- one test, made by a Boolean test that decides whether its cause is there
  pub one : (t : T) (test : Bool) → Decides test (Holds t) → Outcome Holds cause_of (t ∷ []) (refuse cause_of t when test)
  one t true d = broken (d.met refl)
  one t false d = passed (d.unmet refl) none

  -- tests behind others are made where those accept
  pub join : {ts us : List T} {v w : Verdict} → Outcome Holds cause_of ts v → (v ≡ Ok tt → Outcome Holds cause_of us w) →
      Outcome Holds cause_of (ts ++ us) (v and_then w)
  join none o = o refl
  join (passed p q) o = passed p (join q o)
  join (broken x) o = broken x

  -- accepted exactly if no cause is there
  pub accepted_passes : {ts : List T} {v : Verdict} → Outcome Holds cause_of ts v → v ≡ Ok tt → NoneOf Holds ts
  accepted_passes none e = tt
  accepted_passes (passed p q) e = (p, accepted_passes q e)
  accepted_passes (broken x) e = let z : ◌≡◌ {A = ℕ} 0 1 = cc in absurd (omega arith)

  passes_accepted : {ts : List T} {v : Verdict} → Outcome Holds cause_of ts v → NoneOf Holds ts → v ≡ Ok tt
  passes_accepted none h = refl
  passes_accepted (passed p q) h = passes_accepted q h.1
  passes_accepted (broken x) h = absurd (h.0 x)

  -- refused with r exactly if the first whose cause is there turns down with r
  refused-first : (r : Refusal) {ts : List T} {v : Verdict} → Outcome Holds cause_of ts v → v ≡ Err r →
      (t : T) × FirstIn Holds ts t × (cause_of t ≡ r)
  refused-first r none e = let z : ◌≡◌ {A = ℕ} 0 1 = cc in absurd (omega arith)
  refused-first r (passed {t = t} p q) e =
      let f = refused-first r q e in (
        f.0,
        record {
          before = t ∷ f.1.before;
          after = f.1.after;
          order = ap (λ (l : List T). t ∷ l) f.1.order;
          holds = f.1.holds;
          earlier = (p, f.1.earlier);
        },
        f.2,
      )
  refused-first r (broken {t = t} {ts = ts} x) e = (t, record { before = []; after = ts; order = refl; holds = x; earlier = tt }, cc)

  first-refused : (t : T) (after before : List T) (v : Verdict) →
      Outcome Holds cause_of (before ++ (t ∷ after)) v → NoneOf Holds before → Holds t → v ≡ Err (cause_of t)
  first-refused t after [] v (passed p q) h x = absurd (p x)
  first-refused t after [] v (broken y) h x = refl
  first-refused t after (u ∷ before) v (passed p q) h x = first-refused t after before v q h.1 x
  first-refused t after (u ∷ before) v (broken y) h x = absurd (h.0 y)

  -- So a verdict that these tests come to is exact; and with it whatever says the same as the verdict.
  pub exactly : (ts : List T) (v : Verdict) → Outcome Holds cause_of ts v →
      {RefusedWith : Refusal → Type 0} {IsAccepted : Type 0} →
      ((r : Refusal) → RefusedWith r → v ≡ Err r) → ((r : Refusal) → v ≡ Err r → RefusedWith r) →
      (IsAccepted → v ≡ Ok tt) → (v ≡ Ok tt → IsAccepted) → Exactly Holds cause_of ts RefusedWith IsAccepted
  exactly ts v o from to from-accepted to-accepted =
      record {
        refused_exactly = λ r. (
          λ x. refused-first r o (from r x),
          λ f. let g = f.1 in
              let split = subst (λ (l : List T). Outcome Holds cause_of l v) g.order o in
              to r (first-refused f.0 g.after g.before v split g.earlier g.holds ∙ ap Err f.2),
        );
        accepted_exactly = (λ x. accepted_passes o (from-accepted x), λ n. to-accepted (passes_accepted o n));
      }

-- The same said in other words.
pub reworded : {T : Type 0} {Holds : T → Type 0} {cause_of : T → Refusal} {ts : List T} {R S : Refusal → Type 0} {A B : Type 0} →
    Exactly Holds cause_of ts R A → ((r : Refusal) → R r → S r) → ((r : Refusal) → S r → R r) → (A → B) → (B → A) →
    Exactly Holds cause_of ts S B
reworded x to from to-accepted from-accepted = record {
  refused_exactly = λ r. (λ s. (x.refused_exactly r).0 (from r s), λ f. to r ((x.refused_exactly r).1 f));
  accepted_exactly = (λ b. x.accepted_exactly.0 (from-accepted b), λ n. to-accepted (x.accepted_exactly.1 n));
}

-- ---- the same tests among those of another call

-- what `More` says of these tests, `Holds` says already
abbrev pub Covers : {T : Type 0} → (T → Type 0) → (T → Type 0) → List T → Type 0
Covers Holds More [] = Unit {0}
Covers Holds More (t ∷ ts) = (More t → Holds t) × Covers Holds More ts

pub widened : {T : Type 0} (Holds More : T → Type 0) (cause_of : T → Refusal) → ((t : T) → Holds t → More t) →
    {ts : List T} {v : Verdict} → Covers Holds More ts → Outcome Holds cause_of ts v → Outcome More cause_of ts v
widened Holds More cause_of up c none = none
widened Holds More cause_of up c (passed p q) = passed (λ x. p (c.0 x)) (widened Holds More cause_of up c.1 q)
widened Holds More cause_of up c (broken x) = broken (up _ x)

-- causes as tests of another kind
pub renamed : {T : Type 0} (Holds : Refusal → Type 0) (More : T → Type 0) (cause_of : T → Refusal) (f : Refusal → T) →
    ((c : Refusal) → cause_of (f c) ≡ c) → ((c : Refusal) → Holds c → More (f c)) → ((c : Refusal) → More (f c) → Holds c) →
    {ts : List Refusal} {v : Verdict} → Outcome Holds itself ts v → Outcome More cause_of (map f ts) v
renamed Holds More cause_of f e up down none = none
renamed Holds More cause_of f e up down (passed {t = t} p q) = passed (λ x. p (down t x)) (renamed Holds More cause_of f e up down q)
renamed Holds More cause_of f e up down (broken {t = t} {ts = ts} x) =
    subst (λ (c : Refusal). Outcome More cause_of (f t ∷ map f ts) (Err c)) (e t) (broken (up t x))

-- ---- a routine

module _ (devices : ℕ) (cs : List Command) where
  -- what stands behind a cause of a routine
  count-said : RoutineCause devices cs CommandCount → (length cs ≡ 0) ⊎ (max_commands < length cs)
  count-said (count_is_out h) = h

  device-said : {i : ℕ} → RoutineCause devices cs (DeviceNotBelow i) → (i < length cs) × (devices ≤ (command_no i cs).device)
  device-said (device_is_out h k) = (h, k)

  setting-said : {i : ℕ} → RoutineCause devices cs (SettingOutOfRange i) → (i < length cs) × OutOfRange (command_no i cs).setting
  setting-said (setting_is_out h k) = (h, k)

  tag_said : {i : ℕ} → RoutineCause devices cs (TagOutOfRange i) → (i < length cs) × (highest_tag < (command_no i cs).tag)
  tag_said (tag_is_out h k) = (h, k)

  alone_said : {i : ℕ} → RoutineCause devices cs (ConditionAlone i) →
      (i < length cs) × ((command_no i cs).tag ≡ condition_tag) × ((suc i ≡ length cs) ⊎ ((command_no (suc i) cs).tag ≡ condition_tag))
  alone_said (condition_is_last h t) = (omega arith, t, inl h)
  alone_said (conditions_follow h t u) = (omega arith, t, inr u)

  -- commands that are not there are no cause
  commands-past : (n i : ℕ) → length cs ≤ i → Outcome (RoutineCause devices cs) itself (command_causes i n) (Ok tt)
  unfolding command_causes
  commands-past zero i h = none
  commands-past (suc n) i h =
      passed {t = DeviceNotBelow i} (λ x. let y = (device-said x).0 in omega arith)
      (passed {t = SettingOutOfRange i} (λ x. let y = (setting-said x).0 in omega arith)
      (passed {t = TagOutOfRange i} (λ x. let y = (tag_said x).0 in omega arith)
      (passed {t = ConditionAlone i} (λ x. let y = (alone_said x).0 in omega arith)
      (commands-past n (suc i) (omega arith)))))

  -- the commands from index i on
  record Rest (i : ℕ) (rest : List Command) : Type 0 where
    counted : length cs ≡ i + length rest
    each : (j : ℕ) → command_no (i + j) cs ≡ command_no j rest

  next-rest : {i : ℕ} {c : Command} {rest : List Command} → Rest i (c ∷ rest) → Rest (suc i) rest
  next-rest {i = i} {c = c} {rest = rest} r =
      record {
        counted = let e = r.counted in omega arith;
        each = λ j. let e : suc i + j ≡ i + suc j = omega arith in ap (λ (k : ℕ). command_no k cs) e ∙ r.each (suc j);
      }

  first_rest : {i : ℕ} {c : Command} {rest : List Command} → Rest i (c ∷ rest) → command_no i cs ≡ c
  first_rest {i = i} r = let e : i ≡ i + 0 = omega arith in ap (λ (k : ℕ). command_no k cs) e ∙ r.each 0

  -- whether the first of them is a condition that stands alone: it is last, or another follows
  alone : (i : ℕ) (c : Command) (rest : List Command) → Rest i (c ∷ rest) →
      Decides (stands_alone c rest) (RoutineCause devices cs (ConditionAlone i))
  unfolding stands_alone
  alone i c [] r =
      let last : suc i ≡ length cs = let e = r.counted in omega arith in
      let at = ap (λ (k : Command). k.tag) (first_rest r) in
      agree (same c.tag condition_tag) (λ t. condition_is_last last (at ∙ t)) (λ y. sym at ∙ (alone_said y).1)
  alone i c (d ∷ rest) r =
      let more : suc i < length cs = let e = r.counted in omega arith in
      let at = ap (λ (k : Command). k.tag) (first_rest r) in
      let next = ap (λ (k : Command). k.tag) (first_rest (next-rest r)) in
      agree (both _ _ (same c.tag condition_tag) (same d.tag condition_tag))
      (λ t. conditions_follow more (at ∙ t.0) (next ∙ t.1))
      (λ y. let a = alone_said y in (sym at ∙ a.1, sym next ∙ second a.2 (λ e. omega arith)))

  commands-outcome : (n i : ℕ) (rest : List Command) → Rest i rest → length rest ≤ n →
      Outcome (RoutineCause devices cs) itself (command_causes i n) (commands_check devices i rest)
  unfolding command_causes commands_check command_check
  commands-outcome n i [] r l = commands-past n i (let e = r.counted in omega arith)
  commands-outcome zero i (c ∷ rest) r l = absurd (omega arith)
  commands-outcome (suc n) i (c ∷ rest) r l =
      let H = RoutineCause devices cs in
      let there : i < length cs = let e = r.counted in omega arith in
      let at = first_rest r in
      let device = one H itself (DeviceNotBelow i) (leb devices c.device)
      (agree (at_most devices c.device)
      (λ x. device_is_out there (subst (λ (k : Command). devices ≤ k.device) (sym at) x))
      (λ y. subst (λ (k : Command). devices ≤ k.device) at (device-said y).1)) in
      let setting = one H itself (SettingOutOfRange i) (not (in_range c.setting))
      (agree (out_of_range c.setting)
      (λ x. setting_is_out there (subst (λ (k : Command). OutOfRange k.setting) (sym at) x))
      (λ y. subst (λ (k : Command). OutOfRange k.setting) at (setting-said y).1)) in
      let tag = one H itself (TagOutOfRange i) (ltb highest_tag c.tag)
      (agree (less highest_tag c.tag)
      (λ x. tag_is_out there (subst (λ (k : Command). highest_tag < k.tag) (sym at) x))
      (λ y. subst (λ (k : Command). highest_tag < k.tag) at (tag_said y).1)) in
      let behind = one H itself (ConditionAlone i) (stands_alone c rest) (alone i c rest r) in
      join H itself (join H itself device (λ _. join H itself setting (λ _. tag)))
      (λ _. join H itself behind (λ _. commands-outcome n (suc i) rest (next-rest r) (omega arith)))

  whole : Rest 0 cs
  whole = record { counted = omega arith; each = λ j. let e : 0 + j ≡ j = omega arith in ap (λ (k : ℕ). command_no k cs) e }

  -- the whole routine
  pub routine-outcome : Outcome (RoutineCause devices cs) itself routine_causes (routine_check devices cs)
  unfolding routine_causes routine_check
  routine-outcome =
      let H = RoutineCause devices cs in
      let bad = either _ _ (same (length cs) 0) (less max_commands (length cs)) in
      join H itself (one H itself CommandCount _ (agree bad count_is_out count-said))
      (λ fine.
      let few : ¬ (max_commands < length cs) = λ h.
      (accepted_passes H itself (one H itself CommandCount _ (agree bad count_is_out count-said)) fine).0 (count_is_out (inr h)) in
      commands-outcome max_commands 0 cs whole (omega arith))

-- the check of a routine is exact
pub exact-routine : ExactRoutine
exact-routine devices cs =
    exactly (RoutineCause devices cs) itself routine_causes (routine_check devices cs) (routine-outcome devices cs)
    (λ r e. e) (λ r e. e) (λ e. e) (λ e. e)

-- ---- a refusal tells its cause

-- the cause that a number and an index tell
abbrev told : ℕ → Option ℕ → Refusal
told n None = numbered n
told n (Some i) = indexed n i

told_is : (c : Refusal) → told (number_of c) (index_of c) ≡ c
told_is DevicesOutOfRange = refl
told_is PassLimitOutOfRange = refl
told_is FirstIdZero = refl
told_is CommandCount = refl
told_is (DeviceNotBelow i) = refl
told_is (SettingOutOfRange i) = refl
told_is (TagOutOfRange i) = refl
told_is SequenceFull = refl
told_is IdsUsedUp = refl
told_is NotRunning = refl
told_is TurnInFlight = refl
told_is NothingInFlight = refl
told_is ReportCodeOutOfRange = refl
told_is EventDevice = refl
told_is FailureOfDown = refl
told_is RestartOfUp = refl
told_is RestartSetting = refl
told_is BookCutShort = refl
told_is BookMisplaced = refl
told_is (BookLength i) = refl
told_is NoRoom = refl
told_is (ConditionAlone i) = refl

pub numbers_differ : NumbersDiffer
numbers_differ c d e f = sym (told_is c) ∙ (λ i. told (e i) (f i)) ∙ told_is d

-- what is exact is exact by number and index
pub by_number : {T : Type 0} {Holds : T → Type 0} {cause_of : T → Refusal} {tests : List T} {RefusedWith : Refusal → Type 0}
    {IsAccepted : Type 0} → Exactly Holds cause_of tests RefusedWith IsAccepted → ByNumber Holds cause_of tests RefusedWith
by_number {cause_of = cause_of} x n index = (
  λ r. let f = (x.refused_exactly r.refusal).0 r.refused in
      (f.0, f.1, ap number_of f.2 ∙ r.number, ap index_of f.2 ∙ r.with_index),
  λ f. record {
    refusal = cause_of f.0;
    refused = (x.refused_exactly (cause_of f.0)).1 (f.0, f.1, refl);
    number = f.2;
    with_index = f.3;
  },
)

-- So, where the tests are the causes themselves: a call is refused with a cause exactly if that cause is the first that holds; and likewise
-- with the cause's number and index.
pub under_its_cause : {Holds : Refusal → Type 0} {causes : List Refusal} {RefusedWith : Refusal → Type 0} {IsAccepted : Type 0} →
    Exactly Holds itself causes RefusedWith IsAccepted → (cause : Refusal) →
    (RefusedWith cause ↔ FirstIn Holds causes cause)
    × (RefusedAs RefusedWith (number_of cause) (index_of cause) ↔ FirstIn Holds causes cause)
under_its_cause {Holds = Holds} {causes = causes} x cause = (
  (
    λ r. let f = (x.refused_exactly cause).0 r in subst (FirstIn Holds causes) f.2 f.1,
    λ f. (x.refused_exactly cause).1 (cause, f, refl),
  ),
  (
    λ r. let f = (by_number x (number_of cause) (index_of cause)).0 r in
        subst (FirstIn Holds causes) (numbers_differ f.0 cause f.2 f.3) f.1,
    λ f. (by_number x (number_of cause) (index_of cause)).1 (cause, f, refl, refl),
  ),
)
