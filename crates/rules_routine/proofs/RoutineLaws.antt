-- Laws of the definitions that callers cite, so that no caller opens them. Assumes nothing.
use Rattle.std.proofs.Common.{Ok, Err}
use Rattle.rules_routine.specs.declared.refusals.Refusal.TheVariants.{CommandCount, DeviceNotBelow, SettingOutOfRange, TagOutOfRange, ConditionAlone}
use Prim.Native.Nat.{ℕ, zero, suc, ◌+◌, ◌-◌, ◌≤◌, ◌<◌, ◌^◌}
use mathlib.Core.Path.{◌≡◌, refl, sym, ap, ◌∙◌}
use mathlib.Core.Bool.{Bool, true, false, not, ◌&&◌, ◌||◌}
use mathlib.Core.List.{List, [], ◌∷◌, ◌++◌, map, append_assoc}
use native.Mathlib.Nat.{suc-add, add-suc, add-zero}
use native.Mathlib.Numerals.{add-one}
use native.Mathlib.Omega.{arith}
use borrow.Author.Tests.{lt-ltb, le-ltb, le-leb, lt-leb, eq-eqb, ne_eqb, ltb-false, leb-false, eqb-false, not-false}
use lib.Dec.{leb, ltb, eqb}
use lib.IntN.{pos, negsuc}
use lib.Signed.{mag}
use lib.ListN.{length, take, get_or, set, replicate, length-append, length-replicate, length-map}
use lib.Seq.{sets, set_at, take-append_seam, slice, slice-cons, slice_empty, take-append-le, length-take-le}
use Rattle.std.specs.Prelude.{if◌then◌else◌}
use Rattle.rules_routine.specs.Limits.{lowest_setting, highest_setting, max_commands}
use Rattle.rules_routine.specs.Range.{in_range}
use Rattle.rules_routine.specs.Refusals.{refuse◌when◌, ◌and_then◌, Verdict}
use Rattle.rules_routine.specs.Routine.{condition_tag, highest_tag, zero_command, commands_of, routine_of, with_command}
use Rattle.rules_routine.specs.Routine.{command_check, stands_alone, commands_check, routine_check}
use Rattle.rules_routine.specs.declared.Command.{Command}
use Rattle.rules_routine.specs.declared.refusals.Refusal.{Refusal}
use Rattle.rules_routine.specs.declared.Routine.{Routine}

-- ---- verdicts and tests

-- both of two verdicts in turn accept
pub both_accept : (v w : Verdict) → v and_then w ≡ Ok tt → (v ≡ Ok tt) × (w ≡ Ok tt)
both_accept (Ok tt) w e = (refl, e)
both_accept (Err r) w e = let z : ◌≡◌ {A = ℕ} 0 1 = cc in absurd (omega arith)

pub accept_both : (v w : Verdict) → v ≡ Ok tt → w ≡ Ok tt → v and_then w ≡ Ok tt
accept_both v w e f = rw (e, f)

-- a test that accepts was not met
pub not-refused : (cause : Refusal) (t : Bool) → refuse cause when t ≡ Ok tt → t ≡ false
not-refused cause true e = let z : ◌≡◌ {A = ℕ} 0 1 = cc in absurd (omega arith)
not-refused cause false e = refl

-- to prove a thing of a test, prove it of each outcome
pub by_test {ℓ} : (P : Bool → Type ℓ) (t : Bool) → (t ≡ true → P true) → (t ≡ false → P false) → P t
by_test P true yes' no' = yes' refl
by_test P false yes' no' = no' refl

pub or-false : (s t : Bool) → s || t ≡ false → (s ≡ false) × (t ≡ false)
or-false true t e = let z : ◌≡◌ {A = ℕ} 0 1 = cc in absurd (omega arith)
or-false false t e = (refl, e)

pub and-true : (s t : Bool) → s && t ≡ true → (s ≡ true) × (t ≡ true)
and-true true t e = (refl, e)
and-true false t e = let z : ◌≡◌ {A = ℕ} 0 1 = cc in absurd (omega arith)

-- ---- settings

-- a setting is in range if it is no farther from 0 than the highest, or the lowest (`mag` is n of n and of −(n + 1))
pub in_range_pos : (n : ℕ) → in_range (pos n) ≡ leb n (mag highest_setting)
unfolding in_range
in_range_pos n = refl

pub in_range_negsuc : (n : ℕ) → in_range (negsuc n) ≡ leb n (mag lowest_setting)
unfolding in_range
in_range_negsuc n = by_test (λ (t : Bool). t && true ≡ t) (leb n (mag lowest_setting)) (λ _. refl) (λ _. refl)

-- ---- arrays

-- an array that a struct holds stands in what is known of it at `map` of the identity
pub length_mapped : (X Y : Type 0) (f : X → Y) (l : List X) (n : ℕ) → length (map f l) ≡ n → length l ≡ n
length_mapped X Y f l n p = sym (length-map l f) ∙ p

-- what stands past the end does not matter inside
pub any_default : {A : Type 0} (l : List A) (i : ℕ) (x y : A) → i < length l → get_or l i x ≡ get_or l i y
any_default [] i x y h = absurd (omega arith)
any_default (a ∷ l) zero x y h = refl
any_default (a ∷ l) (suc i) x y h = any_default l i x y (omega arith)

-- values stored from a place on, then others behind them
pub sets_append : (vs ws l : List ℕ) (i : ℕ) → sets l i (vs ++ ws) ≡ sets (sets l i vs) (i + length vs) ws
sets_append [] ws l i = ap (λ (k : ℕ). sets l k ws) (sym (add-zero i))
sets_append (v ∷ vs) ws l i = sets_append vs ws (set l i v) (suc i)
    ∙ ap (λ (k : ℕ). sets (sets (set l i v) (suc i) vs) k ws) (suc-add i (length vs) ∙ sym (add-suc i (length vs)))

-- ---- the commands of a routine

-- there are as many as its count says
pub length-commands_of : (r : Routine) → length (commands_of r) ≡ r.count
unfolding commands_of
length-commands_of r =
    length-take-le r.count (r.commands ++ replicate r.count zero_command)
    (omega (arith, length-append r.commands (replicate r.count zero_command), length-replicate r.count zero_command))

-- and they are the first ones it holds, where it can hold them
pub commands_of-held : (r : Routine) → r.count ≤ length r.commands → commands_of r ≡ take r.count r.commands
unfolding commands_of
commands_of-held r h = take-append-le r.count r.commands (replicate r.count zero_command) h

-- ---- a routine as it is held

pub routine_of-commands : (cs : List Command) → length cs ≤ max_commands → commands_of (routine_of cs) ≡ cs
unfolding routine_of
routine_of-commands cs h =
    let zs = replicate (max_commands - length cs) zero_command in
    commands_of-held (routine_of cs) (omega (arith, length-append cs zs)) ∙ take-append_seam cs zs

pub routine_of-count : (cs : List Command) → (routine_of cs).count ≡ length cs
unfolding routine_of
routine_of-count cs = refl

-- one command more
pub with_more : (cs : List Command) (c : Command) → length cs < max_commands → with_command (routine_of cs) c ≡ routine_of (cs ++ (c ∷ []))
unfolding with_command routine_of
with_more cs c h = λ i. record { commands = commands i; count = counts i }
  where
    counts : (if ltb (length cs) (2 ^ 64 - 1) then length cs + 1 else length cs) ≡ length (cs ++ (c ∷ []))
    counts = rw (lt-ltb (length cs) (2 ^ 64 - 1) (omega arith)) (sym (length-append cs (c ∷ [])))

    rest : ℕ → List Command
    rest n = replicate n zero_command

    left : max_commands - length cs ≡ suc (max_commands - length (cs ++ (c ∷ [])))
    left = omega (arith, length-append cs (c ∷ []))

    commands : set (cs ++ rest (max_commands - length cs)) (length cs) c ≡ (cs ++ (c ∷ [])) ++ rest (max_commands - length (cs ++ (c ∷ [])))
    commands =
        ap (λ (n : ℕ). set (cs ++ rest n) (length cs) c) left
        ∙ set_at cs zero_command (rest (max_commands - length (cs ++ (c ∷ [])))) c (length cs) refl
        ∙ sym (append_assoc cs (c ∷ []) (rest (max_commands - length (cs ++ (c ∷ [])))))

-- ---- the check of a command, by its tests

module _ (devices i : ℕ) (c : Command) where
  pub command_device : devices ≤ c.device → command_check devices i c ≡ Err (DeviceNotBelow i)
  unfolding command_check
  command_device h = simp (le-leb devices c.device h)

  pub command_setting : c.device < devices → in_range c.setting ≡ false →
      command_check devices i c ≡ Err (SettingOutOfRange i)
  unfolding command_check
  command_setting h e = simp (lt-leb devices c.device h, e)

  pub command_tag : c.device < devices → in_range c.setting ≡ true → highest_tag < c.tag →
      command_check devices i c ≡ Err (TagOutOfRange i)
  unfolding command_check
  command_tag h e t = simp (lt-leb devices c.device h, e, lt-ltb highest_tag c.tag t)

  pub command_fine : c.device < devices → in_range c.setting ≡ true → c.tag ≤ highest_tag → command_check devices i c ≡ Ok tt
  unfolding command_check
  command_fine h e t = simp (lt-leb devices c.device h, e, le-ltb highest_tag c.tag t)

  -- the other way round
  pub command-accepted : command_check devices i c ≡ Ok tt → (c.device < devices) × (in_range c.setting ≡ true) × (c.tag ≤ highest_tag)
  unfolding command_check
  command-accepted e =
      let x = both_accept (refuse (DeviceNotBelow i) when leb devices c.device) _ e in
      let y = both_accept (refuse (SettingOutOfRange i) when not (in_range c.setting)) _ x.1 in (
        leb-false devices c.device (not-refused (DeviceNotBelow i) _ x.0),
        not-false _ (not-refused (SettingOutOfRange i) _ y.0),
        ltb-false highest_tag c.tag (not-refused (TagOutOfRange i) _ y.1),
      )

-- ---- the check of a routine

pub check_counted : (devices : ℕ) (cs : List Command) → 0 < length cs → length cs ≤ max_commands →
    routine_check devices cs ≡ commands_check devices 0 cs
unfolding routine_check
check_counted devices cs h k = simp (ne_eqb (length cs) 0 (λ e. omega arith), le-ltb max_commands (length cs) k)

pub check_empty : (devices : ℕ) (cs : List Command) → length cs ≡ 0 → routine_check devices cs ≡ Err CommandCount
unfolding routine_check
check_empty devices cs h = simp (eq-eqb (length cs) 0 h)

pub check_long : (devices : ℕ) (cs : List Command) → max_commands < length cs → routine_check devices cs ≡ Err CommandCount
unfolding routine_check
check_long devices cs h = simp (ne_eqb (length cs) 0 (λ e. omega arith), lt-ltb max_commands (length cs) h)

-- the other way round
pub check_accepted : (devices : ℕ) (cs : List Command) → routine_check devices cs ≡ Ok tt →
    (0 < length cs) × (length cs ≤ max_commands) × (commands_check devices 0 cs ≡ Ok tt)
unfolding routine_check
check_accepted devices cs e =
    let a = both_accept (refuse CommandCount when (eqb (length cs) 0 || ltb max_commands (length cs))) _ e in
    let t = or-false _ _ (not-refused CommandCount _ a.0) in
    let n = eqb-false (length cs) 0 t.0 in
    (omega arith, ltb-false max_commands (length cs) t.1, a.1)

-- a routine that its struct holds
pub check_held : (devices : ℕ) (r : Routine) → length r.commands ≡ max_commands → 0 < r.count → r.count ≤ max_commands →
    routine_check devices (commands_of r) ≡ commands_check devices 0 (take r.count r.commands)
check_held devices r l h k =
    let e = length-commands_of r in
    check_counted devices (commands_of r) (omega arith) (omega arith)
    ∙ ap (λ (cs : List Command). commands_check devices 0 cs) (commands_of-held r (omega arith))

-- ---- a condition that is last or is followed by another, by its tests

-- a command that is no condition
pub alone_command : (c : Command) (rest : List Command) → (c.tag ≡ condition_tag → ⊥) → stands_alone c rest ≡ false
unfolding stands_alone
alone_command c [] t = ne_eqb c.tag condition_tag t
alone_command c (d ∷ rest) t = simp (ne_eqb c.tag condition_tag t)

-- a condition, with those behind it that stand from index i on and are of the first n
module _ (c : Command) (cs : List Command) (i n : ℕ) (t : c.tag ≡ condition_tag) where
  pub alone_last : n ≤ i → i ≤ n → stands_alone c (slice i n cs) ≡ true
  unfolding stands_alone
  alone_last h k = let e : i ≡ n = omega arith in rw (e, slice_empty n cs) (eq-eqb c.tag condition_tag t)

  pub alone_followed : i < n → n ≤ length cs → stands_alone c (slice i n cs) ≡ eqb (get_or cs i zero_command).tag condition_tag
  unfolding stands_alone
  alone_followed h k = simp (slice-cons i n cs zero_command h k, eq-eqb c.tag condition_tag t)

-- ---- the commands in turn: what is left from index i

module _ (devices : ℕ) (cs : List Command) (i n : ℕ) (h : i < n) (k : n ≤ length cs) where
  pub commands-more : command_check devices i (get_or cs i zero_command) ≡ Ok tt →
      stands_alone (get_or cs i zero_command) (slice (i + 1) n cs) ≡ false →
      commands_check devices i (slice i n cs) ≡ commands_check devices (i + 1) (slice (i + 1) n cs)
  unfolding commands_check
  commands-more e a = let b = rw (add-one i) at a in rw (slice-cons i n cs zero_command h k, e, add-one i, b)

  pub commands-refused : (r : Refusal) → command_check devices i (get_or cs i zero_command) ≡ Err r →
      commands_check devices i (slice i n cs) ≡ Err r
  unfolding commands_check
  commands-refused r e = rw (slice-cons i n cs zero_command h k, e)

  pub commands_alone : command_check devices i (get_or cs i zero_command) ≡ Ok tt →
      stands_alone (get_or cs i zero_command) (slice (i + 1) n cs) ≡ true →
      commands_check devices i (slice i n cs) ≡ Err (ConditionAlone i)
  unfolding commands_check
  commands_alone e a = let b = rw (add-one i) at a in rw (slice-cons i n cs zero_command h k, e, b)

pub commands_end : (devices : ℕ) (cs : List Command) (i n : ℕ) → i ≤ n → n ≤ i → commands_check devices i (slice i n cs) ≡ Ok tt
unfolding commands_check
commands_end devices cs i n h k = let e : i ≡ n = omega arith in rw (e, slice_empty n cs)

-- the other way round: so callers open no check of commands
pub commands-accepted : (devices i : ℕ) (c : Command) (cs : List Command) → commands_check devices i (c ∷ cs) ≡ Ok tt →
    (command_check devices i c ≡ Ok tt) × (stands_alone c cs ≡ false) × (commands_check devices (suc i) cs ≡ Ok tt)
unfolding commands_check
commands-accepted devices i c cs e =
    let a = both_accept (command_check devices i c) _ e in
    let b = both_accept (refuse (ConditionAlone i) when stands_alone c cs) _ a.1 in
    (a.0, not-refused (ConditionAlone i) _ b.0, b.1)
