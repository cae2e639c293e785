-- Document 01, "When a call is turned down": "each number under its cause alone". What that means of any call; and the causes of a
-- routine, 4 to 7 and 22, each said by itself in the table's words. The causes of the hub's calls stand in `specs/Causes.antt` of crate
-- `rules`, those of writing a book in `specs/WritingCauses.antt` of crate `book_layout`, those of reading one in `specs/Claims.antt` there.
-- Assumes nothing.
use Rattle.rules_routine.specs.declared.refusals.Refusal.TheVariants.{CommandCount, DeviceNotBelow, SettingOutOfRange, TagOutOfRange, ConditionAlone}
use Rattle.std.specs.Prelude.{◌≡◌, ◌⊎◌, ◌↔◌, List, [], ◌∷◌, ◌++◌, ℕ, zero, suc, ◌<◌, ◌≤◌, ℤ, ◌<ℤ◌, length, get_or, Option, Ok, Err}
use Rattle.rules_routine.specs.Refusals.{number_of, index_of}
use Rattle.rules_routine.specs.Limits.{lowest_setting, highest_setting, max_commands}
use Rattle.rules_routine.specs.Routine.{highest_tag, condition_tag, zero_command, routine_check}
use Rattle.rules_routine.specs.declared.Command.{Command}
use Rattle.rules_routine.specs.declared.refusals.Refusal.{Refusal}

-- ---- each number under its cause alone

-- P holds of none of the list.
abbrev pub NoneOf : {A : Type 0} → (A → Type 0) → List A → Type 0
NoneOf P [] = Unit {0}
NoneOf P (x ∷ l) = ¬ (P x) × NoneOf P l

-- x is the first of the list of which P holds: it stands in the list, P holds of it, and of none before it.
pub record FirstIn {A : Type 0} (P : A → Type 0) (l : List A) (x : A) : Type 0 where
  pub before : List A
  pub after : List A
  pub order : l ≡ before ++ (x ∷ after)
  pub holds : P x
  pub earlier : NoneOf P before

-- A call is tested for causes, in the order that document 01 gives: `tests` is that list, `cause_of` the cause of each test, and `Holds`
-- says when a cause holds of the call. The call is refused with r exactly if r is the first cause that holds: that cause holds and none
-- that is tested before it does; so what is told is the table's number (and index) of it. It is accepted exactly if no cause holds.
pub record Exactly {T : Type 0} (Holds : T → Type 0) (cause_of : T → Refusal) (tests : List T)
    (RefusedWith : Refusal → Type 0) (IsAccepted : Type 0) : Type 0 where
  pub refused_exactly : (r : Refusal) → RefusedWith r ↔ ((t : T) × FirstIn Holds tests t × (cause_of t ≡ r))
  pub accepted_exactly : IsAccepted ↔ NoneOf Holds tests

-- A call is refused with a number of the table, and with the index that comes with it, if one does.
pub record RefusedAs (RefusedWith : Refusal → Type 0) (n : ℕ) (index : Option ℕ) : Type 0 where
  pub refusal : Refusal
  pub refused : RefusedWith refusal
  pub number : number_of refusal ≡ n
  pub with_index : index_of refusal ≡ index

-- `Exactly`, told by number and index: a call is refused with a number and an index exactly if they are the table's of the first cause that
-- holds. The theorem is `by_number` (proofs/Exact.antt).
abbrev pub ByNumber : {T : Type 0} → (T → Type 0) → (T → Refusal) → List T → (Refusal → Type 0) → Type 0
ByNumber {T = T} Holds cause_of tests RefusedWith =
    (n : ℕ) (index : Option ℕ) →
    RefusedAs RefusedWith n index ↔
    ((t : T) × FirstIn Holds tests t × (number_of (cause_of t) ≡ n) × (index_of (cause_of t) ≡ index))

-- The cause of a test, where the tests are the causes themselves.
abbrev pub itself : Refusal → Refusal
itself cause = cause

-- No two causes have the same number and index, so that a refusal tells its cause. The theorem is `numbers_differ` (proofs/Exact.antt).
abbrev pub NumbersDiffer : Type 0
NumbersDiffer = (c d : Refusal) → number_of c ≡ number_of d → index_of c ≡ index_of d → c ≡ d

-- ---- the causes of a routine

-- "setting out of range"
abbrev pub OutOfRange : ℤ → Type 0
OutOfRange z = (z <ℤ lowest_setting) ⊎ (highest_setting <ℤ z)

-- The command at index i, where there is one: where i is below the number of commands.
abbrev pub command_no : ℕ → List Command → Command
command_no i cs = get_or cs i zero_command

-- This cause holds of a routine of these commands, against a number of devices: N in the hub, 32 in a book.
pub data RoutineCause (devices : ℕ) (cs : List Command) : Refusal → Type 0 where
  -- 4: "routine of 0 or over 8 commands"
  count_is_out : (length cs ≡ 0) ⊎ (max_commands < length cs) → RoutineCause devices cs CommandCount
  -- 5, at index i: "device not below N (32 in a book)"
  device_is_out : {i : ℕ} → i < length cs → devices ≤ (command_no i cs).device → RoutineCause devices cs (DeviceNotBelow i)
  -- 6, at index i: "setting out of range"
  setting_is_out : {i : ℕ} → i < length cs → OutOfRange (command_no i cs).setting → RoutineCause devices cs (SettingOutOfRange i)
  -- 7, at index i: a "tag above 2"
  tag_is_out : {i : ℕ} → i < length cs → highest_tag < (command_no i cs).tag → RoutineCause devices cs (TagOutOfRange i)
  -- 22, at index i: "when a condition is last in its routine or is followed by another condition"
  condition_is_last : {i : ℕ} → suc i ≡ length cs → (command_no i cs).tag ≡ condition_tag → RoutineCause devices cs (ConditionAlone i)
  conditions_follow : {i : ℕ} → suc i < length cs → (command_no i cs).tag ≡ condition_tag → (command_no (suc i) cs).tag ≡ condition_tag →
      RoutineCause devices cs (ConditionAlone i)

-- "the commands in turn, each 5, 6, 7", then 22: those of n commands from index i on,
unfoldable pub command_causes : ℕ → ℕ → List Refusal
command_causes i zero = []
command_causes i (suc n) =
    DeviceNotBelow i ∷ SettingOutOfRange i ∷ TagOutOfRange i ∷ ConditionAlone i ∷ command_causes (suc i) n

-- and "4; then the commands in turn": eight at most, since a routine of more is turned down for 4.
unfoldable pub routine_causes : List Refusal
routine_causes = CommandCount ∷ command_causes 0 max_commands

-- The check of a routine gives each number under its cause alone. The theorem is `exact-routine` (proofs/Exact.antt).
abbrev pub ExactRoutine : Type 0
ExactRoutine =
    (devices : ℕ) (cs : List Command) →
    Exactly (RoutineCause devices cs) itself routine_causes (λ r. routine_check devices cs ≡ Err r) (routine_check devices cs ≡ Ok tt)
