-- Document 01, "When a call is turned down": the causes of the opening and of the hub's calls, each said by itself in the table's words
-- over the state and the call; the order in which they are tested; and what `exact-opening` .. `exact-limit` (proofs/Exact.antt) say: each
-- number under its cause alone. The same of the reading of all due settings (`exact-list`). Causes 4 to 7 and 22, and what "each under its
-- cause alone" means, stand in `specs/Causes.antt` of crate `rules_routine`. Assumes nothing.
use Rattle.rules_routine.specs.Refusals.{Verdict}
use Rattle.rules_routine.specs.declared.refusals.Refusal.TheVariants.{DevicesOutOfRange, PassLimitOutOfRange, FirstIdZero, SequenceFull}
use Rattle.rules_routine.specs.declared.refusals.Refusal.TheVariants.{IdsUsedUp, NotRunning, TurnInFlight, NothingInFlight}
use Rattle.rules_routine.specs.declared.refusals.Refusal.TheVariants.{ReportCodeOutOfRange, EventDevice, FailureOfDown, RestartOfUp}
use Rattle.rules_routine.specs.declared.refusals.Refusal.TheVariants.{RestartSetting, NoRoom}
use Rattle.std.specs.Prelude.{◌≡◌, true, false, ◌⊎◌, List, [], ◌∷◌, ◌++◌, ℕ, ◌<◌, ◌≤◌, ℤ, pos, length, get_or, Ok, Err}
use Rattle.rules_routine.specs.Limits.{max_devices, highest_pass_limit, max_sequence, highest_id}
use Rattle.rules_routine.specs.Causes.{NoneOf, FirstIn, Exactly, itself, OutOfRange, RoutineCause, routine_causes}
use Rattle.rules_routine.specs.declared.Command.{Command}
use Rattle.rules_routine.specs.declared.refusals.Refusal.{Refusal}
use Rattle.rules.specs.State.{in_flight, Step, Member, State}
use Rattle.rules.specs.Answers.{Call, submit, turn, report, failure, restart, cancel, limit, Answer, refused}
use Rattle.rules.specs.Due.{due}
use Rattle.rules.specs.AllDue.{list_check, list_after}
use Rattle.rules.specs.Open.{opened, not_opened, new_hub, open_of}
use Rattle.rules.specs.Report.{code_failed}
use Rattle.rules.specs.Calls.{result_of}
use Rattle.rules.specs.World.{Act, world_after_all, new_world}

-- ---- the words of the table

-- "a running routine has this id": it has the id and is not committed.
abbrev pub RunsUnder : ℕ → Member → Type 0
RunsUnder i m = (m.id ≡ i) × (m.committed ≡ false)

-- "no running routine has this id"
abbrev pub NoneRunsUnder : State → ℕ → Type 0
NoneRunsUnder s i = NoneOf (RunsUnder i) s.sequence

-- A command stands in flight.
abbrev pub InFlight : Step → Type 0
InFlight x = (due : ℤ) × (x.status ≡ in_flight due)

-- The running routine with this id has a command in flight; and: it has none in flight. Of several it would be the first; in a state that
-- calls reach there is no second (`IdsDiffer`).
abbrev pub OneInFlight : State → ℕ → Type 0
OneInFlight s i = (m : Member) × FirstIn (RunsUnder i) s.sequence m × (x : Step) × FirstIn InFlight m.steps x

abbrev pub NoneInFlight : State → ℕ → Type 0
NoneInFlight s i = (m : Member) × FirstIn (RunsUnder i) s.sequence m × NoneOf InFlight m.steps

-- ---- the causes

-- This cause holds of an opening.
pub data OpeningCause (n k first : ℕ) : Refusal → Type 0 where
  -- 1: "N not 1 to 32"
  devices_are_out : (n ≡ 0) ⊎ (max_devices < n) → OpeningCause n k first DevicesOutOfRange
  -- 2: "K above 8"
  limit_is_out : highest_pass_limit < k → OpeningCause n k first PassLimitOutOfRange
  -- 3: "first id 0"
  id_is_0 : first ≡ 0 → OpeningCause n k first FirstIdZero

-- This cause holds of a call on a hub in state s.
pub data CallCause (s : State) : Call → Refusal → Type 0 where
  -- 4 to 7 and 22, of the routine, against N
  routine_is_out : {cs : List Command} {cause : Refusal} → RoutineCause s.devices cs cause → CallCause s (submit cs) cause
  -- 8: "16 routines in the sequence"
  is_full : {cs : List Command} → max_sequence ≤ length s.sequence → CallCause s (submit cs) SequenceFull
  -- 9: "id 4,294,967,295 already given": the next is past it
  ids_are_used_up : {cs : List Command} → highest_id < s.next_id → CallCause s (submit cs) IdsUsedUp
  -- 10: "no running routine has this id"
  turn_of_none : {i : ℕ} → NoneRunsUnder s i → CallCause s (turn i) NotRunning
  cancel_of_none : {i : ℕ} → NoneRunsUnder s i → CallCause s (cancel i) NotRunning
  report_on_none : {i code : ℕ} → NoneRunsUnder s i → CallCause s (report i code) NotRunning
  -- 11: "turn with a command in flight"
  one_flies : {i : ℕ} → OneInFlight s i → CallCause s (turn i) TurnInFlight
  -- 12: "report with none in flight"
  none_flies : {i code : ℕ} → NoneInFlight s i → CallCause s (report i code) NothingInFlight
  -- 13: "report code above 1"
  code_is_out : {i code : ℕ} → code_failed < code → CallCause s (report i code) ReportCodeOutOfRange
  -- 1: "N not 1 to 32", of the hub that shall have a new pass limit: where no hub was made
  no_hub_to_limit : {k : ℕ} → (s.devices ≡ 0) ⊎ (max_devices < s.devices) → CallCause s (limit k) DevicesOutOfRange
  -- 2: "K above 8", of a new pass limit
  new_limit_is_out : {k : ℕ} → highest_pass_limit < k → CallCause s (limit k) PassLimitOutOfRange
  -- 14: "failure or restart, device not below N"
  failure_is_out : {d : ℕ} → s.devices ≤ d → CallCause s (failure d) EventDevice
  restart_is_out : {d : ℕ} {v : ℤ} → s.devices ≤ d → CallCause s (restart d v) EventDevice
  -- 15: "failure of a down device"
  is_down : {d : ℕ} → s.up d ≡ false → CallCause s (failure d) FailureOfDown
  -- 16: "restart of an up device"
  is_up : {d : ℕ} {v : ℤ} → s.up d ≡ true → CallCause s (restart d v) RestartOfUp
  -- 17: "restart setting out of range"
  restart_setting_is_out : {d : ℕ} {v : ℤ} → OutOfRange v → CallCause s (restart d v) RestartSetting

-- ---- the order in which they are tested

-- "Opening: 1, 2, 3."
abbrev pub opening_causes : List Refusal
opening_causes = DevicesOutOfRange ∷ PassLimitOutOfRange ∷ FirstIdZero ∷ []

-- "Submission: 4; then the commands in turn, each 5, 6, 7", and 22 (document 02, item 4); "then 8, 9. Turn: 10, 11. Cancel: 10. Report: 10,
-- 12, 13. Failure: 14, 15. Restart: 14, 16, 17." A new pass limit (document 02, item 13): 1, 2.
abbrev pub call_causes : Call → List Refusal
call_causes (submit cs) = routine_causes ++ (SequenceFull ∷ IdsUsedUp ∷ [])
call_causes (turn i) = NotRunning ∷ TurnInFlight ∷ []
call_causes (cancel i) = NotRunning ∷ []
call_causes (report i code) = NotRunning ∷ NothingInFlight ∷ ReportCodeOutOfRange ∷ []
call_causes (failure d) = EventDevice ∷ FailureOfDown ∷ []
call_causes (restart d v) = EventDevice ∷ RestartOfUp ∷ RestartSetting ∷ []
call_causes (limit k) = DevicesOutOfRange ∷ PassLimitOutOfRange ∷ []

-- ---- each number under its cause alone

-- An opening is refused with r exactly if the first cause that holds has r, and gives the new hub exactly if none holds.
abbrev pub ExactOpening : Type 0
ExactOpening =
    (n k first : ℕ) →
    Exactly (OpeningCause n k first) itself opening_causes
    (λ r. open_of n k first ≡ not_opened r) (open_of n k first ≡ opened (new_hub n k first))

abbrev pub IsRefusal : Answer → Type 0
IsRefusal a = (r : Refusal) × (a ≡ refused r)

-- A call is answered with the refusal r alone exactly if the first cause that holds has r, and has no refusal among its answers exactly
-- if none holds. After a refusal the state is as it was.
pub record ExactCall (s : State) (c : Call) : Type 0 where
  pub exact :
      Exactly (CallCause s c) itself (call_causes c)
      (λ r. (result_of s c).answers ≡ refused r ∷ []) (NoneOf IsRefusal (result_of s c).answers)
  pub left_as_it_was : (r : Refusal) → (result_of s c).answers ≡ refused r ∷ [] → (result_of s c).state ≡ s

abbrev pub ExactSubmission : Type 0
ExactSubmission = (s : State) (cs : List Command) → ExactCall s (submit cs)

abbrev pub ExactTurn : Type 0
ExactTurn = (s : State) (i : ℕ) → ExactCall s (turn i)

abbrev pub ExactReport : Type 0
ExactReport = (s : State) (i code : ℕ) → ExactCall s (report i code)

abbrev pub ExactCancel : Type 0
ExactCancel = (s : State) (i : ℕ) → ExactCall s (cancel i)

abbrev pub ExactFailure : Type 0
ExactFailure = (s : State) (d : ℕ) → ExactCall s (failure d)

abbrev pub ExactRestart : Type 0
ExactRestart = (s : State) (d : ℕ) (v : ℤ) → ExactCall s (restart d v)

abbrev pub ExactLimit : Type 0
ExactLimit = (s : State) (k : ℕ) → ExactCall s (limit k)

-- ---- all due settings into a lent list: document 02, item 14

-- The cause of this reading, with a list of so many entries.
pub data ListCause (s : State) (room : ℕ) : Refusal → Type 0 where
  -- 21: "A list shorter than N"
  list_is_short : room < s.devices → ListCause s room NoRoom

abbrev pub list_causes : List Refusal
list_causes = NoRoom ∷ []

-- The reading is turned down with r exactly if the cause holds and has r, and then the list is as it was. Else each device, up or down, has
-- its due setting at its place in the list. The entries from N on, and how many there are, are the same in either case.
pub record ExactList (s : State) (before after : List ℤ) (verdict : Verdict) : Type 0 where
  pub exact : Exactly (ListCause s (length before)) itself list_causes (λ r. verdict ≡ Err r) (verdict ≡ Ok tt)
  pub left_as_it_was : (r : Refusal) → verdict ≡ Err r → after ≡ before
  pub each_due : verdict ≡ Ok tt → (d : ℕ) → d < s.devices → get_or after d (pos 0) ≡ due s d
  pub rest_untouched : (d : ℕ) → s.devices ≤ d → get_or after d (pos 0) ≡ get_or before d (pos 0)
  pub as_long : length after ≡ length before

-- So for every verdict and every list that the contract of `hub::due_settings` gives.
abbrev pub ExactListing : Type 0
ExactListing =
    (s : State) (before after : List ℤ) (verdict : Verdict) →
    verdict ≡ list_check s (length before) → after ≡ list_after s before → ExactList s before after verdict

-- ---- "the routine with this id"

-- After any list of calls from an accepted opening no two routines of the sequence have the same id.
abbrev pub IdsDiffer : Type 0
IdsDiffer =
    (n k first : ℕ) (s : State) → open_of n k first ≡ opened s → (acts : List Act) →
    (ahead : List Member) (m : Member) (behind : List Member) → (world_after_all (new_world s) acts).state.sequence ≡ ahead
    ++ (m ∷ behind) →
    NoneOf (λ other. other.id ≡ m.id) (ahead ++ behind)
