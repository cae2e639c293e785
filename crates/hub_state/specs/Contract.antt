-- What a decision means: what it changes, what it tells, and what the appliers may rely on. Assumes nothing.
use Rattle.std.specs.Prelude.{◌≡◌, true, false, List, [], ◌∷◌, ◌++◌, map, ℕ, zero, suc, ◌≤◌, ◌<◌, ℤ, get_or, length, if◌then◌else◌, Option}
use Rattle.std.specs.Prelude.{None, Some}
use Rattle.rules_routine.specs.Limits.{max_devices, max_commands, max_sequence, highest_id}
use Rattle.rules_routine.specs.declared.Command.{Command}
use Rattle.rules.specs.State.{Status, Step, State}
use Rattle.rules.specs.Tables.{put}
use Rattle.rules.specs.Answers.{Back, Answer as Told, Result}
use Rattle.rules.specs.Progress.{is_to_do, with_status, with_steps}
use Rattle.rules.specs.Sequence.{Found, with_up, with_mark, change}
use Rattle.rules.specs.Attach.{one_restart, attach}
use Rattle.rules.specs.Settle.{settling}
use Rattle.rules.specs.Abort.{leave, put_backs}
use Rattle.rules.specs.Submit.{pass, newcomer}
use Rattle.rules.specs.Turn.{commit}
use Rattle.rules.specs.Events.{must_left, stop_if_any}
use Rattle.hub_sequence.specs.Lists.{ahead_of_place, behind_place}
use Rattle.hub_sequence.specs.Links.{none as no_slot, slots_of, Stands, StandsOrNone}
use Rattle.hub_answers.specs.View.{one_of, event_abort_of, answer_of, put_backs_in, changes_nothing}
use Rattle.hub_answers.specs.declared.Answer.{Answer}
use Rattle.hub_answers.specs.declared.Answer.TheVariants.{Aborted, Down, Up}
use Rattle.hub_state.specs.View.{found_at, is_restart, status_of, member_at, state_of, there}
use Rattle.hub_state.specs.Valid.{CommandsOk, RoomToPass}
use Rattle.hub_state.specs.declared.HubState.{HubState}
use Rattle.hub_state.specs.declared.Staged.{Staged}
use Rattle.hub_state.specs.declared.Change.{Change}
use Rattle.hub_state.specs.declared.Change.TheVariants.{Nothing, Stage, Commit, Join, Abort, Fail, Restart}
use Rattle.hub_state.specs.declared.Decision.{Decision}

-- ---- the change

-- The command at an index gets this status.
abbrev pub set_status : ℕ → Status → List Step → List Step
set_status i st [] = []
set_status zero st (x ∷ l) = with_status st x ∷ l
set_status (suc i) st (x ∷ l) = x ∷ set_status i st l

-- The first command that is not answered comes to a stage; its device gets the mark if the routine begins it by that.
unfoldable pub staged : HubState → Staged → State
staged h c =
    let f = there h c.at in
    with_mark
    (change (state_of h) f
    (with_steps f.it (set_status (get_or h.answered c.at 0) (status_of c.stage c.due_then) f.it.steps)))
    (if c.begins then put (state_of h).mark c.device c.id else (state_of h).mark)

unfoldable pub committed_at : HubState → ℕ → State
committed_at h x = change (state_of h) (there h x) (commit (there h x).it)

-- A newcomer directly behind the slot `after`; those behind it are passed.
unfoldable pub joined_behind : HubState → List Command → ℕ → State
joined_behind h cs after = record {
  devices = (state_of h).devices;
  pass_limit = (state_of h).pass_limit;
  next_id = suc (state_of h).next_id;
  sequence =
      map (member_at h) (ahead_of_place after no_slot (slots_of h.links))
      ++ (newcomer (state_of h).next_id cs ∷ map pass (map (member_at h) (behind_place after no_slot (slots_of h.links))));
  settled_at = (state_of h).settled_at;
  up = (state_of h).up;
  mark = (state_of h).mark;
}

-- What the abort of a routine puts back.
abbrev pub put_backs_left : State → Found → List Back
put_backs_left s f = put_backs s f.it (leave s f) 0 s.devices

-- The state that an event of d leaves of it, by its abort or by skips (document 02, item 3); and what its abort puts back.
abbrev pub stopped_by : ℕ → State → Option Found → State
stopped_by d s o = (stop_if_any d s o).state

abbrev pub put_backs_stopped : ℕ → State → Option Found → List Back
put_backs_stopped d s None = []
put_backs_stopped d s (Some f) = if must_left d f.it then put_backs_left s f else []

-- A device becomes down.
abbrev pub down_with : State → ℕ → State
down_with s d = with_up s (put s.up d false)

-- A device becomes up at the setting it reports: the restart is attached to its mark.
abbrev pub up_with : State → ℕ → ℤ → State
up_with s d v = let t = attach (s.mark d) (one_restart d v) s in with_up t (put t.up d true)

-- The state after a change, before settling. The commands are those of a routine that joins.
abbrev pub applied_to : HubState → List Command → Change → State
applied_to h cs Nothing = state_of h
applied_to h cs (Stage c) = staged h c
applied_to h cs (Commit x) = committed_at h x
applied_to h cs (Join after) = joined_behind h cs after
applied_to h cs (Abort x) = leave (state_of h) (there h x)
applied_to h cs (Fail d x) = stopped_by d (down_with (state_of h) d) (found_at h x)
applied_to h cs (Restart d v x) = up_with (stopped_by d (state_of h) (found_at h x)) d v

-- What is put back: by an abort, or what the decision has.
abbrev pub put_backs_by : HubState → List Back → Change → List Back
put_backs_by h l Nothing = l
put_backs_by h l (Stage c) = l
put_backs_by h l (Commit x) = l
put_backs_by h l (Join after) = l
put_backs_by h l (Abort x) = put_backs_left (state_of h) (there h x)
put_backs_by h l (Fail d x) = put_backs_stopped d (down_with (state_of h) d) (found_at h x)
put_backs_by h l (Restart d v x) = put_backs_stopped d (state_of h) (found_at h x)

-- ---- what the appliers may rely on

-- The slot of a routine, if there is one.
abbrev pub StandsIfAny : HubState → Option ℕ → Type 0
StandsIfAny h None = Unit {0}
StandsIfAny h (Some x) = Stands h.links x

pub record StageOk (h : HubState) (c : Staged) : Type 0 where
  pub stands : Stands h.links c.at
  pub not_all : get_or h.answered c.at 0 < get_or h.counts c.at 0
  pub device_fits : c.device < max_devices
  pub sent_or_answered : is_to_do (status_of c.stage c.due_then) ≡ false

pub record JoinOk (h : HubState) (cs : List Command) (after : ℕ) : Type 0 where
  pub few : length cs ≤ max_commands
  pub devices_fit : CommandsOk cs
  pub room : h.links.taken < max_sequence
  pub place : StandsOrNone h.links after
  pub id_left : h.next_id ≤ highest_id
  pub room_to_pass : RoomToPass (map (member_at h) (behind_place after no_slot (slots_of h.links)))

abbrev pub ChangeOk : HubState → List Command → Change → Type 0
ChangeOk h cs Nothing = Unit {0}
ChangeOk h cs (Stage c) = StageOk h c
ChangeOk h cs (Commit x) = Stands h.links x
ChangeOk h cs (Join after) = JoinOk h cs after
ChangeOk h cs (Abort x) = Stands h.links x
ChangeOk h cs (Fail d x) = (d < max_devices) × StandsIfAny h x
ChangeOk h cs (Restart d v x) = (d < max_devices) × (is_restart v ≡ true) × StandsIfAny h x

-- ---- the decision

-- One answer and a change; nothing is put back but by an abort.
abbrev pub plainly : Answer → Change → Decision
plainly a c = record { first = None; answer = a; back = None; change = c }

abbrev pub put_backs_of_decision : HubState → Decision → List Back
put_backs_of_decision h d = put_backs_by h (one_of d.back) d.change

abbrev pub told_by : HubState → Decision → List Told
told_by h d = event_abort_of d.first (put_backs_of_decision h d) ++ (answer_of d.answer (put_backs_of_decision h d) ∷ [])

-- After a change the hub settles.
abbrev pub settled_unless_nothing : Change → Result → Result
settled_unless_nothing Nothing r = r
settled_unless_nothing (Stage c) r = settling r
settled_unless_nothing (Commit x) r = settling r
settled_unless_nothing (Join after) r = settling r
settled_unless_nothing (Abort x) r = settling r
settled_unless_nothing (Fail d x) r = settling r
settled_unless_nothing (Restart d v x) r = settling r

abbrev pub result_by : HubState → List Command → Decision → Result
result_by h cs d = settled_unless_nothing d.change (record { state = applied_to h cs d.change; answers = told_by h d })

-- Only an event tells an abort before its answer; the answer of an abort is the abort, that of an event the event.
abbrev pub WellTold : Option ℕ → Answer → Change → Type 0
WellTold f a Nothing = f ≡ None
WellTold f a (Stage c) = f ≡ None
WellTold f a (Commit x) = f ≡ None
WellTold f a (Join after) = f ≡ None
WellTold f a (Abort x) = (f ≡ None) × ((i : ℕ) × (a ≡ Aborted i))
WellTold f a (Fail d x) = (i : ℕ) × (a ≡ Down d i)
WellTold f a (Restart d v x) = (i : ℕ) × (a ≡ Up d i)

-- A decision on the state h: carried out, it gives what the rules give; and it can be carried out. Where the answer is a refusal or a wait,
-- and only there, nothing changes.
pub record Decides (h : HubState) (cs : List Command) (d : Decision) (result : Result) : Type 0 where
  pub change_ok : ChangeOk h cs d.change
  pub gives : result_by h cs d ≡ result
  pub put_backs_told : put_backs_of_decision h d ≡ put_backs_in (told_by h d)
  pub well_told : WellTold d.first d.answer d.change
  pub nothing_told : changes_nothing d.answer ≡ true → d.change ≡ Nothing
  pub something_told : changes_nothing d.answer ≡ false → d.change ≡ Nothing → ⊥
