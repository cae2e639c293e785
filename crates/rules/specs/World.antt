-- Document 01, "The devices", and the premise of demand 3: the hub, what it was told, and all devices, which take what was sent to them at
-- any time. Assumes nothing.
use Rattle.std.specs.Prelude.{◌≡◌, Bool, true, false, ◌&&◌, List, [], ◌∷◌, ◌++◌, ℕ, zero, suc, eqb, ℤ, pos, if◌then◌else◌}
use Rattle.rules.specs.Tables.{any_of, put}
use Rattle.rules.specs.State.{State}
use Rattle.rules.specs.Answers.{Call, submit, turn, report, failure, restart, cancel, limit, Back, Answer, refused, placed, wait}
use Rattle.rules.specs.Answers.{send}
use Rattle.rules.specs.Answers.{done, skipped, held, not_held, committed, aborted, down, up, limited, Result}
use Rattle.rules.specs.Report.{code_done}
use Rattle.rules.specs.Calls.{result_of}
use Rattle.rules.specs.History.{Told, Account, accounts_of}

-- Where a setting that was sent comes from: a `back`; or the `send` of a routine, with how many were sent for it by then.
pub data Origin : Type 0 where
  putting_back : Origin
  sent_for : ℕ → ℕ → Origin

abbrev pub same_origin : Origin → Origin → Bool
same_origin putting_back putting_back = true
same_origin putting_back (sent_for i n) = false
same_origin (sent_for i n) putting_back = false
same_origin (sent_for i n) (sent_for j m) = eqb i j && eqb n m

pub record Message : Type 0 where
  pub setting : ℤ
  pub origin : Origin

-- A device: the setting it has; what was sent to it and lies behind the last it took, in the order sent; and which it took.
pub record Device : Type 0 where
  pub setting : ℤ
  pub sent : List Message
  pub took : List Origin

-- "At any time a device may take one sent to it behind the last it took": the one that has k before it. Those before it are never taken.
abbrev pub takes : ℕ → List Message → Device → Device
takes k [] w = w
takes zero (m ∷ l) w = record { setting = m.setting; sent = l; took = m.origin ∷ w.took }
takes (suc k) (m ∷ l) w = takes k l w

-- "Commands are sent by the `send` and `back` of the answers, in the order of the calls."
abbrev pub receives : Message → Device → Device
receives m w = record { setting = w.setting; sent = w.sent ++ (m ∷ []); took = w.took }

abbrev pub put_back : Back → (ℕ → Device) → ℕ → Device
put_back b ds = put ds b.device (receives (record { setting = b.setting; origin = putting_back }) (ds b.device))

abbrev pub put_all_back : List Back → (ℕ → Device) → ℕ → Device
put_all_back [] ds = ds
put_all_back (b ∷ l) ds = put_all_back l (put_back b ds)

abbrev pub without : Origin → List Message → List Message
without o [] = []
without o (m ∷ l) = if same_origin m.origin o then without o l else m ∷ without o l

abbrev pub drops : Origin → Device → Device
drops o w = record { setting = w.setting; sent = without o w.sent; took = w.took }

-- "never one reported failed": the command in flight, which is the one last sent for the routine of a report. `a`: the accounts after the
-- call.
abbrev pub drop_reported : Call → (ℕ → Account) → (ℕ → Device) → ℕ → Device
drop_reported (submit cs) a ds = ds
drop_reported (turn i) a ds = ds
drop_reported (report i code) a ds = λ d. drops (sent_for i (a i).sends) (ds d)
drop_reported (failure d) a ds = ds
drop_reported (restart d v) a ds = ds
drop_reported (cancel i) a ds = ds
drop_reported (limit k) a ds = ds

-- What an answer does to the devices. "an accepted failure ends what was sent before and may leave any setting": v. A report that was
-- answered by `skipped` or `aborted` reported failed. "Refused calls tell nothing."
abbrev pub devices_after : Call → (ℕ → Account) → ℤ → Answer → (ℕ → Device) → ℕ → Device
devices_after c a v (refused r) ds = ds
devices_after c a v (placed i j) ds = ds
devices_after c a v (wait i j) ds = ds
devices_after c a v (send i x) ds =
    put ds x.device (receives (record { setting = x.setting; origin = sent_for i (a i).sends }) (ds x.device))
devices_after c a v (done i) ds = ds
devices_after c a v (skipped i l) ds = put_all_back l (drop_reported c a ds)
devices_after c a v (held i) ds = ds
devices_after c a v (not_held i) ds = ds
devices_after c a v (committed i) ds = ds
devices_after c a v (aborted i l) ds = put_all_back l (drop_reported c a ds)
devices_after c a v (down d j) ds = put ds d (record { setting = v; sent = []; took = (ds d).took })
devices_after c a v (up d j) ds = ds
devices_after c a v (limited k) ds = ds

abbrev pub devices_after_all : Call → (ℕ → Account) → ℤ → List Answer → (ℕ → Device) → ℕ → Device
devices_after_all c a v [] ds = ds
devices_after_all c a v (x ∷ l) ds = devices_after_all c a v l (devices_after c a v x ds)

pub record World : Type 0 where
  pub state : State
  pub history : List Told
  pub devices : ℕ → Device

-- What happens: a call, any call; should it be an accepted failure, it leaves its device at the setting given here. Or a device takes one
-- of what was sent to it.
pub data Act : Type 0 where
  calls : Call → ℤ → Act
  takes_one : ℕ → ℕ → Act  -- device, how many it passes over

-- The accounts of the ids in a world.
abbrev pub accounts : World → ℕ → Account
accounts w = accounts_of w.history

-- The history with one call more.
abbrev pub history_after : World → Call → List Answer → List Told
history_after w c answers = record { call = c; answers = answers } ∷ w.history

-- The world after a call with this result.
abbrev pub after_call : World → Call → ℤ → Result → World
after_call w c v r = record {
  state = r.state;
  history = history_after w c r.answers;
  devices = devices_after_all c (accounts_of (history_after w c r.answers)) v r.answers w.devices;
}

abbrev pub world_after : World → Act → World
world_after w (calls c v) = after_call w c v (result_of w.state c)
world_after w (takes_one d k) = record {
  state = w.state;
  history = w.history;
  devices = put w.devices d (takes k (w.devices d).sent (w.devices d));
}

abbrev pub world_after_all : World → List Act → World
world_after_all w [] = w
world_after_all w (x ∷ l) = world_after_all (world_after w x) l

-- Has the command last sent for this id been taken by its device?
unfoldable pub taken : World → ℕ → Bool
taken w i = any_of (same_origin (sent_for i (accounts w i).sends)) (w.devices (accounts w i).last_sent.device).took

abbrev pub is_accepted : List Answer → Bool
is_accepted [] = true
is_accepted (refused r ∷ l) = false
is_accepted (placed i j ∷ l) = true
is_accepted (wait i j ∷ l) = true
is_accepted (send i x ∷ l) = true
is_accepted (done i ∷ l) = true
is_accepted (skipped i b ∷ l) = true
is_accepted (held i ∷ l) = true
is_accepted (not_held i ∷ l) = true
is_accepted (committed i ∷ l) = true
is_accepted (aborted i b ∷ l) = true
is_accepted (down d j ∷ l) = true
is_accepted (up d j ∷ l) = true
is_accepted (limited k ∷ l) = true

-- The premise on an accepted call. The demand: "a done report means the setting was taken, a failed report means it was not", "a restart
-- reports the setting it then has". A report that is accepted is about the command now in flight, the one last sent. So a late one, for a
-- command that an event has skipped, must not come once another was sent: "the server must drop it, and this joins the premise on
-- reports" (document 02, item 3). Before that it is refused and has no premise.
abbrev pub Truthful : World → Call → Type 0
Truthful w (submit cs) = Unit {0}
Truthful w (turn i) = Unit {0}
Truthful w (report i code) = taken w i ≡ eqb code code_done
Truthful w (failure d) = Unit {0}
Truthful w (restart d v) = v ≡ (w.devices d).setting
Truthful w (cancel i) = Unit {0}
Truthful w (limit k) = Unit {0}

-- Asked of a call that is accepted with these answers.
abbrev pub Premised : World → Call → List Answer → Type 0
Premised w c answers = is_accepted answers ≡ true → Truthful w c

abbrev pub Premise : World → Act → Type 0
Premise w (calls c v) = Premised w c (result_of w.state c).answers
Premise w (takes_one d k) = Unit {0}

abbrev pub PremiseAll : World → List Act → Type 0
PremiseAll w [] = Unit {0}
PremiseAll w (x ∷ l) = Premise w x × PremiseAll (world_after w x) l

abbrev pub new_device : Device
new_device = record { setting = pos 0; sent = []; took = [] }

-- The world around a hub just opened.
abbrev pub new_world : State → World
new_world s = record { state = s; history = []; devices = λ d. new_device }
