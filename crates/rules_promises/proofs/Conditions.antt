-- The replay of conditions is kept by every call: device by device, along the order. Assumes nothing.
use Rattle.std.proofs.Common.{None, Some}
use mathlib.Core.Path.{◌≡◌, refl, sym, ap, ap₂, ◌∙◌, subst}
use mathlib.Core.Logic.{◌≢◌, ◌⊎◌, inl, inr}
use mathlib.Core.Bool.{Bool, true, false, cond, not, ◌&&◌, ◌||◌, and-false}
use mathlib.Core.List.{List, [], ◌∷◌, ◌++◌, map, append_assoc}
use Prim.Native.Nat.{ℕ}
use native.Mathlib.Omega.{arith}
use borrow.Author.Tests.{eqb-true, ne_eqb, not-true, not-false}
use lib.Dec.{eqb}
use lib.IntN.{ℤ, pos}
use lib.Signed.{lt_z}
use Rattle.std.specs.Prelude.{if◌then◌else◌}
use Rattle.rules_routine.specs.Routine.{is_condition}
use Rattle.rules_routine.specs.declared.Command.{Command}
use Rattle.rules.specs.Tables.{any_of, put, Each}
use Rattle.rules.specs.State.{Status, Step, Member, State}
use Rattle.rules.specs.Answers.{Call, failure, restart, Answer, down, up, Result}
use Rattle.rules.specs.Progress.{next, Flight, flight}
use Rattle.rules.specs.Due.{after_restart, due}
use Rattle.rules.specs.Sequence.{is_running, with_up}
use Rattle.rules.specs.Abort.{abort}
use Rattle.rules.specs.Submit.{newcomer}
use Rattle.rules.specs.Turn.{has_set, commit, commit_turn, send_turn, is_held}
use Rattle.rules.specs.Report.{done_report, skip_report}
use Rattle.rules.specs.History.{Outcome, not_yet, reported_done, reported_failed, not_sent, by_event, found_held, found_not_held}
use Rattle.rules.specs.History.{is_left, Noted, noted_as, Account, placed_account, sent_account, note_first, answered_account, ended_account}
use Rattle.rules.specs.History.{is_for, note_left, skipped_account, note_answers}
use Rattle.rules.specs.Order.{Event, failure_event, restart_event, device_of, Entry, routine, event, Order, order_after_all, entries}
use Rattle.rules.specs.Demand3.{skips_following}
use Rattle.rules.specs.HubOrder.{done_steps, agree_to_do, agree_in_flight, agree_done, agree_failed, agree_not_sent, agree_by_event, agree_held}
use Rattle.rules.specs.HubOrder.{agree_not_held, AllAgree, no_command, one_more}
use Rattle.rules.proofs.Lists.{by_if, t≠f, or_left, or_right, and_right, this_or_other, put_same, put_other, each_left}
use Rattle.rules.proofs.Lists.{each_right, each_mid, IsNot, NotIn, ids_fresh, ids_other}
use Rattle.rules_promises.proofs.Groups.{Group, ids, flat, entry_ids, alone, with, pass_all, leaving, lead_of, attach_event}
use Rattle.rules_promises.proofs.Groups.{lead_with, entry_ids_++, entry_ids_events, entry_ids_flat, flat_pass, flat_leaving}
use Rattle.rules_promises.proofs.Steps.{InTurn, flight_is_skipped, behind-turn, AllBehind, asked_on, behind_over, skip_step, done-gains}
use Rattle.rules_promises.proofs.Steps.{fail_done}
use Rattle.rules_promises.proofs.Steps.{send-step, skip_steps, unbegun_asked}
use Rattle.rules_promises.proofs.Invariant.{NotBegun, HubOk, set_event, set_commands, set_after, up_event, up_after, EventsOk, OrderOk}
use Rattle.rules_promises.proofs.Invariant.{AccountTells}
use Rattle.rules_promises.proofs.View.{Passes, is_down, is_off, does_hold, does_not, passing, sent_member, passed_member, done_member}
use Rattle.rules_promises.proofs.View.{failed_member}
use Rattle.rules_promises.proofs.View.{skipped_left, Gone, nobody, somebody, loses, Moves, places, commits, sends, passes, dones}
use Rattle.rules_promises.proofs.View.{misses}
use Rattle.rules_promises.proofs.View.{aborts, fails, restarts}
use Rattle.rules_promises.proofs.Runs.{set_++, set_events, last_restart_not-begun, brings_up, up-event}
use Rattle.rules_promises.proofs.Runs.{set_flat}
use Rattle.rules_promises.proofs.Runs.{not-begun_members}
use Rattle.rules_promises.proofs.Marks.{ClearOfDevice, in-turn, turn_clear, flight_clear, mark-place, halfway_is}
use Rattle.rules_promises.proofs.Moved.{hub_gone, hub-up}
use Rattle.rules_promises.proofs.Serial.{order-due}
use Rattle.rules_promises.proofs.Running.{pass_outcome, pass-noted, RunsTold}
use Rattle.rules_promises.proofs.Accounts.{event_told, TellsEvent, event-accounts, accounts_moves}
use Rattle.rules_promises.proofs.Ordered.{cut_at, order_moves}
use Rattle.rules_promises.proofs.Followed.{noted_in, put-noted, ended_noted}
use Rattle.rules_promises.proofs.Fits.{AtFirst, at_next, at_flight}
use Rattle.rules_promises.proofs.Stands.{flat_at, up_clear, entry-ids, open_part}
use Rattle.rules_promises.proofs.Asked.{AllPairs, pairs_around, Spares, set_is, set_unasked, FlightIsPlain}

-- ---- what is answered as a condition is one, and what a condition skips is not sent

abbrev pub Tagged : Bool → Command → Outcome → Type 0
Tagged skipping c not_yet = Unit {0}
Tagged skipping c reported_done = (is_condition c ≡ false) × (skipping ≡ false)
Tagged skipping c reported_failed = (is_condition c ≡ false) × (skipping ≡ false)
Tagged skipping c not_sent = Unit {0}
Tagged skipping c by_event = Unit {0}
Tagged skipping c found_held = is_condition c ≡ true
Tagged skipping c found_not_held = is_condition c ≡ true

abbrev is_failed : Outcome → Bool
is_failed not_yet = false
is_failed reported_done = false
is_failed reported_failed = true
is_failed not_sent = false
is_failed by_event = false
is_failed found_held = false
is_failed found_not_held = false

abbrev NotFailed : Noted → Type 0
NotFailed x = is_failed x.outcome ≡ false

-- and behind one that is left none was reported failed
abbrev pub AllTagged : Bool → List Noted → Type 0
AllTagged skipping [] = Unit {0}
AllTagged skipping (x ∷ l) =
    Tagged skipping x.command x.outcome × (is_left x.outcome ≡ true → Each NotFailed l) × AllTagged (skips_following x) l

-- behind the first command that is left none is done or reported failed: they may stand behind any other
tagged_behind : (b c : Bool) {l : List Noted} {k : List Step} → AllAgree l k → AllBehind k → Each NotFailed l → AllTagged b l →
    AllTagged c l
tagged_behind b c no_command w n h = tt
tagged_behind b c (one_more x agree_to_do a) w n h = h
tagged_behind b c (one_more x agree_in_flight a) w n h = t≠f (sym w.0)
tagged_behind b c (one_more x agree_done a) w n h = t≠f (sym w.0)
tagged_behind b c (one_more x agree_failed a) w n h = t≠f n.0
tagged_behind b c (one_more x agree_not_sent a) w n h = h
tagged_behind b c (one_more x agree_by_event a) w n h = h
tagged_behind b c (one_more x agree_held a) w n h = t≠f (sym w.0)
tagged_behind b c (one_more x agree_not_held a) w n h = t≠f (sym w.0)

tagged_first : (o : Outcome) (b : Bool) {l : List Noted} {k : List Step} → AllAgree l k → InTurn k → AllTagged b l →
    AtFirst (λ c skipping _. Tagged skipping c o) b l → AllTagged b (note_first o l)
tagged_first o b no_command t h p = tt
tagged_first o b (one_more c agree_to_do a) t h p =
    (p, (λ _. h.1 refl), tagged_behind (is_condition c && false) _ a t (h.1 refl) h.2)
tagged_first o b (one_more c agree_in_flight a) t h p =
    (p, (λ _. h.1 refl), tagged_behind (is_condition c && false) _ a t (h.1 refl) h.2)
tagged_first o b (one_more c agree_done a) t h p = (h.0, (λ e. t≠f (sym e)), tagged_first o (is_condition c && false) a t h.2 p)
tagged_first o b (one_more c agree_failed a) t h p = (h.0, (λ e. t≠f (sym e)), tagged_first o (is_condition c && true) a t h.2 p)
tagged_first o b (one_more c agree_not_sent a) t h p = (h.0, (λ e. t≠f (sym e)), tagged_first o (is_condition c && true) a t h.2 p)
tagged_first o b (one_more c agree_by_event a) t h p = (h.0, (λ e. t≠f (sym e)), tagged_first o (is_condition c && true) a t h.2 p)
tagged_first o b (one_more c agree_held a) t h p = (h.0, (λ e. t≠f (sym e)), tagged_first o (is_condition c && false) a t h.2 p)
tagged_first o b (one_more c agree_not_held a) t h p = (h.0, (λ e. t≠f (sym e)), tagged_first o (is_condition c && true) a t h.2 p)

-- an event of d skips what is left on it
module _ (d : ℕ) where
  skip_or_stay : (t : Bool) (b : Bool) (c : Command) (l : List Noted) → Each NotFailed l → AllTagged (is_condition c && true) l →
      AllTagged (is_condition c && false) l → AllTagged b ((if t then noted_as by_event c else noted_as not_yet c) ∷ l)
  skip_or_stay true b c l n h k = (tt, (λ _. n), h)
  skip_or_stay false b c l n h k = (tt, (λ _. n), k)

  none_failed : (l : List Noted) → Each NotFailed l → Each NotFailed (note_left d l)
  none_failed [] n = tt
  none_failed (x ∷ l) n = (by_if NotFailed (is_for d x.command && is_left x.outcome) (λ _. refl) (λ _. n.0), none_failed l n.1)

  tagged_left : (b : Bool) {l : List Noted} {k : List Step} → AllAgree l k → InTurn k → AllTagged b l → AllTagged b (note_left d l)
  tagged_left b no_command t h = tt
  tagged_left b (one_more c {l = l} {k = k} agree_to_do a) t h =
      skip_or_stay (is_for d c && true) b c (note_left d l) (none_failed l (h.1 refl))
      (tagged_left (is_condition c && true) a (behind-turn k t) (tagged_behind (is_condition c && false) _ a t (h.1 refl) h.2))
      (tagged_left (is_condition c && false) a (behind-turn k t) h.2)
  tagged_left b (one_more c {l = l} {k = k} agree_in_flight a) t h =
      skip_or_stay (is_for d c && true) b c (note_left d l) (none_failed l (h.1 refl))
      (tagged_left (is_condition c && true) a (behind-turn k t) (tagged_behind (is_condition c && false) _ a t (h.1 refl) h.2))
      (tagged_left (is_condition c && false) a (behind-turn k t) h.2)
  tagged_left b (one_more c agree_done a) t h = rw (and-false (is_for d c)) (h.0, (λ e. t≠f (sym e)), tagged_left (is_condition c && false) a t h.2)
  tagged_left b (one_more c agree_failed a) t h = rw (and-false (is_for d c)) (h.0, (λ e. t≠f (sym e)), tagged_left (is_condition c && true) a t h.2)
  tagged_left b (one_more c agree_not_sent a) t h = rw (and-false (is_for d c)) (h.0, (λ e. t≠f (sym e)), tagged_left (is_condition c && true) a t h.2)
  tagged_left b (one_more c agree_by_event a) t h = rw (and-false (is_for d c)) (h.0, (λ e. t≠f (sym e)), tagged_left (is_condition c && true) a t h.2)
  tagged_left b (one_more c agree_held a) t h = rw (and-false (is_for d c)) (h.0, (λ e. t≠f (sym e)), tagged_left (is_condition c && false) a t h.2)
  tagged_left b (one_more c agree_not_held a) t h = rw (and-false (is_for d c)) (h.0, (λ e. t≠f (sym e)), tagged_left (is_condition c && true) a t h.2)

new_failed : (cs : List Command) → Each NotFailed (map (noted_as not_yet) cs)
new_failed [] = tt
new_failed (c ∷ cs) = (refl, new_failed cs)

tagged_new : (b : Bool) (cs : List Command) → AllTagged b (map (noted_as not_yet) cs)
tagged_new b [] = tt
tagged_new b (c ∷ cs) = (tt, (λ _. new_failed cs), tagged_new (is_condition c && false) cs)

-- of every id
abbrev pub TaggedAll : (ℕ → Account) → Type 0
TaggedAll a = (i : ℕ) → AllTagged false (a i).commands

tagged_put : (a : ℕ → Account) (j : ℕ) (z : Account) → TaggedAll a → AllTagged false z.commands → TaggedAll (put a j z)
tagged_put a j z h k i = by_if (λ (y : Account). AllTagged false y.commands) (eqb i j) (λ _. k) (λ _. h i)

gone_tagged : (s : State) (d : ℕ) (a : ℕ → Account) (l : List Group) {r : Result} {lead : List Event} {k : List Group} → HubOk s l →
    Each (AccountTells a) l → TaggedAll a → (w : Gone s d l r lead k) → TaggedAll (event_told w a)
gone_tagged s d a l h t w (nobody q) = w
gone_tagged s d a l h t w (somebody x g y e q) = tagged_put a g.member.id (ended_account (a g.member.id)) w (w g.member.id)
gone_tagged s d a l h t w (loses x g y e q m) =
    tagged_put a g.member.id (skipped_account d (a g.member.id)) w
    (tagged_left d false (each_mid (AccountTells a) x g y (subst (Each (AccountTells a)) e t)).agrees
    (in-turn s x g y (subst (HubOk s) e h)) (w g.member.id))

happens_tagged : (s : State) (c : Call) (d : ℕ) (v : Answer) (a : ℕ → Account) (l : List Group)
    {r : Result} {lead : List Event} {k : List Group} → TellsEvent d c v → HubOk s l → RunsTold a l → Each (AccountTells a) l →
    TaggedAll a → Gone s d l r lead k → TaggedAll (note_answers c (r.answers ++ (v ∷ [])) a)
happens_tagged s c d v a l n h u t w g = subst TaggedAll (sym (event-accounts s d c v a l n h u t g)) (gone_tagged s d a l h t w g)

module _ (s : State) (a : ℕ → Account) (l : List Group) (h : HubOk s l) (run : RunsTold a l) (t : Each (AccountTells a) l)
    (f : Each FlightIsPlain l) (w : TaggedAll a) where
  -- the first command that is left of g is answered so
  answers_tagged : (x : List Group) (g : Group) (y : List Group) → l ≡ x ++ (g ∷ y) → (o : Outcome) →
      AtFirst (λ c skipping _. Tagged skipping c o) false (a g.member.id).commands →
      TaggedAll (put a g.member.id (answered_account o (a g.member.id)))
  answers_tagged x g y e o p =
      tagged_put a g.member.id (answered_account o (a g.member.id)) w
      (tagged_first o false (each_mid (AccountTells a) x g y (subst (Each (AccountTells a)) e t)).agrees
      (in-turn s x g y (subst (HubOk s) e h)) (w g.member.id) p)

  -- the one in flight
  flight_tagged : (x : List Group) (g : Group) (y : List Group) → l ≡ x ++ (g ∷ y) → (o : Outcome) (v : Flight) →
      flight g.member.steps ≡ Some v →
      (is_condition v.command ≡ false → flight_is_skipped false g.member.steps ≡ false →
      Tagged (flight_is_skipped false g.member.steps) v.command o) →
      TaggedAll (put a g.member.id (answered_account o (a g.member.id)))
  flight_tagged x g y e o v k p =
      let q = each_mid FlightIsPlain x g y (subst (Each FlightIsPlain) e f) in
      answers_tagged x g y e o
      (at_flight (λ c skipping _. Tagged skipping c o) false v (each_mid (AccountTells a) x g y (subst (Each (AccountTells a)) e t)).agrees
      (in-turn s x g y (subst (HubOk s) e h)) k (λ _. p (q.plain v k) q.unskipped))

  pub tagged_moves : {c : Call} {r : Result} {lead : List Event} {k : List Group} → Moves s l c r lead k →
      TaggedAll (note_answers c r.answers a)
  unfolding newcomer commit commit_turn send_turn done_report skip_report abort
  tagged_moves (places cs x y q e u p n) = tagged_put a s.next_id (placed_account cs) w (tagged_new false cs)
  tagged_moves (commits i x g y e n r k q) = tagged_put a g.member.id (ended_account (a g.member.id)) w (w g.member.id)
  tagged_moves (sends i x g y c e n r k q m u plain on) =
      tagged_put a g.member.id (sent_account c (a g.member.id)) w (w g.member.id)
  tagged_moves (passes i x g y c e n r k q m st u) =
      subst TaggedAll (sym (pass-noted i st g.member.id a))
      (answers_tagged x g y e (pass_outcome st)
      (at_next (λ c skipping _. Tagged skipping c (pass_outcome st)) false c
      (each_mid (AccountTells a) x g y (subst (Each (AccountTells a)) e t)).agrees k q (tag _ u)))
    where
      tag : (b : Bool) {st : Status} → Passes s g c st → Tagged b c (pass_outcome st)
      tag b (is_down u m) = tt
      tag b (is_off u) = tt
      tag b (does_hold u k z) = k
      tag b (does_not u k z) = k
  tagged_moves (dones i code x g y v e n r k q) = flight_tagged x g y e reported_done v k (λ p z. (p, z))
  tagged_moves (misses i x g y v e n r k) = flight_tagged x g y e reported_failed v k (λ p z. (p, z))
  tagged_moves (aborts c x g y e r k) = tagged_put a g.member.id (ended_account (a g.member.id)) w (w g.member.id)
  tagged_moves (fails d r lead k n u g) =
      happens_tagged (with_up s (put s.up d false)) (failure d) d (down d (r.state.mark d)) a l (λ b. refl)
      (hub-up s (put s.up d false) l h) run t w g
  tagged_moves (restarts d v r lead k n u g) =
      happens_tagged s (restart d v) d (up d (r.state.mark d)) a l (λ b. refl) h run t w g

-- ---- the commands of a routine, on one device

-- the outcome of a condition with this number, where its device is up or not and has this setting
abbrev pub FoundAs : ℤ → Bool → ℤ → Outcome → Type 0
FoundAs n isUp v not_yet = Unit {0}
FoundAs n isUp v reported_done = Unit {0}
FoundAs n isUp v reported_failed = Unit {0}
FoundAs n isUp v not_sent = Unit {0}
FoundAs n isUp v by_event = Unit {0}
FoundAs n isUp v found_held = (isUp ≡ true) × (lt_z v n ≡ false)
FoundAs n isUp v found_not_held = (isUp ≡ true) × (lt_z v n ≡ true)

-- the setting of d behind a command: a done one on d is run
abbrev pub set_by : ℕ → Command → Outcome → ℤ → ℤ
set_by d c not_yet v = v
set_by d c reported_done v = if is_for d c then c.setting else v
set_by d c reported_failed v = v
set_by d c not_sent v = v
set_by d c by_event v = v
set_by d c found_held v = v
set_by d c found_not_held v = v

abbrev pub RunsOn : ℕ → List Noted → Bool → ℤ → Type 0
RunsOn d [] isUp v = Unit {0}
RunsOn d (x ∷ l) isUp v =
    (is_for d x.command ≡ true → FoundAs x.command.setting isUp v x.outcome)
    × RunsOn d l isUp (set_by d x.command x.outcome v)

-- a condition on d was found
abbrev is_found : Outcome → Bool
is_found not_yet = false
is_found reported_done = false
is_found reported_failed = false
is_found not_sent = false
is_found by_event = false
is_found found_held = true
is_found found_not_held = true

abbrev found_on : ℕ → Noted → Bool
found_on d x = is_for d x.command && is_found x.outcome

not_found : (n : ℤ) (isUp : Bool) (v : ℤ) (o : Outcome) → is_found o ≡ false → FoundAs n isUp v o
not_found n b v not_yet e = tt
not_found n b v reported_done e = tt
not_found n b v reported_failed e = tt
not_found n b v not_sent e = tt
not_found n b v by_event e = tt
not_found n b v found_held e = t≠f e
not_found n b v found_not_held e = t≠f e

-- where none was found, d may be as it likes
pub runs_quiet : (d : ℕ) (l : List Noted) (b : Bool) (v : ℤ) → any_of (found_on d) l ≡ false → RunsOn d l b v
runs_quiet d [] b v e = tt
runs_quiet d (x ∷ l) b v e = (
  λ f. not_found x.command.setting b v x.outcome
      (ap (λ t. t && is_found x.outcome) (sym f) ∙ or_left (found_on d x) (any_of (found_on d) l) e),
  runs_quiet d l b _ (or_right (found_on d x) (any_of (found_on d) l) e),
)

pub agree_found : (d : ℕ) {l : List Noted} {k : List Step} → AllAgree l k → any_of (found_on d) l ≡ asked_on d k
agree_found d no_command = refl
agree_found d (one_more c agree_to_do h) = ap (λ b. (is_for d c && false) || b) (agree_found d h)
agree_found d (one_more c agree_in_flight h) = ap (λ b. (is_for d c && false) || b) (agree_found d h)
agree_found d (one_more c agree_done h) = ap (λ b. (is_for d c && false) || b) (agree_found d h)
agree_found d (one_more c agree_failed h) = ap (λ b. (is_for d c && false) || b) (agree_found d h)
agree_found d (one_more c agree_not_sent h) = ap (λ b. (is_for d c && false) || b) (agree_found d h)
agree_found d (one_more c agree_by_event h) = ap (λ b. (is_for d c && false) || b) (agree_found d h)
agree_found d (one_more c agree_held h) = ap (λ b. (is_for d c && true) || b) (agree_found d h)
agree_found d (one_more c agree_not_held h) = ap (λ b. (is_for d c && true) || b) (agree_found d h)

behind_unasked : (d : ℕ) (k : List Step) → AllBehind k → asked_on d k ≡ false
behind_unasked d =
    behind_over (asked_on d) (λ c l. ap (λ b. b || asked_on d l) (None (is_for d c))) (λ c l. ap (λ b. b || asked_on d l) (None (is_for d c)))
  where
    None : (b : Bool) → (b && false) ≡ false
    None true = refl
    None false = refl

-- what is said of the first command that is left, if it is on d, and of d's setting there
abbrev FirstOn : ℕ → (Command → ℤ → Type 0) → List Noted → ℤ → Type 0
FirstOn d P [] v = Unit {0}
FirstOn d P (x ∷ l) v =
    cond (is_left x.outcome) (is_for d x.command ≡ true → P x.command v) (FirstOn d P l (set_by d x.command x.outcome v))

runs-first : (d : ℕ) (o : Outcome) (b : Bool) (v : ℤ) {l : List Noted} {k : List Step} → AllAgree l k → InTurn k →
    FirstOn d (λ c v. FoundAs c.setting b v o) l v → RunsOn d l b v → RunsOn d (note_first o l) b v
runs-first d o b v no_command t p h = tt
runs-first d o b v (one_more c {l = l} {k = k} agree_to_do a) t p h = (p, runs_quiet d l b _ (agree_found d a ∙ behind_unasked d k t))
runs-first d o b v (one_more c {l = l} {k = k} agree_in_flight a) t p h = (p, runs_quiet d l b _ (agree_found d a ∙ behind_unasked d k t))
runs-first d o b v (one_more c agree_done a) t p h = (h.0, runs-first d o b (if is_for d c then c.setting else v) a t p h.1)
runs-first d o b v (one_more c agree_failed a) t p h = (h.0, runs-first d o b v a t p h.1)
runs-first d o b v (one_more c agree_not_sent a) t p h = (h.0, runs-first d o b v a t p h.1)
runs-first d o b v (one_more c agree_by_event a) t p h = (h.0, runs-first d o b v a t p h.1)
runs-first d o b v (one_more c agree_held a) t p h = (h.0, runs-first d o b v a t p h.1)
runs-first d o b v (one_more c agree_not_held a) t p h = (h.0, runs-first d o b v a t p h.1)

-- of an outcome that is none of a condition nothing is asked
first_any : (d : ℕ) (P : Command → ℤ → Type 0) → ((c : Command) (v : ℤ) → P c v) → (l : List Noted) (v : ℤ) → FirstOn d P l v
first_any d P p [] v = tt
first_any d P p (x ∷ l) v = go (first_any d P p l (set_by d x.command x.outcome v)) (is_left x.outcome)
  where
    go : FirstOn d P l (set_by d x.command x.outcome v) → (b : Bool) →
        cond b (is_for d x.command ≡ true → P x.command v) (FirstOn d P l (set_by d x.command x.outcome v))
    go ih true = λ _. p x.command v
    go ih false = ih

-- the next command stands behind all that are done
first_next : (d : ℕ) (P : Command → ℤ → Type 0) (c : Command) (v : ℤ) {l : List Noted} {k : List Step} → AllAgree l k → InTurn k →
    flight k ≡ None → next k ≡ Some c → (is_for d c ≡ true → P c (set_commands d (done_steps k) v)) → FirstOn d P l v
first_next d P c v no_command t f e p = tt
first_next d P c v (one_more b {k = k} agree_to_do a) t f e p =
    subst (λ (x : Command). is_for d x ≡ true → P x v) (sym (some_same b c e))
    (λ q. subst (λ l. P c (set_commands d l v)) (behind_over done_steps (λ c l. refl) (λ c l. refl) k t) (p q))
  where
    some_same : (b c : Command) → Some b ≡ Some c → b ≡ c
    some_same b c e = cc
first_next d P c v (one_more b agree_in_flight a) t f e p = let z : ◌≡◌ {A = ℕ} 0 1 = cc in absurd (omega arith)
first_next d P c v (one_more b agree_done a) t f e p = first_next d P c (if is_for d b then b.setting else v) a t f e p
first_next d P c v (one_more b agree_failed a) t f e p = first_next d P c v a t f e p
first_next d P c v (one_more b agree_not_sent a) t f e p = first_next d P c v a t f e p
first_next d P c v (one_more b agree_by_event a) t f e p = first_next d P c v a t f e p
first_next d P c v (one_more b agree_held a) t f e p = first_next d P c v a t f e p
first_next d P c v (one_more b agree_not_held a) t f e p = first_next d P c v a t f e p

runs_new : (d : ℕ) (cs : List Command) (b : Bool) (v : ℤ) → RunsOn d (map (noted_as not_yet) cs) b v
runs_new d [] b v = tt
runs_new d (c ∷ cs) b v = ((λ _. tt), runs_new d cs b v)

-- an event of e skips what is left on it
runs_left : (d e : ℕ) (l : List Noted) (b : Bool) (v : ℤ) → RunsOn d l b v → RunsOn d (note_left e l) b v
runs_left d e [] b v h = tt
runs_left d e (x ∷ l) b v h = go (λ w k. runs_left d e l b w k) (is_for e x.command && is_left x.outcome) refl
  where
    unset : (o : Outcome) → is_left o ≡ true → set_by d x.command o v ≡ v
    unset not_yet q = refl
    unset reported_done q = t≠f (sym q)
    unset reported_failed q = refl
    unset not_sent q = refl
    unset by_event q = refl
    unset found_held q = refl
    unset found_not_held q = refl

    go : ((w : ℤ) → RunsOn d l b w → RunsOn d (note_left e l) b w) → (t : Bool) → (is_for e x.command && is_left x.outcome) ≡ t →
        RunsOn d ((if t then noted_as by_event x.command else x) ∷ note_left e l) b v
    go ih true q =
        ((λ _. tt), ih v (subst (RunsOn d l b) (unset x.outcome (and_right (is_for e x.command) (is_left x.outcome) q)) h.1))
    go ih false q = (h.0, ih _ h.1)

-- ---- an order, on one device

-- `q`: the commands of each id, as they were noted
abbrev pub OnDevice : ℕ → (ℕ → List Noted) → List Entry → Bool → ℤ → Type 0
OnDevice d q [] isUp v = Unit {0}
OnDevice d q (routine i cs b ∷ l) isUp v = RunsOn d (q i) isUp v × OnDevice d q l isUp (set_commands d cs v)
OnDevice d q (event e ∷ l) isUp v = OnDevice d q l (up_event d e isUp) (set_event d e v)

module _ (d : ℕ) (q : ℕ → List Noted) where
  pub on_split : (p r : List Entry) (b : Bool) (v : ℤ) → OnDevice d q (p ++ r) b v →
      OnDevice d q p b v × OnDevice d q r (up_after d p b) (set_after d p v)
  on_split [] r b v h = (tt, h)
  on_split (routine i cs c ∷ p) r b v h = let k = on_split p r b (set_commands d cs v) h.1 in ((h.0, k.0), k.1)
  on_split (event e ∷ p) r b v h = on_split p r (up_event d e b) (set_event d e v) h

  pub on_join : (p r : List Entry) (b : Bool) (v : ℤ) → OnDevice d q p b v → OnDevice d q r (up_after d p b) (set_after d p v) →
      OnDevice d q (p ++ r) b v
  on_join [] r b v h k = k
  on_join (routine i cs c ∷ p) r b v h k = (h.0, on_join p r b (set_commands d cs v) h.1 k)
  on_join (event e ∷ p) r b v h k = on_join p r (up_event d e b) (set_event d e v) h k

  on_other : (i : ℕ) (z : List Noted) (l : List Entry) (b : Bool) (v : ℤ) → NotIn i (entry_ids l) → OnDevice d q l b v →
      OnDevice d (put q i z) l b v
  on_other i z [] b v n h = tt
  on_other i z (routine j cs c ∷ l) b v n h =
      (subst (λ x. RunsOn d x b v) (sym (put_other q i z j n.0)) h.0, on_other i z l b (set_commands d cs v) n.1 h.1)
  on_other i z (event e ∷ l) b v n h = on_other i z l (up_event d e b) (set_event d e v) n h

  -- no condition on d was found in it
  on_quiet : (l : List Entry) (b : Bool) (v : ℤ) → Each (λ i. any_of (found_on d) (q i) ≡ false) (entry_ids l) → OnDevice d q l b v
  on_quiet [] b v n = tt
  on_quiet (routine i cs c ∷ l) b v n = (runs_quiet d (q i) b v n.0, on_quiet l b (set_commands d cs v) n.1)
  on_quiet (event e ∷ l) b v n = on_quiet l (up_event d e b) (set_event d e v) n

-- nor by these groups
quiet_groups : (d : ℕ) (a : ℕ → Account) (l : List Group) → Each (AccountTells a) l → Each (λ g. asked_on d g.member.steps ≡ false) l →
    Each (λ i. any_of (found_on d) (noted_in a i) ≡ false) (ids l)
quiet_groups d a [] t n = tt
quiet_groups d a (g ∷ l) t n = (agree_found d t.0.agrees ∙ n.0, quiet_groups d a l t.1 n.1)

behind_ids : (f : List Event) (l : List Group) → entry_ids (map event f ++ flat l) ≡ ids l
behind_ids f l = entry_ids_++ (map event f) (flat l) ∙ ap₂ ◌++◌ (entry_ids_events f) (entry_ids_flat l)

quiet_behind : (d : ℕ) (a : ℕ → Account) (f : List Event) (l : List Group) (b : Bool) (v : ℤ) → Each (AccountTells a) l →
    Each (λ g. asked_on d g.member.steps ≡ false) l → OnDevice d (noted_in a) (map event f ++ flat l) b v
quiet_behind d a f l b v t n =
    on_quiet d (noted_in a) (map event f ++ flat l) b v
    (subst (Each (λ i. any_of (found_on d) (noted_in a i) ≡ false)) (sym (behind_ids f l)) (quiet_groups d a l t n))

unbegun_unasked : (d : ℕ) (l : List Group) → Each (NotBegun d) l → Each (λ g. asked_on d g.member.steps ≡ false) l
unbegun_unasked d [] n = tt
unbegun_unasked d (g ∷ l) n = (unbegun_asked g.member d n.0.idle, unbegun_unasked d l n.1)

-- a running routine that has set nothing on d leaves it as it is
pub unset_commands : (d : ℕ) (m : Member) → m.committed ≡ false → has_set d m ≡ false → (v : ℤ) → set_commands d (done_steps m.steps) v ≡ v
unfolding is_running
unset_commands d m r e v =
    go (done_steps m.steps) v (ap (λ b. not b && any_of (is_for d) (done_steps m.steps)) (sym r) ∙ sym (set_is d m) ∙ e)
  where
    go : (l : List Command) (v : ℤ) → any_of (is_for d) l ≡ false → set_commands d l v ≡ v
    go [] v e = refl
    go (c ∷ l) v e = rw (or_left (is_for d c) (any_of (is_for d) l) e) (go l v (or_right (is_for d c) (any_of (is_for d) l) e))

-- ---- what holds before a call

-- every condition that was found is found so along the order
abbrev pub ReplaysOn : (ℕ → Account) → List Entry → Type 0
ReplaysOn a l = (d : ℕ) → OnDevice d (noted_in a) l true (pos 0)

record Before (s : State) (o : Order) (a : ℕ → Account) (l : List Group) : Type 0 where
  hub : HubOk s l
  order : OrderOk s o [] l
  tells : Each (AccountTells a) l
  spared : AllPairs Spares l
  replays : ReplaysOn a (o.settled ++ flat l)

-- d before the groups behind p and x: up, and at which setting
abbrev up_at : ℕ → List Entry → List Group → Bool
up_at d p x = up_after d (p ++ flat x) true

abbrev set_at : ℕ → List Entry → List Group → ℤ
set_at d p x = set_after d (p ++ flat x) (pos 0)

on-at : (d : ℕ) (q : ℕ → List Noted) (p : List Entry) (x y : List Group) → OnDevice d q (p ++ flat (x ++ y)) true (pos 0) →
    OnDevice d q (p ++ flat x) true (pos 0) × OnDevice d q (flat y) (up_at d p x) (set_at d p x)
on-at d q p x y h =
    on_split d q (p ++ flat x) (flat y) true (pos 0) (subst (λ l. OnDevice d q l true (pos 0)) (flat_at p x y) h)

-- g stands between x and y, its account having become z
on_put : (d : ℕ) (a : ℕ → Account) (p : List Entry) (x : List Group) (g : Group) (y : List Group) (z : Account) →
    NotIn g.member.id (entry_ids (p ++ flat x)) → NotIn g.member.id (entry_ids (map event g.events ++ flat y)) →
    OnDevice d (noted_in a) (p ++ flat x) true (pos 0) → RunsOn d z.commands (up_at d p x) (set_at d p x) →
    OnDevice d (noted_in a) (map event g.events ++ flat y) (up_at d p x) (set_commands d (done_steps g.member.steps) (set_at d p x)) →
    OnDevice d (noted_in (put a g.member.id z)) (p ++ flat (x ++ (g ∷ y))) true (pos 0)
on_put d a p x g y z m n h r k =
    let i = g.member.id in
    let q = put (noted_in a) i z.commands in
    subst (λ l. OnDevice d (noted_in (put a i z)) l true (pos 0)) (sym (flat_at p x (g ∷ y)))
    (subst (λ q. OnDevice d q ((p ++ flat x) ++ flat (g ∷ y)) true (pos 0)) (sym (put-noted a i z))
    (on_join d q (p ++ flat x) (flat (g ∷ y)) true (pos 0) (on_other d (noted_in a) i z.commands (p ++ flat x) true (pos 0) m h) (
      subst (λ l. RunsOn d l (up_at d p x) (set_at d p x)) (sym (put_same (noted_in a) i z.commands)) r,
      on_other d (noted_in a) i z.commands (map event g.events ++ flat y) (up_at d p x) _ n k,
    )))

replays_places : (s : State) (o : Order) (a : ℕ → Account) (cs : List Command) (x y : List Group) → Before s o a (x ++ y) →
    ReplaysOn (put a s.next_id (placed_account cs)) (o.settled ++ flat (x ++ (alone (newcomer s.next_id cs) ∷ pass_all y)))
unfolding newcomer
replays_places s o a cs x y f d =
    let i = s.next_id in
    let p = entry_ids (o.settled ++ flat x) in
    let n = ids_fresh i (p ++ entry_ids (flat y)) (entry-ids s o x y f.order) in
    let h = on-at d (noted_in a) o.settled x y (f.replays d) in
    on_put d a o.settled x (alone (newcomer i cs)) (pass_all y) (placed_account cs) (each_left (IsNot i) p (entry_ids (flat y)) n)
    (subst (λ l. NotIn i (entry_ids l)) (sym (flat_pass y)) (each_right (IsNot i) p (entry_ids (flat y)) n)) h.0
    (runs_new d cs (up_at d o.settled x) (set_at d o.settled x))
    (subst₂on d y h.1 (none-done cs))
  where
    none-done : (cs : List Command) → done_steps (newcomer s.next_id cs).steps ≡ []
    none-done [] = refl
    none-done (c ∷ cs) = none-done cs

    subst₂on : (d : ℕ) (y : List Group) → OnDevice d (noted_in a) (flat y) (up_at d o.settled x) (set_at d o.settled x) →
        {l : List Command} → l ≡ [] →
        OnDevice d (noted_in a) (flat (pass_all y)) (up_at d o.settled x) (set_commands d l (set_at d o.settled x))
    subst₂on d y h e =
        subst (λ l. OnDevice d (noted_in a) (flat (pass_all y)) (up_at d o.settled x) (set_commands d l (set_at d o.settled x))) (sym e)
        (subst (λ l. OnDevice d (noted_in a) l (up_at d o.settled x) (set_at d o.settled x)) (sym (flat_pass y)) h)

module _ (s : State) (o : Order) (a : ℕ → Account) (x : List Group) (g : Group) (y : List Group) (f : Before s o a (x ++ (g ∷ y))) where
  -- d before g
  abbrev up_here : ℕ → Bool
  up_here d = up_at d o.settled x

  abbrev set_here : ℕ → ℤ
  set_here d = set_at d o.settled x

  abbrev i : ℕ
  i = g.member.id

  apart : NotIn i (entry_ids (o.settled ++ flat x)) × NotIn i (entry_ids (map event g.events ++ flat y))
  apart =
      let p = entry_ids (o.settled ++ flat x) in
      let r = entry_ids (map event g.events ++ flat y) in
      let n = ids_other s.next_id p i r (entry-ids s o x (g ∷ y) f.order) in
      (each_left (IsNot i) p r n, each_right (IsNot i) p r n)

  parts : (d : ℕ) → OnDevice d (noted_in a) (o.settled ++ flat x) true (pos 0)
      × OnDevice d (noted_in a) (flat (g ∷ y)) (up_here d) (set_here d)
  parts d = on-at d (noted_in a) o.settled x (g ∷ y) (f.replays d)

  agrees : AllAgree (a i).commands g.member.steps
  agrees = (each_mid (AccountTells a) x g y f.tells).agrees

  tells-behind : Each (AccountTells a) y
  tells-behind = each_right (AccountTells a) (g ∷ []) y (each_right (AccountTells a) x (g ∷ y) f.tells)

  -- g becomes n, its account z; behind it nothing changes, or nobody found a condition on the device
  replays_changes : (n : Member) (z : Account) → n.id ≡ i →
      ((d : ℕ) → RunsOn d (a i).commands (up_here d) (set_here d) → RunsOn d z.commands (up_here d) (set_here d)) →
      ((d : ℕ) → (set_commands d (done_steps n.steps) (set_here d) ≡ set_commands d (done_steps g.member.steps) (set_here d))
      ⊎ Each (λ g. asked_on d g.member.steps ≡ false) y) →
      ReplaysOn (put a i z) (o.settled ++ flat (x ++ (with g n ∷ y)))
  replays_changes n z e r k d =
      let w = parts d in
      subst (λ j. OnDevice d (noted_in (put a j z)) (o.settled ++ flat (x ++ (with g n ∷ y))) true (pos 0)) e
      (on_put d a o.settled x (with g n) y z (subst (λ j. NotIn j (entry_ids (o.settled ++ flat x))) (sym e) apart.0)
      (subst (λ j. NotIn j (entry_ids (map event g.events ++ flat y))) (sym e) apart.1) w.0 (r d w.1.0) (rest (k d) w.1.1))
    where
      rest : {v u : ℤ} → (v ≡ u) ⊎ Each (λ g. asked_on d g.member.steps ≡ false) y →
          OnDevice d (noted_in a) (map event g.events ++ flat y) (up_here d) u →
          OnDevice d (noted_in a) (map event g.events ++ flat y) (up_here d) v
      rest (inl e) h = subst (OnDevice d (noted_in a) (map event g.events ++ flat y) (up_here d)) (sym e) h
      rest {v = v} (inr q) h = quiet_behind d a g.events y (up_here d) v tells-behind q

  -- what is due on a device that nothing behind g touches
  due-here : (d : ℕ) → ClearOfDevice d x g y → set_commands d (done_steps g.member.steps) (set_here d) ≡ due s d
  due-here d c =
      let v = set_commands d (done_steps g.member.steps) (set_here d) in
      let p = o.settled ++ flat x in
      let whole : entries o ≡ p ++ flat (g ∷ y) = ap (λ l. o.settled ++ l) f.order.unsettled-is ∙ flat_at o.settled x (g ∷ y) in
      let events : Each EventsOk y = each_right EventsOk (g ∷ []) y (each_right EventsOk x (g ∷ y) f.order.events_ok) in
      sym (sym (order-due s o (x ++ (g ∷ y)) f.hub f.order d) ∙ ap (λ l. set_after d l (pos 0)) whole
      ∙ set_++ d p (flat (g ∷ y)) (pos 0) ∙ set_++ d (map event g.events) (flat y) v
      ∙ ap (set_after d (flat y))
      (set_events d g.events v ∙ ap (λ r. after_restart r v) (last_restart_not-begun d g.events c.no_event))
      ∙ set_flat d y v events ∙ not-begun_members d y v events c.behind-not-begun)

  -- the next command is answered without being sent
  replays_passes : (c : Command) (st : Status) → Passes s g c st → flight g.member.steps ≡ None → next g.member.steps ≡ Some c →
      ClearOfDevice c.device x g y → done_steps (passed_member st g).steps ≡ done_steps g.member.steps →
      ReplaysOn (put a i (answered_account (pass_outcome st) (a i))) (o.settled ++ flat (x ++ (with g (passed_member st g) ∷ y)))
  unfolding is_held
  replays_passes c st u n e clear done =
      replays_changes (passed_member st g) (answered_account (pass_outcome st) (a i)) refl
      (λ d. runs-first d (pass_outcome st) (up_here d) (set_here d) agrees (in-turn s x g y f.hub)
      (first_next d (λ c v. FoundAs c.setting (up_here d) v (pass_outcome st)) c (set_here d) agrees (in-turn s x g y f.hub) n e
      (λ q. found d (eqb-true c.device d q) u)))
      (λ d. inl (ap (λ l. set_commands d l (set_here d)) done))
    where
      found : (d : ℕ) → c.device ≡ d → {st : Status} → Passes s g c st →
          FoundAs c.setting (up_here d) (set_commands d (done_steps g.member.steps) (set_here d)) (pass_outcome st)
      found d q (is_down u m) = tt
      found d q (is_off u) = tt
      found d q (does_hold u k z) = subst Held q (
        up_clear s o x g y f.order c.device clear ∙ u,
        ap (λ v. lt_z v c.setting) (due-here c.device clear) ∙ not-true (lt_z (due s c.device) c.setting) z,
      )
        where
          Held : ℕ → Type 0
          Held d = (up_here d ≡ true) × (lt_z (set_commands d (done_steps g.member.steps) (set_here d)) c.setting ≡ false)
      found d q (does_not u k z) = subst NotHeld q (
        up_clear s o x g y f.order c.device clear ∙ u,
        ap (λ v. lt_z v c.setting) (due-here c.device clear) ∙ not-false (lt_z (due s c.device) c.setting) z,
      )
        where
          NotHeld : ℕ → Type 0
          NotHeld d = (up_here d ≡ true) × (lt_z (set_commands d (done_steps g.member.steps) (set_here d)) c.setting ≡ true)

  -- the command in flight is done
  replays_dones : (v : Flight) → flight g.member.steps ≡ Some v →
      ReplaysOn (put a i (answered_account reported_done (a i))) (o.settled ++ flat (x ++ (with g (done_member g) ∷ y)))
  replays_dones v e =
      replays_changes (done_member g) (answered_account reported_done (a i)) refl
      (λ d. runs-first d reported_done (up_here d) (set_here d) agrees (in-turn s x g y f.hub)
      (first_any d (λ c w. FoundAs c.setting (up_here d) w reported_done) (λ c w. tt) (a i).commands (set_here d)))
      (λ d. this_or_other
      (λ d. (set_commands d (done_steps (done_member g).steps) (set_here d) ≡ set_commands d (done_steps g.member.steps) (set_here d))
      ⊎ Each (λ g. asked_on d g.member.steps ≡ false) y) v.command.device d
      (inr (unbegun_unasked v.command.device y (flight_clear s x g y v f.hub e).behind-not-begun))
      (λ n. inl (ap (λ l. set_commands d l (set_here d)) (done-gains g.member (in-turn s x g y f.hub) v e)
      ∙ one_other d n (done_steps g.member.steps) (set_here d))))
    where
      one_other : (d : ℕ) → v.command.device ≢ d → (l : List Command) (w : ℤ) →
          set_commands d (l ++ (v.command ∷ [])) w ≡ set_commands d l w
      one_other d n [] w = rw (ne_eqb v.command.device d n) refl
      one_other d n (c ∷ l) w = one_other d n l _

  -- g leaves, and ran
  replays_leaves : g.member.committed ≡ false →
      ReplaysOn (put a i (ended_account (a i))) (o.settled ++ open_part (lead_of x g) (leaving x g y))
  replays_leaves running d =
      let w = parts d in
      let r = map event g.events ++ flat y in
      subst (λ q. OnDevice d q (o.settled ++ open_part (lead_of x g) (leaving x g y)) true (pos 0)) (sym (ended_noted a i))
      (subst (λ l. OnDevice d (noted_in a) l true (pos 0)) (append_assoc o.settled (flat x) r
      ∙ ap (λ l. o.settled ++ l) (sym (flat_leaving x g y)))
      (on_join d (noted_in a) (o.settled ++ flat x) r true (pos 0) w.0 (by (has_set d g.member) refl w.1.1)))
    where
      r : List Entry
      r = map event g.events ++ flat y

      by : (b : Bool) → has_set d g.member ≡ b →
          OnDevice d (noted_in a) r (up_here d) (set_commands d (done_steps g.member.steps) (set_here d)) →
          OnDevice d (noted_in a) r (up_here d) (set_here d)
      by true e h =
          quiet_behind d a g.events y (up_here d) (set_here d) tells-behind
          (set_unasked d g y e (pairs_around Spares x g y f.spared).behind)
      by false e h = subst (OnDevice d (noted_in a) r (up_here d)) (unset_commands d g.member running e (set_here d)) h

-- ---- an event

-- those that are quiet with its device do not see it
replays_event : (e : Event) (a : ℕ → Account) (l : List Group) → Each (NotBegun (device_of e)) l → Each (AccountTells a) l →
    (d : ℕ) (b : Bool) (v : ℤ) → OnDevice d (noted_in a) (flat l) b v → OnDevice d (noted_in a) (event e ∷ flat l) b v
replays_event e a l n t d b v h =
    this_or_other (λ d. OnDevice d (noted_in a) (flat l) b v → OnDevice d (noted_in a) (flat l) (up_event d e b) (set_event d e v))
    (device_of e) d
    (λ _. quiet_behind (device_of e) a [] l _ _ t (unbegun_unasked (device_of e) l n))
    (λ m h. subst (λ u. OnDevice d (noted_in a) (flat l) u (set_event d e v)) (sym (same_up e m))
    (subst (OnDevice d (noted_in a) (flat l) b) (sym (same_set e m)) h)) h
  where
    same_up : (e : Event) → device_of e ≢ d → up_event d e b ≡ b
    same_up e m = up-event d e b ∙ ap (λ t. if t then brings_up e else b) (ne_eqb (device_of e) d m)

    same_set : (e : Event) → device_of e ≢ d → set_event d e v ≡ v
    same_set (failure_event x) m = refl
    same_set (restart_event x w) m = ap (λ t. if t then w else v) (ne_eqb x d m)

replays_attached : (s : State) (e : Event) (a : ℕ → Account) (p : List Entry) (lead : List Event) (l : List Group) → HubOk s l →
    let j = s.mark (device_of e) in
    Each (AccountTells a) (attach_event j e l) → ReplaysOn a (p ++ open_part lead l) →
    ReplaysOn a (p ++ open_part (lead_with j e lead) (attach_event j e l))
replays_attached s e a p lead l h k w d =
    let c = cut_at e (s.mark (device_of e)) lead l (mark-place s l h (device_of e)) in
    let q = noted_in a in
    let old = flat c.behind in
    let told = each_right (AccountTells a) c.ahead c.behind (subst (Each (AccountTells a)) c.attached k) in
    let first = p ++ c.before in
    let was : p ++ open_part lead l ≡ first ++ old = ap (λ r. p ++ r) c.was ∙ sym (append_assoc p c.before old) in
    let becomes : p ++ open_part (lead_with (s.mark (device_of e)) e lead) (attach_event (s.mark (device_of e)) e l) ≡ first
    ++ (event e ∷ old) =
    ap (λ r. p ++ r) c.becomes ∙ sym (append_assoc p c.before (event e ∷ old)) in
    let n = on_split d q first old true (pos 0) (subst (λ r. OnDevice d q r true (pos 0)) was (w d)) in
    subst (λ r. OnDevice d q r true (pos 0)) (sym becomes)
    (on_join d q first (event e ∷ old) true (pos 0) n.0 (replays_event e a c.behind c.not-begun told d _ _ n.1))

-- what comes ahead of it; `t`: the state of a device that is failing
replays_gone : (s t : State) (o : Order) (a : ℕ → Account) (d : ℕ) (l : List Group) {r : Result} {lead : List Event} {k : List Group} →
    Before s o a l → (w : Gone t d l r lead k) → ReplaysOn (event_told w a) (o.settled ++ open_part lead k)
replays_gone s t o a d l f (nobody n) = f.replays
replays_gone s t o a d l f (somebody x g y e n) =
    replays_leaves s o a x g y (subst (λ l. Before s o a l) e f) (halfway_is d g.member n).runs
replays_gone s t o a d l f (loses x g y e n m) =
    let w = subst (λ l. Before s o a l) e f in
    let k = skip_steps d g.member (in-turn s x g y w.hub) in
    replays_changes s o a x g y w (skipped_left d g) (skipped_account d (a g.member.id)) refl
    (λ c h. runs_left c d (a g.member.id).commands _ _ h)
    (λ c. inl (ap (λ l. set_commands c l (set_at c o.settled x)) k.same-done))

replays_happens : (s t : State) (o : Order) (e : Event) (a : ℕ → Account) (l : List Group)
    {r : Result} {lead : List Event} {k : List Group} → Before s o a l → RunsTold a l → HubOk t l → Gone t (device_of e) l r lead k →
    (c : Call) (v : Answer) → TellsEvent (device_of e) c v →
    let j = r.state.mark (device_of e) in
    let b = note_answers c (r.answers ++ (v ∷ [])) a in
    Each (AccountTells b) (attach_event j e k) → ReplaysOn b (o.settled ++ open_part (lead_with j e lead) (attach_event j e k))
replays_happens s t o e a l {r = r} {lead = lead} {k = k} f u h g c v same n =
    let d = device_of e in
    let b = note_answers c (r.answers ++ (v ∷ [])) a in
    replays_attached r.state e b o.settled lead k (hub_gone t d l h g).0 n
    (subst (λ b. ReplaysOn b (o.settled ++ open_part lead k)) (sym (event-accounts t d c v a l same h u f.tells g))
    (replays_gone s t o a d l f g))

-- ---- every call

moves_on : (s : State) (o : Order) (a : ℕ → Account) (l : List Group) {c : Call} {r : Result} {lead : List Event} {k : List Group} →
    Before s o a l → RunsTold a l → Moves s l c r lead k →
    Each (AccountTells (note_answers c r.answers a)) k → ReplaysOn (note_answers c r.answers a) (o.settled ++ open_part lead k)
unfolding abort commit commit_turn send_turn done_report skip_report
moves_on s o a l f t (places cs x y v e m n b) = λ _. replays_places s o a cs x y (subst (λ l. Before s o a l) e f)
moves_on s o a l f t (commits i x g y e j r n b) = λ _.
    replays_changes s o a x g y (subst (λ l. Before s o a l) e f) (commit g.member) (ended_account (a g.member.id)) refl
    (λ d h. h) (λ d. inl refl)
moves_on s o a l f t (sends i x g y c e j r n b m u plain on) = λ _.
    let w = subst (λ l. Before s o a l) e f in
    let k = send-step g.member (in-turn s x g y w.hub) c (due s c.device) b n in
    replays_changes s o a x g y w (sent_member s g c) (sent_account c (a g.member.id)) refl (λ d h. h)
    (λ d. inl (ap (λ l. set_commands d l (set_at d o.settled x)) k.same-done))
moves_on s o a l f t (passes i x g y c e j r n b m st u) = λ _.
    let w = subst (λ l. Before s o a l) e f in
    subst (λ n. ReplaysOn n (o.settled ++ flat (x ++ (with g (passed_member st g) ∷ y)))) (sym (pass-noted i st g.member.id a))
    (replays_passes s o a x g y w c st u n b (turn_clear s x g y c w.hub b n m)
    (skip_step g.member (in-turn s x g y w.hub) c st (passing u) b n).same-done)
moves_on s o a l f t (dones i code x g y v e j r n b) = λ _. replays_dones s o a x g y (subst (λ l. Before s o a l) e f) v n
moves_on s o a l f t (misses i x g y v e j r n) = λ _.
    let w = subst (λ l. Before s o a l) e f in
    let k = in-turn s x g y w.hub in
    replays_changes s o a x g y w (failed_member g) (answered_account reported_failed (a g.member.id)) refl
    (λ d. runs-first d reported_failed _ _ (agrees s o a x g y w) k
    (first_any d (λ c z. FoundAs c.setting (up_at d o.settled x) z reported_failed) (λ c z. tt) (a g.member.id).commands
    (set_at d o.settled x)))
    (λ d. inl (ap (λ l. set_commands d l (set_at d o.settled x)) (fail_done g.member k v n)))
moves_on s o a l f t (aborts c x g y e j n) = λ _. replays_leaves s o a x g y (subst (λ l. Before s o a l) e f) j
moves_on s o a l f t (fails d r lead b n u g) =
    replays_happens s (with_up s (put s.up d false)) o (failure_event d) a l f t (hub-up s (put s.up d false) l f.hub) g
    (failure d) (down d (r.state.mark d)) (λ b. refl)
moves_on s o a l f t (restarts d v r lead b n u g) =
    replays_happens s s o (restart_event d v) a l f t f.hub g (restart d v) (up d (r.state.mark d)) (λ b. refl)

pub replays_moves : (s : State) (o : Order) (a : ℕ → Account)
    (l : List Group) {c : Call} {r : Result} {lead : List Event} {k : List Group} →
    HubOk s l → OrderOk s o [] l → RunsTold a l → Each (AccountTells a) l → AllPairs Spares l → ReplaysOn a (entries o) →
    Moves s l c r lead k → ReplaysOn (note_answers c r.answers a) (entries (order_after_all c a r.answers o))
replays_moves s o a l {c = c} {r = r} {lead = lead} {k = j} h k u t p w m =
    let n = order_moves s o a l h k t m in
    subst (ReplaysOn (note_answers c r.answers a)) (sym (ap₂ (λ x y. x ++ y) n.1 n.0.unsettled-is))
    (moves_on s o a l
    (record { hub = h; order = k; tells = t; spared = p; replays = subst (λ q. ReplaysOn a (o.settled ++ q)) k.unsettled-is w }) u m
    (accounts_moves s a l h u t m))
