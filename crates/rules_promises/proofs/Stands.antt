-- Part 3 of demand 3 is kept by every call: where commands stand in the serial run. Assumes nothing.
use mathlib.Core.Path.{◌≡◌, refl, sym, ap, ap₂, ◌∙◌, subst, fun_ext}
use mathlib.Core.Logic.{◌≢◌, inl, inr}
use mathlib.Core.Bool.{Bool, true, false}
use mathlib.Core.List.{List, [], ◌∷◌, ◌++◌, map, append_assoc}
use Prim.Native.Nat.{ℕ}
use borrow.Author.Tests.{eq-eqb, ne_eqb}
use Rattle.std.specs.Prelude.{if◌then◌else◌}
use Rattle.rules_routine.specs.declared.Command.{Command}
use Rattle.rules.specs.Tables.{any_of, put, Each}
use Rattle.rules.specs.State.{Status, Step, State}
use Rattle.rules.specs.Answers.{Call, failure, restart, Answer, down, up, Result}
use Rattle.rules.specs.Progress.{counts_as_must, next_counts_as_must, next_is_skipped}
use Rattle.rules.specs.Sequence.{with_up}
use Rattle.rules.specs.Abort.{abort}
use Rattle.rules.specs.Submit.{newcomer}
use Rattle.rules.specs.Turn.{commit, commit_turn, send_turn}
use Rattle.rules.specs.Report.{done_report, skip_report}
use Rattle.rules.specs.Events.{must_left}
use Rattle.rules.specs.History.{Outcome, not_yet, reported_done, reported_failed, not_sent, by_event, found_held, found_not_held}
use Rattle.rules.specs.History.{Noted, Account, placed_account, sent_account, answered_account, ended_account, skipped_account}
use Rattle.rules.specs.History.{note_answers}
use Rattle.rules.specs.Order.{Event, failure_event, restart_event, device_of, Entry, routine, event, Order, order_after_all, entries}
use Rattle.rules.specs.Serial.{DeviceState, all_up, run_entry}
use Rattle.rules.specs.Demand3.{events_next, skips_following, Finds, after_noted, AllFind, done_ones, CommandsStand}
use Rattle.rules.specs.HubOrder.{done_steps, AllAgree}
use Rattle.rules.proofs.Lists.{put_same, put_other, each_left, each_right, each_mid, IsNot}
use Rattle.rules.proofs.Lists.{NotIn, IdsOk, ids_fresh, ids_other}
use Rattle.rules_promises.proofs.Groups.{Group, ids, flat, entry_ids, alone, with, changed, pass_all, leaving, lead_of, attach_event}
use Rattle.rules_promises.proofs.Groups.{lead_with, flat_++, entry_ids_++, entry_ids_flat, flat_pass, flat_leaving}
use Rattle.rules_promises.proofs.Steps.{done-step, unbegun_answered}
use Rattle.rules_promises.proofs.Agree.{answered_for, agree-done, agree_answered}
use Rattle.rules_promises.proofs.Invariant.{NotBegun, HubOk, InFlightIsUp, up_event, up_after, OrderOk, AccountTells}
use Rattle.rules_promises.proofs.View.{Passes, is_down, is_off, does_hold, does_not, sent_member, passed_member, done_member}
use Rattle.rules_promises.proofs.View.{failed_member}
use Rattle.rules_promises.proofs.View.{skipped_left, Gone, nobody, somebody, loses}
use Rattle.rules_promises.proofs.View.{Moves, places, commits, sends, passes, dones, misses, aborts, fails, restarts}
use Rattle.rules_promises.proofs.Runs.{up_++, brings_up, up-event, up-not-begun, up_flat_not-begun}
use Rattle.rules_promises.proofs.Marks.{ClearOfDevice, in-turn, turn_clear, flight_clear, mark-place}
use Rattle.rules_promises.proofs.Moved.{hub_gone, hub-up}
use Rattle.rules_promises.proofs.Serial.{serial_up}
use Rattle.rules_promises.proofs.Running.{pass_outcome, pass-noted, RunsTold}
use Rattle.rules_promises.proofs.Accounts.{event_told, gone_tells, TellsEvent, event-accounts, accounts_moves}
use Rattle.rules_promises.proofs.Ordered.{order_ids, cut_at, order_moves}
use Rattle.rules_promises.proofs.Followed.{Ground, FollowedBy, Followed, parts_of, of_parts, noted_in, put-noted, ended_noted}
use Rattle.rules_promises.proofs.Followed.{followed_moves}
use Rattle.rules_promises.proofs.Fits.{FindsUp, names_of, Fit, fit_spared, fit_new, fit_next, fit_flight, fit_left}

-- ---- where commands stand, told by the devices that are up alone

-- `q`: the commands of each id, as they were noted; `u`: is the device up?
abbrev Stand : (ℕ → List Noted) → List Entry → (ℕ → Bool) → Type 0
Stand q [] u = Unit {0}
Stand q (routine i cs b ∷ l) u = (cs ≡ done_ones (q i)) × Fit u false (q i) × Stand q l u
Stand q (event e ∷ l) u = Stand q l (λ d. up_event d e (u d))

-- from all devices up
abbrev Standing : (ℕ → Account) → List Entry → Type 0
Standing a l = Stand (noted_in a) l (λ d. true)

-- this, with the ground of those that an event skipped, is what the statement says: a run's commands leave the devices up or down as they
-- were
finds_parts : (f : List Event) (c : Command) (b skipping must : Bool) (o : Outcome) → Finds f c.device b skipping must o →
    FindsUp b skipping must o × Ground f c o
finds_parts f c b k m not_yet h = (tt, tt)
finds_parts f c b k m reported_done h = (h, tt)
finds_parts f c b k m reported_failed h = (tt, tt)
finds_parts f c b k m not_sent h = (h, tt)
finds_parts f c b k m by_event h = h
finds_parts f c b k m found_held h = (h, tt)
finds_parts f c b k m found_not_held h = (h, tt)

finds_both : (f : List Event) (c : Command) (b skipping must : Bool) (o : Outcome) → FindsUp b skipping must o → Ground f c o →
    Finds f c.device b skipping must o
finds_both f c b k m not_yet h g = tt
finds_both f c b k m reported_done h g = h
finds_both f c b k m reported_failed h g = tt
finds_both f c b k m not_sent h g = h
finds_both f c b k m by_event h g = (h, g)
finds_both f c b k m found_held h g = h
finds_both f c b k m found_not_held h g = h

pub noted-up : (o : Outcome) (c : Command) (t : ℕ → DeviceState) → ◌≡◌ {A = ℕ → Bool} (λ d. (after_noted o c t d).up) (λ d. (t d).up)
noted-up not_yet c t = refl
noted-up reported_done c t = fun_ext (λ d. serial_up d (routine 0 (c ∷ []) true ∷ []) t)
noted-up reported_failed c t = refl
noted-up not_sent c t = refl
noted-up by_event c t = refl
noted-up found_held c t = refl
noted-up found_not_held c t = refl

all_parts : (f : List Event) (skipping : Bool) (l : List Noted) (t : ℕ → DeviceState) → AllFind f skipping l t →
    Fit (λ d. (t d).up) skipping l × Each (FollowedBy f) l
all_parts f b [] t h = (tt, tt)
all_parts f b (x ∷ l) t h =
    let k = finds_parts f x.command (t x.command.device).up b (counts_as_must x.command (names_of l)) x.outcome h.0 in
    let n = all_parts f (skips_following x) l (after_noted x.outcome x.command t) h.1 in
    ((k.0, subst (λ u. Fit u (skips_following x) l) (noted-up x.outcome x.command t) n.0), (k.1, n.1))

all_both : (f : List Event) (skipping : Bool) (l : List Noted) (t : ℕ → DeviceState) → Fit (λ d. (t d).up) skipping l →
    Each (FollowedBy f) l → AllFind f skipping l t
all_both f b [] t h k = tt
all_both f b (x ∷ l) t h k = (
  finds_both f x.command (t x.command.device).up b (counts_as_must x.command (names_of l)) x.outcome h.0 k.0,
  all_both f (skips_following x) l (after_noted x.outcome x.command t)
      (subst (λ u. Fit u (skips_following x) l) (sym (noted-up x.outcome x.command t)) h.1) k.1,
)

pub entry_up : (e : Entry) (t : ℕ → DeviceState) → ◌≡◌ {A = ℕ → Bool} (λ d. (run_entry e t d).up) (λ d. up_after d (e ∷ []) (t d).up)
entry_up e t = fun_ext (λ d. serial_up d (e ∷ []) t)

stand_parts : (a : ℕ → Account) (l : List Entry) (t : ℕ → DeviceState) → CommandsStand a l t →
    Stand (noted_in a) l (λ d. (t d).up) × Followed (noted_in a) l
stand_parts a [] t h = (tt, tt)
stand_parts a (routine i cs b ∷ l) t h =
    let k = all_parts (events_next l) false (a i).commands t h.1 in
    let n = stand_parts a l (run_entry (routine i cs b) t) h.2 in
    ((h.0, k.0, subst (λ u. Stand (noted_in a) l u) (entry_up (routine i cs b) t) n.0), (k.1, n.1))
stand_parts a (event e ∷ l) t h =
    let n = stand_parts a l (run_entry (event e) t) h in
    (subst (λ u. Stand (noted_in a) l u) (entry_up (event e) t) n.0, n.1)

stand_both : (a : ℕ → Account) (l : List Entry) (t : ℕ → DeviceState) → Stand (noted_in a) l (λ d. (t d).up) → Followed (noted_in a) l →
    CommandsStand a l t
stand_both a [] t h k = tt
stand_both a (routine i cs b ∷ l) t h k = (
  h.0,
  all_both (events_next l) false (a i).commands t h.1 k.0,
  stand_both a l (run_entry (routine i cs b) t) (subst (λ u. Stand (noted_in a) l u) (sym (entry_up (routine i cs b) t)) h.2) k.1,
)
stand_both a (event e ∷ l) t h k =
    stand_both a l (run_entry (event e) t) (subst (λ u. Stand (noted_in a) l u) (sym (entry_up (event e) t)) h) k

-- ---- parts of orders

-- the devices that are up behind these entries
abbrev up_behind : List Entry → (ℕ → Bool) → ℕ → Bool
up_behind l u d = up_after d l (u d)

stand_split : (q : ℕ → List Noted) (p r : List Entry) (u : ℕ → Bool) → Stand q (p ++ r) u → Stand q p u × Stand q r (up_behind p u)
stand_split q [] r u h = (tt, h)
stand_split q (routine i cs b ∷ p) r u h = let k = stand_split q p r u h.2 in ((h.0, h.1, k.0), k.1)
stand_split q (event e ∷ p) r u h = stand_split q p r (λ d. up_event d e (u d)) h

stand_join : (q : ℕ → List Noted) (p r : List Entry) (u : ℕ → Bool) → Stand q p u → Stand q r (up_behind p u) → Stand q (p ++ r) u
stand_join q [] r u h k = k
stand_join q (routine i cs b ∷ p) r u h k = (h.0, h.1, stand_join q p r u h.2 k)
stand_join q (event e ∷ p) r u h k = stand_join q p r (λ d. up_event d e (u d)) h k

-- the part behind p changes
stand_behind : (q : ℕ → List Noted) (p r l : List Entry) → ((u : ℕ → Bool) → Stand q r u → Stand q l u) → (u : ℕ → Bool) →
    Stand q (p ++ r) u → Stand q (p ++ l) u
stand_behind q p r l f u h = let k = stand_split q p r u h in stand_join q p l u k.0 (f (up_behind p u) k.1)

-- other routines do not look at the commands of i
stand_other : (q : ℕ → List Noted) (i : ℕ) (v : List Noted) (l : List Entry) (u : ℕ → Bool) → NotIn i (entry_ids l) → Stand q l u →
    Stand (put q i v) l u
stand_other q i v [] u n h = tt
stand_other q i v (routine j cs b ∷ l) u n h =
    subst (λ x. (cs ≡ done_ones x) × Fit u false x × Stand (put q i v) l u) (sym (put_other q i v j n.0))
    (h.0, h.1, stand_other q i v l u n.1 h.2)
stand_other q i v (event e ∷ l) u n h = stand_other q i v l (λ d. up_event d e (u d)) n h

-- the routine i between p and r, its answered commands being v
stand_with : (q : ℕ → List Noted) (i : ℕ) (v : List Noted) (p : List Entry) (cs : List Command) (b : Bool) (r : List Entry)
    (u : ℕ → Bool) →
    NotIn i (entry_ids p) → NotIn i (entry_ids r) → Stand q p u → Stand q r (up_behind p u) → cs ≡ done_ones v → Fit (up_behind p u) false v →
    Stand (put q i v) (p ++ (routine i cs b ∷ r)) u
stand_with q i v p cs b r u m n h k e f =
    stand_join (put q i v) p (routine i cs b ∷ r) u (stand_other q i v p u m h)
    (subst (λ x. (cs ≡ done_ones x) × Fit (up_behind p u) false x × Stand (put q i v) r (up_behind p u)) (sym (put_same q i v))
    (e, f, stand_other q i v r (up_behind p u) n k))

-- ---- an event of d is put in, behind which no answered command is on d

abbrev SameBut : ℕ → (ℕ → Bool) → (ℕ → Bool) → Type 0
SameBut d u w = (x : ℕ) → x ≢ d → u x ≡ w x

-- no answered command of this id is on d
abbrev Spared : ℕ → (ℕ → List Noted) → ℕ → Type 0
Spared d q i = any_of (answered_for d) (q i) ≡ false

stand_spared : (d : ℕ) (q : ℕ → List Noted) (l : List Entry) (u w : ℕ → Bool) → SameBut d u w → Each (Spared d q) (entry_ids l) →
    Stand q l u → Stand q l w
stand_spared d q [] u w e n h = tt
stand_spared d q (routine i cs b ∷ l) u w e n h =
    (h.0, fit_spared d u w e false (q i) n.0 h.1, stand_spared d q l u w e n.1 h.2)
stand_spared d q (event x ∷ l) u w e n h =
    stand_spared d q l (λ y. up_event y x (u y)) (λ y. up_event y x (w y)) (λ y m. ap (up_event y x) (e y m)) n h

event_other : (e : Event) (u : ℕ → Bool) → SameBut (device_of e) u (λ x. up_event x e (u x))
event_other e u x n = sym (up-event x e (u x) ∙ ap (λ b. if b then brings_up e else u x) (ne_eqb (device_of e) x (λ z. n (sym z))))

spared_groups : (d : ℕ) (a : ℕ → Account) (l : List Group) → Each (NotBegun d) l → Each (AccountTells a) l →
    Each (Spared d (noted_in a)) (ids l)
spared_groups d a [] q t = tt
spared_groups d a (g ∷ l) q t =
    (agree_answered d t.0.agrees ∙ unbegun_answered g.member d q.0.idle, spared_groups d a l q.1 t.1)

-- those that are quiet with its device do not see an event
stand_event : (e : Event) (a : ℕ → Account) (l : List Group) → Each (NotBegun (device_of e)) l → Each (AccountTells a) l → (u : ℕ → Bool) →
    Stand (noted_in a) (flat l) u → Stand (noted_in a) (event e ∷ flat l) u
stand_event e a l q k u h =
    stand_spared (device_of e) (noted_in a) (flat l) u (λ x. up_event x e (u x)) (event_other e u)
    (rw (entry_ids_flat l) (spared_groups (device_of e) a l q k)) h

-- ---- the entries of groups

-- f: the events attached to 0
abbrev pub open_part : List Event → List Group → List Entry
open_part f l = map event f ++ flat l

-- ---- a routine is placed, or changes in its place

-- what holds before a call
record Before (s : State) (o : Order) (a : ℕ → Account) (l : List Group) : Type 0 where
  hub : HubOk s l
  flies : Each (InFlightIsUp s) l
  order : OrderOk s o [] l
  tells : Each (AccountTells a) l
  stand : Standing a (o.settled ++ flat l)

pub flat_at : (p : List Entry) (a b : List Group) → p ++ flat (a ++ b) ≡ (p ++ flat a) ++ flat b
flat_at p a b = ap (λ k. p ++ k) (flat_++ a b) ∙ sym (append_assoc p (flat a) (flat b))

-- a device that nothing behind g touches is up before g as it is now
pub up_clear : (s : State) (o : Order) (x : List Group) (g : Group) (y : List Group) → OrderOk s o [] (x ++ (g ∷ y)) → (d : ℕ) →
    ClearOfDevice d x g y → up_after d (o.settled ++ flat x) true ≡ s.up d
up_clear s o x g y k d c =
    let p = o.settled ++ flat x in
    let u = up_after d p true in
    let whole : entries o ≡ p ++ flat (g ∷ y) = ap (λ l. o.settled ++ l) k.unsettled-is ∙ flat_at o.settled x (g ∷ y) in
    let same : up_after d (flat (g ∷ y)) u ≡ u = up_++ d (map event g.events) (flat y) u ∙ up_flat_not-begun d y _ c.behind-not-begun
    ∙ up-not-begun d g.events u c.no_event in
    sym (ap (λ l. up_after d l true) whole ∙ up_++ d p (flat (g ∷ y)) true ∙ same) ∙ k.up_is d

pub entry-ids : (s : State) (o : Order) (a b : List Group) → OrderOk s o [] (a ++ b) →
    IdsOk s.next_id (entry_ids (o.settled ++ flat a) ++ entry_ids (flat b))
entry-ids s o a b k = rw (entry_ids_++ o.settled (flat a), entry_ids_flat a, entry_ids_flat b) (order_ids s o [] a b k)

-- and behind p and these groups, from all devices up
abbrev up_past : List Entry → List Group → ℕ → Bool
up_past p x = up_behind (p ++ flat x) (λ d. true)

stand_at : (a : ℕ → Account) (p : List Entry) (x y : List Group) → Standing a (p ++ flat (x ++ y)) → Standing a (p ++ flat x)
    × Stand (noted_in a) (flat y) (up_past p x)
stand_at a p x y w = stand_split (noted_in a) (p ++ flat x) (flat y) (λ d. true) (subst (λ l. Standing a l) (flat_at p x y) w)

-- g stands between x and y, its account having become z
stand_put : (a : ℕ → Account) (p : List Entry) (x : List Group) (g : Group) (y : List Group) (z : Account) →
    NotIn g.member.id (entry_ids (p ++ flat x)) → NotIn g.member.id (entry_ids (map event g.events ++ flat y)) →
    Standing a (p ++ flat x) → Stand (noted_in a) (map event g.events ++ flat y) (up_past p x) →
    Each (AccountTells (put a g.member.id z)) (x ++ (g ∷ y)) → Fit (up_past p x) false z.commands →
    Standing (put a g.member.id z) (p ++ flat (x ++ (g ∷ y)))
stand_put a p x g y z m n h k t f =
    let i = g.member.id in
    let e : done_steps g.member.steps ≡ done_ones z.commands = sym (agree-done (each_mid (AccountTells (put a i z)) x g y t).agrees)
    ∙ ap (λ (c : Account). done_ones c.commands) (put_same a i z) in
    subst (λ l. Standing (put a i z) l) (sym (flat_at p x (g ∷ y)))
    (subst (λ q. Stand q ((p ++ flat x) ++ flat (g ∷ y)) (λ d. true)) (sym (put-noted a i z))
    (stand_with (noted_in a) i z.commands (p ++ flat x) (done_steps g.member.steps) g.member.committed
    (map event g.events ++ flat y) (λ d. true) m n h k e f))

stand_places : (s : State) (o : Order) (a : ℕ → Account) (cs : List Command) (x y : List Group) → Before s o a (x ++ y) →
    Each (AccountTells (put a s.next_id (placed_account cs))) (x ++ (alone (newcomer s.next_id cs) ∷ pass_all y)) →
    Standing (put a s.next_id (placed_account cs)) (o.settled ++ flat (x ++ (alone (newcomer s.next_id cs) ∷ pass_all y)))
unfolding newcomer
stand_places s o a cs x y f t =
    let i = s.next_id in
    let p = entry_ids (o.settled ++ flat x) in
    let r = entry_ids (flat y) in
    let n = ids_fresh i (p ++ r) (entry-ids s o x y f.order) in
    let h = stand_at a o.settled x y f.stand in
    stand_put a o.settled x (alone (newcomer i cs)) (pass_all y) (placed_account cs) (each_left (IsNot i) p r n)
    (subst (λ l. NotIn i (entry_ids l)) (sym (flat_pass y)) (each_right (IsNot i) p r n)) h.0
    (subst (λ l. Stand (noted_in a) l (up_past o.settled x)) (sym (flat_pass y)) h.1) t (fit_new (up_past o.settled x) false cs)

module _ (s : State) (o : Order) (a : ℕ → Account) (x : List Group) (g : Group) (y : List Group) (f : Before s o a (x ++ (g ∷ y))) where
  stand_changes : (l : List Step) (b : Bool) (z : Account) →
      (Fit (up_past o.settled x) false (a g.member.id).commands → Fit (up_past o.settled x) false z.commands) →
      Each (AccountTells (put a g.member.id z)) (x ++ (changed g l b ∷ y)) →
      Standing (put a g.member.id z) (o.settled ++ flat (x ++ (changed g l b ∷ y)))
  stand_changes l b z m t =
      let i = g.member.id in
      let p = entry_ids (o.settled ++ flat x) in
      let r = entry_ids (map event g.events ++ flat y) in
      let n = ids_other s.next_id p i r (entry-ids s o x (g ∷ y) f.order) in
      let h = stand_at a o.settled x (g ∷ y) f.stand in
      stand_put a o.settled x (changed g l b) y z (each_left (IsNot i) p r n) (each_right (IsNot i) p r n) h.0 h.1.2 t
      (m h.1.1)

  agrees : AllAgree (a g.member.id).commands g.member.steps
  agrees = (each_mid (AccountTells a) x g y f.tells).agrees

-- ---- a routine leaves

stand_leaves : (a : ℕ → Account) (p : List Entry) (x : List Group) (g : Group) (y : List Group) → Standing a (p ++ flat (x ++ (g ∷ y))) →
    Standing a (p ++ open_part (lead_of x g) (leaving x g y))
stand_leaves a p x g y w =
    let h = stand_at a p x (g ∷ y) w in
    let r = map event g.events ++ flat y in
    subst (λ l. Standing a l) (append_assoc p (flat x) r ∙ ap (λ l. p ++ l) (sym (flat_leaving x g y)))
    (stand_join (noted_in a) (p ++ flat x) r (λ d. true) h.0 h.1.2)

-- ---- an event is attached to its device's mark

stand_attached : (s : State) (e : Event) (a : ℕ → Account) (p : List Entry) (lead : List Event) (l : List Group) → HubOk s l →
    let j = s.mark (device_of e) in
    Each (AccountTells a) (attach_event j e l) → Standing a (p ++ open_part lead l) →
    Standing a (p ++ open_part (lead_with j e lead) (attach_event j e l))
stand_attached s e a p lead l h k w =
    let c = cut_at e (s.mark (device_of e)) lead l (mark-place s l h (device_of e)) in
    let old = flat c.behind in
    let told = each_right (AccountTells a) c.ahead c.behind (subst (Each (AccountTells a)) c.attached k) in
    subst (λ r. Standing a (p ++ r)) (sym c.becomes)
    (stand_behind (noted_in a) p (c.before ++ old) (c.before ++ (event e ∷ old))
    (stand_behind (noted_in a) c.before old (event e ∷ old) (stand_event e a c.behind c.not-begun told)) (λ d. true)
    (subst (λ r. Standing a (p ++ r)) c.was w))

-- what comes ahead of the event; `t`: the state of a device that is failing
stand_gone : (s t : State) (o : Order) (a : ℕ → Account) (d : ℕ) (l : List Group) {r : Result} {lead : List Event} {k : List Group} →
    Before s o a l → HubOk t l → (w : Gone t d l r lead k) → Standing (event_told w a) (o.settled ++ open_part lead k)
unfolding must_left
stand_gone s t o a d l f h (nobody n) = f.stand
stand_gone s t o a d l f h (somebody x g y e n) =
    subst (λ q. Stand q (o.settled ++ open_part (lead_of x g) (leaving x g y)) (λ d. true)) (sym (ended_noted a g.member.id))
    (stand_leaves a o.settled x g y (subst (λ b. Standing a (o.settled ++ flat b)) e f.stand))
stand_gone s t o a d l f h (loses x g y e n m) =
    let z = skipped_account d (a g.member.id) in
    stand_changes s o a x g y (subst (λ l. Before s o a l) e f) (skipped_left d g).steps g.member.committed z
    (fit_left (up_past o.settled x) d (agrees s o a x g y (subst (λ l. Before s o a l) e f)) m)
    (gone_tells t d a l h f.tells (loses x g y e n m))

stand_happens : (s t : State) (o : Order) (e : Event) (a : ℕ → Account) (l : List Group) (r : Result) (lead : List Event) (k : List Group) →
    Before s o a l → RunsTold a l → HubOk t l → Gone t (device_of e) l r lead k → (c : Call) (v : Answer) → TellsEvent (device_of e) c v →
    let j = r.state.mark (device_of e) in
    let b = note_answers c (r.answers ++ (v ∷ [])) a in
    Each (AccountTells b) (attach_event j e k) → Standing b (o.settled ++ open_part (lead_with j e lead) (attach_event j e k))
stand_happens s t o e a l r lead k f u h g c v same n =
    let d = device_of e in
    let b = note_answers c (r.answers ++ (v ∷ [])) a in
    stand_attached r.state e b o.settled lead k (hub_gone t d l h g).0 n
    (subst (λ b. Standing b (o.settled ++ open_part lead k)) (sym (event-accounts t d c v a l same h u f.tells g))
    (stand_gone s t o a d l f h g))

-- ---- every call

stand_moves : (s : State) (o : Order) (a : ℕ → Account) (l : List Group) {c : Call} {r : Result} {lead : List Event} {k : List Group} →
    Before s o a l → RunsTold a l → Moves s l c r lead k →
    Each (AccountTells (note_answers c r.answers a)) k → Standing (note_answers c r.answers a) (o.settled ++ open_part lead k)
unfolding abort commit commit_turn send_turn done_report skip_report
stand_moves s o a l f t (places cs x y v e m n b) = stand_places s o a cs x y (subst (λ l. Before s o a l) e f)
stand_moves s o a l f t (commits i x g y e j r n b) =
    stand_changes s o a x g y (subst (λ l. Before s o a l) e f) g.member.steps true (ended_account (a g.member.id)) (λ h. h)
stand_moves s o a l f t (sends i x g y c e j r n b m u plain on) =
    stand_changes s o a x g y (subst (λ l. Before s o a l) e f) (sent_member s g c).steps g.member.committed
    (sent_account c (a g.member.id)) (λ h. h)
stand_moves s o a l f t (passes i x g y c e j r n b m st u) =
    let w = subst (λ l. Before s o a l) e f in
    subst (λ n. Each (AccountTells n) (x ++ (with g (passed_member st g) ∷ y)) →
    Standing n (o.settled ++ flat (x ++ (with g (passed_member st g) ∷ y)))) (sym (pass-noted i st g.member.id a))
    (stand_changes s o a x g y w (passed_member st g).steps g.member.committed (answered_account (pass_outcome st) (a g.member.id))
    (fit_next (up_past o.settled x) (pass_outcome st) c (agrees s o a x g y w) n b
    (ground (up_clear s o x g y w.order c.device (turn_clear s x g y c w.hub b n m)) u)))
  where
    ground : {isUp : Bool} → isUp ≡ s.up c.device → {st : Status} → Passes s g c st →
        FindsUp isUp (next_is_skipped false g.member.steps) (next_counts_as_must g.member.steps) (pass_outcome st)
    ground e (is_down k m) = inr (e ∙ k, m)
    ground e (is_off k) = inl k
    ground e (does_hold k z v) = e ∙ k
    ground e (does_not k z v) = e ∙ k
stand_moves s o a l f t (dones i code x g y v e j r n b) =
    let w = subst (λ l. Before s o a l) e f in
    let d = v.command.device in
    let k = in-turn s x g y w.hub in
    stand_changes s o a x g y w (done_member g).steps g.member.committed (answered_account reported_done (a g.member.id))
    (fit_flight (up_past o.settled x) reported_done v (agrees s o a x g y w) k n
    (λ _ _. up_clear s o x g y w.order d (flight_clear s x g y v w.hub n)
    ∙ (each_mid (InFlightIsUp s) x g y w.flies).flies_up d ((done-step g.member k v n).flew d ∙ eq-eqb d d refl)))
stand_moves s o a l f t (misses i x g y v e j r n) =
    let w = subst (λ l. Before s o a l) e f in
    stand_changes s o a x g y w (failed_member g).steps g.member.committed (answered_account reported_failed (a g.member.id))
    (fit_flight (up_past o.settled x) reported_failed v (agrees s o a x g y w) (in-turn s x g y w.hub) n (λ _ _. tt))
stand_moves s o a l f t (aborts c x g y e j n) = λ _.
    subst (λ q. Stand q (o.settled ++ open_part (lead_of x g) (leaving x g y)) (λ d. true)) (sym (ended_noted a g.member.id))
    (stand_leaves a o.settled x g y (subst (λ l. Standing a (o.settled ++ flat l)) e f.stand))
stand_moves s o a l f t (fails d r lead b n u g) =
    stand_happens s (with_up s (put s.up d false)) o (failure_event d) a l r lead b f t (hub-up s (put s.up d false) l f.hub) g
    (failure d) (down d (r.state.mark d)) (λ b. refl)
stand_moves s o a l f t (restarts d v r lead b n u g) =
    stand_happens s s o (restart_event d v) a l r lead b f t f.hub g (restart d v) (up d (r.state.mark d)) (λ b. refl)

pub stands_moves : (s : State) (o : Order) (a : ℕ → Account) (l : List Group) {c : Call} {r : Result} {lead : List Event} {k : List Group} →
    HubOk s l → Each (InFlightIsUp s) l → OrderOk s o [] l → RunsTold a l → Each (AccountTells a) l → CommandsStand a (entries o) all_up →
    Moves s l c r lead k →
    CommandsStand (note_answers c r.answers a) (entries (order_after_all c a r.answers o)) all_up
stands_moves s o a l {c = c} {r = r} {lead = lead} {k = j} h f k u t w m =
    let b = note_answers c r.answers a in
    let n = order_moves s o a l h k t m in
    let v = stand_parts a (o.settled ++ flat l) all_up (subst (λ p. CommandsStand a (o.settled ++ p) all_up) k.unsettled-is w) in
    subst (λ p. CommandsStand b p all_up) (sym (ap₂ (λ x y. x ++ y) n.1 n.0.unsettled-is))
    (stand_both b (o.settled ++ open_part lead j) all_up
    (stand_moves s o a l (record { hub = h; flies = f; order = k; tells = t; stand = v.0 }) u m (accounts_moves s a l h u t m))
    (of_parts (noted_in b) o.settled lead j
    (followed_moves s a o.settled l h u t k.ids_ok (parts_of (noted_in a) o.settled l v.1) m)))
