-- The serial run, device by device, leaves what is due; and settling keeps order and hub together, the bar moving over what settles.
-- Assumes nothing.
use mathlib.Core.Path.{◌≡◌, refl, sym, ap, ◌∙◌, subst}
use mathlib.Core.Bool.{Bool, true, false}
use mathlib.Core.List.{List, [], ◌∷◌, ◌++◌, map, append_assoc, append-nil, tail-eq_of_cons-eq, nil≢cons}
use Prim.Native.Nat.{ℕ}
use lib.Dec.{eqb}
use lib.IntN.{ℤ, pos}
use Rattle.std.specs.Prelude.{if◌then◌else◌}
use Rattle.rules_routine.specs.declared.Command.{Command}
use Rattle.rules.specs.Tables.{put, Each}
use Rattle.rules.specs.State.{State}
use Rattle.rules.specs.Sequence.{with_sequence}
use Rattle.rules.specs.Due.{after_member, after_members, due}
use Rattle.rules.specs.Settle.{join_settled, settle}
use Rattle.rules.specs.Order.{Event, failure_event, restart_event, Entry, routine, event, Order, before_bar, behind_bar, entries, move_bar}
use Rattle.rules.specs.Serial.{DeviceState, run_command, run_commands, serial_run}
use Rattle.rules.specs.Demand3.{Begins}
use Rattle.rules.specs.HubOrder.{done_steps, entry_of}
use Rattle.rules.proofs.Lists.{by_if, eqb_sym, put_keeps, IdsOk}
use Rattle.rules_promises.proofs.Groups.{Group, members, ids, flat, entry_ids, still_held, entry_ids_++, entry_ids_events}
use Rattle.rules_promises.proofs.Invariant.{HubOk, FirstRuns, set_commands, set_after, up_after, EventsOk, OrderOk}
use Rattle.rules_promises.proofs.Runs.{set_++, set_flat, settled_alone}
use Rattle.rules_promises.proofs.Fields.{settles}

-- ---- the serial run, device by device

-- a field of the changed table, with the test turned round as in set_after and up_after
put_field : {A : Type 0} (f : DeviceState → A) (t : ℕ → DeviceState) (e : ℕ) (c : DeviceState) (d : ℕ) →
    f (put t e c d) ≡ (if eqb e d then f c else f (t d))
put_field f t e c d = go (eqb d e) ∙ ap (λ b. if b then f c else f (t d)) (eqb_sym d e)
  where
    go : (b : Bool) → f (if b then c else t d) ≡ (if b then f c else f (t d))
    go true = refl
    go false = refl

commands-setting : (d : ℕ) (l : List Command) (t : ℕ → DeviceState) → (run_commands l t d).setting ≡ set_commands d l (t d).setting
commands-setting d [] t = refl
commands-setting d (c ∷ l) t = commands-setting d l (run_command c t)
    ∙ ap (λ v. set_commands d l v) (put_field (λ x. x.setting) t c.device _ d)

pub serial_setting : (d : ℕ) (l : List Entry) (t : ℕ → DeviceState) → (serial_run l t d).setting ≡ set_after d l (t d).setting
serial_setting d [] t = refl
serial_setting d (routine i cs b ∷ l) t = serial_setting d l _ ∙ ap (λ v. set_after d l v) (commands-setting d cs t)
serial_setting d (event (failure_event e) ∷ l) t = serial_setting d l _
    ∙ ap (λ v. set_after d l v) (put_keeps (λ (x : DeviceState). x.setting) t e _ refl d)
serial_setting d (event (restart_event e v) ∷ l) t = serial_setting d l _ ∙ ap (λ v. set_after d l v) (put_field (λ x. x.setting) t e _ d)

commands-up : (d : ℕ) (l : List Command) (t : ℕ → DeviceState) → (run_commands l t d).up ≡ (t d).up
commands-up d [] t = refl
commands-up d (c ∷ l) t = commands-up d l (run_command c t) ∙ put_keeps (λ (x : DeviceState). x.up) t c.device _ refl d

pub serial_up : (d : ℕ) (l : List Entry) (t : ℕ → DeviceState) → (serial_run l t d).up ≡ up_after d l (t d).up
serial_up d [] t = refl
serial_up d (routine i cs b ∷ l) t = serial_up d l _ ∙ ap (λ u. up_after d l u) (commands-up d cs t)
serial_up d (event (failure_event e) ∷ l) t = serial_up d l _ ∙ ap (λ u. up_after d l u) (put_field (λ x. x.up) t e _ d)
serial_up d (event (restart_event e v) ∷ l) t = serial_up d l _ ∙ ap (λ u. up_after d l u) (put_field (λ x. x.up) t e _ d)

-- ---- the due setting is that of the serial run

pub order-due : (s : State) (o : Order) (l : List Group) → HubOk s l → OrderOk s o [] l → (d : ℕ) → set_after d (entries o) (pos 0) ≡ due s d
unfolding due
order-due s o l h k d =
    set_++ d o.settled o.unsettled (pos 0)
    ∙ ap (λ q. set_after d q (set_after d o.settled (pos 0))) k.unsettled-is
    ∙ set_flat d l _ k.events_ok
    ∙ ap (λ v. after_members d (members l) v) (settled_alone s o l k d)
    ∙ ap (λ q. after_members d q (s.settled_at d)) (sym h.sequence_is)

-- ---- the bar

bar_whole : (l : List Entry) → before_bar l ++ behind_bar l ≡ l
bar_whole [] = refl
bar_whole (event e ∷ l) = ap (λ k. event e ∷ k) (bar_whole l)
bar_whole (routine i cs true ∷ l) = ap (λ k. routine i cs true ∷ k) (bar_whole l)
bar_whole (routine i cs false ∷ l) = refl

-- moving the bar neither reorders nor loses an entry
pub bar_entries : (o : Order) → entries (move_bar o) ≡ entries o
unfolding move_bar
bar_entries o = bar_whole (entries o)

-- what stands before the bar stays there, whatever follows
before_++ : (p l : List Entry) → before_bar p ≡ p → before_bar (p ++ l) ≡ p ++ before_bar l
before_++ [] l e = refl
before_++ (event x ∷ p) l e = ap (λ k. event x ∷ k) (before_++ p l (tail-eq_of_cons-eq e))
before_++ (routine i cs true ∷ p) l e = ap (λ k. routine i cs true ∷ k) (before_++ p l (tail-eq_of_cons-eq e))
before_++ (routine i cs false ∷ p) l e = absurd (nil≢cons e)

behind_++ : (p l : List Entry) → before_bar p ≡ p → behind_bar (p ++ l) ≡ behind_bar l
behind_++ [] l e = refl
behind_++ (event x ∷ p) l e = behind_++ p l (tail-eq_of_cons-eq e)
behind_++ (routine i cs true ∷ p) l e = behind_++ p l (tail-eq_of_cons-eq e)
behind_++ (routine i cs false ∷ p) l e = absurd (nil≢cons e)

before_events : (l : List Event) → before_bar (map event l) ≡ map event l
before_events [] = refl
before_events (e ∷ l) = ap (λ k. event e ∷ k) (before_events l)

before_flat : (l : List Group) → FirstRuns l → before_bar (flat l) ≡ []
before_flat [] f = refl
before_flat (g ∷ l) f = rw f refl

behind_flat : (l : List Group) → FirstRuns l → behind_bar (flat l) ≡ flat l
behind_flat [] f = refl
behind_flat (g ∷ l) f = rw f refl

-- between calls the bar stands where it should
pub bar_stays : (s : State) (o : Order) (l : List Group) → OrderOk s o [] l → FirstRuns l → move_bar o ≡ o
unfolding move_bar
bar_stays s o l k f =
    let a : before_bar (entries o) ≡ o.settled =
    before_++ o.settled o.unsettled k.barred ∙ ap (λ q. o.settled ++ q) (ap before_bar k.unsettled-is ∙ before_flat l f)
    ∙ append-nil o.settled in
    let b : behind_bar (entries o) ≡ o.unsettled = behind_++ o.settled o.unsettled k.barred ∙ ap behind_bar k.unsettled-is
    ∙ behind_flat l f ∙ sym k.unsettled-is in
    ap (λ q. record { settled = q; unsettled = behind_bar (entries o) }) a ∙ ap (λ q. record { settled = o.settled; unsettled = q }) b

pub first_runs : (l : List Group) → FirstRuns (still_held l)
first_runs [] = tt
first_runs (g ∷ l) = by_if FirstRuns g.member.committed (λ _. first_runs l) (λ e. e)

-- ---- the bar moves as routines settle

-- where the bar goes depends on the whole list alone
bar_same : (o q : Order) → entries o ≡ entries q → move_bar o ≡ move_bar q
unfolding move_bar
bar_same o q e = ap (λ l. record { settled = before_bar l; unsettled = behind_bar l }) e

-- the bar between p and the groups' entries
abbrev bar_at : List Entry → List Group → Order
bar_at p l = record { settled = p; unsettled = flat l }

-- the bar behind p goes over r, where the groups begin
bar_over : (s : State) (p r : List Entry) (l : List Group) → before_bar p ≡ p → before_bar r ≡ r →
    ((d : ℕ) → set_after d (p ++ r) (pos 0) ≡ s.settled_at d) →
    ((d : ℕ) → up_after d (p ++ (r ++ flat l)) true ≡ s.up d) → Each EventsOk l → IdsOk s.next_id (entry_ids p ++ (entry_ids r ++ ids l)) →
    OrderOk s (bar_at (p ++ r) l) [] l
bar_over s p r l before-p before-r set up eo io = record {
  unsettled-is = refl;
  settled_is = λ d. ap (λ q. set_after d q (pos 0)) (append-nil (p ++ r)) ∙ set d;
  up_is = λ d. ap (λ q. up_after d q true) (append_assoc p r (flat l)) ∙ up d;
  events_ok = eo;
  ids_ok = rw (entry_ids_++ p r, append_assoc (entry_ids p) (entry_ids r) (ids l)) io;
  barred = before_++ p r before-p ∙ ap (λ q. p ++ q) before-r;
}

-- over the events attached to 0
lead_settles : (s : State) (o : Order) (lead : List Event) (l : List Group) → OrderOk s o lead l →
    OrderOk s (bar_at (o.settled ++ map event lead) l) [] l
lead_settles s o lead l k =
    bar_over s o.settled (map event lead) l k.barred (before_events lead) k.settled_is
    (λ d. ap (λ q. up_after d (o.settled ++ q) true) (sym k.unsettled-is) ∙ k.up_is d)
    k.events_ok (rw (entry_ids_events lead) k.ids_ok)

-- over a committed routine and its events
abbrev entries_of : Group → List Entry
entries_of g = entry_of g.member ∷ map event g.events

before_group : (g : Group) → g.member.committed ≡ true → before_bar (entries_of g) ≡ entries_of g
before_group g t = rw t (ap (λ q. routine g.member.id (done_steps g.member.steps) true ∷ q) (before_events g.events))

set_group : (d : ℕ) (g : Group) (v : ℤ) → EventsOk g → set_after d (entries_of g) v ≡ after_member d g.member v
set_group d g v h = ap (λ q. set_after d q v) (sym (append-nil (entries_of g))) ∙ set_flat d (g ∷ []) v (h, tt)

member_settles : (s : State) (p : List Entry) (g : Group) (l : List Group) → g.member.committed ≡ true →
    OrderOk s (bar_at p (g ∷ l)) [] (g ∷ l) →
    OrderOk (join_settled s g.member) (bar_at (p ++ entries_of g) l) [] l
unfolding join_settled
member_settles s p g l t k =
    bar_over (join_settled s g.member) p (entries_of g) l k.barred (before_group g t)
    (λ d. set_++ d p (entries_of g) (pos 0) ∙ set_group d g _ k.events_ok.0
    ∙ ap (λ v. after_member d g.member v) (settled_alone s (bar_at p (g ∷ l)) (g ∷ l) k d))
    k.up_is k.events_ok.1 (rw (entry_ids_events g.events) k.ids_ok)

-- at a routine that runs, or at the end, neither the bar nor the hub goes on
rest_stays : (s : State) (p : List Entry) (l : List Group) → FirstRuns l → OrderOk s (bar_at p l) [] l →
    OrderOk (with_sequence s (members l)) (move_bar (bar_at p l)) [] l
rest_stays s p l f k = subst (λ o. OrderOk (with_sequence s (members l)) o [] l) (sym (bar_stays s (bar_at p l) l k f)) record {
  unsettled-is = k.unsettled-is;
  settled_is = k.settled_is;
  up_is = k.up_is;
  events_ok = k.events_ok;
  ids_ok = k.ids_ok;
  barred = k.barred;
}

-- the bar moves over o where it moves over the entries of the groups left
abbrev Settling : Order → State → List Group → Type 0
Settling o s l = (p : List Entry) × (move_bar (bar_at p l) ≡ move_bar o) × OrderOk s (bar_at p l) [] l

pub order-settles : (s : State) (o : Order) (lead : List Event) (l : List Group) → HubOk s l → OrderOk s o lead l →
    OrderOk (settle s) (move_bar o) [] (still_held l) × Begins o.settled (move_bar o).settled
unfolding move_bar
order-settles s o lead l h k =
    let p = o.settled ++ map event lead in
    let same : move_bar (bar_at p l) ≡ move_bar o =
    bar_same (bar_at p l) o (append_assoc o.settled (map event lead) (flat l) ∙ ap (λ q. o.settled ++ q) (sym k.unsettled-is)) in (
      settles (Settling o) (λ s l. OrderOk s (move_bar o) [] l) joins
          (λ s l f q. subst (λ o. OrderOk (with_sequence s (members l)) o [] l) q.1 (rest_stays s q.0 l f q.2)) s l
          h.sequence_is (p, same, lead_settles s o lead l k),
      (before_bar o.unsettled, before_++ o.settled o.unsettled k.barred),
    )
  where
    joins : (s : State) (g : Group) (l : List Group) → g.member.committed ≡ true → Settling o s (g ∷ l) →
        Settling o (join_settled s g.member) l
    joins s g l t q = (
      q.0 ++ entries_of g,
      bar_same (bar_at (q.0 ++ entries_of g) l) (bar_at q.0 (g ∷ l)) (append_assoc q.0 (entries_of g) (flat l)) ∙ q.1,
      member_settles s q.0 g l t q.2,
    )
