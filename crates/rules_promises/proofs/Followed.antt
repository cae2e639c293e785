-- The third ground of part 3 of demand 3 is kept by every call: behind a routine whose commands an event skipped stands an event of their
-- device, before the next routine. Assumes nothing.
use Rattle.std.proofs.Common.{Option}
use mathlib.Core.Path.{◌≡◌, refl, sym, ap, ◌∙◌, subst, fun_ext}
use mathlib.Core.Bool.{Bool, true, false, ◌&&◌, ◌||◌, or-true}
use mathlib.Core.List.{List, [], ◌∷◌, ◌++◌, map, append_assoc}
use Prim.Native.Nat.{ℕ}
use borrow.Author.Tests.{eqb-true, eq-eqb}
use lib.Dec.{eqb}
use lib.IntN.{ℤ}
use Rattle.std.specs.Prelude.{if◌then◌else◌}
use Rattle.rules_routine.specs.declared.Command.{Command}
use Rattle.rules.specs.Tables.{any_of, put, Each}
use Rattle.rules.specs.State.{Status, State}
use Rattle.rules.specs.Answers.{Call, failure, restart, Answer, down, up, Result}
use Rattle.rules.specs.Sequence.{with_up}
use Rattle.rules.specs.Abort.{abort}
use Rattle.rules.specs.Submit.{pass, newcomer}
use Rattle.rules.specs.Turn.{commit, commit_turn, send_turn}
use Rattle.rules.specs.Report.{done_report, skip_report}
use Rattle.rules.specs.Events.{skip_rest}
use Rattle.rules.specs.History.{Outcome, not_yet, reported_done, reported_failed, not_sent, by_event, found_held, found_not_held}
use Rattle.rules.specs.History.{is_left, Noted, noted_as, Account, placed_account, sent_account, note_first, answered_account, ended_account}
use Rattle.rules.specs.History.{is_for, note_left, skipped_account, note_answers}
use Rattle.rules.specs.Order.{Event, failure_event, restart_event, device_of, is_of, Entry, routine, event}
use Rattle.rules.specs.Demand3.{events_next}
use Rattle.rules.specs.Attach.{attach_to}
use Rattle.rules.proofs.Lists.{by_if, and_left, put_same, put_other, put_keeps, each_++, each_left, each_right, each_mid, each_drop}
use Rattle.rules.proofs.Lists.{each_insert}
use Rattle.rules.proofs.Lists.{each_map, any_of_++, IsNot, NotIn, IdsOk, ids_fresh, ids_other}
use Rattle.rules_promises.proofs.Groups.{Group, ids, flat, entry_ids, last_restart, alone, with, pass_all, add_events, leaving, add_event}
use Rattle.rules_promises.proofs.Groups.{attach_event, ids_++, added_is, attach_hit}
use Rattle.rules_promises.proofs.Same.{Pairwise, pairs_each, pairs_placed, pairs_last, pairs_attached}
use Rattle.rules_promises.proofs.Invariant.{HubOk, AccountTells}
use Rattle.rules_promises.proofs.View.{Passes, is_down, is_off, does_hold, does_not, passed_member, skipped_left, Gone, nobody}
use Rattle.rules_promises.proofs.View.{somebody}
use Rattle.rules_promises.proofs.View.{loses, Moves, places, commits, sends, passes, dones, misses}
use Rattle.rules_promises.proofs.View.{aborts}
use Rattle.rules_promises.proofs.View.{fails, restarts}
use Rattle.rules_promises.proofs.Marks.{halfway_marked}
use Rattle.rules_promises.proofs.Moved.{hub-up}
use Rattle.rules_promises.proofs.Running.{pass_outcome, pass-noted, RunsTold}
use Rattle.rules_promises.proofs.Accounts.{event_told, TellsEvent, event-accounts}

-- ---- the ground

-- `behind`: the events behind the routine
abbrev pub Ground : List Event → Command → Outcome → Type 0
Ground behind c not_yet = Unit {0}
Ground behind c reported_done = Unit {0}
Ground behind c reported_failed = Unit {0}
Ground behind c not_sent = Unit {0}
Ground behind c by_event = any_of (is_of c.device) behind ≡ true
Ground behind c found_held = Unit {0}
Ground behind c found_not_held = Unit {0}

abbrev pub FollowedBy : List Event → Noted → Type 0
FollowedBy behind x = Ground behind x.command x.outcome

-- `q`: the commands of each id, as they were noted
abbrev pub Followed : (ℕ → List Noted) → List Entry → Type 0
Followed q [] = Unit {0}
Followed q (routine i cs b ∷ l) = Each (FollowedBy (events_next l)) (q i) × Followed q l
Followed q (event e ∷ l) = Followed q l

-- further events take nothing away
more-behind : (f h : List Event) (x : Noted) → FollowedBy f x → FollowedBy (f ++ h) x
more-behind f h x = go x.outcome
  where
    go : (o : Outcome) → Ground f x.command o → Ground (f ++ h) x.command o
    go not_yet g = g
    go reported_done g = g
    go reported_failed g = g
    go not_sent g = g
    go by_event g = any_of_++ (is_of x.command.device) f h ∙ ap (λ b. b || any_of (is_of x.command.device) h) g
    go found_held g = g
    go found_not_held g = g

all_more : (f h : List Event) (l : List Noted) → Each (FollowedBy f) l → Each (FollowedBy (f ++ h)) l
all_more f h = each_map (FollowedBy f) (FollowedBy (f ++ h)) (more-behind f h)

-- ---- parts of orders

next_more : (l r : List Entry) → (h : List Event) × (events_next (l ++ r) ≡ events_next l ++ h)
next_more [] r = (events_next r, refl)
next_more (routine i cs b ∷ l) r = ([], refl)
next_more (event e ∷ l) r = let n = next_more l r in (n.0, ap (λ m. e ∷ m) n.1)

next-same : (l r : List Entry) → events_next r ≡ [] → events_next (l ++ r) ≡ events_next l
next-same [] r e = e
next-same (routine i cs b ∷ l) r e = refl
next-same (event x ∷ l) r e = ap (λ m. x ∷ m) (next-same l r e)

module _ (q : ℕ → List Noted) where
  pub followed_join : (p r : List Entry) → Followed q p → Followed q r → Followed q (p ++ r)
  followed_join [] r h k = k
  followed_join (routine i cs b ∷ p) r h k =
      let n = next_more p r in
      (subst (λ f. Each (FollowedBy f) (q i)) (sym n.1) (all_more (events_next p) n.0 (q i) h.0), followed_join p r h.1 k)
  followed_join (event e ∷ p) r h k = followed_join p r h k

  -- a routine stands first in r, or nothing
  followed_split : (p r : List Entry) → events_next r ≡ [] → Followed q (p ++ r) → Followed q p × Followed q r
  followed_split [] r e h = (tt, h)
  followed_split (routine i cs b ∷ p) r e h =
      let k = followed_split p r e h.1 in
      ((subst (λ f. Each (FollowedBy f) (q i)) (next-same p r e) h.0, k.0), k.1)
  followed_split (event x ∷ p) r e h = followed_split p r e h

  pub followed_events : (f : List Event) (r : List Entry) → Followed q r → Followed q (map event f ++ r)
  followed_events [] r h = h
  followed_events (e ∷ f) r h = followed_events f r h

  followed-past : (f : List Event) (r : List Entry) → Followed q (map event f ++ r) → Followed q r
  followed-past [] r h = h
  followed-past (e ∷ f) r h = followed-past f r h

-- ---- groups

flat_next : (l : List Group) → events_next (flat l) ≡ []
flat_next [] = refl
flat_next (g ∷ l) = refl

events-next : (f : List Event) (l : List Group) → events_next (map event f ++ flat l) ≡ f
events-next [] l = flat_next l
events-next (e ∷ f) l = ap (λ m. e ∷ m) (events-next f l)

pub record GroupFollowed (q : ℕ → List Noted) (g : Group) : Type 0 where
  pub followed : Each (FollowedBy g.events) (q g.member.id)

module _ (q : ℕ → List Noted) where
  pub followed_flat : (l : List Group) → Each (GroupFollowed q) l → Followed q (flat l)
  followed_flat [] h = tt
  followed_flat (g ∷ l) h = (
    subst (λ f. Each (FollowedBy f) (q g.member.id)) (sym (events-next g.events l)) h.0.followed,
    followed_events q g.events (flat l) (followed_flat l h.1),
  )

  flat_followed : (l : List Group) → Followed q (flat l) → Each (GroupFollowed q) l
  flat_followed [] h = tt
  flat_followed (g ∷ l) h = (
    record { followed = subst (λ f. Each (FollowedBy f) (q g.member.id)) (events-next g.events l) h.0 },
    flat_followed l (followed-past q g.events (flat l) h.1),
  )

-- what has settled, p, and the groups behind it
pub record PartsFollowed (q : ℕ → List Noted) (p : List Entry) (l : List Group) : Type 0 where
  pub settled : Followed q p
  pub held : Each (GroupFollowed q) l

pub parts_of : (q : ℕ → List Noted) (p : List Entry) (l : List Group) → Followed q (p ++ flat l) → PartsFollowed q p l
parts_of q p l h = let k = followed_split q p (flat l) (flat_next l) h in record { settled = k.0; held = flat_followed q l k.1 }

-- f: the events attached to 0
pub of_parts : (q : ℕ → List Noted) (p : List Entry) (f : List Event) (l : List Group) → PartsFollowed q p l →
    Followed q (p ++ (map event f ++ flat l))
of_parts q p f l h = followed_join q p (map event f ++ flat l) h.settled (followed_events q f (flat l) (followed_flat q l h.held))

-- ---- groups whose events are more

abbrev Grows : (ℕ → List Noted) → Group → Group → Type 0
Grows q g h = GroupFollowed q g → GroupFollowed q h

module _ (q : ℕ → List Noted) where
  grows : {l k : List Group} → Pairwise (Grows q) l k → Each (GroupFollowed q) l → Each (GroupFollowed q) k
  grows = pairs_each (Grows q) (GroupFollowed q) (λ g h f. f)

  more_events : (f : List Event) (e : ℕ → Option ℤ) (g : Group) → Grows q g (add_events f e g)
  unfolding attach_to
  more_events f e g h = record { followed = all_more g.events f (q g.member.id) h.followed }

  grows_placed : (a : List Group) (x : Group) (b : List Group) → Each (GroupFollowed q) (a ++ (x ∷ b)) →
      Each (GroupFollowed q) (a ++ (x ∷ pass_all b))
  unfolding pass
  grows_placed a x b = grows (pairs_placed (Grows q) (λ g h. h) (λ g h. record { followed = h.followed }) a x b)

  grows_leaving : (a : List Group) (g : Group) (b : List Group) → Each (GroupFollowed q) (a ++ b) → Each (GroupFollowed q) (leaving a g b)
  grows_leaving a g b =
      grows (pairs_last (Grows q) (λ x h. h) g.events g.member.restarts (more_events g.events g.member.restarts) a b)

  grows_attached : (j : ℕ) (x : Event) (l : List Group) → Each (GroupFollowed q) l → Each (GroupFollowed q) (attach_event j x l)
  grows_attached j x l =
      grows (pairs_attached (Grows q) (λ g h. h) j x
      (λ g h. subst (GroupFollowed q) (sym (added_is x g)) (more_events (x ∷ []) (λ d. last_restart d (x ∷ [])) g h)) l)

-- ---- the commands of one id change

abbrev pub noted_in : (ℕ → Account) → ℕ → List Noted
noted_in a i = (a i).commands

pub put-noted : (a : ℕ → Account) (i : ℕ) (z : Account) → noted_in (put a i z) ≡ put (noted_in a) i z.commands
put-noted a i z = fun_ext (λ j. go j (eqb j i))
  where
    go : (j : ℕ) (t : Bool) → (if t then z else a j).commands ≡ (if t then z.commands else (a j).commands)
    go j true = refl
    go j false = refl

-- a routine that ends keeps them
pub ended_noted : (a : ℕ → Account) (i : ℕ) → noted_in (put a i (ended_account (a i))) ≡ noted_in a
ended_noted a i = fun_ext (put_keeps (λ (z : Account). z.commands) a i (ended_account (a i)) refl)

module _ (q : ℕ → List Noted) (i : ℕ) (v : List Noted) where
  other_settled : (p : List Entry) → NotIn i (entry_ids p) → Followed q p → Followed (put q i v) p
  other_settled [] n h = tt
  other_settled (routine j cs b ∷ p) n h =
      (subst (λ x. Each (FollowedBy (events_next p)) x) (sym (put_other q i v j n.0)) h.0, other_settled p n.1 h.1)
  other_settled (event e ∷ p) n h = other_settled p n h

  other_held : (l : List Group) → NotIn i (ids l) → Each (GroupFollowed q) l → Each (GroupFollowed (put q i v)) l
  other_held [] n h = tt
  other_held (g ∷ l) n h = (
    record { followed = subst (Each (FollowedBy g.events)) (sym (put_other q i v g.member.id n.0)) h.0.followed },
    other_held l n.1 h.1,
  )

  own_held : (g : Group) → g.member.id ≡ i → Each (FollowedBy g.events) v → GroupFollowed (put q i v) g
  own_held g e h = record { followed = subst (Each (FollowedBy g.events)) (sym (ap (put q i v) e ∙ put_same q i v)) h }

-- the first command that is left is answered
first-followed : (f : List Event) (o : Outcome) → ((c : Command) → Ground f c o) → (l : List Noted) → Each (FollowedBy f) l →
    Each (FollowedBy f) (note_first o l)
first-followed f o k [] h = tt
first-followed f o k (x ∷ l) h =
    by_if (Each (FollowedBy f)) (is_left x.outcome) (λ _. (k x.command, h.1)) (λ _. (h.0, first-followed f o k l h.1))

-- what holds before a call
record Before (s : State) (a : ℕ → Account) (p : List Entry) (l : List Group) : Type 0 where
  ids_ok : IdsOk s.next_id (entry_ids p ++ ids l)
  parts : PartsFollowed (noted_in a) p l

ids_apart : (n : ℕ) (p : List Entry) (x : List Group) (g : Group) (y : List Group) → IdsOk n (entry_ids p ++ ids (x ++ (g ∷ y))) →
    NotIn g.member.id (entry_ids p) × NotIn g.member.id (ids (x ++ y))
ids_apart n p x g y h =
    let i = g.member.id in
    let k = entry_ids p ++ ids x in
    let w : IdsOk n (k ++ (i ∷ ids y)) = subst (IdsOk n)
    (ap (λ l. entry_ids p ++ l) (ids_++ x (g ∷ y)) ∙ sym (append_assoc (entry_ids p) (ids x) (i ∷ ids y))) h in
    let o = ids_other n k i (ids y) w in
    let a = each_left (IsNot i) k (ids y) o in (
      each_left (IsNot i) (entry_ids p) (ids x) a,
      subst (NotIn i) (sym (ids_++ x y))
          (each_++ (IsNot i) (ids x) (ids y) (each_right (IsNot i) (entry_ids p) (ids x) a) (each_right (IsNot i) k (ids y) o)),
    )

module _ (s : State) (a : ℕ → Account) (p : List Entry) (x : List Group) (g : Group) (y : List Group)
    (f : Before s a p (x ++ (g ∷ y))) where
  -- g becomes h, and its account z
  becomes : (h : Group) (z : Account) → h.member.id ≡ g.member.id → Each (FollowedBy h.events) z.commands →
      PartsFollowed (noted_in (put a g.member.id z)) p (x ++ (h ∷ y))
  becomes h z e w =
      let i = g.member.id in
      let n = ids_apart s.next_id p x g y f.ids_ok in
      let q = noted_in a in
      subst (λ b. PartsFollowed b p (x ++ (h ∷ y))) (sym (put-noted a i z)) (record {
        settled = other_settled q i z.commands p n.0 f.parts.settled;
        held = each_insert (GroupFollowed (put q i z.commands)) x h y
            (other_held q i z.commands (x ++ y) n.1 (each_drop (GroupFollowed q) x g y f.parts.held))
            (own_held q i z.commands h e w);
      })

  own_followed : Each (FollowedBy g.events) (a g.member.id).commands
  own_followed = (each_mid (GroupFollowed (noted_in a)) x g y f.parts.held).followed

  -- a command is answered, by no event
  answers : (h : Group) (o : Outcome) → ((c : Command) → Ground g.events c o) → h.member.id ≡ g.member.id → h.events ≡ g.events →
      PartsFollowed (noted_in (put a g.member.id (answered_account o (a g.member.id)))) p (x ++ (h ∷ y))
  answers h o k e r =
      becomes h (answered_account o (a g.member.id)) e
      (subst (λ (b : List Event). Each (FollowedBy b) (note_first o (a g.member.id).commands)) (sym r)
      (first-followed g.events o k (a g.member.id).commands own_followed))

  -- g leaves
  leaves : PartsFollowed (noted_in (put a g.member.id (ended_account (a g.member.id)))) p (leaving x g y)
  leaves =
      subst (λ b. PartsFollowed b p (leaving x g y)) (sym (ended_noted a g.member.id)) (record {
        settled = f.parts.settled;
        held = grows_leaving (noted_in a) x g y (each_drop (GroupFollowed (noted_in a)) x g y f.parts.held);
      })

-- ---- an event

-- those that it skips are followed by it
new_followed : (x : Event) (f : List Event) (l : List Noted) → Each (FollowedBy (f ++ (x ∷ []))) l →
    Each (FollowedBy (f ++ (x ∷ []))) (note_left (device_of x) l)
new_followed x f [] h = tt
new_followed x f (y ∷ l) h = (
  by_if (FollowedBy (f ++ (x ∷ []))) (is_for (device_of x) y.command && is_left y.outcome)
      (λ e. any_of_++ (is_of y.command.device) f (x ∷ [])
      ∙ ap (λ b. any_of (is_of y.command.device) f || (b || false))
      (eq-eqb (device_of x) y.command.device
      (sym (eqb-true y.command.device (device_of x) (and_left (is_for (device_of x) y.command) (is_left y.outcome) e))))
      ∙ or-true (any_of (is_of y.command.device) f))
      (λ _. h.0),
  new_followed x f l h.1,
)

event-followed : (s : State) (x : Event) (a : ℕ → Account) (p : List Entry) (l : List Group)
    {r : Result} {lead : List Event} {k : List Group} → HubOk s l → Before s a p l →
    (w : Gone s (device_of x) l r lead k) →
    PartsFollowed (noted_in (event_told w a)) p (attach_event (r.state.mark (device_of x)) x k)
unfolding skip_rest attach_to
event-followed s x a p l {r = r} h f (nobody q) =
    record { settled = f.parts.settled; held = grows_attached (noted_in a) (r.state.mark (device_of x)) x l f.parts.held }
event-followed s x a p l {r = r} {k = k} h f (somebody y g z e q) =
    let b = put a g.member.id (ended_account (a g.member.id)) in
    let n = leaves s a p y g z (subst (Before s a p) e f) in
    record { settled = n.settled; held = grows_attached (noted_in b) (r.state.mark (device_of x)) x k n.held }
event-followed s x a p l h f (loses y g z e q m) =
    subst (PartsFollowed (noted_in (put a i new)) p) (sym hit)
    (becomes s a p y g z w (add_event x n) new (ap (λ (g : Group). g.member.id) added)
    (subst (λ (b : List Event). Each (FollowedBy b) new.commands) (sym (ap (λ (g : Group). g.events) added))
    (new_followed x g.events (a i).commands (all_more g.events (x ∷ []) (a i).commands (own_followed s a p y g z w)))))
  where
    d : ℕ
    d = device_of x

    i : ℕ
    i = g.member.id

    n : Group
    n = with g (skipped_left d g)

    new : Account
    new = skipped_account d (a i)

    w : Before s a p (y ++ (g ∷ z))
    w = subst (Before s a p) e f

    hub : HubOk s (y ++ (g ∷ z))
    hub = subst (HubOk s) e h

    added : add_event x n ≡ add_events (x ∷ []) (λ d. last_restart d (x ∷ [])) n
    added = added_is x n

    hit : attach_event (s.mark d) x (y ++ (n ∷ z)) ≡ y ++ (add_event x n ∷ z)
    hit =
        let j = (halfway_marked s d y g z hub q).1 in
        attach_hit (s.mark d) x y n z
        (subst (λ j. NotIn j (ids y)) j
        (each_left (IsNot i) (ids y) (ids z) (subst (NotIn i) (ids_++ y z) (ids_apart s.next_id p y g z w.ids_ok).1))) j

event_moves : (s : State) (x : Event) (c : Call) (v : Answer) (a : ℕ → Account) (p : List Entry) (l : List Group)
    {r : Result} {lead : List Event} {k : List Group} →
    TellsEvent (device_of x) c v → HubOk s l → RunsTold a l → Each (AccountTells a) l → Before s a p l → Gone s (device_of x) l r lead k →
    PartsFollowed (noted_in (note_answers c (r.answers ++ (v ∷ [])) a)) p (attach_event (r.state.mark (device_of x)) x k)
event_moves s x c v a p l {r = r} {k = k} n h u t f w =
    subst (λ b. PartsFollowed (noted_in b) p (attach_event (r.state.mark (device_of x)) x k))
    (sym (event-accounts s (device_of x) c v a l n h u t w)) (event-followed s x a p l h f w)

-- ---- every call

-- p: what has settled
pub followed_moves : (s : State) (a : ℕ → Account) (p : List Entry) (l : List Group)
    {c : Call} {r : Result} {lead : List Event} {k : List Group} →
    HubOk s l → RunsTold a l → Each (AccountTells a) l → IdsOk s.next_id (entry_ids p ++ ids l) → PartsFollowed (noted_in a) p l →
    Moves s l c r lead k → PartsFollowed (noted_in (note_answers c r.answers a)) p k
unfolding abort commit commit_turn send_turn done_report skip_report newcomer
followed_moves s a p l h u t o f (places cs x y v e m n b) =
    let i = s.next_id in
    let q = noted_in a in
    let new = alone (newcomer i cs) in
    let v = map (noted_as not_yet) cs in
    let k = ids_fresh i (entry_ids p ++ ids l) o in
    subst (λ b. PartsFollowed b p (x ++ (new ∷ pass_all y))) (sym (put-noted a i (placed_account cs))) (record {
      settled = other_settled q i v p (each_left (IsNot i) (entry_ids p) (ids l) k) f.settled;
      held = grows_placed (put q i v) x new y
          (each_insert (GroupFollowed (put q i v)) x new y
          (other_held q i v (x ++ y) (subst (λ l. NotIn i (ids l)) e (each_right (IsNot i) (entry_ids p) (ids l) k))
          (subst (Each (GroupFollowed q)) e f.held))
          (own_held q i v new refl (new_noted cs)));
    })
  where
    new_noted : (cs : List Command) → Each (FollowedBy []) (map (noted_as not_yet) cs)
    new_noted [] = tt
    new_noted (c ∷ cs) = (tt, new_noted cs)
followed_moves s a p l h u t o f (commits i x g y e j r n b) =
    let w = subst (Before s a p) e (record { ids_ok = o; parts = f }) in
    becomes s a p x g y w (with g (commit g.member)) (ended_account (a g.member.id)) refl (own_followed s a p x g y w)
followed_moves s a p l h u t o f (sends i x g y c e j r n b m v plain on) =
    let w = subst (Before s a p) e (record { ids_ok = o; parts = f }) in
    becomes s a p x g y w _ (sent_account c (a g.member.id)) refl (own_followed s a p x g y w)
followed_moves s a p l h u t o f (passes i x g y c e j r n b m st v) =
    subst (λ b. PartsFollowed (noted_in b) p (x ++ (with g (passed_member st g) ∷ y))) (sym (pass-noted i st g.member.id a))
    (answers s a p x g y (subst (Before s a p) e (record { ids_ok = o; parts = f })) _ (pass_outcome st) (ground v) refl refl)
  where
    ground : {st : Status} → Passes s g c st → (c : Command) → Ground g.events c (pass_outcome st)
    ground (is_down k m) c = tt
    ground (is_off k) c = tt
    ground (does_hold k w z) c = tt
    ground (does_not k w z) c = tt
followed_moves s a p l h u t o f (dones i code x g y v e j r n b) =
    answers s a p x g y (subst (Before s a p) e (record { ids_ok = o; parts = f })) _ reported_done (λ c. tt) refl refl
followed_moves s a p l h u t o f (misses i x g y v e j r n) =
    answers s a p x g y (subst (Before s a p) e (record { ids_ok = o; parts = f })) _ reported_failed (λ c. tt) refl refl
followed_moves s a p l h u t o f (aborts c x g y e j n) = leaves s a p x g y (subst (Before s a p) e (record { ids_ok = o; parts = f }))
followed_moves s a p l h u t o f (fails d r lead b n v g) =
    event_moves (with_up s (put s.up d false)) (failure_event d) (failure d) (down d (r.state.mark d)) a p l (λ b. refl)
    (hub-up s (put s.up d false) l h) u t (record { ids_ok = o; parts = f }) g
followed_moves s a p l h u t o f (restarts d v r lead b n w g) =
    event_moves s (restart_event d v) (restart d v) (up d (r.state.mark d)) a p l (λ b. refl) h u t (record { ids_ok = o; parts = f }) g
