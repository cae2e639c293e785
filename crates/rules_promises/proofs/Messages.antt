-- What was sent to a device, and who is in flight on it: on what its invariant depends, and that it is kept when the device takes one, when
-- routines settle, and when an account changes or a message is dropped. Assumes nothing.
use Rattle.rules_routine.proofs.Options.{some-injective}
use Rattle.std.proofs.Common.{Some}
use mathlib.Core.Path.{◌≡◌, refl, sym, ap, ◌∙◌, subst}
use mathlib.Core.Logic.{◌≢◌, inl, inr}
use mathlib.Core.Bool.{Bool, true, false, ◌&&◌}
use mathlib.Core.List.{List, [], ◌∷◌, ◌++◌, head-eq_of_cons-eq, tail-eq_of_cons-eq, nil≢cons}
use Prim.Native.Nat.{ℕ, zero, suc, ◌<◌, ◌≤◌}
use native.Mathlib.Omega.{arith}
use borrow.Author.Tests.{eqb-true, eq-eqb, ne_eqb}
use lib.Dec.{eqb}
use lib.IntN.{ℤ}
use Rattle.std.specs.Prelude.{if◌then◌else◌}
use Rattle.rules.specs.Tables.{any_of, put, Each}
use Rattle.rules.specs.State.{State}
use Rattle.rules.specs.Answers.{Call, Result}
use Rattle.rules.specs.Progress.{in_flight_on, Flight, flight}
use Rattle.rules.specs.Due.{due}
use Rattle.rules.specs.Settle.{settle}
use Rattle.rules.specs.History.{Outcome, Account, answered_account, ended_account, note_answers}
use Rattle.rules.specs.World.{Origin, putting_back, sent_for, same_origin, Message, Device, takes, without, drops, devices_after_all}
use Rattle.rules.proofs.Lists.{by_if, t≠f, eqb_sym, put_other, each_mid, each_drop, each_insert, each_map, NotIn, In, in_other}
use Rattle.rules_promises.proofs.Groups.{Group, members, ids, still_held, each_held}
use Rattle.rules_promises.proofs.Same.{Pairwise, no_pair, pair, Same, same_each}
use Rattle.rules_promises.proofs.Steps.{InTurn, done-step, finished_grounded, unbegun_grounded}
use Rattle.rules_promises.proofs.Invariant.{NotBegun, HasFinished, CommittedHasNothingLeft, CommandsInTurn, HubOk, CountedSend}
use Rattle.rules_promises.proofs.Invariant.{CountedMessage, back_to, ReachesSetting, has, goes-back, flight_origin, NotOrigin}
use Rattle.rules_promises.proofs.Invariant.{OnItsWay}
use Rattle.rules_promises.proofs.Invariant.{arrived, going, NoFlightOn, OneFlightOn, first_has_it, later_has_it, DeviceAt, is_down}
use Rattle.rules_promises.proofs.Invariant.{none_on_it, one_on_it, DeviceOk}
use Rattle.rules_promises.proofs.Fields.{Fixed, settle_fixed, settle-due}
use Rattle.rules_promises.proofs.Marks.{flight-runs}

-- ---- origins

pub origin_self : (o : Origin) → same_origin o o ≡ true
origin_self putting_back = refl
origin_self (sent_for i n) = rw (eq-eqb i i refl, eq-eqb n n refl) refl

origin_sym : (o p : Origin) → same_origin o p ≡ same_origin p o
origin_sym putting_back putting_back = refl
origin_sym putting_back (sent_for i n) = refl
origin_sym (sent_for i n) putting_back = refl
origin_sym (sent_for i n) (sent_for j m) = rw (eqb_sym i j, eqb_sym n m) refl

-- what is sent next for i is none of what was sent
pub fresh-origin : (a : ℕ → Account) (i n : ℕ) → (a i).sends < n → (o : Origin) → CountedSend a o → same_origin o (sent_for i n) ≡ false
fresh-origin a i n l putting_back h = refl
fresh-origin a i n l (sent_for j m) h = go (eqb j i) refl
  where
    go : (t : Bool) → eqb j i ≡ t → (t && eqb m n) ≡ false
    go true e = let k : m ≤ (a i).sends = subst (λ z. m ≤ (a z).sends) (eqb-true j i e) h in ne_eqb m n (omega arith)
    go false e = refl

pub none-took : (a : ℕ → Account) (i n : ℕ) → (a i).sends < n → (l : List Origin) → Each (CountedSend a) l →
    any_of (same_origin (sent_for i n)) l ≡ false
none-took a i n k [] h = refl
none-took a i n k (o ∷ l) h = rw (origin_sym (sent_for i n) o ∙ fresh-origin a i n k o h.0) (none-took a i n k l h.1)

-- has the device taken the command last sent for i?
abbrev pub took_last : (ℕ → Account) → ℕ → Device → Bool
took_last a i w = any_of (same_origin (flight_origin a i)) w.took

-- ---- a device takes what was sent

reaches_tail : (u v : ℤ) (m : Message) (l : List Message) → ReachesSetting u v (m ∷ l) → ReachesSetting m.setting v l
reaches_tail u v m l (has e h) = absurd (nil≢cons (sym e))
reaches_tail u v m l (goes-back [] e) = has (tail-eq_of_cons-eq e) (ap (λ x. x.setting) (head-eq_of_cons-eq e))
reaches_tail u v m l (goes-back (x ∷ k) e) = goes-back k (tail-eq_of_cons-eq e)

reaches_takes : (v : ℤ) (w : Device) → ReachesSetting w.setting v w.sent → (k : ℕ) (l : List Message) (u : ℤ) → ReachesSetting u v l →
    ReachesSetting (takes k l w).setting v (takes k l w).sent
reaches_takes v w h k [] u c = h
reaches_takes v w h zero (m ∷ l) u c = reaches_tail u v m l c
reaches_takes v w h (suc k) (m ∷ l) u c = reaches_takes v w h k l m.setting (reaches_tail u v m l c)

module _ (a : ℕ → Account) (i : ℕ) (x : Flight) (w : Device) where
  going_takes : OnItsWay a i x w → took_last a i w ≡ false → (k : ℕ) (p : List Message) (u : ℤ) → Each (NotOrigin (flight_origin a i)) p →
      ReachesSetting u x.due_then p →
      OnItsWay a i x (takes k (p ++ (record { setting = x.command.setting; origin = flight_origin a i } ∷ [])) w)
  going_takes f n zero [] u o c = arrived refl refl (rw (origin_self (flight_origin a i)) refl)
  going_takes f n (suc k) [] u o c = f
  going_takes f n zero (m ∷ p) u o c =
      going p refl o.1 (rw (origin_sym (flight_origin a i) m.origin ∙ o.0.other) n) (reaches_tail u x.due_then m p c)
  going_takes f n (suc k) (m ∷ p) u o c = going_takes f n k p m.setting o.1 (reaches_tail u x.due_then m p c)

  flying-takes : (k : ℕ) → OnItsWay a i x w → OnItsWay a i x (takes k w.sent w)
  flying-takes k (arrived e s t) = subst (λ l. OnItsWay a i x (takes k l w)) (sym e) (arrived e s t)
  flying-takes k (going p e o n c) =
      subst (λ l. OnItsWay a i x (takes k l w)) (sym e) (going_takes (going p e o n c) n k p w.setting o c)

old_takes : (a : ℕ → Account) (w : Device) → Each (CountedMessage a) w.sent → Each (CountedSend a) w.took →
    (k : ℕ) (l : List Message) → Each (CountedMessage a) l →
    Each (CountedMessage a) (takes k l w).sent × Each (CountedSend a) (takes k l w).took
old_takes a w s t k [] o = (s, t)
old_takes a w s t zero (m ∷ l) o = (o.1, (o.0, t))
old_takes a w s t (suc k) (m ∷ l) o = old_takes a w s t k l o.1

-- ---- who flies

-- the accounts and the device change, and the one that flies still flies so
one_map : (d : ℕ) (a b : ℕ → Account) (w u : Device) (l : List Group) →
    ((j : ℕ) (x : Flight) → In j (ids l) → OnItsWay a j x w → OnItsWay b j x u) → OneFlightOn d a w l → OneFlightOn d b u l
one_map d a b w u [] f o = elim o [ ]
one_map d a b w u (g ∷ l) f (first_has_it x e c h s) = first_has_it x e c (f g.member.id x (inl refl) h) s
one_map d a b w u (g ∷ l) f (later_has_it s o) = later_has_it s (one_map d a b w u l (λ j x m. f j x (inr m)) o)

pub device_takes : (d : ℕ) (s : State) (a : ℕ → Account) (l : List Group) (w : Device) (k : ℕ) → DeviceOk d s a l w →
    DeviceOk d s a l (takes k w.sent w)
device_takes d s a l w k h = record { old_sent = old.0; old_took = old.1; device_at = go h.device_at }
  where
    old : Each (CountedMessage a) (takes k w.sent w).sent × Each (CountedSend a) (takes k w.sent w).took
    old = old_takes a w h.old_sent h.old_took k w.sent h.old_sent

    go : DeviceAt d (s.up d) (due s d) a l w → DeviceAt d (s.up d) (due s d) a l (takes k w.sent w)
    go (is_down u e) = is_down u (subst (λ m. (takes k m w).sent ≡ []) (sym e) e)
    go (none_on_it u t c) = none_on_it u t (reaches_takes (due s d) w c k w.sent w.setting c)
    go (one_on_it u o) = one_on_it u (one_map d a a w (takes k w.sent w) l (λ j x m. flying-takes a j x w k) o)

-- ---- what a device's invariant depends on

pub ok_state : (d : ℕ) (s t : State) (a : ℕ → Account) (l : List Group) (w : Device) → t.up d ≡ s.up d → due t d ≡ due s d →
    DeviceOk d s a l w → DeviceOk d t a l w
ok_state d s t a l w e f h = record { old_sent = h.old_sent; old_took = h.old_took; device_at = rw (e, f) h.device_at }

ok_list : (d : ℕ) (s : State) (a : ℕ → Account) (l m : List Group) (w : Device) → (Each (NoFlightOn d) l → Each (NoFlightOn d) m) →
    (OneFlightOn d a w l → OneFlightOn d a w m) →
    DeviceOk d s a l w → DeviceOk d s a m w
ok_list d s a l m w f g h = record { old_sent = h.old_sent; old_took = h.old_took; device_at = go h.device_at }
  where
    go : DeviceAt d (s.up d) (due s d) a l w → DeviceAt d (s.up d) (due s d) a m w
    go (is_down u e) = is_down u e
    go (none_on_it u t c) = none_on_it u (f t) c
    go (one_on_it u o) = one_on_it u (g o)

pub device-settles : (d : ℕ) (s : State) (a : ℕ → Account) (l : List Group) (w : Device) → HubOk s l → DeviceOk d s a l w →
    DeviceOk d (settle s) a (still_held l) w
device-settles d s a l w h k =
    ok_state d s (settle s) a (still_held l) w (ap (λ (x : Fixed). x.up d) (settle_fixed s)) (settle-due s d)
    (ok_list d s a l (still_held l) w (each_held (NoFlightOn d) l) (one l h.nothing_left_all) k)
  where
    -- what is committed has nothing in flight
    one : (l : List Group) → Each CommittedHasNothingLeft l → OneFlightOn d a w l → OneFlightOn d a w (still_held l)
    one [] c o = elim o [ ]
    one (g ∷ l) c (first_has_it x e o f t) =
        by_if (λ m. OneFlightOn d a w m) g.member.committed (λ y. t≠f (sym y ∙ flight-runs g x c.0 e)) (λ _. first_has_it x e o f t)
    one (g ∷ l) c (later_has_it t o) = by_if (λ m. OneFlightOn d a w m) g.member.committed (λ _. one l c.1 o) (λ _. later_has_it t o)

-- it looks at the ids and the commands alone
same_no_flight_on : (d : ℕ) (g h : Group) → Same g h → NoFlightOn d g → NoFlightOn d h
unfolding in_flight_on
same_no_flight_on d g h e s = record { no_flight_on = rw e.same-steps s.no_flight_on }

pub no_flights_on_same : (d : ℕ) {l k : List Group} → Pairwise Same l k → Each (NoFlightOn d) l → Each (NoFlightOn d) k
no_flights_on_same d = same_each (NoFlightOn d) (same_no_flight_on d)

pub one_same : (d : ℕ) (a : ℕ → Account) (w : Device) {l k : List Group} → Pairwise Same l k → OneFlightOn d a w l → OneFlightOn d a w k
one_same d a w no_pair o = elim o [ ]
one_same d a w (pair e r) (first_has_it x f n y s) =
    first_has_it x (ap flight e.same-steps ∙ f) n (subst (λ j. OnItsWay a j x w) (sym e.same_id) y) (no_flights_on_same d r s)
one_same d a w (pair e r) (later_has_it s o) = later_has_it (same_no_flight_on d _ _ e s) (one_same d a w r o)

pub ok_same : (d : ℕ) (s : State) (a : ℕ → Account) (l k : List Group) (w : Device) → Pairwise Same l k → DeviceOk d s a l w →
    DeviceOk d s a k w
ok_same d s a l k w p = ok_list d s a l k w (no_flights_on_same d p) (one_same d a w p)

-- ---- the one that flies, and a routine of the list

pub flies_there : (d : ℕ) (g : Group) → InTurn g.member.steps → (x : Flight) → flight g.member.steps ≡ Some x →
    x.command.device ≡ d → in_flight_on d g.member ≡ true
flies_there d g t x e c = (done-step g.member t x e).flew d ∙ eq-eqb x.command.device d c

pub finished-it_no_flight_on : (d : ℕ) (g : Group) → HasFinished d g → NoFlightOn d g
finished-it_no_flight_on d g f = record { no_flight_on = finished_grounded g.member d f.finished-it }

pub not-begun_no_flight_on : (d : ℕ) (g : Group) → NotBegun d g → NoFlightOn d g
not-begun_no_flight_on d g f = record { no_flight_on = unbegun_grounded g.member d f.idle }

pub no_flights_on_any : (d : ℕ) (l : List Group) → Each (NoFlightOn d) l → any_of (in_flight_on d) (members l) ≡ false
no_flights_on_any d [] s = refl
no_flights_on_any d (g ∷ l) s = rw s.0.no_flight_on (no_flights_on_any d l s.1)

module _ (d : ℕ) (a : ℕ → Account) (w : Device) where
  pub one_any : (l : List Group) → Each CommandsInTurn l → OneFlightOn d a w l → any_of (in_flight_on d) (members l) ≡ true
  one_any [] t o = elim o [ ]
  one_any (g ∷ l) t (first_has_it x e c f s) = rw (flies_there d g t.0.turns x e c) refl
  one_any (g ∷ l) t (later_has_it s o) = rw s.no_flight_on (one_any l t.1 o)

  -- it is g
  pub one_this : (p : List Group) (g : Group) (q : List Group) (x : Flight) → flight g.member.steps ≡ Some x →
      in_flight_on d g.member ≡ true → OneFlightOn d a w (p ++ (g ∷ q)) →
      Each (NoFlightOn d) p × OnItsWay a g.member.id x w × Each (NoFlightOn d) q
  one_this [] g q x e f (first_has_it y k c h s) =
      (tt, subst (λ z. OnItsWay a g.member.id z w) (some-injective y x (sym k ∙ e)) h, s)
  one_this [] g q x e f (later_has_it s o) = t≠f (sym f ∙ s.no_flight_on)
  one_this (z ∷ p) g q x e f (first_has_it y k c h s) = t≠f (sym f ∙ (each_mid (NoFlightOn d) p g q s).no_flight_on)
  one_this (z ∷ p) g q x e f (later_has_it s o) = let r = one_this p g q x e f o in ((s, r.0), r.1, r.2)

  pub this_one : (p l : List Group) → Each (NoFlightOn d) p → OneFlightOn d a w l → OneFlightOn d a w (p ++ l)
  this_one [] l s o = o
  this_one (z ∷ p) l s o = later_has_it s.0 (this_one p l s.1 o)

  -- it is another than g
  pub one-drop : (p : List Group) (g : Group) (q : List Group) → InTurn g.member.steps → NoFlightOn d g →
      OneFlightOn d a w (p ++ (g ∷ q)) → OneFlightOn d a w (p ++ q)
  one-drop [] g q t s (first_has_it x e c f r) = t≠f (sym (flies_there d g t x e c) ∙ s.no_flight_on)
  one-drop [] g q t s (later_has_it r o) = o
  one-drop (z ∷ p) g q t s (first_has_it x e c f r) = first_has_it x e c f (each_drop (NoFlightOn d) p g q r)
  one-drop (z ∷ p) g q t s (later_has_it r o) = later_has_it r (one-drop p g q t s o)

  one_insert : (p : List Group) (g : Group) (q : List Group) → NoFlightOn d g → OneFlightOn d a w (p ++ q) →
      OneFlightOn d a w (p ++ (g ∷ q))
  one_insert [] g q s o = later_has_it s o
  one_insert (z ∷ p) g q s (first_has_it x e c f r) = first_has_it x e c f (each_insert (NoFlightOn d) p g q r s)
  one_insert (z ∷ p) g q s (later_has_it r o) = later_has_it r (one_insert p g q s o)

-- a routine that does not fly there comes or goes
pub ok_insert : (d : ℕ) (s : State) (a : ℕ → Account) (p : List Group) (g : Group) (q : List Group) (w : Device) → NoFlightOn d g →
    DeviceOk d s a (p ++ q) w → DeviceOk d s a (p ++ (g ∷ q)) w
ok_insert d s a p g q w o = ok_list d s a (p ++ q) (p ++ (g ∷ q)) w (λ r. each_insert (NoFlightOn d) p g q r o) (one_insert d a w p g q o)

pub ok_drop : (d : ℕ) (s : State) (a : ℕ → Account) (p : List Group) (g : Group) (q : List Group) (w : Device) → InTurn g.member.steps →
    NoFlightOn d g →
    DeviceOk d s a (p ++ (g ∷ q)) w → DeviceOk d s a (p ++ q) w
ok_drop d s a p g q w t o = ok_list d s a (p ++ (g ∷ q)) (p ++ q) w (each_drop (NoFlightOn d) p g q) (one-drop d a w p g q t o)

-- ---- the account of one routine changes

-- for all routines but i, the accounts and the device are as they were
pub record SameForOthers (i : ℕ) (a b : ℕ → Account) (w u : Device) : Type 0 where
  pub same_sent : Each (CountedMessage a) w.sent → Each (CountedMessage b) u.sent
  pub same-took : Each (CountedSend a) w.took → Each (CountedSend b) u.took
  pub same_empty : w.sent ≡ [] → u.sent ≡ []
  pub same_reaches : (v : ℤ) → ReachesSetting w.setting v w.sent → ReachesSetting u.setting v u.sent
  pub same-flying : (j : ℕ) (x : Flight) → j ≢ i → OnItsWay a j x w → OnItsWay b j x u

-- it looks at how many were sent alone
same_way : (a b : ℕ → Account) (j : ℕ) (x : Flight) (w : Device) → (a j).sends ≡ (b j).sends → OnItsWay a j x w → OnItsWay b j x w
same_way a b j x w e = go
  where
    same : flight_origin a j ≡ flight_origin b j
    same = ap (λ n. sent_for j n) e

    go : OnItsWay a j x w → OnItsWay b j x w
    go (arrived e s t) = arrived e s (subst (λ o. any_of (same_origin o) w.took ≡ true) same t)
    go (going k e o t c) =
        going k (subst (λ o. w.sent ≡ k ++ (record { setting = x.command.setting; origin = o } ∷ [])) same e)
        (subst (λ o. Each (NotOrigin o) k) same o)
        (subst (λ o. any_of (same_origin o) w.took ≡ false) same t) c

-- the accounts change in other parts
pub ok_sends : (d : ℕ) (s : State) (a b : ℕ → Account) (l : List Group) (w : Device) → ((i : ℕ) → (a i).sends ≡ (b i).sends) →
    DeviceOk d s a l w → DeviceOk d s b l w
ok_sends d s a b l w e h = record {
  old_sent = each_map (CountedMessage a) (CountedMessage b) (λ m. counted m.origin) w.sent h.old_sent;
  old_took = each_map (CountedSend a) (CountedSend b) counted w.took h.old_took;
  device_at = go h.device_at;
}
  where
    counted : (o : Origin) → CountedSend a o → CountedSend b o
    counted putting_back k = k
    counted (sent_for i n) k = subst (λ m. n ≤ m) (e i) k

    go : DeviceAt d (s.up d) (due s d) a l w → DeviceAt d (s.up d) (due s d) b l w
    go (is_down u n) = is_down u n
    go (none_on_it u t c) = none_on_it u t c
    go (one_on_it u o) = one_on_it u (one_map d a b w w l (λ j x m. same_way a b j x w (e j)) o)

module _ (i : ℕ) (a : ℕ → Account) (y : Account) (le : (a i).sends ≤ y.sends) where
  -- what was sent stays old
  old_put : (o : Origin) → CountedSend a o → CountedSend (put a i y) o
  old_put putting_back k = tt
  old_put (sent_for j n) k =
      by_if (λ (x : Account). n ≤ x.sends) (eqb j i)
      (λ e. let m : n ≤ (a i).sends = subst (λ z. n ≤ (a z).sends) (eqb-true j i e) k in omega arith) (λ _. k)

  flying-put : (j : ℕ) (x : Flight) (w : Device) → j ≢ i → OnItsWay a j x w → OnItsWay (put a i y) j x w
  flying-put j x w n = same_way a (put a i y) j x w (ap (λ (z : Account). z.sends) (sym (put_other a i y j n)))

  pub alike_put : (w : Device) → SameForOthers i a (put a i y) w w
  alike_put w = record {
    same_sent = each_map (CountedMessage a) (CountedMessage (put a i y)) (λ m. old_put m.origin) w.sent;
    same-took = each_map (CountedSend a) (CountedSend (put a i y)) old_put w.took;
    same_empty = λ e. e;
    same_reaches = λ v c. c;
    same-flying = λ j x n. flying-put j x w n;
  }

-- the accounts when i has ended
abbrev pub ended_at : ℕ → (ℕ → Account) → ℕ → Account
ended_at i a = put a i (ended_account (a i))

pub alike_ended : (i : ℕ) (a : ℕ → Account) (w : Device) → SameForOthers i a (ended_at i a) w w
alike_ended i a w = alike_put i a (ended_account (a i)) (omega arith) w

pub alike_answered : (o : Outcome) (i : ℕ) (a : ℕ → Account) (w : Device) →
    SameForOthers i a (put a i (answered_account o (a i))) w w
alike_answered o i a w = alike_put i a (answered_account o (a i)) (omega arith) w

-- ---- what was sent is dropped

each_without : (P : Message → Type 0) (o : Origin) (l : List Message) → Each P l → Each P (without o l)
each_without P o [] h = tt
each_without P o (m ∷ l) h =
    by_if (λ k. Each P k) (same_origin m.origin o) (λ _. each_without P o l h.1) (λ _. (h.0, each_without P o l h.1))

without_snoc : (o : Origin) (k : List Message) (m : Message) → same_origin m.origin o ≡ false → without o (k ++ (m ∷ [])) ≡ without o k
    ++ (m ∷ [])
without_snoc o [] m n = rw n refl
without_snoc o (x ∷ k) m n = go (same_origin x.origin o) (without_snoc o k m n)
  where
    go : (t : Bool) → without o (k ++ (m ∷ [])) ≡ without o k ++ (m ∷ []) →
        (if t then without o (k ++ (m ∷ [])) else x ∷ without o (k ++ (m ∷ []))) ≡ (if t then without o k else x ∷ without o k) ++ (m ∷ [])
    go true ih = ih
    go false ih = ap (λ l. x ∷ l) ih

-- the last one alone has the origin
pub without-last : (o : Origin) (k : List Message) (m : Message) → Each (NotOrigin o) k → same_origin m.origin o ≡ true →
    without o (k ++ (m ∷ [])) ≡ k
without-last o [] m n e = rw e refl
without-last o (x ∷ k) m n e = rw n.0.other (ap (λ l. x ∷ l) (without-last o k m n.1 e))

-- a back stays the last
reaches_without : (i n : ℕ) (u v : ℤ) (l : List Message) → ReachesSetting u v l → ReachesSetting u v (without (sent_for i n) l)
reaches_without i n u v l (has e h) = has (ap (without (sent_for i n)) e) h
reaches_without i n u v l (goes-back k e) =
    goes-back (without (sent_for i n) k) (ap (without (sent_for i n)) e ∙ without_snoc (sent_for i n) k (back_to v) refl)

-- and so does what another routine sent
flying-drops : (i n : ℕ) (a : ℕ → Account) (j : ℕ) (x : Flight) (w : Device) → j ≢ i → OnItsWay a j x w →
    OnItsWay a j x (drops (sent_for i n) w)
flying-drops i n a j x w d (arrived e s t) = arrived (ap (without (sent_for i n)) e) s t
flying-drops i n a j x w d (going k e o t c) =
    going (without (sent_for i n) k)
    (ap (without (sent_for i n)) e ∙ without_snoc (sent_for i n) k _ (ap (λ b. b && eqb (a j).sends n) (ne_eqb j i d)))
    (each_without (NotOrigin (flight_origin a j)) (sent_for i n) k o) t (reaches_without i n w.setting x.due_then k c)

pub alike_drops : (i n : ℕ) (a b : ℕ → Account) (w u : Device) → SameForOthers i a b w u → SameForOthers i a b w (drops (sent_for i n) u)
alike_drops i n a b w u k = record {
  same_sent = λ h. each_without (CountedMessage b) (sent_for i n) u.sent (k.same_sent h);
  same-took = k.same-took;
  same_empty = λ e. ap (without (sent_for i n)) (k.same_empty e);
  same_reaches = λ v c. reaches_without i n u.setting v u.sent (k.same_reaches v c);
  same-flying = λ j x m f. flying-drops i n b j x u m (k.same-flying j x m f);
}

pub one_alike : (d i : ℕ) (a b : ℕ → Account) (l : List Group) (w u : Device) → SameForOthers i a b w u → NotIn i (ids l) →
    OneFlightOn d a w l → OneFlightOn d b u l
one_alike d i a b l w u k n = one_map d a b w u l (λ j x m. k.same-flying j x (in_other i j (ids l) n m))

pub ok_alike : (d : ℕ) (s : State) (i : ℕ) (a b : ℕ → Account) (l : List Group) (w u : Device) → SameForOthers i a b w u → NotIn i (ids l) →
    DeviceOk d s a l w → DeviceOk d s b l u
ok_alike d s i a b l w u k n h =
    record { old_sent = k.same_sent h.old_sent; old_took = k.same-took h.old_took; device_at = go h.device_at }
  where
    go : DeviceAt d (s.up d) (due s d) a l w → DeviceAt d (s.up d) (due s d) b l u
    go (is_down y m) = is_down y (k.same_empty m)
    go (none_on_it y m c) = none_on_it y m (k.same_reaches (due s d) c)
    go (one_on_it y o) = one_on_it y (one_alike d i a b l w u k n o)

-- ---- the calls

-- the invariant of d after a call, before it settles
abbrev pub AfterCall : ℕ → (ℕ → Account) → (ℕ → Device) → ℤ → Call → Result → List Group → Type 0
AfterCall d a ds v c r k =
    DeviceOk d r.state (note_answers c r.answers a) k (devices_after_all c (note_answers c r.answers a) v r.answers ds d)
