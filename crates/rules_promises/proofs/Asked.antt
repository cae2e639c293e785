-- Conditions, of the hub: a running routine ahead of one that found a condition on d has no done command on d, nor will it have one; and
-- what is in flight is no condition. Every call keeps both. Assumes nothing.
use Rattle.rules_routine.proofs.Options.{none-ne-some, some-injective}
use Rattle.std.proofs.Common.{None, Some}
use mathlib.Core.Path.{◌≡◌, refl, sym, ap, ◌∙◌, subst}
use mathlib.Core.Logic.{◌≢◌}
use mathlib.Core.Bool.{Bool, true, false, not, ◌&&◌, ◌||◌, and-true, and-false}
use mathlib.Core.List.{List, [], ◌∷◌, ◌++◌}
use Prim.Native.Nat.{ℕ}
use borrow.Author.Tests.{ne_eqb}
use Rattle.std.specs.Prelude.{if◌then◌else◌}
use Rattle.rules_routine.specs.Routine.{is_condition}
use Rattle.rules_routine.specs.declared.Command.{Command}
use Rattle.rules.specs.Tables.{any_of, put, Each}
use Rattle.rules.specs.State.{Status, Step, Member, State}
use Rattle.rules.specs.Answers.{Call, Result}
use Rattle.rules.specs.Progress.{is_on, is_done, Flight, flight}
use Rattle.rules.specs.Due.{due}
use Rattle.rules.specs.Sequence.{is_running, with_up}
use Rattle.rules.specs.Submit.{newcomer}
use Rattle.rules.specs.Turn.{holds, has_set, holds_up, commit}
use Rattle.rules.specs.History.{is_for}
use Rattle.rules.specs.Order.{Event, failure_event, restart_event}
use Rattle.rules.specs.HubOrder.{done_steps}
use Rattle.rules.proofs.Lists.{by_if, t≠f, or_right, this_or_other, each_mid, each_drop, each_insert}
use Rattle.rules.proofs.Lists.{each_swap, each_map}
use Rattle.rules_promises.proofs.Groups.{Group, alone, with, still_held}
use Rattle.rules_promises.proofs.Same.{Pairwise, no_pair, pair, Same, same-placed, same_leaving, same_attached, same_each}
use Rattle.rules_promises.proofs.Steps.{flight_is_skipped, sent-skipped, grounded_skipped, left_skipped, InTurn, was_asked, asked_on}
use Rattle.rules_promises.proofs.Steps.{send-step}
use Rattle.rules_promises.proofs.Steps.{skip_step, done-step, fail_step, fail_done, done-gains}
use Rattle.rules_promises.proofs.Steps.{skip_steps}
use Rattle.rules_promises.proofs.Steps.{unbegun_asked, Fresh, fresh-newcomer}
use Rattle.rules_promises.proofs.Invariant.{NotBegun, HubOk}
use Rattle.rules_promises.proofs.View.{Passes, is_down, is_off, does_hold, does_not, passing, sent_member, passed_member, done_member}
use Rattle.rules_promises.proofs.View.{failed_member}
use Rattle.rules_promises.proofs.View.{skipped_left, Gone, nobody, somebody, loses, Moves, places, commits, sends, passes, dones}
use Rattle.rules_promises.proofs.View.{misses}
use Rattle.rules_promises.proofs.View.{aborts, fails, restarts}
use Rattle.rules_promises.proofs.Marks.{in-turn, none-held-up, flight_clear}
use Rattle.rules_promises.proofs.Moved.{hub-up}

-- ---- of all pairs of a list

abbrev pub AllPairs : (Group → Group → Type 0) → List Group → Type 0
AllPairs R [] = Unit {0}
AllPairs R (x ∷ l) = Each (R x) l × AllPairs R l

-- those ahead of g and those behind it, with it
pub record Around (R : Group → Group → Type 0) (a : List Group) (g : Group) (b : List Group) : Type 0 where
  pub ahead : Each (λ x. R x g) a
  pub behind : Each (R g) b
  pub others : AllPairs R (a ++ b)

module _ (R : Group → Group → Type 0) where
  pub pairs_around : (a : List Group) (g : Group) (b : List Group) → AllPairs R (a ++ (g ∷ b)) → Around R a g b
  pairs_around [] g b h = record { ahead = tt; behind = h.0; others = h.1 }
  pairs_around (x ∷ a) g b h =
      let k = pairs_around a g b h.1 in
      record { ahead = (each_mid (R x) a g b h.0, k.ahead); behind = k.behind; others = (each_drop (R x) a g b h.0, k.others) }

  around_pairs : (a : List Group) (g : Group) (b : List Group) → Around R a g b → AllPairs R (a ++ (g ∷ b))
  around_pairs [] g b h = (h.behind, h.others)
  around_pairs (x ∷ a) g b h = (
    each_insert (R x) a g b h.others.0 h.ahead.0,
    around_pairs a g b (record { ahead = h.ahead.1; behind = h.behind; others = h.others.1 }),
  )

  pairs_same : ((x y g h : Group) → Same x y → Same g h → R x g → R y h) → {l k : List Group} → Pairwise Same l k → AllPairs R l →
      AllPairs R k
  pairs_same f no_pair h = tt
  pairs_same f (pair {g = x} {h = y} {l = l} {k = k} s p) h = (behind p h.0, pairs_same f p h.1)
    where
      behind : {l k : List Group} → Pairwise Same l k → Each (R x) l → Each (R y) k
      behind no_pair h = tt
      behind (pair {g = g} {h = i} t p) h = (f x y g i s t h.0, behind p h.1)

  pub pairs_held : (l : List Group) → AllPairs R l → AllPairs R (still_held l)
  pairs_held [] h = tt
  pairs_held (g ∷ l) h = by_if (AllPairs R) g.member.committed (λ _. pairs_held l h.1) (λ _. h)

-- ---- the pairs

-- x stands ahead of g, which found a condition on d: x, if it runs, has set nothing on d
abbrev pub Spares : Group → Group → Type 0
Spares x g = (d : ℕ) → asked_on d g.member.steps ≡ true → has_set d x.member ≡ false

-- what a routine has set is told by its done commands
pub set_is : (d : ℕ) (m : Member) → has_set d m ≡ (is_running m && any_of (is_for d) (done_steps m.steps))
unfolding has_set
set_is d m = ap (λ b. is_running m && b) (go m.steps)
  where
    go : (l : List Step) → any_of (λ x. is_on d x && is_done x.status) l ≡ any_of (is_for d) (done_steps l)
    go [] = refl
    go (x ∷ l) = by (is_done x.status) (go l)
      where
        by : (b : Bool) → any_of (λ x. is_on d x && is_done x.status) l ≡ any_of (is_for d) (done_steps l) →
            ((is_on d x && b) || any_of (λ x. is_on d x && is_done x.status) l)
            ≡ any_of (is_for d) (if b then x.command ∷ done_steps l else done_steps l)
        by true e = rw (and-true (is_on d x), e) refl
        by false e = rw (and-false (is_on d x)) e

same_set : (d : ℕ) (m n : Member) → n.committed ≡ m.committed → done_steps n.steps ≡ done_steps m.steps → has_set d n ≡ has_set d m
unfolding is_running
same_set d m n c e =
    set_is d n ∙ ap (λ b. not b && any_of (is_for d) (done_steps n.steps)) c
    ∙ ap (λ l. not m.committed && any_of (is_for d) l) e ∙ sym (set_is d m)

same_spares : (x y g h : Group) → Same x y → Same g h → Spares x g → Spares y h
same_spares x y g h s t r d e =
    same_set d x.member y.member s.same-committed (ap done_steps s.same-steps)
    ∙ r d (ap (asked_on d) (sym t.same-steps) ∙ e)

-- behind a routine that runs and has set d nobody found a condition on d
pub set_unasked : (d : ℕ) (g : Group) (l : List Group) → has_set d g.member ≡ true → Each (Spares g) l →
    Each (λ h. asked_on d h.member.steps ≡ false) l
set_unasked d g [] e k = tt
set_unasked d g (h ∷ l) e k = (go (asked_on d h.member.steps) refl, set_unasked d g l e k.1)
  where
    go : (b : Bool) → asked_on d h.member.steps ≡ b → b ≡ false
    go true q = t≠f (sym e ∙ k.0 d q)
    go false q = refl

-- g becomes h, and has asked and set no more than it had
module _ (a : List Group) (g h : Group) (b : List Group) where
  spares_swap : ((d : ℕ) → asked_on d h.member.steps ≡ true → asked_on d g.member.steps ≡ true) →
      ((d : ℕ) → has_set d g.member ≡ false → has_set d h.member ≡ false) → AllPairs Spares (a ++ (g ∷ b)) →
      AllPairs Spares (a ++ (h ∷ b))
  spares_swap f k w =
      let r = pairs_around Spares a g b w in
      around_pairs Spares a h b (record {
        ahead = each_map (λ x. Spares x g) (λ x. Spares x h) (λ x q d e. q d (f d e)) a r.ahead;
        behind = each_map (Spares g) (Spares h) (λ y q d e. k d (q d e)) b r.behind;
        others = r.others;
      })

  -- g becomes h, which has asked and done the same
  spares_same : h.member.committed ≡ g.member.committed → ((d : ℕ) → asked_on d h.member.steps ≡ asked_on d g.member.steps) →
      done_steps h.member.steps ≡ done_steps g.member.steps → AllPairs Spares (a ++ (g ∷ b)) → AllPairs Spares (a ++ (h ∷ b))
  spares_same c f e = spares_swap (λ d q. sym (f d) ∙ q) (λ d q. same_set d g.member h.member c e ∙ q)

pub gone_spares : (s : State) (d : ℕ) (l : List Group) {r : Result} {lead : List Event} {k : List Group} → HubOk s l → AllPairs Spares l →
    Gone s d l r lead k → AllPairs Spares k
gone_spares s d l h w (nobody q) = w
gone_spares s d l h w (somebody a g b e q) =
    pairs_same Spares same_spares (same_leaving a g b) (pairs_around Spares a g b (subst (AllPairs Spares) e w)).others
gone_spares s d l h w (loses a g b e q m) =
    let k = skip_steps d g.member (in-turn s a g b (subst (HubOk s) e h)) in
    spares_same a g (with g (skipped_left d g)) b refl k.same_asked k.same-done (subst (AllPairs Spares) e w)

-- a condition was found, after the wait rule
condition_spares : (s : State) (a : List Group) (g : Group) (b : List Group) (c : Command) (n : Member) → is_condition c ≡ true →
    Each (λ x. holds_up c.device (is_condition c) x.member ≡ false) a → n.committed ≡ g.member.committed →
    ((d : ℕ) → c.device ≢ d → asked_on d n.steps ≡ asked_on d g.member.steps) → done_steps n.steps ≡ done_steps g.member.steps →
    AllPairs Spares (a ++ (g ∷ b)) → AllPairs Spares (a ++ (with g n ∷ b))
unfolding holds_up
condition_spares s a g b c n k f same other done w =
    let r = pairs_around Spares a g b w in
    around_pairs Spares a (with g n) b (record {
      ahead = both a f r.ahead;
      behind = each_map (Spares g) (Spares (with g n)) (λ y q d e. same_set d g.member n same done ∙ q d e) b r.behind;
      others = r.others;
    })
  where
    both : (a : List Group) → Each (λ x. holds_up c.device (is_condition c) x.member ≡ false) a → Each (λ x. Spares x g) a →
        Each (λ x. Spares x (with g n)) a
    both [] f q = tt
    both (x ∷ a) f q = (here, both a f.1 q.1)
      where
        unset : has_set c.device x.member ≡ false
        unset =
            ap (λ b. b && has_set c.device x.member) (sym k)
            ∙ or_right (holds c.device x.member) (is_condition c && has_set c.device x.member) f.0

        here : Spares x (with g n)
        here d e = this_or_other (λ d. asked_on d n.steps ≡ true → has_set d x.member ≡ false) c.device d (λ _. unset)
            (λ m e. q.0 d (sym (other d m) ∙ e)) e

passes_spares : (s : State) (a : List Group) (g : Group) (b : List Group) (c : Command) {st : Status} → Passes s g c st →
    Each (λ x. holds_up c.device (is_condition c) x.member ≡ false) a →
    (was_asked st ≡ false → (d : ℕ) → asked_on d (passed_member st g).steps ≡ asked_on d g.member.steps) →
    ((d : ℕ) → c.device ≢ d → asked_on d (passed_member st g).steps ≡ asked_on d g.member.steps) →
    done_steps (passed_member st g).steps ≡ done_steps g.member.steps →
    AllPairs Spares (a ++ (g ∷ b)) → AllPairs Spares (a ++ (with g (passed_member st g) ∷ b))
passes_spares s a g b c (is_down u m) f same other done = spares_same a g _ b refl (same refl) done
passes_spares s a g b c (is_off u) f same other done = spares_same a g _ b refl (same refl) done
passes_spares s a g b c (does_hold u k y) f same other done = condition_spares s a g b c _ k f refl other done
passes_spares s a g b c (does_not u k y) f same other done = condition_spares s a g b c _ k f refl other done

pub spares_moves : (s : State) (l : List Group) {c : Call} {r : Result} {lead : List Event} {k : List Group} → HubOk s l →
    AllPairs Spares l → Moves s l c r lead k → AllPairs Spares k
unfolding commit is_running newcomer
spares_moves s l h w (places cs a b q e u p n) =
    pairs_same Spares same_spares (same-placed a (alone new) b)
    (around_pairs Spares a (alone new) b (record {
      ahead = none_asked a;
      behind = each_map (λ y. Unit {0}) (Spares (alone new)) (λ y t d e. unset d) b (units b);
      others = subst (AllPairs Spares) e w;
    }))
  where
    new : Member
    new = newcomer s.next_id cs

    f : Fresh cs new
    f = fresh-newcomer s.next_id cs

    none_asked : (a : List Group) → Each (λ x. Spares x (alone new)) a
    none_asked [] = tt
    none_asked (x ∷ a) = ((λ d e. t≠f (sym e ∙ unbegun_asked new d (f.unbegun d))), none_asked a)

    unset : (d : ℕ) → has_set d new ≡ false
    unset d = set_is d new ∙ ap (λ l. any_of (is_for d) l) f.done-is

    units : (b : List Group) → Each (λ y. Unit {0}) b
    units [] = tt
    units (y ∷ b) = (tt, units b)
spares_moves s l h w (commits i a g b e n r f q) =
    spares_swap a g (with g (commit g.member)) b (λ d y. y) (λ d y. set_is d (commit g.member)) (subst (AllPairs Spares) e w)
spares_moves s l h w (sends i a g b c e n r f q x u plain on) =
    let k = send-step g.member (in-turn s a g b (subst (HubOk s) e h)) c (due s c.device) q f in
    spares_same a g (with g (sent_member s g c)) b refl k.same_asked k.same-done (subst (AllPairs Spares) e w)
spares_moves s l h w (passes i a g b c e n r f q x st u) =
    let k = skip_step g.member (in-turn s a g b (subst (HubOk s) e h)) c st (passing u) q f in
    passes_spares s a g b c u (none-held-up c.device (is_condition c) a x) k.same_asked k.other_asked k.same-done
    (subst (AllPairs Spares) e w)
spares_moves s l h w (dones i code a g b x e n r f q) =
    let k = done-step g.member t x f in
    let y = pairs_around Spares a g b (subst (AllPairs Spares) e w) in
    around_pairs Spares a (with g (done_member g)) b (record {
      ahead = each_map (λ z. Spares z g) (λ z. Spares z (with g (done_member g))) (λ z m d o. m d (sym (k.same_asked d) ∙ o)) a y.ahead;
      behind = later b (flight_clear s a g b x hub f).behind-not-begun y.behind;
      others = y.others;
    })
  where
    hub : HubOk s (a ++ (g ∷ b))
    hub = subst (HubOk s) e h

    t : InTurn g.member.steps
    t = in-turn s a g b hub

    -- those behind have not begun its device
    later : (b : List Group) → Each (NotBegun x.command.device) b → Each (Spares g) b → Each (Spares (with g (done_member g))) b
    later [] m k = tt
    later (z ∷ b) m k = (here, later b m.1 k.1)
      where
        here : Spares (with g (done_member g)) z
        here d o =
            this_or_other (λ d. asked_on d z.member.steps ≡ true → has_set d (done_member g) ≡ false) x.command.device d
            (λ o. t≠f (sym o ∙ unbegun_asked z.member x.command.device m.0.idle))
            (λ p o. set_is d (done_member g)
            ∙ ap (λ l. is_running g.member && any_of (is_for d) l) (done-gains g.member t x f)
            ∙ ap (λ b. is_running g.member && b) (not_other d p) ∙ sym (set_is d g.member) ∙ k.0 d o) o
          where
            not_other : (d : ℕ) → x.command.device ≢ d →
                any_of (is_for d) (done_steps g.member.steps ++ (x.command ∷ [])) ≡ any_of (is_for d) (done_steps g.member.steps)
            not_other d p = go (done_steps g.member.steps)
              where
                go : (l : List Command) → any_of (is_for d) (l ++ (x.command ∷ [])) ≡ any_of (is_for d) l
                go [] = rw (ne_eqb x.command.device d p) refl
                go (c ∷ l) = ap (λ b. is_for d c || b) (go l)
spares_moves s l h w (misses i a g b x e n r f) =
    let t = in-turn s a g b (subst (HubOk s) e h) in
    spares_same a g (with g (failed_member g)) b refl (fail_step g.member t x f).same_asked (fail_done g.member t x f)
    (subst (AllPairs Spares) e w)
spares_moves s l h w (aborts c a g b e r k) =
    pairs_same Spares same_spares (same_leaving a g b) (pairs_around Spares a g b (subst (AllPairs Spares) e w)).others
spares_moves s l h w (fails d r lead k n u g) =
    pairs_same Spares same_spares (same_attached (r.state.mark d) (failure_event d) k)
    (gone_spares (with_up s (put s.up d false)) d l (hub-up s (put s.up d false) l h) w g)
spares_moves s l h w (restarts d v r lead k n u g) =
    pairs_same Spares same_spares (same_attached (r.state.mark d) (restart_event d v) k) (gone_spares s d l h w g)

-- ---- what is in flight is no condition, nor one that a condition skips

pub record FlightIsPlain (g : Group) : Type 0 where
  pub plain : (x : Flight) → flight g.member.steps ≡ Some x → is_condition x.command ≡ false
  pub unskipped : flight_is_skipped false g.member.steps ≡ false

same_plain : (g h : Group) → Same g h → FlightIsPlain g → FlightIsPlain h
same_plain g h s p = record {
  plain = λ x e. p.plain x (ap flight (sym s.same-steps) ∙ e);
  unskipped = ap (flight_is_skipped false) s.same-steps ∙ p.unskipped;
}

grounded_plain : (g : Group) → flight g.member.steps ≡ None → FlightIsPlain g
grounded_plain g e =
    record { plain = λ x f. absurd (none-ne-some x (sym e ∙ f)); unskipped = grounded_skipped g.member.steps e }

gone_plain : (s : State) (d : ℕ) (l : List Group) {r : Result} {lead : List Event} {k : List Group} → HubOk s l → Each FlightIsPlain l →
    Gone s d l r lead k → Each FlightIsPlain k
gone_plain s d l h w (nobody q) = w
gone_plain s d l h w (somebody a g b e q) =
    same_each FlightIsPlain same_plain (same_leaving a g b) (each_drop FlightIsPlain a g b (subst (Each FlightIsPlain) e w))
gone_plain s d l h w (loses a g b e q m) =
    let k = skip_steps d g.member (in-turn s a g b (subst (HubOk s) e h)) in
    let y = subst (Each FlightIsPlain) e w in
    each_swap FlightIsPlain a g (with g (skipped_left d g)) b y
    (record {
      plain = λ x f. (each_mid FlightIsPlain a g b y).plain x (k.flight_was x f).0;
      unskipped = left_skipped d g.member.steps (in-turn s a g b (subst (HubOk s) e h)) false
          (each_mid FlightIsPlain a g b y).unskipped;
    })

pub plain_moves : (s : State) (l : List Group) {c : Call} {r : Result} {lead : List Event} {k : List Group} → HubOk s l →
    Each FlightIsPlain l → Moves s l c r lead k → Each FlightIsPlain k
unfolding commit
plain_moves s l h w (places cs a b q e u p n) =
    same_each FlightIsPlain same_plain (same-placed a _ b)
    (each_insert FlightIsPlain a _ b (subst (Each FlightIsPlain) e w) (grounded_plain _ (fresh-newcomer s.next_id cs).flight_is))
plain_moves s l h w (commits i a g b e n r f q) =
    each_swap FlightIsPlain a g (with g (commit g.member)) b (subst (Each FlightIsPlain) e w) (grounded_plain _ f)
plain_moves s l h w (sends i a g b c e n r f q x u plain on) =
    let k = send-step g.member (in-turn s a g b (subst (HubOk s) e h)) c (due s c.device) q f in
    each_swap FlightIsPlain a g (with g (sent_member s g c)) b (subst (Each FlightIsPlain) e w)
    (record {
      plain = λ x o. ap (λ (y : Flight). is_condition y.command) (sym (some-injective _ x (sym k.flight_is ∙ o))) ∙ plain;
      unskipped = sent-skipped (due s c.device) false g.member.steps f on;
    })
plain_moves s l h w (passes i a g b c e n r f q x st u) =
    each_swap FlightIsPlain a g (with g (passed_member st g)) b (subst (Each FlightIsPlain) e w)
    (grounded_plain _ (skip_step g.member (in-turn s a g b (subst (HubOk s) e h)) c st (passing u) q f).flight_is)
plain_moves s l h w (dones i code a g b x e n r f q) =
    each_swap FlightIsPlain a g (with g (done_member g)) b (subst (Each FlightIsPlain) e w)
    (grounded_plain _ (done-step g.member (in-turn s a g b (subst (HubOk s) e h)) x f).flight_is)
plain_moves s l h w (misses i a g b x e n r f) =
    each_swap FlightIsPlain a g (with g (failed_member g)) b (subst (Each FlightIsPlain) e w)
    (grounded_plain _ (fail_step g.member (in-turn s a g b (subst (HubOk s) e h)) x f).flight_is)
plain_moves s l h w (aborts c a g b e r k) =
    same_each FlightIsPlain same_plain (same_leaving a g b) (each_drop FlightIsPlain a g b (subst (Each FlightIsPlain) e w))
plain_moves s l h w (fails d r lead k n u g) =
    same_each FlightIsPlain same_plain (same_attached (r.state.mark d) (failure_event d) k)
    (gone_plain (with_up s (put s.up d false)) d l (hub-up s (put s.up d false) l h) w g)
plain_moves s l h w (restarts d v r lead k n u g) =
    same_each FlightIsPlain same_plain (same_attached (r.state.mark d) (restart_event d v) k) (gone_plain s d l h w g)
