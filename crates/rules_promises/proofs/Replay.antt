-- What holds of the conditions device by device gives the statement: along the whole order, and without the routines that still run.
-- Assumes nothing.
use mathlib.Core.Path.{◌≡◌, refl, sym, ap, ◌∙◌, subst}
use mathlib.Core.Logic.{◌⊎◌, inl, inr}
use mathlib.Core.Bool.{Bool, true, false}
use mathlib.Core.List.{List, [], ◌∷◌, ◌++◌, map, tail-eq_of_cons-eq, nil≢cons}
use Prim.Native.Nat.{ℕ}
use borrow.Author.Tests.{eq-eqb}
use lib.IntN.{ℤ}
use Rattle.rules_routine.specs.declared.Command.{Command}
use Rattle.rules.specs.Tables.{Each}
use Rattle.rules.specs.Turn.{has_set}
use Rattle.rules.specs.History.{Outcome, not_yet, reported_done, reported_failed, not_sent, by_event, found_held, found_not_held}
use Rattle.rules.specs.History.{Noted, Account}
use Rattle.rules.specs.Order.{Event, Entry, routine, event, before_bar}
use Rattle.rules.specs.Serial.{DeviceState, run_entry}
use Rattle.rules.specs.Demand3.{committed_part, skips_following, after_noted}
use Rattle.rules.specs.HubOrder.{done_steps}
use Rattle.rules.specs.Replay.{Replayed, AllReplayed, Replays}
use Rattle.rules_promises.proofs.Groups.{Group, flat}
use Rattle.rules_promises.proofs.Steps.{asked_on}
use Rattle.rules_promises.proofs.Invariant.{set_event, set_commands, up_event, set_after, up_after, AccountTells}
use Rattle.rules_promises.proofs.Serial.{serial_setting, serial_up}
use Rattle.rules_promises.proofs.Followed.{noted_in}
use Rattle.rules_promises.proofs.Stands.{noted-up}
use Rattle.rules_promises.proofs.Asked.{AllPairs, Spares, set_unasked}
use Rattle.rules_promises.proofs.Conditions.{Tagged, AllTagged, TaggedAll, FoundAs, set_by, RunsOn, runs_quiet, agree_found, OnDevice}
use Rattle.rules_promises.proofs.Conditions.{unset_commands}

-- ---- along an order, from a table of devices

-- one command
replayed_is : (b : Bool) (c : Command) (t : DeviceState) (o : Outcome) → Tagged b c o → FoundAs c.setting t.up t.setting o →
    Replayed b c t o
replayed_is b c t not_yet g f = tt
replayed_is b c t reported_done g f = g
replayed_is b c t reported_failed g f = g
replayed_is b c t not_sent g f = tt
replayed_is b c t by_event g f = tt
replayed_is b c t found_held g f = (g, f.0, f.1)
replayed_is b c t found_not_held g f = (g, f.0, f.1)

-- what it leaves
noted-set : (d : ℕ) (c : Command) (o : Outcome) (t : ℕ → DeviceState) → (after_noted o c t d).setting ≡ set_by d c o (t d).setting
noted-set d c not_yet t = refl
noted-set d c reported_done t = serial_setting d (routine 0 (c ∷ []) true ∷ []) t
noted-set d c reported_failed t = refl
noted-set d c not_sent t = refl
noted-set d c by_event t = refl
noted-set d c found_held t = refl
noted-set d c found_not_held t = refl

all_replayed : (b : Bool) (l : List Noted) (t : ℕ → DeviceState) → AllTagged b l → ((d : ℕ) → RunsOn d l (t d).up (t d).setting) →
    AllReplayed b l t
all_replayed b [] t g h = tt
all_replayed b (x ∷ l) t g h = (
  replayed_is b x.command (t x.command.device) x.outcome g.0
      ((h x.command.device).0 (eq-eqb x.command.device x.command.device refl)),
  all_replayed (skips_following x) l (after_noted x.outcome x.command t) g.2
      (λ d. subst (λ b. RunsOn d l b (after_noted x.outcome x.command t d).setting)
      (sym (ap (λ u. u d) (noted-up x.outcome x.command t)))
      (subst (RunsOn d l (t d).up) (sym (noted-set d x.command x.outcome t)) (h d).1)),
)

-- an entry leaves d as the run on d alone does
entry_is : (a : ℕ → Account) (e : Entry) (l : List Entry) (t : ℕ → DeviceState) →
    ((d : ℕ) → OnDevice d (noted_in a) l (up_after d (e ∷ []) (t d).up) (set_after d (e ∷ []) (t d).setting)) →
    (d : ℕ) → OnDevice d (noted_in a) l (run_entry e t d).up (run_entry e t d).setting
entry_is a e l t h d =
    subst (λ b. OnDevice d (noted_in a) l b (run_entry e t d).setting) (sym (serial_up d (e ∷ []) t))
    (subst (OnDevice d (noted_in a) l (up_after d (e ∷ []) (t d).up)) (sym (serial_setting d (e ∷ []) t)) (h d))

pub replays_is : (a : ℕ → Account) (l : List Entry) (t : ℕ → DeviceState) → TaggedAll a →
    ((d : ℕ) → OnDevice d (noted_in a) l (t d).up (t d).setting) → Replays a l t
replays_is a [] t g h = tt
replays_is a (routine i cs b ∷ l) t g h = (
  all_replayed false (a i).commands t (g i) (λ d. (h d).0),
  replays_is a l (run_entry (routine i cs b) t) g (entry_is a (routine i cs b) l t (λ d. (h d).1)),
)
replays_is a (event e ∷ l) t g h = replays_is a l (run_entry (event e) t) g (entry_is a (event e) l t h)

-- ---- without the routines that still run

-- none of these found a condition on d
abbrev Unasked : ℕ → List Group → Type 0
Unasked d l = Each (λ g. asked_on d g.member.steps ≡ false) l

module _ (d : ℕ) (a : ℕ → Account) where
  -- the run of all, with setting v, and that of the committed, with setting w: they are the same, or nobody asks
  abbrev Alike : List Group → ℤ → ℤ → Type 0
  Alike l v w = (v ≡ w) ⊎ Unasked d l

  alike_both : (l : List Group) {v w : ℤ} (f : ℤ → ℤ) → Alike l v w → Alike l (f v) (f w)
  alike_both l f (inl e) = inl (ap f e)
  alike_both l f (inr n) = inr n

  alike_behind : (g : Group) (l : List Group) {v w : ℤ} → Alike (g ∷ l) v w → Alike l v w
  alike_behind g l (inl e) = inl e
  alike_behind g l (inr n) = inr n.1

  -- what the committed ones are shown of the run of all
  abbrev Shows : List Group → List Entry → Type 0
  Shows l r = (b : Bool) (v w : ℤ) → Alike l v w → OnDevice d (noted_in a) r b v → OnDevice d (noted_in a) (committed_part r) b w

  shows_events : (l : List Group) (f : List Event) (r : List Entry) → Shows l r → Shows l (map event f ++ r)
  shows_events l [] r h = h
  shows_events l (e ∷ f) r h =
      λ b v w k. shows_events l f r h (up_event d e b) (set_event d e v) (set_event d e w) (alike_both l (set_event d e) k)

  runs_alike : (g : Group) (l : List Group) (b : Bool) {v w : ℤ} → AccountTells a g → Alike (g ∷ l) v w →
      RunsOn d (a g.member.id).commands b v → RunsOn d (a g.member.id).commands b w
  runs_alike g l b t (inl e) h = subst (RunsOn d (a g.member.id).commands b) e h
  runs_alike g l b {w = w} t (inr n) h = runs_quiet d (a g.member.id).commands b w (agree_found d t.agrees ∙ n.0)

  pub shows_groups : (l : List Group) → Each (AccountTells a) l → AllPairs Spares l → Shows l (flat l)
  shows_groups [] t p b v w k h = tt
  shows_groups (g ∷ l) t p b v w k h =
      go (shows_events l g.events (flat l) (shows_groups l t.1 p.1)) g.member.committed refl
    where
      cs : List Command
      cs = done_steps g.member.steps

      r : List Entry
      r = map event g.events ++ flat l

      -- it runs, and is left out
      running : g.member.committed ≡ false → (b : Bool) → has_set d g.member ≡ b → Alike l (set_commands d cs v) w
      running e true q = inr (set_unasked d g l q p.0)
      running e false q =
          subst (λ u. Alike l u w) (sym (unset_commands d g.member e q v)) (alike_behind g l k)

      go : Shows l r → (c : Bool) → g.member.committed ≡ c → OnDevice d (noted_in a) (committed_part (routine g.member.id cs c ∷ r)) b w
      go ih true e = (runs_alike g l b t.0 k h.0, ih b _ _ (alike_both l (set_commands d cs) (alike_behind g l k)) h.1)
      go ih false e = ih b _ w (running e (has_set d g.member) refl) h.1

  -- what has settled is committed, and the groups follow it
  pub shows_settled : (p : List Entry) (l : List Group) → before_bar p ≡ p → Each (AccountTells a) l → AllPairs Spares l →
      (b : Bool) (v : ℤ) → OnDevice d (noted_in a) (p ++ flat l) b v → OnDevice d (noted_in a) (committed_part (p ++ flat l)) b v
  shows_settled [] l e t q b v h = shows_groups l t q b v v (inl refl) h
  shows_settled (routine i cs true ∷ p) l e t q b v h = (h.0, shows_settled p l (tail-eq_of_cons-eq e) t q b (set_commands d cs v) h.1)
  shows_settled (routine i cs false ∷ p) l e t q b v h = absurd (nil≢cons e)
  shows_settled (event x ∷ p) l e t q b v h = shows_settled p l (tail-eq_of_cons-eq e) t q (up_event d x b) (set_event d x v) h
