-- Laws that the proofs of this crate, and those above it, cite. Assumes nothing.
use Rattle.rules_routine.specs.declared.refusals.Refusal.TheVariants.{NotRunning}
use Rattle.rules_routine.specs.declared.refusals.Refusal.{Refusal}
use Rattle.std.proofs.Common.{None, Option, Some}
use mathlib.Core.Path.{◌≡◌, refl, sym, ap, ◌∙◌, subst, fun_ext}
use mathlib.Core.Bool.{Bool, true, false, not, ◌&&◌, ◌||◌}
use mathlib.Core.List.{List, [], ◌∷◌, ◌++◌, append_assoc}
use Prim.Native.Nat.{ℕ, zero, suc, ◌+◌, ◌-◌, ◌<◌, ◌≤◌}
use native.Mathlib.Numerals.{add-one}
use native.Mathlib.Omega.{arith}
use borrow.Author.Tests.{eq-eqb, ne_eqb, lt-ltb, le-ltb}
use lib.Dec.{eqb, ltb}
use lib.IntN.{ℤ, pos}
use lib.ListN.{length, get_or, set, replicate, length-replicate}
use Rattle.std.specs.Prelude.{if◌then◌else◌}
use Rattle.rules_routine.specs.Limits.{max_devices}
use Rattle.rules_routine.specs.declared.Command.{Command}
use Rattle.rules_routine.proofs.RoutineLaws.{by_test}
use Rattle.rules.specs.Tables.{put, any_of, same_setting}
use Rattle.rules.specs.State.{Member, State}
use Rattle.rules.specs.Answers.{Back, Result, turned_down}
use Rattle.rules.specs.Sequence.{runs, with_up}
use Rattle.rules.specs.Attach.{attach}
use Rattle.rules.specs.Progress.{flight, in_flight_on}
use Rattle.rules.specs.Due.{due}
use Rattle.rules.specs.Abort.{leave, is_put_back, put_backs}
use Rattle.rules.specs.Cancel.{cancel_found, cancel_of}
use Rattle.rules.proofs.Lists.{this_or_other, put_same, put_other}
use Rattle.hub_sequence.specs.Links.{Stands}
use Rattle.hub_answers.specs.declared.Answer.TheVariants.{Refused, Aborted}
use Rattle.hub_state.specs.View.{settings_of, flags_of, up_of, rows_of, steps_at, member_at, state_of, there}
use Rattle.hub_state.specs.Valid.{StateOk}
use Rattle.hub_state.specs.Unanswered.{answered_at, NextInFlight, UnansweredIs}
use Rattle.hub_state.specs.Contract.{put_backs_left, down_with, plainly, Decides}
use Rattle.hub_state.specs.declared.HubState.{HubState}
use Rattle.hub_state.specs.declared.Unanswered.{Unanswered}
use Rattle.hub_state.specs.declared.Unanswered.TheVariants.{Nothing, ToDo, InFlight}
use Rattle.hub_state.specs.declared.Change.TheVariants.{Nothing as NoChange, Abort}
use Rattle.hub_state.specs.declared.Decision.{Decision}
use Rattle.hub_state.proofs.Steps.{flies, flights_none, flights_some}
use Rattle.hub_state.proofs.Rows.{step-device}
use Rattle.hub_state.proofs.Members.{there-it, member_steps}
use Rattle.hub_state.proofs.DecisionLaws.{refused-decides, abort-decides}
use Rattle.hub_due.proofs.Tables.{set-put}
use Rattle.hub_due.proofs.Slots.{none-set}
use Rattle.hub_search.specs.Contract.{Finds}
use Rattle.hub_search.proofs.Found.{found_as, stands_at, found-id}
use Rattle.hub_abort.specs.PutBacks.{is_back_by, put_backs_from, down_if, TablesAre}
use Rattle.hub_abort.specs.declared.Tables.{Tables}

-- ---- the list of put-backs

-- the devices from d on: d is put back, it is not
module _ (p : ℕ → Bool) (setting : ℕ → ℤ) (l : List Back) (d n : ℕ) where
  pub backs_more : d < n → p d ≡ true →
      (l ++ (record { device = d; setting = setting d } ∷ [])) ++ put_backs_from p setting (d + 1) (n - (d + 1)) ≡ l
      ++ put_backs_from p setting d (n - d)
  backs_more h t =
      let e : n - d ≡ suc (n - (d + 1)) = omega (arith, h) in
      rw (e, add-one d, t) (append_assoc l (record { device = d; setting = setting d } ∷ []) (put_backs_from p setting (suc d) (n - suc d)))

  pub backs_same : d < n → p d ≡ false → l ++ put_backs_from p setting (d + 1) (n - (d + 1)) ≡ l ++ put_backs_from p setting d (n - d)
  backs_same h t = let e : n - d ≡ suc (n - (d + 1)) = omega (arith, h) in rw (e, add-one d, t)

-- the put-backs of the rules are those by their test
backs_by : (s : State) (m : Member) (t : State) (d n : ℕ) → put_backs_from (is_put_back s m t) (due t) d n ≡ put_backs s m t d n
unfolding put_backs
backs_by s m t d zero = refl
backs_by s m t d (suc n) =
    ap (λ (r : List Back). if is_put_back s m t d then record { device = d; setting = due t d } ∷ r else r) (backs_by s m t (suc d) n)

-- ---- the device that fails

module _ (h : HubState) (d : ℕ) where
  -- it is down then
  pub up-fails : d < max_devices → length h.up ≡ max_devices → up_of (set h.up d false) ≡ (down_if (state_of h) (Some d)).up
  unfolding state_of
  up-fails i n = rw (lt-ltb d max_devices i) (fun_ext (set-put h.up d false true (omega (arith, i, n))))

  -- there is none
  pub up_stays : max_devices ≤ d → up_of h.up ≡ (down_if (state_of h) (Some d)).up
  unfolding state_of
  up_stays i = rw (le-ltb d max_devices i)

-- while it fails, nothing else of the state is another
fails-up : (s : State) (o : Option ℕ) → with_up s (down_if s o).up ≡ down_if s o
fails-up s None = refl
fails-up s (Some d) =
    by_test (λ (t : Bool). with_up s (if t then down_with s d else s).up ≡ (if t then down_with s d else s)) (ltb d max_devices)
    (λ _. refl) (λ _. refl)

-- ---- the put-backs of the rules, by the tables

module _ (h : HubState) (x : ℕ) (down : Option ℕ) (t : Tables) (a : TablesAre h x down t) where
  -- the state while the device fails
  abbrev failing : State
  failing = with_up (state_of h) (down_if (state_of h) down).up

  -- the test by the tables is that of the rules
  test_by : is_back_by t ≡ is_put_back failing (member_at h x) (leave failing (there h x))
  unfolding is_put_back leave attach due
  test_by =
      λ i. λ d. a.up_is i d && not (a.others_are i d) && (not (same_setting (a.before_is i d) (a.after_is i d)) || a.own_are i d)

  after_by : settings_of t.after ≡ due (leave failing (there h x))
  unfolding leave attach due
  after_by = a.after_is

  -- what an abort puts back
  pub backs_are_by : (l : List Back) → l ≡ put_backs_from (is_back_by t) (settings_of t.after) 0 h.devices →
      l ≡ put_backs_left (down_if (state_of h) down) (there h x)
  unfolding state_of
  backs_are_by l e =
      e
      ∙ (λ j. put_backs_from (test_by j) (after_by j) 0 h.devices)
      ∙ backs_by failing (member_at h x) (leave failing (there h x)) 0 h.devices
      ∙ ap (λ (m : Member). put_backs failing m (leave failing (there h x)) 0 h.devices) (sym (there-it h x))
      ∙ ap (λ (s : State). put_backs_left s (there h x)) (fails-up (state_of h) down)

-- ---- the devices with a command of a routine in flight

-- no entry is set
-- one entry is set
one_set : (f : ℕ → Bool) (i d : ℕ) → f d ≡ false → put f i true d ≡ eqb i d
one_set f i d e = this_or_other (λ (j : ℕ). f j ≡ false → put f i true j ≡ eqb i j) i d
    (λ _. put_same f i true ∙ sym (eq-eqb i i refl))
    (λ n z. put_other f i true d (λ q. n (sym q)) ∙ z ∙ sym (ne_eqb i d n)) e

module _ (h : HubState) (x : ℕ) (v : StateOk h) (s : Stands h.links x) where
  -- the routine's commands in flight are those of its slot
  flies_in : (d : ℕ) → in_flight_on d (member_at h x) ≡ any_of (flies d) (steps_at h x)
  unfolding in_flight_on
  flies_in d = ap (any_of (flies d)) (member_steps h x)

  -- it has none in flight
  not-flying : flight (steps_at h x) ≡ None → flags_of (replicate max_devices false) ≡ (λ d. in_flight_on d (member_at h x))
  not-flying e =
      fun_ext
      (λ d. none-set max_devices d ∙ sym (flies_in d ∙ flights_none (answered_at h x) (steps_at h x) (v.slots_ok x s).come_so_far e d))

  pub own_none : (o : Unanswered) → UnansweredIs h x o → ((j : ℕ) → o ≡ InFlight j → ⊥) →
      flags_of (replicate max_devices false) ≡ (λ d. in_flight_on d (member_at h x))
  own_none Nothing k t = not-flying k.no_flight
  own_none (ToDo j) k t = not-flying k.no_flight
  own_none (InFlight j) k t = absurd (t j refl)

  -- it has one, at k
  module _ (k : ℕ) (o : Unanswered) (e : o ≡ InFlight k) (i : UnansweredIs h x o) where
    unanswered_there : NextInFlight h x k
    unanswered_there = subst (UnansweredIs h x) e i

    pub own_device : get_or h.device k 0 < max_devices
    own_device = subst (λ (d : ℕ). d < max_devices) (step-device (rows_of h) (pos 0) k) unanswered_there.device_fits

    pub own_one : flags_of (set (replicate max_devices false) (get_or h.device k 0) true) ≡ (λ d. in_flight_on d (member_at h x))
    own_one =
        let f = flags_of (replicate max_devices false) in
        let at = get_or h.device k 0 in
        let long : length (replicate max_devices false) ≡ max_devices = length-replicate max_devices false in
        fun_ext
        (λ d. set-put (replicate max_devices false) at true false (omega (arith, own_device, long)) d
        ∙ one_set f at d (none-set max_devices d)
        ∙ ap (λ (j : ℕ). eqb j d) (sym (step-device (rows_of h) (pos 0) k))
        ∙ sym (flies_in d ∙ flights_some (answered_at h x) (steps_at h x) (v.slots_ok x s).come_so_far _ unanswered_there.flight_is d))

-- ---- a decision that was made

-- a call was turned down with a number of the table
pub refused_as : (h : HubState) (cs : List Command) (why : Refusal) (r : Decision) (result : Result) → r ≡ plainly (Refused why) NoChange →
    turned_down why (state_of h) ≡ result → Decides h cs r result
refused_as h cs why r result k e = subst (λ (d : Decision). Decides h cs d result) (sym k) (refused-decides h cs result why e)

-- ---- the ways out of a cancel

module _ (h : HubState) (i : ℕ) (p : Option ℕ) (f : Finds h (runs i) p) where
  pub cancel_nowhere : (r : Decision) → r ≡ plainly (Refused NotRunning) NoChange → p ≡ None → Decides h [] r (cancel_of (state_of h) i)
  unfolding cancel_of
  cancel_nowhere r k e =
      refused_as h [] NotRunning r (cancel_of (state_of h) i) k (sym (ap (cancel_found (state_of h)) (found_as h (runs i) p f None e)))

  pub cancel_aborts : (x : ℕ) (r : Decision) → r ≡ plainly (Aborted i) (Abort x) → p ≡ Some x → Decides h [] r (cancel_of (state_of h) i)
  unfolding cancel_of
  cancel_aborts x r k e =
      let g = found_as h (runs i) p f (Some x) e in
      subst (λ (d : Decision). Decides h [] d (cancel_of (state_of h) i)) (sym k)
      (abort-decides h [] (cancel_of (state_of h) i) i x (stands_at h (runs i) p f x e)
      (found-id h i p f x e ∙ sym (ap (λ (m : Member). m.id) (there-it h x))) (sym (ap (cancel_found (state_of h)) g)))
