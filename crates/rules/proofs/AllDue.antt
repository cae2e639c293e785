-- Laws of the reading of all due settings (specs/AllDue.antt), and `exact-list` of specs/Causes.antt. Assumes nothing.
use Rattle.std.proofs.Common.{Ok, Err}
use Rattle.rules_routine.specs.declared.refusals.Refusal.TheVariants.{NoRoom}
use mathlib.Core.Path.{◌≡◌, refl, sym, ap, ◌∙◌}
use mathlib.Core.Bool.{Bool, true, false}
use mathlib.Core.List.{List, ◌++◌}
use Prim.Native.Nat.{ℕ, zero, suc, ◌+◌, ◌-◌, ◌≤◌, ◌<◌}
use native.Mathlib.Omega.{arith}
use borrow.Author.Tests.{lt-ltb, le-ltb, ltb-true, ltb-false}
use lib.Dec.{ltb}
use lib.IntN.{ℤ, pos}
use lib.ListN.{length, get_or, drop, length-append, length-drop}
use lib.Seq.{get_or-append-add, get_or-drop}
use Rattle.rules_routine.specs.Refusals.{refuse◌when◌}
use Rattle.rules_routine.specs.Causes.{itself}
use Rattle.rules_routine.specs.declared.refusals.Refusal.{Refusal}
use Rattle.rules_routine.proofs.Exact.{less, agree, Outcome, one, exactly}
use Rattle.rules.specs.State.{State}
use Rattle.rules.specs.Due.{due}
use Rattle.rules.specs.AllDue.{settings_from, all_due, list_check, list_after}
use Rattle.rules.specs.Causes.{ListCause, list_is_short, list_causes, ExactListing}

-- ---- the settings of a table as a list

pub length-settings : (table : ℕ → ℤ) (d n : ℕ) → length (settings_from table d n) ≡ n
length-settings table d zero = refl
length-settings table d (suc n) = ap suc (length-settings table (suc d) n)

-- the first n entries of such a list, whatever stands behind them
settings_entry : (table : ℕ → ℤ) (d n k : ℕ) (l : List ℤ) (z : ℤ) → k < n → get_or (settings_from table d n ++ l) k z ≡ table (d + k)
settings_entry table d zero k l z h = absurd (omega arith)
settings_entry table d (suc n) zero l z h = let e : d ≡ d + 0 = omega arith in ap table e
settings_entry table d (suc n) (suc k) l z h =
    let e : suc d + k ≡ d + suc k = omega arith in
    settings_entry table (suc d) n k l z (omega arith) ∙ ap table e

-- ---- the two ways out

module _ (s : State) (list : List ℤ) where
  -- too short
  pub list-refused : length list < s.devices →
      (Err NoRoom ≡ list_check s (length list)) × (list ≡ list_after s list)
  unfolding list_check list_after
  list-refused h = let e = lt-ltb (length list) s.devices h in (rw e refl, rw e refl)

  -- long enough
  pub list-accepted : s.devices ≤ length list → (Ok tt) ≡ list_check s (length list)
  unfolding list_check
  list-accepted h = rw (le-ltb (length list) s.devices h) refl

  -- the list afterwards
  list-is : s.devices ≤ length list → list_after s list ≡ all_due s ++ drop s.devices list
  unfolding list_after
  list-is h = rw (le-ltb (length list) s.devices h) refl

  -- its entries
  pub list_entry : s.devices ≤ length list → (d : ℕ) → d < s.devices → get_or (list_after s list) d (pos 0) ≡ due s d
  unfolding all_due
  list_entry h d below =
      let e : 0 + d ≡ d = omega arith in
      ap (λ (l : List ℤ). get_or l d (pos 0)) (list-is h) ∙ settings_entry (due s) 0 s.devices d _ (pos 0) below ∙ ap (due s) e

  list-rest : s.devices ≤ length list → (d : ℕ) → s.devices ≤ d → get_or (list_after s list) d (pos 0) ≡ get_or list d (pos 0)
  unfolding all_due
  list-rest h d past =
      let n = length-settings (due s) 0 s.devices in
      let e : d ≡ length (settings_from (due s) 0 s.devices) + (d - s.devices) = omega (arith, n) in
      let f : s.devices + (d - s.devices) ≡ d = omega arith in
      ap (λ (l : List ℤ). get_or l d (pos 0)) (list-is h)
      ∙ ap (λ (k : ℕ). get_or (settings_from (due s) 0 s.devices ++ drop s.devices list) k (pos 0)) e
      ∙ get_or-append-add (settings_from (due s) 0 s.devices) (drop s.devices list) (d - s.devices) (pos 0)
      ∙ get_or-drop s.devices list (d - s.devices) (pos 0)
      ∙ ap (λ (k : ℕ). get_or list k (pos 0)) f

  list_length : s.devices ≤ length list → length (list_after s list) ≡ length list
  unfolding all_due
  list_length h =
      let n = length-settings (due s) 0 s.devices in
      let a = length-append (settings_from (due s) 0 s.devices) (drop s.devices list) in
      let d = length-drop s.devices list in
      let e : length (settings_from (due s) 0 s.devices ++ drop s.devices list) ≡ length list = omega (arith, n, a, d) in
      ap length (list-is h) ∙ e

-- ---- 21 under its cause alone, and each entry

list-said : {s : State} {room : ℕ} → ListCause s room NoRoom → room < s.devices
list-said (list_is_short h) = h

list-outcome : (s : State) (room : ℕ) → Outcome (ListCause s room) itself list_causes (list_check s room)
unfolding list_check
list-outcome s room = one (ListCause s room) itself NoRoom _ (agree (less room s.devices) list_is_short list-said)

refused-short : (s : State) (room : ℕ) (r : Refusal) → list_check s room ≡ Err r → room < s.devices
unfolding list_check
refused-short s room r e = go (ltb room s.devices) refl e
  where
    go : (t : Bool) → ltb room s.devices ≡ t → (refuse NoRoom when t) ≡ Err r → room < s.devices
    go true h f = ltb-true room s.devices h
    go false h f = let z : ◌≡◌ {A = ℕ} 0 1 = cc in absurd (omega arith)

accepted-fits : (s : State) (room : ℕ) → list_check s room ≡ Ok tt → s.devices ≤ room
unfolding list_check
accepted-fits s room e = go (ltb room s.devices) refl e
  where
    go : (t : Bool) → ltb room s.devices ≡ t → (refuse NoRoom when t) ≡ Ok tt → s.devices ≤ room
    go true h f = let z : ◌≡◌ {A = ℕ} 0 1 = cc in absurd (omega arith)
    go false h f = ltb-false room s.devices h

-- whether it is too short or not
by_room : (P : Type 0) (n room : ℕ) → (room < n → P) → (n ≤ room → P) → P
by_room P n room short enough = go (ltb room n) refl
  where
    go : (t : Bool) → ltb room n ≡ t → P
    go true e = short (ltb-true room n e)
    go false e = enough (ltb-false room n e)

pub exact-list : ExactListing
exact-list s before after verdict told left =
    let room = length before in
    record {
      exact = exactly (ListCause s room) itself list_causes (list_check s room) (list-outcome s room)
          (λ r e. sym told ∙ e) (λ r e. told ∙ e) (λ e. sym told ∙ e) (λ e. told ∙ e);
      left_as_it_was = λ r e. left ∙ sym (list-refused s before (refused-short s room r (sym told ∙ e))).1;
      each_due = λ e d h. ap (λ (l : List ℤ). get_or l d (pos 0)) left ∙ list_entry s before (accepted-fits s room (sym told ∙ e)) d h;
      rest_untouched = λ d h. ap (λ (l : List ℤ). get_or l d (pos 0)) left
          ∙ by_room (get_or (list_after s before) d (pos 0) ≡ get_or before d (pos 0)) s.devices room
          (λ short. ap (λ (l : List ℤ). get_or l d (pos 0)) (sym (list-refused s before short).1))
          (λ fits. list-rest s before fits d h);
      as_long = ap length left
          ∙ by_room (length (list_after s before) ≡ length before) s.devices room
          (λ short. ap length (sym (list-refused s before short).1))
          (λ fits. list_length s before fits);
    }
