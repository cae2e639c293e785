-- Commands by their places in the rows: what a device is due after them. Neither a tag counts nor the due setting of one in flight. Assumes
-- nothing.
use mathlib.Core.Path.{◌≡◌, refl, sym, ap, ◌∙◌}
use mathlib.Core.Bool.{Bool, true, false, ◌&&◌, and-true, and-false}
use mathlib.Core.List.{List}
use Prim.Native.Nat.{ℕ, zero, suc, ◌+◌, ◌-◌, ◌≤◌, ◌<◌}
use native.Mathlib.Omega.{arith}
use borrow.Author.Tests.{eq-eqb, ne_eqb}
use lib.Dec.{eqb}
use lib.IntN.{ℤ, pos}
use lib.ListN.{length, get_or, set, length-set}
use Rattle.std.specs.Prelude.{if◌then◌else◌}
use Rattle.rules_routine.specs.Limits.{max_devices}
use Rattle.rules.specs.Due.{after_steps}
use Rattle.rules.proofs.Lists.{eqb_sym}
use Rattle.hub_state.specs.View.{settings_of, Rows, step_at, steps_from, done_code}
use Rattle.hub_state.proofs.Rows.{done-code}
use Rattle.hub_due.specs.Contract.{BehindLastDone, AfterDone}
use Rattle.hub_due.proofs.Tables.{set-put}

-- ---- what a device is due

module _ (device stage : List ℕ) where
  -- Is the command at a place on the device, and done?
  abbrev pub done_on : ℕ → ℕ → Bool
  done_on d k = eqb (get_or device k 0) d && eqb (get_or stage k 0) done_code

  module _ (d k : ℕ) where
    pub place-done : get_or device k 0 ≡ d → get_or stage k 0 ≡ done_code → done_on d k ≡ true
    place-done e f = rw (eq-eqb (get_or device k 0) d e, eq-eqb (get_or stage k 0) done_code f)

    -- of a done command the device decides
    place-device : get_or stage k 0 ≡ done_code → done_on d k ≡ eqb d (get_or device k 0)
    place-device e = rw (eq-eqb (get_or stage k 0) done_code e) (and-true (eqb (get_or device k 0) d)) ∙ eqb_sym (get_or device k 0) d

    pub place_other : (get_or device k 0 ≡ d → ⊥) → done_on d k ≡ false
    place_other n = rw (ne_eqb (get_or device k 0) d n)

    pub place-not-done : (get_or stage k 0 ≡ done_code → ⊥) → done_on d k ≡ false
    place-not-done n = rw (ne_eqb (get_or stage k 0) done_code n) (and-false (eqb (get_or device k 0) d))

module _ (device stage : List ℕ) (setting : List ℤ) where
  -- The rows, with some tags.
  abbrev pub rows_with : List ℕ → Rows
  rows_with tags = record { devices = device; tags = tags; settings = setting; stages = stage }

  -- What a device is due after the command at a place, v before it.
  abbrev pub after_place : ℕ → ℕ → ℤ → ℤ
  after_place d k v = if done_on device stage d k then get_or setting k (pos 0) else v

  -- And after n of them.
  abbrev pub after_places : ℕ → ℕ → ℕ → ℤ → ℤ
  after_places d k zero v = v
  after_places d k (suc n) v = after_places d (suc k) n (after_place d k v)

  -- they are the commands of the rows
  pub after-places : (tags : List ℕ) (u : ℤ) (d k n : ℕ) (v : ℤ) → after_steps d (steps_from (rows_with tags) u k n) v ≡ after_places d k n v
  unfolding step_at
  after-places tags u d k zero v = refl
  after-places tags u d k (suc n) v =
      ap
      (λ (t : Bool). after_steps d (steps_from (rows_with tags) u (suc k) n)
      (if eqb (get_or device k 0) d && t then get_or setting k (pos 0) else v))
      (done-code (get_or stage k 0) u)
      ∙ after-places tags u d (suc k) n (after_place d k v)

  -- ---- from the last on

  -- the last one decides
  places_last : (d k n : ℕ) (v : ℤ) → after_places d k (suc n) v ≡ after_place d (k + n) (after_places d k n v)
  places_last d k zero v = let e : k + 0 ≡ k = omega arith in rw e
  places_last d k (suc n) v = let e : k + suc n ≡ suc k + n = omega arith in rw e (places_last d (suc k) n (after_place d k v))

  module _ (d from k : ℕ) (v : ℤ) (h : from < k) where
    back-place : after_places d from (k - from) v ≡ after_place d (k - 1) (after_places d from (k - 1 - from) v)
    back-place =
        let e : k - from ≡ suc (k - 1 - from) = omega arith in
        let f : from + (k - 1 - from) ≡ k - 1 = omega arith in
        rw (e) (places_last d from (k - 1 - from) v ∙ ap (λ (j : ℕ). after_place d j (after_places d from (k - 1 - from) v)) f)

    pub back_hit : done_on device stage d (k - 1) ≡ true → after_places d from (k - from) v ≡ get_or setting (k - 1) (pos 0)
    back_hit t = back-place ∙ rw t

    pub back_miss : done_on device stage d (k - 1) ≡ false → after_places d from (k - from) v ≡ after_places d from (k - 1 - from) v
    back_miss t = back-place ∙ rw t

-- ---- the last done command on a device

-- A search from the end on has come to k: those from k on leave the device as it was.
pub record NoneFrom (device stage : List ℕ) (from end d k : ℕ) : Type 0 where
  pub same : (setting : List ℤ) (v : ℤ) →
      after_places device stage setting d from (end - from) v ≡ after_places device stage setting d from (k - from) v

module _ {device stage : List ℕ} {from end d : ℕ} where
  pub none_yet : NoneFrom device stage from end d end
  none_yet = record { same = λ setting v. refl }

  module _ {k : ℕ} (n : NoneFrom device stage from end d k) where
    none_more : from < k → done_on device stage d (k - 1) ≡ false → NoneFrom device stage from end d (k - 1)
    none_more h t = record { same = λ setting v. n.same setting v ∙ back_miss device stage setting d from k v h t }

    -- the command before is on another device, or not done
    pub other_more : from < k → (get_or device (k - 1) 0 ≡ d → ⊥) → NoneFrom device stage from end d (k - 1)
    other_more h m = none_more h (place_other device stage d (k - 1) m)

    pub not-done-more : from < k → (get_or stage (k - 1) 0 ≡ done_code → ⊥) → NoneFrom device stage from end d (k - 1)
    not-done-more h m = none_more h (place-not-done device stage d (k - 1) m)

    -- it is done on the device
    pub last_found : from < k → k ≤ end → get_or device (k - 1) 0 ≡ d → get_or stage (k - 1) 0 ≡ done_code →
        BehindLastDone device stage from end d k
    last_found h i p q =
        record {
          within = (omega arith, i);
          none_left = λ e. absurd (omega arith);
          last_is =
              λ j e l tags setting u v. let f : k - 1 ≡ j = omega arith in
              after-places device stage setting tags u d from (end - from) v
              ∙ n.same setting v
              ∙ back_hit device stage setting d from k v h (place-done device stage d (k - 1) p q)
              ∙ ap (λ (i : ℕ). get_or setting i (pos 0)) f;
        }

    -- no command is left
    pub last_none : from ≤ end → k ≤ from → BehindLastDone device stage from end d from
    last_none h i =
        record {
          within = (omega arith, h);
          none_left =
              λ e tags setting u v. let f : k - from ≡ 0 = omega arith in
              after-places device stage setting tags u d from (end - from) v
              ∙ n.same setting v
              ∙ ap (λ (j : ℕ). after_places device stage setting d from j v) f;
          last_is = λ j e l. absurd (omega arith);
        }

-- ---- all devices

-- A table of which the commands before k are part: those from k on leave each device as all leave it.
pub record DoneTo (device stage : List ℕ) (setting : List ℤ) (from end : ℕ) (table : List ℤ) (k : ℕ) (after : List ℤ) : Type 0 where
  pub long : length after ≡ max_devices
  pub same :
      (d : ℕ) → after_places device stage setting d k (end - k) (settings_of after d) ≡ after_places device stage setting d from (end - from)
      (settings_of table d)

module _ {device stage : List ℕ} {setting : List ℤ} {from end : ℕ} {table : List ℤ} {k : ℕ} {after : List ℤ}
    (t : DoneTo device stage setting from end table k after) where
  -- no command is left
  pub done_all : end ≤ k → AfterDone table device stage setting from end after
  done_all h tags u d =
      let e : end - k ≡ 0 = omega arith in
      sym (ap (λ (n : ℕ). after_places device stage setting d k n (settings_of after d)) e)
      ∙ t.same d
      ∙ sym (after-places device stage setting tags u d from (end - from) (settings_of table d))

  module _ (h : k < end) where
    places_first : (d : ℕ) (v : ℤ) →
        after_places device stage setting d (k + 1) (end - (k + 1))
        (after_place device stage setting d k v) ≡ after_places device stage setting d k (end - k) v
    places_first d v =
        let e : suc (end - (k + 1)) ≡ end - k = omega arith in
        let f : k + 1 ≡ suc k = omega arith in
        ap (λ (j : ℕ). after_places device stage setting d j (end - (k + 1)) (after_place device stage setting d k v)) f
        ∙ ap (λ (n : ℕ). after_places device stage setting d k n v) e

    done_next : (next : List ℤ) → length next ≡ length after →
        ((d : ℕ) → settings_of next d ≡ after_place device stage setting d k (settings_of after d)) →
        DoneTo device stage setting from end table (k + 1) next
    done_next next l e =
        record {
          long = l ∙ t.long;
          same = λ d. ap (after_places device stage setting d (k + 1) (end - (k + 1))) (e d) ∙ places_first d (settings_of after d)
              ∙ t.same d;
        }

    -- the next is done: its device gets its setting
    pub done_store : {next : List ℤ} → next ≡ set after (get_or device k 0) (get_or setting k (pos 0)) → get_or stage k 0 ≡ done_code →
        get_or device k 0 < max_devices →
        DoneTo device stage setting from end table (k + 1) next
    done_store {next} q e i =
        done_next next (ap length q ∙ length-set after (get_or device k 0) (get_or setting k (pos 0)))
        (λ d. ap (λ (l : List ℤ). settings_of l d) q
        ∙ set-put after (get_or device k 0) (get_or setting k (pos 0)) (pos 0) (omega (arith, i, t.long)) d
        ∙ ap (λ (t : Bool). if t then get_or setting k (pos 0) else settings_of after d) (sym (place-device device stage d k e)))

    -- it is not
    pub done_keep : {next : List ℤ} → next ≡ after → (get_or stage k 0 ≡ done_code → ⊥) →
        DoneTo device stage setting from end table (k + 1) next
    done_keep {next} q n =
        done_next next (ap length q)
        (λ d. ap (λ (l : List ℤ). settings_of l d) q
        ∙ ap (λ (t : Bool). if t then get_or setting k (pos 0) else settings_of after d) (sym (place-not-done device stage d k n)))
