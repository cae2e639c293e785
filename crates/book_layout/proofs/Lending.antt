-- Routines that are lent as counts and rows are those routines again; and what is written was lent whole. Assumes nothing.
use Rattle.std.proofs.Common.{Ok}
use Prim.Native.Nat.{ℕ, zero, suc, ◌+◌, ◌<◌}
use mathlib.Core.Path.{◌≡◌, refl, sym, ap, ap₂, subst, ◌∙◌}
use mathlib.Core.Bool.{Bool}
use mathlib.Core.List.{List, [], ◌∷◌, ◌++◌, map, append_assoc, map-append}
use native.Mathlib.Omega.{arith}
use borrow.Author.Tests.{ltb-true, ltb-false, leb-true}
use lib.Dec.{ltb}
use lib.IntN.{ℤ}
use lib.Signed.{mag}
use lib.ListN.{length, take, drop, get_or, length-append, length-map, get_or-eq_default}
use lib.Seq.{drop-cons, take_at}
use Rattle.rules_routine.specs.Limits.{highest_setting}
use Rattle.rules_routine.specs.Range.{in_range}
use Rattle.rules_routine.specs.Routine.{command_check, commands_check, routine_check}
use Rattle.rules_routine.specs.declared.Command.{Command}
use Rattle.rules_routine.proofs.RoutineLaws.{both_accept, by_test, in_range_pos, command-accepted, commands-accepted, check_accepted}
use Rattle.book_layout.specs.Layout.{book_devices, book_bytes}
use Rattle.book_layout.specs.Writing.{missing_device, missing_tag, missing_setting, command_lent, commands_lent, routines_from}
use Rattle.book_layout.specs.Writing.{row_of, counts_of, devices_of, tags_of, settings_of, routines_check, write_check, written_of}
use Rattle.book_layout.specs.Claims.{LentAgain, WrittenWhole}
use Rattle.book_layout.proofs.RoundTrip.{written-accepted}

-- What stands at a place of a list, and behind it.
pub first-there : {A : Type 0} (l r : List A) (a d : A) (at : ℕ) → drop at l ≡ a ∷ r → get_or l at d ≡ a
first-there [] r a d zero e = let z : ◌≡◌ {A = ℕ} 0 1 = cc in absurd (omega arith)
first-there [] r a d (suc at) e = let z : ◌≡◌ {A = ℕ} 0 1 = cc in absurd (omega arith)
first-there (y ∷ l) r a d zero e = cc
first-there (y ∷ l) r a d (suc at) e = first-there l r a d at e

pub rest-there : {A : Type 0} (l r : List A) (a : A) (at : ℕ) → drop at l ≡ a ∷ r → drop (suc at) l ≡ r
rest-there [] r a zero e = let z : ◌≡◌ {A = ℕ} 0 1 = cc in absurd (omega arith)
rest-there [] r a (suc at) e = let z : ◌≡◌ {A = ℕ} 0 1 = cc in absurd (omega arith)
rest-there (y ∷ l) r a zero e = cc
rest-there (y ∷ l) r a (suc at) e = rest-there l r a at e

-- Three slices hold, from a place on, the parts of these commands, and then x, y, z.
pub record Lends (ds ts x y : List ℕ) (ss z : List ℤ) (at : ℕ) (cs : List Command) : Type 0 where
  pub devices : drop at ds ≡ map (λ (c : Command). c.device) cs ++ x
  pub tags : drop at ts ≡ map (λ (c : Command). c.tag) cs ++ y
  pub settings : drop at ss ≡ map (λ (c : Command). c.setting) cs ++ z

module _ (ds ts x y : List ℕ) (ss z : List ℤ) where
  -- The first of the commands is lent there, and the others behind it;
  lends_first : (at : ℕ) (c : Command) (cs : List Command) → Lends ds ts x y ss z at (c ∷ cs) → command_lent ds ts ss at ≡ c
  lends_first at c cs h =
      let d = first-there ds _ c.device missing_device at h.devices in
      let t = first-there ts _ c.tag missing_tag at h.tags in
      let s = first-there ss _ c.setting missing_setting at h.settings in
      λ i. record { device = d i; tag = t i; setting = s i }

  lends_rest : (at : ℕ) (c : Command) (cs : List Command) → Lends ds ts x y ss z at (c ∷ cs) → Lends ds ts x y ss z (suc at) cs
  lends_rest at c cs h = record {
    devices = rest-there ds _ c.device at h.devices;
    tags = rest-there ts _ c.tag at h.tags;
    settings = rest-there ss _ c.setting at h.settings;
  }

  -- so the commands of a routine, and those of the routines behind it.
  commands-again : (at : ℕ) (r more : List Command) → Lends ds ts x y ss z at (r ++ more) →
      (commands_lent ds ts ss at (length r) ≡ r) × Lends ds ts x y ss z (at + length r) more
  commands-again at [] more h = let e : at ≡ at + 0 = omega arith in (refl, subst (λ (p : ℕ). Lends ds ts x y ss z p more) e h)
  commands-again at (c ∷ r) more h =
      let e : suc at + length r ≡ at + suc (length r) = omega arith in
      let k = commands-again (suc at) r more (lends_rest at c (r ++ more) h) in
      (ap₂ ◌∷◌ (lends_first at c (r ++ more) h) k.0, subst (λ (p : ℕ). Lends ds ts x y ss z p more) e k.1)

  routines-again : (at : ℕ) (rs : List (List Command)) → Lends ds ts x y ss z at (row_of rs) → routines_from ds ts ss at (counts_of rs) ≡ rs
  routines-again at [] h = refl
  routines-again at (r ∷ rs) h =
      let k = commands-again at r (row_of rs) h in
      ap₂ ◌∷◌ k.0 (routines-again (at + length r) rs k.1)

pub lent_again : LentAgain
lent_again rs x y z =
    routines-again (devices_of rs ++ x) (tags_of rs ++ y) x y (settings_of rs ++ z) z 0 rs (record {
      devices = refl;
      tags = refl;
      settings = refl;
    })

-- ---- what is written was lent whole

-- A place is inside a list if something else than the value past the end stands there.
inside : {A : Type 0} (l : List A) (at : ℕ) (d : A) → (get_or l at d ≡ d → ⊥) → at < length l
inside l at d h =
    by_test (λ (t : Bool). ltb at (length l) ≡ t → at < length l) (ltb at (length l)) (λ _ e. ltb-true at (length l) e)
    (λ _ e. absurd (h (get_or-eq_default l d (ltb-false at (length l) e))))
    refl

module _ (ds ts : List ℕ) (ss : List ℤ) where
  -- No command that passes has a part that is not lent.
  device-lent : (j at : ℕ) → command_check book_devices j (command_lent ds ts ss at) ≡ Ok tt → at < length ds
  device-lent j at e = let a = command-accepted book_devices j (command_lent ds ts ss at) e in inside ds at missing_device (λ m. omega arith)

  setting-lent : (j at : ℕ) → command_check book_devices j (command_lent ds ts ss at) ≡ Ok tt → at < length ss
  setting-lent j at e =
      let a = command-accepted book_devices j (command_lent ds ts ss at) e in
      inside ss at missing_setting (λ m.
      let far = leb-true (mag missing_setting) (mag highest_setting) (sym (in_range_pos (mag missing_setting)) ∙ ap in_range (sym m) ∙ a.1) in
      omega arith)

  tag_lent : (j at : ℕ) → command_check book_devices j (command_lent ds ts ss at) ≡ Ok tt → at < length ts
  tag_lent j at e = let a = command-accepted book_devices j (command_lent ds ts ss at) e in inside ts at missing_tag (λ m. omega arith)

  -- These commands are lent from a place up to another.
  abbrev LendsTo : ℕ → ℕ → List Command → Type 0
  LendsTo at to cs = Lends ds ts (drop to ds) (drop to ts) ss (drop to ss) at cs

  lends_none : (at : ℕ) → LendsTo at at []
  lends_none at = record { devices = refl; tags = refl; settings = refl }

  lends_one : (j at to : ℕ) (cs : List Command) → command_check book_devices j (command_lent ds ts ss at) ≡ Ok tt → LendsTo (suc at) to cs →
      LendsTo at to (command_lent ds ts ss at ∷ cs)
  lends_one j at to cs e h = record {
    devices = drop-cons ds at missing_device (device-lent j at e) ∙ ap (λ (l : List ℕ). get_or ds at missing_device ∷ l) h.devices;
    tags = drop-cons ts at missing_tag (tag_lent j at e) ∙ ap (λ (l : List ℕ). get_or ts at missing_tag ∷ l) h.tags;
    settings = drop-cons ss at missing_setting (setting-lent j at e) ∙ ap (λ (l : List ℤ). get_or ss at missing_setting ∷ l) h.settings;
  }

  lends_both : (at mid to : ℕ) (cs more : List Command) → LendsTo at mid cs → LendsTo mid to more → LendsTo at to (cs ++ more)
  lends_both at mid to cs more h k =
      let hd = h.devices in let kd = k.devices in let ht = h.tags in let kt = k.tags in let hs = h.settings in let ks = k.settings in
      record {
        devices = simp (map-append, append_assoc) (cc);
        tags = simp (map-append, append_assoc) (cc);
        settings = simp (map-append, append_assoc) (cc);
      }

  commands_whole : (j at n : ℕ) → commands_check book_devices j (commands_lent ds ts ss at n) ≡ Ok tt →
      LendsTo at (at + n) (commands_lent ds ts ss at n)
  commands_whole j at zero e = let z : at ≡ at + 0 = omega arith in subst (λ (p : ℕ). LendsTo at p []) z (lends_none at)
  commands_whole j at (suc n) e =
      let a = commands-accepted book_devices j (command_lent ds ts ss at) _ e in
      let p : suc at + n ≡ at + suc n = omega arith in
      lends_one j at (at + suc n) (commands_lent ds ts ss (suc at) n) a.0
      (subst (λ (q : ℕ). LendsTo (suc at) q (commands_lent ds ts ss (suc at) n)) p (commands_whole (suc j) (suc at) n a.2))

  -- So for a routine that passes, and for routines.
  pub routine_whole : (at n : ℕ) → routine_check book_devices (commands_lent ds ts ss at n) ≡ Ok tt →
      LendsTo at (at + n) (commands_lent ds ts ss at n)
  routine_whole at n e = commands_whole 0 at n (check_accepted book_devices (commands_lent ds ts ss at n) e).2

  pub length-lent : (at n : ℕ) → length (commands_lent ds ts ss at n) ≡ n
  length-lent at zero = refl
  length-lent at (suc n) = ap suc (length-lent (suc at) n)

  routines_whole : (at : ℕ) (ns : List ℕ) → routines_check (routines_from ds ts ss at ns) ≡ Ok tt →
      LendsTo at (at + length (row_of (routines_from ds ts ss at ns))) (row_of (routines_from ds ts ss at ns))
  unfolding routines_check
  routines_whole at [] e = let z : at ≡ at + 0 = omega arith in subst (λ (p : ℕ). LendsTo at p []) z (lends_none at)
  routines_whole at (n ∷ ns) e =
      let r = commands_lent ds ts ss at n in
      let more = row_of (routines_from ds ts ss (at + n) ns) in
      let a = both_accept (routine_check book_devices r) _ e in
      let p : at + n + length more ≡ at + length (r ++ more) = omega (arith, length-append r more, length-lent at n) in
      lends_both at (at + n) (at + length (r ++ more)) r more (routine_whole at n a.0)
      (subst (λ (q : ℕ). LendsTo (at + n) q more) p (routines_whole (at + n) ns a.1))

  counts_same : (at : ℕ) (ns : List ℕ) → counts_of (routines_from ds ts ss at ns) ≡ ns
  counts_same at [] = refl
  counts_same at (n ∷ ns) = ap₂ ◌∷◌ (length-lent at n) (counts_same (at + n) ns)

-- The first of a list are those that it is put together from.
first_are : {A : Type 0} (f : Command → A) (cs : List Command) (l r : List A) → l ≡ map f cs ++ r → map f cs ≡ take (length cs) l
first_are f cs l r e = sym (ap (take (length cs)) e ∙ take_at (map f cs) r (length cs) (length-map cs f))

pub written_whole : WrittenWhole
unfolding written_of write_check
written_whole ns ds ts ss = (
  counts_same ds ts ss 0 ns,
  λ room n e.
      let rs = routines_from ds ts ss 0 ns in
      let w = written-accepted (write_check rs room) (book_bytes rs) n e in
      let h = routines_whole ds ts ss 0 ns (both_accept (routines_check rs) _ w.0).0 in (
        first_are (λ (c : Command). c.device) (row_of rs) ds _ h.devices,
        first_are (λ (c : Command). c.tag) (row_of rs) ts _ h.tags,
        first_are (λ (c : Command). c.setting) (row_of rs) ss _ h.settings,
      ),
)
