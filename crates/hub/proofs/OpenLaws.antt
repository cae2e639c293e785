-- Laws for the proofs of the opening. Assumes nothing.
use Rattle.std.proofs.Common.{Ok, Err}
use Rattle.rules_routine.specs.declared.refusals.Refusal.TheVariants.{DevicesOutOfRange, FirstIdZero}
use mathlib.Core.Path.{◌≡◌, refl, sym, ap, ◌∙◌, subst}
use mathlib.Core.Bool.{true, false}
use mathlib.Core.List.{map}
use Prim.Native.Nat.{ℕ, zero, suc, ◌*◌, ◌<◌, ◌≤◌}
use native.Mathlib.Omega.{arith}
use borrow.Author.Tests.{ltb-false, eq-eqb, ne_eqb, eqb-false}
use lib.Dec.{eqb, ltb}
use lib.IntN.{pos}
use lib.ListN.{replicate, get_or}
use Rattle.rules_routine.specs.Refusals.{refuse◌when◌, ◌and_then◌, Verdict}
use Rattle.rules_routine.specs.Limits.{max_devices, max_commands, highest_id, max_sequence}
use Rattle.rules_routine.specs.declared.refusals.Refusal.{Refusal}
use Rattle.rules_routine.proofs.RoutineLaws.{both_accept, not-refused, or-false}
use Rattle.rules.specs.Open.{devices_check, limit_check, open_check, new_hub, closed_hub, open_if, open_of}
use Rattle.rules.specs.Limit.{new_limit_check}
use Rattle.rules.specs.Calls.{StaysClosed}
use Rattle.rules.proofs.Closed.{closed_stays}
use Rattle.hub_sequence.specs.Lists.{count}
use Rattle.hub_sequence.specs.Links.{slots_of}
use Rattle.hub_sequence.specs.Contract.{Empty}
use Rattle.hub_sequence.specs.declared.Links.{Links}
use Rattle.hub_state.specs.View.{first_committed, member_at, members_of, state_of}
use Rattle.hub_state.specs.Valid.{StateOk}
use Rattle.hub_state.specs.declared.HubState.{HubState}
use Rattle.hub.specs.View.{view}
use Rattle.hub.specs.Valid.{Valid}
use Rattle.hub.specs.Contract.{Opens}
use Rattle.hub.specs.declared.Hub.{Hub}
use Rattle.hub.specs.declared.Opened.{Opened}

-- a list of one value has it everywhere
all_same : {A : Type 0} (n : ℕ) (v : A) (d : ℕ) → get_or (replicate n v) d v ≡ v
all_same zero v d = refl
all_same (suc n) v zero = refl
all_same (suc n) v (suc d) = all_same n v d

-- what calls on the hub of no devices come to
pub stays_closed : (h : Hub) → view h ≡ closed_hub → StaysClosed (view h)
stays_closed h e = subst StaysClosed (sym e) closed_stays

module _ (n k first : ℕ) where
  -- 1 and 2 are tested together, then 3
  open_then : (v : Verdict) → new_limit_check n k ≡ v → open_check n k first ≡ (v and_then refuse FirstIdZero when eqb first 0)
  unfolding open_check
  open_then v e =
      grouped (devices_check n) (limit_check k) (refuse FirstIdZero when eqb first 0)
      ∙ ap (λ (x : Verdict). x and_then refuse FirstIdZero when eqb first 0) e
    where
      grouped : (x y z : Verdict) → (x and_then y and_then z) ≡ ((x and_then y) and_then z)
      grouped (Ok tt) y z = refl
      grouped (Err r) y z = refl

  -- one law for each way out of the check
  pub open_out : (r : Refusal) → new_limit_check n k ≡ Err r → open_check n k first ≡ Err r
  open_out r e = open_then (Err r) e

  pub open_first-id : new_limit_check n k ≡ Ok tt → first ≡ 0 → open_check n k first ≡ Err FirstIdZero
  open_first-id e f = open_then (Ok tt) e ∙ simp (eq-eqb first 0 f)

  pub open_fine : new_limit_check n k ≡ Ok tt → 0 < first → open_check n k first ≡ Ok tt
  open_fine e f = open_then (Ok tt) e ∙ simp (ne_eqb first 0 (λ e. omega arith))

  -- an accepted opening has these in range
  pub open_fits : open_check n k first ≡ Ok tt → (n ≤ max_devices) × (0 < first)
  unfolding open_check
  open_fits e =
      let id = refuse FirstIdZero when eqb first 0 in
      let a = both_accept (devices_check n) (limit_check k and_then id) e in
      let b = both_accept (limit_check k) id a.1 in
      let m = ltb-false max_devices n (or-false (eqb n 0) (ltb max_devices n) (not-refused DevicesOutOfRange _ a.0)).1 in
      let f = eqb-false first 0 (not-refused FirstIdZero _ b.1) in
      (m, omega (arith, f))

  -- the state of the hub that is made
  abbrev pub fresh_state : Links → HubState
  fresh_state links = record {
    devices = n;
    pass_limit = k;
    next_id = first;
    links = links;
    ids = replicate max_sequence 0;
    passed = replicate max_sequence 0;
    committed = replicate max_sequence false;
    counts = replicate max_sequence 0;
    answered = replicate max_sequence 0;
    due_then = replicate max_sequence (pos 0);
    device = replicate (max_sequence * max_commands) 0;
    tag = replicate (max_sequence * max_commands) 0;
    setting = replicate (max_sequence * max_commands) (pos 0);
    stage = replicate (max_sequence * max_commands) 0;
    restarts = replicate (max_sequence * max_devices) (pos 0);
    settled_at = replicate max_devices (pos 0);
    up = replicate max_devices true;
    mark = replicate max_devices 0;
  }

  pub fresh-valid : (links : Links) → n ≤ max_devices → 0 < first → first ≤ suc highest_id → Empty links → StateOk (fresh_state links)
  fresh-valid links m f g e = record {
    devices_fit = m;
    some_id = f;
    ids_fit = g;
    links_ok = e.valid;
    slots_ok = λ x s. let z : count x (slots_of links) ≡ 0 = ap (count x) e.slots in absurd (omega arith);
    ids_below = λ x s. let z : count x (slots_of links) ≡ 0 = ap (count x) e.slots in absurd (omega arith);
    ids_differ = λ x y s t i. let z : count x (slots_of links) ≡ 0 = ap (count x) e.slots in absurd (omega arith);
  }

  pub fresh-view : (links : Links) → Empty links → state_of (fresh_state links) ≡ new_hub n k first
  unfolding state_of new_hub members_of
  fresh-view links e = λ i. record {
    devices = n;
    pass_limit = k;
    next_id = first;
    sequence = map (member_at (fresh_state links)) (e.slots i);
    settled_at = λ d. all_same max_devices (pos 0) d i;
    up = λ d. all_same max_devices true d i;
    mark = λ d. all_same max_devices 0 d i;
  }

  pub new_rests : first_committed (new_hub n k first).sequence ≡ false
  unfolding new_hub
  new_rests = refl

  -- what is answered
  pub opens : (o : Opened) → o.verdict ≡ open_check n k first → o.verdict ≡ Ok tt → Valid o.hub → view o.hub ≡ new_hub n k first →
      Opens n k first o
  unfolding open_of
  opens o c e v w = record {
    valid = v;
    gives = λ i. open_if (c i) (w i);
    no_hub = λ r t. let z : ◌≡◌ {A = ℕ} 0 1 = cc in absurd (omega arith);
  }

  pub opens_not : (o : Opened) (r : Refusal) → o.verdict ≡ open_check n k first → o.verdict ≡ Err r → Valid o.hub →
      view o.hub ≡ closed_hub → Opens n k first o
  unfolding open_of
  opens_not o r c e v w = record {
    valid = v;
    gives = ap (λ (d : Verdict). open_if d (view o.hub)) e ∙ sym (ap (λ (d : Verdict). open_if d (new_hub n k first)) (sym c ∙ e));
    no_hub = λ s t. (w, stays_closed o.hub w);
  }
