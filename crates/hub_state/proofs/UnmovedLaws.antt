-- Nobody is moved: where nobody joins or leaves, and in two parts of a call. Assumes nothing.
use mathlib.Core.Path.{◌≡◌, refl, sym, ap, subst, ◌∙◌}
use mathlib.Core.List.{List, ◌∷◌}
use Prim.Native.Nat.{ℕ, zero, suc}
use lib.IntN.{ℤ}
use Rattle.rules_routine.specs.declared.Command.{Command}
use Rattle.rules.specs.State.{Member}
use Rattle.rules.specs.Progress.{commands_in}
use Rattle.rules.proofs.Lists.{t≠f}
use Rattle.hub_sequence.specs.Links.{Stands}
use Rattle.hub_sequence.specs.Contract.{Leaves}
use Rattle.hub_sequence.specs.declared.Links.{Links}
use Rattle.hub_sequence.proofs.StayLaws.{by_stands, same_stay, stood, left_gone, leaves_stay, stay_then}
use Rattle.hub_state.specs.View.{Rows, step_at, steps_from, member_at}
use Rattle.hub_state.specs.Valid.{StateOk}
use Rattle.hub_state.specs.Unmoved.{SameRoutine, Unmoved, InPlace, OnlyLeave, LeftCommitted, JoinedRun}
use Rattle.hub_state.specs.declared.HubState.{HubState}
use Rattle.hub_state.proofs.Members.{member_id}
use Rattle.hub_state.proofs.Rows.{with_stages}

-- ---- the same routine

-- the commands stand in the rows, wherever they have come to
pub commands_any : (rows : Rows) (stages : List ℕ) (u v : ℤ) (k n : ℕ) →
    commands_in (steps_from (with_stages rows stages) v k n) ≡ commands_in (steps_from rows u k n)
unfolding step_at
commands_any rows stages u v k zero = refl
commands_any rows stages u v k (suc n) =
    ap (λ (l : List Command). (step_at rows u k).command ∷ l) (commands_any rows stages u v (suc k) n)

pub same-routine_as : {m n : Member} → n ≡ m → SameRoutine m n
same-routine_as e =
    record { same_id = ap (λ (x : Member). x.id) e; same_commands = ap (λ (x : Member). commands_in x.steps) e }

-- ---- a slot that is taken before and after tells where each routine is, if nobody joins

module _ (h r : HubState) (v : StateOk h) (o : (x : ℕ) → Stands r.links x → Stands h.links x)
    (s : (x : ℕ) → Stands h.links x → Stands r.links x → SameRoutine (member_at h x) (member_at r x))
  where
    pub still_there : (x y : ℕ) → Stands h.links x → Stands r.links y → (member_at r y).id ≡ (member_at h x).id → x ≡ y
    still_there x y t u e =
        v.ids_differ x y t (o y u) (sym (member_id h x) ∙ sym e ∙ (s y (o y u) u).same_id ∙ member_id h y)

pub in_place-leaves : (h r : HubState) → StateOk h → InPlace h r → OnlyLeave h r
in_place-leaves h r v p =
    let o : (x : ℕ) → Stands r.links x → Stands h.links x = λ x. subst (λ (k : Links). Stands k x) p.links in
    record {
      unmoved = record {
        same_slot = still_there h r v o (λ x t _. p.routines x t);
        same_routine = λ x t _. p.routines x t;
        links = same_stay h.links r.links p.links;
      };
      taken_before = o;
    }

pub in_place : (h r : HubState) → StateOk h → InPlace h r → Unmoved h r
in_place h r v p = (in_place-leaves h r v p).unmoved

pub itself_in_place : (h : HubState) → InPlace h h
itself_in_place h = record { links = refl; routines = λ x _. same-routine_as refl }

-- ---- one leaves

pub leaves_only : (h : HubState) (at : ℕ) (r : HubState) → StateOk h → Stands h.links at → Leaves h.links at r.links →
    ((x : ℕ) → Stands h.links x → (x ≡ at → ⊥) → SameRoutine (member_at h x) (member_at r x)) → OnlyLeave h r
leaves_only h at r v s e p =
    let o = stood h.links at r.links v.links_ok s e in
    let q : (x : ℕ) → Stands h.links x → Stands r.links x → SameRoutine (member_at h x) (member_at r x)
    = λ x t u. p x t (λ i. left_gone h.links at r.links v.links_ok s e (subst (Stands r.links) i u)) in
    record {
      unmoved = record {
        same_slot = still_there h r v o q;
        same_routine = q;
        links = leaves_stay h.links at r.links v.links_ok s e;
      };
      taken_before = o;
    }

-- ---- one part after the other

same-routine_then : {a b c : Member} → SameRoutine a b → SameRoutine b c → SameRoutine a c
same-routine_then p q = record { same_id = q.same_id ∙ p.same_id; same_commands = q.same_commands ∙ p.same_commands }

pub unmoved_then : (h m r : HubState) → Unmoved h m → OnlyLeave m r →
    ((x : ℕ) → Stands m.links x → (Stands h.links x → ⊥) → Stands r.links x) → Unmoved h r
unmoved_then h m r p q j = record {
  same_slot = λ x y t u e.
      p.same_slot x y t (q.taken_before y u) (sym (q.unmoved.same_routine y (q.taken_before y u) u).same_id ∙ e);
  same_routine = λ x t u.
      let w = q.taken_before x u in
      same-routine_then (p.same_routine x t w) (q.unmoved.same_routine x w u);
  links = stay_then h.links m.links r.links j q.taken_before p.links q.unmoved.links;
}

pub leave_then : (h m r : HubState) → OnlyLeave h m → OnlyLeave m r → OnlyLeave h r
leave_then h m r p q = record {
  unmoved = unmoved_then h m r p.unmoved q (λ x s t. absurd (t (p.taken_before x s)));
  taken_before = λ x s. p.taken_before x (q.taken_before x s);
}

-- who joins runs, and who settles is committed
pub settle_then : (h m r : HubState) → Unmoved h m → JoinedRun h m → OnlyLeave m r → LeftCommitted m r → Unmoved h r
settle_then h m r p j q c =
    unmoved_then h m r p q (λ x s t. by_stands r.links x (λ u. u) (λ u. t≠f (sym (c x s u) ∙ j x s t)))

-- where nobody joins
pub none-joined : (h r : HubState) → OnlyLeave h r → JoinedRun h r
none-joined h r p x s t = absurd (t (p.taken_before x s))
