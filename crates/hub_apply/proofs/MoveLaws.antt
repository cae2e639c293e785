-- The commands of one slot change: its routine becomes another, and all others stay. Assumes nothing.
use Prim.Native.Nat.{ℕ, ◌+◌, ◌*◌, ◌≤◌, ◌<◌}
use native.Mathlib.Omega.{arith}
use mathlib.Core.Path.{◌≡◌, refl, sym, subst}
use mathlib.Core.List.{List, ◌∷◌, ◌++◌}
use lib.IntN.{ℤ, pos}
use lib.ListN.{get_or}
use Rattle.rules_routine.specs.Limits.{max_commands}
use Rattle.rules.specs.State.{Step}
use Rattle.rules.specs.Tables.{Each}
use Rattle.rules.specs.Progress.{with_steps}
use Rattle.hub_sequence.specs.Links.{Stands}
use Rattle.hub_sequence.proofs.Tables.{by_eq}
use Rattle.hub_state.specs.View.{rows_of, steps_at, member_at, members_of, there}
use Rattle.hub_state.specs.Valid.{StepOk, AnsweredUpTo, SlotOk, StateOk}
use Rattle.hub_state.specs.Unmoved.{InPlace}
use Rattle.hub_state.specs.Unanswered.{answered_at}
use Rattle.hub_state.specs.declared.HubState.{HubState}
use Rattle.hub_state.proofs.Codes.{CodesUpTo, upto_codes}
use Rattle.hub_state.proofs.Members.{changed_taken, counts_most}
use Rattle.hub_state.proofs.UnmovedLaws.{commands_any}

-- the rows with another number of answered commands, due settings of then, stages and marks
abbrev pub moved_rows : HubState → List ℕ → List ℤ → List ℕ → List ℕ → HubState
moved_rows h answered due stage mark = record {
  devices = h.devices;
  pass_limit = h.pass_limit;
  next_id = h.next_id;
  links = h.links;
  ids = h.ids;
  passed = h.passed;
  committed = h.committed;
  counts = h.counts;
  answered = answered;
  due_then = due;
  device = h.device;
  tag = h.tag;
  setting = h.setting;
  stage = stage;
  restarts = h.restarts;
  settled_at = h.settled_at;
  up = h.up;
  mark = mark;
}

-- every routine is where it was, with its commands
pub move_in_place : (h : HubState) (answered : List ℕ) (due : List ℤ) (stage mark : List ℕ) →
    InPlace h (moved_rows h answered due stage mark)
unfolding member_at steps_at
move_in_place h answered due stage mark =
    record {
      links = refl;
      routines = λ x _. record { same_id = refl; same_commands = commands_any (rows_of h) stage _ _ _ (get_or h.counts x 0) };
    }

-- The commands of a slot are these, so many of them answered; every other slot is as it was.
pub record Moved (h : HubState) (x : ℕ) (answered : List ℕ) (due : List ℤ) (stage mark : List ℕ) (l : List Step) : Type 0 where
  pub fit : Each StepOk l
  pub come : AnsweredUpTo (get_or answered x 0) l
  pub here : steps_at (moved_rows h answered due stage mark) x ≡ l
  pub others : (y : ℕ) → Stands h.links y → (y ≡ x → ⊥) → steps_at (moved_rows h answered due stage mark) y ≡ steps_at h y
  pub as_many : (y : ℕ) → (y ≡ x → ⊥) → get_or answered y 0 ≡ get_or h.answered y 0

module _ (h : HubState) (x : ℕ) (v : StateOk h) (s : Stands h.links x) {answered : List ℕ} {due : List ℤ} {stage mark : List ℕ}
    {l : List Step} (m : Moved h x answered due stage mark l)
  where
    abbrev now_moved : HubState
    now_moved = moved_rows h answered due stage mark

    move_it : member_at now_moved x ≡ with_steps (there h x).it l
    unfolding member_at there
    move_it = λ i. with_steps (member_at h x) (m.here i)

    move_others : (y : ℕ) → Stands h.links y → (y ≡ x → ⊥) → member_at now_moved y ≡ member_at h y
    unfolding member_at
    move_others y t n = λ i. with_steps (member_at h y) (m.others y t n i)

    move_slot : (y : ℕ) → Stands h.links y → SlotOk now_moved y
    move_slot y t = let w = v.slots_ok y t in
        by_eq y x
        (λ e. subst (SlotOk now_moved) (sym e)
        (record {
          fits = counts_most h x v s;
          devices_fit = rw m.here m.fit;
          come_so_far = rw m.here m.come;
          has-id = (v.slots_ok x s).has-id;
        }))
        (λ n. record {
          fits = w.fits;
          devices_fit = rw (m.others y t n) w.devices_fit;
          come_so_far = rw (m.others y t n, m.as_many y n) w.come_so_far;
          has-id = w.has-id;
        })

    pub move_valid : StateOk now_moved
    move_valid =
        record {
          devices_fit = v.devices_fit;
          some_id = v.some_id;
          ids_fit = v.ids_fit;
          links_ok = v.links_ok;
          slots_ok = move_slot;
          ids_below = v.ids_below;
          ids_differ = v.ids_differ;
        }

    pub move_sequence : members_of now_moved ≡ (there h x).ahead ++ (with_steps (there h x).it l ∷ (there h x).behind)
    move_sequence = changed_taken h now_moved x v s move_others _ refl move_it

-- ---- where a slot's commands stand

abbrev pub from_of : ℕ → ℕ
from_of x = x * max_commands

abbrev pub open_of : HubState → ℕ → ℕ
open_of h x = from_of x + answered_at h x

abbrev pub end_of : HubState → ℕ → ℕ
end_of h x = from_of x + get_or h.counts x 0

module _ (h : HubState) (x : ℕ) (v : StateOk h) (s : Stands h.links x) where
  -- how far it has come, by the codes
  pub come_codes : CodesUpTo h.stage (from_of x) (open_of h x) (end_of h x)
  unfolding steps_at
  come_codes =
      upto_codes (rows_of h) (get_or h.due_then x (pos 0)) (from_of x) (answered_at h x) (get_or h.counts x 0) _ _ refl refl
      (v.slots_ok x s).come_so_far

  -- no place of another slot is one of its places
  pub places_apart : (y j : ℕ) → Stands h.links y → (y ≡ x → ⊥) → from_of y ≤ j → j < end_of h y → from_of x ≤ j → j < end_of h x → ⊥
  places_apart y j t n a b c d = let p = counts_most h x v s in let q = counts_most h y v t in n (omega arith)
