-- Decisions: for each way out of a call one law, that the decision gives what the rules give. Assumes nothing.
use Rattle.hub_answers.specs.declared.PutBack.{PutBack}
use Rattle.std.proofs.Common.{None, Option}
use mathlib.Core.Path.{◌≡◌, refl, sym, ap, ◌∙◌}
use mathlib.Core.Bool.{Bool, false}
use mathlib.Core.List.{List, [], ◌∷◌, ◌++◌}
use Prim.Native.Nat.{ℕ}
use native.Mathlib.Omega.{arith}
use Rattle.std.specs.Prelude.{if◌then◌else◌}
use Rattle.rules_routine.specs.declared.Command.{Command}
use Rattle.rules_routine.specs.declared.refusals.Refusal.{Refusal}
use Rattle.rules.specs.State.{Member, State}
use Rattle.rules.specs.Answers.{Back, Result, wait, skipped, aborted, turned_down}
use Rattle.rules.specs.Sequence.{with_sequence}
use Rattle.rules.specs.Settle.{join_settled, settle_from, settle, settling}
use Rattle.rules.specs.Abort.{leave, abort}
use Rattle.rules.proofs.Lists.{t≠f}
use Rattle.hub_sequence.specs.Links.{Stands}
use Rattle.hub_answers.specs.View.{one_of, answer_of, put_backs_in, changes_nothing}
use Rattle.hub_answers.specs.declared.Answer.{Answer}
use Rattle.hub_answers.specs.declared.Answer.TheVariants.{Refused, Placed, Wait, Sent, Done, Skipped, Committed, Aborted, Down, Up}
use Rattle.hub_answers.specs.declared.Answer.TheVariants.{Limited}
use Rattle.hub_answers.specs.declared.Answer.TheVariants.{Held}
use Rattle.hub_answers.specs.declared.Answer.TheVariants.{NotHeld}
use Rattle.hub_state.specs.View.{state_of, there, first_committed}
use Rattle.hub_state.specs.Contract.{StageOk, JoinOk, staged, committed_at, joined_behind, put_backs_left, plainly, Decides}
use Rattle.hub_state.specs.declared.HubState.{HubState}
use Rattle.hub_state.specs.declared.Staged.{Staged}
use Rattle.hub_state.specs.declared.Change.TheVariants.{Nothing, Stage, Commit, Join, Abort}

-- an answer that is given nothing to put back puts nothing back
pub no_put_backs : (a : Answer) → [] ≡ put_backs_in (answer_of a [] ∷ [])
no_put_backs (Refused r) = refl
no_put_backs (Placed p) = refl
no_put_backs (Wait i j) = refl
no_put_backs (Sent x) = refl
no_put_backs (Done i) = refl
no_put_backs (Skipped i) = refl
no_put_backs (Committed i) = refl
no_put_backs (Aborted i) = refl
no_put_backs (Down d i) = refl
no_put_backs (Up d i) = refl
no_put_backs (Limited k) = refl
no_put_backs (Held i) = refl
no_put_backs (NotHeld i) = refl

all_backs : (l : List Back) → l ≡ l ++ []
all_backs [] = refl
all_backs (b ∷ l) = ap (λ (m : List Back). b ∷ m) (all_backs l)

module _ (h : HubState) (cs : List Command) (result : Result) where
  -- a call is turned down
  pub refused-decides : (r : Refusal) → turned_down r (state_of h) ≡ result → Decides h cs (plainly (Refused r) Nothing) result
  refused-decides r e =
      record { change_ok = tt; gives = e; put_backs_told = refl; well_told = refl; nothing_told = λ t. refl; something_told = λ t k. t≠f t }

  -- it waits
  pub wait-decides : (i j : ℕ) → record { state = state_of h; answers = wait i j ∷ [] } ≡ result →
      Decides h cs (plainly (Wait i j) Nothing) result
  wait-decides i j e =
      record { change_ok = tt; gives = e; put_backs_told = refl; well_told = refl; nothing_told = λ t. refl; something_told = λ t k. t≠f t }

  -- one answer that puts nothing back, and a change
  module _ (a : Answer) (t : changes_nothing a ≡ false) where
    pub stage_decides : (c : Staged) → StageOk h c → settling (record { state = staged h c; answers = answer_of a [] ∷ [] }) ≡ result →
        Decides h cs (plainly a (Stage c)) result
    stage_decides c ok e = record {
      change_ok = ok;
      gives = e;
      put_backs_told = no_put_backs a;
      well_told = refl;
      nothing_told = λ u. t≠f (sym u ∙ t);
      something_told = λ u k. let z : ◌≡◌ {A = ℕ} 0 1 = cc in omega arith;
    }

    pub commit-decides : (x : ℕ) → Stands h.links x →
        settling (record { state = committed_at h x; answers = answer_of a [] ∷ [] }) ≡ result →
        Decides h cs (plainly a (Commit x)) result
    commit-decides x ok e = record {
      change_ok = ok;
      gives = e;
      put_backs_told = no_put_backs a;
      well_told = refl;
      nothing_told = λ u. t≠f (sym u ∙ t);
      something_told = λ u k. let z : ◌≡◌ {A = ℕ} 0 1 = cc in omega arith;
    }

    pub join_decides : (after : ℕ) → JoinOk h cs after →
        settling (record { state = joined_behind h cs after; answers = answer_of a [] ∷ [] }) ≡ result →
        Decides h cs (plainly a (Join after)) result
    join_decides after ok e = record {
      change_ok = ok;
      gives = e;
      put_backs_told = no_put_backs a;
      well_told = refl;
      nothing_told = λ u. t≠f (sym u ∙ t);
      something_told = λ u k. let z : ◌≡◌ {A = ℕ} 0 1 = cc in omega arith;
    }

  -- a command is skipped, and its device put back or not
  pub skip_decides : (i : ℕ) (o : Option PutBack) (c : Staged) → StageOk h c →
      settling (record { state = staged h c; answers = skipped i (one_of o) ∷ [] }) ≡ result →
      Decides h cs (record { first = None; answer = Skipped i; back = o; change = Stage c }) result
  skip_decides i o c ok e = record {
    change_ok = ok;
    gives = e;
    put_backs_told = all_backs (one_of o);
    well_told = refl;
    nothing_told = λ u. t≠f (sym u);
    something_told = λ u k. let z : ◌≡◌ {A = ℕ} 0 1 = cc in omega arith;
  }

  -- a routine aborts
  pub abort-decides : (i x : ℕ) → Stands h.links x → i ≡ (there h x).it.id → settling (abort (state_of h) (there h x)) ≡ result →
      Decides h cs (plainly (Aborted i) (Abort x)) result
  unfolding abort
  abort-decides i x ok k e =
      let f = there h x in
      let backs = put_backs_left (state_of h) f in
      record {
        change_ok = ok;
        gives = ap (λ (j : ℕ). settling (record { state = leave (state_of h) f; answers = aborted j backs ∷ [] })) k ∙ e;
        put_backs_told = all_backs backs;
        well_told = (refl, (_, refl));
        nothing_told = λ u. t≠f (sym u);
        something_told = λ u m. let z : ◌≡◌ {A = ℕ} 0 1 = cc in omega arith;
      }

-- ---- settling

idle : (s : State) (l : List Member) → s.sequence ≡ l → first_committed l ≡ false → settle_from s l ≡ s
idle s [] e t = λ i. with_sequence s (sym e i)
idle s (m ∷ l) e t = ap (λ (b : Bool). if b then settle_from (join_settled s m) l else with_sequence s (m ∷ l)) t
    ∙ (λ i. with_sequence s (sym e i))

-- the first is not committed: nothing settles
pub settle-idle : (s : State) → first_committed s.sequence ≡ false → settle s ≡ s
unfolding settle
settle-idle s t = idle s s.sequence refl t
