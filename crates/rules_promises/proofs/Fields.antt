-- What an abort, a restart's attachment and settling leave as it was, and what holds while routines settle one by one. Assumes nothing.
use Rattle.std.proofs.Common.{Option}
use mathlib.Core.Path.{◌≡◌, refl, sym, subst}
use mathlib.Core.Bool.{Bool, true, false}
use mathlib.Core.List.{List, [], ◌∷◌}
use Prim.Native.Nat.{ℕ}
use lib.IntN.{ℤ}
use Rattle.std.specs.Prelude.{if◌then◌else◌}
use Rattle.rules.specs.State.{Member, State}
use Rattle.rules.specs.Answers.{Result}
use Rattle.rules.specs.Due.{after_members, due}
use Rattle.rules.specs.Sequence.{with_sequence}
use Rattle.rules.specs.Settle.{join_settled, settle_from, settle}
use Rattle.rules.specs.Abort.{leave, abort}
use Rattle.rules.specs.Events.{skip_rest}
use Rattle.rules.specs.Order.{Event}
use Rattle.rules.specs.Attach.{attach}
use Rattle.rules.proofs.Lists.{by_if}
use Rattle.rules_promises.proofs.Groups.{Group, members, still_held}
use Rattle.rules_promises.proofs.Invariant.{FirstRuns}
use Rattle.rules_promises.proofs.View.{Gone, nobody, somebody, loses}

-- the fields that they do not touch
pub record Fixed : Type 0 where
  pub devices : ℕ
  pub pass_limit : ℕ
  pub next_id : ℕ
  pub up : ℕ → Bool

abbrev pub fixed_of : State → Fixed
fixed_of s = record { devices = s.devices; pass_limit = s.pass_limit; next_id = s.next_id; up = s.up }

-- what comes ahead of an event
pub gone_fixed : (s : State) (d : ℕ) (l : List Group) {r : Result} {lead : List Event} {k : List Group} → Gone s d l r lead k →
    fixed_of r.state ≡ fixed_of s
unfolding abort leave attach skip_rest
gone_fixed s d l (nobody n) = refl
gone_fixed s d l (somebody a g b e n) = refl
gone_fixed s d l (loses a g b e n m) = refl

pub attach_fixed : (j : ℕ) (e : ℕ → Option ℤ) (s : State) → fixed_of (attach j e s) ≡ fixed_of s
unfolding attach
attach_fixed j e s = refl

from_fixed : (l : List Member) (s : State) → fixed_of (settle_from s l) ≡ fixed_of s
unfolding join_settled
from_fixed [] s = refl
from_fixed (m ∷ l) s = by_if (λ t. fixed_of t ≡ fixed_of s) m.committed (λ _. from_fixed l (join_settled s m)) (λ _. refl)

pub settle_fixed : (s : State) → fixed_of (settle s) ≡ fixed_of s
unfolding settle
settle_fixed s = from_fixed s.sequence s

from_due : (d : ℕ) (l : List Member) (s : State) → due (settle_from s l) d ≡ after_members d l (s.settled_at d)
unfolding due join_settled
from_due d [] s = refl
from_due d (m ∷ l) s =
    by_if (λ t. due t d ≡ after_members d (m ∷ l) (s.settled_at d)) m.committed (λ _. from_due d l (join_settled s m)) (λ _. refl)

-- what is due stays when routines settle
pub settle-due : (s : State) (d : ℕ) → due (settle s) d ≡ due s d
unfolding settle due
settle-due s d = from_due d s.sequence s

-- ---- routines settle one by one

-- P holds of the state and of the groups left while they settle, and gives Q where they stop
pub settles : (P Q : State → List Group → Type 0) →
    ((s : State) (g : Group) (l : List Group) → g.member.committed ≡ true → P s (g ∷ l) → P (join_settled s g.member) l) →
    ((s : State) (l : List Group) → FirstRuns l → P s l → Q (with_sequence s (members l)) l) → (s : State) (l : List Group) →
    s.sequence ≡ members l → P s l → Q (settle s) (still_held l)
unfolding settle
settles P Q f g s l e h = subst (λ q. Q (settle_from s q) (still_held l)) (sym e) (from l s h)
  where
    from : (l : List Group) (s : State) → P s l → Q (settle_from s (members l)) (still_held l)
    from [] s h = g s [] tt h
    from (x ∷ l) s h = go (from l (join_settled s x.member)) x.member.committed refl
      where
        go : (P (join_settled s x.member) l → Q (settle_from (join_settled s x.member) (members l)) (still_held l)) → (b : Bool) →
            x.member.committed ≡ b →
            Q (if b then settle_from (join_settled s x.member) (members l) else with_sequence s (members (x ∷ l)))
            (if b then still_held l else x ∷ l)
        go ih true e = ih (f s x l e h)
        go ih false e = g s (x ∷ l) e h
