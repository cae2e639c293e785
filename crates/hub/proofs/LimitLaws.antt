-- A new pass limit gives what its contract says. Assumes nothing.
use Rattle.std.proofs.Common.{Ok, Err, None}
use Rattle.rules_routine.specs.Refusals.{Verdict}
use mathlib.Core.Path.{◌≡◌, sym, ap}
use mathlib.Core.Bool.{false}
use mathlib.Core.List.{[], ◌∷◌}
use Prim.Native.Nat.{ℕ}
use Rattle.rules.specs.State.{State}
use Rattle.rules.specs.Answers.{Result, limited, unless_refused}
use Rattle.rules.specs.Settle.{settling}
use Rattle.rules.specs.Limit.{new_limit_check, with_pass_limit, limit_of}
use Rattle.hub_answers.specs.View.{put_backs_of}
use Rattle.hub_answers.specs.declared.PutBacks.{PutBacks}
use Rattle.hub_state.specs.View.{first_committed}
use Rattle.hub_state.specs.declared.valid.ValidState.{ValidState}
use Rattle.rules.proofs.Lists.{t≠f}
use Rattle.hub_answers.specs.declared.Answer.TheVariants.{Limited as NowLimited}
use Rattle.hub_limit.specs.Contract.{Limits}
use Rattle.hub.specs.View.{view}
use Rattle.hub.specs.Valid.{Valid}
use Rattle.hub.specs.Contract.{Limited}
use Rattle.hub.specs.declared.Hub.{Hub}
use Rattle.hub.proofs.CallLaws.{settled_rests, rests_as}

-- it settles, or nothing changes
limit_rests : (s : State) (k : ℕ) → first_committed s.sequence ≡ false → first_committed (limit_of s k).state.sequence ≡ false
unfolding limit_of
limit_rests s k f = go (new_limit_check s.devices k)
  where
    go : (v : Verdict) →
        first_committed (unless_refused v s (settling (record { state = with_pass_limit s k; answers = limited k ∷ [] }))).state.sequence
        ≡ false
    go (Ok tt) = settled_rests (with_pass_limit s k)
    go (Err r) = f

module _ (h : Hub) (k : ℕ) (b : PutBacks) (v : Valid h) (e : put_backs_of b ≡ []) where
  -- it is in force
  pub limits_hub : (s : ValidState) → Limits h.state.rows k (Ok s) →
      Limited h k (record { hub = record { state = s }; first = None; answer = NowLimited k; put_backs = b })
  limits_hub s g = record {
    valid = rests_as _ g.valid (ap (λ (r : Result). r.state) g.gives) (limit_rests (view h) k v.at_rest);
    gives = g.gives;
    put_backs_fit = b.within;
    put_backs_told = e;
    unmoved = g.unmoved;
    same_hub = λ z. t≠f (sym z);
  }
