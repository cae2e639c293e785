-- Who is passed; and no routine is passed oftener than the highest pass limit, whatever the limit becomes. Assumes nothing.
use Rattle.rules_routine.specs.declared.refusals.Refusal.TheVariants.{PassLimitOutOfRange}
use mathlib.Core.Path.{◌≡◌, refl, sym, ap, ◌∙◌, subst}
use mathlib.Core.Bool.{Bool, true, false, not, ◌&&◌}
use mathlib.Core.List.{List, [], ◌∷◌, ◌++◌}
use Prim.Native.Nat.{ℕ, ◌≤◌}
use native.Mathlib.Omega.{arith}
use borrow.Author.Tests.{ltb-false, leb-false}
use lib.Dec.{leb, ltb, eqb}
use Rattle.std.specs.Prelude.{if◌then◌else◌}
use Rattle.rules_routine.specs.declared.Command.{Command}
use Rattle.rules_routine.proofs.RoutineLaws.{both_accept, not-refused}
use Rattle.rules.specs.Tables.{any_of, Each}
use Rattle.rules_routine.specs.Limits.{highest_pass_limit}
use Rattle.rules.specs.State.{Member, State}
use Rattle.rules.specs.Answers.{Call, Result}
use Rattle.rules.specs.Sequence.{is_running}
use Rattle.rules.specs.Open.{opened, devices_check, limit_check, new_hub, open_of}
use Rattle.rules.specs.Limit.{with_pass_limit}
use Rattle.rules.specs.Submit.{blocks, up_to_last, past_last, pass, newcomer, place}
use Rattle.rules.specs.Turn.{commit}
use Rattle.rules.specs.Attach.{attach_to}
use Rattle.rules.specs.Order.{Event, failure_event, restart_event}
use Rattle.rules.specs.Calls.{result_of, state_after}
use Rattle.rules.specs.NewLimit.{PassedLessThan, PassedBelow, PassedInRange, PassesInRange}
use Rattle.rules.proofs.Lists.{or_left, or_right, each_++, each_left, each_right, each_mid, each_drop, each_swap}
use Rattle.rules_promises.proofs.Groups.{Group, members, alone, with, pass_all, leaving, attach_event, add_event, still_held, each_held}
use Rattle.rules_promises.proofs.Groups.{added_is}
use Rattle.rules_promises.proofs.Same.{pairs_last, pairs_attached, pairs_each}
use Rattle.rules_promises.proofs.Invariant.{HubOk}
use Rattle.rules_promises.proofs.View.{sent_member, passed_member, done_member, failed_member, skipped_left, Gone, nobody, somebody}
use Rattle.rules_promises.proofs.View.{loses}
use Rattle.rules_promises.proofs.View.{Moves, places, commits, sends, passes, dones, misses, aborts, fails, restarts, Seen}
use Rattle.rules_promises.proofs.View.{is-refused}
use Rattle.rules_promises.proofs.View.{waits}
use Rattle.rules_promises.proofs.View.{limits, moves, see}
use Rattle.rules_promises.proofs.Fields.{Fixed, settle_fixed}
use Rattle.rules_promises.proofs.Moved.{hub-limit, hub-settles}
use Rattle.rules_promises.proofs.Kept.{hub_moves}
use Rattle.rules_promises.proofs.Theorem.{opening}
use Rattle.rules_promises.proofs.Ready.{fixed_moves, ready_opened}

record LowCount (g : Group) : Type 0 where
  low : PassedInRange g.member

-- the same count
record SameCount (g h : Group) : Type 0 where
  same_count : h.member.passed ≡ g.member.passed

same_low : (g h : Group) → SameCount g h → LowCount g → LowCount h
same_low g h e w = record { low = subst (λ n. n ≤ highest_pass_limit) (sym e.same_count) w.low }

low_leaving : (a : List Group) (g : Group) (b : List Group) → Each LowCount (a ++ (g ∷ b)) → Each LowCount (leaving a g b)
unfolding attach_to
low_leaving a g b w =
    pairs_each SameCount LowCount same_low
    (pairs_last SameCount (λ h. record { same_count = refl }) g.events g.member.restarts (λ h. record { same_count = refl }) a b)
    (each_drop LowCount a g b w)

low_event : (j : ℕ) (x : Event) (l : List Group) → Each LowCount l → Each LowCount (attach_event j x l)
unfolding attach_to
low_event j x l = pairs_each SameCount LowCount same_low (pairs_attached SameCount (λ h. record { same_count = refl }) j x added l)
  where
    added : (g : Group) → SameCount g (add_event x g)
    added g = subst (SameCount g) (sym (added_is x g)) (record { same_count = refl })

low_gone : (s : State) (d : ℕ) (l : List Group) {r : Result} {lead : List Event} {k : List Group} → Each LowCount l → Gone s d l r lead k →
    Each LowCount k
low_gone s d l w (nobody q) = w
low_gone s d l w (somebody a g b e q) = low_leaving a g b (subst (Each LowCount) e w)
low_gone s d l w (loses a g b e q m) =
    let v = subst (Each LowCount) e w in
    each_swap LowCount a g (with g (skipped_left d g)) b v (record { low = (each_mid LowCount a g b v).low })

-- who is passed may still be passed
low_passed : (s : State) (cs : List Command) → s.pass_limit ≤ highest_pass_limit → (b : List Group) → Each LowCount b →
    any_of (blocks s cs) (members b) ≡ false → Each LowCount (pass_all b)
unfolding blocks pass is_running
low_passed s cs k [] w n = tt
low_passed s cs k (g ∷ b) w n =
    (record { low = go g.member.committed refl }, low_passed s cs k b w.1 (or_right (blocks s cs g.member) _ n))
  where
    free : (not g.member.committed && leb s.pass_limit g.member.passed) ≡ false
    free = or_right (any_of (λ c. eqb (s.mark c.device) g.member.id) cs) _ (or_left (blocks s cs g.member) _ n)

    go : (c : Bool) → g.member.committed ≡ c → (pass g.member).passed ≤ highest_pass_limit
    go true e = rw e w.0.low
    go false e =
        let f : leb s.pass_limit g.member.passed ≡ false = sym (rw e refl) ∙ free in
        let less = leb-false s.pass_limit g.member.passed f in
        rw e (omega arith)

swap : (a : List Group) (g h : Group) (b : List Group) → Each LowCount (a ++ (g ∷ b)) → h.member.passed ≡ g.member.passed →
    Each LowCount (a ++ (h ∷ b))
swap a g h b w e = each_swap LowCount a g h b w (same_low g h (record { same_count = e }) (each_mid LowCount a g b w))

low_moves : (s : State) (l : List Group) {c : Call} {r : Result} {lead : List Event} {k : List Group} → s.pass_limit ≤ highest_pass_limit →
    Each LowCount l → Moves s l c r lead k → Each LowCount k
unfolding newcomer commit
low_moves s l h w (places cs a b q e u p n) =
    let z = subst (Each LowCount) e w in
    each_++ LowCount a (alone (newcomer s.next_id cs) ∷ pass_all b) (each_left LowCount a b z)
    (record { low = omega arith }, low_passed s cs h b (each_right LowCount a b z) n)
low_moves s l h w (commits i a g b e n r f q) = swap a g (with g (commit g.member)) b (subst (Each LowCount) e w) refl
low_moves s l h w (sends i a g b c e n r f q x u plain on) = swap a g (with g (sent_member s g c)) b (subst (Each LowCount) e w) refl
low_moves s l h w (passes i a g b c e n r f q x st u) = swap a g (with g (passed_member st g)) b (subst (Each LowCount) e w) refl
low_moves s l h w (dones i code a g b x e n r f q) = swap a g (with g (done_member g)) b (subst (Each LowCount) e w) refl
low_moves s l h w (misses i a g b x e n r f) = swap a g (with g (failed_member g)) b (subst (Each LowCount) e w) refl
low_moves s l h w (aborts c a g b e r q) = low_leaving a g b (subst (Each LowCount) e w)
low_moves s l h w (fails d r lead k n u g) = low_event (r.state.mark d) (failure_event d) k (low_gone _ d l w g)
low_moves s l h w (restarts d v r lead k n u g) = low_event (r.state.mark d) (restart_event d v) k (low_gone s d l w g)

-- the opening's pass limit
opened_low : (n k first : ℕ) (s : State) → open_of n k first ≡ opened s → s.pass_limit ≤ highest_pass_limit
unfolding new_hub
opened_low n k first s e =
    let o = opening n k first s e in
    subst (λ (x : State). x.pass_limit ≤ highest_pass_limit) o.0 o.2

-- the hub, its pass limit and its counts
record Low (s : State) (l : List Group) : Type 0 where
  hub : HubOk s l
  limit_low : s.pass_limit ≤ highest_pass_limit
  counts_low : Each LowCount l

low_seen : (s : State) (l : List Group) → Low s l → {c : Call} {r : Result} → Seen s l c r → (k : List Group) × Low r.state k
low_seen s l y (is-refused r) = (l, y)
low_seen s l y (waits i a g b d condition j e n f) = (l, y)
low_seen s l y (limits k e) =
    let new = with_pass_limit s k in
    let low = (both_accept (devices_check s.devices) (limit_check k) e).1 in (
      still_held l,
      record {
        hub = hub-settles new l (hub-limit s k l y.hub);
        limit_low = subst (λ n. n ≤ highest_pass_limit) (sym (ap (λ (x : Fixed). x.pass_limit) (settle_fixed new)))
            (ltb-false highest_pass_limit k (not-refused PassLimitOutOfRange (ltb highest_pass_limit k) low));
        counts_low = each_held LowCount l y.counts_low;
      },
    )
low_seen s l y (moves {r = r} {k = k} v) = (
  still_held k,
  record {
    hub = hub-settles r.state k (hub_moves s l y.hub v);
    limit_low = subst (λ n. n ≤ highest_pass_limit)
        (sym (ap (λ (x : Fixed). x.pass_limit) (settle_fixed r.state) ∙ (fixed_moves s l v).0)) y.limit_low;
    counts_low = each_held LowCount k (low_moves s l y.limit_low y.counts_low v);
  },
)

low_calls : (s : State) (l : List Group) → Low s l → (calls : List Call) → (k : List Group) × Low (state_after s calls) k
low_calls s l y [] = (l, y)
low_calls s l y (c ∷ calls) =
    let r = low_seen s l y (see s l y.hub.sequence_is c) in
    low_calls (result_of s c).state r.0 r.1 calls

low_members : (l : List Group) → Each LowCount l → Each PassedInRange (members l)
low_members [] w = tt
low_members (g ∷ l) w = (w.0.low, low_members l w.1)

pub passes_in_range : PassesInRange
passes_in_range n k first s e calls =
    let y : Low s [] = record { hub = (ready_opened n k first s e).hub; limit_low = opened_low n k first s e; counts_low = tt } in
    let r = low_calls s [] y calls in
    (r.1.limit_low, subst (Each PassedInRange) (sym r.1.hub.sequence_is) (low_members r.0 r.1.counts_low))

-- ---- who is passed

parted : (p : Member → Bool) (l : List Member) → (l ≡ up_to_last p l ++ past_last p l) × (any_of p (past_last p l) ≡ false)
parted p [] = (refl, refl)
parted p (m ∷ l) = go (any_of p (m ∷ l)) refl (parted p l)
  where
    go : (t : Bool) → any_of p (m ∷ l) ≡ t → (l ≡ up_to_last p l ++ past_last p l) × (any_of p (past_last p l) ≡ false) →
        (m ∷ l ≡ (if t then m ∷ up_to_last p l else []) ++ (if t then past_last p l else m ∷ l))
        × (any_of p (if t then past_last p l else m ∷ l) ≡ false)
    go true e h = (ap (λ k. m ∷ k) h.0, h.1)
    go false e h = (refl, e)

unblocked : (s : State) (cs : List Command) (l : List Member) → any_of (blocks s cs) l ≡ false → Each (PassedLessThan s.pass_limit) l
unfolding blocks
unblocked s cs [] n = tt
unblocked s cs (m ∷ l) n =
    ((λ r. leb-false s.pass_limit m.passed (sym (rw r refl) ∙ free)), unblocked s cs l (or_right (blocks s cs m) _ n))
  where
    free : (is_running m && leb s.pass_limit m.passed) ≡ false
    free = or_right (any_of (λ c. eqb (s.mark c.device) m.id) cs) _ (or_left (blocks s cs m) _ n)

pub passed_below : PassedBelow
unfolding place
passed_below s cs =
    let h = parted (blocks s cs) s.sequence in
    record {
      ahead = up_to_last (blocks s cs) s.sequence;
      behind = past_last (blocks s cs) s.sequence;
      sequence_was = h.0;
      sequence_is = refl;
      less_often = unblocked s cs (past_last (blocks s cs) s.sequence) h.1;
    }
