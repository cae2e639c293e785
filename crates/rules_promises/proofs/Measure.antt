-- The measure that falls while a routine waits. For each running routine up to it in the sequence: one more than its commands left; and for
-- each time that it may still be passed as much as a newcomer can bring. No turn, report or submission raises it. Assumes nothing.
use mathlib.Core.Path.{◌≡◌, refl, sym, ap, ◌∙◌, subst}
use mathlib.Core.Logic.{◌≢◌}
use mathlib.Core.Bool.{Bool, true, false, not, ◌&&◌, ◌||◌}
use mathlib.Core.List.{List, [], ◌∷◌, ◌++◌}
use Prim.Native.Nat.{ℕ, suc, ◌+◌, ◌-◌, ◌*◌, ◌<◌, ◌≤◌}
use native.Mathlib.Omega.{arith}
use borrow.Author.Tests.{eqb-true, leb-false}
use lib.Dec.{leb, eqb}
use lib.ListN.{length}
use Rattle.std.specs.Prelude.{if◌then◌else◌}
use Rattle.rules_routine.specs.Limits.{max_commands}
use Rattle.rules_routine.specs.declared.Command.{Command}
use Rattle.rules.specs.Tables.{any_of, Each}
use Rattle.rules.specs.State.{Member, State}
use Rattle.rules.specs.Sequence.{is_running}
use Rattle.rules.specs.Submit.{blocks, pass}
use Rattle.rules_promises.proofs.Steps.{left_steps}
use Rattle.rules.proofs.Lists.{by_if, t≠f, or_left, or_right, NotIn, IdsOk}
use Rattle.rules_promises.proofs.Groups.{Group, members, ids, with, pass_all, leaving, still_held}
use Rattle.rules_promises.proofs.Same.{Pairwise, no_pair, pair, pairs_last}
use Rattle.rules_promises.proofs.Running.{has, none_has, any_held}
use Rattle.rules.specs.Attach.{attach_to}

-- what a newcomer brings at most
abbrev full_weight : ℕ
full_weight = max_commands + 1

abbrev pub weight : Member → ℕ
weight m = if m.committed then 0 else suc (length (left_steps m.steps))

-- it has at most as many commands left as a routine can have
pub record FewLeft (g : Group) : Type 0 where
  pub few_left : length (left_steps g.member.steps) ≤ max_commands

abbrev passes_left : ℕ → Member → ℕ
passes_left k m = full_weight * (k - m.passed)

-- the measure for the routine with id i, the pass limit being k
abbrev pub measure : ℕ → ℕ → List Group → ℕ
measure k i [] = 0
measure k i (g ∷ l) = weight g.member + (if eqb g.member.id i then passes_left k g.member else measure k i l)

-- the routine with id i runs
abbrev pub Runs : ℕ → List Group → Type 0
Runs i l = any_of (has is_running i) l ≡ true

-- the same for the measure
record Alike (g h : Group) : Type 0 where
  alike_id : h.member.id ≡ g.member.id
  alike_passed : h.member.passed ≡ g.member.passed
  alike_weight : weight h.member ≡ weight g.member

pub most_weight : (g : Group) → FewLeft g → weight g.member ≤ full_weight
most_weight g h = let w = h.few_left in by_if (λ n. n ≤ full_weight) g.member.committed (λ _. omega arith) (λ _. omega arith)

module _ (k i : ℕ) where
  -- what the measure adds behind a routine's own weight
  abbrev further : Group → ℕ → ℕ
  further g n = if eqb g.member.id i then passes_left k g.member else n

  further_less : (g : Group) (m n : ℕ) → m ≤ n → further g m ≤ further g n
  further_less g m n h = by_if (λ x. x ≤ further g n) (eqb g.member.id i) (λ t. rw t (omega arith)) (λ t. rw t h)

  at_most_behind : (g : Group) (l m : List Group) → measure k i m ≤ measure k i l → measure k i (g ∷ m) ≤ measure k i (g ∷ l)
  at_most_behind g l m h = let b = further_less g (measure k i m) (measure k i l) h in omega arith

  further_alike : (g h : Group) (n : ℕ) → h.member.id ≡ g.member.id → h.member.passed ≡ g.member.passed → further h n ≡ further g n
  further_alike g h n e p =
      ap (λ j. if eqb j i then passes_left k h.member else n) e
      ∙ ap (λ q. if eqb g.member.id i then full_weight * (k - q) else n) p

  -- ---- a routine changes

  pub swap_at_most : (a : List Group) (g h : Group) (b : List Group) → h.member.id ≡ g.member.id →
      h.member.passed ≡ g.member.passed →
      weight h.member ≤ weight g.member → measure k i (a ++ (h ∷ b)) ≤ measure k i (a ++ (g ∷ b))
  swap_at_most [] g h b e p w = let q = further_alike g h (measure k i b) e p in omega arith
  swap_at_most (x ∷ a) g h b e p w = at_most_behind x (a ++ (g ∷ b)) (a ++ (h ∷ b)) (swap_at_most a g h b e p w)

  pub swap_falls : (g h : Group) (b : List Group) → h.member.id ≡ g.member.id → h.member.passed ≡ g.member.passed →
      weight h.member < weight g.member → measure k i (h ∷ b) < measure k i (g ∷ b)
  swap_falls g h b e p w = let q = further_alike g h (measure k i b) e p in omega arith

  -- ---- a routine leaves

  drop_at_most : (a : List Group) (g : Group) (b : List Group) → g.member.id ≢ i → measure k i (a ++ b) ≤ measure k i (a ++ (g ∷ b))
  drop_at_most [] g b n =
      by_if (λ x. measure k i b ≤ weight g.member + x) (eqb g.member.id i) (λ t. absurd (n (eqb-true g.member.id i t)))
      (λ _. omega arith)
  drop_at_most (x ∷ a) g b n = at_most_behind x (a ++ (g ∷ b)) (a ++ b) (drop_at_most a g b n)

  same_measure : {l m : List Group} → Pairwise Alike l m → measure k i m ≡ measure k i l
  same_measure no_pair = refl
  same_measure (pair {g = g} {h = h} {l = l} {k = m} r q) =
      ap (λ n. weight h.member + further h n) (same_measure q) ∙ ap (λ n. n + further h (measure k i l)) r.alike_weight
      ∙ ap (λ n. weight g.member + n) (further_alike g h (measure k i l) r.alike_id r.alike_passed)

  pub leave_at_most : (a : List Group) (g : Group) (b : List Group) → g.member.id ≢ i →
      measure k i (leaving a g b) ≤ measure k i (a ++ (g ∷ b))
  unfolding attach_to
  leave_at_most a g b n =
      let same = same_measure
      (pairs_last Alike (λ h. record { alike_id = refl; alike_passed = refl; alike_weight = refl }) g.events g.member.restarts
      (λ h. record { alike_id = refl; alike_passed = refl; alike_weight = refl }) a b) in
      let less = drop_at_most a g b n in
      omega arith

  pub leave_falls : (g : Group) (b : List Group) → g.member.id ≢ i → g.member.committed ≡ false → measure k i b < measure k i (g ∷ b)
  leave_falls g b n r =
      let w : weight g.member ≡ suc (length (left_steps g.member.steps)) = rw r refl in
      by_if (λ x. measure k i b < weight g.member + x) (eqb g.member.id i) (λ t. absurd (n (eqb-true g.member.id i t)))
      (λ _. omega arith)

  -- ---- routines settle

  pub settle_at_most : (n : ℕ) (l : List Group) → IdsOk n (ids l) → Runs i (still_held l) → measure k i (still_held l) ≤ measure k i l
  settle_at_most n [] d r = omega arith
  settle_at_most n (g ∷ l) d r =
      go g.member.committed refl r (λ s. settle_at_most n l d.3 s)
    where
      go : (c : Bool) → g.member.committed ≡ c → Runs i (if c then still_held l else g ∷ l) →
          (Runs i (still_held l) → measure k i (still_held l) ≤ measure k i l) →
          measure k i (if c then still_held l else g ∷ l) ≤ measure k i (g ∷ l)
      go true c s h =
          by_if (λ x. measure k i (still_held l) ≤ weight g.member + x) (eqb g.member.id i)
          (λ t. t≠f (sym (any_held i l ∙ s) ∙ none_has is_running i l (subst (λ j. NotIn j (ids l)) (eqb-true g.member.id i t) d.2)))
          (λ _. let z = h s in omega arith)
      go false c s h = omega arith

  -- ---- while it runs

  -- it runs: it is this one, or one behind it
  it_or_behind : (P : Type 0) (n : ℕ) (g : Group) (l : List Group) → IdsOk n (ids (g ∷ l)) → Runs i (g ∷ l) →
      (eqb g.member.id i ≡ true → g.member.committed ≡ false → P) → (eqb g.member.id i ≡ false → Runs i l → P) → P
  unfolding is_running
  it_or_behind P n g l d r f h = go (eqb g.member.id i) refl g.member.committed refl r
    where
      go : (t : Bool) → eqb g.member.id i ≡ t → (c : Bool) → g.member.committed ≡ c →
          ((t && not c) || any_of (has is_running i) l) ≡ true → P
      go true t true c q = t≠f (sym q ∙ none_has is_running i l (subst (λ j. NotIn j (ids l)) (eqb-true g.member.id i t) d.2))
      go true t false c q = f t c
      go false t x c q = h t q

  -- it has something left, if only its commit
  pub runs-positive : (n : ℕ) (l : List Group) → IdsOk n (ids l) → Runs i l → 0 < measure k i l
  runs-positive n [] d r = t≠f (sym r)
  runs-positive n (g ∷ l) d r =
      it_or_behind (0 < measure k i (g ∷ l)) n g l d r
      (λ t c. let w : weight g.member ≡ suc (length (left_steps g.member.steps)) = rw c refl in omega arith)
      (λ t s. let h = runs-positive n l d.3 s in let e : further g (measure k i l) ≡ measure k i l = rw t refl in omega arith)

  -- ---- a newcomer is placed

  -- whoever is passed has one pass less left
  passed_at_most : (n : ℕ) (s : State) (cs : List Command) → s.pass_limit ≡ k → (b : List Group) → IdsOk n (ids b) → Runs i b →
      any_of (blocks s cs) (members b) ≡ false → full_weight + measure k i (pass_all b) ≤ measure k i b
  unfolding blocks pass is_running
  passed_at_most n s cs e [] d r f = t≠f (sym r)
  passed_at_most n s cs e (g ∷ b) d r f =
      it_or_behind (full_weight + measure k i (pass_all (g ∷ b)) ≤ measure k i (g ∷ b)) n g b d r
      (λ t c.
      let free : leb s.pass_limit g.member.passed ≡ false =
      sym (rw c refl) ∙ or_right (any_of (λ c. eqb (s.mark c.device) g.member.id) cs) (not g.member.committed
      && leb s.pass_limit g.member.passed) (or_left (blocks s cs g.member) (any_of (blocks s cs) (members b)) f) in
      let less = leb-false s.pass_limit g.member.passed free in
      let after : further (with g (pass g.member)) (measure k i (pass_all b)) ≡ full_weight * (k - suc g.member.passed) =
      rw (t, c) refl
      in
      let before : further g (measure k i b) ≡ full_weight * (k - g.member.passed) = rw t refl in
      omega arith)
      (λ t q. let h = passed_at_most n s cs e b d.3 q (or_right (blocks s cs g.member) (any_of (blocks s cs) (members b)) f) in
      let after : further (with g (pass g.member)) (measure k i (pass_all b)) ≡ measure k i (pass_all b) = rw t refl in
      let before : further g (measure k i b) ≡ measure k i b = rw t refl in
      omega arith)

  pub place_at_most : (n : ℕ) (s : State) (cs : List Command) → s.pass_limit ≡ k → (a : List Group) (x : Group) (b : List Group) →
      IdsOk n (ids (a ++ b)) → Runs i (a ++ b) → any_of (blocks s cs) (members b) ≡ false → x.member.id ≢ i →
      weight x.member ≤ full_weight →
      measure k i (a ++ (x ∷ pass_all b)) ≤ measure k i (a ++ b)
  place_at_most n s cs e [] x b d r f o w =
      let less = passed_at_most n s cs e b d r f in
      by_if (λ y. weight x.member + y ≤ measure k i b) (eqb x.member.id i) (λ t. absurd (o (eqb-true x.member.id i t)))
      (λ _. omega arith)
  place_at_most n s cs e (g ∷ a) x b d r f o w =
      it_or_behind (measure k i (g ∷ (a ++ (x ∷ pass_all b))) ≤ measure k i (g ∷ (a ++ b))) n g (a ++ b) d r
      (λ t c.
      let after : further g (measure k i (a ++ (x ∷ pass_all b))) ≡ further g (measure k i (a ++ b)) = rw t refl in
      omega arith)
      (λ t q. at_most_behind g (a ++ b) (a ++ (x ∷ pass_all b)) (place_at_most n s cs e a x b d.3 q f o w))

  -- ---- the measure at any time

  pub most_measure : (l : List Group) → Each FewLeft l → measure k i l ≤ full_weight * (length l + k)
  most_measure [] h = omega arith
  most_measure (g ∷ l) h =
      let most = most_weight g h.0 in
      let rest = most_measure l h.1 in
      by_if (λ y. weight g.member + y ≤ full_weight * (suc (length l) + k)) (eqb g.member.id i) (λ _. omega arith) (λ _. omega arith)
