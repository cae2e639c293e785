-- What happens with these calls: the hub and what is told are those of the calls. Assumes nothing.
use Rattle.std.proofs.Common.{Some}
use mathlib.Core.Path.{◌≡◌, refl, sym, ap, ◌∙◌}
use mathlib.Core.Bool.{false}
use mathlib.Core.List.{List, [], ◌∷◌, ◌++◌, map, map-append}
use Prim.Native.Nat.{ℕ}
use lib.IntN.{pos}
use Rattle.rules.specs.State.{State}
use Rattle.rules.specs.Answers.{Call}
use Rattle.rules.specs.Calls.{result_of, state_after}
use Rattle.rules.specs.World.{World, Act, calls, takes_one, world_after, world_after_all, new_world}
use Rattle.rules_promises.proofs.Theorem.{devices-kept}
use Rattle.line_rules.specs.Reading.{Line, opening, calling, unread, read_line}
use Rattle.line_key.specs.Key.{replies_to, told_by, any_opens, call_before, calls_by, calls_in}
use Rattle.line_key.proofs.Lines.{told_calls, calls-told}

acts_state : (w : World) (acts : List Act) → (world_after_all w acts).state ≡ state_after w.state (calls_in acts)
acts_state w [] = refl
acts_state w (calls c v ∷ l) = acts_state (world_after w (calls c v)) l
acts_state w (takes_one d k ∷ l) = acts_state (world_after w (takes_one d k)) l

acts_told : (w : World) (acts : List Act) → (world_after_all w acts).history ≡ told_calls w.history w.state (calls_in acts)
acts_told w [] = refl
acts_told w (calls c v ∷ l) = acts_told (world_after w (calls c v)) l
acts_told w (takes_one d k ∷ l) = acts_told (world_after w (takes_one d k)) l

-- calls keep the number of devices
pub calls-devices : (s : State) (cs : List Call) → (state_after s cs).devices ≡ s.devices
calls-devices s [] = refl
calls-devices s (c ∷ cs) = calls-devices (result_of s c).state cs ∙ devices-kept s c

-- with the calls of lines, what is told is what the lines tell
pub told_same : (s : State) (ls : List (List ℕ)) → any_opens ls ≡ false → (acts : List Act) → calls_in acts ≡ calls_by ls →
    (world_after_all (new_world s) acts).history ≡ told_by (replies_to (Some s) ls)
told_same s ls n acts e = acts_told (new_world s) acts ∙ ap (told_calls [] s) e ∙ sym (calls-told [] s ls n)

-- ---- the calls alone: no device takes anything

pub alone : List Call → List Act
alone cs = map (λ c. calls c (pos 0)) cs

pub calls_alone : (cs : List Call) → calls_in (alone cs) ≡ cs
unfolding alone
calls_alone [] = refl
calls_alone (c ∷ cs) = ap (λ (l : List Call). c ∷ l) (calls_alone cs)

pub alone_append : (cs ds : List Call) → alone (cs ++ ds) ≡ alone cs ++ alone ds
unfolding alone
alone_append cs ds = map-append (λ c. calls c (pos 0)) cs ds

pub state_alone : (s : State) (cs : List Call) → (world_after_all (new_world s) (alone cs)).state ≡ state_after s cs
state_alone s cs = acts_state (new_world s) (alone cs) ∙ ap (state_after s) (calls_alone cs)

-- the calls of lines, and of lines behind them
pub calls-append : (ls ms : List (List ℕ)) → calls_by (ls ++ ms) ≡ calls_by ls ++ calls_by ms
calls-append [] ms = refl
calls-append (l ∷ ls) ms = ap (call_before (read_line l)) (calls-append ls ms) ∙ go (read_line l)
  where
    go : (said : Line) → call_before said (calls_by ls ++ calls_by ms) ≡ call_before said (calls_by ls) ++ calls_by ms
    go (opening n k first) = refl
    go (calling c) = refl
    go unread = refl
