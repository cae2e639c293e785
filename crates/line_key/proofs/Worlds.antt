-- The theorem is not empty: a world with the calls of document 01's listing that meets the premise and ends with no routine running. It is
-- computed; the theorem is not used. Assumes nothing.
use mathlib.Core.Path.{◌≡◌, refl, sym}
use mathlib.Core.Bool.{false}
use mathlib.Core.List.{List, [], ◌∷◌}
use Prim.Native.Nat.{ℕ}
use borrow.Author.Tests.{ne_eqb}
use lib.IntN.{pos}
use Rattle.rules.specs.Tables.{any_of}
use Rattle.rules.specs.Answers.{submit, turn, report, failure, restart, cancel}
use Rattle.rules.specs.Open.{new_hub}
use Rattle.rules.specs.World.{World, Act, calls, takes_one, world_after_all, taken, PremiseAll, new_world}
use Rattle.rules.specs.Demand3.{NoneRuns, is_back}
use Rattle.rules.specs.Examples.{must}
use Rattle.rules.proofs.Lists.{this_or_other}
use Rattle.rules.proofs.Passages.{call}
use Rattle.rules.proofs.Worlds.{none_run}
use Rattle.line_rules.specs.Text.{bytes}
use Rattle.line_key.specs.Key.{device_lines_from, calls_by, calls_in, device_in, NoneToPutBack}
use Rattle.line_key.specs.Examples.{calc, listing_behind}

-- the devices take what is sent to them; the failure leaves device 0 at 15, and the restart reports it
abbrev acts : List Act
acts =
    call (submit (must 0 (pos 50) ∷ must 1 (pos 20) ∷ [])) ∷ call (submit (must 0 (pos 70) ∷ []))
    ∷ call (turn 2) ∷ takes_one 0 0 ∷ call (report 2 0) ∷ call (turn 2)
    ∷ call (turn 1) ∷ takes_one 0 0 ∷ call (report 1 0)
    ∷ calls (failure 0) (pos 15) ∷ call (cancel 1) ∷ call (restart 0 (pos 15)) ∷ []

abbrev world : World
world = world_after_all (new_world (new_hub 3 2 1)) acts

pub record Listing : Type 0 where
  pub calls_are : calls_in acts ≡ calls_by listing_behind
  pub premise : PremiseAll (new_world (new_hub 3 2 1)) acts
  pub none_runs : NoneRuns world
  pub putting_back : (d : ℕ) → NoneToPutBack world d
  pub lines_are : device_lines_from (device_in world) 0 3 ≡ bytes "device 0 up 15\ndevice 1 up 0\ndevice 2 up 0\n"

pub listing_world : Listing
unfolding calc taken
listing_world = record {
  calls_are = refl;
  premise = (
    (λ _. tt),
    (
      (λ _. tt),
      (
        (λ _. tt),
        (
          tt,
          (
            (λ _. refl),
            ((λ _. tt), ((λ _. tt), (tt, ((λ _. refl), ((λ _. tt), ((λ _. tt), ((λ _. refl), tt))))))),
          ),
        ),
      ),
    ),
  );
  none_runs = none_run world (refl, (refl, tt));
  putting_back = λ d _.
      this_or_other (λ (i : ℕ). any_of is_back (world.devices i).sent ≡ false) 0 d refl (λ n. rw (ne_eqb d 0 (λ z. n (sym z))) refl);
  lines_are = refl;
}
