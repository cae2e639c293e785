-- `hub_due_list::put_settings` meets its contract: the first entries of the table are the settings of the devices that there are. Assumes
-- nothing.
use borrow.Author.Rules.{rules}
use borrow.Author.Tests.{le-ltb}
use native.Mathlib.Omega.{arith}
use mathlib.Core.List.{List, [], ◌∷◌, ◌++◌}
use mathlib.Core.Path.{◌≡◌, refl, ap, ◌∙◌}
use Prim.Native.Nat.{ℕ, zero, suc, ◌+◌, ◌≤◌}
use lib.IntN.{ℤ, pos}
use lib.ListN.{length, get_or, take, drop}
use Rattle.rules_routine.specs.Limits.{max_devices}
use Rattle.rules_routine.proofs.RoutineLaws.{length_mapped}
use Rattle.rules.specs.AllDue.{settings_from, all_due, list_after}
use Rattle.rules.proofs.AllDue.{list-refused, list-accepted}
use Rattle.hub_state.specs.View.{settings_of, state_of}
use Rattle.hub_due_list.proofs.put_settings.Goals as goal

-- the first entries of a table, from the d-th on
entries : (table : List ℤ) (d : ℕ) (l : List ℤ) (n : ℕ) → ((k : ℕ) → settings_of table (d + k) ≡ get_or l k (pos 0)) → n ≤ length l →
    take n l ≡ settings_from (settings_of table) d n
entries table d l zero e h = refl
entries table d [] (suc n) e h = absurd (omega arith)
entries table d (u ∷ l) (suc n) e h =
    let a : d + 0 ≡ d = omega arith in
    let b : settings_of table d ≡ u = rw a at (e 0) in
    rw (b, entries table (suc d) l n (λ k. let c : suc d + k ≡ d + suc k = omega arith in rw c (e (suc k))) (omega arith))

pub returns-then-list-count : goal.returns-then-list-count
unfolding state_of
returns-then-list-count c = let p = list-refused (state_of c.args.state.rows) c.args.list.now c.if-list-count.true in record { answers = p.0; leaves = p.1 }

pub returns : goal.returns
unfolding state_of list_after all_due
returns c = let n = c.args.state.rows.devices in
    let table = c.due_settings-table.result in
    let list = c.args.list.now in
    let long : length table ≡ max_devices = search (rules, length_mapped) in
    record {
      answers = list-accepted (state_of c.args.state.rows) list c.if-list-count.false;
      leaves = rw (le-ltb (length list) n c.if-list-count.false)
          (ap (λ (l : List ℤ). l ++ drop n list)
          (c.copy_from_slice.ensures.after
          ∙ entries table 0 table n (λ k. let e : 0 + k ≡ k = omega arith in ap (settings_of table) e)
          (omega (arith, long, c.args.state.ok.devices_fit))
          ∙ ap (λ (f : ℕ → ℤ). settings_from f 0 n) c.due_settings-table.ensures));
    }
