-- `hub_settle::attach::attach` meets its contract. Assumes nothing.
use Rattle.std.proofs.Common.{Some, None}
use borrow.Author.Rules.{rules}
use Prim.Native.Nat.{◌*◌, ◌<◌}
use native.Mathlib.Omega.{arith}
use mathlib.Core.Path.{◌≡◌, subst}
use mir.Val.{to_z, of_z}
use mir.Syntax.{w16}
use lib.ListN.{length}
use Rattle.rules_routine.specs.Limits.{max_devices, max_sequence}
use Rattle.rules_routine.proofs.RoutineLaws.{length_mapped}
use Rattle.hub_sequence.proofs.ReadLaws.{stands-slot}
use Rattle.hub_search.specs.Contract.{has_id, Finds}
use Rattle.hub_state.proofs.UnmovedLaws.{itself_in_place}
use Rattle.hub_settle.proofs.RestartLaws.{attaches_one}
use Rattle.hub_settle.proofs.StateLaws.{valid_tables, tables_in_place, attach-settled, attach_nowhere, attach-at, settles-one}
use Rattle.hub_settle.proofs.attach.attach.Goals.{In-Some, Start}
use Rattle.hub_settle.proofs.attach.attach.Goals as goal

-- the lengths of the rows
long : (c : Start) → (length c.args.state.rows.settled_at ≡ max_devices)
    × (length c.args.state.rows.restarts ≡ max_sequence * max_devices)
long c = (search (rules, length_mapped), search (rules, length_mapped))

pub invariant_of-changed : goal.invariant_of-changed
invariant_of-changed c = record { ok = valid_tables c.args.state.rows _ _ _ _ c.args.state.ok }

pub returns-then-id-eq0 : goal.returns-then-id-eq0
returns-then-id-eq0 c = let a = c.args in
    let z : to_z w16 (of_z w16 a.setting) ≡ a.setting = search rules in
    let l = (long (goal.at.returns-then-id-eq0 c).Start).0 in
    let d = c.requires.0 in (
      valid_tables a.state.rows _ _ _ _ c.args.state.ok,
      rw z
          (attach-settled a.state.rows a.id _ _ c.if-id-eq0.true
          (settles-one a.state.rows.settled_at a.device a.setting (omega arith))),
      tables_in_place a.state.rows _ _ _ _,
    )

pub returns-in_default : goal.returns-in_default
returns-in_default c = let f : Finds c.args.state.rows (has_id c.args.id) None =
    subst (Finds c.args.state.rows (has_id c.args.id)) c.in_default.is c.with_id.ensures in
    (c.args.state.ok, attach_nowhere c.args.state.rows c.args.id _ c.if-id-eq0.false f, itself_in_place c.args.state.rows)

found : (c : In-Some) → Finds c.args.state.rows (has_id c.args.id) (Some c.in-Some.to)
found c =
    subst (Finds c.args.state.rows (has_id c.args.id)) c.in-Some.is c.with_id.ensures

-- its slot
slot : (c : In-Some) → c.in-Some.to < max_sequence
slot c = stands-slot _ _ c.args.state.ok.links_ok (found c).place_ok

pub invariant_of-changed-2 : goal.invariant_of-changed-2
invariant_of-changed-2 c = record { ok = valid_tables c.args.state.rows _ _ _ _ c.args.state.ok }

pub returns : goal.returns
returns c = let a = c.args in
    let z : to_z w16 (of_z w16 a.setting) ≡ a.setting = search rules in (
      valid_tables a.state.rows _ _ _ _ c.args.state.ok,
      rw z
          (attach-at a.state.rows a.id _ _ _
          (attaches_one a.state.rows.restarts _ a.device a.setting (long (goal.at.returns c).Start).1
          (slot (goal.at.returns c).In-Some) c.requires.0 c.requires.1) c.if-id-eq0.false
          c.args.state.ok (found (goal.at.returns c).In-Some)),
      tables_in_place a.state.rows _ _ _ _,
    )
