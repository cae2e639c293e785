-- `hub_report::skip` meets its contract. Assumes nothing.
use borrow.Author.Rules.{rules}
use mathlib.Core.Path.{◌≡◌, refl, sym, ◌∙◌, subst}
use Prim.Native.Nat.{◌<◌}
use native.Mathlib.Omega.{arith}
use mir.Val.{to_z, of_z}
use mir.Syntax.{w16}
use lib.IntN.{pos}
use lib.ListN.{length, get_or}
use Rattle.rules_routine.specs.Limits.{max_devices}
use Rattle.rules_routine.proofs.RoutineLaws.{length_mapped}
use Rattle.rules.specs.Report.{back_if_changed}
use Rattle.hub_report.proofs.ReportLaws.{device-read, due-read, skips}
use Rattle.hub_report.proofs.skip.Goals.{Start}
use Rattle.hub_report.proofs.skip.Goals as goal

-- the device of the command in flight
fits : (c : Start) → get_or c.args.state.rows.device c.args.k 0 < max_devices
fits c = subst (λ (d : _). d < max_devices) (sym (device-read c.args.state.rows c.args.k)) c.requires.1.device_fits

pub bounds-table-d : goal.bounds-table-d
bounds-table-d c = fits (goal.at.bounds-table-d c).Start

pub returns : goal.returns
returns c = let h = c.args.state.rows in
    let table = c.due_settings-table.result in
    let d = get_or h.device c.args.k 0 in
    let long : length table ≡ max_devices = search (rules, length_mapped) in
    let u = get_or table d (pos 0) in
    let v = get_or h.due_then c.args.at (pos 0) in
    let n : to_z w16 (of_z w16 u) ≡ u = search rules in
    let m : to_z w16 (of_z w16 v) ≡ v = search rules in
    skips h c.args.at c.args.k c.requires.0 c.requires.1 c.args.id c.requires.2 c.back_if_changed-back.result _ d u v c.args.state.ok
    c.answered-change.ensures
    (c.back_if_changed-back.ensures ∙ (λ i. back_if_changed d (n i) (m i))) (device-read h c.args.k)
    (due-read table d (pos 0) _ c.due_settings-table.ensures (omega (arith, long, fits (goal.at.returns c).Start))) refl
