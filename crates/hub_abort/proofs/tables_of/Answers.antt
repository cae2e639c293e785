-- `hub_abort::tables_of` meets its contract. Assumes nothing.
use Rattle.std.proofs.Common.{Some, ℕ, Option, ap, sym}
use borrow.Author.Rules.{rules}
use Rattle.rules.specs.Tables.{any_of}
use Rattle.rules.specs.Progress.{in_flight_on}
use Rattle.rules.specs.Due.{due}
use Rattle.hub_sequence.specs.Links.{Stands}
use Rattle.hub_state.specs.View.{settings_of, flags_of, up_of, member_at, state_of}
use Rattle.hub_state.specs.Valid.{StateOk}
use Rattle.hub_due.specs.Contract.{members_without, due_without}
use Rattle.hub_abort.specs.PutBacks.{down_if, TablesAre}
use Rattle.hub_abort.specs.declared.Tables.{Tables}
use Rattle.hub_state.specs.declared.HubState.{HubState}
use mathlib.Core.Path.{◌≡◌, ◌∙◌}
use lib.ListN.{length}
use Rattle.rules_routine.specs.Limits.{max_devices}
use Rattle.rules_routine.proofs.RoutineLaws.{length_mapped}
use Rattle.hub_abort.proofs.LeaveLaws.{left_flights, left_due}
use Rattle.hub_abort.proofs.PutBackLaws.{up-fails, up_stays}
use Rattle.hub_abort.proofs.tables_of.Goals.{Start}
use Rattle.hub_abort.proofs.tables_of.Goals as goal

-- the length of the row of devices that are up
long : (c : Start) → length c.args.state.rows.up ≡ max_devices
long c = search (rules, length_mapped)

-- which device fails, said in two ways
failing : (h : HubState) {o p : Option ℕ} → o ≡ p → (down_if (state_of h) o).up ≡ (down_if (state_of h) p).up
failing h e = ap (λ (o : Option ℕ). (down_if (state_of h) o).up) e

-- the tables, once it is known which devices are up
tables_by : (h : HubState) (x : ℕ) (down : Option ℕ) (t : Tables) → StateOk h → Stands h.links x →
    up_of t.up ≡ (down_if (state_of h) down).up → flags_of t.others ≡ (λ d. any_of (in_flight_on d) (members_without h x)) →
    flags_of t.own ≡ (λ d. in_flight_on d (member_at h x)) → settings_of t.before ≡ due (state_of h) →
    settings_of t.after ≡ due_without h (Some x) →
    TablesAre h x down t
tables_by h x down t v s u o w b a = record {
  up_is = u;
  others_are = o ∙ left_flights h x v s;
  own_are = w;
  before_is = b;
  after_is = a ∙ left_due h x v s;
}

pub returns-then-device-lt-MAX_DEVICES : goal.returns-then-device-lt-MAX_DEVICES
returns-then-device-lt-MAX_DEVICES c = let a = c.args in
    tables_by a.state.rows a.at a.down _ c.args.state.ok c.requires
    (up-fails a.state.rows _ c.if-device-lt-MAX_DEVICES.true (long (goal.at.returns-then-device-lt-MAX_DEVICES c).Start)
    ∙ failing a.state.rows (sym c.in-Some.is))
    c.in_flight_without-others.ensures c.own_flights-own.ensures c.due_settings-before.ensures c.due_settings_without-after.ensures

pub returns-else-device-lt-MAX_DEVICES : goal.returns-else-device-lt-MAX_DEVICES
returns-else-device-lt-MAX_DEVICES c = let a = c.args in
    tables_by a.state.rows a.at a.down _ c.args.state.ok c.requires
    (up_stays a.state.rows _ c.if-device-lt-MAX_DEVICES.false ∙ failing a.state.rows (sym c.in-Some.is))
    c.in_flight_without-others.ensures c.own_flights-own.ensures c.due_settings-before.ensures c.due_settings_without-after.ensures

pub returns-in_default : goal.returns-in_default
unfolding state_of
returns-in_default c = let a = c.args in
    tables_by a.state.rows a.at a.down _ c.args.state.ok c.requires (failing a.state.rows (sym c.in_default.is))
    c.in_flight_without-others.ensures c.own_flights-own.ensures c.due_settings-before.ensures c.due_settings_without-after.ensures
