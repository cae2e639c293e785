-- The printed key and demand 3 of it, proved: the theorems of the rules, carried along the lines. Assumes nothing.
use Rattle.std.proofs.Common.{Option, None, Some}
use mathlib.Core.Path.{◌≡◌, refl, sym, ap, ◌∙◌, subst}
use mathlib.Core.Logic.{◌⊎◌, inl, inr}
use mathlib.Core.Bool.{Bool, true, false}
use mathlib.Core.List.{List, [], ◌++◌, append_assoc, append-nil}
use Prim.Native.Nat.{ℕ, zero, suc, ◌+◌, ◌<◌}
use native.Mathlib.Omega.{arith}
use Rattle.rules.specs.State.{State}
use Rattle.rules.specs.Due.{due}
use Rattle.rules.specs.Open.{new_hub}
use Rattle.rules.specs.History.{Told, accounts_of, working_of}
use Rattle.rules.specs.Order.{Entry, entries, order_of}
use Rattle.rules.specs.Serial.{DeviceState, all_up, serial_run}
use Rattle.rules.specs.World.{World, Act, world_after_all, PremiseAll, new_world}
use Rattle.rules.specs.Demand3.{order_in, committed_part, Begins, CommandsStand, Demand3}
use Rattle.rules.specs.Replay.{Replays}
use Rattle.rules.specs.Calls.{state_after}
use Rattle.rules.proofs.Lists.{or_left, any_of_++}
use Rattle.rules_promises.proofs.Theorem.{opening, demand_3, hub-order, replay, order-committed, working_up}
use Rattle.line_rules.specs.Text.{bytes}
use Rattle.line_rules.specs.Pieces.{lines_of}
use Rattle.line_rules.specs.Reading.{read_line}
use Rattle.line_rules.specs.Printing.{as_line, device_text, device_text_of, device_lines}
use Rattle.line_rules.specs.Program.{Printed, steps, end_text, run_from, program_text}
use Rattle.line_key.specs.Key.{replies_to, replies_text, told_by, run_of, device_line, device_lines_from, opens, any_opens, LastOpening}
use Rattle.line_key.specs.Key.{replies_behind, history, Key, NoHub, PrintedKey, calls_by, calls_in, device_in, LinesTell, KeyStatement}
use Rattle.line_key.specs.Key.{KeyOfDevices}
use Rattle.line_key.proofs.Lines.{replies_printed, opened-last, none-hub, none_told, calls-hub, last-opening}
use Rattle.line_key.proofs.Acts.{calls-devices, told_same, alone, calls_alone, alone_append, state_alone, calls-append}

-- ---- the text

-- the device lines of a hub are those of a run that gives what the hub has
lines-of : (s : State) (run : ℕ → DeviceState) → ((d : ℕ) → run d ≡ record { up = s.up d; setting = due s d }) → (d left : ℕ) →
    device_lines s d left ≡ device_lines_from run d left
unfolding device_lines device_text
lines-of s run e d zero = refl
lines-of s run e d (suc left) =
    ap (λ (x : DeviceState). device_line d x ++ device_lines s (suc d) left) (sym (e d))
    ∙ ap (λ (l : List ℕ). device_line d (run d) ++ l) (lines-of s run e (suc d) left)

-- the hub that the calls behind the last accepted `O` leave
hub_at_end : {lines : List (List ℕ)} → LastOpening lines → State
hub_at_end o = state_after o.hub (calls_by o.behind)

devices-of : {lines : List (List ℕ)} (o : LastOpening lines) → o.hub.devices ≡ o.devices
unfolding new_hub
devices-of o = ap (λ (s : State). s.devices) (sym (opening o.devices o.pass_limit o.first_id o.hub o.accepted).0)

devices-same : {lines : List (List ℕ)} (o : LastOpening lines) → (hub_at_end o).devices ≡ o.devices
unfolding hub_at_end
devices-same o = calls-devices o.hub (calls_by o.behind) ∙ devices-of o

run_same : {lines : List (List ℕ)} (o : LastOpening lines) (d : ℕ) →
    run_of (history o) d ≡ record { up = (hub_at_end o).up d; setting = due (hub_at_end o) d }
unfolding hub_at_end
run_same o d =
    let cs = calls_by o.behind in
    ap (λ (l : List Told). run_of l d) (sym (told_same o.hub o.behind o.is_last (alone cs) (calls_alone cs)))
    ∙ (hub-order o.devices o.pass_limit o.first_id o.hub o.accepted (alone cs)).devices_are d
    ∙ ap (λ (s : State). record { up = s.up d; setting = due s d }) (state_alone o.hub cs)

end_same : {lines : List (List ℕ)} (o : LastOpening lines) →
    end_text (steps (Some o.hub) o.behind).hub ≡ device_lines_from (run_of (history o)) 0 o.devices
unfolding end_text hub_at_end
end_same o =
    ap end_text (calls-hub o.hub o.behind o.is_last) ∙ ap (device_lines (hub_at_end o) 0) (devices-same o)
    ∙ lines-of (hub_at_end o) (run_of (history o)) (run_same o) 0 o.devices

-- a text and its device lines
abbrev with_end : Printed → List ℕ
with_end p = p.text ++ end_text p.hub

key_of : (input : List ℕ) → LastOpening (lines_of input) → Key input
unfolding program_text run_from
key_of input o = record {
  last = o;
  text_is =
      let front = replies_text (replies_to None o.front) in
      let word = as_line (bytes "opened") in
      let rest = steps (Some o.hub) o.behind in
      ap (λ (ls : List (List ℕ)). with_end (steps None ls)) o.lines_are ∙ ap with_end (opened-last None o)
      ∙ ap (λ (l : List ℕ). l ++ end_text rest.hub) (sym (append_assoc (steps None o.front).text word rest.text))
      ∙ ap (λ (l : List ℕ). l ++ word ++ rest.text ++ end_text rest.hub) (replies_printed None o.front)
      ∙ ap (λ (l : List ℕ). front ++ word ++ l ++ end_text rest.hub) (replies_printed (Some o.hub) o.behind)
      ∙ ap (λ (l : List ℕ). front ++ word ++ replies_text (replies_behind o) ++ l) (end_same o);
}

no_hub_of : (input : List ℕ) → any_opens (lines_of input) ≡ false → NoHub input
unfolding program_text run_from end_text
no_hub_of input e = record {
  none_opens = e;
  none_told = none_told [] (lines_of input) e;
  text_is =
      ap (λ (h : Option State). (steps None (lines_of input)).text ++ end_text h) (none-hub (lines_of input) e)
      ∙ append-nil (steps None (lines_of input)).text ∙ replies_printed None (lines_of input);
}

pub printed_key : PrintedKey
printed_key input = go (last-opening (lines_of input))
  where
    go : (any_opens (lines_of input) ≡ false) ⊎ LastOpening (lines_of input) → Key input ⊎ NoHub input
    go (inl e) = inr (no_hub_of input e)
    go (inr o) = inl (key_of input o)

-- ---- demand 3

-- of a device that is down, no setting is printed
down-line : (d : ℕ) (x y : DeviceState) → x.up ≡ false → y.up ≡ false → device_line d x ≡ device_line d y
down-line d x y e f =
    ap (λ (t : Bool). as_line (device_text_of d t x.setting)) e ∙ sym (ap (λ (t : Bool). as_line (device_text_of d t y.setting)) f)

module _ {lines : List (List ℕ)} (o : LastOpening lines) where
  told : (acts : List Act) → calls_in acts ≡ calls_by o.behind → (world_after_all (new_world o.hub) acts).history ≡ history o
  told acts e = told_same o.hub o.behind o.is_last acts e

  rules : (acts : List Act) → Demand3 o.hub acts
  rules acts = demand_3 o.devices o.pass_limit o.first_id o.hub o.accepted acts

  -- what is told of the calls alone
  told_alone : (world_after_all (new_world o.hub) (alone (calls_by o.behind))).history ≡ history o
  told_alone = told (alone (calls_by o.behind)) (calls_alone (calls_by o.behind))

  up_works : (d : ℕ) → (run_of (history o) d).up ≡ working_of (history o) d
  unfolding hub_at_end
  up_works d =
      let cs = calls_by o.behind in
      ap (λ (x : DeviceState). x.up) (run_same o d) ∙ ap (λ (s : State). s.up d) (sym (state_alone o.hub cs))
      ∙ sym (working_up o.devices o.pass_limit o.first_id o.hub o.accepted (alone cs) d)
      ∙ ap (λ (l : List Told). working_of l d) told_alone

  lines_tell : (acts : List Act) → calls_in acts ≡ calls_by o.behind → PremiseAll (new_world o.hub) acts →
      LinesTell o.devices (run_of (history o)) (world_after_all (new_world o.hub) acts)
  lines_tell acts e p none_runs d n back = go (working_of w.history d) refl
    where
      w : World
      w = world_after_all (new_world o.hub) acts

      -- the run of what the lines tell is that of the committed routines and events
      run_committed : run_of (history o) d ≡ serial_run (committed_part (entries (order_in w))) all_up d
      run_committed =
          ap (λ (l : List Told). run_of l d) (sym (told acts e))
          ∙ ap (λ (l : List Entry). serial_run l all_up d)
          (sym (order-committed o.devices o.pass_limit o.first_id o.hub o.accepted acts none_runs))

      go : (works : Bool) → working_of w.history d ≡ works → device_line d (run_of (history o) d) ≡ device_line d (device_in w d)
      go true f =
          ap (device_line d) (run_committed ∙ (rules acts).end_state p none_runs d (subst (λ m. d < m) (sym (devices-of o)) n) f (back f))
          ∙ ap (λ (t : Bool). device_line d (record { up = t; setting = (w.devices d).setting })) (sym f)
      go false f =
          let down = up_works d ∙ ap (λ (l : List Told). working_of l d) (sym (told acts e)) ∙ f in
          down-line d (run_of (history o) d) (device_in w d) down f

  settled_part : (before rest : List (List ℕ)) → o.behind ≡ before ++ rest →
      Begins (order_of (told_by (replies_to (Some o.hub) before))).settled (entries (order_of (history o)))
  settled_part before rest e =
      let w = new_world o.hub in
      let fits = ap alone (ap calls_by e ∙ calls-append before rest) ∙ alone_append (calls_by before) (calls_by rest) in
      let apart = sym (any_of_++ (λ l. opens (read_line l)) before rest) ∙ ap any_opens (sym e) ∙ o.is_last in
      let none_opens = or_left (any_opens before) (any_opens rest) apart in
      subst (λ (l : List Told). Begins (order_of l).settled (entries (order_of (history o))))
      (told_same o.hub before none_opens (alone (calls_by before)) (calls_alone (calls_by before)))
      (subst (λ (l : List Told). Begins (order_in (world_after_all w (alone (calls_by before)))).settled (entries (order_of l))) told_alone
      ((rules (alone (calls_by o.behind))).settled_part (alone (calls_by before)) (alone (calls_by rest)) fits))

pub key_demand_3 : KeyStatement
key_demand_3 lines o = record {
  end_state = λ acts e. (told o acts e, lines_tell o acts e);
  settled_part = settled_part o;
  commands_stand =
      subst (λ (l : List Told). CommandsStand (accounts_of l) (entries (order_of l)) all_up) (told_alone o)
      (rules o (alone (calls_by o.behind))).commands_stand;
  conditions_replay =
      let r = replay o.devices o.pass_limit o.first_id o.hub o.accepted (alone (calls_by o.behind)) in
      subst (λ (l : List Told). Replays (accounts_of l) (entries (order_of l)) all_up
      × Replays (accounts_of l) (committed_part (entries (order_of l))) all_up) (told_alone o) (r.all_routines, r.committed_routines);
  up_works = up_works o;
}

-- the lines of devices one by one
lines_same : (n : ℕ) (run as_is : ℕ → DeviceState) → ((d : ℕ) → d < n → device_line d (run d) ≡ device_line d (as_is d)) →
    (d left : ℕ) → d + left ≡ n → device_lines_from run d left ≡ device_lines_from as_is d left
lines_same n run as_is e d zero f = refl
lines_same n run as_is e d (suc left) f =
    ap (λ (l : List ℕ). l ++ device_lines_from run (suc d) left) (e d (omega arith))
    ∙ ap (λ (l : List ℕ). device_line d (as_is d) ++ l) (lines_same n run as_is e (suc d) left (omega arith))

pub key_of_devices : KeyOfDevices
key_of_devices input k acts e p none_runs back =
    let o = k.last in
    let w = world_after_all (new_world o.hub) acts in
    k.text_is
    ∙ ap (λ (l : List ℕ). replies_text (replies_to None o.front) ++ as_line (bytes "opened") ++ replies_text (replies_behind o) ++ l)
    (lines_same o.devices (run_of (history o)) (device_in w) (λ d n. lines_tell o acts e p none_runs d n (back d n))
    0 o.devices (omega arith))
