-- Every call keeps what holds of each device. Assumes nothing.
use Rattle.std.proofs.Common.{Some}
use mathlib.Core.Path.{◌≡◌, refl, sym, ◌∙◌, subst}
use mathlib.Core.List.{List, ◌∷◌, ◌++◌}
use Prim.Native.Nat.{ℕ, ◌<◌}
use lib.Dec.{eqb}
use lib.IntN.{ℤ}
use Rattle.rules_routine.specs.declared.Command.{Command}
use Rattle.rules.specs.State.{State}
use Rattle.rules.specs.Answers.{Call, report, Result}
use Rattle.rules.specs.Progress.{Flight, flight}
use Rattle.rules.specs.Report.{code_done, code_failed, skip_report}
use Rattle.rules.specs.History.{Account}
use Rattle.rules.specs.Order.{Event}
use Rattle.rules.specs.World.{Device}
use Rattle.rules.specs.Tables.{Each}
use Rattle.rules.proofs.Lists.{each_mid}
use Rattle.rules_promises.proofs.Groups.{Group, with, found_at}
use Rattle.rules_promises.proofs.Invariant.{HubOk, InFlightIsUp, EventsOk, AccountTells, DeviceOk, PremiseOnCall}
use Rattle.rules_promises.proofs.View.{passing, failed_member, Moves, places, commits, sends, passes, dones, misses, aborts, fails}
use Rattle.rules_promises.proofs.View.{restarts}
use Rattle.rules_promises.proofs.Marks.{in-turn}
use Rattle.rules_promises.proofs.Messages.{took_last, flies_there, AfterCall}
use Rattle.rules_promises.proofs.Devices.{device_commits, device_passes, device-sends, device_dones, device_misses, device_places}
use Rattle.rules_promises.proofs.DeviceAborts.{device_aborts, device-fails, device-restarts}

-- what the premise says of the command in flight
reported-took : (a : ℕ → Account) (ds : ℕ → Device) (i code : ℕ) (g : Group) (x : Flight) → AccountTells a g →
    PremiseOnCall a ds (report i code) → g.member.id ≡ i → flight g.member.steps ≡ Some x →
    took_last a g.member.id (ds x.command.device) ≡ eqb code code_done
reported-took a ds i code g x t p e f =
    subst (λ (c : Command). took_last a g.member.id (ds c.device) ≡ eqb code code_done) (t.sent_is x f)
    (subst (λ i. PremiseOnCall a ds (report i code)) (sym e) p)

-- `a`: the accounts before the call; v: what a failing device is left at
pub device_moves : (d : ℕ) (s : State) (a : ℕ → Account) (l : List Group) (ds : ℕ → Device)
    (v : ℤ) {c : Call} {r : Result} {lead : List Event} {k : List Group} →
    d < s.devices → HubOk s l → Each EventsOk l → Each (AccountTells a) l → DeviceOk d s a l (ds d) → (a s.next_id).sends ≡ 0 →
    Each (InFlightIsUp s) l → PremiseOnCall a ds c → Moves s l c r lead k →
    AfterCall d a ds v c r k
device_moves d s a l ds v n h e t w z f p (places cs x y _ q u b _) =
    device_places d s cs x y (subst (HubOk s) q h) a ds v z u b (subst (λ m. DeviceOk d s a m (ds d)) q w)
device_moves d s a l ds v n h e t w z f p (commits i x g y q _ _ u _) =
    device_commits s a x g y ds v (subst (HubOk s) q h) d i u (subst (λ m. DeviceOk d s a m (ds d)) q w)
device_moves d s a l ds v n h e t w z f p (sends i x g y c q _ _ u b j k plain on) =
    device-sends s a x g y ds v (subst (HubOk s) q h) d i c b u j k (subst (λ m. DeviceOk d s a m (ds d)) q w)
device_moves d s a l ds v n h e t w z f p (passes i x g y c q _ _ u b _ st pass) =
    device_passes s a x g y ds v (subst (HubOk s) q h) d i c st (passing pass) b u (subst (λ m. DeviceOk d s a m (ds d)) q w)
device_moves d s a l ds v n h e t w z f p (dones i code x g y m q j _ u b) =
    device_dones s a x g y ds v (subst (HubOk s) q h) m u d i code (subst (Each EventsOk) q e)
    (reported-took a ds i code g m (each_mid (AccountTells a) x g y (subst (Each (AccountTells a)) q t)) p j u ∙ b)
    (subst (λ m. DeviceOk d s a m (ds d)) q w)
device_moves d s a l ds v n h e t w z f p (misses i x g y m q j _ u) =
    let o = subst (HubOk s) q h in
    let up = (each_mid (InFlightIsUp s) x g y (subst (Each (InFlightIsUp s)) q f)).flies_up m.command.device
    (flies_there m.command.device g (in-turn s x g y o) m u refl) in
    subst (λ i. AfterCall d a ds v (report i code_failed) (skip_report s (found_at x g y) m) (x ++ (with g (failed_member g) ∷ y))) j
    (device_misses s a x g y ds v o m u d up
    (reported-took a ds i code_failed g m (each_mid (AccountTells a) x g y (subst (Each (AccountTells a)) q t)) p j u)
    (subst (λ m. DeviceOk d s a m (ds d)) q w))
device_moves d s a l ds v n h e t w z f p (aborts c x g y q _ u) =
    device_aborts d s a ds v c x g y n (subst (HubOk s) q h) (subst (λ m. DeviceOk d s a m (ds d)) q w) u
device_moves d s a l ds v n h e t w z f p (fails b r lead k _ _ g) = device-fails d s a l ds v n h w b r lead k g
device_moves d s a l ds v n h e t w z f p (restarts b u r lead k _ j g) = device-restarts d s a l ds v n h e w b u p r lead k j g
