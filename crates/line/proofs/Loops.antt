-- Lines in turn, the device lines, and what is left in the buffer. Assumes nothing.
use Rattle.std.proofs.Common.{Option, None, Some}
use mathlib.Core.Path.{◌≡◌, refl, sym, ap, ap₂, ◌∙◌, subst}
use mathlib.Core.Bool.{Bool, false}
use mathlib.Core.List.{List, [], ◌∷◌, ◌++◌, append-nil, append_assoc}
use Prim.Native.Nat.{ℕ, zero, suc, ◌+◌, ◌-◌, ◌*◌, ◌≤◌, ◌<◌}
use native.Mathlib.Nat.{zero-add}
use native.Mathlib.Omega.{arith}
use borrow.Author.Tests.{ltb-true, ltb-false, lt-ltb, le-ltb, eqb-true}
use lib.Dec.{ltb, eqb}
use lib.IntN.{pos, negsuc, nat_abs}
use lib.ListN.{length, take, drop, get_or, set, length-append, length-drop}
use lib.Seq.{sets, sets-eq, length-sets, length-take-le, get_or-set_same, get_or-set_other}
use Rattle.std.specs.Prelude.{if◌then◌else◌}
use Rattle.rules_routine.proofs.RoutineLaws.{by_test}
use Rattle.rules.specs.State.{State}
use Rattle.rules.specs.Due.{due}
use Rattle.rules.specs.Rounds.{times}
use Rattle.hub_state.specs.View.{state_of}
use Rattle.hub.specs.View.{view}
use Rattle.hub.specs.Valid.{Valid}
use Rattle.hub.specs.declared.Hub.{Hub}
use Rattle.line_rules.specs.Text.{line_end}
use Rattle.line_rules.specs.Pieces.{pieces_from, pieces, reach, without_empty_last, lines_of}
use Rattle.line_rules.specs.Reading.{Line as Said, read_line}
use Rattle.line_rules.specs.Printing.{as_line, device_text_of, device_text, device_lines}
use Rattle.line_rules.specs.Program.{Printed, before, steps, end_text, run_from, length_or21, buffer_with, hub_with}
use Rattle.line_rules.proofs.LineLaws.{reach-within, lines_first, lines_none}
use Rattle.line_print.specs.Put.{max_text, max_end, Put, PutShort}
use Rattle.line_print.specs.Texts.{line_of, lines_from, devices_text}
use Rattle.line_print.specs.declared.Devices.{Devices}
use Rattle.line_print.proofs.PutLaws.{put-none, put_then, same-room, end_is, stands-there}
use Rattle.line.specs.View.{hub_in}
use Rattle.line.specs.Contract.{Wrote, Ample, RunsLines, Measures}
use Rattle.line.specs.declared.running.Lines.{Lines}
use Rattle.line.proofs.LineLaws.{Does}

-- ---- lines in turn

-- The lines up to a place are done: their text is put, and what is left gives the rest. Each has printed no more than a line may.
pub record Ran (h : Hub) (input buffer buffer' : List ℕ) (room : ℕ) (now : Hub) (at from : ℕ) : Type 0 where
  pub valid : Valid now
  pub near : at ≤ room + max_text
  pub text : List ℕ
  pub put : Put buffer buffer' 0 at text
  pub left : steps (hub_in h) (lines_of input) ≡ before text (steps (hub_in now) (lines_of (drop from input)))
  pub done : ℕ
  pub counted : done + length (lines_of (drop from input)) ≡ length (lines_of input)
  pub short : at ≤ max_text * done
  pub unopened : hub_in now ≡ None → now ≡ h

pub ran_none : (h : Hub) (input buffer : List ℕ) (room : ℕ) → Valid h → Ran h input buffer buffer room h 0 0
ran_none h input buffer room v = record {
  valid = v;
  near = omega arith;
  text = [];
  put = put-none buffer 0;
  left = refl;
  done = 0;
  counted = zero-add (length (lines_of input));
  short = omega arith;
  unopened = λ _. refl;
}

-- the buffer is as long as it was
pub ran_length : {h : Hub} {input buffer out : List ℕ} {room : ℕ} {now : Hub} {at from : ℕ} → Ran h input buffer out room now at from →
    length out ≡ length buffer
ran_length {buffer = buffer} r = ap length r.put.is ∙ length-sets buffer 0 r.text

-- a line ends within the input
pub end_within : (input : List ℕ) (from : ℕ) → from < length input → from + reach line_end (drop from input) ≤ length input
end_within input from h = omega (arith, reach-within line_end (drop from input), length-drop from input)

-- One line goes: what it prints is put, and it leaves this hub.
pub record Goes (h : Hub) (q : Said) (out : List ℕ) (at : ℕ) (next : Hub) (out' : List ℕ) (at' : ℕ) : Type 0 where
  pub text : List ℕ
  pub does : Does h q next text
  pub put : PutShort max_text out out' at at' text

-- What a line prints stands at the beginning of the text's buffer, in which any text fits; and it leaves this hub.
pub record Prints (h : Hub) (q : Said) (next : Hub) (buffer : List ℕ) (printed : ℕ) : Type 0 where
  pub does : Does h q next (take printed buffer)
  pub short : printed ≤ max_text
  pub long : length buffer ≡ max_text

pub prints : {h : Hub} {q : Said} {next next' : Hub} {buffer buffer' buffer'' : List ℕ} {printed printed' : ℕ} {text : List ℕ} →
    Does h q next text → PutShort max_text buffer buffer' 0 printed text → length buffer ≡ max_text → next' ≡ next → buffer'' ≡ buffer' →
    printed' ≡ printed → Prints h q next' buffer'' printed'
prints {h} {q} {next} {next'} {buffer} {buffer'} {buffer''} {printed} {printed'} {text} d p room a b c =
    let there : take printed' buffer'' ≡ text = (λ i. take (c i) (b i)) ∙ stands-there p (omega arith) in
    record {
      does = subst (λ (x : Hub). Does h q x (take printed' buffer'')) (sym a) (subst (λ (t : List ℕ). Does h q next t) (sym there) d);
      short = omega (arith, end_is p, p.short);
      long = ap length b ∙ same-room p ∙ room;
    }

module _ {h : Hub} {q : Said} {next : Hub} {buffer : List ℕ} {printed : ℕ} (p : Prints h q next buffer printed) where
  pub printed_fits : printed ≤ length buffer
  printed_fits = omega (arith, p.short, p.long)

  pub printed_long : length (take printed buffer) ≡ printed
  printed_long = length-take-le printed buffer printed_fits

  -- it is copied
  pub goes : {out out' : List ℕ} {at at' : ℕ} → Put out out' at at' (take printed buffer) → Goes h q out at next out' at'
  goes put = record {
    text = take printed buffer;
    does = p.does;
    put =
        record { put = put; short = omega (arith, p.short, printed_long) };
  }

-- one line more
pub ran_more : {h : Hub} {input buffer out out' : List ℕ} {room : ℕ} {now next : Hub} {at at' from : ℕ} (end : ℕ) →
    Ran h input buffer out room now at from → from < length input → at ≤ room → end ≡ from + reach line_end (drop from input) →
    Goes now (read_line (take (end - from) (drop from input))) out at next out' at' → Ran h input buffer out' room next at' (end + 1)
unfolding steps
ran_more {h} {input} {buffer} {out} {out'} {room} {now} {next} {at} {at'} {from} end r here fits ends g =
    let line = take (end - from) (drop from input) in
    let text = g.text in
    let p = g.put in
    let reached : reach line_end (drop from input) ≡ end - from = omega arith in
    let after : suc (from + reach line_end (drop from input)) ≡ end + 1 = omega arith in
    let first : lines_of (drop from input) ≡ line ∷ lines_of (drop (end + 1) input) =
    lines_first input from here ∙ ap₂ (λ (n m : ℕ). take n (drop from input) ∷ lines_of (drop m input)) reached after in
    let rest = steps (hub_in next) (lines_of (drop (end + 1) input)) in
    record {
      valid = g.does.valid;
      near = omega (arith, p.put.ends, p.short);
      text = r.text ++ text;
      put = put_then r.put p.put;
      left =
          r.left
          ∙ ap (λ (l : List (List ℕ)). before r.text (steps (hub_in now) l)) first
          ∙ ap (λ (q : Printed). before r.text (before q.text (steps q.hub (lines_of (drop (end + 1) input))))) g.does.is
          ∙ ap (λ (t : List ℕ). record { hub = rest.hub; text = t }) (sym (append_assoc r.text text rest.text));
      done = suc r.done;
      counted = let k = ap length first in omega (arith, r.counted);
      short = omega (arith, r.short, p.put.ends, p.short);
      unopened = λ z. let s = g.does.unopened z in s ∙ r.unopened (sym (ap hub_in s) ∙ z);
    }

-- what is put is the beginning of the whole
begins : {h : Hub} {input buffer out : List ℕ} {room : ℕ} {now : Hub} {at from : ℕ} → Ran h input buffer out room now at from →
    at ≤ length (steps (hub_in h) (lines_of input)).text
begins {input = input} {now = now} {from = from} r =
    let rest = (steps (hub_in now) (lines_of (drop from input))).text in
    let e = ap (λ (p : Printed). length p.text) r.left in
    omega (arith, r.put.ends, length-append r.text rest)

-- there is more than there is room for
pub ran_past : {h : Hub} {input buffer out : List ℕ} {room : ℕ} {s : Lines} {from : ℕ} → Ran h input buffer out room s.hub s.at from →
    room < s.at →
    RunsLines h input room buffer out s
ran_past {input = input} {from = from} r past = record {
  valid = r.valid;
  near = r.near;
  fits = λ k. absurd (omega (arith, begins r));
  past = λ k. past;
  unopened = r.unopened;
  ample = λ k. absurd (omega (arith, r.short, r.counted));
}

-- all lines are done
pub ran_all : {h : Hub} {input buffer out : List ℕ} {room : ℕ} {s : Lines} {from : ℕ} → Ran h input buffer out room s.hub s.at from →
    length input ≤ from → RunsLines h input room buffer out s
unfolding steps
ran_all {h} {input} {buffer} {out} {room} {s} {from} r end =
    let ended = lines_none input from end in
    let whole : steps (hub_in h) (lines_of input) ≡ record { hub = hub_in s.hub; text = r.text } =
    r.left ∙ ap (λ (l : List (List ℕ)). before r.text (steps (hub_in s.hub) l)) ended
    ∙ ap (λ (t : List ℕ). record { hub = hub_in s.hub; text = t }) (append-nil r.text) in
    let long : s.at ≡ length (steps (hub_in h) (lines_of input)).text =
    r.put.ends ∙ zero-add (length r.text) ∙ sym (ap (λ (p : Printed). length p.text) whole) in
    record {
      valid = r.valid;
      near = r.near;
      fits = λ _. (
        sym (ap (λ (p : Printed). p.hub) whole),
        subst (λ (t : List ℕ). Put buffer out 0 s.at t) (sym (ap (λ (p : Printed). p.text) whole)) r.put,
      );
      past = λ k. omega (arith, long);
      unopened = r.unopened;
      ample = λ _. let k = ap length ended in omega (arith, long, r.short, r.counted);
    }

-- ---- how many lines there are

-- how many pieces there are does not depend on what is held
pieces_alike : (byte : ℕ) (so_far bs : List ℕ) → length (pieces_from byte so_far bs) ≡ length (pieces byte bs)
unfolding pieces pieces_from
pieces_alike byte so_far [] = refl
pieces_alike byte so_far (b ∷ bs) =
    by_test
    (λ (t : Bool). length (if t then so_far ∷ pieces_from byte [] bs else pieces_from byte (so_far ++ (b ∷ [])) bs)
    ≡ length (if t then [] ∷ pieces_from byte [] bs else pieces_from byte ([] ++ (b ∷ [])) bs))
    (eqb b byte) (λ _. refl) (λ _. pieces_alike byte (so_far ++ (b ∷ [])) bs ∙ sym (pieces_alike byte ([] ++ (b ∷ [])) bs))

times-within : (byte : ℕ) (bs : List ℕ) → times byte bs ≤ length bs
times-within byte [] = omega arith
times-within byte (b ∷ bs) =
    let more = times-within byte bs in
    by_test (λ (t : Bool). (if t then suc (times byte bs) else times byte bs) ≤ suc (length bs)) (eqb b byte) (λ _. omega arith)
    (λ _. omega arith)

-- each byte that parts makes one piece more
times_part : (byte : ℕ) (part rest : List ℕ) → times byte part + length (pieces byte rest) ≡ length (pieces byte (part ++ rest))
unfolding pieces pieces_from
times_part byte [] rest = omega arith
times_part byte (b ∷ bs) rest =
    let more = times_part byte bs rest in
    by_test
    (λ (t : Bool). (if t then suc (times byte bs) else times byte bs) + length (pieces byte rest)
    ≡ length (if t then [] ∷ pieces_from byte [] (bs ++ rest) else pieces_from byte ([] ++ (b ∷ [])) (bs ++ rest)))
    (eqb b byte) (λ _. omega arith) (λ _. more ∙ sym (pieces_alike byte ([] ++ (b ∷ [])) (bs ++ rest)))

-- a part of what is left is counted
pub count_part : (byte : ℕ) {left : List ℕ} (part rest : List ℕ) → left ≡ part ++ rest →
    (times byte part + length rest ≤ length left) × (times byte part + length (pieces byte rest) ≡ length (pieces byte left))
count_part byte {left} part rest e = (
  omega (arith, ap length e, times-within byte part, length-append part rest),
  times_part byte part rest ∙ sym (ap (λ (l : List ℕ). length (pieces byte l)) e),
)

pub count-last : (byte : ℕ) (bs : List ℕ) → length bs ≡ 0 → length (pieces byte bs) ≡ 1
unfolding pieces pieces_from
count-last byte [] h = refl
count-last byte (b ∷ bs) h = absurd (omega arith)

without_shorter : (l : List (List ℕ)) → length (without_empty_last l) ≤ length l
unfolding without_empty_last
without_shorter [] = omega arith
without_shorter ([] ∷ []) = omega arith
without_shorter ((b ∷ bs) ∷ []) = omega arith
without_shorter (l ∷ m ∷ ls) = let k = without_shorter (m ∷ ls) in omega arith

pub lines_counted : (input : List ℕ) → length (lines_of input) ≤ length (pieces line_end input)
unfolding lines_of
lines_counted input = without_shorter (pieces line_end input)

-- ---- the device lines

-- they tell the same where each device is told the same
lines_same : (s : State) (t : Devices) (d n : ℕ) → ((k : ℕ) → k < d + n → line_of t k ≡ as_line (device_text s k)) →
    lines_from t d n ≡ device_lines s d n
unfolding lines_from device_lines
lines_same s t d zero h = refl
lines_same s t d (suc n) h = λ i. h d (omega arith) i ++ lines_same s t (suc d) n (λ k e. h k (omega arith)) i

pub devices_are : (h : Hub) → (view h).devices ≡ h.state.rows.devices
unfolding state_of
devices_are h = refl

-- no hub has no devices
pub end-text : (h : Hub) → end_text (hub_in h) ≡ device_lines (view h) 0 (view h).devices
unfolding hub_in end_text device_lines
end-text h =
    by_test (λ (t : Bool). end_text (if t then None else Some (view h)) ≡ device_lines (view h) 0 (view h).devices) (eqb (view h).devices 0)
    (λ e. ap (device_lines (view h) 0) (sym (eqb-true (view h).devices 0 e))) (λ _. refl)

-- one more device is known to be up or down
pub up_more : (s : State) (l : List Bool) (n : ℕ) (b : Bool) → n < length l → b ≡ s.up n →
    ((d : ℕ) → d < n → get_or l d false ≡ s.up d) → (d : ℕ) → d < n + 1 → get_or (set l n b) d false ≡ s.up d
up_more s l n b h e known d k =
    by_test (λ (_ : Bool). get_or (set l n b) d false ≡ s.up d) (ltb d n)
    (λ t. let i = ltb-true d n t in get_or-set_other l n d b false (λ same. omega arith) ∙ known d i)
    (λ t.
    let same : d ≡ n = omega (arith, ltb-false d n t) in
    ap (λ (j : ℕ). get_or (set l n b) j false) same ∙ get_or-set_same l n b false h ∙ e ∙ ap s.up (sym same))

-- what the device lines tell of a hub
pub devices-told : (h : Hub) (t : Devices) → t.count ≡ (view h).devices →
    ((d : ℕ) → d < (view h).devices → get_or t.up d false ≡ (view h).up d) →
    ((d : ℕ) → d < (view h).devices → get_or t.due d (pos 0) ≡ due (view h) d) → devices_text t ≡ end_text (hub_in h)
unfolding device_text
devices-told h t count up setting =
    ap (lines_from t 0) count
    ∙ lines_same (view h) t 0 (view h).devices
    (λ d k i. as_line (device_text_of d (up d (omega arith) i) (setting d (omega arith) i)))
    ∙ sym (end-text h)

-- ---- what is left in the buffer

buffer-short : (text buffer : List ℕ) → length buffer < length text → buffer_with text buffer ≡ buffer
unfolding buffer_with
buffer-short text buffer h = rw (lt-ltb (length buffer) (length text) h)

buffer-fits : (text buffer : List ℕ) → length text ≤ length buffer → buffer_with text buffer ≡ sets buffer 0 text
unfolding buffer_with
buffer-fits text buffer h =
    rw (le-ltb (length buffer) (length text) h)
    (sym (sets-eq text buffer 0 (omega arith) ∙ ap (λ (k : ℕ). text ++ drop k buffer) (zero-add (length text))))

length-short : (text : List ℕ) (room : ℕ) → room < length text → length_or21 text room ≡ negsuc 20
unfolding length_or21
length-short text room h = rw (lt-ltb room (length text) h)

length-fits : (text : List ℕ) (room : ℕ) → length text ≤ room → length_or21 text room ≡ pos (length text)
unfolding length_or21
length-fits text room h = rw (le-ltb room (length text) h)

pub wrote_none : (p : Printed) (h : Hub) (buffer : List ℕ) → Valid h → length buffer < length p.text →
    Wrote p h h buffer buffer (negsuc 20)
unfolding hub_with
wrote_none p h buffer v short = record {
  valid = v;
  answers = sym (length-short p.text (length buffer) short);
  leaves = sym (buffer-short p.text buffer short);
  hub = rw (lt-ltb (length buffer) (length p.text) short);
  kept = λ _. refl;
  unopened = λ _. refl;
}

pub wrote_all : (p : Printed) (h next : Hub) (buffer buffer' : List ℕ) (at : ℕ) → Valid next → hub_in next ≡ p.hub →
    length p.text ≤ length buffer → Put buffer buffer' 0 at p.text → (hub_in next ≡ None → next ≡ h) →
    Wrote p h next buffer buffer' (pos at)
unfolding hub_with
wrote_all p h next buffer buffer' at v e fits put unopened = record {
  valid = v;
  answers = ap pos (put.ends ∙ zero-add (length p.text)) ∙ sym (length-fits p.text (length buffer) fits);
  leaves = put.is ∙ sym (buffer-fits p.text buffer fits);
  hub = rw (le-ltb (length buffer) (length p.text) fits) e;
  kept = λ k. absurd (omega arith);
  unopened = unopened;
}

-- ---- texts measured

pub measured_past : {text input : List ℕ} {room long : ℕ} → Measures text input room long → room < long → room < length text
measured_past {text} {room = room} m h =
    by_test (λ (_ : Bool). room < length text) (ltb room (length text))
    (λ e. ltb-true room (length text) e)
    (λ e. let k = ltb-false room (length text) e in absurd (omega (arith, m.fits k)))

pub measured_fits : {text input : List ℕ} {room long : ℕ} → Measures text input room long → long ≤ room → length text ≤ room
measured_fits {text} {room = room} m h =
    by_test (λ (_ : Bool). length text ≤ room) (ltb room (length text))
    (λ e. absurd (omega (arith, m.past (ltb-true room (length text) e))))
    (λ e. ltb-false room (length text) e)

-- there is room for all lines
lines_fit : {h : Hub} {input buffer buffer' : List ℕ} {room : ℕ} {s : Lines} → RunsLines h input room buffer buffer' s → Ample input room →
    length (steps (hub_in h) (lines_of input)).text ≤ room
lines_fit r k = omega (arith, r.ample (omega arith))

-- the place behind the lines measures them
pub lines_measured : {h : Hub} {input buffer buffer' : List ℕ} {room : ℕ} {s : Lines} → RunsLines h input room buffer buffer' s →
    Measures (steps (hub_in h) (lines_of input)).text input room s.at
lines_measured r = record { fits = λ k. (r.fits k).1.ends ∙ zero-add _; past = r.past; enough = lines_fit r }

-- ---- the whole text: that of the lines, and then the device lines

module _ (h : Hub) (input : List ℕ) (room : ℕ) (buffer out : List ℕ) (s : Lines) (r : RunsLines h input room buffer out s) where
  abbrev lines : Printed
  lines = steps (hub_in h) (lines_of input)

  whole_long : length (run_from (hub_in h) input).text ≡ length lines.text + length (end_text lines.hub)
  unfolding run_from
  whole_long = length-append lines.text (end_text lines.hub)

  -- the lines alone go past the room
  pub whole_past : room < s.at → Measures (run_from (hub_in h) input).text input room s.at
  whole_past past = record {
    fits = λ k. let e = measured_past (lines_measured r) past in absurd (omega (arith, whole_long));
    past = λ _. past;
    enough = λ k. let e = measured_past (lines_measured r) past in absurd (omega (arith, lines_fit r k));
  }

  module _ (buffer' : List ℕ) (end : ℕ) (p : PutShort max_end out buffer' s.at end (end_text (hub_in s.hub))) where
    -- they fit, and the device lines stand behind them
    whole_put : length lines.text ≤ room → Put buffer buffer' 0 end (run_from (hub_in h) input).text
    unfolding run_from
    whole_put fits = let f = r.fits fits in
        put_then f.1 (subst (λ (o : Option State). Put out buffer' s.at end (end_text o)) f.0 p.put)

    -- there is room for all lines and the device lines
    pub whole_fits : Ample input room → length (run_from (hub_in h) input).text ≤ room
    whole_fits k =
        let f = r.fits (lines_fit r k) in
        let e = ap (λ (o : Option State). length (end_text o)) f.0 in
        omega (arith, r.ample (omega arith), p.short, whole_long)

    pub whole_measured : s.at ≤ room → Measures (run_from (hub_in h) input).text input room end
    whole_measured here =
        let e : end ≡ length (run_from (hub_in h) input).text = (whole_put (measured_fits (lines_measured r) here)).ends ∙ zero-add _ in
        record { fits = λ _. e; past = λ k. omega arith; enough = whole_fits }

    -- what is written
    pub whole_wrote : length buffer ≡ room → length (run_from (hub_in h) input).text ≤ room →
        Wrote (run_from (hub_in h) input) h s.hub buffer buffer' (pos end)
    unfolding run_from
    whole_wrote same fits =
        let here : length lines.text ≤ room = omega (arith, whole_long) in
        wrote_all (run_from (hub_in h) input) h s.hub buffer buffer' end r.valid (r.fits here).0 (omega (arith, same)) (whole_put here)
        r.unopened

-- ---- the length as a signed number

pub written_fits : {p : Printed} {before after : Hub} {buffer buffer' : List ℕ} {n : ℕ} → Wrote p before after buffer buffer' (pos n) →
    n ≤ length buffer
written_fits {p} {buffer = buffer} {n = n} w =
    by_test (λ (_ : Bool). n ≤ length buffer) (ltb (length buffer) (length p.text))
    (λ e. absurd (pos_none (w.answers ∙ length-short p.text (length buffer) (ltb-true (length buffer) (length p.text) e))))
    (λ e.
    let fits = ltb-false (length buffer) (length p.text) e in
    let same : n ≡ length p.text = ap nat_abs (w.answers ∙ length-fits p.text (length buffer) fits) in
    omega arith)
  where
    pos_none : pos n ≡ negsuc 20 → ⊥
    pos_none e = cc
