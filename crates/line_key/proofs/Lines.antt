-- Line by line: what the program prints is the replies' text; the hub at the end and what is told are those of the calls. Assumes nothing.
use Rattle.std.proofs.Common.{Option, None, Some}
use mathlib.Core.Path.{◌≡◌, refl, ap, ◌∙◌}
use mathlib.Core.Logic.{◌⊎◌, inl, inr}
use mathlib.Core.Bool.{false}
use mathlib.Core.List.{List, [], ◌∷◌, ◌++◌}
use Prim.Native.Nat.{ℕ}
use Rattle.rules.specs.State.{State}
use Rattle.rules.specs.Answers.{Call}
use Rattle.rules.specs.Open.{Opening, opened, not_opened, open_of}
use Rattle.rules.specs.Calls.{result_of, state_after}
use Rattle.rules.specs.Rounds.{calls_told, told_then}
use Rattle.rules.specs.History.{Told}
use Rattle.rules.proofs.Lists.{t≠f, or_left, or_right}
use Rattle.line_rules.specs.Text.{bytes}
use Rattle.line_rules.specs.Reading.{as_call, Line, opening, calling, unread, read_line}
use Rattle.line_rules.specs.Printing.{as_line}
use Rattle.line_rules.specs.Program.{before, prints_opening, step, steps}
use Rattle.line_rules.proofs.Parts.{steps-append}
use Rattle.line_key.specs.Key.{opening_gave, reply_to, hub_opened, hub_left, replies_to, reply_text, replies_text, tells, told_behind}
use Rattle.line_key.specs.Key.{is_opened}
use Rattle.line_key.specs.Key.{opens, any_opens, LastOpening, call_before, calls_by}

-- ---- what is printed

opening_printed : (h : Option State) (o : Opening) → (prints_opening h o).text ≡ reply_text (opening_gave o)
opening_printed h (opened s) = refl
opening_printed h (not_opened r) = refl

reply_printed : (h : Option State) (l : Line) → (step h l).text ≡ reply_text (reply_to h l)
unfolding step
reply_printed h (opening n k first) = opening_printed h (open_of n k first)
reply_printed None (calling c) = refl
reply_printed (Some s) (calling c) = refl
reply_printed h unread = refl

opening-leaves : (h : Option State) (o : Opening) → (prints_opening h o).hub ≡ hub_opened h o
opening-leaves h (opened s) = refl
opening-leaves h (not_opened r) = refl

hub-left : (h : Option State) (l : Line) → (step h l).hub ≡ hub_left h l
unfolding step
hub-left h (opening n k first) = opening-leaves h (open_of n k first)
hub-left None (calling c) = refl
hub-left (Some s) (calling c) = refl
hub-left h unread = refl

pub replies_printed : (h : Option State) (ls : List (List ℕ)) → (steps h ls).text ≡ replies_text (replies_to h ls)
unfolding steps
replies_printed h [] = refl
replies_printed h (l ∷ ls) =
    let said = read_line l in
    ap (λ (text : List ℕ). text ++ (steps (step h said).hub ls).text) (reply_printed h said)
    ∙ ap (λ (text : List ℕ). reply_text (reply_to h said) ++ text)
    (ap (λ (t : Option State). (steps t ls).text) (hub-left h said) ∙ replies_printed (hub_left h said) ls)

-- at the last accepted opening: what was printed before it, `opened`, and what the lines behind it print on its hub
pub opened-last : (h : Option State) {lines : List (List ℕ)} (o : LastOpening lines) →
    steps h (o.front ++ (o.line ∷ o.behind))
    ≡ before (steps h o.front).text (before (as_line (bytes "opened")) (steps (Some o.hub) o.behind))
unfolding steps step
opened-last h o =
    let t = (steps h o.front).hub in
    steps-append h o.front (o.line ∷ o.behind)
    ∙ ap (before (steps h o.front).text)
    (ap (λ (said : Line). before (step t said).text (steps (step t said).hub o.behind)) o.reads_as
    ∙ ap (λ (a : Opening). before (prints_opening t a).text (steps (prints_opening t a).hub o.behind)) o.accepted)

-- ---- without an accepted opening

-- on no hub
no_hub_left : (l : Line) → opens l ≡ false → hub_left None l ≡ None
no_hub_left (opening n k first) e = go (open_of n k first) e
  where
    go : (o : Opening) → is_opened o ≡ false → hub_opened None o ≡ None
    go (opened s) e = t≠f e
    go (not_opened r) e = refl
no_hub_left (calling c) e = refl
no_hub_left unread e = refl

none-tells : (l : Line) (earlier : List Told) → tells (reply_to None l) earlier ≡ earlier
none-tells (opening n k first) earlier = refl
none-tells (calling c) earlier = refl
none-tells unread earlier = refl

pub none-hub : (ls : List (List ℕ)) → any_opens ls ≡ false → (steps None ls).hub ≡ None
unfolding steps
none-hub [] e = refl
none-hub (l ∷ ls) e =
    let said = read_line l in
    ap (λ (t : Option State). (steps t ls).hub) (hub-left None said ∙ no_hub_left said (or_left (opens said) (any_opens ls) e))
    ∙ none-hub ls (or_right (opens said) (any_opens ls) e)

pub none_told : (earlier : List Told) (ls : List (List ℕ)) → any_opens ls ≡ false → told_behind earlier (replies_to None ls) ≡ earlier
none_told earlier [] e = refl
none_told earlier (l ∷ ls) e =
    let said = read_line l in
    ap (λ (t : List Told). told_behind t (replies_to (hub_left None said) ls)) (none-tells said earlier)
    ∙ ap (λ (t : Option State). told_behind earlier (replies_to t ls)) (no_hub_left said (or_left (opens said) (any_opens ls) e))
    ∙ none_told earlier ls (or_right (opens said) (any_opens ls) e)

-- on a hub: the calls alone change it
stays : (s : State) (o : Opening) → is_opened o ≡ false → hub_opened (Some s) o ≡ Some s
stays s (opened t) e = t≠f e
stays s (not_opened r) e = refl

pub calls-hub : (s : State) (ls : List (List ℕ)) → any_opens ls ≡ false → (steps (Some s) ls).hub ≡ Some (state_after s (calls_by ls))
unfolding steps
calls-hub s [] e = refl
calls-hub s (l ∷ ls) e =
    let said = read_line l in
    ap (λ (t : Option State). (steps t ls).hub) (hub-left (Some s) said)
    ∙ go (λ t. calls-hub t ls (or_right (opens said) (any_opens ls) e)) said (or_left (opens said) (any_opens ls) e)
  where
    go : ((t : State) → (steps (Some t) ls).hub ≡ Some (state_after t (calls_by ls))) → (said : Line) → opens said ≡ false →
        (steps (hub_left (Some s) said) ls).hub ≡ Some (state_after s (call_before said (calls_by ls)))
    go rest (opening n k first) f = ap (λ (t : Option State). (steps t ls).hub) (stays s (open_of n k first) f) ∙ rest s
    go rest (calling c) f = rest (result_of s (as_call c)).state
    go rest unread f = rest s

-- what calls tell behind a history, each on the hub that the one before left
abbrev pub told_calls : List Told → State → List Call → List Told
told_calls earlier s cs = told_then earlier (calls_told s cs)

pub calls-told : (earlier : List Told) (s : State) (ls : List (List ℕ)) → any_opens ls ≡ false →
    told_behind earlier (replies_to (Some s) ls) ≡ told_calls earlier s (calls_by ls)
calls-told earlier s [] e = refl
calls-told earlier s (l ∷ ls) e =
    let said = read_line l in
    go (λ told t. calls-told told t ls (or_right (opens said) (any_opens ls) e)) said (or_left (opens said) (any_opens ls) e)
  where
    go : ((told : List Told) (t : State) → told_behind told (replies_to (Some t) ls) ≡ told_calls told t (calls_by ls)) →
        (said : Line) → opens said ≡ false →
        told_behind (tells (reply_to (Some s) said) earlier) (replies_to (hub_left (Some s) said) ls)
        ≡ told_calls earlier s (call_before said (calls_by ls))
    go rest (opening n k first) f =
        ap (λ (t : Option State). told_behind earlier (replies_to t ls)) (stays s (open_of n k first) f) ∙ rest earlier s
    go rest (calling c) f =
        rest (record { call = as_call c; answers = (result_of s (as_call c)).answers } ∷ earlier) (result_of s (as_call c)).state
    go rest unread f = rest earlier s

-- ---- the last accepted opening

-- one line more in front
further : (l : List ℕ) (ls : List (List ℕ)) → LastOpening ls → LastOpening (l ∷ ls)
further l ls p = record {
  front = l ∷ p.front;
  line = p.line;
  behind = p.behind;
  lines_are = ap (λ (m : List (List ℕ)). l ∷ m) p.lines_are;
  devices = p.devices;
  pass_limit = p.pass_limit;
  first_id = p.first_id;
  reads_as = p.reads_as;
  hub = p.hub;
  accepted = p.accepted;
  is_last = p.is_last;
}

-- the first line, with none behind it
here : (l : List ℕ) (ls : List (List ℕ)) → any_opens ls ≡ false → (said : Line) → read_line l ≡ said →
    (opens said ≡ false) ⊎ LastOpening (l ∷ ls)
here l ls e (opening n k first) q = go (open_of n k first) refl
  where
    go : (o : Opening) → open_of n k first ≡ o → (is_opened o ≡ false) ⊎ LastOpening (l ∷ ls)
    go (opened s) f = inr (record {
      front = [];
      line = l;
      behind = ls;
      lines_are = refl;
      devices = n;
      pass_limit = k;
      first_id = first;
      reads_as = q;
      hub = s;
      accepted = f;
      is_last = e;
    })
    go (not_opened r) f = inl refl
here l ls e (calling c) q = inl refl
here l ls e unread q = inl refl

pub last-opening : (ls : List (List ℕ)) → (any_opens ls ≡ false) ⊎ LastOpening ls
last-opening [] = inl refl
last-opening (l ∷ ls) = go (last-opening ls)
  where
    first : any_opens ls ≡ false → (opens (read_line l) ≡ false) ⊎ LastOpening (l ∷ ls) → (any_opens (l ∷ ls) ≡ false) ⊎ LastOpening (l ∷ ls)
    first e (inl f) = inl (rw (f, e))
    first e (inr p) = inr p

    go : (any_opens ls ≡ false) ⊎ LastOpening ls → (any_opens (l ∷ ls) ≡ false) ⊎ LastOpening (l ∷ ls)
    go (inl e) = first e (here l ls e (read_line l) refl)
    go (inr p) = inr (further l ls p)
