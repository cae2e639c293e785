-- A command comes to a stage, or a routine commits: the slot's routine becomes another, and all others stay. Assumes nothing.
use Prim.Native.Nat.{ℕ, ◌+◌, ◌-◌, ◌*◌, ◌≤◌, ◌<◌}
use native.Mathlib.Omega.{arith}
use borrow.Author.Tests.{eq-eqb, ne_eqb}
use mathlib.Core.Path.{◌≡◌, refl, sym, ap, subst, ◌∙◌}
use mathlib.Core.Bool.{Bool, true, false}
use mathlib.Core.List.{List, ◌∷◌, ◌++◌}
use lib.IntN.{ℤ, pos}
use lib.ListN.{length, get_or, set}
use lib.Seq.{get_or-set_same, get_or-set_other}
use Rattle.std.specs.Prelude.{if◌then◌else◌}
use Rattle.rules_routine.specs.Limits.{max_commands, max_sequence}
use Rattle.rules.specs.State.{Status, Member}
use Rattle.rules.specs.Tables.{put}
use Rattle.rules.specs.Progress.{is_to_do, is_answered, with_steps}
use Rattle.rules.specs.Sequence.{with_sequence, with_mark}
use Rattle.rules.specs.Turn.{commit}
use Rattle.rules.proofs.Lists.{t≠f}
use Rattle.hub_sequence.specs.Links.{Stands}
use Rattle.hub_sequence.proofs.Tables.{fun_ext, by_eq}
use Rattle.hub_state.specs.View.{in_flight_code, done_code, to_do_code, status_of, rows_of, steps_from, steps_at, member_at, members_of, state_of}
use Rattle.hub_state.specs.View.{there}
use Rattle.hub_state.specs.View.{marks_of}
use Rattle.hub_state.specs.Valid.{AnsweredUpTo, StateOk}
use Rattle.hub_state.specs.Contract.{set_status, staged, committed_at, StageOk}
use Rattle.hub_state.specs.Unmoved.{InPlace}
use Rattle.hub_state.specs.Unanswered.{answered_at}
use Rattle.hub_state.specs.declared.HubState.{HubState}
use Rattle.hub_state.specs.declared.Staged.{Staged}
use Rattle.hub_state.proofs.Steps.{each_set_status, sent_stays}
use Rattle.hub_state.proofs.Rows.{status_to_do, status-sent, with_stages, steps-outside, steps-staged}
use Rattle.hub_state.proofs.Codes.{codes_upto}
use Rattle.hub_state.proofs.Members.{changed_taken, length-steps, stands_below, place-within}
use Rattle.hub_apply.specs.Stages.{FirstUnanswered}
use Rattle.hub_apply.proofs.CodeLaws.{codes-answered}
use Rattle.hub_apply.proofs.MoveLaws.{moved_rows, move_in_place, Moved, move_valid, move_sequence, from_of, open_of, end_of}
use Rattle.hub_apply.proofs.MoveLaws.{come_codes, places_apart}

-- ---- a routine commits

abbrev pub committed_row : HubState → List Bool → HubState
committed_row h committed = record {
  devices = h.devices;
  pass_limit = h.pass_limit;
  next_id = h.next_id;
  links = h.links;
  ids = h.ids;
  passed = h.passed;
  committed = committed;
  counts = h.counts;
  answered = h.answered;
  due_then = h.due_then;
  device = h.device;
  tag = h.tag;
  setting = h.setting;
  stage = h.stage;
  restarts = h.restarts;
  settled_at = h.settled_at;
  up = h.up;
  mark = h.mark;
}

module _ (h : HubState) (x : ℕ) (v : StateOk h) (s : Stands h.links x) (n : length h.committed ≡ max_sequence) where
  abbrev now_committed : HubState
  now_committed = committed_row h (set h.committed x true)

  commit-it : member_at now_committed x ≡ commit (there h x).it
  unfolding member_at steps_at there commit
  commit-it = let i = stands_below h x v s in rw (get_or-set_same h.committed x true false (omega arith))

  commit-others : (y : ℕ) → Stands h.links y → (y ≡ x → ⊥) → member_at now_committed y ≡ member_at h y
  unfolding member_at steps_at
  commit-others y t m = rw (get_or-set_other h.committed x y true false m)

  -- all but the one row is as it was
  commit-valid : StateOk now_committed
  unfolding steps_at
  commit-valid =
      record {
        devices_fit = v.devices_fit;
        some_id = v.some_id;
        ids_fit = v.ids_fit;
        links_ok = v.links_ok;
        slots_ok = λ y t. let w = v.slots_ok y t in
            record { fits = w.fits; devices_fit = w.devices_fit; come_so_far = w.come_so_far; has-id = w.has-id };
        ids_below = v.ids_below;
        ids_differ = v.ids_differ;
      }

  commit_in_place : InPlace h now_committed
  unfolding member_at steps_at
  commit_in_place = record { links = refl; routines = λ y _. record { same_id = refl; same_commands = refl } }

  pub commit_applied : (StateOk now_committed) × (state_of now_committed ≡ committed_at h x) × (InPlace h now_committed)
  unfolding state_of committed_at
  commit_applied = (
    commit-valid,
    ap (λ (l : List Member). with_sequence (state_of h) l) (changed_taken h now_committed x v s commit-others _ refl commit-it),
    commit_in_place,
  )

-- ---- a command comes to a stage

-- one that was sent or answered: it is in flight, or answered
sent_in_flight : (code : ℕ) (due : ℤ) → code ≡ in_flight_code → is_answered (status_of code due) ≡ false
sent_in_flight code due e = ap is_answered (status-sent code due e)

sent-answered : (code : ℕ) (due : ℤ) → is_to_do (status_of code due) ≡ false → (code ≡ in_flight_code → ⊥) → done_code ≤ code
sent-answered code due e n =
    by_eq code to_do_code (λ f. t≠f (sym (ap is_to_do (status_to_do code due f)) ∙ e)) (λ m. omega arith)

module _ (h : HubState) (c : Staged) (v : StateOk h) (ok : StageOk h c) where
  -- the status that it gets
  abbrev new_status : Status
  new_status = status_of c.stage c.due_then

  abbrev new_stages : List ℕ
  new_stages = set h.stage (open_of h c.at) c.stage

  -- How many are answered now, in each slot.
  pub record AnsweredNow (answered : List ℕ) : Type 0 where
    pub here : AnsweredUpTo (get_or answered c.at 0) (set_status (answered_at h c.at) new_status (steps_at h c.at))
    pub others : (y : ℕ) → (y ≡ c.at → ⊥) → get_or answered y 0 ≡ get_or h.answered y 0

  come : AnsweredUpTo (answered_at h c.at) (steps_at h c.at)
  come = (v.slots_ok c.at ok.stands).come_so_far

  pub at_slot : c.at < max_sequence
  at_slot = stands_below h c.at v ok.stands

  -- the place of the stage
  pub at_place : open_of h c.at < max_sequence * max_commands
  at_place = place-within h c.at v ok.stands (answered_at h c.at) ok.not_all

  new_steps : length h.stage ≡ max_sequence * max_commands →
      steps_from (with_stages (rows_of h) new_stages) c.due_then (from_of c.at) (get_or h.counts c.at 0)
      ≡ set_status (answered_at h c.at) new_status (steps_at h c.at)
  unfolding steps_at
  new_steps m = steps-staged (rows_of h) _ _ _ _ _ c.stage come ok.not_all (omega (arith, at_place))

  -- those behind it that are answered already are passed over
  pub next_open : (c.stage ≡ in_flight_code → ⊥) → length h.answered ≡ max_sequence → length h.stage ≡ max_sequence * max_commands →
      (r : ℕ) →
      FirstUnanswered new_stages (open_of h c.at + 1) (end_of h c.at) r → AnsweredNow (set h.answered c.at (r - from_of c.at))
  next_open n l m r f =
      let i = at_slot in
      let j = at_place in
      let done = sent-answered c.stage c.due_then ok.sent_or_answered n in
      let codes = codes-answered _ _ _ _ (come_codes h c.at v ok.stands) r c.stage (omega arith) done f in
      let e = get_or-set_same h.answered c.at (r - from_of c.at) 0 (omega arith) in
      let p : r ≡ from_of c.at + (r - from_of c.at) = omega (arith, codes.within.0) in
      record {
        here = rw e
            (subst (AnsweredUpTo (r - from_of c.at)) (new_steps m) (codes_upto _ _ _ _ _ _ _ p refl codes));
        others = λ y o. get_or-set_other h.answered c.at y (r - from_of c.at) 0 o;
      }

  pub no_more : c.stage ≡ in_flight_code → AnsweredNow h.answered
  no_more e =
      record {
        here = sent_stays (answered_at h c.at) (steps_at h c.at) come new_status (sent_in_flight c.stage c.due_then e)
            (omega (arith, ok.not_all, length-steps h c.at));
        others = λ y m. refl;
      }

  module _ (answered mark : List ℕ) (a : AnsweredNow answered)
      (stage-long : length h.stage ≡ max_sequence * max_commands) (due-long : length h.due_then ≡ max_sequence)
    where
      abbrev new_due : List ℤ
      new_due = set h.due_then c.at c.due_then

      abbrev now_staged : HubState
      now_staged = moved_rows h answered new_due new_stages mark

      steps-here : steps_at now_staged c.at ≡ set_status (answered_at h c.at) new_status (steps_at h c.at)
      unfolding steps_at
      steps-here =
          let i = at_slot in
          rw (get_or-set_same h.due_then c.at c.due_then (pos 0) (omega arith)) (new_steps stage-long)

      steps-others : (y : ℕ) → Stands h.links y → (y ≡ c.at → ⊥) → steps_at now_staged y ≡ steps_at h y
      unfolding steps_at
      steps-others y t n =
          let i = ok.not_all in
          rw (get_or-set_other h.due_then c.at y c.due_then (pos 0) n)
          (steps-outside (rows_of h) _ (from_of y) (get_or h.counts y 0) (open_of h c.at) c.stage
          (λ d e. places_apart h c.at v ok.stands y _ t n d e (omega arith) (omega arith)))

      stage_moved : Moved h c.at answered new_due new_stages mark (set_status (answered_at h c.at) new_status (steps_at h c.at))
      stage_moved = record {
        fit = each_set_status _ new_status (steps_at h c.at) (v.slots_ok c.at ok.stands).devices_fit;
        come = a.here;
        here = steps-here;
        others = steps-others;
        as_many = a.others;
      }

      stage_sequence : members_of now_staged
          ≡ (there h c.at).ahead
          ++ (with_steps (there h c.at).it (set_status (answered_at h c.at) new_status (there h c.at).it.steps)
          ∷ (there h c.at).behind)
      unfolding there member_at
      stage_sequence = move_sequence h c.at v ok.stands stage_moved

      pub stage_applied : marks_of mark ≡ (if c.begins then put (marks_of h.mark) c.device c.id else marks_of h.mark) →
          (StateOk now_staged) × (state_of now_staged ≡ staged h c) × (InPlace h now_staged)
      unfolding state_of staged
      stage_applied e = (
        move_valid h c.at v ok.stands stage_moved,
        (λ i. with_mark (with_sequence (state_of h) (stage_sequence i)) (e i)),
        move_in_place h answered new_due new_stages mark,
      )

-- ---- the marks

pub begins_marks : (mark : List ℕ) (d id : ℕ) (t : Bool) → t ≡ true → d < length mark →
    marks_of (set mark d id) ≡ (if t then put (marks_of mark) d id else marks_of mark)
begins_marks mark d id t e h =
    rw e
    (fun_ext _ _
    (λ x. by_eq x d
    (λ q. rw (q, eq-eqb d d refl) (get_or-set_same mark d id 0 h))
    (λ n. rw (ne_eqb x d n) (get_or-set_other mark d x id 0 n))))

pub same_marks : (mark : List ℕ) (d id : ℕ) (t : Bool) → t ≡ false → marks_of mark ≡ (if t then put (marks_of mark) d id else marks_of mark)
same_marks mark d id t e = rw e
