-- Answers by value read as answers of the rules. For each case of each enum it is set out here which answer of document 01 it is, and with
-- which values. (For `Refusal` that is `number_of` and `index_of` of crate `rules_routine`: for each cause its number and index.)
-- Assumes nothing.
use Rattle.std.specs.Prelude.{Bool, true, false, List, [], ◌∷◌, ◌++◌, map, ◌≤◌, take, Option, ℕ, None, Some}
use Rattle.rules_routine.specs.Limits.{max_devices}
use Rattle.rules.specs.Answers.{Back, Answer as Told, refused, placed, wait, send, done, skipped, held, not_held, committed, aborted, down}
use Rattle.rules.specs.Answers.{up, limited}
use Rattle.hub_answers.specs.declared.Answer.{Answer}
use Rattle.hub_answers.specs.declared.Answer.TheVariants.{Refused, Placed, Wait, Sent, Done, Skipped, Committed, Aborted, Down, Up}
use Rattle.hub_answers.specs.declared.Answer.TheVariants.{Limited, Held, NotHeld}
use Rattle.hub_answers.specs.declared.PutBack.{PutBack}
use Rattle.hub_answers.specs.declared.PutBacks.{PutBacks}

abbrev pub back_of : PutBack → Back
back_of b = record { device = b.device; setting = b.setting }

abbrev pub put_backs_of : PutBacks → List Back
put_backs_of b = map back_of (take b.count b.items)

-- None or one.
abbrev pub one_of : Option PutBack → List Back
one_of None = []
one_of (Some b) = back_of b ∷ []

-- The put-backs fit their array.
abbrev pub PutBacksOk : PutBacks → Type 0
PutBacksOk b = b.count ≤ max_devices

-- A case of the answer, with what is put back.
abbrev pub answer_of : Answer → List Back → Told
answer_of (Refused r) l = refused r
answer_of (Placed p) l = placed p.id p.after
answer_of (Wait i j) l = wait i j
answer_of (Sent x) l = send x.id x.command
answer_of (Done i) l = done i
answer_of (Skipped i) l = skipped i l
answer_of (Committed i) l = committed i
answer_of (Aborted i) l = aborted i l
answer_of (Down d i) l = down d i
answer_of (Up d i) l = up d i
answer_of (Limited k) l = limited k
answer_of (Held i) l = held i
answer_of (NotHeld i) l = not_held i

-- The abort that a failure or a restart brings comes first.
abbrev pub event_abort_of : Option ℕ → List Back → List Told
event_abort_of None l = []
event_abort_of (Some i) l = aborted i l ∷ []

-- What is answered, one for each line that document 01 prints.
abbrev pub answers_of : Option ℕ → Answer → PutBacks → List Told
answers_of first answer backs = event_abort_of first (put_backs_of backs) ++ (answer_of answer (put_backs_of backs) ∷ [])

-- What answers put back.
abbrev pub put_backs_in : List Told → List Back
put_backs_in [] = []
put_backs_in (refused r ∷ l) = put_backs_in l
put_backs_in (placed i j ∷ l) = put_backs_in l
put_backs_in (wait i j ∷ l) = put_backs_in l
put_backs_in (send i c ∷ l) = put_backs_in l
put_backs_in (done i ∷ l) = put_backs_in l
put_backs_in (skipped i b ∷ l) = b ++ put_backs_in l
put_backs_in (committed i ∷ l) = put_backs_in l
put_backs_in (aborted i b ∷ l) = b ++ put_backs_in l
put_backs_in (down d i ∷ l) = put_backs_in l
put_backs_in (up d i ∷ l) = put_backs_in l
put_backs_in (limited k ∷ l) = put_backs_in l
put_backs_in (held i ∷ l) = put_backs_in l
put_backs_in (not_held i ∷ l) = put_backs_in l

-- A refusal and a wait change nothing.
abbrev pub changes_nothing : Answer → Bool
changes_nothing (Refused r) = true
changes_nothing (Placed p) = false
changes_nothing (Wait i j) = true
changes_nothing (Sent x) = false
changes_nothing (Done i) = false
changes_nothing (Skipped i) = false
changes_nothing (Committed i) = false
changes_nothing (Aborted i) = false
changes_nothing (Down d i) = false
changes_nothing (Up d i) = false
changes_nothing (Limited k) = false
changes_nothing (Held i) = false
changes_nothing (NotHeld i) = false
