-- The words that the line program prints: document 01, "The line program". Assumes nothing.
use Rattle.rules_routine.specs.Refusals.{number_of, index_of}
use Rattle.std.specs.Prelude.{Bool, Option, None, Some, List, [], ◌∷◌, ◌++◌, ℕ, zero, suc, ℤ, length, if◌then◌else◌}
use Rattle.rules_routine.specs.declared.refusals.Refusal.{Refusal}
use Rattle.rules.specs.State.{State}
use Rattle.rules.specs.Due.{due}
use Rattle.rules.specs.Answers.{Back, Answer, refused, placed, wait, send, done, skipped, held, not_held, committed, aborted, down, up}
use Rattle.rules.specs.Answers.{limited}
use Rattle.line_rules.specs.Text.{line_end, bytes, decimal, signed}

-- "Refusals print `refused`, the number and the index if there is one."
unfoldable pub index_text : Option ℕ → List ℕ
index_text None = []
index_text (Some i) = bytes " " ++ decimal i

unfoldable pub refusal_text : Refusal → List ℕ
refusal_text r = bytes "refused " ++ decimal (number_of r) ++ index_text (index_of r)

-- "`back` a count, then device and setting for each"
unfoldable pub back_list : List Back → List ℕ
back_list [] = []
back_list (b ∷ bs) = bytes " " ++ decimal b.device ++ bytes " " ++ signed b.setting ++ back_list bs

unfoldable pub back_text : List Back → List ℕ
back_text bs = bytes " back " ++ decimal (length bs) ++ back_list bs

-- "`skipped 1` (followed by `back` in the same form where a setting was sent back)"
unfoldable pub back_if_any : List Back → List ℕ
back_if_any [] = []
back_if_any (b ∷ bs) = back_text (b ∷ bs)

-- An answer, without the byte that ends its line: the forms of 01's listing. "`send` has id, device, setting"; "Other forms: `wait 3 on
-- 2`"; of conditions `held` or `not held` with the id (document 02, item 4). No line is answered by the last.
unfoldable pub answer_text : Answer → List ℕ
answer_text (refused r) = refusal_text r
answer_text (placed i after) = bytes "placed " ++ decimal i ++ bytes " after " ++ decimal after
answer_text (wait i on) = bytes "wait " ++ decimal i ++ bytes " on " ++ decimal on
answer_text (send i c) = bytes "send " ++ decimal i ++ bytes " " ++ decimal c.device ++ bytes " " ++ signed c.setting
answer_text (done i) = bytes "done " ++ decimal i
answer_text (skipped i bs) = bytes "skipped " ++ decimal i ++ back_if_any bs
answer_text (held i) = bytes "held " ++ decimal i
answer_text (not_held i) = bytes "not held " ++ decimal i
answer_text (committed i) = bytes "committed " ++ decimal i
answer_text (aborted i bs) = bytes "aborted " ++ decimal i ++ back_text bs
answer_text (down d after) = bytes "down " ++ decimal d ++ bytes " after " ++ decimal after
answer_text (up d after) = bytes "up " ++ decimal d ++ bytes " after " ++ decimal after
answer_text (limited k) = bytes "limited " ++ decimal k

-- "One line of output each, ended by byte 10"
abbrev pub as_line : List ℕ → List ℕ
as_line text = text ++ (line_end ∷ [])

-- The answers of a call, in turn: "an abort caused by `F` or `R` is printed first, on a line of its own".
unfoldable pub answers_text : List Answer → List ℕ
answers_text [] = []
answers_text (a ∷ l) = as_line (answer_text a) ++ answers_text l

-- "one line a device, with its due setting if it is up": of whether it is up, and that setting
abbrev pub device_text_of : ℕ → Bool → ℤ → List ℕ
device_text_of d isUp setting = bytes "device " ++ decimal d ++ (if isUp then bytes " up " ++ signed setting else bytes " down")

unfoldable pub device_text : State → ℕ → List ℕ
device_text s d = device_text_of d (s.up d) (due s d)

-- So many devices, from d on.
unfoldable pub device_lines : State → ℕ → ℕ → List ℕ
device_lines s d zero = []
device_lines s d (suc left) = as_line (device_text s d) ++ device_lines s (suc d) left
