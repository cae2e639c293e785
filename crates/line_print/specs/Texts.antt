-- What is printed of the values that the code has: an opening's verdict, the answers of an abort, the devices. Assumes nothing.
use Rattle.rules_routine.specs.Refusals.{Verdict}
use Rattle.std.specs.Prelude.{◌≡◌, false, List, [], ◌++◌, ℕ, zero, suc, pos, get_or, Ok, Err, Option, None, Some}
use Rattle.rules.specs.Answers.{Back}
use Rattle.hub_answers.specs.View.{answer_of}
use Rattle.hub_answers.specs.declared.Answer.{Answer}
use Rattle.hub_answers.specs.declared.Answer.TheVariants.{Aborted}
use Rattle.line_rules.specs.Text.{bytes}
use Rattle.line_rules.specs.Printing.{as_line, refusal_text, device_text_of}
use Rattle.line_print.specs.declared.Devices.{Devices}

-- What an opening prints.
abbrev pub opening_text : Verdict → List ℕ
opening_text (Ok tt) = as_line (bytes "opened")
opening_text (Err r) = as_line (refusal_text r)

-- What is put back stands beside the abort alone: behind an abort comes an answer that puts nothing back.
abbrev pub PutBacksOnce : Option ℕ → Answer → List Back → Type 0
PutBacksOnce (Some i) a l = answer_of a [] ≡ answer_of a l
PutBacksOnce None a l = (i : ℕ) × (a ≡ Aborted i)

-- "one line a device, with its due setting if it is up"
abbrev pub line_of : Devices → ℕ → List ℕ
line_of t d = as_line (device_text_of d (get_or t.up d false) (get_or t.due d (pos 0)))

-- So many devices, from d on.
unfoldable pub lines_from : Devices → ℕ → ℕ → List ℕ
lines_from t d zero = []
lines_from t d (suc left) = line_of t d ++ lines_from t (suc d) left

abbrev pub devices_text : Devices → List ℕ
devices_text t = lines_from t 0 t.count
