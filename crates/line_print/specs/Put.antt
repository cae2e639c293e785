-- Text put into a buffer from a place on, and how long the texts are. Assumes nothing.
use Rattle.std.specs.Prelude.{◌≡◌, List, ℕ, ◌+◌, ◌-◌, ◌*◌, ◌≤◌, length}
use Rattle.std.proofs.lemmas.List.Edits.{sets}
use Rattle.rules_routine.specs.Limits.{max_devices}

-- A number of 64 bits has at most so many digits; a setting has at most five, perhaps with a minus.
abbrev pub max_digits : ℕ
max_digits = 20

abbrev pub max_setting : ℕ
max_setting = 6

-- A device and a setting that were put back: at most three digits and a setting, with a space before each.
abbrev pub max_put_back : ℕ
max_put_back = 5 + max_setting

-- All that an answer puts back: eight bytes for the word and the count, and no device twice.
abbrev pub max_put_backs : ℕ
max_put_backs = 8 + max_devices * max_put_back

-- A number is given the room of the most digits before it is put: so much more than one device and its setting have.
abbrev pub ahead : ℕ
ahead = 1 + max_digits - max_put_back

-- No answer is longer.
abbrev pub max_answer : ℕ
max_answer = 399

-- Nor is one with its line's end longer than half a text.
abbrev pub half_text : ℕ
half_text = max_answer + 1

-- The answers of a line are two at most.
abbrev pub max_text : ℕ
max_text = 2 * half_text

-- No device line is longer.
abbrev pub max_device_line : ℕ
max_device_line = 25

-- Nor are all of them.
abbrev pub max_end : ℕ
max_end = max_devices * max_device_line

-- The buffer has the text from a place on, as far as it reaches; and the place behind the text.
pub record Put (before after : List ℕ) (at end : ℕ) (text : List ℕ) : Type 0 where
  pub is : after ≡ sets before at text
  pub ends : end ≡ at + length text

-- The same, of a text that is not longer than this.
pub record PutShort (most : ℕ) (before after : List ℕ) (at end : ℕ) (text : List ℕ) : Type 0 where
  pub put : Put before after at end text
  pub short : length text ≤ most
