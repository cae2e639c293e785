-- What the functions that fill in a newcomer's rows ask and promise. Assumes nothing.
use Rattle.std.specs.Prelude.{◌≡◌, Bool, false, List, ℕ, suc, ◌+◌, ◌*◌, ◌≤◌, ◌<◌, pos, get_or, if◌then◌else◌}
use Rattle.rules_routine.specs.Limits.{max_commands, max_sequence}
use Rattle.rules_routine.specs.Routine.{zero_command}
use Rattle.rules_routine.specs.declared.Command.{Command}
use Rattle.rules_routine.specs.declared.Routine.{Routine}
use Rattle.hub_sequence.specs.Lists.{count}
use Rattle.hub_sequence.specs.Links.{along, Walks}
use Rattle.hub_sequence.specs.declared.Links.{Links}
use Rattle.hub_state.specs.Valid.{highest_passed}
use Rattle.hub_apply.specs.declared.fill.CommandRows.{CommandRows}

-- ---- a slot's part of a row

-- The n entries from a place on are these values; all others are as they were. `missing`: what is read past the row's end.
pub record Fills {A : Type 0} (missing : A) (row : List A) (from n : ℕ) (value : ℕ → A) (r : List A) : Type 0 where
  pub inside : (j : ℕ) → j < n → get_or r (from + j) missing ≡ value j
  pub outside : (i : ℕ) → ((j : ℕ) → j < n → i ≡ from + j → ⊥) → get_or r i missing ≡ get_or row i missing

abbrev pub command_in : Routine → ℕ → Command
command_in q j = get_or q.commands j zero_command

-- The commands of the routine have places in the rows.
pub record CanFill (slot : ℕ) (q : Routine) : Type 0 where
  pub slot_fits : slot < max_sequence
  pub few : q.count ≤ max_commands

-- The commands of the routine stand in the slot's part of each row.
pub record FillsCommands (rows : CommandRows) (slot : ℕ) (q : Routine) (r : CommandRows) : Type 0 where
  pub devices : Fills 0 rows.device (slot * max_commands) q.count (λ j. (command_in q j).device) r.device
  pub tags : Fills 0 rows.tag (slot * max_commands) q.count (λ j. (command_in q j).tag) r.tag
  pub settings : Fills (pos 0) rows.setting (slot * max_commands) q.count (λ j. (command_in q j).setting) r.setting

-- ---- pass counts

-- The slots behind a slot, along the links.
abbrev pub behind_slot : Links → ℕ → List ℕ
behind_slot k slot = along k.behind (get_or k.behind slot 0)

-- The slots behind can be walked, the newcomer's is not among them, and each that runs can be passed once more.
pub record CanPassBehind (row : List ℕ) (k : Links) (committed : List Bool) (slot : ℕ) : Type 0 where
  pub slot_fits : slot < max_sequence
  pub walks : Walks k.behind (get_or k.behind slot 0)
  pub apart : count slot (behind_slot k slot) ≡ 0
  pub room : (x : ℕ) → 1 ≤ count x (behind_slot k slot) → get_or committed x false ≡ false → get_or row x 0 < highest_passed

-- A pass count once a newcomer was placed ahead.
abbrev pub once_more : Bool → ℕ → ℕ
once_more committed n = if committed then n else suc n

pub record PassesBehind (row : List ℕ) (k : Links) (committed : List Bool) (slot : ℕ) (r : List ℕ) : Type 0 where
  pub newcomer : get_or r slot 0 ≡ 0
  pub behind : (x : ℕ) → 1 ≤ count x (behind_slot k slot) → get_or r x 0 ≡ once_more (get_or committed x false) (get_or row x 0)
  pub others : (x : ℕ) → (x ≡ slot → ⊥) → count x (behind_slot k slot) ≡ 0 → get_or r x 0 ≡ get_or row x 0
