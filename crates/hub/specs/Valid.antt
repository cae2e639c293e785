-- Validity of a hub: what `open` and `closed` give and every call keeps. Assumes nothing.
use Rattle.std.specs.Prelude.{◌≡◌, false}
use Rattle.hub_state.specs.View.{first_committed}
use Rattle.hub_state.specs.Valid.{StateOk}
use Rattle.hub.specs.View.{view}
use Rattle.hub.specs.declared.Hub.{Hub}

-- Its rows and links are in order. That much an applier gives: a routine may have to settle yet.
abbrev pub InOrder : Hub → Type 0
InOrder h = StateOk h.state.rows

-- And nothing has to settle. Document 01, "Settling": "After each call, while the first in the sequence is committed".
pub record Valid (h : Hub) : Type 0 where
  pub in_order : InOrder h
  pub at_rest : first_committed (view h).sequence ≡ false
