-- That a state is in order has one proof at most, so that a ghost field can say it. Assumes nothing.
use mathlib.Core.List.{List, [], ◌∷◌}
use Prim.Native.Nat.{ℕ, zero, suc}
use denote.Struct.Props as logic
use Rattle.rules.specs.Tables.{Each}
use Rattle.rules.specs.State.{Step}
use Rattle.hub_sequence.proofs.Props.{path-prop, chain-prop}
use Rattle.hub_state.specs.Valid.{StepOk, IsBehind, AnsweredUpTo, StateOk}
use Rattle.hub_state.specs.declared.HubState.{HubState}

each-prop : {A : Type 0} (P : A → Type 0) → ((x : A) → IsProp (P x)) → (l : List A) → IsProp (Each P l)
each-prop P p [] = Prim.hlevel logic.props
each-prop P p (x ∷ l) = Prim.hlevel (p x, each-prop P p l, logic.props)

step-prop : (x : Step) → IsProp (StepOk x)
step-prop x = Prim.hlevel logic.props

behind-prop : (x : Step) → IsProp (IsBehind x)
behind-prop x = Prim.hlevel logic.props

answered-prop : (n : ℕ) (l : List Step) → IsProp (AnsweredUpTo n l)
answered-prop zero [] = Prim.hlevel logic.props
answered-prop zero (x ∷ l) = Prim.hlevel (each-prop IsBehind behind-prop l, logic.props)
answered-prop (suc n) [] = Prim.hlevel logic.props
answered-prop (suc n) (x ∷ l) = Prim.hlevel (answered-prop n l, logic.props)

pub state-prop : (h : HubState) → IsProp (StateOk h)
state-prop h = Prim.hlevel (path-prop, chain-prop, each-prop StepOk step-prop, answered-prop, logic.props)
