-- `hub_settle::settle::settles` meets its contract. Assumes nothing.
use mathlib.Core.Path.{refl}
use Rattle.hub_settle.proofs.SettleLaws.{settles-first, settles-none}
use Rattle.hub_settle.proofs.settle.settles.Goals as goal

pub returns-then-first-lt-MAX_SEQUENCE : goal.returns-then-first-lt-MAX_SEQUENCE
returns-then-first-lt-MAX_SEQUENCE c = settles-first _ _ c.args.state.ok refl c.if-first-lt-MAX_SEQUENCE.true

pub returns : goal.returns
returns c = settles-none _ _ c.args.state.ok refl c.if-first-lt-MAX_SEQUENCE.false
