-- `book_write::writing::put_commands` meets its contract. The loop's invariant: what is left to write, written into the buffer as it is,
-- gives what all of it gives. Assumes nothing.
use Prim.Native.Nat.{ℕ, ◌+◌, ◌*◌, ◌-◌}
use mathlib.Core.Path.{◌≡◌, sym, ap, ap₂, ◌∙◌}
use mathlib.Core.List.{List}
use native.Mathlib.Omega.{arith}
use lib.Seq.{sets}
use Rattle.rules_routine.specs.declared.Command.{Command}
use Rattle.book_layout.specs.Layout.{command_size, command_bytes, commands_bytes}
use Rattle.book_layout.specs.Writing.{command_lent, commands_lent}
use Rattle.book_write.proofs.Row.{commands-put, commands-put_end}
use Rattle.book_write.proofs.writing.put_commands.Goals as goal

pub loop-i-preserved : goal.loop-i-preserved
loop-i-preserved c = let a = c.args in
    let i = c.loop-i.i in
    let rest = commands_bytes (commands_lent a.devices.now a.tags.now a.settings.now (i + 1) (a.count - (i + 1))) in
    let p = a.from + command_size * i in
    let q : a.from + command_size * (i + 1) ≡ p + command_size = omega arith in
    let w : c.put_command.new.out
    ≡ sets c.loop-i.out p (command_bytes (command_lent a.devices.now a.tags.now a.settings.now i)) =
    c.put_command.ensures ∙ ap (λ (y : Command). sets c.loop-i.out p (command_bytes y)) c.command_in.ensures in (
      c.put_command.auto.out ∙ c.loop-i.invariant.0,
      ap₂ (λ (o : List ℕ) (k : ℕ). sets o k rest) w q
          ∙ sym (commands-put a.devices.now a.tags.now a.settings.now c.loop-i.out p i _ c.loop-i-test.true)
          ∙ c.loop-i.invariant.1,
    )

pub returns : goal.returns
returns c = let a = c.args in
    sym (commands-put_end a.devices.now a.tags.now a.settings.now _ _ _ _ c.loop-i-test.false) ∙ c.loop-i.invariant.1
