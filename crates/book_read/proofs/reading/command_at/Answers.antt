-- `book_read::reading::command_at` meets its contract. Assumes nothing.
use Rattle.std.proofs.Common.{◌≡◌, ap₂, ◌∙◌, rules, to_z, of_z}
use mir.Syntax.{w16}
use Rattle.book_layout.specs.Numbers.{setting_of}
use Rattle.book_layout.specs.Layout.{command_at}
use Rattle.book_read.proofs.reading.command_at.Goals as goal

pub returns : goal.returns
unfolding command_at
returns c = let e : to_z w16 (of_z w16 c.setting_of.result) ≡ c.setting_of.result = search rules in
    let f = c.setting_of.ensures ∙ ap₂ setting_of c.byte_at-3.ensures c.byte_at-4.ensures in
    λ i. record { device = c.byte_at.ensures i; tag = c.byte_at-2.ensures i; setting = (e ∙ f) i }
