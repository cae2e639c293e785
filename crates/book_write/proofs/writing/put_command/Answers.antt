-- `book_write::writing::put_command` meets its contract. Assumes nothing.
use Rattle.std.proofs.Common.{◌≡◌, ◌∷◌, [], List, ℕ, get_or, ap, ◌∙◌, rules, to_z, of_z}
use mir.Syntax.{w16}
use lib.Seq.{sets}
use Rattle.book_layout.specs.Numbers.{two_bytes, bits_of}
use Rattle.book_layout.specs.Layout.{command_bytes}
use Rattle.book_write.proofs.Row.{two_le}
use Rattle.book_write.proofs.writing.put_command.Goals as goal

pub returns : goal.returns
unfolding command_bytes two_bytes
returns c = let a = c.args in
    let z = a.command.setting in
    let e : to_z w16 (of_z w16 z) ≡ z = search rules in
    let f : c.bits_of.result ≡ bits_of z = c.bits_of.ensures ∙ ap bits_of e in
    let b = c.to_le_bytes.ensures ∙ two_le c.bits_of.result c.bits_of.type_inv ∙ ap two_bytes f in
    c.put.ensures
    ∙ ap (λ (l : List ℕ). sets a.out.now a.at (a.command.device ∷ a.command.tag ∷ get_or l 0 0 ∷ get_or l 1 0 ∷ [])) b
