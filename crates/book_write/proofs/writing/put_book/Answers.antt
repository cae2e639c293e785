-- `book_write::writing::put_book` meets its contract: the three parts one after another. Assumes nothing.
use Prim.Native.Nat.{ℕ}
use mathlib.Core.Path.{ap, ◌∙◌}
use mathlib.Core.List.{List}
use native.Mathlib.Omega.{arith}
use lib.ListN.{length}
use lib.Seq.{sets}
use Rattle.book_layout.specs.Numbers.{two_bytes}
use Rattle.book_layout.specs.Layout.{count_size, pairs_end, commands_bytes}
use Rattle.book_layout.specs.Writing.{commands_lent}
use Rattle.book_write.specs.Count.{pairs_counted}
use Rattle.book_write.proofs.Row.{length-book, book-put, two_le}
use Rattle.book_write.proofs.writing.put_book.Goals as goal

pub put-requires : goal.put-requires
put-requires c = let a = c.args in
    omega (arith, c.requires, length-book a.devices.now a.tags.now a.settings.now a.counts.now)

pub put_pairs-requires : goal.put_pairs-requires
put_pairs-requires c = let a = c.args in
    let k = c.put.auto.out in
    (c.requires.0, omega (arith, c.requires, length-book a.devices.now a.tags.now a.settings.now a.counts.now, k))

pub put_commands-requires : goal.put_commands-requires
put_commands-requires c = let a = c.args in
    let k = c.put_pairs.auto.out ∙ c.put.auto.out in
    omega (arith, c.requires, length-book a.devices.now a.tags.now a.settings.now a.counts.now, k)

pub returns : goal.returns
returns c = let a = c.args in
    let first = pairs_end (length a.counts.now) in
    let pairs = pairs_counted first a.counts.now in
    let row : ℕ → List ℕ = λ k. commands_bytes (commands_lent a.devices.now a.tags.now a.settings.now 0 k) in
    let count = c.put.ensures ∙ ap (λ (b : List ℕ). sets a.out.now 0 b) (c.to_le_bytes.ensures ∙ two_le _ (omega arith)) in
    c.put_commands.ensures
    ∙ ap (λ (o : List ℕ). sets o first (row a.commands)) (c.put_pairs.ensures
    ∙ ap (λ (o : List ℕ). sets o count_size pairs) count)
    ∙ ap (λ (k : ℕ). sets (sets (sets a.out.now 0 (two_bytes (length a.counts.now))) count_size pairs) first (row k)) c.requires.1
    ∙ book-put a.devices.now a.tags.now a.settings.now a.counts.now a.out.now
