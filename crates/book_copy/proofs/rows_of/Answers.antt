-- `book_copy::rows_of` meets its contract. Assumes nothing.
use Rattle.std.proofs.Common.{◌≡◌, ℕ, Ok, sym, ap, ◌∙◌, arith}
use Rattle.std.proofs.lemmas.Result.{err_from_is_err_and}
use Rattle.book_layout.specs.Reading.{book_check}
use Rattle.book_layout.proofs.RoundTrip.{hands-accepted}
use Rattle.book_copy.proofs.rows_of.Goals as goal

pub returns-in_err-check : goal.returns-in_err-check
returns-in_err-check c = let b = c.args.book.now in
    let p = err_from_is_err_and c.from_residual.result c.from_residual.ensures.1 in
    let e : book_check b ≡ _ = sym c.check.ensures ∙ c.in_err-check.was in
    record {
      accepted = λ rs h. let a = hands-accepted b rs h in let z : ◌≡◌ {A = ℕ} 0 1 = cc in absurd (omega arith);
      refused = λ x f. let q = p.1 in let r = p.2 in cc;
    }

pub read_all-requires : goal.read_all-requires
read_all-requires c = sym c.check.ensures ∙ c.in_ok-check.was

pub returns : goal.returns
returns c = let e = sym c.check.ensures ∙ c.in_ok-check.was in
    record {
      accepted = λ rs h. ap Ok (c.read_all.ensures rs h);
      refused = λ x f. let z : ◌≡◌ {A = ℕ} 0 1 = cc in absurd (omega arith);
    }
