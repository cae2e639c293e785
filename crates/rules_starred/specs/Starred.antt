-- Document 01, "Examples from the exam hall": "Those with ★ are proved together as one list checked by one theorem". They stand in the
-- document's order. Assumes nothing.
use Rattle.std.specs.Prelude.{List, [], ◌∷◌}
use Rattle.rules.specs.Examples.{Example as HubExample, Holds as HubHolds, listing, passing, ring, later_stands, back_twice}
use Rattle.rules.specs.Examples.{in_flight_at_cancel, on_down, limits, full, hub_examples_hold}
use Rattle.book_layout.specs.Examples.{Example as BookExample, Holds as BookHolds, empty_book, cut_book, book_examples_hold}

pub data Starred : Type 0 where
  of_hub : HubExample → Starred
  of_book : BookExample → Starred

abbrev pub Holds : Starred → Type 0
Holds (of_hub e) = HubHolds e
Holds (of_book e) = BookHolds e

abbrev pub AllHold : List Starred → Type 0
AllHold [] = Unit {0}
AllHold (x ∷ l) = Holds x × AllHold l

abbrev pub starred : List Starred
starred = of_hub listing ∷ of_hub passing ∷ of_hub ring ∷ of_hub later_stands ∷ of_hub back_twice ∷ of_hub in_flight_at_cancel ∷ of_hub on_down ∷
    of_hub limits ∷ of_hub full ∷ of_book empty_book
    ∷ of_book cut_book ∷ []

pub starred_hold : AllHold starred
starred_hold =
    let h = hub_examples_hold in
    let b = book_examples_hold in (
      h.0,
      (
        h.1.0,
        (
          h.1.1.0,
          (
            h.1.1.1.0,
            (
              h.1.1.1.1.0,
              (
                h.1.1.1.1.1.0,
                (h.1.1.1.1.1.1.0, (h.1.1.1.1.1.1.1.0, (h.1.1.1.1.1.1.1.1.0, (b.0, (b.1.0, tt))))),
              ),
            ),
          ),
        ),
      ),
    )
