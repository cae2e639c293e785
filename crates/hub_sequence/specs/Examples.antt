-- The readings run by computation: slots 2, 0, 1 are taken in this order, and 3 is the first that is free. And what the frame of the links
-- turns down. Assumes nothing.
use Rattle.std.specs.Prelude.{ℕ, ◌≡◌, refl, [], ◌∷◌}
use Rattle.std.proofs.Common.{arith}
use Rattle.hub_sequence.specs.Lists.{placed, ahead_of_place, behind_place, without, up_to, rest, last_or}
use Rattle.hub_sequence.specs.Links.{none, along, walk, link_of, behind_of, ahead_of, row_with, end_with, slots_of, back_of, free_of}
use Rattle.hub_sequence.specs.Stays.{Stays, LinksStay}
use Rattle.hub_sequence.specs.declared.Links.{Links}

abbrev three : Links
three =
    record {
      ahead = 2 ∷ 0 ∷ none ∷ [];
      behind = 1 ∷ none ∷ 0 ∷ 5 ∷ none ∷ 4 ∷ [];
      first = 2;
      last = 1;
      free = 3;
      taken = 3;
    }

taken_three : slots_of three ≡ 2 ∷ 0 ∷ 1 ∷ []
unfolding along walk
taken_three = refl

back_three : back_of three ≡ 1 ∷ 0 ∷ 2 ∷ []
unfolding along walk
back_three = refl

free_three : free_of three ≡ 3 ∷ 5 ∷ 4 ∷ []
unfolding along walk
free_three = refl

-- ---- one link, and the two ends

behind_middle : behind_of three 0 ≡ 1
unfolding link_of
behind_middle = refl

ahead_first : ahead_of three 2 ≡ none
unfolding link_of
ahead_first = refl

behind_none : behind_of three none ≡ 2
unfolding link_of
behind_none = refl

ahead_none : ahead_of three none ≡ 1
unfolding link_of
ahead_none = refl

row_slot : row_with (2 ∷ 0 ∷ none ∷ []) 1 3 ≡ 2 ∷ 3 ∷ none ∷ []
unfolding row_with
row_slot = refl

row_none : row_with (2 ∷ 0 ∷ none ∷ []) none 3 ≡ 2 ∷ 0 ∷ none ∷ []
unfolding row_with
row_none = refl

end_slot : end_with 1 0 3 ≡ 1
unfolding end_with
end_slot = refl

end_none : end_with 1 none 3 ≡ 3
unfolding end_with
end_none = refl

-- ---- a slot comes, a slot goes

joined-behind : placed 0 3 none (2 ∷ 0 ∷ 1 ∷ []) ≡ 2 ∷ 0 ∷ 3 ∷ 1 ∷ []
joined-behind = refl

joined_front : placed none 3 none (2 ∷ 0 ∷ 1 ∷ []) ≡ 3 ∷ 2 ∷ 0 ∷ 1 ∷ []
joined_front = refl

ahead_of_it : ahead_of_place 0 none (2 ∷ 0 ∷ 1 ∷ []) ≡ 2 ∷ 0 ∷ []
ahead_of_it = refl

behind-it : behind_place 0 none (2 ∷ 0 ∷ 1 ∷ []) ≡ 1 ∷ []
behind-it = refl

left_middle : without 0 (2 ∷ 0 ∷ 1 ∷ []) ≡ 2 ∷ 1 ∷ []
left_middle = refl

-- ---- around a slot

ahead_of_one : up_to 1 (2 ∷ 0 ∷ 1 ∷ []) ≡ 2 ∷ 0 ∷ []
ahead_of_one = refl

behind_two : rest 2 (2 ∷ 0 ∷ 1 ∷ []) ≡ 0 ∷ 1 ∷ []
behind_two = refl

last_ahead : last_or none (2 ∷ 0 ∷ []) ≡ 0
last_ahead = refl

last_of_none : last_or none [] ≡ none
last_of_none = refl

-- ---- what `LinksStay` turns down

-- The link ahead of a free slot, which nobody reads, is written.
abbrev written : Links
written =
    record {
      ahead = 2 ∷ 0 ∷ none ∷ 1 ∷ [];
      behind = 1 ∷ none ∷ 0 ∷ 5 ∷ none ∷ 4 ∷ [];
      first = 2;
      last = 1;
      free = 3;
      taken = 3;
    }

-- Every reading is as it was.
back_written : back_of written ≡ back_of three
unfolding along walk
back_written = refl

stays_written : (x : ℕ) → Stays three written x
stays_written x = ((λ s. s), (λ s. s))

is_written : LinksStay three written → ⊥
unfolding link_of
is_written l =
    let e : ◌≡◌ {A = ℕ} 1 0 = l.ahead 3 (stays_written 3) (stays_written 0) (stays_written 1) in omega arith
