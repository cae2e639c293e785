-- Document 01, "Settling". Assumes nothing.
use Rattle.std.specs.Prelude.{List, [], ◌∷◌, if◌then◌else◌}
use Rattle.rules.specs.State.{Member, State}
use Rattle.rules.specs.Answers.{Result}
use Rattle.rules.specs.Sequence.{with_sequence, with_settled, with_mark, move_marks}
use Rattle.rules.specs.Due.{after_member}

-- "it joins the settled part with its attached events, and marks equal to it become 0"
unfoldable pub join_settled : State → Member → State
join_settled s m = with_mark (with_settled s (λ d. after_member d m (s.settled_at d))) (move_marks m.id 0 s.mark)

-- "while the first in the sequence is committed"; l is what is left of the sequence
abbrev pub settle_from : State → List Member → State
settle_from s [] = with_sequence s []
settle_from s (m ∷ l) = if m.committed then settle_from (join_settled s m) l else with_sequence s (m ∷ l)

unfoldable pub settle : State → State
settle s = settle_from s s.sequence

-- "After each call"
abbrev pub settling : Result → Result
settling r = record { state = settle r.state; answers = r.answers }
