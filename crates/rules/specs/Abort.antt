-- Document 01, "Abort of R". Assumes nothing.
use Rattle.std.specs.Prelude.{Bool, not, ◌&&◌, ◌||◌, List, [], ◌∷◌, ◌++◌, ℕ, zero, suc, if◌then◌else◌}
use Rattle.rules.specs.Tables.{any_of, same_setting}
use Rattle.rules.specs.State.{Member, State}
use Rattle.rules.specs.Answers.{Back, Result, aborted}
use Rattle.rules.specs.Progress.{in_flight_on}
use Rattle.rules.specs.Due.{due}
use Rattle.rules.specs.Sequence.{Found, last_id_or, with_sequence, with_mark, move_marks}
use Rattle.rules.specs.Attach.{attach}

-- "R leaves the sequence. Marks that were R become the routine before it in the sequence, or 0; events attached to R move there, in their
-- order, behind those already there."
unfoldable pub leave : State → Found → State
leave s f =
    let before = last_id_or 0 f.ahead in
    attach before f.it.restarts (with_mark (with_sequence s (f.ahead ++ f.behind)) (move_marks f.it.id before s.mark))

-- Is D put back by the abort of m, which took the hub from s to t? "A device that is up, with no command of another routine in flight on
-- it, is sent its due setting exactly if that changed by the abort or R had a command in flight on it".
unfoldable pub is_put_back : State → Member → State → ℕ → Bool
is_put_back s m t d =
    t.up d && not (any_of (in_flight_on d) t.sequence) && (not (same_setting (due s d) (due t d)) || in_flight_on d m)

-- "These go out by rising device": the put-backs of the `left` devices from d on.
unfoldable pub put_backs : State → Member → State → ℕ → ℕ → List Back
put_backs s m t d zero = []
put_backs s m t d (suc left) =
    if is_put_back s m t d then record { device = d; setting = due t d } ∷ put_backs s m t (suc d) left else put_backs s m t (suc d) left

unfoldable pub abort : State → Found → Result
abort s f = record { state = leave s f; answers = aborted f.it.id (put_backs s f.it (leave s f) 0 s.devices) ∷ [] }
