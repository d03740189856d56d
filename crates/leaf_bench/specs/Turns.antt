-- What becomes of a queue in a turn, and what turns answer.
use Rattle.std.specs.Prelude.{ℕ, zero, suc, ◌+◌, ◌*◌, ◌%◌, not, List, [], ◌∷◌, ◌++◌, unwrap_or, if◌then◌else◌}
use Rattle.std.specs.Int.{from_bool}
use Rattle.wake_ring.specs.Queue.{is_in, without, first, rest}

-- a number put last, unless it is there
abbrev pub with_last : ℕ → List ℕ → List ℕ
with_last i xs = if is_in i xs then xs else xs ++ i ∷ []

-- the number that a turn pushes second, and the number that it removes
abbrev pub second_number : ℕ → ℕ
second_number number = (number * 5 + 17) % 64

abbrev pub removed_number : ℕ → ℕ
removed_number number = (number * 3) % 64

-- the queue after a turn's two pushes, after its removal, and after it took the first number
abbrev pub after_pushes : ℕ → List ℕ → List ℕ
after_pushes number xs = with_last (second_number number) (with_last number xs)

abbrev pub after_removal : ℕ → List ℕ → List ℕ
after_removal number xs = without (removed_number number) (after_pushes number xs)

abbrev pub turned : ℕ → List ℕ → List ℕ
turned number xs = rest (after_removal number xs)

-- what a turn answers: 1 for each of its first three calls that returns true, and the number that it takes, if there is one
abbrev pub answer : ℕ → List ℕ → ℕ
answer number xs =
    from_bool (not (is_in number xs)) + from_bool (not (is_in (second_number number) (with_last number xs)))
    + from_bool (is_in (removed_number number) (after_pushes number xs)) + unwrap_or (first (after_removal number xs)) 0

-- the queue after so many turns of the empty one; their numbers count from 0 to 63, over and over
abbrev pub queue_after : ℕ → List ℕ
queue_after zero = []
queue_after (suc turns) = turned (turns % 64) (queue_after turns)

-- what these turns answer together
abbrev pub sum_after : ℕ → ℕ
sum_after zero = 0
sum_after (suc turns) = sum_after turns + answer (turns % 64) (queue_after turns)
