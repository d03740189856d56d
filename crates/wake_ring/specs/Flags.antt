-- Numbers that are flagged in a row.
use Rattle.std.specs.Prelude.{◌≡◌, ℕ, ◌+◌, ◌<◌, ◌^◌, Bool, false, if◌then◌else◌, List, [], ◌∷◌, length, get_or}
use Rattle.wake_ring.specs.Queue.{Queue}

-- whether the number k is flagged
abbrev pub flag_at : List Bool → ℕ → Bool
flag_at flags k = get_or flags k false

-- the flagged numbers, ascending, where the first flag is that of k
abbrev pub flagged_from : ℕ → List Bool → List ℕ
flagged_from k [] = []
flagged_from k (b ∷ bs) = if b then k ∷ flagged_from (k + 1) bs else flagged_from (k + 1) bs

abbrev pub flagged : List Bool → List ℕ
flagged flags = flagged_from 0 flags

-- so many numbers are flagged, and the queue is one of numbers with flags
pub record IsFlagged (flags : List Bool) (counted : ℕ) (q : Queue) : Type 0 where
  pub few : length flags < 2 ^ 32
  pub count : counted ≡ length (flagged flags)
  pub bound : q.bound ≡ length flags
