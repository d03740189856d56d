-- Numbers that are listed, and flags that tell which.
use Rattle.std.specs.Prelude.{◌≡◌, ℕ, ◌<◌, ◌≤◌, Bool, false, List, length, slice_index_or}
use Rattle.wake_ring.specs.Queue.{is_in}
use Rattle.wake_ring.specs.Order.{IsDistinct, AllBelow}

-- distinct numbers, each with a flag that is true for those alone, and a list that has room for all of them
pub record IsMarkList (listed : List ℕ) (room : ℕ) (flags : List Bool) : Type 0 where
  pub long : length flags ≤ room
  pub distinct : IsDistinct listed
  pub below : AllBelow (length flags) listed
  pub told : (k : ℕ) → k < length flags → slice_index_or flags k false ≡ is_in k listed
