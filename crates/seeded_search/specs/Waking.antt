-- What waking a list of rules leaves in a queue.
use Rattle.std.specs.Prelude.{◌≡◌, ℕ, true, false, List}
use Rattle.wake_ring.specs.Queue.{is_in}

-- what waited waits, and each rule of the list waits or is marked
pub record IsWokenFrom (listed marks queue later : List ℕ) : Type 0 where
  pub kept : (k : ℕ) → is_in k later ≡ false → is_in k queue ≡ false
  pub over : (k : ℕ) → is_in k listed ≡ true → is_in k later ≡ false → is_in k marks ≡ true
