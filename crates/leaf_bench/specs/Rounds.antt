-- What becomes of a trail in a round.
use Rattle.std.specs.Prelude.{◌≡◌, ℕ, ◌&&◌, ◌<◌, nat_lt, int_lt, pos, ◌-ℤ◌, ◌<ℤ◌, length, if◌then◌else◌}
use Rattle.box_eval.specs.Box.{low_at, high_at, up_to}
use Rattle.bound_trail.specs.History.{History, mark_of, present, with_box}

-- a slot's high end lowered by one, if there is room for a set and the slot has more than one value
abbrev pub lowered : History → ℕ → History
lowered history slot =
    let ends = present history in
    if nat_lt (mark_of history) history.room && int_lt (low_at ends slot) (high_at ends slot)
    then with_box history (up_to ends slot (high_at ends slot -ℤ pos 1)) else history

-- a trail of 32 slots that each have more than one value, on which no set stands, with a place for a set of each
pub record IsReady (history : History) : Type 0 where
  pub fresh : length history.boxes ≡ 1
  pub slots : length (present history) ≡ 32
  pub room : history.room ≡ 32
  pub wide : (slot : ℕ) → slot < 32 → low_at (present history) slot <ℤ high_at (present history) slot
