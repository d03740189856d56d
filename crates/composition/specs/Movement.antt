-- How a vehicle moves. It is said of any samples: of those that a run lists, and of those that the slots of a point hold.
use Rattle.std.specs.Prelude.{ℕ, ◌+◌, ◌&&◌, ◌||◌, Bool, not, nat_lt, ℤ, pos, ◌+ℤ◌, ◌-ℤ◌, ◌*ℤ◌, int_lt, int_le}
use Rattle.expr_nodes.specs.osc_base.declared.sample.Sample.{Sample}
use Rattle.expr_nodes.specs.osc_base.Comparisons.{same_number}

-- The length of a tick in milliseconds, the last tick that a run may have, the tick at which it ends, the vehicle's greatest speed and
-- acceleration in thousandths, and its samples.
pub record Course : Type 0 where
  pub tick : ℕ
  pub ticks : ℕ
  pub end : ℤ
  pub max_speed : ℤ
  pub max_acceleration : ℤ
  pub sample : ℕ → Sample

-- Speeds are millimetres a second and positions micrometres, so that in so many milliseconds a position grows by so many times the speed.
abbrev pub moves_on : ℕ → Sample → Sample → Bool
moves_on tick now next = same_number next.position (now.position +ℤ pos tick *ℤ now.speed)

-- the lane changes by at most 1
abbrev pub keeps_lane : Sample → Sample → Bool
keeps_lane now next = int_le next.lane (now.lane +ℤ pos 1) && int_le now.lane (next.lane +ℤ pos 1)

-- the speed changes by at most the greatest acceleration times the length of a tick
abbrev pub is_gentle : ℕ → ℤ → Sample → Sample → Bool
is_gentle tick max_acceleration now next =
    int_le (pos 1000 *ℤ (next.speed -ℤ now.speed)) (pos tick *ℤ max_acceleration)
    && int_le (pos 1000 *ℤ (now.speed -ℤ next.speed)) (pos tick *ℤ max_acceleration)

-- all three at once
abbrev pub is_step : ℕ → ℤ → Sample → Sample → Bool
is_step tick max_acceleration now next = moves_on tick now next && keeps_lane now next && is_gentle tick max_acceleration now next

-- at a tick up to the end the vehicle isn't too fast, and at a tick before the end it steps to the next as it may
abbrev pub moves : Course → ℕ → Bool
moves course t =
    (not (int_le (pos t) course.end) || int_le (course.sample t).speed course.max_speed)
    && (not (nat_lt t course.ticks) || (not (int_lt (pos t) course.end)
    || is_step course.tick course.max_acceleration (course.sample t) (course.sample (t + 1))))
