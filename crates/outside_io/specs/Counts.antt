-- Counts of faults and of calls, which stop at the last value of a u64.
use Rattle.std.specs.Prelude.{◌≡◌, ℕ, ◌+◌, ◌-◌, ◌^◌, min}

-- the number after a number; the last one stays
abbrev pub following : ℕ → ℕ
following number = min (number + 1) (2 ^ 64 - 1)

-- a count rose by one, or stands at the last value of a u64
abbrev pub Rises : ℕ → ℕ → Type 0
Rises before after = after ≡ following before
