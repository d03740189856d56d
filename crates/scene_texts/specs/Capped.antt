-- Counts as the program keeps them: a count of more than 64 bits is kept as the greatest number of 64 bits.
use Rattle.std.specs.Prelude.{ℕ, ◌-◌, ◌^◌, min}

-- the greatest count
abbrev pub greatest_count : ℕ
greatest_count = 2 ^ 64 - 1

-- a count as it is kept
unfoldable pub capped : ℕ → ℕ
capped n = min n greatest_count
