-- Whole numbers by steps. A step of 0 counts as 1.
use Rattle.std.specs.Prelude.{ℕ, max, ℤ, pos, ◌+ℤ◌, ◌-ℤ◌, ◌*ℤ◌}
use Rattle.std.specs.Int.{int_div_euclid, int_rem_euclid}

-- so many steps
unfoldable pub multiple : ℕ → ℤ → ℤ
multiple step count = count *ℤ pos (max 1 step)

-- how many steps there are in a number, rounded down
unfoldable pub steps_in : ℕ → ℤ → ℤ
steps_in step number = int_div_euclid number (pos (max 1 step))

-- the same, rounded up
abbrev pub steps_to : ℕ → ℤ → ℤ
steps_to step number = steps_in step (number -ℤ pos 1) +ℤ pos 1

-- how far a number is above the greatest one up to it that differs from a base by a multiple of the step
unfoldable pub excess : ℕ → ℤ → ℤ → ℤ
excess step number base = int_rem_euclid (number -ℤ base) (pos (max 1 step))

-- the greatest number up to another that differs from a base by a multiple of the step
abbrev pub greatest_to : ℕ → ℤ → ℤ → ℤ
greatest_to step base number = number -ℤ excess step number base

-- the least such number from another on
abbrev pub least_from : ℕ → ℤ → ℤ → ℤ
least_from step base number = number +ℤ excess step base number

-- the number in the middle of two others, rounded down
unfoldable pub middle : ℤ → ℤ → ℤ
middle low high = low +ℤ int_div_euclid (high -ℤ low) (pos 2)

-- an eighth of the way from one number to another, rounded down
unfoldable pub eighth : ℤ → ℤ → ℤ
eighth low high = int_div_euclid (high -ℤ low) (pos 8)
