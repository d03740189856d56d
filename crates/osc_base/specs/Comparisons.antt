-- Comparisons of numbers.
use Rattle.std.specs.Prelude.{ℕ, ◌^◌, ◌&&◌, Bool, not, ℤ, ◌*ℤ◌, int_lt, int_le, unsigned_abs, nat_lt}
use Rattle.osc_base.specs.Number.{Number}

-- two whole numbers are equal
abbrev pub same_number : ℤ → ℤ → Bool
same_number a b = int_le a b && int_le b a

-- two fractions stand for one number
abbrev pub is_same : Number → Number → Bool
is_same x y = same_number (x.numerator *ℤ y.denominator) (y.numerator *ℤ x.denominator)

-- a number is less than another
abbrev pub is_less : Number → Number → Bool
is_less x y = int_lt (x.numerator *ℤ y.denominator) (y.numerator *ℤ x.denominator)

-- a number is at most another
abbrev pub is_at_most : Number → Number → Bool
is_at_most x y = int_le (x.numerator *ℤ y.denominator) (y.numerator *ℤ x.denominator)

-- a number is in the range that holds both ends
abbrev pub is_between : Number → Number → Number → Bool
is_between low high x = is_at_most low x && is_at_most x high

-- the greatest magnitude of a part of a calculation
abbrev pub greatest_part : ℕ
greatest_part = 2 ^ 120

-- a part of a calculation within the limit
abbrev pub is_within : ℤ → Bool
is_within part = not (nat_lt greatest_part (unsigned_abs part))
