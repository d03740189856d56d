-- Numbers in lowest terms, and common multiples.
use Rattle.std.specs.Prelude.{ℕ, zero, suc, ◌*◌, ◌/◌, ◌%◌, ◌^◌, ℤ, pos, negsuc, neg_ℤ, unsigned_abs}
use Rattle.osc_base.specs.Number.{Number}

-- the greatest common divisor, by Euclid: each step leaves a lesser b, so b steps are enough
abbrev pub gcd_within : ℕ → ℕ → ℕ → ℕ
gcd_within zero a b = a
gcd_within (suc steps) a zero = a
gcd_within (suc steps) a (suc b) = gcd_within steps (suc b) (a % suc b)

-- the greatest common divisor of two numbers
unfoldable pub gcd : ℕ → ℕ → ℕ
gcd a b = gcd_within (suc b) a b

-- the least common multiple of two numbers above 0
unfoldable pub lcm : ℕ → ℕ → ℕ
lcm a b = a * (b / gcd a b)

-- a whole number over one above 0, rounded down
abbrev pub floor_over : ℤ → ℕ → ℤ
floor_over (pos n) d = pos (n / d)
floor_over (negsuc n) d = negsuc (n / d)

-- a whole number over one that divides it
abbrev pub share : ℤ → ℕ → ℤ
share (pos n) d = pos (n / d)
share (negsuc n) d = neg_ℤ (pos (suc n / d))

-- a fraction with a denominator above 0, in lowest terms
abbrev pub lowest : ℤ → ℕ → Number
lowest top bottom = record { numerator = share top (gcd (unsigned_abs top) bottom); denominator = pos (bottom / gcd (unsigned_abs top) bottom) }

-- a decimal: its digits, and how many of them are after the point
abbrev pub decimal_number : ℕ → ℕ → Number
decimal_number digits places = lowest (pos digits) (10 ^ places)
