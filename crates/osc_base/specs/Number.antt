-- Numbers as fractions without limit.
use Rattle.std.specs.Prelude.{◌≡◌, ℕ, ◌^◌, ◌≤◌, ℤ, pos, ◌+ℤ◌, ◌*ℤ◌, ◌≤ℤ◌, ◌<ℤ◌, unsigned_abs}
use Rattle.std.specs.Int.{◌∣◌}
use Rattle.std.specs.Ordering.{int_cmp}
use Rattle.std.specs.declared.cmp.Ordering.{Ordering}

-- a number: a numerator over a denominator, which is above 0
pub record Number : Type 0 where
  pub numerator : ℤ
  pub denominator : ℤ

-- they are one number, with equal or with other terms
abbrev pub IsSame : Number → Number → Type 0
IsSame x y = x.numerator *ℤ y.denominator ≡ y.numerator *ℤ x.denominator

abbrev pub whole : ℤ → Number
whole count = record { numerator = count; denominator = pos 1 }

abbrev pub half : Number
half = record { numerator = pos 1; denominator = pos 2 }

abbrev pub plus : Number → Number → Number
plus x y = record {
  numerator = x.numerator *ℤ y.denominator +ℤ y.numerator *ℤ x.denominator;
  denominator = x.denominator *ℤ y.denominator;
}

abbrev pub product : Number → Number → Number
product x y = record { numerator = x.numerator *ℤ y.numerator; denominator = x.denominator *ℤ y.denominator }

-- whether a number is less than another, equal to it or greater
abbrev pub order : Number → Number → Ordering
order x y = int_cmp (x.numerator *ℤ y.denominator) (y.numerator *ℤ x.denominator)

-- the greatest whole number that isn't above a number
pub record IsFloor (x : Number) (floor : ℤ) : Type 0 where
  pub not_above : (floor *ℤ x.denominator) ≤ℤ x.numerator
  pub next_above : x.numerator <ℤ ((floor +ℤ pos 1) *ℤ x.denominator)

-- the nearest whole number of thousandths, halves upward
abbrev pub IsNearestThousandth : Number → ℤ → Type 0
IsNearestThousandth x count = IsFloor (plus (product (whole (pos 1000)) x) half) count

-- a part of a calculation is at most 2^120 in magnitude
abbrev pub IsWithin : ℤ → Type 0
IsWithin part = unsigned_abs part ≤ 2 ^ 120

-- both numbers divide it, and it divides each number that both divide
pub record IsLeastCommonMultiple (a b multiple : ℕ) : Type 0 where
  pub first : a ∣ multiple
  pub second : b ∣ multiple
  pub least : (other : ℕ) → a ∣ other → b ∣ other → multiple ∣ other
