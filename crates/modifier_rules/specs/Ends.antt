-- Which ends of a modifier's range can be compared with what the modifier looks at.
use Rattle.std.specs.Prelude.{◌≡◌, ℕ, ℤ, pos, ◌-ℤ◌, ◌*ℤ◌, unsigned_abs}
use Rattle.osc_base.specs.declared.sample.Sample.{Sample}
use Rattle.osc_base.specs.declared.modifier.Kind.{Kind}
use Rattle.osc_base.specs.Number.{Number, IsLeastCommonMultiple, IsWithin}
use Rattle.osc_base.specs.Modifiers.{metres, metres_a_second, lanes}

-- no part of the comparison of two fractions passes its limit: neither the common denominator nor a numerator over it
abbrev pub AreComparable : Number → Number → Type 0
AreComparable x y =
    (common : ℕ) (left right : ℤ) → IsLeastCommonMultiple (unsigned_abs x.denominator) (unsigned_abs y.denominator) common
    → left *ℤ x.denominator ≡ x.numerator *ℤ pos common → right *ℤ y.denominator ≡ y.numerator *ℤ pos common
    → IsWithin (pos common) × IsWithin left × IsWithin right

-- a number can be compared with both ends
pub record AreEnds (low high x : Number) : Type 0 where
  pub above : AreComparable low x
  pub below : AreComparable x high

-- the ends can be compared with what a modifier looks at; some modifiers have no range
abbrev pub HasEnds : Kind → Sample → Sample → Number → Number → Type 0
HasEnds Kind.Speed own other low high = AreEnds low high (metres_a_second own.speed)
HasEnds Kind.FasterThan own other low high = AreEnds low high (metres_a_second (own.speed -ℤ other.speed))
HasEnds Kind.SlowerThan own other low high = AreEnds low high (metres_a_second (other.speed -ℤ own.speed))
HasEnds Kind.SameSpeed own other low high = Unit {0}
HasEnds Kind.Lane own other low high = AreEnds low high (lanes own.lane)
HasEnds Kind.SameLane own other low high = Unit {0}
HasEnds Kind.LeftOf own other low high = Unit {0}
HasEnds Kind.RightOf own other low high = Unit {0}
HasEnds Kind.Position own other low high = AreEnds low high (metres own.position)
HasEnds Kind.AheadOf own other low high = AreEnds low high (metres (own.position -ℤ other.position))
HasEnds Kind.Behind own other low high = AreEnds low high (metres (other.position -ℤ own.position))
