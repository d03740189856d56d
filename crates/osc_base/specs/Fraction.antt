-- The numbers that fractions stand for, and what the calls of `Fraction` answer.
use Rattle.std.specs.Prelude.{◌≡◌, ◌↔◌, ℕ, ℤ, pos, ◌+ℤ◌, ◌*ℤ◌, unsigned_abs, Option, IsSome, IfSome}
use Rattle.std.specs.Ordering.{int_cmp}
use Rattle.std.specs.declared.cmp.Ordering.{Ordering}
use Rattle.osc_base.specs.declared.fraction.Fraction.{Fraction}
use Rattle.osc_base.specs.Number.{Number, IsFloor, IsLeastCommonMultiple, IsWithin}

-- the number that a fraction stands for
abbrev pub value : Fraction → Number
value f = record { numerator = f.num; denominator = f.den }

-- two fractions over the least common multiple of their denominators
pub record OverCommon (f g : Fraction) : Type 0 where
  pub common : ℕ
  pub left : ℤ
  pub right : ℤ
  pub is_common : IsLeastCommonMultiple (unsigned_abs f.den) (unsigned_abs g.den) common
  pub left_same : left *ℤ f.den ≡ f.num *ℤ pos common
  pub right_same : right *ℤ g.den ≡ g.num *ℤ pos common

-- the least common denominator and the two widened numerators are at most 2^120 in magnitude
abbrev pub AreWithin : {f g : Fraction} → OverCommon f g → Type 0
AreWithin over = IsWithin (pos over.common) × IsWithin over.left × IsWithin over.right

-- a sum is taken over the least common denominator, and there is one exactly when no part passes 2^120
pub record AddsExactly (f g : Fraction) (result : Option Fraction) : Type 0 where
  pub over : OverCommon f g
  pub exactly : IsSome result ↔ (AreWithin over × IsWithin (over.left +ℤ over.right))
  pub parts : IfSome result (λ (sum : Fraction). (sum.num ≡ over.left +ℤ over.right) × (sum.den ≡ pos over.common))

-- a product multiplies both parts, and there is one exactly when neither product passes 2^120
pub record MultipliesExactly (f g : Fraction) (result : Option Fraction) : Type 0 where
  pub exactly : IsSome result ↔ (IsWithin (f.num *ℤ g.num) × IsWithin (f.den *ℤ g.den))
  pub parts : IfSome result (λ (p : Fraction). (p.num ≡ f.num *ℤ g.num) × (p.den ≡ f.den *ℤ g.den))

-- two fractions are compared over the least common denominator, exactly when no part passes 2^120
pub record ComparesExactly (f g : Fraction) (result : Option Ordering) : Type 0 where
  pub over : OverCommon f g
  pub exactly : IsSome result ↔ AreWithin over
  pub parts : IfSome result (λ ordering. ordering ≡ int_cmp over.left over.right)

-- rounding takes the floor of (2000 * num + den) / (2 * den), exactly when no part of that passes 2^120
pub record RoundsExactly (f : Fraction) (result : Option ℤ) : Type 0 where
  pub exactly : IsSome result ↔ (IsWithin (pos 2000 *ℤ f.num) × IsWithin (pos 2000 *ℤ f.num +ℤ f.den) × IsWithin (pos 2 *ℤ f.den))
  pub parts : IfSome result (IsFloor (record { numerator = pos 2000 *ℤ f.num +ℤ f.den; denominator = pos 2 *ℤ f.den }))
