-- The slot value of a physical literal, worked out.
use Rattle.std.specs.Prelude.{◌/◌, ℤ, pos, negsuc, ◌+ℤ◌, ◌*ℤ◌, cond, ◌&&◌, Option, Some, None, unsigned_abs, option_and_then, int_le}
use Rattle.osc_base.specs.Number.{Number}
use Rattle.osc_base.specs.LowestTerms.{lcm, floor_over}
use Rattle.osc_base.specs.Comparisons.{is_within}

-- a product multiplies both parts; none if one passes the limit
abbrev pub times : Number → Number → Option Number
times x y =
    let top = x.numerator *ℤ y.numerator in
    let bottom = x.denominator *ℤ y.denominator in
    cond (is_within top && is_within bottom) (Some (record { numerator = top; denominator = bottom })) None

-- a sum is taken over the least common denominator; none if that, a widened numerator or the sum passes the limit
abbrev pub add : Number → Number → Option Number
add x y =
    let common = lcm (unsigned_abs x.denominator) (unsigned_abs y.denominator) in
    let left = x.numerator *ℤ pos (common / unsigned_abs x.denominator) in
    let right = y.numerator *ℤ pos (common / unsigned_abs y.denominator) in
    cond (is_within (pos common) && (is_within left && (is_within right && is_within (left +ℤ right))))
    (Some (record { numerator = left +ℤ right; denominator = pos common })) None

-- the nearest whole number of thousandths, halves upward; none if a part of the calculation passes the limit
abbrev pub nearest_thousandth : Number → Option ℤ
nearest_thousandth x =
    let top = pos 2000 *ℤ x.numerator in
    let bottom = pos 2 *ℤ x.denominator in
    cond (is_within top && (is_within (top +ℤ x.denominator) && is_within bottom)) (Some (floor_over (top +ℤ x.denominator) (unsigned_abs bottom))) None

-- a slot value is from -1000000000 to 1000000000
abbrev pub slot_value : ℤ → Option ℤ
slot_value count = cond (int_le (negsuc 999999999) count && int_le count (pos 1000000000)) (Some count) None

-- the number times the factor, plus the offset, to the nearest thousandth
abbrev pub literal_count : Number → Number → Number → Option ℤ
literal_count number factor offset =
    option_and_then (λ scaled. option_and_then (λ moved. option_and_then slot_value (nearest_thousandth moved)) (add scaled offset)) (times number factor)
