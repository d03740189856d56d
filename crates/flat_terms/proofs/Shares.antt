-- Common scales, and shares of them.
use Rattle.std.proofs.Common.{◌≡◌, ℕ, ◌*◌, ◌/◌, ◌≤◌, ◌<◌}
use Rattle.std.proofs.Math.Nat.{mul-le-mul_left}
use Rattle.field_flatten.specs.osc_base.LowestTerms.{gcd, lcm}
use Rattle.field_flatten.proofs.of_osc_base.Divisors.{gcd_above, lcm_is}

pub divisor_above : (a b : ℕ) → 0 < a → 0 < gcd a b
divisor_above a b h = gcd_above a b h

pub multiple_is : (a b : ℕ) → lcm a b ≡ a * (b / gcd a b)
multiple_is a b = lcm_is a b

-- a longer tick makes more
pub longer : (n a b : ℕ) → a ≤ b → n * a ≤ n * b
longer n a b h = mul-le-mul_left n h
