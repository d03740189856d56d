-- Counts: products, sums and comparisons within their reach.
use Rattle.std.proofs.Common.{◌≡◌, refl, ℕ, ◌*◌, ◌+◌, ◌/◌, ◌^◌, ◌≤◌, false, nat_lt, arith, to_z, FitsSigned}
use Rattle.std.specs.Int.{w128}
use Rattle.std.specs.Prelude.{ℤ, pos, ◌*ℤ◌, ◌||◌, unsigned_abs}
use Rattle.std.proofs.Math.Nat.{div-le_self}
use Rattle.std.proofs.lemmas.Nat.{mul-le}
use Rattle.std.proofs.lemmas.Bool.Decides.{nat_tests}
use Rattle.std.proofs.lemmas.Int.{unsigned_abs-mul, fits_signed_mul, to_z_pos}
use Rattle.expr_nodes.specs.osc_base.LowestTerms.{lcm}
use Rattle.expr_nodes.specs.Sizes.{Size, is_wide, joined}

-- a product is at most the product of what its factors are at most
pub product_within : (a b : ℤ) (m n : ℕ) → unsigned_abs a ≤ m → unsigned_abs b ≤ n → unsigned_abs (a *ℤ b) ≤ m * n
product_within a b m n p q = rw (unsigned_abs-mul a b) (mul-le (unsigned_abs a) (unsigned_abs b) m n p q)

pub product_fits : (a b : ℤ) (m n r : ℕ) → unsigned_abs a ≤ m → unsigned_abs b ≤ n → r ≡ m * n → r ≤ 2 ^ 120 → FitsSigned w128 (a *ℤ b)
product_fits a b m n r p q is small = fits_signed_mul w128 a b m n p q (omega arith)

-- the size of two that are joined isn't too wide
pub joined_small : (a b : Size) → is_wide (joined a b) ≡ false
    → (lcm a.scale b.scale ≤ 2 ^ 120) × ((a.reach * (lcm a.scale b.scale / a.scale) ≤ 2 ^ 120) × (b.reach * (lcm a.scale b.scale / b.scale) ≤ 2 ^ 120))
joined_small a b h = by (lcm a.scale b.scale) (a.reach * (lcm a.scale b.scale / a.scale)) (b.reach * (lcm a.scale b.scale / b.scale)) h
  where
    by : (common l r : ℕ) → (nat_lt (2 ^ 120) common || nat_lt (2 ^ 120) (l + r)) ≡ false → (common ≤ 2 ^ 120) × ((l ≤ 2 ^ 120) × (r ≤ 2 ^ 120))
    by common l r h = grind (arith, nat_tests)

-- a count at a multiple of its scale
pub share_small : (common s : ℕ) → common ≤ 2 ^ 120 → common / s ≤ 2 ^ 120
share_small common s small = omega (arith, div-le_self common s)

pub share_is : (common s : ℕ) → common ≤ 2 ^ 120 → to_z w128 (common / s) ≡ pos (common / s)
share_is common s small = to_z_pos w128 (common / s) (omega (arith, share_small common s small))

pub wide_within : (n : ℤ) (k r : ℕ) → unsigned_abs n ≤ r → unsigned_abs (n *ℤ pos k) ≤ r * k
wide_within n k r p = product_within n (pos k) r k p (omega arith)

pub wide_fits : (n : ℤ) (k r : ℕ) → unsigned_abs n ≤ r → r * k ≤ 2 ^ 120 → FitsSigned w128 (n *ℤ pos k)
wide_fits n k r p small = product_fits n (pos k) r k (r * k) p (omega arith) refl small
