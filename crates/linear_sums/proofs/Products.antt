-- Products of whole numbers over sums and differences.
use Rattle.std.proofs.Common.{◌≡◌, sym, ap, ap₂, ◌∙◌, ℕ, zero, suc, ◌*◌, ◌≤◌, ℤ, pos, negsuc, ◌+ℤ◌, ◌-ℤ◌, ◌*ℤ◌, ◌≤ℤ◌, arith}
use Rattle.std.specs.Prelude.{unsigned_abs}
use Rattle.std.proofs.lemmas.Int.{ints, unsigned_abs-mul}
use Rattle.std.proofs.Math.IntN.{*ℤ_comm, *ℤ-zero}
use Rattle.std.proofs.Math.Nat.{mul-le-mul_left, mul-le-mul_right}
use Rattle.osc_base.proofs.Integers.{spread}

pub spread_left : (k a b : ℤ) → k *ℤ (a +ℤ b) ≡ k *ℤ a +ℤ k *ℤ b
spread_left k a b = *ℤ_comm k (a +ℤ b) ∙ spread a b k ∙ ap₂ (λ m n. m +ℤ n) (*ℤ_comm a k) (*ℤ_comm b k)

pub spread_less : (a b c : ℤ) → (a -ℤ b) *ℤ c ≡ a *ℤ c -ℤ b *ℤ c
spread_less a b c = let e : (a -ℤ b) *ℤ c +ℤ b *ℤ c ≡ a *ℤ c = sym (spread (a -ℤ b) b c) ∙ ap (λ z. z *ℤ c) (omega (arith, ints)) in omega (arith, ints)

pub spread_less_left : (k a b : ℤ) → k *ℤ (a -ℤ b) ≡ k *ℤ a -ℤ k *ℤ b
spread_less_left k a b = *ℤ_comm k (a -ℤ b) ∙ spread_less a b k ∙ ap₂ (λ m n. m -ℤ n) (*ℤ_comm a k) (*ℤ_comm b k)

pub one_times : (a : ℤ) → pos 1 *ℤ a ≡ a
one_times a = omega (arith, ints)

-- so many times a number that isn't above 0 isn't either
pub none_above : (k : ℕ) (n : ℤ) → n ≤ℤ pos 0 → (pos k *ℤ n) ≤ℤ pos 0
none_above k (pos zero) h = omega (arith, ints, *ℤ-zero (pos k))
none_above k (pos (suc n)) h = absurd (omega (arith, ints))
none_above k (negsuc n) h = omega (arith, ints)

-- the magnitude of a product is at most the product of the magnitudes' limits
pub product_within : (a b : ℤ) (m n : ℕ) → unsigned_abs a ≤ m → unsigned_abs b ≤ n → unsigned_abs (a *ℤ b) ≤ m * n
product_within a b m n h k = rw (unsigned_abs-mul a b) (omega (arith, mul-le-mul_right (unsigned_abs b) h, mul-le-mul_left m k))
