-- The least multiples of two numbers that are equal.
use Rattle.std.specs.Prelude.{◌≡◌, ℕ, ◌*◌, ◌≤◌, ◌^◌, ℤ, pos, ◌+ℤ◌, ◌*ℤ◌}
use Rattle.linear_sums.specs.declared.multiples.Multiples.{Multiples}

-- so many times the one number are so many times the other, and no lesser multiples are equal
pub record IsLeast (a b : ℕ) (m : Multiples) : Type 0 where
  pub some_first : 1 ≤ m.first
  pub few_first : m.first ≤ 1000000
  pub some_second : 1 ≤ m.second
  pub few_second : m.second ≤ 1000000
  pub same : m.first * a ≡ m.second * b
  pub least : (i j : ℕ) → 1 ≤ i → i * a ≡ j * b → (m.first ≤ i) × (m.second ≤ j)

-- so many times the one number and so many times the other make 0
abbrev pub CancelOut : Multiples → ℤ → ℤ → Type 0
CancelOut times a b = pos times.first *ℤ a +ℤ pos times.second *ℤ b ≡ pos 0

-- no multiples are equal that are small enough
abbrev pub NoLeast : ℕ → ℕ → Type 0
NoLeast a b = (i j : ℕ) → 1 ≤ i → i ≤ 1000000 → j ≤ 1000000 → i * a ≡ j * b → i * a ≤ 2 ^ 120 → ⊥
