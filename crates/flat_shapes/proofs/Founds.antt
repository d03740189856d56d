-- The term of what is read.
use Rattle.std.proofs.Common.{ℕ, ◌*◌, ◌≤◌}
use Rattle.std.proofs.Math.Nat.{mul-le-mul_left}

-- a longer tick makes more
pub longer : (n a b : ℕ) → a ≤ b → n * a ≤ n * b
longer n a b h = mul-le-mul_left n h
