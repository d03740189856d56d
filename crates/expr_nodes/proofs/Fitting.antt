-- Numbers that are there only if they fit.
use Rattle.std.proofs.Common.{◌≡◌, ℕ, ◌<◌, arith}
use Rattle.std.specs.Prelude.{◌^◌, Some, None, cond, Bool, true, false, nat_lt}

-- a number that is there only below a limit is above 0 if the number is
pub above_if_there : (n x : ℕ) → Some x ≡ cond (nat_lt n (2 ^ 128)) (Some n) None → 0 < n → 0 < x
above_if_there n x is above = by (nat_lt n (2 ^ 128)) is
  where
    by : (b : Bool) → Some x ≡ cond b (Some n) None → 0 < x
    by true e = grind (arith, above, e)
    by false e = absurd (cc)
