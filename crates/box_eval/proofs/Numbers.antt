-- Facts about integers that the rest needs: ends of sums and products, and what fits 128 bits.
use Rattle.std.proofs.Common.{ℕ, suc, ◌≤◌, ◌^◌, arith, ℤ, pos, negsuc, ◌*ℤ◌, ◌≤ℤ◌, FitsSigned}
use Rattle.std.proofs.Math.Nat.{mul-le-mul_left}
use borrow.Author.Differences.{le_out}
use Rattle.std.proofs.lemmas.Int.{ints, clamps}
use Rattle.std.specs.Int.{w128, int_min, int_max}
use Rattle.std.proofs.Math.IntN.{*ℤ_comm}
use Rattle.box_eval.specs.declared.verdict.Span.{Span}
use Rattle.box_eval.specs.Verdict.{least_of, greatest_of, times_of}
use Rattle.box_eval.specs.Reach.{magnitude}

-- a span by its ends
abbrev pub span : ℤ → ℤ → Span
span a b = record { least = a; greatest = b }

-- four numbers whose least and greatest are small are small
pub record AllFour (p q r s : ℤ) : Type 0 where
  pub first : FitsSigned w128 p
  pub second : FitsSigned w128 q
  pub third : FitsSigned w128 r
  pub fourth : FitsSigned w128 s

four_fit : (p q r s : ℤ) → magnitude (span (least_of p q r s) (greatest_of p q r s)) ≤ 2 ^ 120 → AllFour p q r s
four_fit p q r s small = record {
  first = omega (arith, ints, clamps);
  second = omega (arith, ints, clamps);
  third = omega (arith, ints, clamps);
  fourth = omega (arith, ints, clamps);
}

pub times_fit : (a b : Span) → magnitude (times_of a b) ≤ 2 ^ 120 → AllFour (a.least *ℤ b.least) (a.least *ℤ b.greatest) (a.greatest *ℤ b.least) (a.greatest *ℤ b.greatest)
times_fit a b = four_fit (a.least *ℤ b.least) (a.least *ℤ b.greatest) (a.greatest *ℤ b.least) (a.greatest *ℤ b.greatest)

-- ---- products

-- a product grows with its first factor if the second isn't negative
times_up : (a b : ℤ) (n : ℕ) → a ≤ℤ b → (a *ℤ pos n) ≤ℤ (b *ℤ pos n)
times_up a b n h = omega (arith, ints, mul-le-mul_left n (le_out a b h))

-- and falls if it is negative
times_down : (a b : ℤ) (n : ℕ) → a ≤ℤ b → (b *ℤ negsuc n) ≤ℤ (a *ℤ negsuc n)
times_down a b n h = omega (arith, ints, mul-le-mul_left (suc n) (le_out a b h))

-- if x lies between l and h, x * y lies between l * y and h * y, in one order or the other
record IsBetween (x l h : ℤ) : Type 0 where
  least : int_min l h ≤ℤ x
  greatest : x ≤ℤ int_max l h

times_between : (l x h y : ℤ) → l ≤ℤ x → x ≤ℤ h → IsBetween (x *ℤ y) (l *ℤ y) (h *ℤ y)
times_between l x h (pos n) p q = record {
  least = omega (arith, ints, clamps, times_up l x n p, times_up x h n q);
  greatest = omega (arith, ints, clamps, times_up l x n p, times_up x h n q);
}
times_between l x h (negsuc n) p q = record {
  least = omega (arith, ints, clamps, times_down l x n p, times_down x h n q);
  greatest = omega (arith, ints, clamps, times_down l x n p, times_down x h n q);
}

between_times : (x m y k : ℤ) → m ≤ℤ y → y ≤ℤ k → IsBetween (x *ℤ y) (x *ℤ m) (x *ℤ k)
between_times x m y k p q =
    let b = times_between m y k x p q in
    record { least = rw (*ℤ_comm x y, *ℤ_comm x m, *ℤ_comm x k) b.least; greatest = rw (*ℤ_comm x y, *ℤ_comm x m, *ℤ_comm x k) b.greatest }

chained : (v a b p q r s : ℤ) → IsBetween v a b → IsBetween a p q → IsBetween b r s → (least_of p q r s ≤ℤ v) × (v ≤ℤ greatest_of p q r s)
chained v a b p q r s i j k =
    (omega (arith, ints, clamps, i.least, j.least, k.least), omega (arith, ints, clamps, i.greatest, j.greatest, k.greatest))

-- a product of values within two spans lies between the least and the greatest product of their ends
pub product_between : (a b : Span) (x y : ℤ) → a.least ≤ℤ x → x ≤ℤ a.greatest → b.least ≤ℤ y → y ≤ℤ b.greatest → ((times_of a b).least ≤ℤ (x *ℤ y)) × ((x *ℤ y) ≤ℤ (times_of a b).greatest)
product_between a b x y p q r s = chained (x *ℤ y) (a.least *ℤ y) (a.greatest *ℤ y) _ _ _ _
    (times_between a.least x a.greatest y p q) (between_times a.least b.least y b.greatest r s) (between_times a.greatest b.least y b.greatest r s)
