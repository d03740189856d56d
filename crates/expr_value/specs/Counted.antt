-- What an expression is worth at its own scale: the value times the scale, a whole number.
use Rattle.std.specs.Prelude.{ℕ, ℤ, pos, neg_ℤ, ◌+ℤ◌, ◌*ℤ◌, ◌/◌, ◌&&◌, ◌||◌, Bool, false, not, cond, int_le, int_lt}
use Rattle.expr_nodes.specs.osc_base.declared.path.Path.{Path}
use Rattle.expr_nodes.specs.osc_base.LowestTerms.{lcm}
use Rattle.expr_nodes.specs.osc_base.Comparisons.{same_number}
use Rattle.expr_nodes.specs.declared.compare.Compare.{Compare}
use Rattle.expr_nodes.specs.Typed.{Typed, Constant, Read, Whole, Listed, Span, Minus, Not, Sum, Times, And, Or, Implies, Relation, Within, TypedRow, End, Item, scale}

-- a count at a scale, at a multiple of that scale
abbrev pub at_scale : ℕ → ℕ → ℤ → ℤ
at_scale common s n = n *ℤ pos (common / s)

-- 1 or 0
abbrev pub truth_count : Bool → ℤ
truth_count b = cond b (pos 1) (pos 0)

-- a count at a scale is worth 1
abbrev pub is_full : ℕ → ℤ → Bool
is_full s n = same_number n (pos s)

-- the sum of two counts, at the least common multiple of their scales
abbrev pub sum_count : ℕ → ℤ → ℕ → ℤ → ℤ
sum_count s n t m = at_scale (lcm s t) s n +ℤ at_scale (lcm s t) t m

-- two whole numbers compare so
abbrev pub orders : Compare → ℤ → ℤ → Bool
orders Compare.Equal x y = same_number x y
orders Compare.Differ x y = not (same_number x y)
orders Compare.Below x y = int_lt x y
orders Compare.AtMost x y = int_le x y
orders Compare.Above x y = int_lt y x
orders Compare.AtLeast x y = int_le y x

-- two counts compare so, at the least common multiple of their scales
abbrev pub compares_counts : Compare → ℕ → ℤ → ℕ → ℤ → Bool
compares_counts sign s n t m = orders sign (at_scale (lcm s t) s n) (at_scale (lcm s t) t m)

-- the value times the scale, if `held` tells the number that each path holds
abbrev mutual
  pub counted : (Path → ℤ) → Typed → ℤ
  counted held (Constant i number) = number.numerator
  counted held (Read i path per) = held path
  counted held (Whole i path) = pos 0
  counted held (Listed i is_field items) = pos 0
  counted held (Span i low high) = pos 0
  counted held (Minus i part) = neg_ℤ (counted held part)
  counted held (Not i part) = truth_count (not (is_full (scale part) (counted held part)))
  counted held (Sum i left right) = sum_count (scale left) (counted held left) (scale right) (counted held right)
  counted held (Times i left right) = counted held left *ℤ counted held right
  counted held (And i left right) = truth_count (is_full (scale left) (counted held left) && is_full (scale right) (counted held right))
  counted held (Or i left right) = truth_count (is_full (scale left) (counted held left) || is_full (scale right) (counted held right))
  counted held (Implies i left right) = truth_count (not (is_full (scale left) (counted held left)) || is_full (scale right) (counted held right))
  counted held (Relation i sign left right) = truth_count (compares_counts sign (scale left) (counted held left) (scale right) (counted held right))
  counted held (Within i left right) = truth_count (counts_in held (scale left) (counted held left) right)

  -- a count is between the two ends of a range, both included, or equals an item of a list
  pub counts_in : (Path → ℤ) → ℕ → ℤ → Typed → Bool
  counts_in held s n (Span i low high) = compares_counts Compare.AtLeast s n (scale low) (counted held low) && compares_counts Compare.AtMost s n (scale high) (counted held high)
  counts_in held s n (Listed i is_field items) = counts_item held s n items
  counts_in held s n _ = false

  pub counts_item : (Path → ℤ) → ℕ → ℤ → TypedRow → Bool
  counts_item held s n End = false
  counts_item held s n (Item item others) = compares_counts Compare.Equal s n (scale item) (counted held item) || counts_item held s n others
