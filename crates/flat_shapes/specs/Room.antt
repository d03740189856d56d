-- Whether the numbers that stand in an expression's flat form stay within the limit of scales and reaches.
use Rattle.std.specs.Prelude.{ℕ, ◌*◌, ◌/◌, Bool, true, ◌&&◌, nat_le, nat_lt, unsigned_abs}
use Rattle.expr_nodes.specs.osc_base.Comparisons.{greatest_part}
use Rattle.expr_nodes.specs.osc_base.LowestTerms.{lcm}
use Rattle.expr_nodes.specs.Typed.{Typed, Constant, Read, Whole, Listed, Span, Minus, Not, Sum, Times, And, Or, Implies, Relation, Within, TypedRow, End, Item, scale}

-- a number within the limit
abbrev pub is_small : ℕ → Bool
is_small n = nat_le n greatest_part

-- the greatest length of a tick in milliseconds
abbrev pub longest_tick : ℕ
longest_tick = 1000

-- the scale of an expression's shape: a truth value that is made of others counts in whole
abbrev pub own_scale : Typed → ℕ
own_scale (Not i part) = 1
own_scale (And i left right) = 1
own_scale (Or i left right) = 1
own_scale (Implies i left right) = 1
own_scale (Relation i sign left right) = 1
own_scale (Within i left right) = 1
own_scale t = scale t

-- two sides at the least common multiple of their scales, each as a test at a scale
abbrev pub can_meet : ℕ → (ℕ → Bool) → ℕ → (ℕ → Bool) → Bool
can_meet d left d' right = let common = lcm d d' in is_small common && (left common && right common)

-- at a scale; a rule asks for it at 1
abbrev mutual
  pub has_room : ℕ → Typed → Bool
  has_room e (Constant i n) = is_small (unsigned_abs n.numerator * (e / unsigned_abs n.denominator)) && is_small e
  has_room e (Read i path per) = nat_lt 0 per && is_small (e / per * longest_tick)
  has_room e (Whole i path) = true
  has_room e (Listed i is_field items) = true
  has_room e (Span i low high) = true
  has_room e (Minus i part) = has_room e part
  has_room e (Not i part) = is_small e && has_room 1 part
  has_room e (Sum i left right) = has_room e left && has_room e right
  has_room e (Times i left right) = is_small e && (has_room (own_scale left) left && has_room (own_scale right) right)
  has_room e (And i left right) = is_small e && (has_room 1 left && has_room 1 right)
  has_room e (Or i left right) = is_small e && (has_room 1 left && has_room 1 right)
  has_room e (Implies i left right) = is_small e && (has_room 1 left && has_room 1 right)
  has_room e (Relation i sign left right) = is_small e && can_meet (own_scale left) (λ c. has_room c left) (own_scale right) (λ c. has_room c right)
  has_room e (Within i left right) = is_small e && can_hold (own_scale left) (λ c. has_room c left) right

  -- a term can be compared with each part of a range or list
  pub can_hold : ℕ → (ℕ → Bool) → Typed → Bool
  can_hold d left (Span i low high) = can_meet (own_scale low) (λ c. has_room c low) d left && can_meet d left (own_scale high) (λ c. has_room c high)
  can_hold d left (Listed i is_field items) = can_equal d left items
  can_hold d left _ = true

  -- a term can be compared with each item of a row
  pub can_equal : ℕ → (ℕ → Bool) → TypedRow → Bool
  can_equal d left End = true
  can_equal d left (Item item others) = can_meet d left (own_scale item) (λ c. has_room c item) && can_equal d left others
