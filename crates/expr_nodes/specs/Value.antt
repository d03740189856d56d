-- The value of a typed expression, an exact fraction. A truth value is 1 or 0, a member of an enum or a text its number.
use Rattle.std.specs.Prelude.{ℤ, pos, neg_ℤ, ◌&&◌, ◌||◌, Bool, false, not, cond, Option, Some, None, is_some, unwrap_or}
use Rattle.std.specs.List.{list_all}
use Rattle.type_model.specs.osc_base.declared.path.Path.{Path}
use Rattle.type_model.specs.osc_base.Number.{Number, whole, plus, product}
use Rattle.type_model.specs.osc_base.Comparisons.{is_same, is_less, is_at_most, is_between}
use Rattle.expr_nodes.specs.declared.compare.Compare.{Compare}
use Rattle.expr_nodes.specs.Typed.{Typed, Constant, Read, Whole, Listed, Span, Minus, Not, Sum, Times, And, Or, Implies, Relation, Within, TypedRow, End, Item, reads}

-- a number with the other sign
abbrev pub opposite : Number → Number
opposite x = record x { numerator = neg_ℤ x.numerator }

-- 1 or 0
abbrev pub of_truth : Bool → Number
of_truth b = whole (cond b (pos 1) (pos 0))

-- the number of a truth value that is true
abbrev pub is_one : Number → Bool
is_one x = is_same x (whole (pos 1))

-- a comparison holds of two numbers
abbrev pub compares : Compare → Number → Number → Bool
compares Compare.Equal x y = is_same x y
compares Compare.Differ x y = not (is_same x y)
compares Compare.Below x y = is_less x y
compares Compare.AtMost x y = is_at_most x y
compares Compare.Above x y = is_less y x
compares Compare.AtLeast x y = is_at_most y x

-- the value if `held` tells the number that each path holds; a whole object or phase has none that counts
abbrev mutual
  pub worth : (Path → ℤ) → Typed → Number
  worth held (Constant i number) = number
  worth held (Read i path per) = record { numerator = held path; denominator = pos per }
  worth held (Whole i path) = whole (pos 0)
  worth held (Listed i is_field items) = whole (pos 0)
  worth held (Span i low high) = whole (pos 0)
  worth held (Minus i part) = opposite (worth held part)
  worth held (Not i part) = of_truth (not (is_one (worth held part)))
  worth held (Sum i left right) = plus (worth held left) (worth held right)
  worth held (Times i left right) = product (worth held left) (worth held right)
  worth held (And i left right) = of_truth (is_one (worth held left) && is_one (worth held right))
  worth held (Or i left right) = of_truth (is_one (worth held left) || is_one (worth held right))
  worth held (Implies i left right) = of_truth (not (is_one (worth held left)) || is_one (worth held right))
  worth held (Relation i sign left right) = of_truth (compares sign (worth held left) (worth held right))
  worth held (Within i left right) = of_truth (is_in held (worth held left) right)

  -- a number is between the two ends of a range, both included, or equals an item of a list
  pub is_in : (Path → ℤ) → Number → Typed → Bool
  is_in held x (Span i low high) = is_between (worth held low) (worth held high) x
  is_in held x (Listed i is_field items) = is_item held x items
  is_in held x _ = false

  pub is_item : (Path → ℤ) → Number → TypedRow → Bool
  is_item held x End = false
  is_item held x (Item item others) = is_same x (worth held item) || is_item held x others

-- the value if some paths hold a number; none exactly when a path that the expression reads holds none
abbrev pub value : (Path → Option ℤ) → Typed → Option Number
value held t = cond (list_all (λ p. is_some (held p)) (reads t)) (Some (worth (λ p. unwrap_or (held p) (pos 0)) t)) None
