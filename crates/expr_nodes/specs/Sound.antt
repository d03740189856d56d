-- Sound expressions: each node has the kind and size that its parts give, and no size passes the limit. Typed expressions that have no fault are
-- sound, and so they stay when paths are replaced by their homes.
use Rattle.std.specs.Prelude.{ℕ, pos, ◌&&◌, ◌||◌, Bool, true, not, nat_eq, int_le, unsigned_abs}
use Rattle.std.specs.List.{list_all}
use Rattle.type_model.specs.osc_base.declared.path.Path.{Path}
use Rattle.type_model.specs.osc_base.Number.{Number}
use Rattle.type_model.specs.osc_base.LowestTerms.{gcd}
use Rattle.expr_nodes.specs.Kinds.{ValueKind, is_number, is_truth, same_units}
use Rattle.expr_nodes.specs.Typed.{Typed, Info, Constant, Read, Whole, Listed, Span, Minus, Not, Sum, Times, And, Or, Implies, Relation, Within, TypedRow, End, Item, kind}
use Rattle.expr_nodes.specs.Sizes.{Size, size, constant_size, field_size, duration_size, unit_size, joined, multiplied, is_wide}
use Rattle.expr_nodes.specs.Parts.{is_scalar, parts_of}
use Rattle.expr_nodes.specs.Operators.{fit_for, fits_in, is_range_or_list}

-- the same scale and the same reach
abbrev pub same_size : Size → Size → Bool
same_size a b = nat_eq a.scale b.scale && nat_eq a.reach b.reach

-- a node has that size, which isn't too wide
abbrev pub has_size : Info → Size → Bool
has_size i s = same_size (record { scale = i.scale; reach = i.reach }) s && not (is_wide s)

-- a fraction in lowest terms, with a denominator above 0
abbrev pub is_lowest : Number → Bool
is_lowest n = int_le (pos 1) n.denominator && nat_eq (gcd (unsigned_abs n.numerator) (unsigned_abs n.denominator)) 1

-- a truth value is 1 or 0
abbrev pub is_constant_of : ValueKind → Number → Bool
is_constant_of k n = is_lowest n && (not (is_truth k) || (nat_eq (unsigned_abs n.denominator) 1 && int_le (pos 0) n.numerator && int_le n.numerator (pos 1)))

-- a number is held in whole or in thousandths, anything else in whole
abbrev pub is_per : ValueKind → ℕ → Bool
is_per k per = nat_eq per 1 || (is_number k && nat_eq per 1000)

-- both are one truth value each
abbrev pub are_truths : Typed → Typed → Bool
are_truths a b = (is_scalar a && is_truth (kind a)) && (is_scalar b && is_truth (kind b))

-- a truth value that is no field
abbrev pub is_truth_info : Info → Bool
is_truth_info i = is_truth i.kind && has_size i unit_size

-- two sides can be brought to one scale
abbrev pub can_join : Typed → Typed → Bool
can_join a b = not (is_wide (joined (size a) (size b)))

-- each node has what its parts give
abbrev mutual
  pub is_sound : Typed → Bool
  is_sound (Constant i number) = is_constant_of i.kind number && has_size i (constant_size number)
  is_sound (Read i path per) = is_per i.kind per && (has_size i (field_size per) || (nat_eq per 1000 && has_size i duration_size))
  is_sound (Whole i path) = has_size i unit_size
  is_sound (Listed i is_field items) = has_size i unit_size && are_sound items
  is_sound (Span i low high) = (is_scalar low && is_scalar high) && (has_size i unit_size && (is_sound low && is_sound high))
  is_sound (Minus i part) = same_units i.kind (kind part) && (has_size i (size part) && is_sound part)
  is_sound (Not i part) = is_truth_info i && (are_truths part part && is_sound part)
  is_sound (Sum i left right) = (same_units i.kind (kind left) && same_units i.kind (kind right)) && (has_size i (joined (size left) (size right)) && (is_sound left && is_sound right))
  is_sound (Times i left right) = (is_number (kind left) && is_number (kind right)) && (has_size i (multiplied (size left) (size right)) && (is_sound left && is_sound right))
  is_sound (And i left right) = is_truth_info i && (are_truths left right && (is_sound left && is_sound right))
  is_sound (Or i left right) = is_truth_info i && (are_truths left right && (is_sound left && is_sound right))
  is_sound (Implies i left right) = is_truth_info i && (are_truths left right && (is_sound left && is_sound right))
  is_sound (Relation i sign left right) = is_truth_info i && ((fit_for sign left right && can_join left right) && (is_sound left && is_sound right))
  is_sound (Within i left right) =
      is_truth_info i && ((is_range_or_list right && fits_in left right && list_all (can_join left) (parts_of right)) && (is_sound left && is_sound right))

  -- each item of a list is one sound value
  pub are_sound : TypedRow → Bool
  are_sound End = true
  are_sound (Item item others) = is_scalar item && (is_sound item && are_sound others)

-- each node that reads a path passes a test of its kind and size, its path and what it counts over
abbrev mutual
  pub each_read : (Info → Path → ℕ → Bool) → Typed → Bool
  each_read test (Constant i number) = true
  each_read test (Read i path per) = test i path per
  each_read test (Whole i path) = true
  each_read test (Listed i is_field items) = each_read_of test items
  each_read test (Span i low high) = each_read test low && each_read test high
  each_read test (Minus i part) = each_read test part
  each_read test (Not i part) = each_read test part
  each_read test (Sum i left right) = each_read test left && each_read test right
  each_read test (Times i left right) = each_read test left && each_read test right
  each_read test (And i left right) = each_read test left && each_read test right
  each_read test (Or i left right) = each_read test left && each_read test right
  each_read test (Implies i left right) = each_read test left && each_read test right
  each_read test (Relation i sign left right) = each_read test left && each_read test right
  each_read test (Within i left right) = each_read test left && each_read test right

  -- the same of each item of a list
  pub each_read_of : (Info → Path → ℕ → Bool) → TypedRow → Bool
  each_read_of test End = true
  each_read_of test (Item item others) = each_read test item && each_read_of test others
