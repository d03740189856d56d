-- What a field may hold.
use Rattle.std.specs.Prelude.{ℕ, ◌-◌, ◌&&◌, Bool, false, not, List, Option, Some, None, length, bytes_eq, ℤ, pos, neg_ℤ, ◌-ℤ◌, int_le}
use Rattle.std.specs.List.{list_any}
use Rattle.expr_nodes.specs.osc_base.Comparisons.{same_number}
use Rattle.cond_inherit.specs.type_heads.Form.{Form}
use Rattle.cond_inherit.specs.type_heads.Bounds.{least_of, greatest_of, numbers_of}
use Rattle.expr_nodes.specs.Sizes.{field_reach}
use Rattle.composition.specs.declared.spot.ValueRange.{ValueRange}
use Rattle.composition.specs.declared.run.Held.{Held}

-- a number from one to another
abbrev pub lies_between : ℤ → ℤ → ℤ → Bool
lies_between low high n = int_le low n && int_le n high

-- a field with this range may hold it
abbrev pub in_range : List (List ℕ) → ValueRange → Held → Bool
in_range texts (ValueRange.Between low high) (Held.Number n) = lies_between low high n
in_range texts (ValueRange.Among numbers) (Held.Number n) = list_any (same_number n) numbers
in_range texts ValueRange.Chars (Held.Chars text) = list_any (bytes_eq text) texts
in_range texts _ _ = false

-- distinct numbers leave out a number between their least and their greatest
abbrev pub has_gap : List ℤ → Bool
has_gap numbers = not (same_number (greatest_of numbers -ℤ least_of numbers) (pos (length numbers - 1)))

-- numbers with a sign; those of a float or physical type are thousandths
abbrev pub signed_range : ValueRange
signed_range = ValueRange.Between (neg_ℤ (pos field_reach)) (pos field_reach)

-- what a field of a scalar type may hold; an object holds no value
abbrev pub range_of : Form → Option ValueRange
range_of Form.Int = Some signed_range
range_of Form.Uint = Some (ValueRange.Between (pos 0) (pos field_reach))
range_of Form.Float = Some signed_range
range_of Form.Truth = Some (ValueRange.Between (pos 0) (pos 1))
range_of Form.Chars = Some ValueRange.Chars
range_of (Form.Physical exponents) = Some signed_range
range_of (Form.Enum members) = Some (ValueRange.Among (numbers_of members))
range_of (Form.Compound kind) = None
