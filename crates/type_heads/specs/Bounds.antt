-- What a field of a type holds: the numbers of an enum, and the least and the greatest number of each type of one value.
use Rattle.std.specs.Prelude.{ℕ, ◌-◌, ℤ, pos, neg_ℤ, cond, List, [], ◌∷◌, map, length, int_le}
use Rattle.std.specs.Int.{int_min, int_max}
use Rattle.type_heads.specs.Form.{Form, EnumMember, greatest_value}

-- the least of some numbers, and 0 of none
abbrev pub least_of : List ℤ → ℤ
least_of [] = pos 0
least_of (n ∷ []) = n
least_of (n ∷ m ∷ ms) = int_min n (least_of (m ∷ ms))

-- the greatest of some numbers, and 0 of none
abbrev pub greatest_of : List ℤ → ℤ
greatest_of [] = pos 0
greatest_of (n ∷ []) = n
greatest_of (n ∷ m ∷ ms) = int_max n (greatest_of (m ∷ ms))

-- a number put before the first that isn't less
abbrev pub inserted : ℤ → List ℤ → List ℤ
inserted n [] = n ∷ []
inserted n (m ∷ ms) = cond (int_le n m) (n ∷ m ∷ ms) (m ∷ inserted n ms)

-- numbers in ascending order
abbrev pub ascending : List ℤ → List ℤ
ascending [] = []
ascending (n ∷ ns) = inserted n (ascending ns)

-- the numbers of an enum, ascending
abbrev pub numbers_of : List EnumMember → List ℤ
numbers_of members = ascending (map (λ (m : EnumMember). pos m.number) members)

-- The least and the greatest number that a field may hold: of a float or physical type in thousandths, of a string the numbers of texts.
abbrev pub bounds : List (List ℕ) → Form → ℤ × ℤ
bounds texts Form.Int = (neg_ℤ (pos greatest_value), pos greatest_value)
bounds texts Form.Uint = (pos 0, pos greatest_value)
bounds texts Form.Float = (neg_ℤ (pos greatest_value), pos greatest_value)
bounds texts Form.Truth = (pos 0, pos 1)
bounds texts Form.Chars = (pos 0, pos (length texts - 1))
bounds texts (Form.Physical exponents) = (neg_ℤ (pos greatest_value), pos greatest_value)
bounds texts (Form.Enum members) = (least_of (numbers_of members), greatest_of (numbers_of members))
bounds texts (Form.Compound kind) = (pos 0, pos 0)
