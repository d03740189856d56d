-- The faults and the typed form of each operator, given its parts. An operator is at fault if its operands clash, if it asks for a value of
-- another kind, or if its scale or reach passes the limit. Sums and relations ask for equal exponents too. A divisor is a constant other
-- than 0, and an index is the number of an element.
use Rattle.std.specs.Prelude.{ℕ, ℤ, pos, negsuc, neg_ℤ, ◌+ℤ◌, ◌-ℤ◌, ◌&&◌, ◌||◌, Bool, true, false, not, cond, List, [], ◌∷◌, ◌++◌, Option, Some, None, is_none, unsigned_abs, slice_get, bytes_eq, option_map, option_and_then, unwrap_or, nat_eq, nat_lt, length}
use Rattle.std.specs.Option.{option_map_or}
use Rattle.std.specs.List.{list_any}
use Rattle.std.specs.Ordering.{int_eq}
use Rattle.type_model.specs.osc_base.declared.fault.Place.{Place}
use Rattle.type_model.specs.osc_base.declared.fault.FaultCode.{FaultCode}
use Rattle.type_model.specs.osc_base.Number.{Number, whole}
use Rattle.type_model.specs.osc_base.LowestTerms.{lowest}
use Rattle.type_model.specs.osc_base.FaultRows.{FaultRow, row}
use Rattle.type_model.specs.dsl_tree.declared.parts.Digits.{Digits}
use Rattle.type_model.specs.dsl_tree.declared.expr.Operator.{Operator}
use Rattle.type_model.specs.dsl_tree.declared.expr.RelationSign.{RelationSign}
use Rattle.type_model.specs.dsl_tree.ExprTree.{ExprTree}
use Rattle.type_model.specs.units_si.declared.units.Exponents.{Exponents}
use Rattle.type_model.specs.units_si.Units.{each}
use Rattle.type_model.specs.units_si.ExponentTests.{are_exponents}
use Rattle.type_model.specs.units_si.Literals.{literal_count}
use Rattle.type_model.specs.name_scope.Declaring.{first_place}
use Rattle.type_model.specs.type_heads.Table.{Table, TableUnit, unit}
use Rattle.type_model.specs.type_heads.Units.{digits_number}
use Rattle.expr_nodes.specs.declared.compare.Compare.{Compare}
use Rattle.expr_nodes.specs.declared.compare.Compare.TheVariants.{Below as is_below}
use Rattle.expr_nodes.specs.Kinds.{ValueKind, plain, no_exponents, is_number, is_truth, same_units, are_alike}
use Rattle.expr_nodes.specs.Typed.{Typed, Info, Constant, Listed, Span, Minus, Not, Sum, Times, And, Or, Implies, Relation, Within, TypedRow, End, Item, items_of, info, begun_at, place_of, kind, reads}
use Rattle.expr_nodes.specs.Value.{worth}
use Rattle.expr_nodes.specs.Sizes.{size, info_at, unit_size, constant_size, joined, multiplied, divided, is_wide}
use Rattle.expr_nodes.specs.Parts.{of_one, of_two, on_one, on_two, unless, is_scalar, is_whole, both_numbers, parts_of}

-- Literals

-- a constant of a kind
abbrev pub constant_at : Place → ValueKind → Number → Typed
constant_at place kind n = Constant (info_at place kind (constant_size n)) n

-- A number of more than 18 places is refused, as one that no field can hold. No source has such a number, since no token has more than 18 digits.
abbrev pub is_long : Digits → Bool
is_long d = nat_lt 18 d.places

-- a number of too many places
abbrev pub number_rows : Digits → List FaultRow
number_rows d = row d.place FaultCode.TooLarge (is_long d) ∷ []

-- a number without a unit
abbrev pub number_typed : Digits → Option Typed
number_typed d = unless (number_rows d) (Some (constant_at d.place plain (digits_number d)))

-- `true` or `false`
abbrev pub truth_typed : Place → Bool → Option Typed
truth_typed place value = Some (Constant (info_at place ValueKind.Truth unit_size) (whole (cond value (pos 1) (pos 0))))

-- a text is its number in the ordered list of texts
abbrev pub text_typed : Table → Place → List ℕ → Option Typed
text_typed table place text = Some (constant_at place ValueKind.Chars (whole (pos (unwrap_or (first_place (bytes_eq text) 0 table.texts) 0))))

-- a number with a unit, in thousandths of the base unit; none if no field can hold it, or if it has too many places
abbrev pub count_in : Digits → TableUnit → Option ℤ
count_in d u = cond (is_long d) None (literal_count (digits_number d) u.factor u.offset)

-- a unit that isn't declared, and a number that no field can hold
abbrev pub physical_rows : Table → Digits → List ℕ → List FaultRow
physical_rows table d name =
    row d.place FaultCode.Unknown (is_none (unit table name))
    ∷ row d.place FaultCode.TooLarge (option_map_or (λ u. is_none (count_in d u)) (unit table name) false)
    ∷ []

-- the typed form of a number with a unit
abbrev pub physical_typed : Table → Digits → List ℕ → Option Typed
physical_typed table d name =
    option_and_then (λ (u : TableUnit). option_and_then (λ x. option_map (λ n. constant_at d.place (ValueKind.Number x) (lowest n 1000)) (count_in d u)) u.exponents) (unit table name)

-- Truth values

-- a truth value that begins at a place
abbrev pub truth_at : Place → Info
truth_at place = info_at place ValueKind.Truth unit_size

-- `not` asks for a truth value
abbrev pub not_rows : Place → Option Typed → List FaultRow
not_rows p a = row p FaultCode.Clash (is_whole a || of_one a (λ x. not (is_truth (kind x)))) ∷ []

-- the typed form of `not`
abbrev pub not_typed : Place → Option Typed → Option Typed
not_typed p a = unless (not_rows p a) (on_one a (λ x. Not (truth_at p) x))

-- `and`, `or` and `=>`
abbrev pub logic_rows : Place → Option Typed → Option Typed → List FaultRow
logic_rows p a b = row p FaultCode.Clash (is_whole a || (is_whole b || of_two a b (λ x y. not (is_truth (kind x) && is_truth (kind y))))) ∷ []

-- the typed form of `and`
abbrev pub and_typed : Place → Option Typed → Option Typed → Option Typed
and_typed p a b = unless (logic_rows p a b) (on_two a b (λ x y. And (truth_at (place_of x)) x y))

-- the typed form of `or`
abbrev pub or_typed : Place → Option Typed → Option Typed → Option Typed
or_typed p a b = unless (logic_rows p a b) (on_two a b (λ x y. Or (truth_at (place_of x)) x y))

-- the typed form of `=>`
abbrev pub implies_typed : Place → Option Typed → Option Typed → Option Typed
implies_typed p a b = unless (logic_rows p a b) (on_two a b (λ x y. Implies (truth_at (place_of x)) x y))

-- Sums

-- a minus asks for a number
abbrev pub minus_rows : Place → Option Typed → List FaultRow
minus_rows p a = row p FaultCode.Clash (is_whole a || of_one a (λ x. not (is_number (kind x)))) ∷ []

-- the typed form of a minus
abbrev pub minus_typed : Place → Option Typed → Option Typed
minus_typed p a = unless (minus_rows p a) (on_one a (λ x. Minus (record (info x) { place = p }) x))

-- a sum or difference asks for numbers of one unit, but for its factor
abbrev pub sum_rows : Place → Option Typed → Option Typed → List FaultRow
sum_rows p a b =
    row p FaultCode.Clash (is_whole a || (is_whole b || of_two a b (λ x y. not (both_numbers x y))))
    ∷ row p FaultCode.UnitClash (of_two a b (λ x y. both_numbers x y && not (same_units (kind x) (kind y))))
    ∷ row p FaultCode.Wide (of_two a b (λ x y. is_wide (joined (size x) (size y))))
    ∷ []

-- what is added: a difference adds the opposite
abbrev pub added : Operator → Typed → Typed
added Operator.Dash y = Minus (info y) y
added _ y = y

-- the sum or difference of two
abbrev pub sum_of : Operator → Typed → Typed → Typed
sum_of op x y = Sum (info_at (place_of x) (kind x) (joined (size x) (size y))) x (added op y)

-- the typed form of a sum or difference
abbrev pub sum_typed : Place → Operator → Option Typed → Option Typed → Option Typed
sum_typed p op a b = unless (sum_rows p a b) (on_two a b (sum_of op))

-- Products

-- the exponents of a number
abbrev pub exponents_in : ValueKind → Exponents
exponents_in (ValueKind.Number x) = x
exponents_in _ = no_exponents

-- a product adds exponents
abbrev pub product_exponents : Typed → Typed → Exponents
product_exponents x y = each (λ a b. a +ℤ b) (exponents_in (kind x)) (exponents_in (kind y))

-- a product asks for numbers, and its exponents stay within their limits
abbrev pub product_rows : Place → Option Typed → Option Typed → List FaultRow
product_rows p a b =
    row p FaultCode.Clash (is_whole a || (is_whole b || of_two a b (λ x y. not (both_numbers x y))))
    ∷ row p FaultCode.UnitClash (of_two a b (λ x y. both_numbers x y && not (are_exponents (product_exponents x y))))
    ∷ row p FaultCode.Wide (of_two a b (λ x y. is_wide (multiplied (size x) (size y))))
    ∷ []

-- the product of two
abbrev pub product_of : Typed → Typed → Typed
product_of x y = Times (info_at (place_of x) (ValueKind.Number (product_exponents x y)) (multiplied (size x) (size y))) x y

-- the typed form of a product
abbrev pub product_typed : Place → Option Typed → Option Typed → Option Typed
product_typed p a b = unless (product_rows p a b) (on_two a b product_of)

-- Quotients

-- an expression that reads no path is constant
abbrev pub is_constant : Typed → Bool
is_constant x = nat_eq (length (reads x)) 0

-- the value of a constant, in lowest terms
abbrev pub constant_value : Typed → Number
constant_value x = let n = worth (λ p. pos 0) x in lowest n.numerator (unsigned_abs n.denominator)

-- the number is 0
abbrev pub is_zero : Number → Bool
is_zero n = int_eq n.numerator (pos 0)

-- a number with the sign of another
abbrev pub signed_like : ℤ → ℤ → ℤ
signed_like (pos k) d = d
signed_like (negsuc k) d = neg_ℤ d

-- one over a number that isn't 0
abbrev pub reciprocal : Number → Number
reciprocal n = record { numerator = signed_like n.numerator n.denominator; denominator = pos (unsigned_abs n.numerator) }

-- the exponents of one over a number
abbrev pub reciprocal_exponents : Typed → Exponents
reciprocal_exponents y = each (λ a b. a -ℤ b) no_exponents (exponents_in (kind y))

-- one over a constant, as a constant
abbrev pub reciprocal_of : Typed → Typed
reciprocal_of y = constant_at (place_of y) (ValueKind.Number (reciprocal_exponents y)) (reciprocal (constant_value y))

-- a quotient subtracts exponents
abbrev pub quotient_exponents : Typed → Typed → Exponents
quotient_exponents x y = each (λ a b. a -ℤ b) (exponents_in (kind x)) (exponents_in (kind y))

-- The exponents of a quotient, and those of one over its divisor, are within their limits. If the first are and the divisor is an expression of
-- a source, the second are too.
abbrev pub has_quotient : Typed → Typed → Bool
has_quotient x y = are_exponents (quotient_exponents x y) && are_exponents (reciprocal_exponents y)

-- a divisor is a constant other than 0
abbrev pub can_divide : Typed → Bool
can_divide y = is_constant y && not (is_zero (constant_value y))

-- a quotient asks for numbers and a constant divisor other than 0
abbrev pub quotient_rows : Place → Option Typed → Option Typed → List FaultRow
quotient_rows p a b =
    row p FaultCode.Clash (is_whole a || (is_whole b || of_two a b (λ x y. not (both_numbers x y))))
    ∷ row p FaultCode.UnitClash (of_two a b (λ x y. both_numbers x y && not (has_quotient x y)))
    ∷ row p FaultCode.NotConstant (of_one b (λ y. not (is_constant y)))
    ∷ row p FaultCode.ZeroDivisor (of_one b (λ y. is_constant y && is_zero (constant_value y)))
    ∷ row p FaultCode.Wide (of_two a b (λ x y. can_divide y && is_wide (divided (size x) (constant_value y))))
    ∷ []

-- the typed form of a quotient, a product with the reciprocal
abbrev pub quotient_typed : Place → Option Typed → Option Typed → Option Typed
quotient_typed p a b = unless (quotient_rows p a b) (on_two a b (λ x y. product_of x (reciprocal_of y)))

-- `*` or `/`
abbrev pub factor_rows : Place → Operator → Option Typed → Option Typed → List FaultRow
factor_rows p Operator.Slash a b = quotient_rows p a b
factor_rows p _ a b = product_rows p a b

-- the typed form of a product or quotient
abbrev pub factor_typed : Place → Operator → Option Typed → Option Typed → Option Typed
factor_typed p Operator.Slash a b = quotient_typed p a b
factor_typed p _ a b = product_typed p a b

-- Relations

-- `==` and `!=` compare values of one kind, the others numbers
abbrev pub fit_for : Compare → Typed → Typed → Bool
fit_for Compare.Equal x y = are_alike (kind x) (kind y)
fit_for Compare.Differ x y = are_alike (kind x) (kind y)
fit_for _ x y = both_numbers x y

-- a comparison asks for two values that the sign compares
abbrev pub comparison_rows : Place → Compare → Option Typed → Option Typed → List FaultRow
comparison_rows p sign a b =
    row p FaultCode.Clash (is_whole a || (is_whole b || of_two a b (λ x y. not (fit_for sign x y))))
    ∷ row p FaultCode.UnitClash (of_two a b (λ x y. both_numbers x y && not (same_units (kind x) (kind y))))
    ∷ row p FaultCode.Wide (of_two a b (λ x y. is_wide (joined (size x) (size y))))
    ∷ []

-- the typed form of a comparison
abbrev pub comparison_typed : Place → Compare → Option Typed → Option Typed → Option Typed
comparison_typed p sign a b = unless (comparison_rows p sign a b) (on_two a b (λ x y. Relation (truth_at (place_of x)) sign x y))

-- `in` compares a value with each part of a range or list: with the ends of a range as `<=`, with the items of a list as `==`
abbrev pub fits_in : Typed → Typed → Bool
fits_in x (Span i low high) = both_numbers x low && both_numbers x high
fits_in x (Listed i is_field items) = not (list_any (λ y. not (are_alike (kind x) (kind y))) (items_of items))
fits_in x _ = false

-- what can stand on the right of `in`
abbrev pub is_range_or_list : Typed → Bool
is_range_or_list (Span i low high) = true
is_range_or_list (Listed i is_field items) = true
is_range_or_list _ = false

-- `in` asks for a value, and for a range or list of such values
abbrev pub within_rows : Place → Option Typed → Option Typed → List FaultRow
within_rows p a b =
    row p FaultCode.Clash (is_whole a || (of_one b (λ y. not (is_range_or_list y)) || of_two a b (λ x y. not (fits_in x y))))
    ∷ row p FaultCode.UnitClash (of_two a b (λ x y. list_any (λ z. both_numbers x z && not (same_units (kind x) (kind z))) (parts_of y)))
    ∷ row p FaultCode.Wide (of_two a b (λ x y. list_any (λ z. is_wide (joined (size x) (size z))) (parts_of y)))
    ∷ []

-- the typed form of `in`
abbrev pub within_typed : Place → Option Typed → Option Typed → Option Typed
within_typed p a b = unless (within_rows p a b) (on_two a b (λ x y. Within (truth_at (place_of x)) x y))

-- the comparison of a sign other than `in`
abbrev pub compare_of : RelationSign → Option Compare
compare_of RelationSign.Equal = Some Compare.Equal
compare_of RelationSign.Differ = Some Compare.Differ
compare_of RelationSign.Below = Some is_below
compare_of RelationSign.AtMost = Some Compare.AtMost
compare_of RelationSign.Above = Some Compare.Above
compare_of RelationSign.AtLeast = Some Compare.AtLeast
compare_of RelationSign.Within = None

-- the faults of a relation
abbrev pub relation_rows : Place → RelationSign → Option Typed → Option Typed → List FaultRow
relation_rows p sign a b = option_map_or (λ c. comparison_rows p c a b) (compare_of sign) (within_rows p a b)

-- the typed form of a relation
abbrev pub relation_typed : Place → RelationSign → Option Typed → Option Typed → Option Typed
relation_typed p sign a b = option_map_or (λ c. comparison_typed p c a b) (compare_of sign) (within_typed p a b)

-- Ranges, lists and elements

-- a part of a range or list is one value
abbrev pub part_rows : Option Typed → List FaultRow
part_rows a = option_map_or (λ x. row (place_of x) FaultCode.Clash (not (is_scalar x)) ∷ []) a []

-- the ends of a range
abbrev pub span_rows : Option Typed → Option Typed → List FaultRow
span_rows a b = part_rows a ++ part_rows b

-- the typed form of a range
abbrev pub span_typed : Place → Option Typed → Option Typed → Option Typed
span_typed p a b = unless (span_rows a b) (on_two a b (λ x y. Span (info_at p (kind x) unit_size) x y))

-- a row with an item more, if both have a kind
abbrev pub item_typed : Option Typed → Option TypedRow → Option TypedRow
item_typed a row = option_and_then (λ x. option_map (λ others. Item x others) row) (unless (part_rows a) a)

-- the kind of a list is that of its first item
abbrev pub row_kind : TypedRow → ValueKind
row_kind End = plain
row_kind (Item item others) = kind item

-- the typed form of a list
abbrev pub list_typed : Place → Option TypedRow → Option Typed
list_typed p row = option_map (λ items. Listed (info_at p (row_kind items) unit_size) false items) row

-- the number in brackets after a list, if it is a whole number literal
abbrev pub index_of : ExprTree → Option ℕ
index_of (ExprTree.Number d) = cond (nat_eq d.places 0) (Some d.digits) None
index_of _ = None

-- the element of a list field
abbrev pub element : ℕ → Typed → Option Typed
element n (Listed i true items) = slice_get (items_of items) n
element n _ = None

-- an index is a whole number literal, and one of the numbers of the elements of a list field
abbrev pub index_rows : Place → Option Typed → ExprTree → List FaultRow
index_rows p head index =
    row p FaultCode.NotConstant (is_none (index_of index))
    ∷ row p FaultCode.Index (option_map_or (λ n. of_one head (λ h. is_none (element n h))) (index_of index) false)
    ∷ []

-- the typed form of an element
abbrev pub index_typed : Option Typed → ExprTree → Option Typed
index_typed head index = option_and_then (λ n. option_and_then (λ h. option_map (begun_at (place_of h)) (element n h)) head) (index_of index)

-- Brackets

-- an expression in brackets begins where its bracket does
abbrev pub group_typed : Place → Option Typed → Option Typed
group_typed p a = on_one a (begun_at p)
