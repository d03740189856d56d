-- Tests of the ends of a range, one by one.
use Rattle.std.proofs.Common.{◌≡◌, ◌∙◌, refl, sym, ap, ap₂, ◌&&◌, ◌||◌, Bool, true, false, not, List, [], ◌∷◌, Option, Some, map}
use Rattle.std.specs.List.{list_any}
use Rattle.osc_base.specs.declared.fault.Place.{Place}
use Rattle.osc_base.specs.declared.fault.Fault.{Fault}
use Rattle.osc_base.specs.declared.fault.FaultCode.{FaultCode}
use Rattle.osc_base.specs.FaultRows.{row, row_fault, first_of, first_from}
use Rattle.expr_nodes.specs.Kinds.{ValueKind, are_alike, is_number}
use Rattle.expr_nodes.specs.Sizes.{Size, size, joined, is_wide}
use Rattle.expr_nodes.specs.Typed.{Typed, kind, Constant, Read, Whole, Listed, Span, Minus, Not, Sum, Times, And, Or, Implies, Relation, Within}
use Rattle.expr_nodes.specs.Parts.{is_scalar}
use Rattle.expr_nodes.specs.Fits.{differs, ends_of, fit_rows, is_kind, is_span, sizes_of}
use Rattle.value_fits.specs.SpanEnds.{any_end, ends_in, range_in}

or_none : (b : Bool) → b || false ≡ b
or_none true = refl
or_none false = refl

-- a test of the value itself, or of the ends of a range
pub any_is : (test : Typed → Bool) (t : Typed) → any_end test t (ends_in t) ≡ list_any test (ends_of t)
any_is test (Span i low high) = ap (λ b. test low || b) (sym (or_none (test high)))
any_is test (Constant i number) = sym (or_none _)
any_is test (Read i path per) = sym (or_none _)
any_is test (Whole i path) = sym (or_none _)
any_is test (Listed i is_field items) = sym (or_none _)
any_is test (Minus i part) = sym (or_none _)
any_is test (Not i part) = sym (or_none _)
any_is test (Sum i left right) = sym (or_none _)
any_is test (Times i left right) = sym (or_none _)
any_is test (And i left right) = sym (or_none _)
any_is test (Or i left right) = sym (or_none _)
any_is test (Implies i left right) = sym (or_none _)
any_is test (Relation i sign left right) = sym (or_none _)
any_is test (Within i left right) = sym (or_none _)

any_image : {X Y : Type 0} (f : X → Y) (test : Y → Bool) (xs : List X) → list_any (λ x. test (f x)) xs ≡ list_any test (map f xs)
any_image f test [] = refl
any_image f test (x ∷ xs) = ap (λ b. test (f x) || b) (any_image f test xs)

both_numbers : (k a b : Bool) → (k && (a && b)) ≡ (true && (k && not (not a || (not b || false))))
both_numbers k true true = refl
both_numbers k true false = refl
both_numbers k false true = refl
both_numbers k false false = refl

-- a range of numbers
pub range_is : (k : ValueKind) (t : Typed) → range_in k (ends_in t) ≡ (is_span t && (is_number k && not (list_any (λ e. not (is_number (kind e))) (ends_of t))))
range_is k (Span i low high) = both_numbers (is_number k) (is_number (kind low)) (is_number (kind high))
range_is k (Constant i number) = refl
range_is k (Read i path per) = refl
range_is k (Whole i path) = refl
range_is k (Listed i is_field items) = refl
range_is k (Minus i part) = refl
range_is k (Not i part) = refl
range_is k (Sum i left right) = refl
range_is k (Times i left right) = refl
range_is k (And i left right) = refl
range_is k (Or i left right) = refl
range_is k (Implies i left right) = refl
range_is k (Relation i sign left right) = refl
range_is k (Within i left right) = refl

-- the rows of a value that is known
pub known_rows : (first clash other last : Option Fault) (ranges is apart wide : Bool) (k : ValueKind) (s : Size) (p : Place) (t : Typed) →
    is ≡ (is_scalar t && are_alike k (kind t) || (ranges && range_in k (ends_in t))) → clash ≡ first_of first (row_fault (row p FaultCode.Clash (not is))) →
    apart ≡ any_end (differs k) t (ends_in t) → other ≡ first_of clash (row_fault (row p FaultCode.UnitClash apart)) →
    wide ≡ any_end (λ x. is_wide (joined s (size x))) t (ends_in t) → last ≡ first_of other (row_fault (row p FaultCode.Wide wide)) →
    last ≡ first_from first (fit_rows ranges k s sizes_of p (Some t))
known_rows first clash other last ranges is apart wide k s p t one a two b three c =
    let rows : Bool → Bool → Bool → Option Fault = λ x y z. first_from first (row p FaultCode.Clash (not x) ∷ row p FaultCode.UnitClash y ∷ row p FaultCode.Wide z ∷ []) in
    c ∙ ap (λ f. first_of f (row_fault (row p FaultCode.Wide wide))) (b ∙ ap (λ f. first_of f (row_fault (row p FaultCode.UnitClash apart))) a)
    ∙ ap (λ x. rows x apart wide) (one ∙ ap (λ r. is_scalar t && are_alike k (kind t) || (ranges && r)) (range_is k t))
    ∙ ap₂ (rows (is_kind ranges k t)) (two ∙ any_is (differs k) t)
    (three ∙ any_is (λ x. is_wide (joined s (size x))) t ∙ any_image size (λ z. is_wide (joined s z)) (ends_of t))
