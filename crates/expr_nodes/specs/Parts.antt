-- Parts of an expression that may have a fault. A part with a fault has no kind, and no rule that needs its kind applies.
use Rattle.std.specs.Prelude.{Bool, true, false, not, cond, ◌&&◌, List, [], ◌∷◌, Option, Some, None}
use Rattle.std.specs.List.{list_any}
use Rattle.type_model.specs.osc_base.FaultRows.{FaultRow}
use Rattle.expr_nodes.specs.Kinds.{is_number}
use Rattle.expr_nodes.specs.Typed.{Typed, Whole, Listed, Span, kind, items_of}

-- a test of a part that has a kind, and of two that have
abbrev pub of_one : Option Typed → (Typed → Bool) → Bool
of_one None test = false
of_one (Some x) test = test x

-- a test of two parts that have kinds
abbrev pub of_two : Option Typed → Option Typed → (Typed → Typed → Bool) → Bool
of_two (Some x) (Some y) test = test x y
of_two _ _ test = false

-- what is made of a part that has a kind, and of two that have
abbrev pub on_one : Option Typed → (Typed → Typed) → Option Typed
on_one None make = None
on_one (Some x) make = Some (make x)

-- what is made of two parts that have kinds
abbrev pub on_two : Option Typed → Option Typed → (Typed → Typed → Typed) → Option Typed
on_two (Some x) (Some y) make = Some (make x y)
on_two _ _ make = None

-- one of the faults is there
abbrev pub any_holds : List FaultRow → Bool
any_holds rows = list_any (λ (r : FaultRow). r.holds) rows

-- nothing, if one of the faults is there
abbrev pub unless : List FaultRow → Option Typed → Option Typed
unless rows t = cond (any_holds rows) None t

-- one value: no whole object or phase, no list and no range
abbrev pub is_scalar : Typed → Bool
is_scalar (Whole i path) = false
is_scalar (Listed i is_field items) = false
is_scalar (Span i low high) = false
is_scalar _ = true

-- something else than one value stands at a place that asks for one
abbrev pub is_whole : Option Typed → Bool
is_whole t = of_one t (λ x. not (is_scalar x))

-- both are numbers
abbrev pub both_numbers : Typed → Typed → Bool
both_numbers x y = is_number (kind x) && is_number (kind y)

-- the ends of a range, and the items of a list
abbrev pub parts_of : Typed → List Typed
parts_of (Span i low high) = low ∷ high ∷ []
parts_of (Listed i is_field items) = items_of items
parts_of _ = []
