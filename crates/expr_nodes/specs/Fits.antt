-- Values that are given to something of a known kind: arguments, initial values, durations, and what a modifier compares with. Each is judged
-- at its first token.
use Rattle.std.specs.Prelude.{◌&&◌, ◌||◌, Bool, true, false, not, List, [], ◌∷◌, Option, map}
use Rattle.std.specs.List.{list_any}
use Rattle.type_model.specs.osc_base.declared.fault.Place.{Place}
use Rattle.type_model.specs.osc_base.declared.fault.FaultCode.{FaultCode}
use Rattle.type_model.specs.osc_base.FaultRows.{FaultRow, row}
use Rattle.type_model.specs.osc_base.LowestTerms.{lcm}
use Rattle.expr_nodes.specs.Kinds.{ValueKind, seconds, is_number, is_truth, same_units, are_alike}
use Rattle.expr_nodes.specs.Typed.{Typed, Read, Span, kind}
use Rattle.expr_nodes.specs.Sizes.{Size, size, widened, joined, duration_size, is_wide}
use Rattle.expr_nodes.specs.Parts.{of_one, is_scalar}

-- the value itself, or the ends of a range
abbrev pub ends_of : Typed → List Typed
ends_of (Span i low high) = low ∷ high ∷ []
ends_of t = t ∷ []

-- the ends of a range at one scale
abbrev pub end_sizes : Typed → List Size
end_sizes (Span i low high) =
    let common = lcm (size low).scale (size high).scale in
    widened common (size low) ∷ widened common (size high) ∷ []
end_sizes t = size t ∷ []

-- a range
abbrev pub is_span : Typed → Bool
is_span (Span i low high) = true
is_span _ = false

-- one value of the kind; a range of numbers too, if ranges are allowed
abbrev pub is_kind : Bool → ValueKind → Typed → Bool
is_kind ranges k t = (is_scalar t && are_alike k (kind t)) || (ranges && (is_span t && (is_number k && not (list_any (λ e. not (is_number (kind e))) (ends_of t)))))

-- both are numbers, and their units differ in more than a factor
abbrev pub differs : ValueKind → Typed → Bool
differs k t = is_number k && (is_number (kind t) && not (same_units k (kind t)))

-- a value that is given to something of that kind and size, with the sizes of its ends
abbrev pub fit_rows : Bool → ValueKind → Size → (Typed → List Size) → Place → Option Typed → List FaultRow
fit_rows ranges k s sizes p t =
    row p FaultCode.Clash (of_one t (λ x. not (is_kind ranges k x)))
    ∷ row p FaultCode.UnitClash (of_one t (λ x. list_any (differs k) (ends_of x)))
    ∷ row p FaultCode.Wide (of_one t (λ x. list_any (λ z. is_wide (joined s z)) (sizes x)))
    ∷ []

-- the sizes of a value or of the ends of a range, each at its own scale
abbrev pub sizes_of : Typed → List Size
sizes_of t = map size (ends_of t)

-- an argument for a field of one value
abbrev pub argument_fit_rows : ValueKind → Size → Place → Option Typed → List FaultRow
argument_fit_rows k s p t = fit_rows true k s sizes_of p t

-- an initial value, or that of an element of a list
abbrev pub initial_fit_rows : ValueKind → Size → Place → Option Typed → List FaultRow
initial_fit_rows k s p t = fit_rows false k s sizes_of p t

-- a stated duration
abbrev pub duration_fit_rows : Place → Option Typed → List FaultRow
duration_fit_rows p t = fit_rows true seconds duration_size sizes_of p t

-- the scale and reach of the samples with which a modifier compares, for each of its kinds
abbrev pub sample_size : Size
sample_size = record { scale = 1000000; reach = 2000000000000 }

-- a value or range of a modifier
abbrev pub modifier_fit_rows : ValueKind → Place → Option Typed → List FaultRow
modifier_fit_rows k p t = fit_rows true k sample_size end_sizes p t

-- a constraint is a truth value
abbrev pub constraint_rows : Place → Option Typed → List FaultRow
constraint_rows p t = row p FaultCode.Clash (of_one t (λ x. not (is_scalar x && is_truth (kind x)))) ∷ []

-- one value that is read at a path
abbrev pub is_read : Typed → Bool
is_read (Read i path per) = true
is_read _ = false
