-- What the program's own scopes stand for in the definitions.
use Rattle.std.specs.Prelude.{ℕ, ℤ, true, cond, not, List, [], Option, Some, None, option_copied, option_map, option_and_then, map}
use Rattle.type_model.specs.osc_base.declared.fault.Place.{Place}
use Rattle.type_model.specs.osc_base.declared.path.Path.{Path}
use Rattle.type_model.specs.osc_base.LowestTerms.{lowest}
use Rattle.type_model.specs.dsl_tree.declared.parts.Digits.{Digits}
use Rattle.type_model.specs.units_si.Literals.{literal_count}
use Rattle.type_model.specs.type_heads.Shown.{UnitParts}
use Rattle.type_model.specs.type_heads.Units.{digits_number}
use Rattle.type_model.specs.type_heads.Form.{Form}
use Rattle.type_model.specs.type_heads.Table.{has_members}
use Rattle.expr_nodes.specs.declared.scope.It.{It}
use Rattle.expr_nodes.specs.declared.labels.Label.{Label}
use Rattle.expr_nodes.specs.declared.labels.LabelTable.{LabelTable}
use Rattle.expr_nodes.specs.declared.scope.Scope.{Scope}
use Rattle.expr_nodes.specs.declared.ways.Turn.{Turn}
use Rattle.expr_nodes.specs.Ways.{leads_into}
use Rattle.expr_nodes.specs.Kinds.{ValueKind, kind_of}
use Rattle.expr_nodes.specs.Operators.{constant_at, is_long}
use Rattle.expr_nodes.specs.Typed.{Typed, Whole, Read, Listed}
use Rattle.expr_nodes.specs.Sizes.{info_at, unit_size, field_size}
use Rattle.expr_nodes.specs.Scope as Scopes
use Rattle.expr_nodes.specs.Names.{per_of, elements_from}
use Rattle.expr_nodes.specs.Seen.{seen_made}

-- what `it` stands for
abbrev pub seen_it : It → Scopes.It
seen_it (It.Of f) = Scopes.It.Of f.of f.length
seen_it It.Unresolved = Scopes.It.Unresolved

-- a label, as it is seen from a way
abbrev pub seen_label : List Turn → Label → Scopes.Label
seen_label way l = record { name = l.name; path = l.path; made = seen_made l.made; hidden = not (leads_into way l.way) }

-- the labels of a table, or none
abbrev pub labels_in : Option LabelTable → List Label
labels_in None = []
labels_in (Some t) = t.labels.items

-- a scope
abbrev pub seen_scope : Scope → Scopes.Scope
seen_scope s = record { holder = s.holder; it = option_map seen_it s.it; labels = map (seen_label s.way.now) (labels_in (option_copied s.labels)) }

-- a field of one value or object, whose type is of that form
abbrev pub single_in : Place → Path → ℕ → Form → Option Typed
single_in place path t f = option_map (λ k. cond (has_members f) (Whole (info_at place k unit_size) path) (Read (info_at place k (field_size (per_of f))) path (per_of f))) (kind_of t f)

-- a list field whose elements are of that form
abbrev pub list_in : Place → Path → ℕ → Form → ℕ → Option Typed
list_in place path t f count = option_map (λ k. Listed (info_at place k unit_size) true (elements_from 0 count (λ p. Read (info_at place k (field_size (per_of f))) p (per_of f)) path)) (kind_of t f)

-- a number in a unit, in thousandths of the base unit
abbrev pub count_of : Digits → UnitParts → Option ℤ
count_of d u = cond (is_long d) None (literal_count (digits_number d) u.factor u.offset)

-- the typed form of a number in a unit
abbrev pub physical_of : Digits → UnitParts → Option Typed
physical_of d u = option_and_then (λ x. option_map (λ n. constant_at d.place (ValueKind.Number x) (lowest n 1000)) (count_of d u)) u.exponents
