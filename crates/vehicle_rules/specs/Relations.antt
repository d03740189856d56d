-- What modifiers say of two samples, by the slots that they compare.
use Rattle.std.specs.Prelude.{ℕ, Bool, true, false, Option, Some, None}
use Rattle.box_eval.specs.FlatRules.{FlatTerm, FlatRule, Whole, Slot, Sum, Equal}
use Rattle.rule_parts.specs.modifier_rules.Relations.{between, apart}
use Rattle.vehicle_rules.specs.declared.relations.Relation.{Relation}

-- what is in a slot, or how much more that is than what is in another
abbrev pub quantity_term : ℕ → Option ℕ → FlatTerm
quantity_term slot None = Slot slot
quantity_term slot (Some other) = apart slot other

-- the rule of a relation, if the range is from `low` to `high`, terms at a scale
abbrev pub relation_rule : Relation → FlatTerm → FlatTerm → ℕ → FlatRule
relation_rule (Relation.Within q) low high scale = between q.unit (quantity_term q.slot q.less) low high scale
relation_rule (Relation.Same a b) low high scale = Equal (Slot a) (Slot b)
relation_rule (Relation.Beside a b by) low high scale = Equal (Slot a) (Sum (Slot b) (Whole by))

-- a relation that asks for a range
abbrev pub is_ranged : Relation → Bool
is_ranged (Relation.Within q) = true
is_ranged (Relation.Same a b) = false
is_ranged (Relation.Beside a b by) = false
