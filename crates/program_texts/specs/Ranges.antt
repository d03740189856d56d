-- What a field of a type may hold, by the type's kind.
use Rattle.std.specs.Prelude.{List, Option, Some, None, Bool, true, false, pos, ℤ, map}
use Rattle.std.specs.Borrow.{Bor}
use Rattle.dsl_tree.specs.declared.expr.Expr.{Expr}
use Rattle.dsl_tree.specs.ExprTree.{ExprTree, items_of}
use Rattle.dsl_tree.specs.Views.{expr_tree}
use Rattle.program_calls.specs.type_heads.declared.kinds.TypeKind.{TypeKind}
use Rattle.program_calls.specs.expr_nodes.Sizes.{field_reach}
use Rattle.program_calls.specs.composition.declared.spot.ValueRange.{ValueRange}
use Rattle.program_calls.specs.composition.Ranges.{signed_range}

-- the range of a type of that kind, given the numbers of an enum
abbrev pub range_by : TypeKind → List ℤ → Option ValueRange
range_by TypeKind.Int numbers = Some signed_range
range_by TypeKind.Uint numbers = Some (ValueRange.Between (pos 0) (pos field_reach))
range_by TypeKind.Float numbers = Some signed_range
range_by TypeKind.Bool numbers = Some (ValueRange.Between (pos 0) (pos 1))
range_by TypeKind.Chars numbers = Some ValueRange.Chars
range_by (TypeKind.Physical exponents) numbers = Some signed_range
range_by TypeKind.Enum numbers = Some (ValueRange.Among numbers)
range_by TypeKind.Struct numbers = None
range_by TypeKind.Actor numbers = None
range_by TypeKind.Action numbers = None
range_by TypeKind.Scenario numbers = None

-- a type of that kind has objects
abbrev pub object_kind : TypeKind → Bool
object_kind TypeKind.Struct = true
object_kind TypeKind.Actor = true
object_kind _ = false

-- a type of that kind is a scenario
abbrev pub scenario_kind : TypeKind → Bool
scenario_kind TypeKind.Scenario = true
scenario_kind _ = false

-- the items of a list
abbrev pub listed_items : ExprTree → Option (List ExprTree)
listed_items (ExprTree.Listed place items) = Some (items_of items)
listed_items _ = None

-- some expressions
abbrev pub seen_exprs : Bor (List Expr) → List ExprTree
seen_exprs es = map expr_tree es.now
