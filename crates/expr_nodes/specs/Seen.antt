-- What the program's own types stand for in the definitions.
use Rattle.std.specs.Prelude.{List, [], ◌∷◌, Option, Some, None, cond, option_map}
use Rattle.type_model.specs.osc_base.declared.fault.Place.{Place}
use Rattle.type_model.specs.osc_base.Fraction.{value}
use Rattle.expr_nodes.specs.declared.kind.Made.{Made}
use Rattle.expr_nodes.specs.declared.kind.ValueKind.{ValueKind}
use Rattle.expr_nodes.specs.declared.size.Size.{Size}
use Rattle.expr_nodes.specs.declared.node.Info.{Info}
use Rattle.expr_nodes.specs.declared.node.Join.{Join}
use Rattle.expr_nodes.specs.declared.node.Earlier.{Earlier}
use Rattle.expr_nodes.specs.declared.node.Typed.{Typed}
use Rattle.expr_nodes.specs.declared.node.Typed.TheOpen.{Typed-F, Earlier-F}
use Rattle.expr_nodes.specs.declared.node.Typed.TheFolds.{fold-Typed, fold-Earlier}
use Rattle.expr_nodes.specs.Kinds as Kinds
use Rattle.expr_nodes.specs.Sizes as Sizes
use Rattle.expr_nodes.specs.Sizes.{is_wide}
use Rattle.expr_nodes.specs.Typed as Nodes
use Rattle.expr_nodes.specs.Typed.{row_of, place_of}
use Rattle.expr_nodes.specs.Parts.{unless, on_two}
use Rattle.expr_nodes.specs.Operators.{truth_at, logic_rows}

-- what a phase makes
abbrev pub seen_made : Made → Kinds.Made
seen_made Made.Nothing = Kinds.Made.Nothing
seen_made Made.Unknown = Kinds.Made.Unknown
seen_made (Made.Makes t) = Kinds.Made.Makes t

-- a kind
abbrev pub seen_kind : ValueKind → Kinds.ValueKind
seen_kind ValueKind.Truth = Kinds.ValueKind.Truth
seen_kind (ValueKind.Number exponents) = Kinds.ValueKind.Number exponents
seen_kind (ValueKind.Member of) = Kinds.ValueKind.Member of
seen_kind ValueKind.Chars = Kinds.ValueKind.Chars
seen_kind (ValueKind.Object of) = Kinds.ValueKind.Object of
seen_kind (ValueKind.Phase made) = Kinds.ValueKind.Phase (seen_made made)

-- a scale and a reach
abbrev pub seen_size : Size → Sizes.Size
seen_size s = record { scale = s.scale; reach = s.reach }

-- a size, if it isn't too wide
abbrev pub fitting : Sizes.Size → Option Sizes.Size
fitting s = cond (is_wide s) None (Some s)

-- what a node holds of itself
abbrev pub seen_info : Info → Nodes.Info
seen_info i = record { place = i.place; kind = seen_kind i.kind; scale = i.size.scale; reach = i.size.reach }

-- a part of a row, and what the row up to it holds of itself
pub record Reached : Type 0 where
  pub info : Nodes.Info
  pub part : Nodes.Typed

-- two parts, joined
abbrev pub joined : Join → Nodes.Info → Nodes.Typed → Nodes.Typed → Nodes.Typed
joined Join.Sum i left right = Nodes.Sum i left right
joined Join.Times i left right = Nodes.Times i left right
joined Join.And i left right = Nodes.And i left right
joined Join.Or i left right = Nodes.Or i left right

-- a row, grouped from the left
abbrev pub grouped : Join → Nodes.Typed → List Reached → Nodes.Typed
grouped join left [] = left
grouped join left (next ∷ rest) = grouped join (joined join next.info left next.part) rest

abbrev pub typed_step : Typed-F Nodes.Typed Reached → Nodes.Typed
typed_step (Typed-F.Constant info number) = Nodes.Constant (seen_info info) (value number)
typed_step (Typed-F.Read info path per) = Nodes.Read (seen_info info) path per
typed_step (Typed-F.Whole info path) = Nodes.Whole (seen_info info) path
typed_step (Typed-F.Listed info is_field items) = Nodes.Listed (seen_info info) is_field (row_of items)
typed_step (Typed-F.Span info low high) = Nodes.Span (seen_info info) low high
typed_step (Typed-F.Minus info part) = Nodes.Minus (seen_info info) part
typed_step (Typed-F.Not info part) = Nodes.Not (seen_info info) part
typed_step (Typed-F.Joined info join first earlier last) = joined join (seen_info info) (grouped join first earlier) last
typed_step (Typed-F.Implies info left right) = Nodes.Implies (seen_info info) left right
typed_step (Typed-F.Relation info sign left right) = Nodes.Relation (seen_info info) sign left right
typed_step (Typed-F.Within info left right) = Nodes.Within (seen_info info) left right

abbrev pub earlier_step : Earlier-F Nodes.Typed Reached → Reached
earlier_step e = record { info = seen_info e.info; part = e.part }

-- a typed expression
abbrev pub seen : Typed → Nodes.Typed
seen = fold-Typed Nodes.Typed Reached typed_step earlier_step

-- a part of a row
abbrev pub reached : Earlier → Reached
reached = fold-Earlier Nodes.Typed Reached typed_step earlier_step

-- a typed expression that may be missing
abbrev pub seen_part : Option Typed → Option Nodes.Typed
seen_part = option_map seen

-- the typed form of `and` and `or`
abbrev pub logic_typed : Join → Place → Option Nodes.Typed → Option Nodes.Typed → Option Nodes.Typed
logic_typed join p a b = unless (logic_rows p a b) (on_two a b (λ x y. joined join (truth_at (place_of x)) x y))
