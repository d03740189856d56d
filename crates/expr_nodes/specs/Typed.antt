-- Typed expressions: each node with its kind, and its scale and reach as the flat language has them.
use Rattle.std.specs.Prelude.{ℕ, Bool, List, [], ◌∷◌, ◌++◌}
use Rattle.type_model.specs.osc_base.declared.fault.Place.{Place}
use Rattle.type_model.specs.osc_base.declared.path.Path.{Path}
use Rattle.type_model.specs.osc_base.Number.{Number}
use Rattle.expr_nodes.specs.declared.compare.Compare.{Compare}
use Rattle.expr_nodes.specs.Kinds.{ValueKind}

-- Where an expression begins, its kind, the scale at which its value is whole, and how great it is at that scale at most. The kind of a range
-- or list is that of its parts.
pub record Info : Type 0 where
  pub place : Place
  pub kind : ValueKind
  pub scale : ℕ
  pub reach : ℕ

-- A constant; what is held at a path, over `per`; a whole object or phase; a list field or a written list; a range; and the operators. A
-- difference is a sum with a minus, a division a product with a constant, and `in` has a range or a list on its right.
mutual
  pub data Typed : Type 0 where
    Constant : (info : Info) (number : Number) → Typed
    Read : (info : Info) (path : Path) (per : ℕ) → Typed
    Whole : (info : Info) (path : Path) → Typed
    Listed : (info : Info) (is_field : Bool) (items : TypedRow) → Typed
    Span : (info : Info) (low high : Typed) → Typed
    Minus : (info : Info) (part : Typed) → Typed
    Not : (info : Info) (part : Typed) → Typed
    Sum : (info : Info) (left right : Typed) → Typed
    Times : (info : Info) (left right : Typed) → Typed
    And : (info : Info) (left right : Typed) → Typed
    Or : (info : Info) (left right : Typed) → Typed
    Implies : (info : Info) (left right : Typed) → Typed
    Relation : (info : Info) (sign : Compare) (left right : Typed) → Typed
    Within : (info : Info) (left right : Typed) → Typed

  -- the items of a list, in order
  pub data TypedRow : Type 0 where
    End : TypedRow
    Item : (item : Typed) (others : TypedRow) → TypedRow

-- a row as a list
abbrev pub items_of : TypedRow → List Typed
items_of End = []
items_of (Item item others) = item ∷ items_of others

-- a list as a row
abbrev pub row_of : List Typed → TypedRow
row_of [] = End
row_of (item ∷ others) = Item item (row_of others)

-- what a node holds of itself
abbrev pub info : Typed → Info
info (Constant i number) = i
info (Read i path per) = i
info (Whole i path) = i
info (Listed i is_field items) = i
info (Span i low high) = i
info (Minus i part) = i
info (Not i part) = i
info (Sum i left right) = i
info (Times i left right) = i
info (And i left right) = i
info (Or i left right) = i
info (Implies i left right) = i
info (Relation i sign left right) = i
info (Within i left right) = i

-- the expression, said to begin at another place
abbrev pub begun_at : Place → Typed → Typed
begun_at p (Constant i number) = Constant (record i { place = p }) number
begun_at p (Read i path per) = Read (record i { place = p }) path per
begun_at p (Whole i path) = Whole (record i { place = p }) path
begun_at p (Listed i is_field items) = Listed (record i { place = p }) is_field items
begun_at p (Span i low high) = Span (record i { place = p }) low high
begun_at p (Minus i part) = Minus (record i { place = p }) part
begun_at p (Not i part) = Not (record i { place = p }) part
begun_at p (Sum i left right) = Sum (record i { place = p }) left right
begun_at p (Times i left right) = Times (record i { place = p }) left right
begun_at p (And i left right) = And (record i { place = p }) left right
begun_at p (Or i left right) = Or (record i { place = p }) left right
begun_at p (Implies i left right) = Implies (record i { place = p }) left right
begun_at p (Relation i sign left right) = Relation (record i { place = p }) sign left right
begun_at p (Within i left right) = Within (record i { place = p }) left right

-- where an expression begins
abbrev pub place_of : Typed → Place
place_of t = (info t).place

-- its kind
abbrev pub kind : Typed → ValueKind
kind t = (info t).kind

-- its scale
abbrev pub scale : Typed → ℕ
scale t = (info t).scale

-- its reach
abbrev pub reach : Typed → ℕ
reach t = (info t).reach

-- the paths that an expression reads, from left to right
abbrev mutual
  pub reads : Typed → List Path
  reads (Constant i number) = []
  reads (Read i path per) = path ∷ []
  reads (Whole i path) = path ∷ []
  reads (Listed i is_field items) = reads_of items
  reads (Span i low high) = reads low ++ reads high
  reads (Minus i part) = reads part
  reads (Not i part) = reads part
  reads (Sum i left right) = reads left ++ reads right
  reads (Times i left right) = reads left ++ reads right
  reads (And i left right) = reads left ++ reads right
  reads (Or i left right) = reads left ++ reads right
  reads (Implies i left right) = reads left ++ reads right
  reads (Relation i sign left right) = reads left ++ reads right
  reads (Within i left right) = reads left ++ reads right

  pub reads_of : TypedRow → List Path
  reads_of End = []
  reads_of (Item item others) = reads item ++ reads_of others

-- the expression with each path that it reads changed
abbrev mutual
  pub moved : (Path → Path) → Typed → Typed
  moved to (Constant i number) = Constant i number
  moved to (Read i path per) = Read i (to path) per
  moved to (Whole i path) = Whole i (to path)
  moved to (Listed i is_field items) = Listed i is_field (moved_row to items)
  moved to (Span i low high) = Span i (moved to low) (moved to high)
  moved to (Minus i part) = Minus i (moved to part)
  moved to (Not i part) = Not i (moved to part)
  moved to (Sum i left right) = Sum i (moved to left) (moved to right)
  moved to (Times i left right) = Times i (moved to left) (moved to right)
  moved to (And i left right) = And i (moved to left) (moved to right)
  moved to (Or i left right) = Or i (moved to left) (moved to right)
  moved to (Implies i left right) = Implies i (moved to left) (moved to right)
  moved to (Relation i sign left right) = Relation i sign (moved to left) (moved to right)
  moved to (Within i left right) = Within i (moved to left) (moved to right)

  pub moved_row : (Path → Path) → TypedRow → TypedRow
  moved_row to End = End
  moved_row to (Item item others) = Item (moved to item) (moved_row to others)
