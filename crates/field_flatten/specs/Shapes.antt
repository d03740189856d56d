-- The terms and rules of typed expressions.
use Rattle.std.specs.Prelude.{ℕ, ◌*◌, ◌/◌, List, [], ◌∷◌, ◌++◌, map, cond, unsigned_abs, pos, ◌*ℤ◌}
use Rattle.osc_base.specs.declared.path.Path.{Path}
use Rattle.osc_base.specs.declared.listing.SlotName.{SlotName}
use Rattle.osc_base.specs.Number.{Number}
use Rattle.osc_base.specs.LowestTerms.{lcm}
use Rattle.box_eval.specs.FlatRules.{FlatTerm, FlatRule, joined, times, all_of, any_of}
use Rattle.box_eval.specs.FlatRules as Flat
use Rattle.composition.specs.expr_nodes.declared.compare.Compare.{Compare}
use Rattle.composition.specs.expr_nodes.Typed.{Typed, Constant, Read, Whole, Listed, Span, Minus, Not, Sum, Times, And, Or, Implies, Relation, Within, TypedRow, End, Item}
use Rattle.composition.specs.expr_nodes.Value.{is_one}
use Rattle.composition.specs.Scenes.{Source, OfRun, OfPhase, OfValue}

-- What the slots of a scene are called by: the slot of each name, what is read at each path, the term of the run's end, and the length of a
-- tick in milliseconds.
pub record Layout : Type 0 where
  pub slot : SlotName → ℕ
  pub source : Path → Source
  pub end : FlatTerm
  pub tick : ℕ

-- The shape of an expression: its scale, its term at each multiple of that, its rule if it is a truth value, and, if it is a range or a list, the
-- rule that a term with a scale of its own is in it. Then the rows that it goes on with as the left part of a larger one: what it is the sum of, at
-- each multiple of its scale; what it is the product of, at its own scale; the rules that all hold, and those of which one holds. An expression
-- that is no such row is the only part of it.
pub record Shape : Type 0 where
  pub scale : ℕ
  pub term : ℕ → FlatTerm
  pub rule : FlatRule
  pub holding : ℕ → (ℕ → FlatTerm) → FlatRule
  pub summands : ℕ → List FlatTerm
  pub factors : List FlatTerm
  pub conjuncts : List FlatRule
  pub disjuncts : List FlatRule

-- nothing is in what is no range or list
abbrev pub in_nothing : ℕ → (ℕ → FlatTerm) → FlatRule
in_nothing d term = Flat.Not Flat.Always

-- an expression that is no row
abbrev pub of_one : ℕ → (ℕ → FlatTerm) → FlatRule → Shape
of_one d term rule = record {
  scale = d;
  term = term;
  rule = rule;
  holding = in_nothing;
  summands = λ e. term e ∷ [];
  factors = term d ∷ [];
  conjuncts = rule ∷ [];
  disjuncts = rule ∷ [];
}

-- a truth value: as a number it is 1 or 0
abbrev pub of_rule : FlatRule → Shape
of_rule rule = of_one 1 (λ e. times e (Flat.Truth rule)) rule

-- a number: as a truth value it is true if it is 1
abbrev pub of_term : ℕ → (ℕ → FlatTerm) → Shape
of_term d term = of_one d term (Flat.Equal (term 1) (Flat.Whole (pos 1)))

-- ---- rows

-- the sum of a row, by joining neighbours
abbrev pub sum_of : List FlatTerm → FlatTerm
sum_of row = joined Flat.Sum (Flat.Whole (pos 0)) row

-- the product of a row, by joining neighbours
abbrev pub product_of : List FlatTerm → FlatTerm
product_of row = joined Flat.Times (Flat.Whole (pos 1)) row

-- the sum of a row at each multiple of a scale
abbrev pub of_sum : ℕ → (ℕ → List FlatTerm) → Shape
of_sum d row = record (of_term d (λ e. sum_of (row e))) { summands = row }

-- the product of a row, each at its own scale, widened once
abbrev pub of_product : ℕ → List FlatTerm → Shape
of_product d row = record (of_term d (λ e. times (e / d) (product_of row))) { factors = row }

-- all of a row
abbrev pub of_all : List FlatRule → Shape
of_all row = record (of_rule (all_of row)) { conjuncts = row }

-- one of a row
abbrev pub of_any : List FlatRule → Shape
of_any row = record (of_rule (any_of row)) { disjuncts = row }

-- ---- numbers

-- a constant at a multiple of its denominator
abbrev pub constant_term : Number → ℕ → FlatTerm
constant_term number e = Flat.Whole (number.numerator *ℤ pos (e / unsigned_abs number.denominator))

-- a constant; as a truth value it is always or never true
abbrev pub of_constant : ℕ → Number → Shape
of_constant d number = of_one d (constant_term number) (cond (is_one number) Flat.Always (Flat.Not Flat.Always))

-- the start of a phase
abbrev pub phase_start : Layout → Path → FlatTerm
phase_start at path = Flat.Slot (at.slot (SlotName.Start path))

-- the end of a phase
abbrev pub phase_end : Layout → Path → FlatTerm
phase_end at path = Flat.Slot (at.slot (SlotName.End path))

-- what is held at a path, over `per`, at scale e
abbrev pub read_term : Layout → Path → ℕ → Source → ℕ → FlatTerm
read_term at path per OfRun e = times (e / per * at.tick) at.end
read_term at path per (OfPhase phase) e = times (e / per * at.tick) (Flat.Less (phase_end at phase) (phase_start at phase))
read_term at path per OfValue e = times (e / per) (Flat.Slot (at.slot (SlotName.Value path)))

-- ---- relations

-- the rule of a comparison, with the sides exchanged for `>` and `>=`
abbrev pub compared : Compare → FlatTerm → FlatTerm → FlatRule
compared Compare.Equal left right = Flat.Equal left right
compared Compare.Differ left right = Flat.Differ left right
compared Compare.Below left right = Flat.Below left right
compared Compare.AtMost left right = Flat.AtMost left right
compared Compare.Above left right = Flat.Below right left
compared Compare.AtLeast left right = Flat.AtMost right left

-- both sides at the least common multiple of their scales
abbrev pub at_common : Compare → ℕ → (ℕ → FlatTerm) → ℕ → (ℕ → FlatTerm) → FlatRule
at_common sign d left d' right = let common = lcm d d' in compared sign (left common) (right common)

-- two shapes compared
abbrev pub relation : Compare → Shape → Shape → FlatRule
relation sign a b = at_common sign a.scale a.term b.scale b.term

-- a term is between the ends of a range
abbrev pub in_span : Shape → Shape → ℕ → (ℕ → FlatTerm) → FlatRule
in_span low high d term = Flat.Both (at_common Compare.AtMost low.scale low.term d term) (at_common Compare.AtMost d term high.scale high.term)

-- a term equals some item of a list
abbrev pub in_list : List Shape → ℕ → (ℕ → FlatTerm) → FlatRule
in_list items d term = any_of (map (λ item. at_common Compare.Equal d term item.scale item.term) items)

-- ---- expressions

abbrev mutual
  pub shape : Layout → Typed → Shape
  shape at (Constant i number) = of_constant i.scale number
  shape at (Read i path per) = of_term i.scale (read_term at path per (at.source path))
  shape at (Whole i path) = of_term i.scale (λ e. Flat.Whole (pos 0))
  shape at (Listed i is_field items) = record (of_term i.scale (λ e. Flat.Whole (pos 0))) { holding = in_list (shapes at items) }
  shape at (Span i low high) = record (of_term i.scale (λ e. Flat.Whole (pos 0))) { holding = in_span (shape at low) (shape at high) }
  shape at (Minus i part) = of_term i.scale (λ e. Flat.Less (Flat.Whole (pos 0)) ((shape at part).term e))
  shape at (Not i part) = of_rule (Flat.Not (shape at part).rule)
  shape at (Sum i left right) = of_sum i.scale (λ e. (shape at left).summands e ++ (shape at right).term e ∷ [])
  shape at (Times i left right) = of_product i.scale ((shape at left).factors ++ (shape at right).term (shape at right).scale ∷ [])
  shape at (And i left right) = of_all ((shape at left).conjuncts ++ (shape at right).rule ∷ [])
  shape at (Or i left right) = of_any ((shape at left).disjuncts ++ (shape at right).rule ∷ [])
  shape at (Implies i left right) = of_rule (Flat.Either (Flat.Not (shape at left).rule) (shape at right).rule)
  shape at (Relation i sign left right) = of_rule (relation sign (shape at left) (shape at right))
  shape at (Within i left right) = of_rule ((shape at right).holding (shape at left).scale (shape at left).term)

  -- the shapes of the items of a list
  pub shapes : Layout → TypedRow → List Shape
  shapes at End = []
  shapes at (Item item others) = shape at item ∷ shapes at others
