-- What a point gives an expression.
use Rattle.std.specs.Prelude.{◌&&◌, Bool, true, false, List, ℤ, pos}
use Rattle.osc_base.specs.declared.path.Path.{Path}
use Rattle.osc_base.specs.declared.listing.SlotName.{SlotName}
use Rattle.box_eval.specs.Box.{value_of}
use Rattle.box_eval.specs.FlatRules.{worth_at}
use Rattle.composition.specs.expr_nodes.Kinds.{is_number}
use Rattle.composition.specs.expr_nodes.Typed.{Typed, Constant, Read, Whole, Listed, Span, Minus, Not, Sum, Times, And, Or, Implies, Relation, Within, TypedRow, End, Item}
use Rattle.composition.specs.Scenes.{Source, OfRun, OfPhase, OfValue}
use Rattle.composition.specs.Numbers.{thousandths}
use Rattle.field_flatten.specs.Shapes.{Layout}

-- each part is a value: no whole object or phase stands in it, and a product is a number
abbrev mutual
  pub has_values : Typed → Bool
  has_values (Constant i number) = true
  has_values (Read i path per) = true
  has_values (Whole i path) = false
  has_values (Listed i is_field items) = have_values items
  has_values (Span i low high) = has_values low && has_values high
  has_values (Minus i part) = has_values part
  has_values (Not i part) = has_values part
  has_values (Sum i left right) = has_values left && has_values right
  has_values (Times i left right) = is_number i.kind && (has_values left && has_values right)
  has_values (And i left right) = has_values left && has_values right
  has_values (Or i left right) = has_values left && has_values right
  has_values (Implies i left right) = has_values left && has_values right
  has_values (Relation i sign left right) = has_values left && has_values right
  has_values (Within i left right) = has_values left && has_values right

  -- the same of each item of a list
  pub have_values : TypedRow → Bool
  have_values End = true
  have_values (Item item others) = has_values item && have_values others

-- the number that a point gives what is read at a path
abbrev pub source_value : Layout → List ℤ → Path → Source → ℤ
source_value at point path OfRun = thousandths at.tick (pos 0) (worth_at point at.end)
source_value at point path (OfPhase phase) =
    thousandths at.tick (value_of point (at.slot (SlotName.Start phase))) (value_of point (at.slot (SlotName.End phase)))
source_value at point path OfValue = value_of point (at.slot (SlotName.Value path))

-- the number that a point gives a path
abbrev pub seen : Layout → List ℤ → Path → ℤ
seen at point path = source_value at point path (at.source path)
