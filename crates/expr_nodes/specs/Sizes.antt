-- Scales and reaches: a value times the scale is whole, and its magnitude is at most the reach.
use Rattle.std.specs.Prelude.{ℕ, ◌+◌, ◌*◌, ◌/◌, max, Bool, ◌||◌, unsigned_abs, nat_lt}
use Rattle.type_model.specs.osc_base.declared.fault.Place.{Place}
use Rattle.type_model.specs.osc_base.Number.{Number}
use Rattle.type_model.specs.osc_base.LowestTerms.{lcm}
use Rattle.type_model.specs.osc_base.Comparisons.{greatest_part}
use Rattle.type_model.specs.type_heads.Form.{greatest_value}
use Rattle.expr_nodes.specs.Kinds.{ValueKind}
use Rattle.expr_nodes.specs.Typed.{Typed, Info, scale, reach}

-- a scale and a reach
pub record Size : Type 0 where
  pub scale : ℕ
  pub reach : ℕ

-- the size of a typed expression
abbrev pub size : Typed → Size
size t = record { scale = scale t; reach = reach t }

-- what a node holds, given its size
abbrev pub info_at : Place → ValueKind → Size → Info
info_at place kind size = record { place = place; kind = kind; scale = size.scale; reach = size.reach }

-- the greatest magnitude of what a field holds
abbrev pub field_reach : ℕ
field_reach = greatest_value

-- the greatest duration, in thousandths of a second: 600 ticks of a second each
abbrev pub duration_reach : ℕ
duration_reach = 600000

-- durations count thousandths of a second
abbrev pub duration_scale : ℕ
duration_scale = 1000

-- a truth value that is no field, an object, a range, a list
abbrev pub unit_size : Size
unit_size = record { scale = 1; reach = 1 }

-- a constant in lowest terms
abbrev pub constant_size : Number → Size
constant_size n = record { scale = unsigned_abs n.denominator; reach = max 1 (unsigned_abs n.numerator) }

-- what a field holds, counted over a number
abbrev pub field_size : ℕ → Size
field_size per = record { scale = per; reach = field_reach }

-- a duration
abbrev pub duration_size : Size
duration_size = record { scale = duration_scale; reach = duration_reach }

-- one side of a sum or relation at a scale that its own divides
abbrev pub widened : ℕ → Size → Size
widened common s = record { scale = common; reach = s.reach * (common / s.scale) }

-- a sum, difference or relation of two
abbrev pub joined : Size → Size → Size
joined a b =
    let common = lcm a.scale b.scale in
    record { scale = common; reach = (widened common a).reach + (widened common b).reach }

-- a product of two
abbrev pub multiplied : Size → Size → Size
multiplied a b = record { scale = a.scale * b.scale; reach = a.reach * b.reach }

-- a division by a constant in lowest terms, which isn't 0
abbrev pub divided : Size → Number → Size
divided a n = record { scale = a.scale * unsigned_abs n.numerator; reach = a.reach * unsigned_abs n.denominator }

-- a scale or reach passes the limit
abbrev pub is_wide : Size → Bool
is_wide s = nat_lt greatest_part s.scale || nat_lt greatest_part s.reach
