-- Whether the numbers in the rules of constraints and modifiers stay within the limit of scales and reaches.
use Rattle.std.specs.Prelude.{◌≡◌, ℕ, ◌≤◌, ◌^◌, Bool, true, Option}
use Rattle.std.specs.Option.{option_map_or}
use Rattle.osc_base.specs.LowestTerms.{lcm}
use Rattle.scene_slots.specs.modifier_rules.Relations.{position_scale}
use Rattle.scene_conditions.specs.expr_nodes.Typed.{Typed}
use Rattle.scene_conditions.specs.composition.Scenes.{ModifierSpot}
use Rattle.scene_slots.specs.field_flatten.Rules.{scale_of}
use Rattle.scene_slots.specs.field_flatten.Seen.{has_values}
use Rattle.scene_slots.specs.flat_shapes.Room.{has_room}

-- an expression has room at a scale, if there is one
abbrev pub has_part : ℕ → Option Typed → Bool
has_part e typed = option_map_or (has_room e) typed true

-- the rule of an expression has room, if there is one
abbrev pub has_rule : Option Typed → Bool
has_rule typed = has_part 1 typed

-- the scale at which the ends of a modifier's range stand
abbrev pub range_scale : ModifierSpot → ℕ
range_scale m = lcm position_scale (lcm (scale_of m.low) (scale_of m.high))

-- each part of an expression is a value, if there is one
abbrev pub are_values : Option Typed → Bool
are_values typed = option_map_or has_values typed true

-- both ends of a modifier's range have room at that scale, and no scale passes the limit
pub record HasRoom (m : ModifierSpot) : Type 0 where
  pub ends : lcm (scale_of m.low) (scale_of m.high) ≤ 2 ^ 120
  pub range : range_scale m ≤ 2 ^ 120
  pub common : lcm position_scale (range_scale m) ≤ 2 ^ 120
  pub low : has_part (range_scale m) m.low ≡ true
  pub high : has_part (range_scale m) m.high ≡ true
