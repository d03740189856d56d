-- Constraints and modifiers that have rules within the limit of scales and reaches.
use Rattle.std.specs.Prelude.{Bool, ◌&&◌}
use Rattle.scene_rules.specs.composition.Scenes.{Scene, Occurrence, ModifierSpot}
use Rattle.scene_rules.specs.composition.Invariants.{is_occurrence, is_modifier}
use Rattle.slot_ends.specs.field_flatten.Exactness.{is_narrow_range}
use Rattle.scene_rules.specs.Rooms.{are_values}

-- a sound constraint, each part of whose expression is a value
abbrev pub is_sound_occurrence : Scene → Occurrence → Bool
is_sound_occurrence scene o = is_occurrence scene o o.mark.strength && are_values o.typed

-- a sound modifier with a narrow range, each part of whose ends is a value
abbrev pub is_sound_modifier : Scene → ModifierSpot → Bool
is_sound_modifier scene m = is_modifier scene m && (is_narrow_range m && (are_values m.low && are_values m.high))
